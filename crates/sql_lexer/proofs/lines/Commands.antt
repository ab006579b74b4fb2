-- Commands of psql don't reach over a newline.
use Rattle.std.proofs.Common.{◌≡◌, ◌∙◌, ℕ, ◌+◌, ◌<◌, ◌==◌, ◌&&◌, ◌||◌, not, Some, List, [], ◌∷◌, ◌++◌, length, take, drop, arith, ap, ap₂, refl}
use Rattle.std.specs.Prelude.{slice_index, codes, if◌then◌else◌}
use Rattle.std.specs.List.{prefix_len, position_or_len, list_any}
use Rattle.std.specs.Str.{bytes_eq}
use Rattle.std.proofs.lemmas.Bool.{cond_both}
use Rattle.std.proofs.lemmas.List.{take-append-le}
use Rattle.squawk_tokens.specs.declared.token.TokenKind.TheVariants.{PsqlCommand}
use Rattle.sql_lexer.specs.declared.psql.Quote.{Quote}
use Rattle.sql_lexer.specs.declared.psql.Quote.TheVariants.{Outside}
use Rattle.sql_lexer.specs.Bytes.{is_line_end}
use Rattle.sql_lexer.specs.Lines.{EndsLine}
use Rattle.sql_lexer.specs.Rules.{token, first, when, begins}
use Rattle.sql_lexer.specs.Psql.{is_command_start, is_word_part, word, query_ends, ends_query, takes_any_line, writes, is_copy, is_blank, is_pipe, takes_line, quote_after, ends_arguments, arguments_end, arguments_len, command_len, psql_command}
use Rattle.sql_lexer.proofs.lines.LineParts.{IsInside, by_front, same_if, same_two, more_than_two, same_begins, at_place, same_behind, then_inside, run_inside}

-- ---- words

word_inside : (text rest : List ℕ) → EndsLine text → IsInside (prefix_len is_word_part) text rest
word_inside text rest ends = run_inside is_word_part text rest refl ends

same_word : (text rest : List ℕ) → EndsLine text → word (text ++ rest) ≡ word text
same_word text rest ends =
    let len = word_inside text rest ends in
    ap (λ n. take n (text ++ rest)) len.same ∙ take-append-le (prefix_len is_word_part text) text rest (omega (arith, len.within))

same_query : (text rest : List ℕ) → EndsLine text → ends_query (text ++ rest) ≡ ends_query text
same_query text rest ends = ap (λ name. list_any (bytes_eq name) query_ends) (same_word text rest ends)

same_pipe : (text rest : List ℕ) → EndsLine text → is_pipe (text ++ rest) ≡ is_pipe text
same_pipe text rest ends =
    same_behind (λ t. begins t (124 ∷ [])) (prefix_len is_blank) text rest ends (run_inside is_blank text rest refl ends) (λ left e. same_begins (124 ∷ []) left rest refl e)

same_takes : (text rest : List ℕ) → EndsLine text → takes_line (text ++ rest) ≡ takes_line text
same_takes text rest ends =
    ap₂ (λ name pipe. takes_any_line name || (writes name && pipe) || is_copy name)
    (same_word text rest ends)
    (same_behind is_pipe (prefix_len is_word_part) text rest ends (word_inside text rest ends) (λ left e. same_pipe left rest e))

-- ---- arguments

end_inside : (quote : Quote) (text rest : List ℕ) → EndsLine text → IsInside (arguments_end quote) text rest
end_inside quote text rest ends = by_front (λ t. IsInside (arguments_end quote) t rest) text ends (lines quote)
  where
    lines : (quote : Quote) (front : List ℕ) → IsInside (arguments_end quote) (front ++ 10 ∷ []) rest
    lines quote [] = record { same = refl; within = omega arith }
    lines quote (b ∷ front) =
        let left = front ++ 10 ∷ [] in
        let more = lines (quote_after quote b) front in
        record {
          same = ap (λ n. if ends_arguments quote b then 0 else 1 + n) more.same;
          within = cond_both (ends_arguments quote b) 0 (1 + arguments_end (quote_after quote b) left) (λ n. n < length (b ∷ left))
              (λ holds. omega arith)
              (λ fails. omega (arith, more.within));
        }

same_arguments : (text rest : List ℕ) → EndsLine text → arguments_len (text ++ rest) ≡ arguments_len text
same_arguments text rest ends =
    let end = end_inside Outside text rest ends in
    ap₂ (λ n marked. if marked then n + 2 else n)
    end.same
    (same_behind (λ t. begins t (codes "\\\\")) (arguments_end Outside) text rest ends end (λ left e. same_begins (codes "\\\\") left rest refl e))

-- ---- commands

same_len : (text rest : List ℕ) → EndsLine text → 1 < length text → command_len (text ++ rest) ≡ command_len text
unfolding command_len
same_len text rest ends lt =
    let longer = text ++ rest in
    let place = at_place 1 text rest lt in
    let len = λ (t : List ℕ). 1 + prefix_len is_word_part (drop 1 t) in
    let name = then_inside (λ t. 1) (prefix_len is_word_part) text rest ends place (λ left e. word_inside left rest e) in
    ap (λ takes. if takes then position_or_len is_line_end longer else len longer + arguments_len (drop (len longer) longer))
    (same_behind takes_line (λ t. 1) text rest ends place (λ left e. same_takes left rest e))
    ∙ ap₂ (λ m n. if takes_line (drop 1 text) then m else n)
    (run_inside (λ b. not (is_line_end b)) text rest refl ends).same
    (ap₂ (λ m n. m + n) name.same (same_behind arguments_len len text rest ends name (λ left e. same_arguments left rest e)))

pub same-psql_command : (text rest : List ℕ) → EndsLine text → psql_command (text ++ rest) ≡ psql_command text
same-psql_command text rest ends =
    let longer = text ++ rest in
    let is_slash = λ (b : ℕ). b == 92 in
    let begun = λ (t : List ℕ). (first t == 92) && is_command_start (slice_index t 1) in
    let found = λ (t : List ℕ). token (PsqlCommand (ends_query (drop 1 t))) (command_len t) in
    same_if (begun longer) (begun text) (λ b. when b (found longer)) (λ b. when b (found text)) (same_two is_slash refl is_command_start text rest ends)
    (λ holds.
    let two = more_than_two is_slash refl is_command_start refl text ends holds in
    let place = at_place 1 text rest (omega (arith, two)) in
    ap₂ (λ query len. Some (token (PsqlCommand query) len))
    (same_behind ends_query (λ t. 1) text rest ends place (λ left e. same_query left rest e))
    (same_len text rest ends place.within))
    refl

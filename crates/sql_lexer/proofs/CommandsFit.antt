-- Commands of psql fit.
use Rattle.std.proofs.Common.{◌≡◌, ℕ, ◌+◌, ◌-◌, ◌<◌, ◌≤◌, ◌==◌, ◌&&◌, ◌||◌, not, true, Bool, List, [], ◌∷◌, length, drop, get_or, get_or-drop, length-drop, arith, refl, sym, subst}
use Rattle.std.specs.Prelude.{IsCharBoundary, IsUtf8, codes, slice_index}
use Rattle.std.specs.List.{prefix_len, position_or_len}
use Rattle.std.proofs.lemmas.Bool.{cond_both, eqb-true, and_parts}
use Rattle.std.proofs.lemmas.Bool.Decides.{nat_tests}
use Rattle.std.proofs.lemmas.List.Sums.{prefix_len-le-length}
use Rattle.squawk_tokens.specs.declared.token.TokenKind.TheVariants.{PsqlCommand}
use Rattle.sql_lexer.specs.declared.psql.Quote.{Quote}
use Rattle.sql_lexer.specs.declared.psql.Quote.TheVariants.{Outside}
use Rattle.sql_lexer.specs.Bytes.{is_line_end}
use Rattle.sql_lexer.specs.Psql.{arguments_end, arguments_len, command_len, ends_arguments, ends_query, is_command_start, is_outside, is_word_part, psql_command, quote_after, takes_line}
use Rattle.sql_lexer.specs.Rules.{begins, first, token}
use Rattle.sql_lexer.proofs.Boundaries.{IsLead, after_ascii, before_lead}
use Rattle.sql_lexer.proofs.Fits.{RuleFits, when_fits}
use Rattle.sql_lexer.proofs.FoundEnds.{front_ends}
use Rattle.sql_lexer.proofs.RunsFit.{is_there, line_ends_lead, run_takes}

-- ---- arguments

ends_lead : (quote : Quote) (b : ℕ) → ends_arguments quote b ≡ true → IsLead b
ends_lead quote b e = cases (is_outside quote) e
  where
    cases : (outside : Bool) → (is_line_end b || ((b == 92) && outside)) ≡ true → IsLead b
    cases outside e high = grind (arith, nat_tests)

-- arguments end within the text, before a byte with which no character goes on
arguments_within : (quote : Quote) (text : List ℕ) → arguments_end quote text ≤ length text
arguments_within quote [] = omega arith
arguments_within quote (b ∷ rest) =
    cond_both (ends_arguments quote b) 0 (1 + arguments_end (quote_after quote b) rest) (λ n. n ≤ length (b ∷ rest))
    (λ e. omega arith)
    (λ e. omega (arith, arguments_within (quote_after quote b) rest))

arguments_lead : (quote : Quote) (text : List ℕ) → arguments_end quote text < length text → IsLead (get_or text (arguments_end quote text) 0)
arguments_lead quote [] lt = absurd (omega arith)
arguments_lead quote (b ∷ rest) lt =
    cond_both (ends_arguments quote b) 0 (1 + arguments_end (quote_after quote b) rest) (λ n. n < length (b ∷ rest) → IsLead (get_or (b ∷ rest) n 0))
    (λ e there. ends_lead quote b e)
    (λ e there.
    let n = arguments_end (quote_after quote b) rest in
    subst IsLead (get_or-drop 1 (b ∷ rest) n 0) (arguments_lead (quote_after quote b) rest (omega arith)))
    lt

-- ---- commands

-- a character ends where arguments do that begin at a place
arguments_end_well : (text : List ℕ) (at : ℕ) → IsUtf8 text → at ≤ length text → IsCharBoundary text (at + arguments_len (drop at text))
arguments_end_well text at utf8 within =
    let rest = drop at text in
    let n = arguments_end Outside rest in
    cond_both (begins (drop n rest) (codes "\\\\")) (n + 2) n (λ m. IsCharBoundary text (at + m))
    (λ e.
    let two = front_ends 92 (drop n rest) (codes "\\\\") e (record { some = omega arith; within = omega arith; last = refl }) in
    let place : at + (n + 1) ≡ at + (n + 2) - 1 = omega arith in
    let last : get_or text (at + (n + 2) - 1) 0 < 128 =
    subst (λ i. get_or text i 0 < 128) place (omega (arith, two.last, get_or-drop n rest 1 0, get_or-drop at text (n + 1) 0)) in
    after_ascii text (at + (n + 2)) utf8 (omega arith) (omega (arith, two.within, length-drop n rest, length-drop at text)) last)
    (λ e. (
      omega (arith, arguments_within Outside rest, length-drop at text),
      λ lt high.
          let same : get_or rest n 0 ≡ get_or text (at + n) 0 = get_or-drop at text n 0 in
          subst (λ b. 192 ≤ b) same (arguments_lead Outside rest (omega (arith, length-drop at text)) (subst (λ b. 128 ≤ b) (sym same) high)),
    ))

command_ends_well : (text : List ℕ) → IsUtf8 text → 0 < length text → IsCharBoundary text (command_len text)
unfolding command_len
command_ends_well text utf8 some =
    let at = 1 + prefix_len is_word_part (drop 1 text) in
    cond_both (takes_line (drop 1 text)) (position_or_len is_line_end text) (at + arguments_len (drop at text)) (IsCharBoundary text)
    (λ e. before_lead (λ b. not (is_line_end b)) text line_ends_lead)
    (λ e. arguments_end_well text at utf8 (omega (arith, prefix_len-le-length is_word_part (drop 1 text), length-drop 1 text)))

some_command : (text : List ℕ) → first text ≡ 92 → 0 < length text → 0 < command_len text
unfolding command_len
some_command [] is some = absurd (omega arith)
some_command (b ∷ rest) is some =
    let text : List ℕ = b ∷ rest in
    let at = 1 + prefix_len is_word_part (drop 1 text) in
    let there : not (is_line_end b) ≡ true = rw is refl in
    cond_both (takes_line (drop 1 text)) (position_or_len is_line_end text) (at + arguments_len (drop at text)) (λ n. 0 < n)
    (λ e. run_takes (λ b. not (is_line_end b)) text some there)
    (λ e. omega arith)

pub psql_command_fits : (text : List ℕ) → IsUtf8 text → RuleFits text (psql_command text)
psql_command_fits text utf8 =
    let slash = first text == 92 in
    when_fits text (slash && is_command_start (slice_index text 1)) (token (PsqlCommand (ends_query (drop 1 text))) (command_len text))
    (λ e.
    let begun = (and_parts slash (is_command_start (slice_index text 1)) e).0 in
    let some = is_there (λ b. b == 92) text refl begun in
    record { nonempty = some_command text (eqb-true (first text) 92 begun) some; boundary = command_ends_well text utf8 some; kind = tt })

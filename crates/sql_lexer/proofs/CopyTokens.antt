-- Tokens of data, line by line.
use Rattle.std.proofs.Common.{◌≡◌, ◌∙◌, ℕ, ◌+◌, ◌-◌, ◌<◌, ◌≤◌, ◌==◌, not, true, false, Bool, List, [], ◌∷◌, ◌++◌, length, take, drop, get_or-take, append_assoc, append-nil, length-append, length-drop, arith, ap, refl, sym, subst}
use Rattle.std.proofs.Common.{◌⊎◌, inl, inr}
use Rattle.std.specs.Prelude.{slice_index, codes, if◌then◌else◌}
use Rattle.std.specs.List.{All}
use Rattle.std.specs.Str.{bytes_eq}
use Rattle.std.proofs.lemmas.Bool.{cond_both, cond-false, eqb-true}
use Rattle.std.proofs.lemmas.Bool.Decides.{nat_tests}
use Rattle.std.proofs.lemmas.List.{length-take-le, drop-append-le}
use Rattle.std.proofs.lemmas.List.Elements.{All-head, All-tail}
use Rattle.std.proofs.lemmas.List.Sums.{prefix_len-le-length}
use Rattle.squawk_tokens.specs.declared.token.Token.{Token}
use Rattle.squawk_tokens.specs.declared.token.TokenKind.TheVariants.{PsqlCommand, Whitespace}
use Rattle.sql_lexer.specs.declared.statements.Statement.{Statement}
use Rattle.sql_lexer.specs.declared.statements.Word.TheVariants.{Command}
use Rattle.sql_lexer.specs.CopyData.{BeginsWithEnd, IsDataLine, content_of, text_of, token_of_some, tokens_from, tokens_of_line, tokens_of_lines}
use Rattle.sql_lexer.specs.Rules.{begins, token}
use Rattle.sql_lexer.specs.Scripts.{data_of, data_token, ends_data, line_end_len, line_len, newline_at, place_behind_data}
use Rattle.sql_lexer.specs.Statements.{after}
use Rattle.sql_lexer.proofs.CutTokens.{cut_first}
use Rattle.sql_lexer.proofs.ScriptPlaces.{script}
use Rattle.sql_lexer.proofs.CopyLines.{left_is, left_of, len_in_front, lines_apart, no_end_in_front, content_within}

-- ---- one token

-- the token in front of data, and the others: a line end, or a line of so many bytes, which may be `\.`
abbrev Steps : Statement → ℕ → List ℕ → ℕ → Bool → Bool → Type 0
Steps statement waiting text len none ends =
    let found = if none then token Whitespace (line_end_len text) else token (PsqlCommand ends) len in
    let next = if none then data_of statement waiting else if ends then place_behind_data waiting else data_of (after statement Command) waiting in
    tokens_from (data_of statement waiting) text ≡ found ∷ tokens_from next (drop found.len text)

some_found : (text : List ℕ) → 0 < (data_token text).len
some_found text =
    cond_both (line_len text == 0) (token Whitespace (line_end_len text)) (token (PsqlCommand (ends_data text)) (line_len text)) (λ (t : Token). 0 < t.len)
    (λ e. cond_both (begins text (13 ∷ 10 ∷ [])) 2 1 (λ n. 0 < n) (λ f. omega arith) (λ f. omega arith))
    (λ e. grind (arith, nat_tests))

module _ (statement : Statement) (waiting : ℕ) where
  steps : (text : List ℕ) → 0 < length text → Steps statement waiting text (line_len text) (line_len text == 0) (ends_data text)
  steps text some = cut_first script (data_of statement waiting) text some (some_found text)

  -- what is left of a line, and its newline
  pub white_space : (left more : List ℕ) (n : ℕ) → (left ≡ []) ⊎ (left ≡ 13 ∷ []) → n ≡ length left + 1
      → tokens_from (data_of statement waiting) (left ++ 10 ∷ more) ≡ token_of_some Whitespace n ++ tokens_from (data_of statement waiting) more
  white_space left more n (inl none) len =
      let same : 1 ≡ n = omega (arith, ap length none) in
      ap (λ l. tokens_from (data_of statement waiting) (l ++ 10 ∷ more)) none
      ∙ (steps (10 ∷ more) (omega arith)
      ∙ ap (λ m. token_of_some Whitespace m ++ tokens_from (data_of statement waiting) more) same)
  white_space left more n (inr return) len =
      let same : 2 ≡ n = omega (arith, ap length return) in
      ap (λ l. tokens_from (data_of statement waiting) (l ++ 10 ∷ more)) return
      ∙ (steps (13 ∷ 10 ∷ more) (omega arith)
      ∙ ap (λ m. token_of_some Whitespace m ++ tokens_from (data_of statement waiting) more) same)

  -- what is left of the last line
  last_space : (left : List ℕ) (n : ℕ) → (left ≡ []) ⊎ (left ≡ 13 ∷ []) → n ≡ length left
      → tokens_from (data_of statement waiting) left ≡ token_of_some Whitespace n
  last_space left n (inl none) len =
      let same : 0 ≡ n = omega (arith, ap length none) in
      ap (tokens_from (data_of statement waiting)) none ∙ ap (token_of_some Whitespace) same
  last_space left n (inr return) len =
      let same : 1 ≡ n = omega (arith, ap length return) in
      ap (tokens_from (data_of statement waiting)) return ∙ (steps (13 ∷ []) (omega arith) ∙ ap (token_of_some Whitespace) same)

  -- the content of a line
  module _ (line more : List ℕ) (is : IsDataLine line) (ends : newline_at more ≡ 0) where
    abbrev Cuts : Statement → Type 0
    Cuts next = tokens_from (data_of statement waiting) (line ++ more)
        ≡ token_of_some (PsqlCommand false) (length (content_of line)) ++ tokens_from (data_of next waiting) (left_of line ++ more)

    left_after : drop (length (content_of line)) (line ++ more) ≡ left_of line ++ more
    left_after = drop-append-le (length (content_of line)) line more (content_within line)

    cuts_none : length (content_of line) ≡ 0 → Cuts statement
    cuts_none none =
        let same : line ++ more ≡ left_of line ++ more = subst (λ n. drop n (line ++ more) ≡ left_of line ++ more) none left_after in
        ap (tokens_from (data_of statement waiting)) same
        ∙ ap (λ n. token_of_some (PsqlCommand false) n ++ tokens_from (data_of statement waiting) (left_of line ++ more)) (sym none)

    cuts_some : (length (content_of line) == 0) ≡ false → Cuts (after statement Command)
    cuts_some some =
        let content = length (content_of line) in
        let whole = line ++ more in
        let within : content ≤ length line = content_within line in
        let nonempty : 0 < content = grind (arith, nat_tests) in
        let len = len_in_front line more is.one ends in
        let here = steps whole (omega (arith, length-append line more)) in
        let none : (line_len whole == 0) ≡ false = ap (λ n. n == 0) len ∙ some in
        let step : Steps statement waiting whole content false false =
        subst (λ n. Steps statement waiting whole n false false) len
        (subst (λ b. Steps statement waiting whole (line_len whole) false b) (no_end_in_front line more is.one ends is.other)
        (subst (λ b. Steps statement waiting whole (line_len whole) b (ends_data whole)) none here)) in
        step
        ∙ (ap (λ left. token (PsqlCommand false) content ∷ tokens_from (data_of (after statement Command) waiting) left) left_after
        ∙ ap (λ found. found ++ tokens_from (data_of (after statement Command) waiting) (left_of line ++ more))
        (sym (cond-false (content == 0) [] (token (PsqlCommand false) content ∷ []) some)))

    cuts_by : (none : Bool) → (length (content_of line) == 0) ≡ none → (next : Statement) × Cuts next
    cuts_by true e = (statement, cuts_none (eqb-true (length (content_of line)) 0 e))
    cuts_by false e = (after statement Command, cuts_some e)

    cuts : (next : Statement) × Cuts next
    cuts = cuts_by (length (content_of line) == 0) refl

-- ---- lines

a_line : (statement : Statement) (waiting : ℕ) (line more : List ℕ) → IsDataLine line
    → (next : Statement)
    × (tokens_from (data_of statement waiting) (line ++ 10 ∷ more) ≡ tokens_of_line line (10 ∷ []) ++ tokens_from (data_of next waiting) more)
a_line statement waiting line more is =
    let content = length (content_of line) in
    let command = token_of_some (PsqlCommand false) content in
    let white = token_of_some Whitespace (length line + 1 - content) in
    let here = cuts statement waiting line (10 ∷ more) is refl in
    let others = tokens_from (data_of here.0 waiting) more in
    let len : length line + 1 - content ≡ length (left_of line) + 1 = omega (arith, content_within line, length-drop content line) in (
      here.0,
      here.1
          ∙ (ap (λ left. command ++ left) (white_space here.0 waiting (left_of line) more (length line + 1 - content) (left_is line) len)
          ∙ sym (append_assoc command white others)),
    )

pub last_line : (statement : Statement) (waiting : ℕ) (line : List ℕ) → IsDataLine line
    → tokens_from (data_of statement waiting) line ≡ tokens_of_line line []
last_line statement waiting line is =
    let content = length (content_of line) in
    let command = token_of_some (PsqlCommand false) content in
    let here = cuts statement waiting line [] is refl in
    let len : length line + 0 - content ≡ length (left_of line) = omega (arith, content_within line, length-drop content line) in
    ap (tokens_from (data_of statement waiting)) (sym (append-nil line))
    ∙ (here.1
    ∙ (ap (λ left. command ++ tokens_from (data_of here.0 waiting) left) (append-nil (left_of line))
    ∙ ap (λ left. command ++ left) (last_space here.0 waiting (left_of line) (length line + 0 - content) (left_is line) len)))

pub some_lines : (statement : Statement) (waiting : ℕ) (lines : List (List ℕ)) (rest : List ℕ) → All IsDataLine lines
    → (next : Statement)
    × (tokens_from (data_of statement waiting) (text_of lines ++ rest) ≡ tokens_of_lines lines ++ tokens_from (data_of next waiting) rest)
some_lines statement waiting [] rest are = (statement, refl)
some_lines statement waiting (line ∷ lines) rest are =
    let more = text_of lines ++ rest in
    let first = a_line statement waiting line more (All-head IsDataLine line lines are) in
    let others = some_lines first.0 waiting lines rest (All-tail IsDataLine line lines are) in (
      others.0,
      ap (tokens_from (data_of statement waiting)) (lines_apart line lines rest)
          ∙ (first.1
          ∙ (ap (λ found. tokens_of_line line (10 ∷ []) ++ found) others.1
          ∙ sym (append_assoc (tokens_of_line line (10 ∷ [])) (tokens_of_lines lines) (tokens_from (data_of others.0 waiting) rest)))),
    )

-- ---- the line that ends data

-- `\.` in front of a text
abbrev pub ending : List ℕ → List ℕ
ending rest = 92 ∷ 46 ∷ rest

abbrev len_by : List ℕ → ℕ → ℕ
len_by text n = if slice_index text (n - 1) == 13 then n - 1 else n

ending_by : (rest : List ℕ) → (take (newline_at rest) rest ≡ []) ⊎ (take (newline_at rest) rest ≡ 13 ∷ []) → line_len (ending rest) ≡ 2
ending_by rest (inl none) =
    let n = newline_at rest in
    let zero_at : n ≡ 0 = omega (arith, length-take-le n rest (prefix_len-le-length (λ b. not (b == 10)) rest), ap length none) in
    ap (λ m. len_by (ending rest) (1 + (1 + m))) zero_at
ending_by rest (inr return) =
    let n = newline_at rest in
    let one_at : n ≡ 1 = omega (arith, length-take-le n rest (prefix_len-le-length (λ b. not (b == 10)) rest), ap length return) in
    let same : slice_index rest 0 ≡ 13 = sym (get_or-take n rest 0 0 (omega arith)) ∙ ap (λ xs. slice_index xs 0) return in
    ap (λ m. len_by (ending rest) (1 + (1 + m))) one_at
    ∙ ap (λ b. if b == 13 then 2 else 3) same

ending_len : (rest : List ℕ) → BeginsWithEnd rest → line_len (ending rest) ≡ 2
ending_len rest ends =
    let first = take (newline_at rest) rest in
    ending_by rest (subst (λ content. (drop (length content) first ≡ []) ⊎ (drop (length content) first ≡ 13 ∷ [])) ends (left_is first))

pub end_of_data : (statement : Statement) (waiting : ℕ) (rest : List ℕ) → BeginsWithEnd rest
    → tokens_from (data_of statement waiting) (ending rest) ≡ token (PsqlCommand true) 2 ∷ tokens_from (place_behind_data waiting) rest
end_of_data statement waiting rest ends =
    let text = ending rest in
    let len = ending_len rest ends in
    let is : ends_data text ≡ true = ap (λ n. bytes_eq (take n text) (codes "\\.")) len in
    let here = steps statement waiting text (omega arith) in
    subst (λ n. Steps statement waiting text n false true) len
    (subst (λ b. Steps statement waiting text (line_len text) false b) is
    (subst (λ b. Steps statement waiting text (line_len text) b (ends_data text)) (ap (λ n. n == 0) len) here))

-- The law of COPY's data.
use Rattle.std.proofs.Common.{◌≡◌, ◌≢◌, ◌∙◌, ℕ, zero, suc, ◌+◌, ◌-◌, ◌<◌, ◌≤◌, true, false, Bool, List, [], ◌∷◌, ◌++◌, length, take, drop, append_assoc, length-drop, zero-add, arith, ap, refl, sym, subst}
use Rattle.std.specs.Prelude.{IsUtf8, IsCharBoundary, if◌then◌else◌}
use Rattle.std.specs.List.{All}
use Rattle.std.proofs.lemmas.Bool.{cond-true}
use Rattle.std.proofs.lemmas.List.{length-take-le, take-take, drop-append-le, drop-drop, drop-take}
use Rattle.std.proofs.lemmas.Str.{IsUtf8-drop, IsUtf8-take}
use Rattle.squawk_tokens.specs.declared.token.Token.{Token}
use Rattle.sql_lexer.specs.declared.statements.Statement.{Statement}
use Rattle.sql_lexer.specs.declared.statements.Word.{Word}
use Rattle.sql_lexer.specs.declared.script.places.Place.{Place}
use Rattle.sql_lexer.specs.declared.script.places.Place.TheVariants.{Data, Sql}
use Rattle.sql_lexer.specs.CopyData.{DataAreLines, content_of, copies_among, copies_in, words_of, end_of, tokens_from, tokens_of_lines}
use Rattle.sql_lexer.specs.Scripts.{data_of, line_len, place_before, place_on_line, place_with, token_before, waiting_behind}
use Rattle.sql_lexer.specs.ScriptWords.{word_of}
use Rattle.sql_lexer.specs.Statements.{after, data_follow}
use Rattle.sql_lexer.specs.Tokens.{first_token, tokens_of}
use Rattle.sql_lexer.proofs.CutTokens.{cut_first}
use Rattle.sql_lexer.proofs.Fits.{Fits}
use Rattle.sql_lexer.proofs.LinesFit.{boundary_behind, front_fits, front_within, line_ends_well}
use Rattle.sql_lexer.proofs.ScriptPlaces.{next_on_line, script, token_on_line}
use Rattle.sql_lexer.proofs.TextTokens.{text_first}
use Rattle.sql_lexer.proofs.CopyLines.{every, left_is, left_of, len_in_front, content_in_front, content_within}
use Rattle.sql_lexer.proofs.CopyTokens.{end_of_data, ending, last_line, some_lines, white_space}

-- ---- the line of COPY

-- what is left of it is cut as a text
abbrev OnLine : ℕ → Statement → ℕ → List ℕ → Type 0
OnLine left statement waiting text =
    (next : Statement)
    × (tokens_from (Data left statement waiting) text
    ≡ tokens_of (take left text) ++ tokens_from (data_of next (waiting + copies_in statement (take left text))) (drop left text))

waits_by : (waiting : ℕ) (follow : Bool) (others : ℕ) → (if follow then waiting + 1 else waiting) + others ≡ waiting + ((if follow then 1 else 0) + others)
waits_by waiting true others = omega arith
waits_by waiting false others = omega arith

-- how many COPY statements wait after a word and the others
waits : (waiting : ℕ) (statement : Statement) (word : Word) (others : ℕ)
    → waiting_behind waiting statement word + others ≡ waiting + ((if data_follow statement word then 1 else 0) + others)
waits waiting statement word others = waits_by waiting (data_follow statement word) others

module _ (left : ℕ) (statement : Statement) (waiting : ℕ) (text : List ℕ) (some : 0 < left) (utf8 : IsUtf8 text) (end : IsCharBoundary text left) where
  abbrev front : List ℕ
  front = take left text

  abbrev found : Token
  found = first_token front

  abbrev next : Place
  next = place_on_line left statement waiting text found

  fits : Fits text found
  fits = front_fits text left utf8 end some

  within : found.len ≤ left
  within = front_within text left utf8 end some

  abbrev word : Word
  word = word_of found.kind (take found.len text)

  first : tokens_of front ≡ found ∷ tokens_of (drop found.len front)
  first = text_first front (IsUtf8-take text left utf8 end) (omega (arith, length-take-le left text end.0))

  there : tokens_from (Data left statement waiting) text ≡ found ∷ tokens_from next (drop found.len text)
  there =
      let same : found ≡ token_before left text = token_on_line left text some in
      let goes : next ≡ place_before left statement waiting text = next_on_line left statement waiting text found some refl in
      let nonempty : 0 < (token_before left text).len = subst (λ (t : Token). 0 < t.len) same fits.nonempty in
      let cut = cut_first script (Data left statement waiting) text (omega arith) nonempty in
      subst (λ (t : Token). tokens_from (Data left statement waiting) text ≡ t ∷ tokens_from next (drop t.len text)) (sym same)
      (subst (λ p. tokens_from (Data left statement waiting) text ≡ token_before left text ∷ tokens_from p (drop (token_before left text).len text)) (sym goes) cut)

  others_on : take (left - found.len) (drop found.len text) ≡ drop found.len front
  others_on =
      let n = found.len in
      sym (subst (λ m. drop n (take m text) ≡ take (left - n) (drop n text)) (omega (arith, within)) (drop-take n (left - n) text))

  -- the words of the line are that of the token, and the others
  words_there : words_of (tokens_of front) front ≡ word ∷ words_of (tokens_of (drop found.len front)) (drop found.len front)
  words_there =
      ap (λ tokens. words_of tokens front) first
      ∙ ap (λ bytes. word_of found.kind bytes ∷ words_of (tokens_of (drop found.len front)) (drop found.len front)) (take-take found.len left text within)

  waits_there : waiting_behind waiting statement word + copies_in (after statement word) (drop found.len front) ≡ waiting + copies_in statement front
  waits_there =
      waits waiting statement word (copies_in (after statement word) (drop found.len front)) ∙ ap (λ words. waiting + copies_among statement words) (sym words_there)

  joined : OnLine (left - found.len) (after statement word) (waiting_behind waiting statement word) (drop found.len text) → OnLine left statement waiting text
  joined others =
      let n = found.len in
      let rest = drop n text in
      let past : drop (left - n) rest ≡ drop left text = drop-drop (left - n) n text ∙ ap (λ m. drop m text) (omega (arith, within)) in
      let more : waiting_behind waiting statement word + copies_in (after statement word) (take (left - n) rest) ≡ waiting + copies_in statement front =
      ap (λ line. waiting_behind waiting statement word + copies_in (after statement word) line) others_on ∙ waits_there in
      let behind : tokens_from (data_of others.0 (waiting_behind waiting statement word + copies_in (after statement word) (take (left - n) rest))) (drop (left - n) rest)
      ≡ tokens_from (data_of others.0 (waiting + copies_in statement front)) (drop left text) =
      ap (λ m. tokens_from (data_of others.0 m) (drop (left - n) rest)) more ∙ ap (tokens_from (data_of others.0 (waiting + copies_in statement front))) past in
      let tokens : found ∷ tokens_of (take (left - n) rest) ≡ tokens_of front = ap (λ line. found ∷ tokens_of line) others_on ∙ sym first in (
        others.0,
        there
            ∙ (ap (λ tokens. found ∷ tokens) others.1
            ∙ (ap (λ others. (found ∷ tokens_of (take (left - n) rest)) ++ others) behind
            ∙ ap (λ tokens. tokens ++ tokens_from (data_of others.0 (waiting + copies_in statement front)) (drop left text)) tokens)),
      )

on_line : (most left : ℕ) (statement : Statement) (waiting : ℕ) (text : List ℕ) → left ≤ most → IsUtf8 text → IsCharBoundary text left
    → OnLine left statement waiting text
on_line most zero statement waiting text le utf8 end = (statement, ap (λ m. tokens_from (data_of statement m) text) (omega arith))
on_line zero (suc left) statement waiting text le utf8 end = absurd (omega arith)
on_line (suc most) (suc left) statement waiting text le utf8 end =
    let some : 0 < suc left = omega arith in
    let token = first_token (take (suc left) text) in
    let good = fits (suc left) statement waiting text some utf8 end in
    let short = within (suc left) statement waiting text some utf8 end in
    let word = word_of token.kind (take token.len text) in
    let others = on_line most (suc left - token.len) (after statement word) (waiting_behind waiting statement word) (drop token.len text)
    (omega (arith, good.nonempty)) (IsUtf8-drop text token.len utf8 good.boundary) (boundary_behind text (suc left) token.len end short) in
    joined (suc left) statement waiting text some utf8 end others

-- after COPY
after_copy : (statement : Statement) (word : Word) (line text : List ℕ) → data_follow statement word ≡ true → All (λ b. b ≢ 10) line
    → IsUtf8 (line ++ 10 ∷ text)
    → (next : Statement)
    × (tokens_from (place_with statement word (line ++ 10 ∷ text)) (line ++ 10 ∷ text)
    ≡ (tokens_of (content_of line) ++ end_of line (10 ∷ [])) ++ tokens_from (data_of next (copies_in (after statement word) (content_of line))) text)
after_copy statement word line text follow one utf8 =
    let rest = line ++ 10 ∷ text in
    let left = line_len rest in
    let content = content_of line in
    let begun = after statement word in
    let place : place_with statement word rest ≡ Data left begun 0 = cond-true (data_follow statement word) (Data left begun 0) (Sql begun) follow in
    let here = on_line left left begun 0 rest (omega arith) utf8 (line_ends_well rest) in
    let more : 0 + copies_in begun (take left rest) ≡ copies_in begun content =
    ap (λ front. 0 + copies_in begun front) (content_in_front line (10 ∷ text) one refl) ∙ zero-add (copies_in begun content) in
    let behind : drop left rest ≡ left_of line ++ 10 ∷ text =
    ap (λ n. drop n rest) (len_in_front line (10 ∷ text) one refl) ∙ drop-append-le (length content) line (10 ∷ text) (content_within line) in
    let len : length line + 1 - length content ≡ length (left_of line) + 1 = omega (arith, content_within line, length-drop (length content) line) in
    let waiting = copies_in begun content in
    let white = white_space here.0 waiting (left_of line) text (length line + 1 - length content) (left_is line) len in (
      here.0,
      ap (λ p. tokens_from p rest) place
          ∙ (here.1
          ∙ (ap (λ front. tokens_of front ++ tokens_from (data_of here.0 (0 + copies_in begun (take left rest))) (drop left rest)) (content_in_front line (10 ∷ text) one refl)
          ∙ (ap (λ n. tokens_of content ++ tokens_from (data_of here.0 n) (drop left rest)) more
          ∙ (ap (λ left. tokens_of content ++ tokens_from (data_of here.0 waiting) left) behind
          ∙ (ap (λ tokens. tokens_of content ++ tokens) white
          ∙ sym (append_assoc (tokens_of content) (end_of line (10 ∷ [])) (tokens_from (data_of here.0 waiting) text))))))),
    )

-- ---- the law

pub data_are_lines : DataAreLines
data_are_lines = record {
  begun = after_copy;
  ended = λ statement waiting text has.
      let before = some_lines statement waiting has.lines (ending has.rest) has.are in
      ap (tokens_from (data_of statement waiting)) has.whole
      ∙ (before.1 ∙ ap (λ found. tokens_of_lines has.lines ++ found) (end_of_data before.0 waiting has.rest has.ends));
  unended = λ statement waiting text has.
      let before = some_lines statement waiting has.lines has.last has.are in
      ap (tokens_from (data_of statement waiting)) has.whole
      ∙ (before.1 ∙ ap (λ found. tokens_of_lines has.lines ++ found) (last_line before.0 waiting has.last has.is));
  every = every;
}

-- A text of a script, part by part.
use Rattle.std.proofs.Common.{◌≡◌, ◌≢◌, ◌∙◌, ◌⊎◌, inl, inr, ℕ, zero, suc, ◌+◌, ◌-◌, ◌^◌, ◌<◌, ◌≤◌, ◌&&◌, ◌||◌, nat_lt, Bool, true, false, Option, None, Some, List, [], ◌∷◌, ◌++◌, ap, append_assoc, arith, drop, length, length-append, min, refl, subst, sym}
use Rattle.std.specs.Prelude.{if◌then◌else◌, is_some, All}
use Rattle.std.specs.List.{list_any}
use Rattle.std.specs.Io.KnownBytes.{Appends}
use Rattle.std.proofs.Math.Seq.{drop-append-add}
use Rattle.std.proofs.lemmas.Bool.{ltb-true}
use Rattle.std.proofs.lemmas.List.{drop-append-le}
use Rattle.squawk_table.specs.declared.shortcuts.str_step.OwnedStep.{OwnedStep}
use Rattle.squawk_tokens.specs.LexicalErrors.{LexicalError}
use Rattle.sql_lexer.specs.Lines.{EndsLine}
use Rattle.sql_lexer.specs.ScriptLexing.{place_of, script_place}
use Rattle.sql_lexer.specs.declared.script.script_place.ScriptPlace.{ScriptPlace}
use Rattle.sql_lexer.specs.declared.script.script_place.ScriptPlace.TheVariants as script
use Rattle.sql_grammar.specs.ReadParts.{HasRead, Reading, ReadsPart, begun_with, can_end_part, text_left}
use Rattle.sql_grammar.specs.declared.script_parts.Progress.TheVariants.{Inside}
use Rattle.sql_grammar.specs.declared.script_parts.ScriptPart.{ScriptPart}
use Rattle.sql_reader.specs.declared.script_text.ScriptText.{ScriptText}
use Rattle.sql_report.specs.Places.{IsLineColumn, IsPartOfWindow, Spot, is_feed}
use Rattle.sql_report.specs.declared.line_column.LineColumn.{LineColumn}
use Rattle.sql_tree.specs.OnTheWay.{HasTold, IsTelling, IsTextIn}
use Rattle.sql_tree.specs.declared.options.Listing.{Listing}
use Rattle.sql_tree.specs.declared.sql.Sql.{Sql}
use Rattle.sql_tree.specs.declared.telling.Telling.{Telling}

-- what is known of the place of a reader at the end of a text: where another text begins there, it begins as it would go on here
pub record GoesOnAt (before : ScriptPlace) (parts : Reading) : Type 0 where
  pub none : script_place parts.lexer.place ≡ None → (place_of before ≡ parts.lexer.place) × (begun_with before ≡ parts.progress)
  pub some : (place : ScriptPlace) → script_place parts.lexer.place ≡ Some place → begun_with place ≡ parts.progress

-- so much of a text is read, told and printed, whatever stands after the text
pub record InText (sql : Sql) (listing : Listing) (name read left : List ℕ) (text : ScriptText) (out errs : List ℕ)
    (printed printed_now printed_errors printed_errors_now : Option (List ℕ)) (parts : Reading) (t : Telling) : Type 0 where
  pub more : List ℕ
  pub more_errs : List ℕ
  pub prints : Appends printed printed_now more
  pub prints_errors : Appends printed_errors printed_errors_now more_errs
  pub telling : IsTelling sql listing name t
  pub front : List ℕ
  pub tail : List ℕ
  pub no_feed : All (λ b. b ≢ 10) tail
  pub at : length front ≡ parts.lexer.at
  pub whole : text.text.now ≡ front ++ (text_left parts ++ tail)
  pub lines : parts.lexer.text ≡ front ++ text_left parts
  pub last : parts.is_last ≡ true → tail ++ left ≡ []
  pub goes_on : parts.is_last ≡ false → GoesOnAt text.place parts
  pub lexical : List LexicalError
  pub done : List OwnedStep
  pub holds : (rest : List ℕ) → (parts.is_last ≡ true → rest ≡ []) → length (read ++ (text.text.now ++ (left ++ rest))) ≤ 4294967295
      → HasRead sql.vocabulary sql.rules parts (tail ++ (left ++ rest)) (read ++ front) lexical done
      × HasTold (read ++ (text.text.now ++ (left ++ rest))) (out ++ more) (errs ++ more_errs) lexical done t

-- ---- lines

-- what is left of lines has a line feed
feed_left : (lines more : List ℕ) (n : ℕ) → EndsLine lines → n < length lines → list_any is_feed (drop n lines ++ more) ≡ true
feed_left lines more n ends lt =
    let le : n ≤ length ends.front = omega (arith, lt, ap length ends.line, length-append ends.front (10 ∷ [])) in
    let left : drop n lines ≡ drop n ends.front ++ 10 ∷ [] = ap (drop n) ends.line ∙ drop-append-le n ends.front (10 ∷ []) le in
    ap (λ l. list_any is_feed (l ++ more)) left ∙ any (drop n ends.front)
  where
    or_true : (v : Bool) (rest : Bool) → rest ≡ true → (v || rest) ≡ true
    or_true true rest is = refl
    or_true false rest is = is

    any : (front : List ℕ) → list_any is_feed ((front ++ 10 ∷ []) ++ more) ≡ true
    any [] = refl
    any (b ∷ front) = or_true (is_feed b) (list_any is_feed ((front ++ 10 ∷ []) ++ more)) (any front)

both_true : (a b : Bool) → (a && b) ≡ true → (a ≡ true) × (b ≡ true)
both_true true b is = (refl, is)
both_true false b is = absurd (cc is)

-- ---- places

some_is : (a b : ScriptPlace) → Some a ≡ Some b → a ≡ b
some_is a b e = cc e

-- a text that begins where the script has a place begins like one that begins at the place
pub begun_same : (before place : ScriptPlace) → script_place (place_of before) ≡ Some place → begun_with place ≡ begun_with before
begun_same script.Front place is = ap begun_with (sym (some_is script.Front place is))
begun_same (script.Inside zero) place is = ap begun_with (sym (some_is (script.Inside 0) place is))
begun_same (script.Inside (suc waiting)) place is = inside (nat_lt waiting 4294967295) is
  where
    inside : (few : Bool) → (if few then Some (script.Inside (waiting + 1)) else None) ≡ Some place → begun_with place ≡ Inside
    inside true is = ap begun_with (sym (some_is (script.Inside (waiting + 1)) place is))
    inside false is = absurd (cc is)

-- a part ends where another text may begin
pub goes_on_behind : (before : ScriptPlace) (new : Reading) → new.progress ≡ Inside → can_end_part new.lexer ≡ true → script_place new.lexer.place ≢ Some script.Front → GoesOnAt before new
goes_on_behind before new inside ends never = record {
  none = λ none. absurd (cc (sym (both_true (nat_lt new.lexer.at (length new.lexer.text)) (is_some (script_place new.lexer.place)) ends).1 ∙ ap is_some none));
  some = λ place is. begun place is ∙ sym inside;
}
  where
    begun : (place : ScriptPlace) → script_place new.lexer.place ≡ Some place → begun_with place ≡ Inside
    begun script.Front is = absurd (never is)
    begun (script.Inside waiting) is = refl

-- what of a text isn't read, since its line doesn't end; nothing, where the script ends with it
pub record HasTail (text lines left : List ℕ) (is_last : Bool) : Type 0 where
  pub tail : List ℕ
  pub whole : text ≡ lines ++ tail
  pub none : is_last ≡ true → tail ++ left ≡ []
  pub no_feed : All (λ b. b ≢ 10) tail

-- ---- a part

-- a script that goes on so
abbrev pub script_with : List ℕ → List ℕ → ScriptText → List ℕ → List ℕ
script_with read left text rest = read ++ (text.text.now ++ (left ++ rest))

module _ (sql : Sql) (listing : Listing) (name read left out errs : List ℕ) (text : ScriptText) (before : LineColumn) (stands : IsTextIn read left before text) where
  whole_is : (rest : List ℕ) → script_with read left text rest ≡ stands.passed ++ (text.window.now ++ rest)
  whole_is rest =
      ap (λ l. read ++ l) (sym (append_assoc text.text.now left rest))
      ∙ (sym (append_assoc read (text.text.now ++ left) rest) ∙ (ap (λ l. l ++ rest) (sym stands.window) ∙ append_assoc stands.passed text.window.now rest))

  module _ (old new : Reading) (part : ScriptPart) (place : Spot) (start in_window : ℕ) (is_window : place.window ≡ text.window.now) (is_before : place.before ≡ before)
      (moved : in_window ≡ min (text.start + part.start) (2 ^ 64 - 1)) (starts : start ≡ min (text.passed + in_window) (2 ^ 64 - 1))
      (lines : old.is_last ≡ false → 0 < length old.lexer.text → EndsLine old.lexer.text) (reads : ReadsPart sql.vocabulary sql.rules old new part)
      (front tail : List ℕ) (at : length front ≡ old.lexer.at) (whole : text.text.now ≡ front ++ (text_left old ++ tail)) where
    abbrev bytes : List ℕ
    bytes = part.table.text

    -- the text with the part
    pub whole_now : text.text.now ≡ (front ++ bytes) ++ (text_left new ++ tail)
    whole_now =
        whole
        ∙ (ap (λ l. front ++ (l ++ tail)) reads.text
        ∙ (ap (λ l. front ++ l) (append_assoc bytes (text_left new) tail) ∙ sym (append_assoc front bytes (text_left new ++ tail))))

    pub sizes : (rest : List ℕ) → length (script_with read left text rest)
        ≡ length read + (length front + (length bytes + (length (text_left new) + length tail))) + (length left + length rest)
    sizes rest = omega (
      arith,
      length-append read (text.text.now ++ (left ++ rest)),
      length-append text.text.now (left ++ rest),
      length-append left rest,
      ap length whole_now,
      length-append (front ++ bytes) (text_left new ++ tail),
      length-append front bytes,
      length-append (text_left new) tail,
    )

    window_len : length stands.passed + length text.window.now ≡ length read + (length front + (length bytes + (length (text_left new) + length tail))) + length left
    window_len = omega (
      arith,
      ap length stands.window,
      length-append stands.passed text.window.now,
      length-append read (text.text.now ++ left),
      length-append text.text.now left,
      ap length whole_now,
      length-append (front ++ bytes) (text_left new ++ tail),
      length-append front bytes,
      length-append (text_left new) tail,
    )

    -- what stands after the part in the window
    after_part : (n : ℕ) → length stands.passed + n ≡ length read + length (front ++ bytes) → drop n text.window.now ≡ text_left new ++ (tail ++ left)
    after_part n same =
        sym (drop-append-add stands.passed text.window.now n)
        ∙ (ap (λ l. drop (length stands.passed + n) l) stands.window
        ∙ (ap (λ m. drop m (read ++ (text.text.now ++ left))) same
        ∙ (drop-append-add read (text.text.now ++ left) (length (front ++ bytes))
        ∙ (ap (λ l. drop (length (front ++ bytes)) (l ++ left)) whole_now
        ∙ (ap (drop (length (front ++ bytes))) (append_assoc (front ++ bytes) (text_left new ++ tail) left)
        ∙ (behind (front ++ bytes) ((text_left new ++ tail) ++ left) ∙ append_assoc (text_left new) tail left))))))
      where
        behind : (xs ys : List ℕ) → drop (length xs) (xs ++ ys) ≡ ys
        behind xs ys =
            let none : length xs ≡ length xs + 0 = omega arith in
            ap (λ n. drop n (xs ++ ys)) none ∙ drop-append-add xs ys 0

    module _ (rest : List ℕ) (last : old.is_last ≡ true → rest ≡ []) (short : length (script_with read left text rest) ≤ 4294967295) where
      pub start_is : start ≡ length (read ++ front)
      start_is = omega (arith, starts, moved, stands.passed_is, stands.starts, sizes rest, short, reads.start, at, length-append read front)

      begins : start ≡ length stands.passed + in_window
      begins = omega (arith, starts, moved, stands.passed_is, stands.starts, sizes rest, short, reads.start, at)

      pub part_of : IsPartOfWindow (script_with read left text rest) stands.passed rest place start in_window (length bytes)
      part_of = record {
        window_of = record {
          script_is = whole_is rest ∙ ap (λ w. stands.passed ++ (w ++ rest)) (sym is_window);
          before_is = subst (IsLineColumn stands.passed) (sym is_before) (stands.before_is (omega (arith, window_len, sizes rest, short)));
          countable = omega (arith, length-append stands.passed place.window, ap length is_window, window_len, sizes rest, short);
        };
        begins = begins;
        within = omega (arith, begins, start_is, length-append read front, ap length is_window, window_len);
        enough_before = enough stands.enough;
        line_ends = ends old.is_last refl;
      }
        where
          enough : (stands.passed ≡ []) ⊎ (100 ≤ text.start) → (stands.passed ≡ []) ⊎ (100 ≤ in_window)
          enough (inl none) = inl none
          enough (inr some) = inr (omega (arith, some, begins, start_is, stands.starts, length-append read front))

          ends : (v : Bool) → old.is_last ≡ v → (rest ≡ []) ⊎ (list_any is_feed (drop (in_window + length bytes) place.window) ≡ true)
          ends true is = inl (last is)
          ends false is =
              let end = both_true (nat_lt new.lexer.at (length new.lexer.text)) (is_some (script_place new.lexer.place)) (reads.statements.ends is) in
              let lt : new.lexer.at < length new.lexer.text = ltb-true new.lexer.at (length new.lexer.text) end.0 in
              let feed : EndsLine new.lexer.text = subst EndsLine (sym reads.same.0) (lines is (omega (arith, lt, ap length reads.same.0))) in
              let there : length stands.passed + (in_window + length bytes) ≡ length read + length (front ++ bytes) =
              omega (arith, begins, start_is, length-append read front, length-append front bytes) in
              inr
              (ap (λ w. list_any is_feed (drop (in_window + length bytes) w)) is_window
              ∙ (ap (list_any is_feed) (after_part (in_window + length bytes) there) ∙ feed_left new.lexer.text (tail ++ left) new.lexer.at feed lt))

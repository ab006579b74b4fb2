-- A piece is cut of a text.
use Rattle.std.proofs.Common.{◌≡◌, ◌≢◌, ◌∙◌, ℕ, ◌+◌, ◌-◌, ◌<◌, ◌≤◌, Bool, true, false, is_some, nat_lt, Option, Some, None, List, [], ◌∷◌, ◌++◌, length, drop, take, get_or, if◌then◌else◌, ⊎_elim, append_assoc, arith, ap, sym, subst, refl, length-append, length-drop}
use Rattle.std.specs.Prelude.{IfSome, IsCharBoundary, IsUtf8, string_bytes}
use Rattle.std.proofs.Math.Seq.{get_or-append_seam, take-append_seam}
use Rattle.std.proofs.lemmas.Bool.{and_parts, ltb-true, cases_lt, false≢true}
use Rattle.std.proofs.lemmas.List.{append-nil, get_or-append-add, nil_from_length}
use Rattle.std.proofs.lemmas.Str.{IsCharBoundary-from_take}
use Rattle.squawk_keywords.specs.declared.keywords.Keywords.{Keywords}
use Rattle.squawk_table.specs.declared.shortcuts.str_step.OwnedStep.{OwnedStep}
use Rattle.squawk_table.specs.declared.shortcuts.str_step.OwnedStep.TheVariants as sent
use Rattle.squawk_tokens.specs.LexicalErrors.{LexicalError}
use Rattle.rule_grammar.specs.declared.rules.RuleGrammar.{RuleGrammar}
use Rattle.sql_lexer.specs.ScriptLexing.{Lexing, begun_at, place_of, script_place}
use Rattle.sql_lexer.specs.declared.script.script_place.ScriptPlace.{ScriptPlace}
use Rattle.sql_lexer.specs.declared.script.script_place.ScriptPlace.TheVariants as script
use Rattle.sql_grammar.specs.ReadParts.{BeginsText, HasRead, IsScriptParse, Reading, ReadsPart, at_front, begun_with, text_left}
use Rattle.sql_grammar.specs.WholeLines.{AreWholeLines}
use Rattle.sql_grammar.specs.declared.script_parts.Progress.TheVariants.{Inside}
use Rattle.sql_grammar.specs.declared.script_parts.ScriptPart.{ScriptPart}
use Rattle.sql_document.specs.Pieces.{Finds, Follows, GoesOn, IsPiece}
use Rattle.sql_document.specs.declared.piece.Piece.{Piece}

-- ---- lines

no_shorter : (text one other : List ℕ) → AreWholeLines text one → AreWholeLines text other → length other ≤ length one
no_shorter text one other are those =
    ⊎_elim
    (λ (few : length one < length other).
    let line = those.end (omega (arith, few)) in
    let front = line.front in
    let size : length other ≡ length front + 1 = omega (arith, ap length line.line, length-append front (10 ∷ [])) in
    let at = length front - length one in
    let sum : length one + at ≡ length front = omega (arith, few, size) in
    let split : text ≡ front ++ 10 ∷ those.rest = those.whole ∙ (ap (λ xs. xs ++ those.rest) line.line ∙ append_assoc front (10 ∷ []) those.rest) in
    let within : at < length are.rest = omega (arith, ap length are.whole, length-append one are.rest, ap length split, length-append front (10 ∷ those.rest), sum) in
    let newline : get_or are.rest at 0 ≡ 10 =
    sym (get_or-append-add one are.rest at 0)
    ∙ (ap (λ xs. get_or xs (length one + at) 0) (sym are.whole)
    ∙ (ap (λ n. get_or text n 0) sum ∙ (ap (λ xs. get_or xs (length front) 0) split ∙ get_or-append_seam front 10 those.rest 0))) in
    absurd (are.none at 0 within newline))
    (λ (le : length other ≤ length one). le)
    (cases_lt (length one) (length other))

-- all whole lines of a text have one length
pub lines_len : (text one other : List ℕ) → AreWholeLines text one → AreWholeLines text other → length one ≡ length other
lines_len text one other are those = omega (arith, no_shorter text one other are those, no_shorter text other one those are)

-- ---- the piece

-- what is read of a text, and what isn't
module _ (text : List ℕ) (place : ScriptPlace) (is_last : Bool) (old : Reading) (begins : BeginsText text place is_last old) where
  unread_by : (b : Bool) → is_last ≡ b → (rest : List ℕ) × (text ≡ old.lexer.text ++ rest)
  unread_by true last = ([], sym (begins.all last) ∙ sym (append-nil old.lexer.text))
  unread_by false others = ((begins.lines others).rest, (begins.lines others).whole)

  pub unread : (rest : List ℕ) × (text ≡ old.lexer.text ++ rest)
  unread = unread_by is_last refl

module _ (vocabulary : Keywords) (rules : RuleGrammar) (text : List ℕ) (place : ScriptPlace) (is_last : Bool) (old new : Reading) (part : ScriptPart)
    (begins : BeginsText text place is_last old) (reads : ReadsPart vocabulary rules old new part) where
  tail : (rest : List ℕ) × (text ≡ old.lexer.text ++ rest)
  tail = unread text place is_last old begins

  pub lines_are : old.lexer.text ≡ part.table.text ++ text_left new
  lines_are = sym (ap (λ (l : Lexing). drop l.at l.text) begins.lexer) ∙ reads.text

  text_is : text ≡ part.table.text ++ (text_left new ++ tail.0)
  text_is = tail.1 ∙ (ap (λ xs. xs ++ tail.0) lines_are ∙ append_assoc part.table.text (text_left new) tail.0)

  pub boundary : IsUtf8 text → IsUtf8 part.table.text → IsCharBoundary text (length part.table.text)
  boundary utf8 part_utf8 =
      IsCharBoundary-from_take text (length part.table.text) utf8 (omega (arith, ap length text_is, length-append part.table.text (text_left new ++ tail.0)))
      (subst IsUtf8 (sym (ap (λ xs. take (length part.table.text) xs) text_is ∙ take-append_seam part.table.text (text_left new ++ tail.0))) part_utf8)

  pub front : take (length part.table.text) text ≡ part.table.text
  front = ap (take (length part.table.text)) text_is ∙ take-append_seam part.table.text (text_left new ++ tail.0)

  -- the part ends in the lines
  pub within_lines : is_last ≡ false → (lines : List ℕ) → AreWholeLines text lines → length part.table.text ≤ length lines
  within_lines others lines are =
      omega (arith, ap length lines_are, length-append part.table.text (text_left new), lines_len text old.lexer.text lines (begins.lines others) are)

  -- some of a text is left that others follow
  left_over : is_last ≡ false → 0 < length (text_left new)
  left_over others =
      let ends = reads.statements.ends (begins.is_last ∙ others) in
      omega (
        arith,
        ltb-true new.lexer.at (length new.lexer.text) (and_parts (nat_lt new.lexer.at (length new.lexer.text)) (is_some (script_place new.lexer.place)) ends).0,
        length-drop new.lexer.at new.lexer.text,
      )

  moves : 0 < length part.table.text + at_front (begun_with place)
  moves =
      let at : old.lexer.at ≡ 0 = ap (λ (l : Lexing). l.at) begins.lexer in
      omega (
        arith,
        reads.goes_on,
        at,
        reads.start,
        reads.end,
        ap length reads.same.0,
        ap at_front begins.progress,
        ap at_front reads.inside,
        ap length lines_are,
        length-append part.table.text (text_left new),
      )

  pub finds : {Kept : Type 0} (piece : Piece Kept) (next : Option ScriptPlace) → next ≡ (if is_last then None else script_place new.lexer.place) → piece.place ≡ place → string_bytes piece.text ≡ part.table.text
      → IsUtf8 part.table.text → Finds place text piece next
  finds piece next next_is place_is text_of utf8 = record {
    place_is = place_is;
    within = omega (arith, ap length text_of, ap length text_is, length-append part.table.text (text_left new ++ tail.0));
    left = λ some. by_last is_last refl some;
    goes_on = omega (arith, moves, ap length text_of);
    utf8 = subst IsUtf8 (sym text_of) utf8;
  }
    where
      by_last : (b : Bool) → is_last ≡ b → is_some next ≡ true → length (string_bytes piece.text) < length text
      by_last true last some = absurd (false≢true (sym (ap is_some (next_is ∙ ap (λ b. if b then None else script_place new.lexer.place) last)) ∙ some))
      by_last false others some =
          omega (
            arith,
            ap length text_of,
            ap length text_is,
            length-append part.table.text (text_left new ++ tail.0),
            length-append (text_left new) tail.0,
            left_over others,
          )

  module _ (seen : Option ℕ) (unseen : is_last ≡ true → seen ≡ None) (seen_is : is_last ≡ false → (lines : List ℕ) → AreWholeLines text lines → seen ≡ Some (length lines - length part.table.text))
      (next : Option ScriptPlace) (next_is : next ≡ (if is_last then None else script_place new.lexer.place)) (goes_on : IfSome next (λ place. place_of place ≡ new.lexer.place))
      (full : is_last ≡ true → length new.lexer.text ≤ new.lexer.at)
      (ends : is_last ≡ true → length new.lexer.text ≤ new.lexer.at → (read : List ℕ) (errors : List LexicalError) (done : List OwnedStep) → HasRead vocabulary rules new [] read errors done
      → IsScriptParse vocabulary read errors (done ++ sent.Exit ∷ [])) where
    -- a place that isn't the front
    inside_by : (q : ScriptPlace) → script_place new.lexer.place ≡ Some q → script_place new.lexer.place ≢ Some script.Front → begun_with q ≡ Inside
    inside_by script.Front is not = absurd (not is)
    inside_by (script.Inside waiting) is not = refl

    -- after a part of a text that others follow
    goes : is_last ≡ false → (p : Option ScriptPlace) → next ≡ p → is_some p ≡ true → GoesOn old new (length part.table.text) (length old.lexer.text - length part.table.text) next
    goes others None is e = absurd (false≢true e)
    goes others (Some q) is e =
        let there : script_place new.lexer.place ≡ Some q = sym (next_is ∙ ap (λ b. if b then None else script_place new.lexer.place) others) ∙ is in
        record {
          others = begins.is_last ∙ others;
          sees = omega (arith, ap length lines_are, length-append part.table.text (text_left new));
          place = q;
          next_is = is;
          same = subst (λ p. IfSome p (λ place. place_of place ≡ new.lexer.place)) is goes_on;
          inside = inside_by q there (reads.place (begins.is_last ∙ others));
        }

    can_go : is_last ≡ false → is_some next ≡ true
    can_go others =
        let ends = reads.statements.ends (begins.is_last ∙ others) in
        ap is_some (next_is ∙ ap (λ b. if b then None else script_place new.lexer.place) others)
        ∙ (and_parts (nat_lt new.lexer.at (length new.lexer.text)) (is_some (script_place new.lexer.place)) ends).1

    follows_by : (b : Bool) → is_last ≡ b → (rest : List ℕ) → (is_last ≡ true → rest ≡ []) → Follows vocabulary rules old new (length part.table.text) seen next (tail.0 ++ rest)
    follows_by true last rest none =
        subst (λ s. Follows vocabulary rules old new (length part.table.text) s next (tail.0 ++ rest)) (sym (unseen last))
        (record {
          last = begins.is_last ∙ last;
          none = next_is ∙ ap (λ b. if b then None else script_place new.lexer.place) last;
          nothing = ap (λ xs. xs ++ rest) no_tail ∙ none last;
          over = full last;
          parse = ends last (full last);
        })
      where
        no_tail : tail.0 ≡ []
        no_tail = nil_from_length tail.0 (omega (arith, ap length tail.1, length-append old.lexer.text tail.0, ap length (begins.all last)))
    follows_by false others rest none =
        subst (λ s. Follows vocabulary rules old new (length part.table.text) s next (tail.0 ++ rest)) (sym (seen_is others old.lexer.text (begins.lines others)))
        (goes others next refl (can_go others))

    module _ {Kept : Type 0} (keeps : ScriptPart → Kept → Type 0) (piece : Piece Kept) (place_is : piece.place ≡ place) (text_is : string_bytes piece.text ≡ part.table.text) (piece_seen : piece.seen ≡ seen) (kept : keeps part piece.kept) where
      pub is_piece : (rest : List ℕ) → (is_last ≡ true → rest ≡ []) → IsPiece keeps vocabulary rules piece next (text ++ rest)
      is_piece rest none = record {
        part = part;
        old = old;
        new = new;
        begun = begins.lexer ∙ ap (λ p. begun_at p old.lexer.text) (sym place_is);
        progress = begins.progress ∙ ap begun_with (sym place_is);
        reads = reads;
        text = text_is;
        kept = kept;
        rest = tail.0 ++ rest;
        left_is = ap (λ xs. xs ++ rest) tail.1 ∙ append_assoc old.lexer.text tail.0 rest;
        follows = subst (λ s. Follows vocabulary rules old new (length part.table.text) s next (tail.0 ++ rest)) (sym piece_seen) (follows_by is_last refl rest none);
      }

-- what is found in a front of a text is found in it
pub finds_more : {Kept : Type 0} (place : ScriptPlace) (front text : List ℕ) (piece : Piece Kept) (next : Option ScriptPlace) → length front ≤ length text → Finds place front piece next → Finds place text piece next
finds_more place front text piece next le found = record {
  place_is = found.place_is;
  within = omega (arith, found.within, le);
  left = λ some. omega (arith, found.left some, le);
  goes_on = found.goes_on;
  utf8 = found.utf8;
}

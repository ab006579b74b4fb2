-- A script before its texts.
use Rattle.std.proofs.Common.{◌≡◌, ◌∙◌, ◌⊎◌, ℕ, ◌+◌, ◌-◌, ◌^◌, ◌≤◌, Option, List, [], ◌∷◌, ◌++◌, ap, arith, drop, length, length-append, min, refl, subst, sym, take}
use Rattle.std.specs.Prelude.{Err, IsUtf8}
use Rattle.std.specs.Str.{IsValidUpTo}
use Rattle.std.specs.Io.KnownBytes.{Appends, Consumes}
use Rattle.std.proofs.Math.Seq.{drop-append-add, take-append-add}
use Rattle.std.proofs.lemmas.List.{append-nil}
use Rattle.std.proofs.lemmas.Str.{IsCharBoundary-from_take, IsUtf8-append, IsUtf8-drop}
use Rattle.squawk_table.specs.declared.shortcuts.str_step.OwnedStep.{OwnedStep}
use Rattle.squawk_table.specs.declared.shortcuts.str_step.OwnedStep.TheVariants.{Enter}
use Rattle.squawk_tokens.specs.LexicalErrors.{LexicalError}
use Rattle.sql_lexer.specs.declared.script.places.Place.{Place}
use Rattle.sql_lexer.specs.declared.script.script_place.ScriptPlace.TheVariants as script
use Rattle.sql_grammar.specs.Kinds.{SOURCE_FILE}
use Rattle.sql_grammar.specs.ReadParts.{ReadSoFar}
use Rattle.sql_grammar.specs.declared.script_parts.Progress.{Progress}
use Rattle.sql_grammar.specs.declared.script_parts.Progress.TheVariants.{Front, Inside}
use Rattle.sql_reader.specs.Readers.{Script}
use Rattle.sql_reader.specs.declared.script_reader.Input.TheVariants.{Open}
use Rattle.sql_report.specs.Places.{AreCountable, IsLineColumn}
use Rattle.sql_report.specs.declared.line_column.LineColumn.{LineColumn}
use Rattle.sql_tree.specs.OnTheWay.{HasTold, IsBefore, IsTelling, AfterScript}
use Rattle.sql_tree.specs.declared.options.Listing.{Listing}
use Rattle.sql_tree.specs.declared.sql.Sql.{Sql}
use Rattle.sql_tree.specs.declared.stop.Stop.TheVariants as stop
use Rattle.sql_tree.specs.declared.telling.Telling.{Telling}
use Rattle.sql_tree.specs.declared.unread.Unread.{Unread}
use Rattle.sql_tree.specs.declared.unread.Unread.TheVariants.{OutOfMemory}

-- before a text: what the reader gave is what left the memory, and what is in it
pub record InScript (sql : Sql) (listing : Listing) (name : List ℕ) (p p_now e e_now remaining : Option (List ℕ)) (s : Script) (before : LineColumn) (t : Telling) : Type 0 where
  pub gone : List ℕ
  pub passed_is : s.passed ≡ min (length gone) (2 ^ 64 - 1)
  pub consumes : Consumes remaining s.remaining (gone ++ (s.kept ++ s.unread))
  pub before_is : AreCountable gone → IsLineColumn gone before
  pub enough : (gone ≡ []) ⊎ (100 ≤ length s.kept)
  pub opened : s.input ≡ Open
  pub out : List ℕ
  pub errs : List ℕ
  pub prints : Appends p p_now out
  pub prints_errors : Appends e e_now errs
  pub telling : IsTelling sql listing name t
  pub told : IsBefore sql (gone ++ s.kept) s.unread s.place out errs t

-- ---- UTF-8

-- what is read of a script is text
pub utf8_read : (sql : Sql) (progress : Progress) (read left : List ℕ) (place : Place) (lexical : List LexicalError) (done : List OwnedStep)
    → ReadSoFar progress sql.vocabulary sql.rules read left place lexical done → IsUtf8 read
utf8_read sql Front read left place lexical done has = subst IsUtf8 (sym has.nothing) ([], (refl, refl))
utf8_read sql Inside read left place lexical done has = subst IsUtf8 has.text has.parsed.table.utf8

pub valid_behind : (front bytes : List ℕ) (n : ℕ) → IsUtf8 front → IsValidUpTo bytes n → IsValidUpTo (front ++ bytes) (length front + n)
valid_behind front bytes n utf8 valid = record {
  short = omega (arith, valid.short, length-append front bytes);
  front = subst IsUtf8 (sym (take-append-add front bytes n)) (IsUtf8-append front (take n bytes) utf8 valid.front);
  longest = λ m more u.
      let k = m - length front in
      let is : m ≡ length front + k = omega (arith, more) in
      let whole : IsUtf8 (front ++ take k bytes) = subst IsUtf8 (ap (λ m. take m (front ++ bytes)) is ∙ take-append-add front bytes k) u in
      let none : length front ≡ length front + 0 = omega arith in
      let begins : take (length front) (front ++ take k bytes) ≡ front = ap (λ n. take n (front ++ take k bytes)) none ∙ (take-append-add front (take k bytes) 0 ∙ append-nil front) in
      let rest : drop (length front) (front ++ take k bytes) ≡ take k bytes = ap (λ n. drop n (front ++ take k bytes)) none ∙ drop-append-add front (take k bytes) 0 in
      valid.longest k (omega (arith, more))
      (subst IsUtf8 rest
      (IsUtf8-drop (front ++ take k bytes) (length front) whole
      (IsCharBoundary-from_take (front ++ take k bytes) (length front) whole (omega (arith, length-append front (take k bytes))) (subst IsUtf8 (sym begins) utf8))));
}

-- ---- the front of a script

pub nothing_before : (sql : Sql) (t : Telling) → ((script : List ℕ) → HasTold script [] [] [] (Enter SOURCE_FILE ∷ []) t) → IsBefore sql [] [] script.Front [] [] t
nothing_before sql t begins = record {
  lexical = [];
  done = Enter SOURCE_FILE ∷ [];
  holds = λ rest short. (record { front = refl; nothing = refl; none = refl; entered = refl }, begins rest);
}

-- no other text is read
pub script_over : (sql : Sql) (listing : Listing) (name : List ℕ) (p p_now e e_now remaining : Option (List ℕ)) (s : Script) (before : LineColumn) (t : Telling)
    → InScript sql listing name p p_now e e_now remaining s before t → (next : Telling) (reason : Unread) → reason ≡ OutOfMemory
    → AfterScript remaining sql listing name p p_now e e_now next (Err (stop.Unread reason))
script_over sql listing name p p_now e e_now remaining s before t b next reason lost = record {
  script = b.gone ++ (s.kept ++ s.unread);
  after = s.remaining;
  read = b.consumes;
  end = tt;
  out = b.out;
  errs = b.errs;
  prints = b.prints;
  prints_errors = b.prints_errors;
  telling = tt;
  whole = tt;
  stays = λ some. absurd (some lost);
  stops = λ some. absurd (some lost);
}

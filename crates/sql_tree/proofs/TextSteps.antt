-- A text of a script, from its beginning and over its parts.
use Rattle.std.proofs.Common.{◌≡◌, ◌≢◌, ◌∙◌, ℕ, ◌+◌, ◌-◌, ◌^◌, ◌<◌, Bool, true, false, Option, List, [], ◌++◌, ap, append_assoc, arith, drop, length, length-append, map, min, refl, subst, sym}
use Rattle.std.specs.Io.KnownBytes.{Appends}
use Rattle.std.proofs.lemmas.Bool.{false≢true}
use Rattle.std.proofs.lemmas.List.Elements.{All-nil}
use Rattle.std.proofs.lemmas.List.{append-nil}
use Rattle.std.proofs.KnownBytes.{Appends-nil, Appends-trans}
use Rattle.squawk_tokens.specs.LexicalErrors.{shifted}
use Rattle.sql_lexer.specs.Lines.{EndsLine}
use Rattle.sql_lexer.specs.ScriptLexing.{Lexing, place_of, script_place}
use Rattle.sql_grammar.specs.Kinds.{SOURCE_FILE}
use Rattle.sql_grammar.specs.Parts.{moved_by}
use Rattle.sql_grammar.specs.ReadParts.{AreBefore, BeginsText, HasRead, ReadSoFar, Reading, ReadsPart, text_left}
use Rattle.sql_grammar.specs.declared.script_parts.ScriptPart.{ScriptPart}
use Rattle.sql_reader.specs.declared.script_text.ScriptText.{ScriptText}
use Rattle.sql_report.specs.Places.{Spot}
use Rattle.sql_report.specs.declared.line_column.LineColumn.{LineColumn}
use Rattle.sql_tree.specs.OnTheWay.{HasTold, IsBefore, IsTelling, IsTextIn, TellsMore}
use Rattle.sql_tree.specs.declared.options.Listing.{Listing}
use Rattle.sql_tree.specs.declared.sql.Sql.{Sql}
use Rattle.sql_tree.specs.declared.telling.Telling.{Telling}
use Rattle.sql_tree.proofs.TextParts.{HasTail, InText, begun_same, goes_on_behind, part_of, script_with, sizes, start_is, whole_now}

module _ (sql : Sql) (listing : Listing) (name read left out errs : List ℕ) (text : ScriptText) (before : LineColumn) (stands : IsTextIn read left before text) where
  -- the script goes on behind the part
  pub text_next : (old new : Reading) (part : ScriptPart) (t next : Telling) (place : Spot) (start in_window : ℕ) → place.window ≡ text.window.now → place.before ≡ before
      → in_window ≡ min (text.start + part.start) (2 ^ 64 - 1) → start ≡ min (text.passed + in_window) (2 ^ 64 - 1)
      → (old.is_last ≡ false → 0 < length old.lexer.text → EndsLine old.lexer.text) → ReadsPart sql.vocabulary sql.rules old new part
      → (printed p p_now printed_errors e e_now : Option (List ℕ)) (more more_errs : List ℕ) → Appends p p_now more → Appends e e_now more_errs
      → (IsTelling sql listing name t → IsTelling sql listing name next) → TellsMore place start in_window part more more_errs t next
      → InText sql listing name read left text out errs printed p printed_errors e old t → InText sql listing name read left text out errs printed p_now printed_errors e_now new next
  text_next old new part t next place start in_window is_window is_before moved starts lines reads printed p p_now printed_errors e e_now more more_errs prints prints_errors keeps tells b =
      let bytes = part.table.text in
      let n = length (read ++ b.front) in
      let lexical = b.lexical ++ map (shifted n) part.table.errors in
      let done = b.done ++ map (moved_by n) reads.inner in
      record {
        more = b.more ++ more;
        more_errs = b.more_errs ++ more_errs;
        prints = Appends-trans printed p p_now b.more more b.prints prints;
        prints_errors = Appends-trans printed_errors e e_now b.more_errs more_errs b.prints_errors prints_errors;
        telling = keeps b.telling;
        front = b.front ++ bytes;
        tail = b.tail;
        no_feed = b.no_feed;
        at = omega (arith, length-append b.front bytes, b.at, reads.start, reads.end);
        whole = whole_now sql listing name read left out errs text before stands old new part place start in_window is_window is_before moved starts lines reads b.front b.tail b.at b.whole;
        lines = reads.same.0 ∙ (b.lines ∙ (ap (λ l. b.front ++ l) reads.text ∙ sym (append_assoc b.front bytes (text_left new))));
        last = λ l. b.last (sym reads.same.1.1 ∙ l);
        goes_on = λ l.
            let was : old.is_last ≡ false = sym reads.same.1.1 ∙ l in
            goes_on_behind text.place new reads.inside (reads.statements.ends was) (reads.place was);
        lexical = lexical;
        done = done;
        holds = λ rest none short.
            let last : old.is_last ≡ true → rest ≡ [] = λ l. none (reads.same.1.1 ∙ l) in
            let h = b.holds rest last short in
            let behind = b.tail ++ (left ++ rest) in
            let script = script_with read left text rest in
            let is_start = start_is sql listing name read left out errs text before stands old new part place start in_window is_window is_before moved starts lines reads b.front b.tail b.at b.whole rest last short in
            let no_rest : old.is_last ≡ true → behind ≡ [] = λ l. sym (append_assoc b.tail left rest) ∙ (ap (λ x. x ++ rest) (b.last l) ∙ last l) in
            let size = sizes sql listing name read left out errs text before stands old new part place start in_window is_window is_before moved starts lines reads b.front b.tail b.at b.whole rest in
            let has = reads.reads behind (read ++ b.front) b.lexical b.done no_rest h.0 (omega (arith, size, short, length-append read b.front)) in
            let stand : AreBefore start b.lexical b.done = subst (λ m. AreBefore m b.lexical b.done) (sym is_start) (reads.before behind (read ++ b.front) b.lexical b.done h.0) in
            let there = part_of sql listing name read left out errs text before stands old new part place start in_window is_window is_before moved starts lines reads b.front b.tail b.at b.whole rest last short in
            let told = tells sql listing name script stands.passed rest (out ++ b.more) (errs ++ b.more_errs) b.lexical b.done reads.inner SOURCE_FILE b.telling there short reads.sent_is stand h.1 in
            let told_out = subst
            (λ o. HasTold script o ((errs ++ b.more_errs) ++ more_errs) (b.lexical ++ map (shifted start) part.table.errors) (b.done ++ map (moved_by start) reads.inner) next)
            (append_assoc out b.more more) told in
            let told_errs = subst
            (λ o. HasTold script (out ++ (b.more ++ more)) o (b.lexical ++ map (shifted start) part.table.errors) (b.done ++ map (moved_by start) reads.inner) next)
            (append_assoc errs b.more_errs more_errs) told_out in (
              subst (λ r. HasRead sql.vocabulary sql.rules new behind r lexical done) (append_assoc read b.front bytes) has,
              subst
                  (λ m. HasTold script (out ++ (b.more ++ more)) (errs ++ (b.more_errs ++ more_errs)) (b.lexical ++ map (shifted m) part.table.errors) (b.done ++ map (moved_by m) reads.inner) next)
                  is_start told_errs,
            );
      }

  -- nothing of the text is read
  pub text_begins : (parts : Reading) (t : Telling) (is_last : Bool) (p e : Option (List ℕ)) → BeginsText text.text.now text.place is_last parts → (is_last ≡ true → left ≡ [])
      → IsTelling sql listing name t → IsBefore sql read (text.text.now ++ left) text.place out errs t → InText sql listing name read left text out errs p p e e parts t
  text_begins parts t is_last p e begins none telling b =
      let all : text_left parts ≡ parts.lexer.text = ap (λ (l : Lexing). drop l.at l.text) begins.lexer in
      let place : parts.lexer.place ≡ place_of text.place = ap (λ (l : Lexing). l.place) begins.lexer in
      let ends = tail_of is_last refl in
      record {
        more = [];
        more_errs = [];
        prints = Appends-nil p;
        prints_errors = Appends-nil e;
        telling = telling;
        front = [];
        tail = ends.tail;
        no_feed = ends.no_feed;
        at = sym (ap (λ (l : Lexing). l.at) begins.lexer);
        whole = ends.whole ∙ ap (λ l. l ++ ends.tail) (sym all);
        lines = sym all;
        last = λ l. ends.none (sym begins.is_last ∙ l);
        goes_on = λ l. record {
          none = λ n. (sym place, sym begins.progress);
          some = λ q is. begun_same text.place q (ap script_place (sym place) ∙ is) ∙ sym begins.progress;
        };
        lexical = b.lexical;
        done = b.done;
        holds = λ rest last short.
            let same : read ++ ((text.text.now ++ left) ++ rest) ≡ script_with read left text rest = ap (λ l. read ++ l) (append_assoc text.text.now left rest) in
            let h = b.holds rest (omega (arith, short, ap length same)) in
            let behind : (text.text.now ++ left) ++ rest ≡ text_left parts ++ (ends.tail ++ (left ++ rest)) =
            append_assoc text.text.now left rest
            ∙ (ap (λ l. l ++ (left ++ rest)) ends.whole ∙ (append_assoc parts.lexer.text ends.tail (left ++ rest) ∙ ap (λ l. l ++ (ends.tail ++ (left ++ rest))) (sym all))) in
            let so_far = subst (λ r. ReadSoFar parts.progress sql.vocabulary sql.rules r (text_left parts ++ (ends.tail ++ (left ++ rest))) parts.lexer.place b.lexical b.done) (sym (append-nil read))
            (subst (λ q. ReadSoFar parts.progress sql.vocabulary sql.rules read (text_left parts ++ (ends.tail ++ (left ++ rest))) q b.lexical b.done) (sym place)
            (subst (λ l. ReadSoFar parts.progress sql.vocabulary sql.rules read l (place_of text.place) b.lexical b.done) behind
            (subst (λ q. ReadSoFar q sql.vocabulary sql.rules read ((text.text.now ++ left) ++ rest) (place_of text.place) b.lexical b.done) (sym begins.progress) h.0))) in (
              (sql.keywords, so_far),
              subst (λ o. HasTold (script_with read left text rest) o (errs ++ []) b.lexical b.done t) (sym (append-nil out))
                  (subst (λ o. HasTold (script_with read left text rest) out o b.lexical b.done t) (sym (append-nil errs)) (subst (λ s. HasTold s out errs b.lexical b.done t) same h.1)),
            );
      }
    where
      tail_of : (v : Bool) → is_last ≡ v → HasTail text.text.now parts.lexer.text left is_last
      tail_of true is = record { tail = []; whole = sym (begins.all is) ∙ sym (append-nil parts.lexer.text); none = λ l. none is; no_feed = All-nil (λ b. b ≢ 10) }
      tail_of false is =
          let lines = begins.lines is in
          record { tail = lines.rest; whole = lines.whole; none = λ l. absurd (false≢true (sym is ∙ l)); no_feed = lines.none }

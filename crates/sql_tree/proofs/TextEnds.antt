-- What is told of a text at its end, or where it isn't told on.
use Rattle.std.proofs.Common.{◌≡◌, ◌≢◌, ◌∙◌, ℕ, ◌+◌, ◌≤◌, Bool, true, false, Option, None, Some, List, [], ◌∷◌, ◌++◌, ap, append_assoc, arith, drop, length, length-append, refl, subst, sym, take}
use Rattle.std.specs.Prelude.{Err, IfSome, Ok, unwrap_or}
use Rattle.std.specs.declared.io.Error.{Error}
use Rattle.std.specs.Io.KnownBytes.{Appends}
use Rattle.std.proofs.Math.Seq.{drop-append-add, take-append-add}
use Rattle.std.proofs.lemmas.Bool.{false≢true}
use Rattle.std.proofs.lemmas.List.{append-nil, drop_all, take-append-drop}
use Rattle.std.proofs.KnownBytes.{Appends-nil}
use Rattle.squawk_parser.specs.declared.parser.parse_error.ParseError.{ParseError}
use Rattle.squawk_parser.specs.declared.parser.parse_error.ParseError.TheVariants as parse
use Rattle.squawk_table.specs.declared.shortcuts.str_step.OwnedStep.{OwnedStep}
use Rattle.squawk_table.specs.declared.shortcuts.str_step.OwnedStep.TheVariants.{Exit}
use Rattle.squawk_tokens.specs.LexicalErrors.{LexicalError}
use Rattle.sql_lexer.specs.ScriptLexing.{place_of, script_place}
use Rattle.sql_lexer.specs.declared.script.places.Place.{Place}
use Rattle.sql_lexer.specs.declared.script.script_place.ScriptPlace.{ScriptPlace}
use Rattle.sql_lexer.specs.Tokens.{RefusesText as RefusesTokens}
use Rattle.sql_lexer.specs.declared.tokenizer.TokenizeError.{TokenizeError}
use Rattle.sql_lexer.specs.declared.tokenizer.TokenizeError.TheVariants as lexer
use Rattle.sql_grammar.specs.ReadParts.{HasRead, IsRefusedPart, IsScriptParse, NoneLeft, ReadSoFar, Reading, begun_with, text_left}
use Rattle.sql_reader.specs.declared.script_text.Next.TheVariants.{End}
use Rattle.sql_reader.specs.declared.script_text.ScriptText.{ScriptText}
use Rattle.sql_report.specs.declared.line_column.LineColumn.{LineColumn}
use Rattle.sql_tree.specs.OnTheWay.{HasTold, HasToldFront, HasToldWhole, IsBefore, IsTelling, IsTextIn, AfterText}
use Rattle.sql_tree.specs.Refusals.{unread_of_lexer, unread_of_parse}
use Rattle.sql_tree.specs.Reports.{IsFront, IsRefusedIn, ReadsAll, StopsScript}
use Rattle.sql_tree.specs.declared.options.Listing.{Listing}
use Rattle.sql_tree.specs.declared.sql.Sql.{Sql}
use Rattle.sql_tree.specs.declared.stop.Stop.TheVariants as stop
use Rattle.sql_tree.specs.declared.telling.Telling.{Telling}
use Rattle.sql_tree.specs.declared.unread.Unread.{Unread}
use Rattle.sql_tree.specs.declared.unread.Unread.TheVariants.{OutOfMemory}
use Rattle.sql_tree.proofs.TextParts.{GoesOnAt, InText, script_with}

module _ (sql : Sql) (listing : Listing) (name read left out errs : List ℕ) (text : ScriptText) (before : LineColumn) (stands : IsTextIn read left before text) where
  module _ (parts : Reading) (t : Telling) (p p_now e e_now : Option (List ℕ)) (b : InText sql listing name read left text out errs p p_now e e_now parts t) where
    taken : (n : ℕ) → n ≡ parts.lexer.at → take n text.text.now ≡ b.front
    taken n is =
        let len : n ≡ length b.front + 0 = omega (arith, is, b.at) in
        ap (λ n. take n text.text.now) len
        ∙ (ap (take (length b.front + 0)) b.whole ∙ (take-append-add b.front (text_left parts ++ b.tail) 0 ∙ append-nil b.front))

    dropped : (n : ℕ) → n ≡ parts.lexer.at → drop n text.text.now ≡ text_left parts ++ b.tail
    dropped n is =
        let len : n ≡ length b.front + 0 = omega (arith, is, b.at) in
        ap (λ n. drop n text.text.now) len ∙ (ap (drop (length b.front + 0)) b.whole ∙ drop-append-add b.front (text_left parts ++ b.tail) 0)

    -- other texts follow
    pub text_more : (place : ScriptPlace) (n : ℕ) → n ≡ parts.lexer.at → parts.is_last ≡ false → place_of place ≡ parts.lexer.place → begun_with place ≡ parts.progress
        → IsBefore sql (read ++ take n text.text.now) (drop n text.text.now ++ left) place (out ++ b.more) (errs ++ b.more_errs) t
    text_more place n is other same begun = record {
      lexical = b.lexical;
      done = b.done;
      holds = λ rest short.
          let behind : (drop n text.text.now ++ left) ++ rest ≡ text_left parts ++ (b.tail ++ (left ++ rest)) =
          append_assoc (drop n text.text.now) left rest ∙ (ap (λ l. l ++ (left ++ rest)) (dropped n is) ∙ append_assoc (text_left parts) b.tail (left ++ rest)) in
          let script : (read ++ take n text.text.now) ++ ((drop n text.text.now ++ left) ++ rest) ≡ script_with read left text rest =
          append_assoc read (take n text.text.now) ((drop n text.text.now ++ left) ++ rest)
          ∙ ap (λ l. read ++ l)
          (ap (λ l. take n text.text.now ++ l) (append_assoc (drop n text.text.now) left rest)
          ∙ (sym (append_assoc (take n text.text.now) (drop n text.text.now) (left ++ rest)) ∙ ap (λ l. l ++ (left ++ rest)) (take-append-drop n text.text.now))) in
          let h = b.holds rest (λ l. absurd (false≢true (sym other ∙ l))) (omega (arith, short, ap length script)) in (
            subst (λ r. ReadSoFar (begun_with place) sql.vocabulary sql.rules r ((drop n text.text.now ++ left) ++ rest) (place_of place) b.lexical b.done) (ap (λ l. read ++ l) (sym (taken n is)))
                (subst (λ q. ReadSoFar (begun_with place) sql.vocabulary sql.rules (read ++ b.front) ((drop n text.text.now ++ left) ++ rest) q b.lexical b.done) (sym same)
                (subst (λ l. ReadSoFar (begun_with place) sql.vocabulary sql.rules (read ++ b.front) l parts.lexer.place b.lexical b.done) (sym behind)
                (subst (λ q. ReadSoFar q sql.vocabulary sql.rules (read ++ b.front) (text_left parts ++ (b.tail ++ (left ++ rest))) parts.lexer.place b.lexical b.done) (sym begun) h.0.1))),
            subst (λ s. HasTold s (out ++ b.more) (errs ++ b.more_errs) b.lexical b.done t) (sym script) h.1,
          );
    }

    -- as far as it is read
    front_is : length (read ++ (text.text.now ++ left)) ≤ 4294967295 → IsFront sql (read ++ (text.text.now ++ left)) b.lexical b.done
    front_is short =
        let same : script_with read left text [] ≡ read ++ (text.text.now ++ left) = ap (λ l. read ++ (text.text.now ++ l)) (append-nil left) in
        let h = b.holds [] (λ l. refl) (omega (arith, short, ap length same)) in
        let behind = text_left parts ++ (b.tail ++ (left ++ [])) in
        record {
          read = read ++ b.front;
          left = behind;
          script_is = sym same
              ∙ (ap (λ l. read ++ (l ++ (left ++ []))) b.whole
              ∙ (ap (λ l. read ++ l) (append_assoc b.front (text_left parts ++ b.tail) (left ++ []) ∙ ap (λ l. b.front ++ l) (append_assoc (text_left parts) b.tail (left ++ [])))
              ∙ sym (append_assoc read b.front behind)));
          progress = parts.progress;
          place = parts.lexer.place;
          so_far = h.0.1;
        }

    told_is : length (read ++ (text.text.now ++ left)) ≤ 4294967295 → HasTold (read ++ (text.text.now ++ left)) (out ++ b.more) (errs ++ b.more_errs) b.lexical b.done t
    told_is short =
        let same : script_with read left text [] ≡ read ++ (text.text.now ++ left) = ap (λ l. read ++ (text.text.now ++ l)) (append-nil left) in
        let h = b.holds [] (λ l. refl) (omega (arith, short, ap length same)) in
        subst (λ s. HasTold s (out ++ b.more) (errs ++ b.more_errs) b.lexical b.done t) same h.1

    text_front : (reason : Unread) → ((others : List ℕ) (place : Place) → ReadsAll (read ++ (text.text.now ++ left)) others place reason)
        → length (read ++ (text.text.now ++ left)) ≤ 4294967295 → HasToldFront sql (read ++ (text.text.now ++ left)) (out ++ b.more) (errs ++ b.more_errs) reason t
    text_front reason all short = record {
      lexical = b.lexical;
      done = b.done;
      front = front_is short;
      all_read = all (front_is short).left (front_is short).place;
      told = told_is short;
    }

    -- all of the script
    pub text_whole : parts.is_last ≡ true → length parts.lexer.text ≤ parts.lexer.at
        → ((read : List ℕ) (errors : List LexicalError) (done : List OwnedStep) → HasRead sql.vocabulary sql.rules parts [] read errors done → IsScriptParse sql.vocabulary read errors (done ++ Exit ∷ []))
        → length (read ++ (text.text.now ++ left)) ≤ 4294967295 → HasToldWhole sql (read ++ (text.text.now ++ left)) (out ++ b.more) (errs ++ b.more_errs) t
    text_whole last end parses short =
        let same : script_with read left text [] ≡ read ++ (text.text.now ++ left) = ap (λ l. read ++ (text.text.now ++ l)) (append-nil left) in
        let h = b.holds [] (λ l. refl) (omega (arith, short, ap length same)) in
        let none : b.tail ++ (left ++ []) ≡ [] = ap (λ l. b.tail ++ l) (append-nil left) ∙ b.last last in
        let all : read ++ b.front ≡ read ++ (text.text.now ++ left) =
        ap (λ l. read ++ l)
        (sym (append-nil b.front)
        ∙ (ap (λ l. b.front ++ l) (sym (b.last last))
        ∙ (ap (λ l. b.front ++ (l ++ (b.tail ++ left))) (sym (drop_all parts.lexer.at parts.lexer.text end))
        ∙ (ap (λ l. b.front ++ l) (sym (append_assoc (text_left parts) b.tail left)) ∙ (sym (append_assoc b.front (text_left parts ++ b.tail) left) ∙ ap (λ l. l ++ left) (sym b.whole)))))) in
        record {
          lexical = b.lexical;
          done = b.done;
          parse = subst (λ r. IsScriptParse sql.vocabulary r b.lexical (b.done ++ Exit ∷ [])) all
              (parses (read ++ b.front) b.lexical b.done (subst (λ r. HasRead sql.vocabulary sql.rules parts r (read ++ b.front) b.lexical b.done) none h.0));
          front = front_is short;
          told = told_is short;
        }

    -- the parse of a part is refused
    pub text_refused : (why : ParseError) → (why ≢ parse.OutOfMemory → IsRefusedPart sql.vocabulary parts.begun parts.lexer.text why)
        → AfterText sql listing name read left text out errs p p_now e e_now t (Err (stop.Unread (unread_of_parse why)))
    text_refused why refused = record {
      more = b.more;
      more_errs = b.more_errs;
      prints = b.prints;
      prints_errors = b.prints_errors;
      within = tt;
      telling = tt;
      goes_on = tt;
      full = tt;
      ends = tt;
      stays = λ some. b.telling;
      stops = λ some short. (stops why refused some, text_front (unread_of_parse why) (no_fault why) short);
    }
      where
        no_fault : (why : ParseError) (others : List ℕ) (place : Place) → ReadsAll (read ++ (text.text.now ++ left)) others place (unread_of_parse why)
        no_fault parse.OutOfMemory others place = tt
        no_fault parse.TooManyEvents others place = tt
        no_fault parse.TooManyErrors others place = tt

        in_script : (why : ParseError) → IsRefusedPart sql.vocabulary parts.begun parts.lexer.text why → IsRefusedIn sql (read ++ (text.text.now ++ left)) why
        in_script why refused = record {
          before = read;
          text = parts.lexer.text;
          after = b.tail ++ left;
          script_is = ap (λ l. read ++ l)
              (ap (λ l. l ++ left) (b.whole ∙ (sym (append_assoc b.front (text_left parts) b.tail) ∙ ap (λ l. l ++ b.tail) (sym b.lines))) ∙ append_assoc parts.lexer.text b.tail left);
          place = parts.begun;
          refused = refused;
        }

        stops : (why : ParseError) → (why ≢ parse.OutOfMemory → IsRefusedPart sql.vocabulary parts.begun parts.lexer.text why) → unread_of_parse why ≢ OutOfMemory
            → StopsScript sql (read ++ (text.text.now ++ left)) (unread_of_parse why)
        stops parse.OutOfMemory refused some = tt
        stops parse.TooManyEvents refused some = in_script parse.TooManyEvents (refused (λ e. cc e))
        stops parse.TooManyErrors refused some = in_script parse.TooManyErrors (refused (λ e. cc e))

    -- memory is wanting for a part
    pub text_lost : (next : Telling) (p_then e_then : Option (List ℕ)) (reason : Unread) → reason ≡ OutOfMemory → p_then ≡ p_now → e_then ≡ e_now
        → AfterText sql listing name read left text out errs p p_then e e_then next (Err (stop.Unread reason))
    text_lost next p_then e_then reason lost same same_errors = record {
      more = b.more;
      more_errs = b.more_errs;
      prints = subst (λ q. Appends p q b.more) (sym same) b.prints;
      prints_errors = subst (λ q. Appends e q b.more_errs) (sym same_errors) b.prints_errors;
      within = tt;
      telling = tt;
      goes_on = tt;
      full = tt;
      ends = tt;
      stays = λ some. absurd (some lost);
      stops = λ some short. absurd (some lost);
    }

    -- all parts are told
    pub text_told : (n : ℕ) (found : Option ScriptPlace) → n ≡ parts.lexer.at → found ≡ script_place parts.lexer.place → IfSome found (λ place. place_of place ≡ parts.lexer.place)
        → (parts.is_last ≡ true → text.next ≡ End) → (text.next ≡ End → parts.is_last ≡ true) → NoneLeft parts.is_last parts.lexer
        → (parts.is_last ≡ true → length parts.lexer.text ≤ parts.lexer.at → (read : List ℕ) (errors : List LexicalError) (done : List OwnedStep) → HasRead sql.vocabulary sql.rules parts [] read errors done
        → IsScriptParse sql.vocabulary read errors (done ++ Exit ∷ []))
        → AfterText sql listing name read left text out errs p p_now e e_now t (Ok (n, unwrap_or found text.place))
    text_told n found is found_is goes last end none parses = record {
      more = b.more;
      more_errs = b.more_errs;
      prints = b.prints;
      prints_errors = b.prints_errors;
      within = omega (arith, is, b.at, ap length b.whole, length-append b.front (text_left parts ++ b.tail));
      telling = b.telling;
      goes_on = λ other.
          let more : parts.is_last ≡ false = not_last parts.is_last (λ l. other (last l)) in
          let place = next_place found found_is goes (b.goes_on more) in
          text_more (unwrap_or found text.place) n is more place.0 place.1;
      full = λ other.
          let more : parts.is_last ≡ false = not_last parts.is_last (λ l. other (last l)) in
          record {
            lexer = parts.lexer;
            tail = b.tail;
            left_is = ap (λ l. l ++ left) (dropped n is) ∙ append_assoc (text_left parts) b.tail left;
            place_is = sym (next_place found found_is goes (b.goes_on more)).0;
            none = subst (λ v. NoneLeft v parts.lexer) more none;
            no_feed = b.no_feed;
          };
      ends = λ e short.
          let l = end e in
          let over : length parts.lexer.text ≤ parts.lexer.at = subst (λ v. NoneLeft v parts.lexer) l none in
          text_whole l over (parses l over) short;
      stays = tt;
      stops = tt;
    }
      where
        not_last : (v : Bool) → (v ≡ true → ⊥) → v ≡ false
        not_last true never = absurd (never refl)
        not_last false never = refl

        next_place : (found : Option ScriptPlace) → found ≡ script_place parts.lexer.place → IfSome found (λ place. place_of place ≡ parts.lexer.place) → GoesOnAt text.place parts
            → (place_of (unwrap_or found text.place) ≡ parts.lexer.place) × (begun_with (unwrap_or found text.place) ≡ parts.progress)
        next_place None is goes at = at.none (sym is)
        next_place (Some place) is goes at = (goes, at.some place (sym is))

  -- nothing is told of a text
  pub text_unread : (why : TokenizeError) → RefusesTokens text.text.now why → (t : Telling) (p e : Option (List ℕ)) → IsTelling sql listing name t
      → AfterText sql listing name read left text out errs p p e e t (Err (stop.Unread (unread_of_lexer why)))
  text_unread why refused t p e telling = record {
    more = [];
    more_errs = [];
    prints = Appends-nil p;
    prints_errors = Appends-nil e;
    within = tt;
    telling = tt;
    goes_on = tt;
    full = tt;
    ends = tt;
    stays = λ some. telling;
    stops = λ some short. absurd (never why refused some short);
  }
    where
      never : (why : TokenizeError) → RefusesTokens text.text.now why → unread_of_lexer why ≢ OutOfMemory → length (read ++ (text.text.now ++ left)) ≤ 4294967295 → ⊥
      never lexer.TextTooLong long some short = omega (arith, long, short, length-append read (text.text.now ++ left), length-append text.text.now left)
      never lexer.OutOfMemory long some short = some refl

  -- a text can't be printed
  pub text_unprinted : (error : Error) (t : Telling) (p p_now e e_now : Option (List ℕ)) → AfterText sql listing name read left text out errs p p_now e e_now t (Err (stop.Output error))
  text_unprinted error t p p_now e e_now = record {
    more = [];
    more_errs = [];
    prints = tt;
    prints_errors = tt;
    within = tt;
    telling = tt;
    goes_on = tt;
    full = tt;
    ends = tt;
    stays = tt;
    stops = tt;
  }

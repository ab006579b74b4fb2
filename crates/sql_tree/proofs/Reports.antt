-- What is told of a script of which nothing is, of one of which the telling ends, and of one that is read from memory.
use Rattle.std.proofs.Common.{◌≡◌, ◌≢◌, ◌∙◌, ◌≤◌, ℕ, List, [], ◌∷◌, ◌++◌, None, Some, ap, append-nil, arith, drop, length, refl, subst, sym}
use Rattle.std.specs.Prelude.{Err, IfErr, IfOk, IsErrAnd, Ok, Option, Result}
use Rattle.std.specs.Io.KnownBytes.{Appends, Consumes, IsAtEnd}
use Rattle.std.proofs.KnownBytes.{Appends-nil, Appends-trans}
use Rattle.std.proofs.lemmas.Option.{none-some, same_Some}
use Rattle.squawk_table.specs.declared.shortcuts.str_step.OwnedStep.{OwnedStep}
use Rattle.squawk_table.specs.declared.shortcuts.str_step.OwnedStep.TheVariants.{Enter}
use Rattle.squawk_tokens.specs.LexicalErrors.{LexicalError}
use Rattle.sql_lexer.specs.ScriptLexing.{place_of}
use Rattle.sql_lexer.specs.Tokens.{RefusesText}
use Rattle.sql_lexer.specs.declared.tokenizer.TokenizeError.{TokenizeError}
use Rattle.sql_lexer.specs.declared.tokenizer.TokenizeError.TheVariants as lexer
use Rattle.sql_lexer.specs.declared.script.script_place.ScriptPlace.TheVariants as script_place
use Rattle.sql_grammar.specs.Kinds.{SOURCE_FILE}
use Rattle.sql_grammar.specs.declared.script_parts.Progress.TheVariants.{Front}
use Rattle.sql_tree.specs.Listings.{raw_lines}
use Rattle.sql_tree.specs.OnTheWay.{HasTold, HasToldFront, HasToldWhole, IfUnread, IsTelling, AfterScript}
use Rattle.sql_tree.specs.Refusals.{unread_of_lexer}
use Rattle.sql_tree.specs.Reports.{IsPrinted, IsTold, IsToldOf, ReadsAll, StopsScript}
use Rattle.sql_tree.specs.Told.{TellsParts, TellsReader, unread_report}
use Rattle.sql_tree.specs.declared.options.Listing.{Listing}
use Rattle.sql_tree.specs.declared.options.Listing.TheVariants.{Tree, Statements, Json, Tokens, Quiet}
use Rattle.sql_tree.specs.declared.report.Report.{Report}
use Rattle.sql_tree.specs.declared.sql.Sql.{Sql}
use Rattle.sql_tree.specs.declared.stop.Stop.{Stop}
use Rattle.sql_tree.specs.declared.stop.Stop.TheVariants as stop
use Rattle.sql_tree.specs.declared.telling.Telling.{Telling}
use Rattle.sql_tree.specs.declared.unread.Unread.{Unread}
use Rattle.sql_tree.specs.declared.unread.Unread.TheVariants.{Io, NotUtf8, TextTooLong, TooManyEvents, TooManyErrors, OutOfMemory}

-- ---- why

-- Any reason stops a script that does if it isn't want of memory.
stops_by : (sql : Sql) (script : List ℕ) (reason : Unread) → (reason ≢ OutOfMemory → StopsScript sql script reason) → StopsScript sql script reason
stops_by sql script (Io kind) why = tt
stops_by sql script (NotUtf8 at) why = why (λ same. let p = same in cc)
stops_by sql script TextTooLong why = why (λ same. let p = same in cc)
stops_by sql script TooManyEvents why = why (λ same. let p = same in cc)
stops_by sql script TooManyErrors why = why (λ same. let p = same in cc)
stops_by sql script OutOfMemory why = tt

-- the reason in a report
stops_for : (sql : Sql) (script : List ℕ) (one : Unread) → StopsScript sql script one → (reason : Unread) → Some one ≡ Some reason → StopsScript sql script reason
stops_for sql script one why reason same = subst (StopsScript sql script) (same_Some one reason same) why

-- At want of memory nothing is said of what was told.
no_memory : (sql : Sql) (listing : Listing) (name script out errs : List ℕ) (report : Report) → report.unread ≡ Some OutOfMemory → IsToldOf sql listing name script out errs report
no_memory sql listing name script out errs report is = record {
  told = λ other. absurd (other is);
  stops = λ reason same. stops_for sql script OutOfMemory tt reason (sym is ∙ same);
}

-- what the lexer refuses, where it can
pub stops_lexer : (sql : Sql) (script : List ℕ) (error : TokenizeError) → RefusesText script error → length script ≤ 4294967295 → StopsScript sql script (unread_of_lexer error)
stops_lexer sql script lexer.TextTooLong refused short = absurd (omega (arith, refused, short))
stops_lexer sql script lexer.OutOfMemory refused short = tt

-- ---- nothing is told

told_nothing : (sql : Sql) (name script : List ℕ) (reason : Unread) → IsTold sql Tokens name script [] [] (unread_report reason)
told_nothing sql name script reason = record {
  lexical = [];
  done = Enter SOURCE_FILE ∷ [];
  front = record { read = []; left = script; script_is = refl; progress = Front; place = place_of script_place.Front; so_far = record { front = refl; nothing = refl; none = refl; entered = refl } };
  whole = λ none. absurd (none-some reason (sym none));
  all_read = λ why same other. absurd (other refl);
  printed = record {
    findings = [];
    in_order = record { gathered = []; tell = refl; same = record { moves = []; below = tt; is = refl }; sorted = λ k d low high. absurd (omega (arith, high)); stable = λ x. refl };
    errors = refl;
    errors_counted = refl;
    list = refl;
    values = λ json. let p = json in cc;
    statements_counted = λ loud. refl;
  };
}

-- of a text that a reader gave
tells_nothing : (remaining after : Option (List ℕ)) (sql : Sql) (name bytes : List ℕ) (reason : Unread) → Consumes remaining after bytes
    → (length bytes ≤ 4294967295 → StopsScript sql bytes reason) → TellsReader remaining sql Tokens name [] [] (unread_report reason)
tells_nothing remaining after sql name bytes reason read why = record {
  listed = [];
  parts = record {
    script = bytes;
    after = after;
    read = read;
    end = λ none. absurd (none-some reason (sym none));
    told = λ short. record { told = λ other. told_nothing sql name bytes reason; stops = stops_for sql bytes reason (why short) };
  };
  raw = [];
  raw_is = λ none. absurd (none-some reason (sym none));
  none = λ other. refl;
  out_is = refl;
}

-- of a script, at want of memory
pub parts_unread : (remaining after : Option (List ℕ)) (sql : Sql) (listing : Listing) (name script out errs : List ℕ) (reason : Unread) → reason ≡ OutOfMemory → Consumes remaining after script
    → TellsParts remaining sql listing name out errs (unread_report reason)
parts_unread remaining after sql listing name script out errs reason is read = record {
  script = script;
  after = after;
  read = read;
  end = λ none. absurd (none-some reason (sym none));
  told = λ short. no_memory sql listing name script out errs (unread_report reason) (ap Some is);
}

-- ---- a telling ends

-- what is printed at its end
abbrev Finishes : Telling → List ℕ → ℕ → ℕ → Type 0
Finishes t more statement_count error_count = (sql : Sql) (listing : Listing) (name script out errs : List ℕ) (lexical : List LexicalError) (done : List OwnedStep) → IsTelling sql listing name t
    → HasTold script out errs lexical done t → IsPrinted sql listing name script (out ++ more) errs lexical done statement_count error_count

-- ---- what a clause says

-- What is printed is what is told of a script.
abbrev pub PrintsScript : Option (List ℕ) → Sql → Listing → List ℕ → Option (List ℕ) → Option (List ℕ) → Option (List ℕ) → Option (List ℕ) → Report → Type 0
PrintsScript remaining sql listing name printed printed_now printed_errors printed_errors_now report =
    (out errs : List ℕ) × (Appends printed printed_now out × (Appends printed_errors printed_errors_now errs × TellsParts remaining sql listing name out errs report))

-- the same, of a text that a reader gives
abbrev pub PrintsText : Option (List ℕ) → Sql → Listing → List ℕ → Option (List ℕ) → Option (List ℕ) → Option (List ℕ) → Option (List ℕ) → Report → Type 0
PrintsText remaining sql listing name printed printed_now printed_errors printed_errors_now report =
    (out errs : List ℕ) × (Appends printed printed_now out × (Appends printed_errors printed_errors_now errs × TellsReader remaining sql listing name out errs report))

-- Nothing is printed, for a reason, of a text that a reader gave.
pub nothing_printed : (remaining after : Option (List ℕ)) (sql : Sql) (name bytes : List ℕ) (printed printed_errors : Option (List ℕ)) (reason : Unread) → Consumes remaining after bytes
    → (length bytes ≤ 4294967295 → StopsScript sql bytes reason) → PrintsText remaining sql Tokens name printed printed printed_errors printed_errors (unread_report reason)
nothing_printed remaining after sql name bytes printed printed_errors reason read why = (
  [],
  [],
  (Appends-nil printed, (Appends-nil printed_errors, tells_nothing remaining after sql name bytes reason read why)),
)

-- what an error hands on
pub unread_as : {A : Type 0} (r : Result A Stop) (why : Stop) (P : Unread → Type 0) → IsErrAnd r (λ error. error ≡ why) → IfUnread why P → IfErr r (λ error. IfUnread error P)
unread_as (Ok a) why P is holds = absurd is
unread_as (Err error) why P is holds = subst (λ why. IfUnread why P) (sym is) holds

pub if_unread : (why : Stop) (P Q : Unread → Type 0) → ((reason : Unread) → P reason → Q reason) → IfUnread why P → IfUnread why Q
if_unread (stop.Unread reason) P Q f holds = f reason holds
if_unread (stop.Output error) P Q f holds = tt

pub unread_weaker : {A : Type 0} (r : Result A Stop) (P Q : Unread → Type 0) → ((reason : Unread) → P reason → Q reason) → IfErr r (λ error. IfUnread error P) → IfErr r (λ error. IfUnread error Q)
unread_weaker (Ok a) P Q f holds = tt
unread_weaker (Err error) P Q f holds = if_unread error P Q f holds

-- ---- a telling ends

module _ (remaining : Option (List ℕ)) (sql : Sql) (listing : Listing) (name : List ℕ) (printed printed_then printed_now printed_errors printed_errors_then printed_errors_now : Option (List ℕ)) (t : Telling)
    (same : printed_errors_now ≡ printed_errors_then) where
  -- the whole script is read
  whole_told : (more : List ℕ) (statement_count error_count : ℕ) → AfterScript remaining sql listing name printed printed_then printed_errors printed_errors_then t (Ok tt)
      → Appends printed_then printed_now more → Finishes t more statement_count error_count
      → PrintsScript remaining sql listing name printed printed_now printed_errors printed_errors_now (record { statement_count = statement_count; error_count = error_count; unread = None })
  whole_told more statement_count error_count tells prints finishes = (
    tells.out ++ more,
    tells.errs,
    (
      Appends-trans printed printed_then printed_now tells.out more tells.prints prints,
      (
        subst (λ now. Appends printed_errors now tells.errs) (sym same) tells.prints_errors,
        record {
          script = tells.script;
          after = tells.after;
          read = tells.read;
          end = λ none. tells.end;
          told = λ short.
              let whole : HasToldWhole sql tells.script tells.out tells.errs t = tells.whole short in
              record {
                told = λ other. record {
                  lexical = whole.lexical;
                  done = whole.done;
                  front = whole.front;
                  whole = λ none. whole.parse;
                  all_read = λ reason none other. absurd (none-some reason none);
                  printed = finishes sql listing name tells.script tells.out tells.errs whole.lexical whole.done tells.telling whole.told;
                };
                stops = λ reason none. absurd (none-some reason none);
              };
        },
      ),
    ),
  )

  -- it isn't read to its end
  front_told : (more : List ℕ) (statement_count error_count : ℕ) (reason : Unread)
      → AfterScript remaining sql listing name printed printed_then printed_errors printed_errors_then t (Err (stop.Unread reason))
      → Appends printed_then printed_now more → Finishes t more statement_count error_count
      → PrintsScript remaining sql listing name printed printed_now printed_errors printed_errors_now (record { statement_count = statement_count; error_count = error_count; unread = Some reason })
  front_told more statement_count error_count reason tells prints finishes = (
    tells.out ++ more,
    tells.errs,
    (
      Appends-trans printed printed_then printed_now tells.out more tells.prints prints,
      (
        subst (λ now. Appends printed_errors now tells.errs) (sym same) tells.prints_errors,
        record {
          script = tells.script;
          after = tells.after;
          read = tells.read;
          end = λ none. absurd (none-some reason (sym none));
          told = λ short. record {
            told = λ other.
                let known : reason ≢ OutOfMemory = λ same. other (ap Some same) in
                let front : HasToldFront sql tells.script tells.out tells.errs reason t = (tells.stops known short).1 in
                record {
                  lexical = front.lexical;
                  done = front.done;
                  front = front.front;
                  whole = λ none. absurd (none-some reason (sym none));
                  all_read = λ why is other. subst (ReadsAll tells.script front.front.left front.front.place) (same_Some reason why is) front.all_read;
                  printed = finishes sql listing name tells.script tells.out tells.errs front.lexical front.done (tells.stays known) front.told;
                };
            stops = stops_for sql tells.script reason (stops_by sql tells.script reason (λ known. (tells.stops known short).0));
          };
        },
      ),
    ),
  )

  -- its end isn't told, at want of memory
  unread_told : (script out errs : List ℕ) (after : Option (List ℕ)) (reason : Unread) → reason ≡ OutOfMemory → printed_now ≡ printed_then → Consumes remaining after script
      → Appends printed printed_then out → Appends printed_errors printed_errors_then errs
      → PrintsScript remaining sql listing name printed printed_now printed_errors printed_errors_now (unread_report reason)
  unread_told script out errs after reason memory nothing read prints prints_errors = (
    out,
    errs,
    (
      subst (λ now. Appends printed now out) (sym nothing) prints,
      (subst (λ now. Appends printed_errors now errs) (sym same) prints_errors, parts_unread remaining after sql listing name script out errs reason memory read),
    ),
  )

  module _ (result : Result Unit Stop) (tells : AfterScript remaining sql listing name printed printed_then printed_errors printed_errors_then t result) where
    -- by what the telling gave
    pub tells_whole : (unread : Option Unread) (more : List ℕ) (statement_count error_count : ℕ) → result ≡ Ok tt → unread ≡ None
        → Appends printed_then printed_now more → Finishes t more statement_count error_count
        → PrintsScript remaining sql listing name printed printed_now printed_errors printed_errors_now (record { statement_count = statement_count; error_count = error_count; unread = unread })
    tells_whole unread more statement_count error_count is none prints finishes =
        subst (λ unread. PrintsScript remaining sql listing name printed printed_now printed_errors printed_errors_now (record { statement_count = statement_count; error_count = error_count; unread = unread })) (sym none)
        (whole_told more statement_count error_count (subst (AfterScript remaining sql listing name printed printed_then printed_errors printed_errors_then t) is tells) prints finishes)

    pub tells_front : (unread : Option Unread) (more : List ℕ) (statement_count error_count : ℕ) (reason : Unread) → result ≡ Err (stop.Unread reason) → unread ≡ Some reason
        → Appends printed_then printed_now more → Finishes t more statement_count error_count
        → PrintsScript remaining sql listing name printed printed_now printed_errors printed_errors_now (record { statement_count = statement_count; error_count = error_count; unread = unread })
    tells_front unread more statement_count error_count reason is some prints finishes =
        subst (λ unread. PrintsScript remaining sql listing name printed printed_now printed_errors printed_errors_now (record { statement_count = statement_count; error_count = error_count; unread = unread })) (sym some)
        (front_told more statement_count error_count reason (subst (AfterScript remaining sql listing name printed printed_then printed_errors printed_errors_then t) is tells) prints finishes)

    -- at want of memory nothing else is printed, whatever the telling gave
    pub unread_whole : result ≡ Ok tt → (reason : Unread) → reason ≡ OutOfMemory → printed_now ≡ printed_then
        → PrintsScript remaining sql listing name printed printed_now printed_errors printed_errors_now (unread_report reason)
    unread_whole is reason memory nothing =
        let told : AfterScript remaining sql listing name printed printed_then printed_errors printed_errors_then t (Ok tt) =
        subst (AfterScript remaining sql listing name printed printed_then printed_errors printed_errors_then t) is tells in
        unread_told told.script told.out told.errs told.after reason memory nothing told.read told.prints told.prints_errors

    pub unread_front : (why : Unread) → result ≡ Err (stop.Unread why) → (reason : Unread) → reason ≡ OutOfMemory → printed_now ≡ printed_then
        → PrintsScript remaining sql listing name printed printed_now printed_errors printed_errors_now (unread_report reason)
    unread_front why is reason memory nothing =
        let told : AfterScript remaining sql listing name printed printed_then printed_errors printed_errors_then t (Err (stop.Unread why)) =
        subst (AfterScript remaining sql listing name printed printed_then printed_errors printed_errors_then t) is tells in
        unread_told told.script told.out told.errs told.after reason memory nothing told.read told.prints told.prints_errors

-- ---- a text

raw_none : (listing : Listing) (script : List ℕ) → listing ≢ Tokens → [] ≡ raw_lines listing script
raw_none Tree script other = refl
raw_none Statements script other = refl
raw_none Json script other = refl
raw_none Tokens script other = absurd (other refl)
raw_none Quiet script other = refl

-- Where raw tokens aren't asked for, the text is told of as a script.
tells_script : (remaining : Option (List ℕ)) (sql : Sql) (listing : Listing) (name out errs : List ℕ) (report : Report) → listing ≢ Tokens → TellsParts remaining sql listing name out errs report
    → TellsReader remaining sql listing name out errs report
tells_script remaining sql listing name out errs report other parts = record {
  listed = out;
  parts = parts;
  raw = [];
  raw_is = λ none. raw_none listing parts.script other;
  none = λ other. refl;
  out_is = refl;
}

-- What is read of bytes in memory is read of the reader that gave them all.
read_from : (old new after : Option (List ℕ)) (bytes script : List ℕ) → Consumes old new bytes → IsAtEnd new → Consumes (Some bytes) after script → Consumes old after script
read_from None new after bytes script read end from = tt
read_from (Some xs) None after bytes script read end from = absurd read
read_from (Some xs) (Some ys) None bytes script read end from = absurd from
read_from (Some xs) (Some ys) (Some zs) bytes script read end from = read ∙ (ap (λ l. bytes ++ l) end ∙ (append-nil bytes ∙ from))

-- To the end, it is all of them.
read_all : (after : Option (List ℕ)) (bytes script : List ℕ) → Consumes (Some bytes) after script → IsAtEnd after → bytes ≡ script
read_all None bytes script from end = absurd from
read_all (Some zs) bytes script from end = from ∙ (ap (λ l. script ++ l) end ∙ append-nil script)

-- the raw tokens, and then what is told of the script
tells_tokens : (remaining new : Option (List ℕ)) (sql : Sql) (name bytes raw out errs : List ℕ) (report : Report) → Consumes remaining new bytes → IsAtEnd new → raw ≡ raw_lines Tokens bytes
    → TellsParts (Some bytes) sql Tokens name out errs report → TellsReader remaining sql Tokens name (raw ++ out) errs report
tells_tokens remaining new sql name bytes raw out errs report read end raw_is parts = record {
  listed = out;
  parts = record { script = parts.script; after = parts.after; read = read_from remaining new parts.after bytes parts.script read end parts.read; end = parts.end; told = parts.told };
  raw = raw;
  raw_is = λ none. raw_is ∙ ap (raw_lines Tokens) (read_all parts.after bytes parts.script parts.read (parts.end none));
  none = λ other. absurd (other refl);
  out_is = refl;
}

-- the bytes that were read, as text
pub text_is : (old new bytes text : List ℕ) → old ≡ [] → bytes ≡ new → text ≡ bytes → drop (length old) new ≡ text
text_is old new bytes text none same is = ap (λ old. drop (length old) new) none ∙ sym (is ∙ same)

-- The raw tokens are printed, and then what is told of the script.
pub tells_more : (remaining new : Option (List ℕ)) (sql : Sql) (name bytes raw : List ℕ) (printed printed_then printed_now printed_errors printed_errors_then printed_errors_now : Option (List ℕ)) (report : Report)
    → Consumes remaining new bytes → IsAtEnd new → raw ≡ raw_lines Tokens bytes → Appends printed printed_then raw → printed_errors_then ≡ printed_errors
    → PrintsScript (Some bytes) sql Tokens name printed_then printed_now printed_errors_then printed_errors_now report → PrintsText remaining sql Tokens name printed printed_now printed_errors printed_errors_now report
tells_more remaining new sql name bytes raw printed printed_then printed_now printed_errors printed_errors_then printed_errors_now report read end raw_is prints same tells = (
  raw ++ tells.0,
  tells.1,
  (
    Appends-trans printed printed_then printed_now raw tells.0 prints tells.2.0,
    (subst (λ before. Appends before printed_errors_now tells.1) same tells.2.1.0, tells_tokens remaining new sql name bytes raw tells.0 tells.1 report read end raw_is tells.2.1.1),
  ),
)

-- without raw tokens, what is told of the script alone
pub prints_text : (remaining : Option (List ℕ)) (sql : Sql) (listing : Listing) (name : List ℕ) (printed printed_now printed_errors printed_errors_now : Option (List ℕ)) (report : Report) → listing ≢ Tokens
    → PrintsScript remaining sql listing name printed printed_now printed_errors printed_errors_now report → PrintsText remaining sql listing name printed printed_now printed_errors printed_errors_now report
prints_text remaining sql listing name printed printed_now printed_errors printed_errors_now report other tells =
    (tells.0, tells.1, (tells.2.0, (tells.2.1.0, tells_script remaining sql listing name tells.0 tells.1 report other tells.2.1.1)))

-- what a clause says of what is returned
pub ok_of : {A E : Type 0} (r told : Result A E) (P : A → Type 0) (a : A) → told ≡ r → told ≡ Ok a → IfOk r P → P a
ok_of r told P a same is holds = subst (λ r. IfOk r P) (sym same ∙ is) holds

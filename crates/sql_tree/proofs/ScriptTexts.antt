-- A script, text by text.
use Rattle.std.proofs.Common.{◌≡◌, ◌≢◌, ◌∙◌, ◌⊎◌, inl, inr, ℕ, ◌+◌, ◌-◌, ◌^◌, ◌<◌, ◌≤◌, Option, List, [], ◌∷◌, ◌++◌, ap, append_assoc, arith, drop, length, length-append, length-take, min, refl, subst, sym, take}
use Rattle.std.specs.Prelude.{Err, IsUtf8, Ok, Result}
use Rattle.std.specs.Str.{IsValidUpTo}
use Rattle.std.specs.Io.KnownBytes.{Consumes}
use Rattle.std.proofs.KnownBytes.{Appends-trans, Consumes-trans}
use Rattle.std.proofs.lemmas.Bool.{cases_lt}
use Rattle.std.proofs.lemmas.List.{append-nil, drop-append-le, take-append-drop, take-append-le}
use Rattle.sql_lexer.specs.ScriptLexing.{place_of}
use Rattle.sql_lexer.specs.declared.script.script_place.ScriptPlace.{ScriptPlace}
use Rattle.sql_grammar.specs.ReadParts.{ReadSoFar, begun_with}
use Rattle.sql_reader.specs.Readers.{GoesOn, IsNext, IsTextOf, ReadsOn, Script, leaving}
use Rattle.sql_reader.specs.declared.read_error.ReadError.{ReadError}
use Rattle.sql_reader.specs.declared.read_error.ReadError.TheVariants as reader
use Rattle.sql_reader.specs.declared.script_reader.Input.TheVariants.{Ended, Open}
use Rattle.sql_reader.specs.declared.script_text.Next.TheVariants.{End, Fault, More}
use Rattle.sql_reader.specs.declared.script_text.ScriptText.{ScriptText}
use Rattle.sql_report.specs.Places.{AreCountable, IsLineColumn}
use Rattle.sql_report.specs.declared.line_column.LineColumn.{LineColumn}
use Rattle.sql_tree.specs.OnTheWay.{HasTold, HasToldFront, IsBefore, IsTelling, IsTextIn, AfterScript, AfterText}
use Rattle.sql_tree.specs.Refusals.{unread_of_reader}
use Rattle.sql_tree.specs.Reports.{IsAllRead, ReadsAll, StopsScript}
use Rattle.sql_tree.specs.declared.options.Listing.{Listing}
use Rattle.sql_tree.specs.declared.sql.Sql.{Sql}
use Rattle.sql_tree.specs.declared.stop.Stop.{Stop}
use Rattle.sql_tree.specs.declared.stop.Stop.TheVariants as stop
use Rattle.sql_tree.specs.declared.telling.Telling.{Telling}
use Rattle.sql_tree.specs.declared.unread.Unread.{Unread}
use Rattle.sql_tree.specs.declared.unread.Unread.TheVariants.{OutOfMemory}
use Rattle.sql_tree.proofs.ScriptFronts.{InScript, utf8_read, valid_behind}

module _ (sql : Sql) (listing : Listing) (name : List ℕ) (p p_now e e_now remaining : Option (List ℕ)) (old s : Script) (before : LineColumn) (t : Telling)
    (b : InScript sql listing name p p_now e e_now remaining old before t) (reads : ReadsOn old s) where
  abbrev read : List ℕ
  read = b.gone ++ old.kept

  given : Consumes remaining s.remaining (b.gone ++ (s.kept ++ s.unread))
  given =
      subst (Consumes remaining s.remaining)
      (append_assoc b.gone (old.kept ++ old.unread) reads.more
      ∙ ap (λ l. b.gone ++ l) (append_assoc old.kept old.unread reads.more ∙ (ap (λ l. l ++ (old.unread ++ reads.more)) (sym reads.kept) ∙ ap (λ l. s.kept ++ l) (sym reads.unread))))
      (Consumes-trans remaining old.remaining s.remaining (b.gone ++ (old.kept ++ old.unread)) reads.more b.consumes reads.consumes)

  -- memory is wanting
  pub script_lost : (next : Telling) (reason : Unread) → reason ≡ OutOfMemory → AfterScript remaining sql listing name p p_now e e_now next (Err (stop.Unread reason))
  script_lost next reason lost = record {
    script = b.gone ++ (s.kept ++ s.unread);
    after = s.remaining;
    read = given;
    end = tt;
    out = b.out;
    errs = b.errs;
    prints = b.prints;
    prints_errors = b.prints_errors;
    telling = tt;
    whole = tt;
    stays = λ some. absurd (some lost);
    stops = λ some. absurd (some lost);
  }

  module _ (text : ScriptText) (is : IsTextOf s text) where
    abbrev all : List ℕ
    all = read ++ (text.text.now ++ is.left)

    all_given : b.gone ++ (s.kept ++ s.unread) ≡ all
    all_given = sym (append_assoc b.gone s.kept s.unread) ∙ (ap (λ l. (b.gone ++ l) ++ s.unread) reads.kept ∙ ap (λ l. read ++ l) is.unread)

    pub stands_in : IsTextIn read is.left before text
    stands_in = record {
      passed = b.gone;
      window = ap (λ l. b.gone ++ l) is.window ∙ all_given;
      starts = omega (arith, is.start, ap length reads.kept, length-append b.gone old.kept);
      passed_is = is.passed ∙ (reads.passed ∙ b.passed_is);
      before_is = b.before_is;
      enough = enough b.enough;
    }
      where
        enough : (b.gone ≡ []) ⊎ (100 ≤ length old.kept) → (b.gone ≡ []) ⊎ (100 ≤ text.start)
        enough (inl none) = inl none
        enough (inr some) = inr (omega (arith, some, is.start, ap length reads.kept))

    pub told_before : IsBefore sql read (text.text.now ++ is.left) text.place b.out b.errs t
    told_before =
        let unread : old.unread ++ reads.more ≡ text.text.now ++ is.left = sym reads.unread ∙ is.unread in
        let place : old.place ≡ text.place = sym reads.place ∙ sym is.place in
        record {
          lexical = b.told.lexical;
          done = b.told.done;
          holds = λ rest short.
              let same : old.unread ++ (reads.more ++ rest) ≡ (text.text.now ++ is.left) ++ rest = sym (append_assoc old.unread reads.more rest) ∙ ap (λ l. l ++ rest) unread in
              let h = b.told.holds (reads.more ++ rest) (omega (arith, short, ap length same, length-append read (old.unread ++ (reads.more ++ rest)), length-append read ((text.text.now ++ is.left) ++ rest))) in (
                subst (λ q. ReadSoFar (begun_with q) sql.vocabulary sql.rules read ((text.text.now ++ is.left) ++ rest) (place_of q) b.told.lexical b.told.done) place
                    (subst (λ l. ReadSoFar (begun_with old.place) sql.vocabulary sql.rules read l (place_of old.place) b.told.lexical b.told.done) same h.0),
                subst (λ l. HasTold (read ++ l) b.out b.errs b.told.lexical b.told.done t) same h.1,
              );
        }

    pub ends_with : text.next ≡ End → is.left ≡ []
    ends_with end = (subst (λ next. IsNext s.input (min (s.passed + length s.kept + length text.text.now) (2 ^ 64 - 1)) is.left next) end is.next).1

    module _ (next : Telling) (p_then e_then : Option (List ℕ)) where
      abbrev Tells : Result (ℕ × ScriptPlace) Stop → Type 0
      Tells result = AfterText sql listing name read is.left text b.out b.errs p_now p_then e_now e_then next result

      -- what is known of it, whatever was told before
      abbrev Known : Result (ℕ × ScriptPlace) Stop → Type 0
      Known result =
          (sql : Sql) (listing : Listing) (name read left out errs : List ℕ) → IsTelling sql listing name t → IsTextIn read left before text → (text.next ≡ End → left ≡ [])
          → IsBefore sql read (text.text.now ++ left) text.place out errs t → AfterText sql listing name read left text out errs p_now p_then e_now e_then next result

      tells_here : (result : Result (ℕ × ScriptPlace) Stop) → Known result → Tells result
      tells_here result known = known sql listing name read is.left b.out b.errs b.telling stands_in ends_with told_before

      stops : (why : Stop) → Tells (Err why) → AfterScript remaining sql listing name p p_then e e_then next (Err why)
      stops (stop.Unread reason) tells = record {
        script = all;
        after = s.remaining;
        read = subst (Consumes remaining s.remaining) all_given given;
        end = tt;
        out = b.out ++ tells.more;
        errs = b.errs ++ tells.more_errs;
        prints = Appends-trans p p_now p_then b.out tells.more b.prints tells.prints;
        prints_errors = Appends-trans e e_now e_then b.errs tells.more_errs b.prints_errors tells.prints_errors;
        telling = tt;
        whole = tt;
        stays = tells.stays;
        stops = λ some short. tells.stops some short;
      }
      stops (stop.Output error) tells = record {
        script = all;
        after = s.remaining;
        read = subst (Consumes remaining s.remaining) all_given given;
        end = tt;
        out = [];
        errs = [];
        prints = tt;
        prints_errors = tt;
        telling = tt;
        whole = tt;
        stays = tt;
        stops = tt;
      }

      -- a text stops the script
      pub script_stops : (why : Stop) → Known (Err why) → AfterScript remaining sql listing name p p_then e e_then next (Err why)
      script_stops why known = stops why (tells_here (Err why) known)

      module _ (count : ℕ) (place : ScriptPlace) (known : Known (Ok (count, place))) where
        tells : Tells (Ok (count, place))
        tells = tells_here (Ok (count, place)) known

        -- the script ends
        pub script_ends : text.next ≡ End → (result : Result Unit Stop) → result ≡ Ok tt → AfterScript remaining sql listing name p p_then e e_then next result
        script_ends end result ok =
            let input : s.input ≡ Ended = (subst (λ n. IsNext s.input (min (s.passed + length s.kept + length text.text.now) (2 ^ 64 - 1)) is.left n) end is.next).0 in
            subst (AfterScript remaining sql listing name p p_then e e_then next) (sym ok)
            (record {
              script = all;
              after = s.remaining;
              read = subst (Consumes remaining s.remaining) all_given given;
              end = reads.ended b.opened input;
              out = b.out ++ tells.more;
              errs = b.errs ++ tells.more_errs;
              prints = Appends-trans p p_now p_then b.out tells.more b.prints tells.prints;
              prints_errors = Appends-trans e e_now e_then b.errs tells.more_errs b.prints_errors tells.prints_errors;
              telling = tells.telling;
              whole = tells.ends end;
              stays = tt;
              stops = tt;
            })

        -- it can't be read on
        pub script_faults : (error : ReadError) → text.next ≡ Fault error → AfterScript remaining sql listing name p p_then e e_then next (Err (stop.Unread (unread_of_reader error)))
        script_faults error fault =
            let on = tells.goes_on (λ end. let never = sym fault ∙ end in cc never) in
            let same : (read ++ take count text.text.now) ++ ((drop count text.text.now ++ is.left) ++ []) ≡ all =
            ap (λ l. (read ++ take count text.text.now) ++ l) (append-nil (drop count text.text.now ++ is.left))
            ∙ (append_assoc read (take count text.text.now) (drop count text.text.now ++ is.left)
            ∙ ap (λ l. read ++ l) (sym (append_assoc (take count text.text.now) (drop count text.text.now) is.left) ∙ ap (λ l. l ++ is.left) (take-append-drop count text.text.now))) in
            let front : length all ≤ 4294967295 → HasToldFront sql all (b.out ++ tells.more) (b.errs ++ tells.more_errs) (unread_of_reader error) next = λ short.
            let h = on.holds [] (omega (arith, short, ap length same)) in
            record {
              lexical = on.lexical;
              done = on.done;
              front = record {
                read = read ++ take count text.text.now;
                left = (drop count text.text.now ++ is.left) ++ [];
                script_is = sym same;
                progress = begun_with place;
                place = place_of place;
                so_far = h.0;
              };
              all_read = read_up error fault short;
              told = subst (λ s. HasTold s (b.out ++ tells.more) (b.errs ++ tells.more_errs) on.lexical on.done next) same h.1;
            } in
            record {
              script = all;
              after = s.remaining;
              read = subst (Consumes remaining s.remaining) all_given given;
              end = tt;
              out = b.out ++ tells.more;
              errs = b.errs ++ tells.more_errs;
              prints = Appends-trans p p_now p_then b.out tells.more b.prints tells.prints;
              prints_errors = Appends-trans e e_now e_then b.errs tells.more_errs b.prints_errors tells.prints_errors;
              telling = tt;
              whole = tt;
              stays = λ some. tells.telling;
              stops = λ some short. (why error fault short, front short);
            }
          where
            utf8 : length all ≤ 4294967295 → IsUtf8 read
            utf8 short =
                let h = told_before.holds [] (omega (arith, short, ap (λ l. length (read ++ l)) (append-nil (text.text.now ++ is.left)))) in
                utf8_read sql (begun_with text.place) read ((text.text.now ++ is.left) ++ []) (place_of text.place) told_before.lexical told_before.done h.0

            read_up : (error : ReadError) → text.next ≡ Fault error → length all ≤ 4294967295
                → ReadsAll all ((drop count text.text.now ++ is.left) ++ []) (place_of place) (unread_of_reader error)
            read_up error fault short = by error fault
              where
                full : (error : ReadError) → text.next ≡ Fault error → IsAllRead ((drop count text.text.now ++ is.left) ++ []) (place_of place) is.left
                full error fault =
                    subst (λ l. IsAllRead l (place_of place) is.left) (sym (append-nil (drop count text.text.now ++ is.left))) (tells.full (λ end. let never = sym fault ∙ end in cc never))

                by : (error : ReadError) → text.next ≡ Fault error → ReadsAll all ((drop count text.text.now ++ is.left) ++ []) (place_of place) (unread_of_reader error)
                by (reader.Io kind) fault =
                    let ends = subst (λ n. IsNext s.input (min (s.passed + length s.kept + length text.text.now) (2 ^ 64 - 1)) is.left n) fault is.next in
                    (is.left, (ends.1, full (reader.Io kind) fault))
                by (reader.NotUtf8 at) fault =
                    let bad = subst (λ n. IsNext s.input (min (s.passed + length s.kept + length text.text.now) (2 ^ 64 - 1)) is.left n) fault is.next in
                    let there : at + length is.left ≡ length all = omega (
                      arith,
                      bad.0,
                      reads.passed,
                      b.passed_is,
                      ap length reads.kept,
                      length-append b.gone old.kept,
                      short,
                      length-append read (text.text.now ++ is.left),
                      length-append text.text.now is.left,
                    ) in
                    (is.left, (there, full (reader.NotUtf8 at) fault))

            why : (error : ReadError) → text.next ≡ Fault error → length all ≤ 4294967295 → StopsScript sql all (unread_of_reader error)
            why (reader.Io kind) fault short = tt
            why (reader.NotUtf8 at) fault short =
                let bad = subst (λ n. IsNext s.input (min (s.passed + length s.kept + length text.text.now) (2 ^ 64 - 1)) is.left n) fault is.next in
                let valid : IsValidUpTo s.unread (length text.text.now) = longest is.longest bad.1.0 in
                let there : length read + length text.text.now ≡ at = omega (
                  arith,
                  bad.0,
                  reads.passed,
                  b.passed_is,
                  ap length reads.kept,
                  length-append b.gone old.kept,
                  short,
                  length-append read (text.text.now ++ is.left),
                  length-append text.text.now is.left,
                ) in
                subst (IsValidUpTo all) there (subst (λ l. IsValidUpTo (read ++ l) (length read + length text.text.now)) is.unread (valid_behind read s.unread (length text.text.now) (utf8 short) valid))
              where
                longest : (is.left ≡ []) ⊎ IsValidUpTo s.unread (length text.text.now) → 0 < length is.left → IsValidUpTo s.unread (length text.text.now)
                longest (inl none) some = absurd (omega (arith, some, ap length none))
                longest (inr valid) some = valid

        -- it is read on
        pub script_next : text.next ≡ More → (new : Script) → GoesOn s count place new → (now : LineColumn) (gone : List ℕ) → (text.start + count < 2 ^ 64 → gone ≡ take (leaving text.start count) text.window.now)
            → text.start + count < 2 ^ 64 → ((read : List ℕ) → IsLineColumn read before → AreCountable (read ++ gone) → IsLineColumn (read ++ gone) now)
            → InScript sql listing name p p_then e e_then remaining new now next
        script_next more new goes now gone leaves room passes =
            let n = leaving (length s.kept) count in
            let input : s.input ≡ Open = (subst (λ m. IsNext s.input (min (s.passed + length s.kept + length text.text.now) (2 ^ 64 - 1)) is.left m) more is.next).0 in
            let gone_is : gone ≡ take n (s.kept ++ s.unread) = leaves room ∙ (ap (λ k. take (leaving k count) text.window.now) is.start ∙ ap (take n) is.window) in
            let within : count ≤ length text.text.now = tells.within in
            let taken : take count s.unread ≡ take count text.text.now = ap (take count) is.unread ∙ take-append-le count text.text.now is.left within in
            let dropped : new.unread ≡ drop count text.text.now ++ is.left = goes.unread ∙ (ap (drop count) is.unread ∙ drop-append-le count text.text.now is.left within) in
            let read_now : (b.gone ++ gone) ++ new.kept ≡ read ++ take count text.text.now =
            append_assoc b.gone gone new.kept
            ∙ (ap (λ l. b.gone ++ (l ++ new.kept)) gone_is
            ∙ (ap (λ l. b.gone ++ l) (sym goes.kept)
            ∙ (ap (λ l. b.gone ++ (s.kept ++ l)) taken ∙ (ap (λ l. b.gone ++ (l ++ take count text.text.now)) reads.kept ∙ sym (append_assoc b.gone old.kept (take count text.text.now)))))) in
            let other : text.next ≢ End = λ end. let never = sym more ∙ end in cc never in
            let size : length gone ≡ n = ap length gone_is ∙ (length-take n (s.kept ++ s.unread) ∙ omega (arith, length-append s.kept s.unread, ap length is.unread, length-append text.text.now is.left, within)) in
            let sizes : length s.kept + count ≡ n + length new.kept = omega (
              arith,
              ap length goes.kept,
              length-append s.kept (take count s.unread),
              length-append (take n (s.kept ++ s.unread)) new.kept,
              ap length gone_is,
              size,
              length-take count s.unread,
              ap length is.unread,
              length-append text.text.now is.left,
              within,
            ) in
            record {
              gone = b.gone ++ gone;
              passed_is = omega (arith, goes.passed, reads.passed, b.passed_is, size, length-append b.gone gone);
              consumes = subst (λ r. Consumes remaining r ((b.gone ++ gone) ++ (new.kept ++ new.unread))) (sym goes.remaining)
                  (subst (Consumes remaining s.remaining)
                  (all_given
                  ∙ (ap (λ l. read ++ (l ++ is.left)) (sym (take-append-drop count text.text.now))
                  ∙ (ap (λ l. read ++ l) (append_assoc (take count text.text.now) (drop count text.text.now) is.left)
                  ∙ (sym (append_assoc read (take count text.text.now) (drop count text.text.now ++ is.left))
                  ∙ (ap (λ l. l ++ (drop count text.text.now ++ is.left)) (sym read_now)
                  ∙ (append_assoc (b.gone ++ gone) new.kept (drop count text.text.now ++ is.left) ∙ ap (λ l. (b.gone ++ gone) ++ (new.kept ++ l)) (sym dropped)))))))
                  given);
              before_is = λ countable. passes b.gone (b.before_is (omega (arith, countable, length-append b.gone gone))) countable;
              enough = enough b.enough size sizes;
              opened = goes.input ∙ input;
              out = b.out ++ tells.more;
              errs = b.errs ++ tells.more_errs;
              prints = Appends-trans p p_now p_then b.out tells.more b.prints tells.prints;
              prints_errors = Appends-trans e e_now e_then b.errs tells.more_errs b.prints_errors tells.prints_errors;
              telling = tells.telling;
              told = subst (λ r. IsBefore sql r new.unread new.place (b.out ++ tells.more) (b.errs ++ tells.more_errs) next) (sym read_now)
                  (subst (λ u. IsBefore sql (read ++ take count text.text.now) u new.place (b.out ++ tells.more) (b.errs ++ tells.more_errs) next) (sym dropped)
                  (subst (λ q. IsBefore sql (read ++ take count text.text.now) (drop count text.text.now ++ is.left) q (b.out ++ tells.more) (b.errs ++ tells.more_errs) next) (sym goes.place_is) (tells.goes_on other)));
            }
          where
            enough : (b.gone ≡ []) ⊎ (100 ≤ length old.kept) → length gone ≡ leaving (length s.kept) count → length s.kept + count ≡ leaving (length s.kept) count + length new.kept
                → (b.gone ++ gone ≡ []) ⊎ (100 ≤ length new.kept)
            enough (inr some) size sizes = inr (omega (arith, some, ap length reads.kept, sizes))
            enough (inl none) size sizes = elim (cases_lt (length new.kept) 100) [
              | inl few ↦ inl (ap (λ l. l ++ gone) none ∙ nothing gone (omega (arith, few, size, sizes)))
              | inr many ↦ inr many
            ]
              where
                nothing : (bytes : List ℕ) → length bytes ≡ 0 → bytes ≡ []
                nothing [] is = refl
                nothing (byte ∷ bytes) is = absurd (omega (arith, is))

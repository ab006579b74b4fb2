-- Texts of which is told, and one more.
use Rattle.std.proofs.Common.{◌≡◌, ◌∙◌, ℕ, ◌+◌, ◌<◌, ◌≤◌, List, [], ◌∷◌, ◌++◌, Bool, add-one, ap, get_or, length, map, refl, subst, sym, take}
use Rattle.std.specs.Prelude.{Err, IfErr, IfOk, Ok, Option, Result, fold}
use Rattle.std.specs.List.{flat_map}
use Rattle.std.specs.Io.KnownBytes.{Appends}
use Rattle.std.specs.IoError.{error_kind}
use Rattle.std.specs.declared.io.Error.{Error}
use Rattle.std.proofs.KnownBytes.{Appends-nil, Appends-trans}
use Rattle.std.proofs.lemmas.Grind.{flat_map-append}
use Rattle.std.proofs.lemmas.List.{append-nil, map-append, take_all}
use Rattle.std.proofs.Math.Seq.{take-suc}
use Rattle.std.specs.Borrow.{Bor}
use Rattle.std.proofs.lemmas.List.Elements.{All-append, All-cons, All-nil}
use Rattle.std.proofs.lemmas.List.Sums.{fold-append}
use Rattle.sql_tree.specs.Printed.{counted, heading, no_totals, reason_line}
use Rattle.sql_tree.specs.Told.{TellsReader, TellsText, TellsTexts, Told, unread_report}
use Rattle.sql_tree.specs.declared.options.Listing.{Listing}
use Rattle.sql_tree.specs.declared.report.Report.{Report}
use Rattle.sql_tree.specs.declared.sql.Sql.{Sql}
use Rattle.sql_tree.specs.declared.totals.Totals.{Totals}
use Rattle.sql_tree.specs.declared.unread.Unread.TheVariants.{Io}

-- what is told of a text before it is told why it isn't read to its end
pub record IsShown {R : Type 0} (remaining : R → Option (List ℕ)) (sql : Sql) (listing : Listing) (has_heading : Bool) (name : List ℕ) (opened : Result R Error) (report : Report)
    (out out_now errors errors_now : Option (List ℕ)) : Type 0 where
  pub more : List ℕ
  pub listed : List ℕ
  pub errs : List ℕ
  pub prints : Appends out out_now more
  pub prints_errors : Appends errors errors_now errs
  pub unopened : IfErr opened (λ error. (report ≡ unread_report (Io (error_kind error))) × ((more ≡ []) × (errs ≡ [])))
  pub is_opened : IfOk opened (λ reader. (more ≡ heading has_heading name ++ listed) × TellsReader (remaining reader) sql listing name listed errs report)

module _ {R : Type 0} (remaining : R → Option (List ℕ)) (sql : Sql) (listing : Listing) (has_heading : Bool) (name : List ℕ) where
  -- one that can't be opened
  pub shows_unopened : (opened : Result R Error) (error : Error) → opened ≡ Err error → (report : Report) → report ≡ unread_report (Io (error_kind error))
      → (out errors : Option (List ℕ)) → IsShown remaining sql listing has_heading name opened report out out errors errors
  shows_unopened opened error is report reported out errors =
      subst (λ o. IsShown remaining sql listing has_heading name o report out out errors errors) (sym is) record {
        more = [];
        listed = [];
        errs = [];
        prints = Appends-nil out;
        prints_errors = Appends-nil errors;
        unopened = (reported, (refl, refl));
        is_opened = tt;
      }

  -- one of which is told behind its heading
  pub shows_opened : (opened : Result R Error) (reader : R) → opened ≡ Ok reader → (report : Report) (out out_headed out_now errors errors_headed errors_now : Option (List ℕ))
      → Appends out out_headed (heading has_heading name) → errors_headed ≡ errors
      → (listed errs : List ℕ) × (Appends out_headed out_now listed × (Appends errors_headed errors_now errs × TellsReader (remaining reader) sql listing name listed errs report))
      → IsShown remaining sql listing has_heading name opened report out out_now errors errors_now
  shows_opened opened reader is report out out_headed out_now errors errors_headed errors_now headed same (listed, errs, (prints, (prints_errors, tells))) =
      subst (λ o. IsShown remaining sql listing has_heading name o report out out_now errors errors_now) (sym is) record {
        more = heading has_heading name ++ listed;
        listed = listed;
        errs = errs;
        prints = Appends-trans out out_headed out_now (heading has_heading name) listed headed prints;
        prints_errors = subst (λ o. Appends o errors_now errs) same prints_errors;
        unopened = tt;
        is_opened = (refl, tells);
      }

  -- then it is told why it isn't read to its end
  pub tells_why : (gives : List ℕ → Result R Error → Type 0) (opened : Result R Error) (report : Report) (out out_now errors errors_then errors_now : Option (List ℕ))
      → gives name opened → IsShown remaining sql listing has_heading name opened report out out_now errors errors_then
      → Appends errors_then errors_now (reason_line name report.unread)
      → (t : Told R) × ((t.name ≡ name) × ((t.report ≡ report) × (gives name t.opened × (TellsText remaining sql listing has_heading t
      × (Appends out out_now t.out × Appends errors errors_now t.errs)))))
  tells_why gives opened report out out_now errors errors_then errors_now gave is why = (
    record { name = name; opened = opened; out = is.more; errs = is.errs ++ reason_line name report.unread; report = report },
    (
      refl,
      (
        refl,
        (
          gave,
          (
            record { listed = is.listed; shown = is.errs; unopened = is.unopened; opened = is.is_opened; errs = refl },
            (is.prints, Appends-trans errors errors_then errors_now is.errs (reason_line name report.unread) is.prints_errors why),
          ),
        ),
      ),
    ),
  )

module _ {R : Type 0} (gives : List ℕ → Result R Error → Type 0) (remaining : R → Option (List ℕ)) (sql : Sql) (listing : Listing) (has_heading : Bool) where
  pub tells_none : (out errors : Option (List ℕ)) → TellsTexts gives remaining sql listing has_heading [] no_totals out out errors errors
  tells_none out errors = record {
    told = [];
    named = refl;
    gave = All-nil (λ t. gives t.name t.opened);
    tells = All-nil (TellsText remaining sql listing has_heading);
    counts = refl;
    prints = Appends-nil out;
    prints_errors = Appends-nil errors;
  }

  pub tells_more : (names : List (List ℕ)) (totals : Totals) (out out_then out_now errors errors_then errors_now : Option (List ℕ)) (one : Told R)
      → TellsTexts gives remaining sql listing has_heading names totals out out_then errors errors_then
      → gives one.name one.opened → TellsText remaining sql listing has_heading one
      → Appends out_then out_now one.out → Appends errors_then errors_now one.errs
      → TellsTexts gives remaining sql listing has_heading (names ++ one.name ∷ []) (counted totals one.report) out out_now errors errors_now
  tells_more names totals out out_then out_now errors errors_then errors_now one before gave tells prints prints_errors = record {
    told = before.told ++ one ∷ [];
    named = map-append (λ t. t.name) before.told (one ∷ []) ∙ ap (λ l. l ++ one.name ∷ []) before.named;
    gave = All-append (λ t. gives t.name t.opened) before.told (one ∷ []) before.gave (All-cons (λ t. gives t.name t.opened) one [] gave (All-nil (λ t. gives t.name t.opened)));
    tells = All-append (TellsText remaining sql listing has_heading) before.told (one ∷ []) before.tells (All-cons (TellsText remaining sql listing has_heading) one [] tells (All-nil (TellsText remaining sql listing has_heading)));
    counts = ap (λ all. counted all one.report) before.counts
        ∙ (sym (fold-append counted no_totals (map (λ t. t.report) before.told) (one.report ∷ []))
        ∙ ap (fold counted no_totals) (sym (map-append (λ t. t.report) before.told (one ∷ []))));
    prints = subst (Appends out out_now) (sym (flat_map-append (λ t. t.out) before.told (one ∷ []) ∙ ap (λ l. flat_map (λ t. t.out) before.told ++ l) (append-nil one.out)))
        (Appends-trans out out_then out_now _ _ before.prints prints);
    prints_errors = subst (Appends errors errors_now) (sym (flat_map-append (λ t. t.errs) before.told (one ∷ []) ∙ ap (λ l. flat_map (λ t. t.errs) before.told ++ l) (append-nil one.errs)))
        (Appends-trans errors errors_then errors_now _ _ before.prints_errors prints_errors);
  }

  -- the next of these names
  pub tells_next : (names : List (Bor (List ℕ))) (i : ℕ) (d : Bor (List ℕ)) → i < length names
      → (totals totals_now : Totals) (out out_then out_now errors errors_then errors_now : Option (List ℕ)) (report : Report)
      → TellsTexts gives remaining sql listing has_heading (map (λ name. name.now) (take i names)) totals out out_then errors errors_then
      → totals_now ≡ counted totals report
      → (one : Told R) × ((one.name ≡ (get_or names i d).now) × ((one.report ≡ report) × (gives (get_or names i d).now one.opened
      × (TellsText remaining sql listing has_heading one × (Appends out_then out_now one.out × Appends errors_then errors_now one.errs)))))
      → TellsTexts gives remaining sql listing has_heading (map (λ name. name.now) (take (i + 1) names)) totals_now out out_now errors errors_now
  tells_next names i d within totals totals_now out out_then out_now errors errors_then errors_now report before counts (one, (named, (reported, (gave, (tells, (prints, prints_errors)))))) =
      let e : map (λ name. name.now) (take (i + 1) names) ≡ map (λ name. name.now) (take i names) ++ one.name ∷ [] =
      ap (λ n. map (λ name. name.now) (take n names)) (add-one i)
      ∙ (ap (map (λ name. name.now)) (take-suc names i d within) ∙ (map-append (λ name. name.now) (take i names) (get_or names i d ∷ [])
      ∙ ap (λ name. map (λ name. name.now) (take i names) ++ name ∷ []) (sym named))) in
      let more = tells_more (map (λ name. name.now) (take i names)) totals out out_then out_now errors errors_then errors_now one before
      (subst (λ name. gives name one.opened) (sym named) gave) tells prints prints_errors in
      subst (λ t. TellsTexts gives remaining sql listing has_heading (map (λ name. name.now) (take (i + 1) names)) t out out_now errors errors_now)
      (ap (counted totals) reported ∙ sym counts)
      (subst (λ l. TellsTexts gives remaining sql listing has_heading l (counted totals one.report) out out_now errors errors_now) (sym e) more)

  -- all of them
  pub tells_end : (names : List (Bor (List ℕ))) (i : ℕ) → length names ≤ i → (headed : Bool) → has_heading ≡ headed
      → (totals : Totals) (out out_now errors errors_now : Option (List ℕ))
      → TellsTexts gives remaining sql listing has_heading (map (λ name. name.now) (take i names)) totals out out_now errors errors_now
      → TellsTexts gives remaining sql listing headed (map (λ name. name.now) names) totals out out_now errors errors_now
  tells_end names i end headed same totals out out_now errors errors_now before =
      subst (λ h. TellsTexts gives remaining sql listing h (map (λ name. name.now) names) totals out out_now errors errors_now) same
      (subst (λ l. TellsTexts gives remaining sql listing has_heading (map (λ name. name.now) l) totals out out_now errors errors_now) (take_all i names end) before)

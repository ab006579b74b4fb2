use Rattle.std.proofs.Common.{◌≡◌, ◌≢◌, ◌∙◌, ◌-◌, ◌^◌, [], ◌∷◌, ◌++◌, ap, length, min, subst, sym}
use Rattle.std.specs.Prelude.{string_bytes}
use Rattle.std.specs.Io.KnownBytes.{Appends}
use Rattle.std.proofs.lemmas.List.{append-nil}
use Rattle.squawk_kinds.specs.EngineNames.{names_of}
use Rattle.squawk_table.specs.declared.shortcuts.str_step.OwnedStep.TheVariants.{Exit}
use Rattle.sql_report.specs.Drawn.{drawn}
use Rattle.sql_report.specs.ErrorLines.{error_texts}
use Rattle.sql_report.specs.JsonTrees.{HasTreeLines}
use Rattle.sql_report.specs.Statements.{statements_of}
use Rattle.sql_tree.specs.Listings.{asked_for}
use Rattle.sql_tree.specs.OnTheWay.{listed_so_far}
use Rattle.sql_tree.specs.declared.options.Listing.TheVariants.{Quiet, Statements}
use Rattle.sql_tree.proofs.Lists.{all_listed, drawn_listed}
use Rattle.sql_tree.proofs.telling.Telling.finish.Goals as goal

pub returns-clause-finishes : goal.returns-clause-finishes
returns-clause-finishes g c =
    let self = c.args.self in
    let more = string_bytes c.in_ok-drawn.drawn in (
      more,
      (
        subst (Appends (g.W.Write.contents c.args.printer.now.out) (g.W.Write.contents c.print.new.self.out)) c.as_bytes.ensures.value c.in_ok-print.ensures.ok,
        λ sql listing name script out errs lexical done is told.
            let list = told.listed in
            let sent = done ++ Exit ∷ [] in
            let statements : listing ≢ Quiet → list.ended ≡ statements_of sent = λ some.
            sym ((list.counted (λ quiet. some (sym is.listing_is ∙ quiet))).0 (Exit ∷ []) ∙ append-nil list.ended) in
            let all : list.drawn ++ more ≡ drawn (asked_for listing) (names_of sql.names.items) sent =
            c.in_ok-drawn.ensures.drawn list.drawn done list.walked
            ∙ (ap (λ asked. drawn asked self.walk.kind_names sent) is.asked ∙ ap (λ names. drawn (asked_for listing) names sent) is.kind_names) in
            let out_is : out ≡ listed_so_far listing script (names_of sql.names.items) list.ended list.drawn =
            list.out_is
            ∙ (ap (λ l. listed_so_far l script self.lines.names list.ended list.drawn) is.listing_is ∙ ap (λ names. listed_so_far listing script names list.ended list.drawn) is.names) in
            record {
              findings = told.shown.findings;
              in_order = told.shown.in_order;
              errors = sym (append-nil errs)
                  ∙ (ap (λ l. errs ++ l) (sym told.none) ∙ (told.shown.lines ∙ ap (λ name. error_texts name script told.shown.findings) is.name_is));
              errors_counted = told.shown.count;
              list = all_listed sql script list.ended list.drawn more out sent listing statements all out_is;
              values = λ json table steps fits is_sent.
                  let other : listing ≢ Statements = λ e. let q = sym json ∙ e in cc in
                  let there = c.in_ok-drawn.ensures.values list.drawn done table steps list.walked (is.asked ∙ ap asked_for json) fits is_sent in
                  subst (λ names. HasTreeLines names sent (out ++ more)) is.kind_names
                  (subst (λ o. HasTreeLines self.walk.kind_names sent (o ++ more)) (sym (out_is ∙ drawn_listed listing script (names_of sql.names.items) list.ended list.drawn other)) there);
              statements_counted = λ some. (list.counted (λ quiet. some (sym is.listing_is ∙ quiet))).1 ∙ ap (λ l. min (length l) (2 ^ 64 - 1)) (statements some);
            },
      ),
    )

use Rattle.std.proofs.Common.{rules, ◌≡◌, ◌+◌, ◌∷◌, [], ℕ, Some, List, length, length-append, slice_get, ap, sym, subst, refl, ◌∙◌}
use Rattle.std.proofs.lemmas.Option.{slice_get_read}
use Rattle.rule_grammar.specs.Parts.{part_at}
use Rattle.rule_tables.specs.Forks.{IsFirstOpen}
use Rattle.rule_tables.specs.Rows.{ListsSome}
use Rattle.rule_tables.specs.Walks.{plan_of}
use Rattle.rule_tables.proofs.Longer.{extends_then}
use Rattle.rule_tables.proofs.Lists.{say_more}
use Rattle.rule_tables.proofs.Opened.{decided_more, first_open, told_open, up_more, up_to, way_here}
use Rattle.rule_tables.proofs.numbers.all_numbers.Goals as goal

pub numbers_of-requires-clause-row : goal.numbers_of-requires-clause-row
numbers_of-requires-clause-row c = slice_get_read c.args.map.now.rows.now _ c.loop-index.index _ refl c.loop-index-test.true c.row-item.is

pub numbers_of-requires-clause-way : goal.numbers_of-requires-clause-way
numbers_of-requires-clause-way c =
    let here : slice_get c.args.map.now.rows.now c.loop-index.index ≡ Some c.row-item.result = slice_get_read c.args.map.now.rows.now _ c.loop-index.index _ refl c.loop-index-test.true c.row-item.is in
    way_here (plan_of c.args.map.now) c.args.parts.now c.loop-index.index c.row-item.result c.in_ok-undecided.undecided c.in_ok-undecided.ensures.ok here (up_to c.loop-index.index c.in_ok-undecided.undecided c.loop-index.invariant.up c.in_ok-refuse.ensures.ok)

pub loop-index-preserved : goal.loop-index-preserved
loop-index-preserved c =
    let here : slice_get c.args.map.now.rows.now c.loop-index.index ≡ Some c.row-item.result = slice_get_read c.args.map.now.rows.now _ c.loop-index.index _ refl c.loop-index-test.true c.row-item.is in
    record {
      keeps = extends_then c.loop-index.invariant.keeps c.in_ok-numbers_of_row.ensures.keeps;
      len = ap length c.in_ok-push.ensures ∙ length-append c.loop-index.numbers.items (c.in_ok-numbers_of_row.numbers_of_row ∷ []) ∙ ap (λ (n : ℕ). n + 1) c.loop-index.invariant.len;
      decided = decided_more (plan_of c.args.map.now) c.args.parts.now c.loop-index.index c.row-item.result here c.loop-index.invariant.decided c.in_ok-numbers_of_row.ensures.decided;
      up = up_more c.loop-index.index c.in_ok-undecided.undecided c.loop-index.invariant.up c.in_ok-refuse.ensures.ok;
      say = subst (λ (items : List (List ℕ)). ListsSome (λ i. Some (part_at items i)) (c.loop-index.index + 1) c.args.map.now.rows.now) (sym c.in_ok-push.ensures)
          (say_more c.args.map.now.rows.now c.loop-index.numbers.items c.loop-index.index c.in_ok-numbers_of_row.numbers_of_row (sym c.loop-index.invariant.len) c.loop-index.invariant.say
          (here ∙ ap Some (sym c.in_ok-numbers_of_row.ensures.ok)));
    }

pub returns-in_err-numbers_of_row-clause-err : goal.returns-in_err-numbers_of_row-clause-err
returns-in_err-numbers_of_row-clause-err c =
    let here : slice_get c.args.map.now.rows.now c.loop-index.index ≡ Some c.row-item.result = slice_get_read c.args.map.now.rows.now _ c.loop-index.index _ refl c.loop-index-test.true c.row-item.is in
    let fault : IsFirstOpen (plan_of c.args.map.now) c.args.parts.now c.in_err-numbers_of_row.field-0.0 =
    first_open (plan_of c.args.map.now) c.args.parts.now c.loop-index.index c.row-item.result here c.loop-index.invariant.decided c.in_err-numbers_of_row.field-0.0 c.in_err-numbers_of_row.ensures.err in
    search rules

pub returns-in_err-refuse-clause-err : goal.returns-in_err-refuse-clause-err
returns-in_err-refuse-clause-err c =
    let fault : IsFirstOpen (plan_of c.args.map.now) c.args.parts.now c.in_err-refuse.field-0.0 =
    told_open (plan_of c.args.map.now) c.args.parts.now c.in_ok-undecided.undecided c.loop-index.index c.in_err-refuse.field-0.0 c.in_ok-undecided.ensures.ok.told c.loop-index.invariant.decided c.in_err-refuse.ensures.err in
    search rules

use Rattle.std.proofs.Common.{◌≡◌, ◌+◌, ◌∙◌, ℕ, List, [], ◌∷◌, ◌++◌, Option, Some, slice_get, slice_index_or, None, refl, sym, ap}
use Rattle.std.proofs.lemmas.Option.{get_or_from_slice_get, slice_get_read}
use Rattle.rule_grammar.specs.declared.part.Part.{Part}
use Rattle.rule_tables.specs.Maps.{AreLinked, at_goal, with_goal}
use Rattle.rule_tables.specs.Places.{goal_of, outer_of}
use Rattle.rule_tables.proofs.Linked.{linked_more}
use Rattle.rule_tables.proofs.map.links_of.Goals as goal

linked_next : (rows : List Part) (lasts lasts_after earlier earlier_after : List (Option ℕ)) (n : ℕ) (goal before : Option ℕ) (part : Part) → slice_get rows n ≡ Some part → goal ≡ goal_of rows n (Some part)
    → lasts_after ≡ with_goal goal n lasts → earlier_after ≡ earlier ++ before ∷ [] → before ≡ at_goal goal lasts → AreLinked rows lasts earlier n → AreLinked rows lasts_after earlier_after (n + 1)
linked_next rows lasts lasts_after earlier earlier_after n goal before part row is new more old linked =
    rw (new, more, old) (linked_more rows lasts earlier n goal (is ∙ ap (goal_of rows n) (sym row)) linked)

pub loop-index-preserved : goal.loop-index-preserved
loop-index-preserved c =
    let row : slice_get c.args.rows.now c.loop-index.index ≡ Some c.index-rows-index.result = slice_get_read c.args.rows.now _ c.loop-index.index _ refl c.loop-index-test.true c.index-rows-index.is in
    let outer : slice_index_or c.args.outers.now c.loop-index.index None ≡ outer_of c.args.rows.now c.loop-index.index = get_or_from_slice_get c.args.outers.now c.loop-index.index _ None (c.requires.are c.loop-index.index c.loop-index-test.true) in
    linked_next c.args.rows.now c.loop-index.lasts.items c.link-before.new.lasts.items c.loop-index.earlier.items c.push.new.list.items c.loop-index.index c.goal_of.result c.link-before.result c.index-rows-index.result row
    (c.goal_of.ensures c.args.rows.now c.loop-index.index outer) c.link-before.ensures.new c.in_ok-push.ensures c.link-before.ensures.last c.loop-index.invariant

use Rattle.std.proofs.Common.{◌∙◌, rules, arith, refl}
use Rattle.squawk_tree.specs.Forest.{Nothing}
use Rattle.syntax_tree.specs.Drafts.{Outside}
use Rattle.syntax_tree.proofs.Drafts.{IsDraft-new}
use Rattle.syntax_tree.proofs.BlockPlaces.{HasBlocks-none}
use Rattle.syntax_tree.proofs.builder.TreeBuilder.with_capacity.Goals as goal

pub invariant_of-result : goal.invariant_of-result
invariant_of-result c = record {
  grows = record {
    draft = Outside Nothing;
    is = IsDraft-new c.args.source.now c.reserve.new.self.items c.new.result.items (c.reserve.ensures.items ∙ c.new-room.ensures.items) c.new.ensures.items;
    utf8 = c.utf8.source;
    few = search rules;
    few_errors = search rules;
    short = omega arith;
  };
  places = HasBlocks-none c.room.result.items c.reserve.new.self.items c.room.ensures (c.reserve.ensures.items ∙ c.new-room.ensures.items);
}

pub returns-clause-after : goal.returns-clause-after
returns-clause-after c = record {
  draft = Outside Nothing;
  is = IsDraft-new c.args.source.now c.reserve.new.self.items c.new.result.items (c.reserve.ensures.items ∙ c.new-room.ensures.items) c.new.ensures.items;
  walk = refl;
}

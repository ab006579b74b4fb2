use Rattle.std.proofs.Common.{◌≢◌}
use Rattle.std.proofs.lemmas.List.Elements.{All-nil}
use Rattle.std.proofs.lemmas.Str.{IsCharBoundary-start}
use Rattle.squawk_kinds.specs.Kinds.{EOF}
use Rattle.squawk_table.proofs.lexed_str.builder.TableBuilder.with_capacity.Goals as goal

pub invariant_of-result : goal.invariant_of-result
invariant_of-result c = record {
  utf8 = c.utf8.text;
  no_end = rw c.in_ok-kinds.ensures.items (All-nil (λ kind. kind ≢ EOF));
  boundary = IsCharBoundary-start c.args.text.now c.utf8.text;
}

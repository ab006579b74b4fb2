use Rattle.std.proofs.Common.{◌≡◌, ◌≤◌, map}
use Rattle.squawk_parser.specs.CompositeForms.{element_of}
use Rattle.squawk_parser.specs.Composites.{sequence_length}
use Rattle.squawk_parser.proofs.CompositeLemmas.{length_with}
use Rattle.squawk_parser.proofs.parser.view.View.sequence_len.Given as goal

-- the parts so far have so many tokens, and no part has two
abbrev pub invariant-loop-part : goal.invariant-loop-part
invariant-loop-part l = record {
  all : length_with l.part-items l.self l.part-index l.len ≡ sequence_length (map element_of l.part-items) l.self;
  few : l.len ≤ l.part-index;
}

use Rattle.std.proofs.Common.{◌≡◌, ◌∙◌, ap, sym}
use Rattle.squawk_kinds.specs.Kinds.{EOF, R_PAREN}
use Rattle.squawk_parser.specs.CompositeForms.{tail_of}
use Rattle.squawk_parser.proofs.parser.Parser.close.Goals as goal

pub expect-requires-clause-end : goal.expect-requires-clause-end
expect-requires-clause-end c end =
    let is : c.in-ClosedBy.kind ≡ R_PAREN = c.requires.closed c.in-ClosedBy.kind (ap tail_of c.in-ClosedBy.is) in
    let no : R_PAREN ≡ EOF = sym is ∙ end in
    absurd (cc)

use Rattle.squawk_table.specs.RawTable.{raw_tokens}
use Rattle.squawk_table.specs.Shape.{no_keywords}
use Rattle.squawk_table.proofs.OverTable.{IsOver-keywords}
use Rattle.squawk_table.proofs.lexed_str.LexedStr.fits.Goals as goal

pub returns-then-stands_in_one_root-clause-own : goal.returns-then-stands_in_one_root-clause-own
returns-then-stands_in_one_root-clause-own c contextual over = (
  λ told. c.stands_in_one_root.ensures.0 c.if-stands_in_one_root.true,
  λ root. c.tokens_fit.ensures.1 (rw c.iter.ensures.steps (IsOver-keywords contextual no_keywords c.args.output.now.steps (raw_tokens c.args.self.now) over)),
)

use Rattle.std.proofs.Common.{subst, ℕ}
use Rattle.rule_parts.specs.declared.Part.TheVariants as parts
use Rattle.rule_text.specs.Reading.{Wraps}
use Rattle.rule_text.proofs.Decisions.{on_ok}
use Rattle.rule_text.proofs.body.operators.Goals as goal

pub returns-clause-reads : goal.returns-clause-reads
returns-clause-reads c = on_ok c.wrap.result (λ w. record {
  between = c.levels.new.reader;
  reads = c.in_ok-levels.ensures.reads;
  wraps = subst (λ (n : ℕ). Wraps c.args.start (parts.Operators n) c.levels.new.reader c.wrap.new.self) c.size_from-size.ensures w;
}) c.wrap.ensures.wraps

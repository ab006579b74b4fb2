use Rattle.std.proofs.Common.{Bor, List, ℕ, ◌∙◌, ap, arith}
use Rattle.sql_report.specs.Places.{IsSameWindow}
use Rattle.sql_report.proofs.WindowLines.{error_more}
use Rattle.sql_report.proofs.errors.ErrorLines.extend.Goals as goal

pub loop-finding-preserved : goal.loop-finding-preserved
loop-finding-preserved c =
    let loop = c.loop-finding.invariant in
    let gone = c.go_on.ensures in
    let old = c.args.place.now in
    let self = c.args.self.now in
    let adds = c.in_ok-push_error.ensures in
    let same : IsSameWindow c.args.place.now c.go_on.new.self = record { window = gone.window.window ∙ loop.window.window; before = gone.window.before ∙ loop.window.before } in
    record {
      name = loop.name;
      window = same;
      lines = λ script passed rest is sees.
          error_more script passed rest old c.go_on.new.self same is c.line_column-at.result c.line_column-at.ensures self.name.now c.loop-finding.self.name.now self.lines.items
          c.loop-finding.self.lines.items c.push_error.new.lines.items c.args.findings.now c.args.start c.loop-finding.finding-index _ c.loop-finding-test.true
          (ap (λ (name : Bor (List ℕ)). name.now) loop.name) gone.at sees (loop.lines script passed rest is sees) adds;
      count = λ n is. omega (arith, loop.count n is, c.saturating_add-self.ensures);
    }

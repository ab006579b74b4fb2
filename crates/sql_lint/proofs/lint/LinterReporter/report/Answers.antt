use Rattle.std.proofs.Common.{◌∙◌, ap}
use Rattle.sql_report.specs.ErrorLines.{error_texts}
use Rattle.sql_lint.proofs.lint.LinterReporter.report.Goals as goal

pub returns-clause-lines : goal.returns-clause-lines
returns-clause-lines g c =
    let tree = c.in_ok-tree.ensures.tree in
    record {
      laid = c.in_ok-tree.tree;
      is_tree = tree;
      findings = c.push_broken_rules.new.findings.items;
      found = record {
        errors = c.in_ok-findings.findings.items;
        tell = c.in_ok-findings.ensures tree.parsed.tree tree.parsed.is;
        found = c.in_ok-push_broken_rules.ensures tree.parsed.tree tree.parsed.is;
      };
      lines_are = c.in_ok-error_lines.ensures ∙ ap (error_texts c.args.name.now c.args.text.now) c.deref.ensures.value;
    }

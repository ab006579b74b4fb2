use Rattle.rule_grammar.proofs.Files.{file-all}
use Rattle.rule_grammar.proofs.rules.RuleGrammarGrammar.entry_point.Goals as goal

pub returns-clause-leaves : goal.returns-clause-leaves
returns-clause-leaves c goes =
    let done = c.content-kind.ensures in
    file-all c.args.self.now.table c.requires.fresh c.requires.words c.start-file.ensures.begins (record { some = done.adds; derived = done.derives })
    c.complete.ensures.completes done.all goes

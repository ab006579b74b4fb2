use Rattle.std.proofs.Common.{◌≡◌, ◌≢◌, ◌∙◌, arith}
use Rattle.squawk_kinds.specs.Kinds.{EOF}
use Rattle.squawk_parser.specs.SomeSteps.{Spends}
use Rattle.squawk_parser.specs.State.{kind_at}
use Rattle.sql_grammar.proofs.AddedFiles.{file-all, file-next, file-none}
use Rattle.sql_grammar.proofs.AddedStatements.{runs_as, spends_of}
use Rattle.sql_grammar.proofs.SqlGrammarGrammar.entry_point.Goals as goal

pub loop-p-init : goal.loop-p-init
loop-p-init c = record {
  file = file-none c.start-file.new.self c.start-file.ensures.begins.keeps.sound;
  runs = runs_as c.args.self.now.detail 3 0 _ _ (λ alone. omega arith);
}

pub loop-p-preserved : goal.loop-p-preserved
loop-p-preserved c =
    let some : kind_at c.loop-p.p 0 ≢ EOF = grind arith in
    record {
      file = file-next (c.start-file.ensures.begins.keeps.words ∙ c.requires.words) some c.statement.ensures.adds c.loop-p.invariant.file;
      runs = runs_as c.args.self.now.detail 3 0 _ _ (λ alone.
          let before : Spends 3 0 c.start-file.new.self c.loop-p.p = spends_of 3 0 _ _ alone c.loop-p.invariant.runs in
          let spent : Spends 3 0 c.loop-p.p c.statement.new.p = spends_of 3 0 _ _ alone c.statement.ensures.runs in
          omega (arith, before, spent));
    }

pub returns-clause-leaves : goal.returns-clause-leaves
returns-clause-leaves c goes =
    let end : kind_at c.loop-p.p 0 ≡ EOF = grind arith in
    file-all c.requires.fresh c.start-file.ensures.begins c.loop-p.invariant.file c.complete.ensures.completes end goes

pub returns-clause-runs : goal.returns-clause-runs
returns-clause-runs c = runs_as c.args.self.now.detail 3 2 _ _ (λ alone.
    let before : Spends 3 0 c.start-file.new.self c.loop-p.p = spends_of 3 0 _ _ alone c.loop-p.invariant.runs in
    omega (arith, c.start-file.ensures.spends, c.start-file.ensures.begins.position, before, c.complete.ensures.spends, c.complete.ensures.completes.position))

use Rattle.std.proofs.Common.{◌≡◌, ◌≢◌, ◌∙◌, ◌++◌, [], ap, arith, refl}
use Rattle.squawk_kinds.specs.Kinds.{EOF}
use Rattle.squawk_kinds.proofs.ConstantSets.{has-words_of}
use Rattle.squawk_table.specs.ParserInput.{kinds_in}
use Rattle.squawk_parser.specs.State.{kind_at}
use Rattle.squawk_parser.proofs.AddedSteps.{Adds-puts, closed-fresh, plain-fresh}
use Rattle.squawk_parser.proofs.KindsAhead.{kinds_still}
use Rattle.squawk_parser.proofs.RecordedSteps.{node_puts, puts-then}
use Rattle.squawk_parser.proofs.SeenSteps.{ahead-fresh}
use Rattle.squawk_parser.proofs.WholeSteps.{whole_file}
use Rattle.list_grammar.proofs.Written.{file_more, file_reads}
use Rattle.list_grammar.proofs.ListsGrammar.entry_point.Goals as goal

-- the empty set has no kind, so the token is eaten
pub loop-p-smaller : goal.loop-p-smaller
loop-p-smaller c =
    let some : kind_at c.loop-p.p 0 ≢ EOF = grind arith in
    let eats = c.item.ensures.eats (has-words_of [] refl (kind_at c.loop-p.p 0)) some in
    let limit = c.item.ensures.puts.1.keeps.limit in
    grind (arith, eats, limit)

pub loop-p-preserved : goal.loop-p-preserved
loop-p-preserved c =
    let before = c.loop-p.invariant in
    let item = c.item.ensures in
    let some : kind_at c.loop-p.p 0 ≢ EOF = grind arith in
    record { steps = before.steps ++ item.puts.0; puts = puts-then before.puts item.puts.1; reads = file_more some item.reads before.reads }

pub returns-clause-closed : goal.returns-clause-closed
returns-clause-closed c =
    closed-fresh c.requires.fresh (Adds-puts (node_puts c.start-file.ensures.begins c.loop-p.invariant.puts c.complete.ensures.completes))

-- the loop has ended where the parser sees the end
pub returns-clause-leaves : goal.returns-clause-leaves
returns-clause-leaves c goes =
    let begins = c.start-file.ensures.begins in
    let completes = c.complete.ensures.completes in
    let read = c.loop-p.invariant in
    let end : kind_at c.loop-p.p 0 ≡ EOF = grind arith in
    let there = kinds_still begins.keeps begins.position ∙ ap kinds_in (ahead-fresh c.requires.fresh) in
    record {
      whole = whole_file c.requires.fresh begins (Adds-puts read.puts) completes end goes;
      exact = λ items within is. plain-fresh c.requires.fresh (Adds-puts (node_puts begins (file_reads read.reads end items within (there ∙ is)) completes)) goes;
    }

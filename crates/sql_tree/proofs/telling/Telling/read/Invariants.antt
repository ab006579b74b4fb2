use Rattle.std.proofs.Common.{List, ℕ, [], ◌∷◌}
use Rattle.squawk_table.specs.declared.shortcuts.str_step.OwnedStep.TheVariants.{Enter}
use Rattle.sql_grammar.specs.Kinds.{SOURCE_FILE}
use Rattle.sql_tree.specs.OnTheWay.{HasTold, IsTelling}
use Rattle.sql_tree.specs.declared.options.Listing.{Listing}
use Rattle.sql_tree.specs.declared.sql.Sql.{Sql}
use Rattle.sql_tree.proofs.ScriptFronts.{InScript}
use Rattle.sql_tree.proofs.telling.Telling.read.Given as goal

abbrev pub invariant-loop : goal.invariant-loop
invariant-loop g l =
    (sql : Sql) (listing : Listing) (name : List ℕ) → IsTelling sql listing name l.fn.self → ((script : List ℕ) → HasTold script [] [] [] (Enter SOURCE_FILE ∷ []) l.fn.self)
    → InScript sql listing name (g.W.Write.contents l.fn.printer.out) (g.W.Write.contents l.printer.out) (g.E.Write.contents l.fn.printer.errors) (g.E.Write.contents l.printer.errors)
    (g.R.Read.remaining l.fn.reader) l.script l.before l.self

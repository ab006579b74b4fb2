use Rattle.std.proofs.Common.{◌-◌, List, []}
use Rattle.squawk_output.specs.Steps.{Step}
use Rattle.squawk_parser.specs.Recorded.{Puts}
use Rattle.list_grammar.specs.Trees.{file_kinds, depth_limit}
use Rattle.list_grammar.proofs.Reading.{ReadsSome}
use Rattle.list_grammar.proofs.ListsGrammar.entry_point.Given as goal

-- steps were put behind the marker, of well-formed items those that are done
abbrev pub invariant-loop-p : goal.invariant-loop-p
invariant-loop-p l = record { steps : List Step; puts : Puts steps l.initial.p l.p; reads : ReadsSome depth_limit file_kinds (λ _. []) l.initial.p l.p }

-- the tokens that are left
abbrev pub decreases-loop-p : goal.decreases-loop-p
decreases-loop-p l = l.p.limit - l.p.position

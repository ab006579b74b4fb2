-- How `(a, (1), ())` is written, and its tree.
use Rattle.std.proofs.Common.{◌≡◌, List, [], ◌∷◌, ◌++◌, refl}
use Rattle.squawk_kinds.specs.Kinds.{COMMA, IDENT, INT_NUMBER, L_PAREN, R_PAREN}
use Rattle.squawk_output.specs.Steps.{Step}
use Rattle.squawk_parser.specs.Eaten.{node, one}
use Rattle.list_grammar.specs.Trees.{Item, kinds_of, list, list_node, more, name, none, number, steps_of}

abbrev example : Item
example = list (more name (more (list (more number none)) (more (list none) none)))

pub example_kinds : kinds_of example ≡ L_PAREN ∷ IDENT ∷ COMMA ∷ L_PAREN ∷ INT_NUMBER ∷ R_PAREN ∷ COMMA ∷ L_PAREN ∷ R_PAREN ∷ R_PAREN ∷ []
example_kinds = refl

abbrev inner : List Step
inner = node list_node (one L_PAREN ∷ one INT_NUMBER ∷ one R_PAREN ∷ [])

abbrev empty : List Step
empty = node list_node (one L_PAREN ∷ one R_PAREN ∷ [])

pub example_steps : steps_of (kinds_of example) ≡ node list_node (one L_PAREN ∷ one IDENT ∷ one COMMA ∷ inner ++ one COMMA ∷ empty ++ one R_PAREN ∷ [])
example_steps = refl

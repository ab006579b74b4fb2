-- The steps in the order in which they are recorded have the errors of the plain list.
use Rattle.std.proofs.Common.{◌≡◌, ℕ, ◌+◌, ◌*◌, List, [], ◌∷◌, ◌++◌, length, cond, arith, refl}
use Rattle.std.specs.Prelude.{replicate}
use Rattle.std.specs.List.{flat_map}
use Rattle.std.proofs.lemmas.List.Folds.{sum_by-replicate}
use Rattle.std.proofs.lemmas.List.Sums.{sum_by-append}
use Rattle.squawk_table.specs.ParserInput.{Entry}
use Rattle.squawk_output.specs.Steps.{Step, Enter, Exit, errors_in, is_error}
use Rattle.squawk_parser.specs.Eaten.{node}
use Rattle.tiny_grammar.specs.Expressions.{bin, expression_in_order, expression_steps, in_order, nested, operand_steps, part_in_order, rights_of, source, behind_expression, tail_steps, tiny_in_order, tiny_steps}

errors-append : (xs ys : List Step) → errors_in (xs ++ ys) ≡ errors_in xs + errors_in ys
errors-append xs ys = sum_by-append (λ step. cond (is_error step) 1 0) xs ys

errors-node : (kind : ℕ) (inner : List Step) → errors_in (node kind inner) ≡ errors_in inner
errors-node kind inner =
    let opening : errors_in (Enter kind ∷ []) ≡ 0 = refl in
    let closing : errors_in (Exit ∷ []) ≡ 0 = refl in
    omega (arith, errors-append (Enter kind ∷ inner) (Exit ∷ []), errors-append (Enter kind ∷ []) inner, opening, closing)

errors-parts : (parts : List (List Step)) → errors_in (flat_map part_in_order parts) ≡ errors_in (flat_map (λ part. part ++ Exit ∷ []) parts)
errors-parts [] = refl
errors-parts (part ∷ parts) =
    omega (
      arith,
      errors-parts parts,
      errors-append (part_in_order part) (flat_map part_in_order parts),
      errors-append (part ++ Exit ∷ []) (flat_map (λ p. p ++ Exit ∷ []) parts),
      errors-append (Enter bin ∷ part) (Exit ∷ []),
      errors-append (Enter bin ∷ []) part,
      errors-append part (Exit ∷ []),
    )

errors-nested : (first : List Step) (parts : List (List Step)) → errors_in (in_order first parts) ≡ errors_in (nested first parts)
errors-nested first parts =
    let ones = replicate (length parts) (Enter bin) in
    let none : errors_in ones ≡ length parts * 0 = sum_by-replicate (λ step. cond (is_error step) 1 0) (length parts) (Enter bin) in
    omega (
      arith,
      none,
      errors-parts parts,
      errors-append first (flat_map part_in_order parts),
      errors-append (ones ++ first) (flat_map (λ part. part ++ Exit ∷ []) parts),
      errors-append ones first,
    )

pub tiny-errors : (input : List Entry) → errors_in (tiny_in_order input) ≡ errors_in (tiny_steps input)
tiny-errors input =
    let rest = tail_steps (behind_expression input) in
    omega (
      arith,
      errors-nested (operand_steps input) (rights_of input),
      errors-node source (expression_in_order input ++ rest),
      errors-node source (expression_steps input ++ rest),
      errors-append (expression_in_order input) rest,
      errors-append (expression_steps input) rest,
    )

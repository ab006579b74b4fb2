-- What `Tiny` leaves: operands with operators between them.
use Rattle.std.specs.Prelude.{◌≡◌, ℕ, zero, suc, ◌==◌, ◌||◌, Bool, Some, List, [], ◌∷◌, ◌++◌, length, map, take, drop, replicate, codes, if◌then◌else◌}
use Rattle.std.specs.List.{flat_map, list_any}
use Rattle.std.specs.Str.{chars}
use Rattle.squawk_kinds.specs.Kinds.{EOF, ERROR, IDENT, INT_NUMBER, CUSTOM_OP, PLUS, MINUS, STAR, SLASH, L_ANGLE, R_ANGLE, EQ}
use Rattle.squawk_kinds.specs.TokenSets.{has}
use Rattle.squawk_table.specs.ParserInput.{Entry, kind_in}
use Rattle.squawk_output.specs.Steps.{Step, Enter, Exit, Error, eaten}
use Rattle.squawk_output.specs.Draft.{Draft, plain}
use Rattle.squawk_parser.specs.Eaten.{node, one}
use Rattle.squawk_parser.specs.Operators.{operator_length, special_kinds}
use Rattle.squawk_parser.specs.Recorded.{IsRefusedStep}
use Rattle.squawk_parser.specs.State.{State}
use Rattle.squawk_parser.specs.Whole.{IsWholeFile}
use Rattle.squawk_parser.specs.Words.{Words}
use Rattle.squawk_parser.specs.declared.parser.parse_error.ParseError.{ParseError}

-- ---- kinds and texts

-- the kinds of nodes
abbrev pub source : ℕ
source = 720

abbrev pub bin : ℕ
bin = 721

abbrev pub operand : ℕ
operand = 722

-- the kinds that operators are made of
abbrev pub operator_kinds : List ℕ
operator_kinds = PLUS ∷ MINUS ∷ STAR ∷ SLASH ∷ L_ANGLE ∷ R_ANGLE ∷ EQ ∷ special_kinds

abbrev pub is_operator_kind : ℕ → Bool
is_operator_kind kind = list_any (λ one. one == kind) operator_kinds

-- the words that the grammar tells: its set is of exactly these kinds
abbrev pub HasTinyOperators : Words → Type 0
HasTinyOperators words = has words.operator_first ≡ is_operator_kind

abbrev pub is_operand : ℕ → Bool
is_operand kind = (kind == IDENT) || (kind == INT_NUMBER)

abbrev pub expected_operand : List ℕ
expected_operand = chars (codes "expected operand")

abbrev pub expected_end : List ℕ
expected_end = chars (codes "expected end")

-- ---- how an input is cut from the left

-- the tokens behind those that steps eat
abbrev pub behind : List Step → List Entry → List Entry
behind steps seen = drop (eaten steps) seen

-- the token of an operand, or the error that one is expected
abbrev pub operand_step : List Entry → Step
operand_step seen = if is_operand (kind_in seen 0) then one (kind_in seen 0) else Error expected_operand

abbrev pub operand_steps : List Entry → List Step
operand_steps seen = node operand (operand_step seen ∷ [])

-- the operator at the front
abbrev pub operator_steps : List Entry → List Step
operator_steps seen = node CUSTOM_OP (map (λ e. one e.kind) (take (operator_length is_operator_kind seen) seen))

-- and the operand behind it
abbrev pub right_steps : List Entry → List Step
right_steps seen = let operator = operator_steps seen in operator ++ operand_steps (behind operator seen)

-- the operators at the front, at most n, each with the operand behind it
abbrev pub rights : ℕ → List Entry → List (List Step)
rights zero seen = []
rights (suc n) seen =
    if is_operator_kind (kind_in seen 0)
    then right_steps seen ∷ rights n (behind (right_steps seen) seen)
    else []

-- the tokens behind them
abbrev pub rest_of : ℕ → List Entry → List Entry
rest_of zero seen = seen
rest_of (suc n) seen =
    if is_operator_kind (kind_in seen 0) then rest_of n (behind (right_steps seen) seen) else seen

-- of all tokens: the operators behind the first operand, and the tokens behind those
abbrev pub rights_of : List Entry → List (List Step)
rights_of seen = rights (length seen) (behind (operand_steps seen) seen)

abbrev pub behind_expression : List Entry → List Entry
behind_expression seen = rest_of (length seen) (behind (operand_steps seen) seen)

-- ---- the plain list

-- an expression of a first operand and these: a node for each operator, all of them begun before the first operand
abbrev pub nested : List Step → List (List Step) → List Step
nested first parts = replicate (length parts) (Enter bin) ++ first ++ flat_map (λ part. part ++ Exit ∷ []) parts

abbrev pub expression_steps : List Entry → List Step
expression_steps seen = nested (operand_steps seen) (rights_of seen)

-- each token of the tail, up to the end, in a node with an error
abbrev pub tail_steps : List Entry → List Step
tail_steps [] = []
tail_steps (e ∷ seen) = if e.kind == EOF then [] else node ERROR (Error expected_end ∷ one e.kind ∷ []) ++ tail_steps seen

-- all of an input
abbrev pub tiny_steps : List Entry → List Step
tiny_steps input = node source (expression_steps input ++ tail_steps (behind_expression input))

-- ---- the order in which the steps are recorded

-- the node of an operator is begun directly before the operator
abbrev pub part_in_order : List Step → List Step
part_in_order part = Enter bin ∷ part ++ Exit ∷ []

abbrev pub in_order : List Step → List (List Step) → List Step
in_order first parts = first ++ flat_map part_in_order parts

abbrev pub expression_in_order : List Entry → List Step
expression_in_order seen = in_order (operand_steps seen) (rights_of seen)

-- all of an input
abbrev pub tiny_in_order : List Entry → List Step
tiny_in_order input = node source (expression_in_order input ++ tail_steps (behind_expression input))

-- ---- a run

-- what a run leaves over an input
pub record IsTiny (input : List Entry) (draft : Draft) : Type 0 where
  pub whole : IsWholeFile input draft
  pub items : plain draft.items ≡ tiny_steps input
  pub recorded : draft.recorded ≡ length (tiny_in_order input)

-- a run that fails is refused one of the steps, under the limits that it began with
abbrev pub FailsTiny : State → State → Type 0
FailsTiny begun left =
    (reason : ParseError) → left.first_reason ≡ Some reason → IsRefusedStep begun (tiny_in_order begun.input) reason

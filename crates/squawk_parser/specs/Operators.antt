-- Names of operators, by the rule of PostgreSQL's CREATE OPERATOR.
use Rattle.std.specs.Prelude.{ℕ, zero, suc, ◌==◌, ◌&&◌, ◌||◌, not, Bool, true, false, List, [], ◌∷◌, length, take, if◌then◌else◌}
use Rattle.std.specs.List.{list_any}
use Rattle.squawk_kinds.specs.Kinds.{AT, POUND, TILDE, QUESTION, BANG, MINUS, AMP, PIPE, PLUS, CARET, PERCENT, BACKTICK}
use Rattle.squawk_table.specs.ParserInput.{Entry, kind_in}
use Rattle.squawk_parser.specs.LookAhead.{is_joint_next}

-- the signs, in which a name of several characters may not end
abbrev pub is_sign : ℕ → Bool
is_sign kind = (kind == PLUS) || (kind == MINUS)

-- unless one of these kinds is in it
abbrev pub special_kinds : List ℕ
special_kinds = TILDE ∷ BANG ∷ AT ∷ POUND ∷ PERCENT ∷ CARET ∷ AMP ∷ PIPE ∷ BACKTICK ∷ QUESTION ∷ []

abbrev pub is_special : ℕ → Bool
is_special kind = list_any (λ special. kind == special) special_kinds

abbrev pub ends_in_sign : List ℕ → Bool
ends_in_sign [] = false
ends_in_sign (kind ∷ []) = is_sign kind
ends_in_sign (kind ∷ next ∷ rest) = ends_in_sign (next ∷ rest)

-- whether kinds are the name of an operator: one kind, or several that don't end in a sign or have a special kind
abbrev pub is_operator_name : List ℕ → Bool
is_operator_name kinds = (length kinds == 1) || not (ends_in_sign kinds) || list_any is_special kinds

-- the run of joint operator kinds at the front
abbrev pub joint_run : (ℕ → Bool) → List Entry → List ℕ
joint_run operator_kind [] = []
joint_run operator_kind (e ∷ seen) =
    if operator_kind e.kind then e.kind ∷ (if e.is_joint then joint_run operator_kind seen else []) else []

-- the length of the longest prefix that is a name and has at most n kinds
abbrev pub longest_name : List ℕ → ℕ → ℕ
longest_name run zero = zero
longest_name run (suc n) = if is_operator_name (take (suc n) run) then suc n else longest_name run n

-- the number of tokens of the operator at the front; 0 if there is none
abbrev pub operator_length : (ℕ → Bool) → List Entry → ℕ
operator_length operator_kind seen = let run = joint_run operator_kind seen in longest_name run (length run)

-- whether the first two tokens aren't joined by an operator
abbrev pub is_next_apart : (ℕ → Bool) → List Entry → Bool
is_next_apart operator_kind [] = true
is_next_apart operator_kind (e ∷ seen) =
    not (operator_kind e.kind && operator_kind (kind_in seen 0) && is_joint_next (e ∷ seen) && not (operator_length operator_kind (e ∷ seen) == 1))

-- What acts eat on small inputs: what they give is worked out by hand.
use Rattle.std.proofs.Common.{◌≡◌, ℕ, Bool, true, false, [], ◌∷◌, refl}
use Rattle.std.specs.Prelude.{codes}
use Rattle.std.specs.Fmt as fmt
use Rattle.squawk_kinds.specs.KindNames.{kind_name}
use Rattle.squawk_kinds.specs.Kinds.{EOF, IDENT, COLON, EQ, R_ANGLE, PLUS, MINUS, AT, COLON_EQ, LONG_ARROW, COLON_COLON, IS_KW, NFC_KW, NORMALIZED_KW, IS_NORMALIZED, IS_JSON, OPERATOR_CALL, CUSTOM_OP, R_PAREN, UNICODE_NORMAL_FORM, ERROR}
use Rattle.squawk_table.specs.ParserInput.{Entry}
use Rattle.squawk_output.specs.Steps.{Token, Enter, Exit, Error}
use Rattle.squawk_parser.specs.Composites.{NoTail, Open, ClosedBy}
use Rattle.squawk_parser.specs.Eaten.{composite_of, eaten_as, tail_of_kind, recovery_steps}

abbrev entry : ℕ → Bool → Entry
entry kind is_joint = record { kind = kind; contextual_kind = EOF; is_joint = is_joint }

-- all kinds may be those of operators, or none
abbrev all : ℕ → Bool
all kind = true

abbrev none : ℕ → Bool
none kind = false

-- ---- what eating makes

pair_is_one_token : eaten_as none COLON_EQ (composite_of COLON_EQ) (entry COLON true ∷ entry EQ false ∷ []) ≡ Token COLON_EQ 2 ∷ []
pair_is_one_token = refl

three_signs_are_one_token : eaten_as none LONG_ARROW (composite_of LONG_ARROW) (entry MINUS true ∷ entry R_ANGLE true ∷ entry R_ANGLE false ∷ []) ≡ Token LONG_ARROW 3 ∷ []
three_signs_are_one_token = refl

two_colons_are_a_node : eaten_as none COLON_COLON (composite_of COLON_COLON) (entry COLON true ∷ entry COLON false ∷ [])
    ≡ Enter COLON_COLON ∷ Token COLON 1 ∷ Token COLON 1 ∷ Exit ∷ []
two_colons_are_a_node = refl

normal_form_has_its_node : eaten_as none IS_NORMALIZED (composite_of IS_NORMALIZED) (entry IS_KW false ∷ entry NFC_KW false ∷ entry NORMALIZED_KW false ∷ [])
    ≡ Enter IS_NORMALIZED ∷ Token IS_KW 1 ∷ Enter UNICODE_NORMAL_FORM ∷ Token NFC_KW 1 ∷ Exit ∷ Token NORMALIZED_KW 1 ∷ Exit ∷ []
normal_form_has_its_node = refl

normal_form_may_be_left_out : eaten_as none IS_NORMALIZED (composite_of IS_NORMALIZED) (entry IS_KW false ∷ entry NORMALIZED_KW false ∷ [])
    ≡ Enter IS_NORMALIZED ∷ Token IS_KW 1 ∷ Token NORMALIZED_KW 1 ∷ Exit ∷ []
normal_form_may_be_left_out = refl

-- the sign at the end stands in it, since `@` does
operator_is_a_node : eaten_as all CUSTOM_OP (composite_of CUSTOM_OP) (entry AT true ∷ entry MINUS false ∷ entry PLUS false ∷ [])
    ≡ Enter CUSTOM_OP ∷ Token AT 1 ∷ Token MINUS 1 ∷ Exit ∷ []
operator_is_a_node = refl

plain_kind_is_a_token : eaten_as none IDENT (composite_of IDENT) (entry IDENT false ∷ []) ≡ Token IDENT 1 ∷ []
plain_kind_is_a_token = refl

-- ---- tails

plain_kind_has_none : tail_of_kind IDENT ≡ NoTail
plain_kind_has_none = refl

pair_has_none : tail_of_kind COLON_EQ ≡ NoTail
pair_has_none = refl

three_signs_have_none : tail_of_kind LONG_ARROW ≡ NoTail
three_signs_have_none = refl

json_has_one : tail_of_kind IS_JSON ≡ Open
json_has_one = refl

call_is_closed : tail_of_kind OPERATOR_CALL ≡ ClosedBy R_PAREN
call_is_closed = refl

-- ---- errors

first_name_counts : kind_name ((IDENT, codes "a") ∷ (IDENT, codes "b") ∷ []) IDENT ≡ codes "a"
first_name_counts = refl

number_without_a_name : kind_name ((IDENT, codes "a") ∷ []) COLON_EQ ≡ codes "45"
unfolding fmt.digits
number_without_a_name = refl

skipped_with_its_error : recovery_steps (codes "m") none (entry IDENT false ∷ []) ≡ Enter ERROR ∷ Error (codes "m") ∷ Token IDENT 1 ∷ Exit ∷ []
skipped_with_its_error = refl

nothing_to_skip : recovery_steps (codes "m") none [] ≡ Enter ERROR ∷ Error (codes "m") ∷ Exit ∷ []
nothing_to_skip = refl

error_alone : recovery_steps (codes "m") all (entry IDENT false ∷ []) ≡ Error (codes "m") ∷ []
error_alone = refl

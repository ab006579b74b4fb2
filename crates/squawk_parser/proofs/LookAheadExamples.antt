-- Operators and composite kinds at the front of small inputs: what stands there was worked out by hand.
use Rattle.std.proofs.Common.{◌≡◌, ℕ, Bool, true, false, List, [], ◌∷◌, refl}
use Rattle.std.specs.List.{list_any}
use Rattle.std.specs.Prelude.{◌==◌}
use Rattle.squawk_kinds.specs.Kinds.{IDENT, AT, BANG, COLON, EQ, L_ANGLE, R_ANGLE, MINUS, PLUS, STAR, COLON_EQ, NEQ, LTEQ, FAT_ARROW, GREATER_GREATER, LONG_ARROW, IS_KW, NFC_KW, NORMALIZED_KW, DISTINCT_KW, FROM_KW, COLON_COLON, IS_DISTINCT_FROM, IS_NORMALIZED, CUSTOM_OP}
use Rattle.squawk_parser.specs.LookAhead.{seen_from}
use Rattle.squawk_parser.specs.Operators.{operator_length, is_next_apart}
use Rattle.squawk_parser.specs.Composites.{stands_at}
use Rattle.squawk_table.specs.ParserInput.{Entry}

-- a token that is joint with the next, and one that isn't
abbrev joined : ℕ → Entry
joined kind = record { kind = kind; contextual_kind = 0; is_joint = true }

abbrev alone : ℕ → Entry
alone kind = record { kind = kind; contextual_kind = 0; is_joint = false }

abbrev number : Entry
number = alone 33

abbrev operator_kind : ℕ → Bool
operator_kind kind = list_any (λ first. kind == first) (EQ ∷ L_ANGLE ∷ R_ANGLE ∷ MINUS ∷ PLUS ∷ STAR ∷ AT ∷ BANG ∷ [])

-- ---- lengths of operators

less_or_equal : operator_length operator_kind (joined L_ANGLE ∷ joined EQ ∷ joined MINUS ∷ number ∷ []) ≡ 2
less_or_equal = refl

with_special_kind : operator_length operator_kind (joined BANG ∷ joined EQ ∷ joined MINUS ∷ number ∷ []) ≡ 3
with_special_kind = refl

star_minus : operator_length operator_kind (joined STAR ∷ joined MINUS ∷ number ∷ []) ≡ 1
star_minus = refl

star_at_minus : operator_length operator_kind (joined STAR ∷ joined AT ∷ alone MINUS ∷ []) ≡ 3
star_at_minus = refl

only_signs : operator_length operator_kind (joined PLUS ∷ alone MINUS ∷ []) ≡ 1
only_signs = refl

at_minus : operator_length operator_kind (joined AT ∷ alone MINUS ∷ []) ≡ 2
at_minus = refl

no_operator : operator_length operator_kind (joined IDENT ∷ alone MINUS ∷ []) ≡ 0
no_operator = refl

-- the run ends at the limit
cut_by_limit : operator_length operator_kind (seen_from (joined L_ANGLE ∷ alone EQ ∷ []) 1 0) ≡ 1
cut_by_limit = refl

-- ---- pairs

pair_before_sign : stands_at operator_kind LTEQ (joined L_ANGLE ∷ joined EQ ∷ joined MINUS ∷ number ∷ []) ≡ true
pair_before_sign = refl

pair_in_longer_operator : stands_at operator_kind NEQ (joined BANG ∷ joined EQ ∷ joined MINUS ∷ number ∷ []) ≡ false
pair_in_longer_operator = refl

operator_of_three : stands_at operator_kind CUSTOM_OP (joined BANG ∷ joined EQ ∷ joined MINUS ∷ number ∷ []) ≡ true
operator_of_three = refl

pair_past_limit : stands_at operator_kind LTEQ (seen_from (joined L_ANGLE ∷ alone EQ ∷ []) 1 0) ≡ false
pair_past_limit = refl

pair_across_space : stands_at operator_kind COLON_EQ (alone COLON ∷ alone EQ ∷ []) ≡ false
pair_across_space = refl

arrow_before_equal : stands_at operator_kind FAT_ARROW (joined EQ ∷ joined R_ANGLE ∷ alone EQ ∷ []) ≡ false
arrow_before_equal = refl

arrow_before_sign : stands_at operator_kind FAT_ARROW (joined EQ ∷ joined R_ANGLE ∷ joined MINUS ∷ number ∷ []) ≡ true
arrow_before_sign = refl

-- a colon is no kind of an operator here, so a third one doesn't matter
three_colons : stands_at operator_kind COLON_COLON (joined COLON ∷ joined COLON ∷ alone COLON ∷ []) ≡ true
three_colons = refl

last_colon : stands_at operator_kind COLON_COLON (alone COLON ∷ []) ≡ false
last_colon = refl

-- ---- three signs

-- a minus sign and two joint angles, with these tokens behind them
abbrev long_arrow : List Entry → List Entry
long_arrow behind = joined MINUS ∷ joined R_ANGLE ∷ joined R_ANGLE ∷ behind

-- no kind is one of an operator
abbrev no_operator_kind : ℕ → Bool
no_operator_kind kind = false

arrow_of_three : stands_at operator_kind LONG_ARROW (long_arrow []) ≡ true
arrow_of_three = refl

-- `->>-` is no name, so the operator is `->>`
three_before_sign : stands_at operator_kind LONG_ARROW (long_arrow (joined MINUS ∷ number ∷ [])) ≡ true
three_before_sign = refl

three_across_first_space : stands_at operator_kind LONG_ARROW (alone MINUS ∷ joined R_ANGLE ∷ alone R_ANGLE ∷ []) ≡ false
three_across_first_space = refl

three_across_second_space : stands_at operator_kind LONG_ARROW (joined MINUS ∷ alone R_ANGLE ∷ alone R_ANGLE ∷ []) ≡ false
three_across_second_space = refl

three_past_limit : stands_at operator_kind LONG_ARROW (seen_from (long_arrow []) 2 0) ≡ false
three_past_limit = refl

three_before_equal : stands_at operator_kind LONG_ARROW (long_arrow (alone EQ ∷ [])) ≡ false
three_before_equal = refl

-- `->>@` has a special kind
three_before_at : stands_at operator_kind LONG_ARROW (long_arrow (alone AT ∷ [])) ≡ false
three_before_at = refl

three_without_operators : stands_at no_operator_kind LONG_ARROW (long_arrow (alone EQ ∷ [])) ≡ true
three_without_operators = refl

-- the fourth is apart
three_before_space : stands_at operator_kind LONG_ARROW (joined MINUS ∷ joined R_ANGLE ∷ alone R_ANGLE ∷ alone EQ ∷ []) ≡ true
three_before_space = refl

-- the last two are a pair of their own, and all of them an operator
pair_in_three : stands_at operator_kind GREATER_GREATER (seen_from (long_arrow []) 3 1) ≡ true
pair_in_three = refl

three_are_an_operator : stands_at operator_kind CUSTOM_OP (long_arrow []) ≡ true
three_are_an_operator = refl

three_are_as_long : operator_length operator_kind (long_arrow []) ≡ 3
three_are_as_long = refl

-- ---- sequences

distinct_from : stands_at operator_kind IS_DISTINCT_FROM (alone IS_KW ∷ alone DISTINCT_KW ∷ alone FROM_KW ∷ []) ≡ true
distinct_from = refl

sequence_past_limit : stands_at operator_kind IS_DISTINCT_FROM (seen_from (alone IS_KW ∷ alone DISTINCT_KW ∷ alone FROM_KW ∷ []) 2 0) ≡ false
sequence_past_limit = refl

-- at index 1 of `x is nfc normalized`, and without the normal form
normalized : stands_at operator_kind IS_NORMALIZED (seen_from (alone IDENT ∷ alone IS_KW ∷ alone NFC_KW ∷ alone NORMALIZED_KW ∷ []) 4 1) ≡ true
normalized = refl

normalized_without_form : stands_at operator_kind IS_NORMALIZED (alone IS_KW ∷ alone NORMALIZED_KW ∷ []) ≡ true
normalized_without_form = refl

two_forms : stands_at operator_kind IS_NORMALIZED (alone IS_KW ∷ alone NFC_KW ∷ alone NFC_KW ∷ alone NORMALIZED_KW ∷ []) ≡ false
two_forms = refl

-- ---- other kinds

word_is_no_operator : stands_at operator_kind CUSTOM_OP (alone IDENT ∷ alone PLUS ∷ []) ≡ false
word_is_no_operator = refl

operator_behind_word : stands_at operator_kind CUSTOM_OP (seen_from (alone IDENT ∷ alone PLUS ∷ []) 2 1) ≡ true
operator_behind_word = refl

plain_kind : stands_at operator_kind IDENT (alone IDENT ∷ alone PLUS ∷ []) ≡ true
plain_kind = refl

-- past the input stands no operator
past_the_end : stands_at operator_kind CUSTOM_OP [] ≡ false
past_the_end = refl

-- ---- two tokens that no operator joins

plus_minus : is_next_apart operator_kind (joined PLUS ∷ alone MINUS ∷ []) ≡ true
plus_minus = refl

plus_star : is_next_apart operator_kind (joined PLUS ∷ alone STAR ∷ []) ≡ false
plus_star = refl

plus_space_star : is_next_apart operator_kind (alone PLUS ∷ alone STAR ∷ []) ≡ true
plus_space_star = refl

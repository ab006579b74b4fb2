-- Rows as parts of rules, and sets of kinds.
use Rattle.std.specs.Prelude.{ℕ, ◌-◌, ◌/◌, ◌%◌, ◌^◌, ◌==◌, Bool, false, Option, Some, None, List, slice_get, slice_index, if◌then◌else◌}
use Rattle.squawk_kinds.specs.Kinds.{COLON_COLON, CUSTOM_OP, ERROR, TOMBSTONE}
use Rattle.rule_grammar.specs.declared.part.Part.{Part}
use Rattle.rule_grammar.specs.declared.part.Part.TheVariants.{Nothing, Token, Word, Class, Name, Node, Becomes, Is, Guard, Look, Choice, Arm, Optional, Repeat, List as Items, Call, Operators, Operand, Tail, Some as Once}

-- the part by the numbers 0, 1 and 2 of a row
abbrev pub part_by : ℕ → ℕ → ℕ → Part
part_by tag end number =
    if tag == 1 then Token number
    else if tag == 2 then Word number
    else if tag == 3 then Class number
    else if tag == 4 then Name end number
    else if tag == 5 then Becomes number
    else if tag == 6 then Call number end
    else if tag == 7 then Operand end number
    else if tag == 8 then Guard end number
    else if tag == 9 then Node end number
    else if tag == 10 then Choice end
    else if tag == 11 then Arm end
    else if tag == 12 then Optional end
    else if tag == 13 then Repeat end
    else if tag == 14 then Once end
    else if tag == 15 then Items end number
    else if tag == 16 then Operators end
    else if tag == 17 then Tail end number number
    else if tag == 18 then Tail end number (number - 1)
    else if tag == 19 then Tail end number 65535
    else if tag == 20 then Is end
    else if tag == 21 then Look end
    else Nothing

abbrev pub part_of : List ℕ → Part
part_of row = part_by (slice_index row 0 % 256) (slice_index row 1) (slice_index row 2)

abbrev pub part_in : Option (List ℕ) → Part
part_in None = Nothing
part_in (Some row) = part_of row

-- the part in a row
abbrev pub part_at : List (List ℕ) → ℕ → Part
part_at rows i = part_in (slice_get rows i)

-- the kind that stands for a kind in sets, which have no kinds above 639: one that no token has
abbrev pub bit_of : ℕ → ℕ
bit_of kind = if kind == CUSTOM_OP then TOMBSTONE else if kind == COLON_COLON then ERROR else kind

-- whether a set has a kind: bit kind % 16 of its number kind / 16 is 1
abbrev pub word_has : Option ℕ → ℕ → Bool
word_has None bit = false
word_has (Some word) bit = (word / 2 ^ bit) % 2 == 1

abbrev pub words_have : Option (List ℕ) → ℕ → Bool
words_have None kind = false
words_have (Some words) kind = word_has (slice_get words (kind / 16)) (kind % 16)

abbrev pub set_has : List (List ℕ) → ℕ → ℕ → Bool
set_has sets set kind = words_have (slice_get sets set) kind

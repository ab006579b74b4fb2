-- What is wrong with parts that are refused.
use Rattle.std.specs.Prelude.{ℕ, zero, suc, ◌&&◌, ◌||◌, not, nat_lt, Bool, false, Option, Some, None, List, length, slice_get, is_some, is_none, if◌then◌else◌}
use Rattle.std.specs.Option.{option_and_then, option_or}
use Rattle.rule_parts.specs.declared.Part.{Part}
use Rattle.rule_parts.specs.declared.Part.TheVariants as part
use Rattle.rule_tables.specs.declared.error.RulesError.{RulesError}
use Rattle.rule_tables.specs.declared.error.RulesError.TheVariants.{Undefined, Doubled, UnknownKind, LeftRecursive, Empty, Undecided, Unreached, TooMany}
use Rattle.rule_tables.specs.declared.outer.Outer.{Outer}
use Rattle.rule_tables.specs.Definitions.{defined, definition_of, is_before, is_class, is_guard, is_rule, is_set, name_of}
use Rattle.rule_tables.specs.Outer.{is_member, outer_at}
use Rattle.rule_tables.specs.Rows.{end_of, level_of, size_of}
use Rattle.rule_tables.specs.Vocabulary.{Vocabulary, kind_in}

-- the part that is at fault, or 0
abbrev pub part_at_fault : RulesError → ℕ
part_at_fault (Undefined i) = i
part_at_fault (Doubled i) = i
part_at_fault (UnknownKind i) = i
part_at_fault (LeftRecursive i) = i
part_at_fault (Empty i) = i
part_at_fault (Undecided i kinds) = i
part_at_fault (Unreached i) = i
part_at_fault reason = 0

-- ---- names

-- whether a rule, class or guard before part i has this name
abbrev pub is_taken : List Part → ℕ → Option (List ℕ) → Bool
is_taken parts i None = false
is_taken parts i (Some name) = is_before i (definition_of parts name)

-- Whether nothing that the part needs has the name in it. A class may have classes before it as members, and those of the
-- caller.
abbrev pub is_undefined : Vocabulary → List Part → Outer → ℕ → Part → Bool
is_undefined v parts outer i (part.Class name) =
    not (if is_member outer i then is_before outer.class (definition_of parts name.text.now) && is_set (defined parts name.text.now) else is_class (defined parts name.text.now))
is_undefined v parts outer i (part.Call name) = not (if is_member outer i then is_some (v.class name.text.now) else is_rule (defined parts name.text.now))
is_undefined v parts outer i (part.Guarded name) = not (is_member outer i || is_guard (defined parts name.text.now))
is_undefined v parts outer i (part.Guard own first next) = not (is_set (defined parts first.text.now) && is_set (defined parts next.text.now))
is_undefined v parts outer i p = false

-- the fault of the names of part i
abbrev pub name_fault : Vocabulary → List Part → Outer → ℕ → Part → Option RulesError
name_fault v parts outer i p = if is_taken parts i (name_of p) then Some (Doubled i) else if is_undefined v parts outer i p then Some (Undefined i) else None

-- ---- kinds

-- whether no kind has the name in the part: of tokens in a class, else of tokens or nodes
abbrev pub lacks_kind : Vocabulary → Outer → ℕ → Part → Bool
lacks_kind v outer i (part.Token name) = is_none (kind_in v (is_member outer i && outer.is_words) name.text.now)
lacks_kind v outer i (part.Becomes name) = is_none (if is_member outer i then v.token name.text.now else v.node name.text.now)
lacks_kind v outer i (part.Kind name) = not (is_member outer i) && is_none (v.node name.text.now)
lacks_kind v outer i (part.List size separator) = not (is_member outer i) && is_none (v.token separator.text.now)
lacks_kind v outer i p = false

-- the fault of the kind in part i
abbrev pub kind_fault : Vocabulary → Outer → ℕ → Part → Option RulesError
kind_fault v outer i p = if lacks_kind v outer i p then Some (UnknownKind i) else None

-- ---- sizes

-- there are more than 65,000 parts up to the end of the part, or its level is above that
abbrev pub is_large : ℕ → Part → Bool
is_large i p = nat_lt 65000 (end_of i (size_of p)) || nat_lt 65000 (level_of p)

abbrev pub size_fault : ℕ → Part → Option RulesError
size_fault i p = if is_large i p then Some TooMany else None

-- ---- the first fault

-- the fault of part i, if there is such a part
abbrev pub fault_at : (ℕ → Part → Option RulesError) → List Part → ℕ → Option RulesError
fault_at fault parts i = option_and_then (fault i) (slice_get parts i)

-- the fault of the first part that has one, of the first n parts
abbrev pub first_fault : (ℕ → Part → Option RulesError) → List Part → ℕ → Option RulesError
first_fault fault parts zero = None
first_fault fault parts (suc n) = option_or (first_fault fault parts n) (fault_at fault parts n)

-- that of a name, and that of a kind
abbrev pub first_name_fault : Vocabulary → List Part → ℕ → Option RulesError
first_name_fault v parts n = first_fault (λ i. name_fault v parts (outer_at parts i) i) parts n

abbrev pub first_kind_fault : Vocabulary → List Part → ℕ → Option RulesError
first_kind_fault v parts n = first_fault (λ i. kind_fault v (outer_at parts i) i) parts n

-- Names come first, then kinds, then sizes.
abbrev pub fault_of : Vocabulary → List Part → Option RulesError
fault_of v parts = option_or (option_or (first_name_fault v parts (length parts)) (first_kind_fault v parts (length parts))) (first_fault size_fault parts (length parts))

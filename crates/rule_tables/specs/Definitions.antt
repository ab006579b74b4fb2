-- The rules, classes and guards that names stand for.
use Rattle.std.specs.Prelude.{ℕ, nat_lt, Bool, true, false, Option, Some, None, List, take, position, slice_get, is_some, option_map}
use Rattle.std.specs.List.{count_by}
use Rattle.std.specs.Str.{bytes_eq}
use Rattle.rule_parts.specs.declared.Part.{Part}
use Rattle.rule_parts.specs.declared.Part.TheVariants.{Set, Words, Guard, Rule}

-- the name that a rule, a class or a guard has
abbrev pub name_of : Part → Option (List ℕ)
name_of (Set own size) = Some own.text.now
name_of (Words own size) = Some own.text.now
name_of (Guard own first next) = Some own.text.now
name_of (Rule own message size) = Some own.text.now
name_of part = None

-- whether it is this name
abbrev pub is_name : List ℕ → Option (List ℕ) → Bool
is_name name None = false
is_name name (Some own) = bytes_eq own name

-- whether the part is a rule, a class or a guard with this name
abbrev pub defines : List ℕ → Part → Bool
defines name part = is_name name (name_of part)

-- the index of the first one with this name
abbrev pub definition_of : List Part → List ℕ → Option ℕ
definition_of parts name = position (defines name) parts

-- the part at an index, if there is one
abbrev pub part_in : List Part → Option ℕ → Option Part
part_in parts None = None
part_in parts (Some i) = slice_get parts i

-- the first rule, class or guard with this name
abbrev pub defined : List Part → List ℕ → Option Part
defined parts name = part_in parts (definition_of parts name)

-- whether it is there, and before part i
abbrev pub is_before : ℕ → Option ℕ → Bool
is_before i None = false
is_before i (Some j) = nat_lt j i

-- whether there is such a part
abbrev pub is_set : Option Part → Bool
is_set (Some (Set own size)) = true
is_set part = false

abbrev pub is_rule : Option Part → Bool
is_rule (Some (Rule own message size)) = true
is_rule part = false

abbrev pub is_guard : Option Part → Bool
is_guard (Some (Guard own first next)) = true
is_guard part = false

-- how many members a class has, if the part is one
abbrev pub size_of_class : Option Part → Option ℕ
size_of_class (Some (Set own size)) = Some size
size_of_class (Some (Words own size)) = Some size
size_of_class part = None

abbrev pub is_class : Option Part → Bool
is_class part = is_some (size_of_class part)

-- how many classes there are in some parts
abbrev pub classes_in : List Part → ℕ
classes_in parts = count_by (λ p. is_class (Some p)) parts

-- the number of a class: how many classes stand before it
abbrev pub number_in : List Part → Option ℕ → Option Part → Option ℕ
number_in parts None part = None
number_in parts (Some i) part = option_map (λ _. classes_in (take i parts)) (size_of_class part)

-- the number of the class with this name
abbrev pub class_number : List Part → List ℕ → Option ℕ
class_number parts name = number_in parts (definition_of parts name) (defined parts name)

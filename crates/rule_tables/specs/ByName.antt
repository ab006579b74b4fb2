-- A map with the rules, classes and guards of some parts, by their names.
use Rattle.std.specs.Prelude.{◌≡◌, ℕ, Option, List, take, position, option_map}
use Rattle.std.specs.BTreeMap.{BTreeMap, get_by}
use Rattle.std.specs.Cmp.Lexicographic.{slice_cmp}
use Rattle.std.specs.Ordering.{nat_cmp}
use denote.Ref.{Bor}
use Rattle.rule_parts.specs.declared.Part.{Part}
use Rattle.rule_tables.specs.declared.definitions.Definition.{Definition}
use Rattle.rule_tables.specs.Definitions.{classes_in, defines}

-- the index of a definition, and how many classes stand before it
abbrev pub definition_at : List Part → ℕ → Definition
definition_at parts i = record { part = i; number = classes_in (take i parts) }

-- the first definition of the name in the first n parts
abbrev pub definition_in : List Part → ℕ → List ℕ → Option Definition
definition_in parts n name = option_map (definition_at parts) (position (defines name) (take n parts))

-- what a map has for a name
abbrev pub has_for : BTreeMap (Bor (List ℕ)) Definition → List ℕ → Option Definition
has_for map name = get_by (λ key. slice_cmp nat_cmp name key.now) map

-- a map has the definitions of the first n parts
abbrev pub HasDefinitions : List Part → ℕ → BTreeMap (Bor (List ℕ)) Definition → Type 0
HasDefinitions parts n map = (name : List ℕ) → has_for map name ≡ definition_in parts n name

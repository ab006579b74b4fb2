-- What the parts before one say of it.
use Rattle.std.specs.Prelude.{ℕ, ◌-◌, zero, suc, nat_lt, Bool, true, false, Option, Some, List, slice_get}
use Rattle.rule_parts.specs.declared.Part.{Part}
use Rattle.rule_parts.specs.declared.Part.TheVariants.{Set, Words, Operators}
use Rattle.rule_tables.specs.declared.outer.Outer.{Outer}

-- no part: no class with members, and no operators
abbrev pub no_outer : Outer
no_outer = record { class = 0; size = 0; is_words = false; operators = 0 }

-- what a part and those before it say, by what those before it say
abbrev pub outer_after : Outer → ℕ → Option Part → Outer
outer_after outer i (Some (Set own size)) = record outer { class = i; size = size; is_words = false }
outer_after outer i (Some (Words own size)) = record outer { class = i; size = size; is_words = true }
outer_after outer i (Some (Operators size)) = record outer { operators = i }
outer_after outer i part = outer

-- the last class before part i, and the last operators
abbrev pub outer_at : List Part → ℕ → Outer
outer_at parts zero = no_outer
outer_at parts (suc i) = outer_after (outer_at parts i) i (slice_get parts i)

-- whether part i is a member of the last class before it
abbrev pub is_member : Outer → ℕ → Bool
is_member outer i = nat_lt (i - outer.class - 1) outer.size

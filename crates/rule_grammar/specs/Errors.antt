-- Which errors are told.
use Rattle.std.specs.Prelude.{ℕ, ◌-◌, nat_lt, Bool, true, Option, Some, None}

-- Whether an error at a place is told after the last one: none within three tokens of it, so that one mistake is one
-- error.
abbrev pub is_new_after : Option ℕ → ℕ → Bool
is_new_after None place = true
is_new_after (Some last) place = nat_lt 3 (place - last)

-- Lists that are nested too deep.
use Rattle.std.specs.Prelude.{ℕ, zero, suc, ◌+◌, ◌-◌, ◌==◌, List, [], ◌∷◌, drop, codes, map, if◌then◌else◌}
use Rattle.std.specs.Str.{chars}
use Rattle.squawk_kinds.specs.Kinds.{ERROR, L_PAREN, R_PAREN}
use Rattle.squawk_output.specs.Steps.{Step, Error}
use Rattle.squawk_parser.specs.Eaten.{node, one}

-- how many parentheses are unclosed behind a kind
abbrev pub unclosed_behind : ℕ → ℕ → ℕ
unclosed_behind unclosed kind = if kind == L_PAREN then unclosed + 1 else if kind == R_PAREN then unclosed - 1 else unclosed

-- Of the kinds behind so many unclosed parentheses, those up to the one that closes the first of them; all where none does.
abbrev pub up_to_close : ℕ → List ℕ → List ℕ
up_to_close zero kinds = []
up_to_close (suc unclosed) [] = []
up_to_close (suc unclosed) (kind ∷ kinds) = kind ∷ up_to_close (unclosed_behind (suc unclosed) kind) kinds

abbrev pub too_deep : List ℕ
too_deep = chars (codes "nested too deep")

-- the tokens of a list, its opening parenthesis first, in a node with one error
abbrev pub deep_steps : List ℕ → List Step
deep_steps kinds = node ERROR (Error too_deep ∷ one L_PAREN ∷ map one (up_to_close 1 (drop 1 kinds)))

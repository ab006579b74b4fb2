-- A token that is added to a list. Only private functions speak of it.
use Rattle.std.specs.Prelude.{◌≡◌, List, [], ◌∷◌, ◌++◌, Result, Ok, Err}
use Rattle.std.specs.declared.alloc.AllocError.{AllocError}
use Rattle.squawk_tokens.specs.declared.token.Token.{Token}

-- the token stands behind the list, and is answered
abbrev pub Pushes : List Token → Token → List Token → Result Token AllocError → Type 0
Pushes old token new (Ok found) = (new ≡ old ++ token ∷ []) × (found ≡ token)
Pushes old token new (Err error) = Unit {0}

-- Lists written over others.
use Rattle.std.specs.Prelude.{List, ◌++◌, length, take, drop}

-- a list written over the beginning of another, as far as that has room
abbrev pub over : {X : Type 0} → List X → List X → List X
over {X} front old = take (length old) front ++ drop (length front) old

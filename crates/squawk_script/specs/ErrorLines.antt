-- The lines of the errors of making a script.
use Rattle.std.specs.Prelude.{ℕ, List, ◌++◌, codes}
use Rattle.std.specs.Fmt.{decimal}
use Rattle.squawk_script.specs.declared.script_error.ScriptError.{ScriptError}
use Rattle.squawk_script.specs.declared.script_error.ScriptError.TheVariants.{BadCall, Unspent, OutOfMemory}

-- the line of an error
abbrev pub script_error_line : ScriptError → List ℕ
script_error_line (BadCall index) = codes "bad call " ++ decimal index
script_error_line (Unspent marker) = codes "unspent " ++ decimal marker
script_error_line OutOfMemory = codes "memory"

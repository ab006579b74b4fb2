-- The lines of refusals.
use Rattle.std.specs.Prelude.{ℕ, List, ◌++◌, codes}
use Rattle.std.specs.Fmt.{decimal}
use Rattle.std.specs.declared.io.ErrorKind.{ErrorKind}
use Rattle.std.specs.declared.io.ErrorKind.TheVariants as io
use Rattle.sql_reader.specs.declared.read_error.ReadError.{ReadError}
use Rattle.sql_reader.specs.declared.read_error.ReadError.TheVariants.{Io, NotUtf8}

-- what the system's errors are called
abbrev pub io_words : ErrorKind → List ℕ
io_words io.NotFound = codes "entity not found"
io_words io.PermissionDenied = codes "permission denied"
io_words io.NotADirectory = codes "not a directory"
io_words io.IsADirectory = codes "is a directory"
io_words io.FilesystemLoop = codes "filesystem loop or indirection limit (e.g. symlink loop)"
io_words io.InvalidInput = codes "invalid input parameter"
io_words io.InvalidFilename = codes "invalid filename"
io_words io.OutOfMemory = codes "out of memory"
io_words _ = codes "can't be read"

-- why a script isn't read on
abbrev pub read_error_line : ReadError → List ℕ
read_error_line (Io kind) = io_words kind
read_error_line (NotUtf8 at) = codes "invalid UTF-8 at byte " ++ decimal at

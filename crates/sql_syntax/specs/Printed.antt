-- What is printed of the files that are named.
use Rattle.std.specs.Prelude.{◌≡◌, ◌⊎◌, ℕ, ◌==◌, Result, Ok, Err, Bool, true, false, All, Option, List, ◌∷◌, ◌++◌, length, map, string_bytes}
use Rattle.std.specs.Io.KnownBytes.{Appends}
use Rattle.std.specs.List.{flat_map}
use Rattle.std.specs.declared.alloc.Global.{Global}
use Rattle.std.specs.declared.io.Error.{Error}
use Rattle.std.specs.declared.string.String.{String}
use Rattle.sql_syntax.specs.declared.error.FileError.{FileError}
use Rattle.sql_syntax.specs.declared.error.SqlError.{SqlError}
use Rattle.sql_syntax.specs.declared.error.SqlError.TheVariants.{Io}

-- the name of a file, its text, and the lines that are printed of it
pub record Printed : Type 0 where
  pub name : List ℕ
  pub text : String Global
  pub lines : List ℕ

-- A file was read, and its lines are those that are told of its text.
pub record IsReported (gives : List ℕ → Result (String Global) Error → Type 0) (reports : List ℕ → List ℕ → List ℕ → Type 0) (file : Printed) : Type 0 where
  pub read : gives file.name (Ok file.text)
  pub reported : reports file.name (string_bytes file.text) file.lines

abbrev pub lines_of : List Printed → List ℕ
lines_of files = flat_map (λ file. file.lines) files

-- the lines of a file are printed
pub record IsPrinted (gives : List ℕ → Result (String Global) Error → Type 0) (reports : List ℕ → List ℕ → List ℕ → Type 0)
    (name : List ℕ) (old new : Option (List ℕ)) (clean : Bool) : Type 0 where
  pub file : Printed
  pub named : file.name ≡ name
  pub reported : IsReported gives reports file
  pub printed : Appends old new file.lines
  pub is_clean : clean ≡ (length file.lines == 0)

-- The lines of all files are printed, in order. A text is clean if it has none.
pub record ArePrinted (gives : List ℕ → Result (String Global) Error → Type 0) (reports : List ℕ → List ℕ → List ℕ → Type 0)
    (names : List (List ℕ)) (old new : Option (List ℕ)) (clean : Bool) : Type 0 where
  pub files : List Printed
  pub named : map (λ file. file.name) files ≡ names
  pub reported : All (IsReported gives reports) files
  pub printed : Appends old new (lines_of files)
  pub is_clean : clean ≡ (length (lines_of files) == 0)

-- Reading a file gives this error, and nothing is printed of it.
pub record IsUnread (gives : List ℕ → Result (String Global) Error → Type 0)
    (name : List ℕ) (old new : Option (List ℕ)) (error : SqlError) : Type 0 where
  pub reason : Error
  pub is : error ≡ Io reason
  pub read : gives name (Err reason)
  pub unchanged : new ≡ old

-- A file's text is refused for this reason, and nothing is printed of it.
pub record IsRefused (gives : List ℕ → Result (String Global) Error → Type 0) (refuses : List ℕ → SqlError → Type 0)
    (name : List ℕ) (old new : Option (List ℕ)) (error : SqlError) : Type 0 where
  pub text : String Global
  pub read : gives name (Ok text)
  pub refused : refuses (string_bytes text) error
  pub unchanged : new ≡ old

-- A file has lines that can't all be written. Nothing is known of the output.
pub record IsUnwritten (gives : List ℕ → Result (String Global) Error → Type 0) (reports : List ℕ → List ℕ → List ℕ → Type 0)
    (name : List ℕ) (error : SqlError) : Type 0 where
  pub reason : Error
  pub is : error ≡ Io reason
  pub file : Printed
  pub named : file.name ≡ name
  pub reported : IsReported gives reports file

-- why not all is printed of a file
abbrev pub RefusesFile : (gives : List ℕ → Result (String Global) Error → Type 0) (reports : List ℕ → List ℕ → List ℕ → Type 0)
    (refuses : List ℕ → SqlError → Type 0) (name : List ℕ) (old new : Option (List ℕ)) → SqlError → Type 0
RefusesFile gives reports refuses name old new error =
    IsUnread gives name old new error ⊎ (IsRefused gives refuses name old new error ⊎ IsUnwritten gives reports name error)

-- The error is of the first file that is refused, and those before it are printed.
pub record StopsAt (gives : List ℕ → Result (String Global) Error → Type 0) (reports : List ℕ → List ℕ → List ℕ → Type 0)
    (refuses : List ℕ → SqlError → Type 0) (names : List (List ℕ)) (old new : Option (List ℕ)) (error : FileError) : Type 0 where
  pub front : List (List ℕ)
  pub rest : List (List ℕ)
  pub named : names ≡ front ++ error.name.now ∷ rest
  pub before : Option (List ℕ)
  pub clean : Bool
  pub printed : ArePrinted gives reports front old before clean
  pub reason : RefusesFile gives reports refuses error.name.now before new error.error

-- the status to end with: 0 where nothing is told, 1 where something is, and 3 at an error
abbrev pub status_of : Result Bool FileError → ℕ
status_of (Ok true) = 0
status_of (Ok false) = 1
status_of (Err error) = 3

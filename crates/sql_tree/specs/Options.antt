-- What the arguments say.
use Rattle.std.specs.Prelude.{◌≡◌, ℕ, Bool, true, false, Some, None, List, [], ◌∷◌, MatchBool, Option, codes, filter, map, not, option_map}
use Rattle.clap.specs.Lexer.{usize_max}
use Rattle.clap.specs.Matches.{one_text}
use Rattle.clap.specs.Walk.{Rule}
use Rattle.std.specs.Str.{bytes_eq}
use Rattle.clap.specs.declared.builder.arg.Arg.{Arg}
use Rattle.clap.specs.declared.builder.action.ArgAction.{ArgAction}
use Rattle.clap.specs.declared.builder.action.ArgAction.TheVariants.{Append, SetTrue}
use Rattle.clap.specs.declared.builder.range.ValueRange.{ValueRange}
use Rattle.clap.specs.declared.parser.matches.Found.{Found}
use Rattle.sql_tree.specs.declared.options.Flag.{Flag}
use Rattle.sql_tree.specs.declared.options.Listing.{Listing}
use Rattle.sql_tree.specs.declared.options.Listing.TheVariants.{Tree, Statements, Json, Tokens, Quiet}

-- a flag's name, its help, and what is printed with it
pub record FlagRow : Type 0 where
  pub name : List ℕ
  pub help : List ℕ
  pub listing : Listing

abbrev pub row : List ℕ → List ℕ → Listing → FlagRow
row name help listing = record { name = name; help = help; listing = listing }

abbrev pub flags : List FlagRow
flags =
    row (codes "statements") (codes "Print a line for each statement") Statements
    ∷ row (codes "json") (codes "Print a line of JSON for each statement, with its tree") Json
    ∷ row (codes "tokens") (codes "Print a line for each raw token") Tokens
    ∷ row (codes "quiet") (codes "Print errors alone") Quiet
    ∷ []

abbrev pub row_of : Flag → FlagRow
row_of flag = row flag.name.now flag.help.now flag.listing

-- an argument: what it is called, its long name, what its use does, and how many values a use has
pub record Argument : Type 0 where
  pub name : List ℕ
  pub long : Option (List ℕ)
  pub action : Option ArgAction
  pub values : Option ValueRange

abbrev pub argument_of : Rule → Argument
argument_of rule = record { name = rule.id; long = rule.long; action = rule.action; values = rule.range }

-- what the help says of an argument
abbrev pub help_of : Arg → Option (List ℕ)
help_of arg = option_map (λ help. help.now) arg.help

-- the names of the arguments that one rules out
abbrev pub excluded : Arg → List (List ℕ)
excluded arg = map (λ name. name.now) arg.conflicts.items

-- the names of the other flags
abbrev pub others : List ℕ → List (List ℕ)
others name = filter (λ other. not (bytes_eq other name)) (map (λ flag. flag.name) flags)

-- the files: a use has any number of them
abbrev pub file_argument : Argument
file_argument = record {
  name = codes "FILE";
  long = None;
  action = Some Append;
  values = Some (record { start_inclusive = 0; end_inclusive = usize_max });
}

abbrev pub file_help : List ℕ
file_help = codes "SQL files (UTF-8); standard input if none is given"

-- a flag has no value
abbrev pub flag_argument : FlagRow → Argument
flag_argument flag = record { name = flag.name; long = Some flag.name; action = Some SetTrue; values = None }

abbrev pub arguments : List Argument
arguments = file_argument ∷ map flag_argument flags

-- whether a flag is set, by its text
pub record IsSet (found : Found) (name : List ℕ) (set : Bool) : Type 0 where
  pub none : one_text found name ≡ None → set ≡ false
  pub on : one_text found name ≡ Some (codes "true") → set ≡ true
  pub off : one_text found name ≡ Some (codes "false") → set ≡ false

-- what is printed: by the first of these flags that is set, else the tree
abbrev pub IsAsked : Found → List FlagRow → Listing → Type 0
IsAsked found [] listing = listing ≡ Tree
IsAsked found (flag ∷ others) listing =
    (set : Bool) × IsSet found flag.name set × MatchBool set (listing ≡ flag.listing) (IsAsked found others listing)

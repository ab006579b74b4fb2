-- What is printed.
use Rattle.std.specs.Prelude.{ℕ, ◌+◌, ◌-◌, ◌^◌, ◌||◌, min, nat_lt, is_some, Bool, false, List, [], ◌++◌, Option, None, Some, codes, if◌then◌else◌}
use Rattle.std.specs.Fmt.{decimal}
use Rattle.sql_tree.specs.Refusals.{unread_line}
use Rattle.sql_tree.specs.declared.options.Listing.{Listing}
use Rattle.sql_tree.specs.declared.options.Listing.TheVariants.{Json, Quiet}
use Rattle.sql_tree.specs.declared.report.Report.{Report}
use Rattle.sql_tree.specs.declared.totals.Totals.{Totals}
use Rattle.sql_tree.specs.declared.unread.Unread.{Unread}

-- Names stand over what is listed of several texts, but not where nothing is, nor over JSON, of which each line is a value.
abbrev pub has_headings : Listing → ℕ → Bool
has_headings Json count = false
has_headings Quiet count = false
has_headings listing count = nat_lt 1 count

-- the name of a text over what is listed of it
abbrev pub heading : Bool → List ℕ → List ℕ
heading has name = if has then name ++ codes ":\n" else []

-- why a text of a name isn't read to its end, if it isn't
abbrev pub reason_line : List ℕ → Option Unread → List ℕ
reason_line name None = []
reason_line name (Some unread) = name ++ codes ": " ++ unread_line unread ++ codes "\n"

-- a sum, up to the greatest `usize`
abbrev sum_within : ℕ → ℕ → ℕ
sum_within a b = min (a + b) (2 ^ 64 - 1)

-- nothing was read yet
abbrev pub no_totals : Totals
no_totals = record { files = 0; statements = 0; errors = 0; unread = false }

-- what is counted, with one more text
abbrev pub counted : Totals → Report → Totals
counted totals report = record {
  files = if is_some report.unread then totals.files else sum_within totals.files 1;
  statements = sum_within totals.statements report.statement_count;
  errors = sum_within totals.errors report.error_count;
  unread = is_some report.unread || totals.unread;
}

-- the last line
abbrev pub totals_line : Totals → List ℕ
totals_line totals =
    codes "files: " ++ decimal totals.files ++ codes ", statements: " ++ decimal totals.statements ++ codes ", errors: " ++ decimal totals.errors ++ codes "\n"

-- the status that the program ends with: 3 where a file couldn't be read to its end, else 1 where there are errors
abbrev pub status_of : Totals → ℕ
status_of totals = if totals.unread then 3 else (if nat_lt 0 totals.errors then 1 else 0)

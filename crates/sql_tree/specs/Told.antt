-- What is told of texts, one after another.
use Rattle.std.specs.Prelude.{◌≡◌, ◌≢◌, ◌≤◌, ℕ, Bool, List, [], ◌++◌, IfErr, IfOk, None, Option, Some, Result, fold, length, map}
use Rattle.std.specs.List.{All, flat_map}
use Rattle.std.specs.Io.KnownBytes.{Appends, Consumes, IsAtEnd}
use Rattle.std.specs.IoError.{error_kind}
use Rattle.std.specs.declared.io.Error.{Error}
use Rattle.sql_tree.specs.Listings.{raw_lines}
use Rattle.sql_tree.specs.Printed.{counted, has_headings, heading, no_totals, reason_line, status_of, totals_line}
use Rattle.sql_tree.specs.Reports.{IsToldOf}
use Rattle.sql_tree.specs.declared.options.Listing.{Listing}
use Rattle.sql_tree.specs.declared.options.Listing.TheVariants.{Quiet, Tokens}
use Rattle.sql_tree.specs.declared.report.Report.{Report}
use Rattle.sql_tree.specs.declared.sql.Sql.{Sql}
use Rattle.sql_tree.specs.declared.totals.Totals.{Totals}
use Rattle.sql_tree.specs.declared.unread.Unread.{Unread}
use Rattle.sql_tree.specs.declared.unread.Unread.TheVariants.{Io}

-- a text's name, what opening it gave, what goes to the standard output and the standard error output for it, and what is counted
pub record Told (R : Type 0) : Type 0 where
  pub name : List ℕ
  pub opened : Result R Error
  pub out : List ℕ
  pub errs : List ℕ
  pub report : Report

-- A script is what a reader gives, up to its end where it is read whole. One of more than 4294967295 bytes is told of like any
-- other, but nothing is promised of it.
pub record TellsParts (remaining : Option (List ℕ)) (sql : Sql) (listing : Listing) (name out errs : List ℕ) (report : Report) : Type 0 where
  pub script : List ℕ
  pub after : Option (List ℕ)
  pub read : Consumes remaining after script
  pub end : report.unread ≡ None → IsAtEnd after
  pub told : length script ≤ 4294967295 → IsToldOf sql listing name script out errs report

-- Where raw tokens are asked for, they are listed first: those of all of the script, if it is read whole.
pub record TellsReader (remaining : Option (List ℕ)) (sql : Sql) (listing : Listing) (name out errs : List ℕ) (report : Report) : Type 0 where
  pub listed : List ℕ
  pub parts : TellsParts remaining sql listing name listed errs report
  pub raw : List ℕ
  pub raw_is : report.unread ≡ None → raw ≡ raw_lines listing parts.script
  pub none : listing ≢ Tokens → raw ≡ []
  pub out_is : out ≡ raw ++ listed

-- nothing is told of a text, for a reason
abbrev pub unread_report : Unread → Report
unread_report reason = record { statement_count = 0; error_count = 0; unread = Some reason }

-- Of a text that can't be opened it is told why. Else its heading comes first, then what is told of its script, and why it isn't
-- read to its end.
pub record TellsText {R : Type 0} (remaining : R → Option (List ℕ)) (sql : Sql) (listing : Listing) (has_heading : Bool) (t : Told R) : Type 0 where
  pub listed : List ℕ
  pub shown : List ℕ
  pub unopened : IfErr t.opened (λ error. (t.report ≡ unread_report (Io (error_kind error))) × ((t.out ≡ []) × (shown ≡ [])))
  pub opened : IfOk t.opened (λ reader. (t.out ≡ heading has_heading t.name ++ listed) × TellsReader (remaining reader) sql listing t.name listed shown t.report)
  pub errs : t.errs ≡ shown ++ reason_line t.name t.report.unread

-- Each text in turn is opened by its name, and told of: all is counted, and printed in this order.
pub record TellsTexts {R : Type 0} (gives : List ℕ → Result R Error → Type 0) (remaining : R → Option (List ℕ)) (sql : Sql) (listing : Listing) (has_heading : Bool)
    (names : List (List ℕ)) (totals : Totals) (out new_out errors new_errors : Option (List ℕ)) : Type 0 where
  pub told : List (Told R)
  pub named : map (λ t. t.name) told ≡ names
  pub gave : All (λ t. gives t.name t.opened) told
  pub tells : All (TellsText remaining sql listing has_heading) told
  pub counts : totals ≡ fold counted no_totals (map (λ t. t.report) told)
  pub prints : Appends out new_out (flat_map (λ t. t.out) told)
  pub prints_errors : Appends errors new_errors (flat_map (λ t. t.errs) told)

-- the last line, which isn't printed where only errors are told
abbrev pub last_line : Listing → Totals → List ℕ
last_line Quiet totals = []
last_line listing totals = totals_line totals

-- Of each text is told, and then of all; the status is that of what is counted.
pub record TellsAll {R : Type 0} (gives : List ℕ → Result R Error → Type 0) (remaining : R → Option (List ℕ)) (sql : Sql) (listing : Listing)
    (names : List (List ℕ)) (out new_out errors new_errors : Option (List ℕ)) (status : ℕ) : Type 0 where
  pub totals : Totals
  pub before_last : Option (List ℕ)
  pub texts : TellsTexts gives remaining sql listing (has_headings listing (length names)) names totals out new_out errors before_last
  pub last : Appends before_last new_errors (last_line listing totals)
  pub status_is : status ≡ status_of totals

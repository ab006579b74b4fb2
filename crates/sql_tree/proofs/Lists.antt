-- What is listed of a script, part by part.
use Rattle.std.proofs.Common.{◌≡◌, ◌≢◌, ◌∙◌, ℕ, List, [], ◌∷◌, ◌++◌, ap, arith, length, length-append, refl}
use Rattle.std.proofs.lemmas.List.{append-nil}
use Rattle.squawk_kinds.specs.EngineNames.{names_of}
use Rattle.squawk_kinds.specs.KindNames.{Names}
use Rattle.squawk_table.specs.declared.shortcuts.str_step.OwnedStep.{OwnedStep}
use Rattle.sql_report.specs.Drawn.{drawn}
use Rattle.sql_report.specs.Statements.{statement_lines, statements_of}
use Rattle.sql_report.specs.declared.statement_list.Statement.{Statement}
use Rattle.sql_tree.specs.Listings.{asked_for, listed_in_parts}
use Rattle.sql_tree.specs.OnTheWay.{listed_so_far}
use Rattle.sql_tree.specs.declared.options.Listing.{Listing}
use Rattle.sql_tree.specs.declared.options.Listing.TheVariants.{Tree, Statements, Json, Tokens, Quiet}
use Rattle.sql_tree.specs.declared.sql.Sql.{Sql}

pub nothing_listed : (listing : Listing) (script : List ℕ) (names : Names) → [] ≡ listed_so_far listing script names [] []
nothing_listed Tree script names = refl
nothing_listed Statements script names = refl
nothing_listed Json script names = refl
nothing_listed Tokens script names = refl
nothing_listed Quiet script names = refl

-- what is drawn is listed, but where statements are
pub drawn_listed : (listing : Listing) (script : List ℕ) (names : Names) (ended : List Statement) (drawn : List ℕ) → listing ≢ Statements
    → listed_so_far listing script names ended drawn ≡ drawn
drawn_listed Tree script names ended drawn other = refl
drawn_listed Statements script names ended drawn other = absurd (other refl)
drawn_listed Json script names ended drawn other = refl
drawn_listed Tokens script names ended drawn other = refl
drawn_listed Quiet script names ended drawn other = refl

-- with what is drawn last, all is listed
module _ (sql : Sql) (script : List ℕ) (ended : List Statement) (drawn_before more out : List ℕ) (sent : List OwnedStep) where
  pub all_listed : (listing : Listing) → (listing ≢ Quiet → ended ≡ statements_of sent) → drawn_before ++ more ≡ drawn (asked_for listing) (names_of sql.names.items) sent
      → out ≡ listed_so_far listing script (names_of sql.names.items) ended drawn_before → out ++ more ≡ listed_in_parts sql listing script sent
  all_listed Tree statements all is = ap (λ l. l ++ more) is ∙ all
  all_listed Json statements all is = ap (λ l. l ++ more) is ∙ all
  all_listed Tokens statements all is = ap (λ l. l ++ more) is ∙ all
  all_listed Quiet statements all is = ap (λ l. l ++ more) is ∙ all
  all_listed Statements statements all is =
      ap (λ l. out ++ l) (nothing more (omega (arith, ap length all, length-append drawn_before more)))
      ∙ (append-nil out ∙ (is ∙ ap (statement_lines script (names_of sql.names.items)) (statements (λ quiet. cc quiet))))
    where
      nothing : (bytes : List ℕ) → length bytes ≡ 0 → bytes ≡ []
      nothing [] none = refl
      nothing (byte ∷ bytes) none = absurd (omega (arith, none))

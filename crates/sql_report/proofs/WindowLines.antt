-- One more line that is made at a place of a window.
use Rattle.std.proofs.Common.{◌≡◌, ◌∙◌, inr, ℕ, ◌+◌, ◌<◌, ◌≤◌, ◌^◌, List, [], ◌∷◌, ◌++◌, length, length-append, map, min, get_or, take, append_assoc, ap, arith, subst, sym}
use Rattle.std.specs.Prelude.{All}
use Rattle.std.proofs.lemmas.Grind.{flat_map-append}
use Rattle.std.proofs.lemmas.List.{append-nil, map_more}
use Rattle.squawk_kinds.specs.KindNames.{Names}
use Rattle.sql_report.specs.ErrorLines.{error_at, error_texts, moved_finding, shown_error}
use Rattle.sql_report.specs.Findings.{told}
use Rattle.sql_report.specs.Places.{IsSameWindow, IsWindowOf, SeesLine, Spot, column_at, line_at, shown_before, shown_behind}
use Rattle.sql_report.specs.Statements.{moved_statement, statement_line, statement_lines}
use Rattle.sql_report.specs.declared.finding_list.Finding.{Finding}
use Rattle.sql_report.specs.declared.line_column.LineColumn.{LineColumn}
use Rattle.sql_report.specs.declared.statement_list.Statement.{Statement}
use Rattle.sql_report.proofs.Windows.{AreCounts, error_there, place_there}

module _ (script passed rest : List ℕ) (old place : Spot) (same : IsSameWindow old place) (is : IsWindowOf script passed rest old) (c : LineColumn) (counts : AreCounts place c) where
  -- an error's
  pub error_more : (name called base lines next : List ℕ) (findings : List Finding) (start i : ℕ) (d : Finding) → i < length findings → called ≡ name
      → place.at ≡ min (start + (get_or findings i d).at) (length place.window) → All (λ f. SeesLine passed rest old.window (start + f.at)) findings
      → lines ≡ base ++ error_texts name script (map (moved_finding (length passed + start)) (take i findings))
      → next ≡ lines ++ shown_error called c.line c.column (shown_before place.window place.at) (shown_behind place.window place.at) (told (get_or findings i d))
      → next ≡ base ++ error_texts name script (map (moved_finding (length passed + start)) (take (i + 1) findings))
  error_more name called base lines next findings start i d lt is_name there sees before adds =
      let f = get_or findings i d in
      let n = length passed + start in
      let moved = moved_finding n in
      let texts = error_texts name script (map moved (take i findings)) in
      let shown = shown_error called c.line c.column (shown_before place.window place.at) (shown_behind place.window place.at) (told f) in
      let from : length passed + (start + f.at) ≡ n + f.at = omega arith in
      let shown_is : shown ≡ error_at name script (n + f.at) (told f) =
      ap (λ name. shown_error name c.line c.column (shown_before place.window place.at) (shown_behind place.window place.at) (told f)) is_name
      ∙ (error_there script passed rest old place same is (start + f.at) there c counts name (told f) (sees i d lt) ∙ ap (λ m. error_at name script m (told f)) from) in
      let more : error_texts name script (map moved (take (i + 1) findings)) ≡ texts ++ error_at name script (n + f.at) (told f) =
      ap (error_texts name script) (map_more moved findings i d lt)
      ∙ (flat_map-append (λ (g : Finding). error_at name script g.at (told g)) (map moved (take i findings)) (moved f ∷ [])
      ∙ ap (λ l. texts ++ l) (append-nil (error_at name script (n + f.at) (told f)))) in
      adds ∙ (ap (λ l. l ++ shown) before ∙ (append_assoc base texts shown ∙ ap (λ l. base ++ l) (ap (λ l. texts ++ l) shown_is ∙ sym more)))

  -- a statement's
  pub statement_more : (base lines next : List ℕ) (names called : Names) (statements : List Statement) (in_window start i : ℕ) (s told : Statement) → i < length statements
      → s ≡ get_or statements i s → called ≡ names → start ≡ length passed + in_window → place.at ≡ min (in_window + s.start) (length place.window)
      → All (λ s. (in_window + s.start ≤ length old.window) × (start + s.end < 2 ^ 64)) statements
      → (start + s.start < 2 ^ 64 → start + s.end < 2 ^ 64 → told ≡ moved_statement start s)
      → lines ≡ base ++ statement_lines script names (map (moved_statement start) (take i statements)) → next ≡ lines ++ statement_line c.line c.column called told
      → next ≡ base ++ statement_lines script names (map (moved_statement start) (take (i + 1) statements))
  statement_more base lines next names called statements in_window start i s told lt item are_names begins there stand is_told before adds =
      let stands : (in_window + s.start ≤ length old.window) × (start + s.end < 2 ^ 64) =
      subst (λ (s : Statement). (in_window + s.start ≤ length old.window) × (start + s.end < 2 ^ 64)) (sym item) (stand i s lt) in
      let few = is.countable in
      let moved = moved_statement start s in
      let told_is : told ≡ moved = is_told (omega (arith, begins, stands.0, few, length-append passed old.window)) stands.1 in
      let whole : length passed + (in_window + s.start) ≡ start + s.start = omega (arith, begins) in
      let counted = place_there script passed rest old place same is (in_window + s.start) there c counts (inr stands.0) in
      let line : c.line ≡ line_at script moved.start = counted.0 ∙ ap (line_at script) whole in
      let column : c.column ≡ column_at script moved.start = counted.1 ∙ ap (column_at script) whole in
      let texts = statement_lines script names (map (moved_statement start) (take i statements)) in
      let here = statement_line (line_at script moved.start) (column_at script moved.start) names moved in
      let more : statement_lines script names (map (moved_statement start) (take (i + 1) statements)) ≡ texts ++ here =
      ap (statement_lines script names) (map_more (moved_statement start) statements i s lt ∙ ap (λ s. map (moved_statement start) (take i statements) ++ moved_statement start s ∷ []) (sym item))
      ∙ (flat_map-append (λ (s : Statement). statement_line (line_at script s.start) (column_at script s.start) names s) (map (moved_statement start) (take i statements)) (moved ∷ [])
      ∙ ap (λ l. texts ++ l) (append-nil here)) in
      let here_is : statement_line c.line c.column called told ≡ here =
      ap (λ names. statement_line c.line c.column names told) are_names
      ∙ (ap (statement_line c.line c.column names) told_is
      ∙ (ap (λ n. statement_line n c.column names moved) line ∙ ap (λ n. statement_line (line_at script moved.start) n names moved) column)) in
      adds
      ∙ (ap (λ l. l ++ statement_line c.line c.column called told) before
      ∙ (append_assoc base texts (statement_line c.line c.column called told) ∙ ap (λ l. base ++ l) (ap (λ l. texts ++ l) here_is ∙ sym more)))

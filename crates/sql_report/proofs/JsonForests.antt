-- The lines of a tree's steps are those of its values.
use Rattle.std.proofs.Common.{◌≡◌, ◌∙◌, ℕ, ◌+◌, ◌≤◌, Bool, true, false, List, [], ◌∷◌, ◌++◌, codes, length, ap, append_assoc, arith, refl, sym, encode_utf8_all, add-zero}
use Rattle.std.specs.Fmt.{decimal}
use Rattle.std.proofs.lemmas.Grind.{flat_map-append}
use Rattle.std.proofs.lemmas.List.{append-nil}
use Rattle.json.specs.Print.{escape_byte}
use Rattle.serde_json.specs.Data.{Items, no_items, item}
use Rattle.serde_json.specs.Written.{comma_if, compact_text, items_text}
use Rattle.squawk_json.specs.JsonStrings.{json_string}
use Rattle.squawk_kinds.specs.KindNames.{Names, kind_name}
use Rattle.squawk_output.specs.Steps.{Step}
use Rattle.squawk_table.specs.RawTable.{Table}
use Rattle.squawk_table.specs.Sent.{sent_list}
use Rattle.squawk_table.specs.Shape.{Fits}
use Rattle.squawk_table.specs.declared.shortcuts.str_step.OwnedStep.{OwnedStep}
use Rattle.squawk_table.specs.declared.shortcuts.str_step.OwnedStep.TheVariants as step
use Rattle.squawk_tree.specs.Forest.{Forest, Nothing, Token, Node, Error, forest_bytes, forest_steps}
use Rattle.sql_report.proofs.SentForests.{sent_forest}
use Rattle.sql_report.specs.JsonLines.{Standing, comma, error_object, json_lines, node_closed, node_opened, token_object, with_comma, written_from}
use Rattle.sql_report.specs.JsonTrees.{HasTreeLines, child_items, data_lines, error_items, node_data, root_data, statement_data, token_data}

-- ---- values

-- items without the bracket that closes them
abbrev joined : Bool → Items → List ℕ
joined has_child no_items = []
joined has_child (item d ds) = comma_if has_child ++ (compact_text d ++ joined true ds)

items_text-joined : (has_child : Bool) (ds : Items) → items_text has_child ds ≡ joined has_child ds ++ codes "]"
items_text-joined has_child no_items = refl
items_text-joined has_child (item d ds) =
    rw (items_text-joined true ds) (simp append_assoc)

token_text : (names : Names) (kind start end : ℕ) → compact_text (token_data names kind start end) ≡ token_object names kind start end
unfolding escape_byte
token_text names kind start end = simp append_assoc

-- a node of these texts
abbrev node_shape : List ℕ → List ℕ → List ℕ → List ℕ → List ℕ → List ℕ
node_shape kind start children end errors =
    codes "{\"kind\":" ++ (kind ++ (codes ",\"start\":" ++ (start ++ (codes ",\"children\":[" ++ (children ++ (codes ",\"end\":" ++ (end ++ (codes ",\"errors\":[" ++ (errors ++ codes "}")))))))))

pieces_grouped : (k kind s start c children b e end r errors b' z : List ℕ)
    → k ++ (kind ++ (s ++ (start ++ (c ++ ((children ++ b) ++ (e ++ (end ++ (r ++ ((errors ++ b') ++ z)))))))))
    ≡ ((((k ++ kind) ++ s) ++ start) ++ c) ++ (children ++ (((((b ++ e) ++ end) ++ r) ++ errors) ++ (b' ++ z)))
pieces_grouped k kind s start c children b e end r errors b' z = simp append_assoc

node_grouped_texts : (kind start children end errors : List ℕ)
    → node_shape kind start (children ++ codes "]") end (errors ++ codes "]")
    ≡ ((((codes "{\"kind\":" ++ kind) ++ codes ",\"start\":") ++ start) ++ codes ",\"children\":[")
    ++ (children ++ ((((codes "],\"end\":" ++ end) ++ codes ",\"errors\":[") ++ errors) ++ codes "]}"))
node_grouped_texts kind start children end errors =
    pieces_grouped (codes "{\"kind\":") kind (codes ",\"start\":") start (codes ",\"children\":[") children (codes "]") (codes ",\"end\":") end (codes ",\"errors\":[") errors (codes "]") (codes "}")

node_text : (names : Names) (kind start end : ℕ) (children errors : Items)
    → compact_text (node_data names kind start children end errors) ≡ node_opened names kind start ++ (joined false children ++ node_closed end (joined false errors))
unfolding escape_byte
node_text names kind start end children errors =
    let name = json_string (kind_name names kind) in
    ap (λ c. node_shape name (decimal start) c (decimal end) (items_text false errors)) (items_text-joined false children)
    ∙ (ap (node_shape name (decimal start) (joined false children ++ codes "]") (decimal end)) (items_text-joined false errors)
    ∙ node_grouped_texts name (decimal start) (joined false children) (decimal end) (joined false errors))

error_text : (text : List ℕ) (pos : ℕ) (others : Forest) → (has_child : Bool)
    → joined has_child (error_items (Error text pos others)) ≡ comma_if has_child ++ (error_object text pos ++ joined true (error_items others))
unfolding escape_byte
error_text text pos others has_child = simp append_assoc

-- ---- errors

-- errors with those among trees
abbrev errors_behind : List ℕ → Forest → List ℕ
errors_behind errors Nothing = errors
errors_behind errors (Token kind text others) = errors_behind errors others
errors_behind errors (Node kind inner others) = errors_behind errors others
errors_behind errors (Error text pos others) = errors_behind (with_comma errors ++ error_object text pos) others

errors_more : (byte : ℕ) (errors : List ℕ) (forest : Forest) → errors_behind (byte ∷ errors) forest ≡ (byte ∷ errors) ++ joined true (error_items forest)
errors_more byte errors Nothing = sym (append-nil (byte ∷ errors))
errors_more byte errors (Token kind text others) = errors_more byte errors others
errors_more byte errors (Node kind inner others) = errors_more byte errors others
errors_more byte errors (Error text pos others) =
    let more = errors_more byte ((errors ++ codes ",") ++ error_object text pos) others in
    more ∙ rw (error_text text pos others true) (simp append_assoc)

errors_some : (errors : List ℕ) (forest : Forest) → 1 ≤ length errors → errors_behind errors forest ≡ errors ++ joined true (error_items forest)
errors_some [] forest some = absurd (omega arith)
errors_some (byte ∷ errors) forest some = errors_more byte errors forest

errors_joined : (forest : Forest) → errors_behind [] forest ≡ joined false (error_items forest)
errors_joined Nothing = refl
errors_joined (Token kind text others) = errors_joined others
errors_joined (Node kind inner others) = errors_joined others
errors_joined (Error text pos others) = errors_some (error_object text pos) others (omega arith) ∙ sym (error_text text pos others false)

-- ---- steps

-- whether a child stands before what stands behind trees
abbrev has_child_behind : Bool → Forest → Bool
has_child_behind has_child Nothing = has_child
has_child_behind has_child (Token kind text others) = has_child_behind true others
has_child_behind has_child (Node kind inner others) = has_child_behind true others
has_child_behind has_child (Error text pos others) = has_child_behind has_child others

abbrev stand : List (List ℕ) → Bool → ℕ → Standing
stand nodes has_child at = record { nodes = nodes; has_child = has_child; at = at }

-- where steps stand behind trees
abbrev stand_behind : List (List ℕ) → Bool → ℕ → Forest → Standing
stand_behind nodes has_child at forest = stand nodes (has_child_behind has_child forest) (at + forest_bytes forest)

moved : (names : Names) (nodes : List (List ℕ)) (has_child : Bool) (at end : ℕ) (rest : List OwnedStep) → at ≡ end
    → written_from names (stand nodes has_child at) rest ≡ written_from names (stand nodes has_child end) rest
moved names nodes has_child at end rest same = ap (λ n. written_from names (stand nodes has_child n) rest) same

-- a text before others, and those before a last one
token_grouped : (comma token text all children rest rest' : List ℕ) → text ≡ token → all ≡ children ++ rest → rest ≡ rest'
    → (comma ++ token) ++ all ≡ (comma ++ (text ++ children)) ++ rest'
token_grouped comma token text all children rest rest' e f g = rw (e, f, g) (simp append_assoc)

node_grouped : (comma opened all children closed closed' rest text others rest' rest'' : List ℕ) → all ≡ children ++ (closed ++ rest) → closed ≡ closed' → text ≡ opened ++ (children ++ closed')
    → rest ≡ others ++ rest' → rest' ≡ rest'' → (comma ++ opened) ++ all ≡ (comma ++ (text ++ others)) ++ rest''
node_grouped comma opened all children closed closed' rest text others rest' rest'' e f g h k = rw (e, f, g, h, k) (simp append_assoc)

statement_grouped : (opened all children closed closed' rest text others rest' rest'' : List ℕ) → all ≡ children ++ ((closed ++ codes "\n") ++ rest) → closed ≡ closed' → text ≡ opened ++ (children ++ closed')
    → rest ≡ others ++ rest' → rest' ≡ rest'' → opened ++ all ≡ ((text ++ codes "\n") ++ others) ++ rest''
statement_grouped opened all children closed closed' rest text others rest' rest'' e f g h k = rw (e, f, g, h, k) (simp append_assoc)

further : (at n m : ℕ) → (at + n) + m ≡ at + (n + m)
further at n m = omega arith

-- in a node of a statement
written_from-children : (names : Names) (forest : Forest) (rest : List OwnedStep) (errors node : List ℕ) (nodes : List (List ℕ)) (has_child : Bool) (at : ℕ)
    → written_from names (stand (errors ∷ node ∷ nodes) has_child at) (forest_steps forest ++ rest)
    ≡ joined has_child (child_items names at forest) ++ written_from names (stand_behind (errors_behind errors forest ∷ node ∷ nodes) has_child at forest) rest
written_from-children names Nothing rest errors node nodes has_child at = moved names (errors ∷ node ∷ nodes) has_child at (at + 0) rest (sym (add-zero at))
written_from-children names (Token kind text others) rest errors node nodes has_child at =
    let end = at + length (encode_utf8_all text) in
    token_grouped (comma has_child) (token_object names kind at end) (compact_text (token_data names kind at end))
    (written_from names (stand (errors ∷ node ∷ nodes) true end) (forest_steps others ++ rest)) (joined true (child_items names end others))
    (written_from names (stand_behind (errors_behind errors others ∷ node ∷ nodes) true end others) rest)
    (written_from names (stand_behind (errors_behind errors (Token kind text others) ∷ node ∷ nodes) has_child at (Token kind text others)) rest)
    (token_text names kind at end) (written_from-children names others rest errors node nodes true end)
    (moved names (errors_behind errors others ∷ node ∷ nodes) (has_child_behind true others) (end + forest_bytes others) (at + (length (encode_utf8_all text) + forest_bytes others)) rest
    (further at (length (encode_utf8_all text)) (forest_bytes others)))
written_from-children names (Node kind inner others) rest errors node nodes has_child at =
    let end = at + forest_bytes inner in
    let behind = forest_steps others ++ rest in
    let children = joined false (child_items names at inner) in
    let within = ap (written_from names (stand ([] ∷ errors ∷ node ∷ nodes) false at)) (append_assoc (forest_steps inner) (step.Exit ∷ forest_steps others) rest)
    ∙ written_from-children names inner (step.Exit ∷ behind) [] errors (node ∷ nodes) false at in
    node_grouped (comma has_child) (node_opened names kind at)
    (written_from names (stand ([] ∷ errors ∷ node ∷ nodes) false at) ((forest_steps inner ++ step.Exit ∷ forest_steps others) ++ rest))
    children (node_closed end (errors_behind [] inner)) (node_closed end (joined false (error_items inner)))
    (written_from names (stand (errors ∷ node ∷ nodes) true end) behind)
    (compact_text (node_data names kind at (child_items names at inner) end (error_items inner)))
    (joined true (child_items names end others))
    (written_from names (stand_behind (errors_behind errors others ∷ node ∷ nodes) true end others) rest)
    (written_from names (stand_behind (errors_behind errors others ∷ node ∷ nodes) has_child at (Node kind inner others)) rest)
    within (ap (node_closed end) (errors_joined inner)) (node_text names kind at end (child_items names at inner) (error_items inner))
    (written_from-children names others rest errors node nodes true end)
    (moved names (errors_behind errors others ∷ node ∷ nodes) (has_child_behind true others) (end + forest_bytes others) (at + (forest_bytes inner + forest_bytes others)) rest
    (further at (forest_bytes inner) (forest_bytes others)))
written_from-children names (Error text pos others) rest errors node nodes has_child at =
    written_from-children names others rest (with_comma errors ++ error_object text pos) node nodes has_child at

-- in a root
written_from-statements : (names : Names) (forest : Forest) (rest : List OwnedStep) (errors : List ℕ) (has_child : Bool) (at : ℕ)
    → written_from names (stand (errors ∷ []) has_child at) (forest_steps forest ++ rest)
    ≡ data_lines (statement_data names at forest) ++ written_from names (stand_behind (errors_behind errors forest ∷ []) has_child at forest) rest
written_from-statements names Nothing rest errors has_child at = moved names (errors ∷ []) has_child at (at + 0) rest (sym (add-zero at))
written_from-statements names (Token kind text others) rest errors has_child at =
    let end = at + length (encode_utf8_all text) in
    written_from-statements names others rest errors true end
    ∙ ap (λ l. data_lines (statement_data names end others) ++ l)
    (moved names (errors_behind errors others ∷ []) (has_child_behind true others) (end + forest_bytes others) (at + (length (encode_utf8_all text) + forest_bytes others)) rest
    (further at (length (encode_utf8_all text)) (forest_bytes others)))
written_from-statements names (Node kind inner others) rest errors has_child at =
    let end = at + forest_bytes inner in
    let behind = forest_steps others ++ rest in
    let within = ap (written_from names (stand ([] ∷ errors ∷ []) false at)) (append_assoc (forest_steps inner) (step.Exit ∷ forest_steps others) rest)
    ∙ written_from-children names inner (step.Exit ∷ behind) [] errors [] false at in
    statement_grouped (node_opened names kind at)
    (written_from names (stand ([] ∷ errors ∷ []) false at) ((forest_steps inner ++ step.Exit ∷ forest_steps others) ++ rest))
    (joined false (child_items names at inner)) (node_closed end (errors_behind [] inner)) (node_closed end (joined false (error_items inner)))
    (written_from names (stand (errors ∷ []) true end) behind)
    (compact_text (node_data names kind at (child_items names at inner) end (error_items inner)))
    (data_lines (statement_data names end others))
    (written_from names (stand_behind (errors_behind errors others ∷ []) true end others) rest)
    (written_from names (stand_behind (errors_behind errors others ∷ []) has_child at (Node kind inner others)) rest)
    within (ap (node_closed end) (errors_joined inner)) (node_text names kind at end (child_items names at inner) (error_items inner))
    (written_from-statements names others rest errors true end)
    (moved names (errors_behind errors others ∷ []) (has_child_behind true others) (end + forest_bytes others) (at + (forest_bytes inner + forest_bytes others)) rest
    (further at (forest_bytes inner) (forest_bytes others)))
written_from-statements names (Error text pos others) rest errors has_child at =
    written_from-statements names others rest (with_comma errors ++ error_object text pos) has_child at

root_grouped : (all lines rest lines' both rest' rest'' : List ℕ) → all ≡ lines ++ rest → rest ≡ lines' ++ rest' → both ≡ lines ++ lines' → rest' ≡ rest'' → all ≡ both ++ rest''
root_grouped all lines rest lines' both rest' rest'' e f g h = rw (e, f, g, h) (sym (append_assoc lines lines' rest''))

-- outside of all nodes
written_from-roots : (names : Names) (forest : Forest) (rest : List OwnedStep) (has_child : Bool) (at : ℕ)
    → written_from names (stand [] has_child at) (forest_steps forest ++ rest)
    ≡ data_lines (root_data names at forest) ++ written_from names (stand_behind [] has_child at forest) rest
written_from-roots names Nothing rest has_child at = moved names [] has_child at (at + 0) rest (sym (add-zero at))
written_from-roots names (Token kind text others) rest has_child at =
    let end = at + length (encode_utf8_all text) in
    written_from-roots names others rest true end
    ∙ ap (λ l. data_lines (root_data names end others) ++ l)
    (moved names [] (has_child_behind true others) (end + forest_bytes others) (at + (length (encode_utf8_all text) + forest_bytes others)) rest
    (further at (length (encode_utf8_all text)) (forest_bytes others)))
written_from-roots names (Node kind inner others) rest has_child at =
    let end = at + forest_bytes inner in
    let behind = forest_steps others ++ rest in
    let within = ap (written_from names (stand ([] ∷ []) false at)) (append_assoc (forest_steps inner) (step.Exit ∷ forest_steps others) rest)
    ∙ written_from-statements names inner (step.Exit ∷ behind) [] false at in
    root_grouped (written_from names (stand ([] ∷ []) false at) ((forest_steps inner ++ step.Exit ∷ forest_steps others) ++ rest))
    (data_lines (statement_data names at inner)) (written_from names (stand [] true end) behind)
    (data_lines (root_data names end others)) (data_lines (statement_data names at inner ++ root_data names end others))
    (written_from names (stand_behind [] true end others) rest)
    (written_from names (stand_behind [] has_child at (Node kind inner others)) rest)
    within (written_from-roots names others rest true end) (flat_map-append _ (statement_data names at inner) (root_data names end others))
    (moved names [] (has_child_behind true others) (end + forest_bytes others) (at + (forest_bytes inner + forest_bytes others)) rest
    (further at (forest_bytes inner) (forest_bytes others)))
written_from-roots names (Error text pos others) rest has_child at = written_from-roots names others rest has_child at

-- the lines of a tree
json_lines-forest : (names : Names) (forest : Forest) → json_lines names (forest_steps forest) ≡ data_lines (root_data names 0 forest)
json_lines-forest names forest =
    ap (json_lines names) (sym (append-nil (forest_steps forest)))
    ∙ (written_from-roots names forest [] false 0 ∙ append-nil (data_lines (root_data names 0 forest)))

-- what is sent has the lines of trees
pub tree_lines : (names : Names) (table : Table) (steps : List Step) (text : List ℕ) → Fits table steps → text ≡ json_lines names (sent_list table steps)
    → HasTreeLines names (sent_list table steps) text
tree_lines names table steps text fits lines =
    let sent = sent_forest table steps fits in
    record {
      forest = sent.0;
      walk = sent.1;
      lines = lines ∙ (ap (json_lines names) sent.1 ∙ json_lines-forest names sent.0);
    }

-- What is told of the first element of a kind.
use Rattle.std.proofs.Common.{◌≡◌, ◌∙◌, ℕ, List, Bool, true, Option, Some, None, Decides, encode_utf8_all, is_some, map, ap, sym}
use Rattle.std.specs.Char.{to_ascii_lowercase}
use Rattle.std.specs.Str.{str_eq_ignore_ascii_case}
use Rattle.std.proofs.lemmas.Bool.Decides.{same_from_decides}
use Rattle.std.proofs.lemmas.Slice.Eq.{bytes_eq-Decides}
use Rattle.squawk_tree.specs.Forest.{Forest}
use Rattle.syntax_tree.specs.Layout.{Laid}
use Rattle.syntax_tree.specs.Trees.{text_at, StartsWith}
use Rattle.syntax_tree.specs.Views.{IsFirstIn}
use Rattle.syntax_tree.specs.declared.handle.SyntaxElement.{SyntaxElement}
use Rattle.sql_lint.specs.Nodes.{first_meets, nodes_in, says}

-- it is there
pub is_there : (laid : Laid) (list : List ℕ) (r : Option SyntaxElement) → IsFirstIn laid list r → is_some r ≡ first_meets (λ at. true) list
is_there laid list None none = ap (first_meets (λ at. true)) (sym none)
is_there laid list (Some first) is = ap (first_meets (λ at. true)) (sym is.1.is)

-- it has a text, but for the case of ASCII letters
pub has_text : (tree : Forest) (at kind : ℕ) (text found : List ℕ) (first : ℕ) → StartsWith (nodes_in tree at kind) first
    → encode_utf8_all (text_at tree first) ≡ found → (r : Bool) → Decides r (map to_ascii_lowercase found ≡ map to_ascii_lowercase text)
    → r ≡ says tree at kind text
has_text tree at kind text found first starts is r decides =
    same_from_decides r (str_eq_ignore_ascii_case found text) decides
    (bytes_eq-Decides (map to_ascii_lowercase found) (map to_ascii_lowercase text))
    ∙ (ap (λ t. str_eq_ignore_ascii_case t text) (sym is)
    ∙ ap (first_meets (λ node. str_eq_ignore_ascii_case (encode_utf8_all (text_at tree node)) text)) (sym starts.is))

-- What is read of JSON values.
use Rattle.std.proofs.Common.{◌≡◌, ℕ, List, [], ◌∷◌, Bool, true, false, cond, Ok, Err, Some, None, length, add-one, refl, ap}
use Rattle.std.specs.Prelude.{map, IsUtf8, String}
use Rattle.std.specs.Str.{is_utf8}
use Rattle.std.specs.Option.{ok_or}
use Rattle.std.specs.declared.alloc.Global.{Global}
use Rattle.std.proofs.lemmas.Bool.{eq-eqb, ne_eqb}
use Rattle.std.proofs.lemmas.Str.{IsUtf8-from_is_utf8, is_utf8-from_IsUtf8}
use Rattle.serde_json.specs.Data.{Data}
use Rattle.serde_json.specs.Read.{read}
use Rattle.serde_json.specs.Find.{as_object}
use Rattle.serde_json.specs.View.{view, items_view, members_view}
use Rattle.serde_json.specs.declared.value.Value.{Value}
use Rattle.squawk_document.specs.declared.document_error.DocumentError.TheVariants.{Json, Shape}
use Rattle.squawk_document.specs.Values.{json_value, has_members, data_list, members_len}

pub json_value-ok : (input : List ℕ) (d : Data) → IsUtf8 input → read input ≡ Some d → json_value input ≡ Ok d
json_value-ok input d utf8 e = rw (is_utf8-from_IsUtf8 input utf8, e)

pub json_value-err : (input : List ℕ) → (IsUtf8 input → read input ≡ None) → json_value input ≡ Err Json
json_value-err input none = by_test (is_utf8 input) refl
  where
    by_test : (b : Bool) → is_utf8 input ≡ b → cond b (ok_or (read input) Json) (Err Json) ≡ Err Json
    by_test true e = rw (none (IsUtf8-from_is_utf8 input e))
    by_test false e = refl

pub data_list-items_view : (vs : List Value) → data_list (items_view vs) ≡ map view vs
data_list-items_view [] = refl
data_list-items_view (v ∷ vs) = ap (λ ds. view v ∷ ds) (data_list-items_view vs)

pub members_len-members_view : (ms : List (String Global × Value)) → members_len (members_view ms) ≡ length ms
members_len-members_view [] = refl
members_len-members_view (m ∷ ms) = rw (members_len-members_view ms, add-one)

module _ (d : Data) (n : ℕ) (ms : List (String Global × Value)) (is : Some (members_view ms) ≡ as_object d) where
  pub has_members-all : length ms ≡ n → has_members n d ≡ Ok d
  has_members-all all = rw (← is, members_len-members_view ms, all, eq-eqb n n refl) refl

  pub has_members-other : (length ms ≡ n → ⊥) → has_members n d ≡ Err Shape
  has_members-other other = rw (← is, members_len-members_view ms, ne_eqb (length ms) n other) refl

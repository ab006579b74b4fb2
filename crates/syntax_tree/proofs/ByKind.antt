-- Loops that look for the first element of a kind.
use Rattle.std.proofs.Common.{◌≡◌, ◌∙◌, ℕ, ◌==◌, ◌&&◌, List, [], ◌∷◌, Bool, true, false, cond, filter, map, ap, sym, refl}
use Rattle.std.proofs.lemmas.Bool.{cond-false, cond-true}
use Rattle.squawk_tree.specs.Forest.{Forest}
use Rattle.syntax_tree.specs.Trees.{is_token_at, kind_at, of_kind, tokens_among, StartsWith}
use Rattle.syntax_tree.specs.Layout.{Laid, IsTree}
use Rattle.syntax_tree.specs.Views.{At, element_in, place_in}
use Rattle.syntax_tree.specs.declared.element.Element.{Element}
use Rattle.syntax_tree.proofs.NodesLeft.{kind_is, token_is}
use Rattle.syntax_tree.proofs.PlacesLeft.{BeginsAt, begins, no_places}

-- what a walk passed changes nothing in what is told of all places
pub record PassedBy {A : Type 0} (laid : Laid) (told : List ℕ → A) (all : List ℕ) (walk : List At) : Type 0 where
  pub places : List ℕ
  pub left : walk ≡ map (place_in laid) places
  pub same : told places ≡ told all

-- that is what is told of the places from one on
pub record TellsFrom {A : Type 0} (told : List ℕ → A) (all : List ℕ) (at : ℕ) : Type 0 where
  pub behind : List ℕ
  pub is : told all ≡ told (at ∷ behind)

module _ {A : Type 0} where
  pub all_passed : {laid : Laid} {told : List ℕ → A} {all : List ℕ} {walk : List At} → PassedBy laid told all walk → walk ≡ [] → told all ≡ told []
  all_passed {laid} {told} s none = sym s.same ∙ ap told (no_places laid s.places (sym s.left ∙ none))

module _ {A : Type 0} {laid : Laid} {told : List ℕ → A} {all : List ℕ} {walk : List At} (s : PassedBy laid told all walk) (place : At) (rest : List At)
    (is : walk ≡ place ∷ rest) where
  next : BeginsAt laid s.places place rest
  next = begins laid s.places place rest (sym s.left ∙ is)

  pub its_tree : place.laid ≡ laid
  its_tree = ap (λ p. p.laid) next.place_is

  told_next : told all ≡ told (place.at ∷ next.behind)
  told_next = sym s.same ∙ (ap told next.is ∙ ap (λ at. told (at ∷ next.behind)) (sym (ap (λ p. p.at) next.place_is)))

  pub told_here : TellsFrom told all place.at
  told_here = record { behind = next.behind; is = told_next }

  pub passed : ((list : List ℕ) → told (place.at ∷ list) ≡ told list) → PassedBy laid told all rest
  passed none = record { places = next.behind; left = next.rest_is; same = sym (none next.behind) ∙ sym told_next }

-- the first of those that are left among all places is here
pub found : {laid : Laid} {among : List ℕ → List ℕ} {all : List ℕ} {walk : List At} (s : PassedBy laid among all walk) (place : At) (rest : List At)
    → walk ≡ place ∷ rest → ((list : List ℕ) → among (place.at ∷ list) ≡ place.at ∷ among list) → StartsWith (among all) place.at
found {among = among} s place rest is one =
    let here = told_here s place rest is in
    record { behind = among here.behind; is = here.is ∙ one here.behind }

-- a filter behind another test is one of both
filter-cond : {A : Type 0} (p : A → Bool) (x : A) (list : List A) (b : Bool)
    → filter p (cond b (x ∷ list) list) ≡ cond (b && p x) (x ∷ filter p list) (filter p list)
filter-cond p x list true = refl
filter-cond p x list false = refl

module _ (laid : Laid) (tree : Forest) (is : IsTree laid tree) (at : ℕ) (e : Element) (read : e ≡ element_in laid at) (kind : ℕ) where
  read_kind : (e.kind == kind) ≡ (kind_at tree at == kind)
  read_kind = ap (λ k. k == kind) (ap (λ e. e.kind) read ∙ kind_is laid tree is at)

  pub of_other_kind : (e.kind == kind) ≡ false → (list : List ℕ) → of_kind tree kind (at ∷ list) ≡ of_kind tree kind list
  of_other_kind other list =
      cond-false (kind_at tree at == kind) (at ∷ of_kind tree kind list) (of_kind tree kind list) (sym read_kind ∙ other)

  pub of_that_kind : (e.kind == kind) ≡ true → (list : List ℕ) → of_kind tree kind (at ∷ list) ≡ at ∷ of_kind tree kind list
  of_that_kind that list =
      cond-true (kind_at tree at == kind) (at ∷ of_kind tree kind list) (of_kind tree kind list) (sym read_kind ∙ that)

  read_both : (e.is_token && (e.kind == kind)) ≡ (is_token_at tree at && (kind_at tree at == kind))
  read_both =
      ap (λ b. b && (e.kind == kind)) (ap (λ e. e.is_token) read ∙ token_is laid tree is at) ∙ ap (λ b. is_token_at tree at && b) read_kind

  both_tests : (list : List ℕ) → of_kind tree kind (tokens_among tree (at ∷ list))
      ≡ cond (is_token_at tree at && (kind_at tree at == kind)) (at ∷ of_kind tree kind (tokens_among tree list)) (of_kind tree kind (tokens_among tree list))
  both_tests list = filter-cond (λ at. kind_at tree at == kind) at (tokens_among tree list) (is_token_at tree at)

  pub no_token_of_kind : (e.is_token && (e.kind == kind)) ≡ false → (list : List ℕ)
      → of_kind tree kind (tokens_among tree (at ∷ list)) ≡ of_kind tree kind (tokens_among tree list)
  no_token_of_kind other list =
      let rest = of_kind tree kind (tokens_among tree list) in
      both_tests list ∙ cond-false (is_token_at tree at && (kind_at tree at == kind)) (at ∷ rest) rest (sym read_both ∙ other)

  pub token_of_kind : (e.is_token && (e.kind == kind)) ≡ true → (list : List ℕ)
      → of_kind tree kind (tokens_among tree (at ∷ list)) ≡ at ∷ of_kind tree kind (tokens_among tree list)
  token_of_kind that list =
      let rest = of_kind tree kind (tokens_among tree list) in
      both_tests list ∙ cond-true (is_token_at tree at && (kind_at tree at == kind)) (at ∷ rest) rest (sym read_both ∙ that)

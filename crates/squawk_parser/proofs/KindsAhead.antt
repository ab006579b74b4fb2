-- What grammars may rely on: the kinds of the tokens that are seen.
use Rattle.std.proofs.Common.{◌≡◌, ◌≢◌, ◌∙◌, ℕ, ◌+◌, List, [], ◌∷◌, drop, take, ap, sym, refl}
use Rattle.std.proofs.lemmas.List.{drop-map}
use Rattle.std.proofs.lemmas.List.Elements.{All-drop, All-head, All-take}
use Rattle.squawk_kinds.specs.Kinds.{EOF}
use Rattle.squawk_table.specs.ParserInput.{Entry, HasNoEndToken, kind_in, kinds_in}
use Rattle.squawk_parser.specs.State.{State, IsSound, Keeps, ahead, kind_at}
use Rattle.squawk_parser.proofs.SeenSteps.{ahead-moved, ahead-still, kind_at-first}

first_of_kinds : List ℕ → ℕ
first_of_kinds [] = EOF
first_of_kinds (kind ∷ kinds) = kind

kind_in-first : (seen : List Entry) → kind_in seen 0 ≡ first_of_kinds (kinds_in seen)
unfolding first_of_kinds
kind_in-first [] = refl
kind_in-first (e ∷ seen) = refl

-- the first of them is that of the first token, and the current kind
module _ (a : State) {kind : ℕ} {kinds : List ℕ} (there : kinds_in (ahead a 0) ≡ kind ∷ kinds) where
  pub kind_seen : kind_in (ahead a 0) 0 ≡ kind
  unfolding first_of_kinds
  kind_seen = kind_in-first (ahead a 0) ∙ ap first_of_kinds there

  pub kind_there : kind_at a 0 ≡ kind
  kind_there = kind_at-first a ∙ kind_seen

-- where there is none, the parser sees the end
pub kind_none : (a : State) → kinds_in (ahead a 0) ≡ [] → kind_at a 0 ≡ EOF
unfolding first_of_kinds
kind_none a nothing = kind_at-first a ∙ (kind_in-first (ahead a 0) ∙ ap first_of_kinds nothing)

-- and where it sees the end, there is none
pub kinds_none : (a : State) → IsSound a → kind_at a 0 ≡ EOF → kinds_in (ahead a 0) ≡ []
kinds_none a sound end = cases (ahead a 0) (All-drop (λ e. e.kind ≢ EOF) (a.position + 0) (take a.limit a.input) (All-take (λ e. e.kind ≢ EOF) a.limit a.input sound.no_end)) (sym (kind_at-first a) ∙ end)
  where
    cases : (seen : List Entry) → HasNoEndToken seen → kind_in seen 0 ≡ EOF → kinds_in seen ≡ []
    cases [] no_end first = refl
    cases (e ∷ seen) no_end first = absurd (All-head (λ e. e.kind ≢ EOF) e seen no_end first)

-- elsewhere the current kind is the first
pub kinds_some : (a : State) → kind_at a 0 ≢ EOF → kinds_in (ahead a 0) ≡ kind_at a 0 ∷ drop 1 (kinds_in (ahead a 0))
kinds_some a some =
    cases (ahead a 0) (λ end. some (kind_at-first a ∙ end)) ∙ ap (λ kind. kind ∷ drop 1 (kinds_in (ahead a 0))) (sym (kind_at-first a))
  where
    cases : (seen : List Entry) → kind_in seen 0 ≢ EOF → kinds_in seen ≡ kind_in seen 0 ∷ drop 1 (kinds_in seen)
    cases [] first = absurd (first refl)
    cases (e ∷ seen) first = refl

-- after n tokens the other kinds are seen
pub kinds_moved : {a b : State} (n : ℕ) → Keeps a b → b.position ≡ a.position + n → kinds_in (ahead b 0) ≡ drop n (kinds_in (ahead a 0))
kinds_moved {a} {b} n keeps position = ap kinds_in (ahead-moved n keeps position) ∙ sym (drop-map (λ e. e.kind) n (ahead a 0))

-- where none was eaten, all are
pub kinds_still : {a b : State} → Keeps a b → b.position ≡ a.position → kinds_in (ahead b 0) ≡ kinds_in (ahead a 0)
kinds_still keeps position = ap kinds_in (ahead-still keeps position)

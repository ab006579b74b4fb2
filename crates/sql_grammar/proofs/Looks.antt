-- What looks ahead tell of the kinds of the tokens that are seen.
use Rattle.std.proofs.Common.{◌≡◌, ◌≢◌, ◌∙◌, ℕ, ◌+◌, List, [], ◌∷◌, drop, take, nat_lt, if◌then◌else◌, arith, add-zero, ap, sym, refl}
use Rattle.std.proofs.lemmas.List.{drop-drop, drop-map}
use Rattle.std.proofs.lemmas.List.Elements.{All-drop, All-head, All-take}
use Rattle.squawk_kinds.specs.Kinds.{EOF}
use Rattle.squawk_table.specs.ParserInput.{Entry, HasNoEndToken, kind_in, kinds_in}
use Rattle.squawk_parser.specs.State.{State, IsSound, ahead, kind_at}
use Rattle.squawk_parser.proofs.KindsAhead.{kind_none, kind_there}
use Rattle.sql_grammar.specs.Statements.{first, nth}

module _ (s : State) (n : ℕ) where
  -- the parser as if it stood n tokens further
  further : State
  further = record s { position = s.position + n }

  kind_further : kind_at s n ≡ kind_at further 0
  unfolding further
  kind_further = ap (λ place. if nat_lt place s.limit then kind_in s.input place else EOF) (sym (add-zero (s.position + n)))

  kinds_further : kinds_in (ahead further 0) ≡ drop n (kinds_in (ahead s 0))
  unfolding further
  kinds_further =
      let place : s.position + n + 0 ≡ s.position + 0 + n = omega arith in
      ap (λ place. kinds_in (drop place (take s.limit s.input))) place
      ∙ (ap kinds_in (sym (drop-drop n (s.position + 0) (take s.limit s.input))) ∙ sym (drop-map (λ e. e.kind) n (ahead s 0)))

  -- the kind n places ahead is that of the kinds ahead
  pub kind_nth : kind_at s n ≡ nth (kinds_in (ahead s 0)) n
  kind_nth = kind_further ∙ cases (drop n (kinds_in (ahead s 0))) kinds_further
    where
      cases : (kinds : List ℕ) → kinds_in (ahead further 0) ≡ kinds → kind_at further 0 ≡ first kinds
      cases [] e = kind_none further e
      cases (kind ∷ kinds) e = kind_there further e

  -- where it isn't the end, the tokens there begin with it
  pub kinds_split : kind_at s n ≢ EOF → drop n (kinds_in (ahead s 0)) ≡ kind_at s n ∷ drop (n + 1) (kinds_in (ahead s 0))
  kinds_split some = cases (drop n (kinds_in (ahead s 0))) refl
    where
      cases : (kinds : List ℕ) → drop n (kinds_in (ahead s 0)) ≡ kinds → kinds ≡ kind_at s n ∷ drop (n + 1) (kinds_in (ahead s 0))
      cases [] e = absurd (some (kind_nth ∙ ap first e))
      cases (kind ∷ kinds) e =
          ap (λ k. k ∷ kinds) (sym (kind_nth ∙ ap first e))
          ∙ ap (λ ks. kind_at s n ∷ ks) (sym (sym (drop-drop 1 n (kinds_in (ahead s 0))) ∙ ap (drop 1) e))

  -- where it is the end, there are none
  pub kinds_end : IsSound s → kind_at s n ≡ EOF → drop n (kinds_in (ahead s 0)) ≡ []
  kinds_end sound end =
      drop-map (λ e. e.kind) n (ahead s 0)
      ∙ cases (drop n (ahead s 0)) (All-drop (λ e. e.kind ≢ EOF) n (ahead s 0) (All-drop (λ e. e.kind ≢ EOF) (s.position + 0) (take s.limit s.input) (All-take (λ e. e.kind ≢ EOF) s.limit s.input sound.no_end)))
      (ap first (sym (drop-map (λ e. e.kind) n (ahead s 0))) ∙ (sym kind_nth ∙ end))
    where
      cases : (seen : List Entry) → HasNoEndToken seen → first (kinds_in seen) ≡ EOF → kinds_in seen ≡ []
      cases [] no_end e = refl
      cases (entry ∷ seen) no_end e = absurd (All-head (λ e. e.kind ≢ EOF) entry seen no_end e)

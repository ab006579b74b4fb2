-- The tokens of a list that is nested too deep are eaten one after another.
use Rattle.std.proofs.Common.{◌≡◌, ◌≢◌, ◌∙◌, ℕ, zero, suc, ◌+◌, ◌-◌, ◌<◌, ◌≤◌, ◌==◌, Bool, true, false, List, [], ◌∷◌, ◌++◌, drop, map, if◌then◌else◌, arith, ap, sym, refl, subst, append_assoc}
use Rattle.std.proofs.lemmas.List.{append-nil, map-append}
use Rattle.squawk_kinds.specs.Kinds.{EOF, ERROR, L_PAREN, R_PAREN}
use Rattle.squawk_table.specs.ParserInput.{kind_in, kinds_in}
use Rattle.squawk_output.specs.Draft.{Mark}
use Rattle.squawk_output.specs.Steps.{Error}
use Rattle.squawk_parser.specs.Eaten.{current_as, node, one}
use Rattle.squawk_parser.specs.Recorded.{Begins, Completes, Puts}
use Rattle.squawk_parser.specs.State.{State, IsSound, ahead, kind_at}
use Rattle.squawk_parser.proofs.KindsAhead.{kinds_moved, kinds_none, kinds_some}
use Rattle.squawk_parser.proofs.RecordedSteps.{Keeps-then, node_puts, puts-none, puts-then}
use Rattle.squawk_parser.proofs.SeenSteps.{ahead-still, bump_puts, kind_at-first}
use Rattle.list_grammar.specs.DeepLists.{deep_steps, too_deep, unclosed_behind, up_to_close}

-- some were eaten, and so many parentheses are unclosed behind them
pub record Closing (old now : State) (unclosed : ℕ) : Type 0 where
  pub done : List ℕ
  pub puts : Puts (map one done) old now
  pub all : up_to_close 1 (kinds_in (ahead old 0)) ≡ done ++ up_to_close unclosed (kinds_in (ahead now 0))
  pub few : unclosed ≤ now.position

next : (unclosed kind : ℕ) (kinds : List ℕ) → 0 < unclosed → up_to_close unclosed (kind ∷ kinds) ≡ kind ∷ up_to_close (unclosed_behind unclosed kind) kinds
next zero kind kinds some = absurd (omega arith)
next (suc unclosed) kind kinds some = refl

behind-le : (unclosed kind : ℕ) → unclosed_behind unclosed kind ≤ unclosed + 1
behind-le unclosed kind = cases (kind == L_PAREN) (kind == R_PAREN)
  where
    cases : (opens closes : Bool) → (if opens then unclosed + 1 else if closes then unclosed - 1 else unclosed) ≤ unclosed + 1
    cases true closes = omega arith
    cases false true = omega arith
    cases false false = omega arith

-- a token more
pub closing-next : {a b c : State} {unclosed behind : ℕ} (kind : ℕ) → 0 < unclosed → kind_at b 0 ≢ EOF → kind ≡ kind_at b 0 → behind ≡ unclosed_behind unclosed kind
    → Puts (current_as (kind_in (ahead b 0) 0) (ahead b 0)) b c → Closing a b unclosed → Closing a c behind
closing-next {a} {b} {c} {unclosed} {behind} kind some going is counted bump closing =
    let put : Puts (one kind ∷ []) b c = bump_puts kind (sym (is ∙ kind_at-first b)) (λ end. going (sym is ∙ end)) bump in
    let here : kinds_in (ahead b 0) ≡ kind ∷ kinds_in (ahead c 0) =
    kinds_some b going ∙ (ap (λ kinds. kind_at b 0 ∷ kinds) (sym (kinds_moved 1 put.keeps put.position)) ∙ ap (λ kind. kind ∷ kinds_in (ahead c 0)) (sym is)) in
    let step : up_to_close unclosed (kinds_in (ahead b 0)) ≡ kind ∷ up_to_close behind (kinds_in (ahead c 0)) =
    ap (up_to_close unclosed) here ∙ (next unclosed kind (kinds_in (ahead c 0)) some ∙ ap (λ n. kind ∷ up_to_close n (kinds_in (ahead c 0))) (sym counted)) in
    record {
      done = closing.done ++ kind ∷ [];
      puts = subst (λ steps. Puts steps a c) (sym (map-append one closing.done (kind ∷ []))) (puts-then closing.puts put);
      all = closing.all ∙ (ap (λ kinds. closing.done ++ kinds) step ∙ sym (append_assoc closing.done (kind ∷ []) _));
      few = omega (arith, counted, behind-le unclosed kind, closing.few, put.position);
    }

-- the end, or that of the list
pub closing-all : {a b : State} {unclosed : ℕ} → (0 < unclosed → kind_at b 0 ≡ EOF) → Closing a b unclosed → Puts (map one (up_to_close 1 (kinds_in (ahead a 0)))) a b
closing-all {a} {b} {unclosed} end closing =
    subst (λ kinds. Puts (map one kinds) a b) (sym (closing.all ∙ (ap (λ kinds. closing.done ++ kinds) (none unclosed end) ∙ append-nil closing.done))) closing.puts
  where
    none : (unclosed : ℕ) → (0 < unclosed → kind_at b 0 ≡ EOF) → up_to_close unclosed (kinds_in (ahead b 0)) ≡ []
    none zero end = refl
    none (suc unclosed) end = ap (up_to_close (suc unclosed)) (kinds_none b closing.puts.keeps.sound (end (omega arith)))

-- the node of all of them
pub deep_puts : {a b c d e f : State} {m : Mark} → kind_at a 0 ≡ L_PAREN → Begins m a b → Puts (Error too_deep ∷ []) b c
    → Puts (current_as (kind_in (ahead c 0) 0) (ahead c 0)) c d → Puts (map one (up_to_close 1 (kinds_in (ahead d 0)))) d e → Completes m.id ERROR e f
    → Puts (deep_steps (kinds_in (ahead a 0))) a f
deep_puts {a} {b} {c} {d} {e} {f} is begins error bump close completes =
    let keeps = Keeps-then begins.keeps error.keeps in
    let still : c.position ≡ a.position = omega (arith, error.position, begins.position) in
    let here : kind_in (ahead c 0) 0 ≡ L_PAREN = ap (λ seen. kind_in seen 0) (ahead-still keeps still) ∙ (sym (kind_at-first a) ∙ is) in
    let opening : Puts (one L_PAREN ∷ []) c d = bump_puts L_PAREN here (λ end. absurd (omega (arith, end))) bump in
    let rest : kinds_in (ahead d 0) ≡ drop 1 (kinds_in (ahead a 0)) =
    kinds_moved 1 (Keeps-then keeps opening.keeps) (omega (arith, still, opening.position)) in
    subst (λ kinds. Puts (node ERROR (Error too_deep ∷ one L_PAREN ∷ map one (up_to_close 1 kinds))) a f) rest
    (node_puts begins (puts-then error (puts-then opening close)) completes)

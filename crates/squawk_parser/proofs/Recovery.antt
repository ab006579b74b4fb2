-- An error, and the current token with it in a node.
use Rattle.std.proofs.Common.{◌≡◌, ◌≢◌, ◌∙◌, ℕ, ◌==◌, Bool, true, false, List, [], ◌∷◌, drop, if◌then◌else◌, ap, sym, refl, subst}
use Rattle.std.proofs.lemmas.Bool.{eq-eqb, ne_eqb}
use Rattle.squawk_kinds.specs.Kinds.{EOF, ERROR}
use Rattle.squawk_table.specs.ParserInput.{Entry, kind_in}
use Rattle.squawk_output.specs.Steps.{Error}
use Rattle.squawk_output.specs.Draft.{Mark}
use Rattle.squawk_parser.specs.Eaten.{current_as, no_recovery, node, one, recovery_steps}
use Rattle.squawk_parser.specs.Recorded.{Begins, Completes, Puts}
use Rattle.squawk_parser.specs.State.{State, IsSound, ahead, kind_at}
use Rattle.squawk_parser.proofs.RecordedSteps.{node_puts, puts-none, puts-then}
use Rattle.squawk_parser.proofs.SeenSteps.{ahead-moved, ahead-still, if-false, if-true, kind_at-first}

-- an error eats no token
pub ahead-error : {a b : State} {text : List ℕ} → Puts (Error text ∷ []) a b → ahead b 0 ≡ ahead a 0
ahead-error puts = ahead-moved 0 puts.keeps puts.position

-- at the end no token is eaten
pub current-none : {a : State} (kind : ℕ) → IsSound a → kind_at a 0 ≡ EOF → Puts (current_as kind (ahead a 0)) a a
current-none {a} kind sound end =
    let none : (kind_in (ahead a 0) 0 == EOF) ≡ true = eq-eqb (kind_in (ahead a 0) 0) EOF (sym (kind_at-first a) ∙ end) in
    subst (λ steps. Puts steps a a) (sym (if-true _ _ _ none)) (puts-none a sound)

-- elsewhere the current one is
pub current-some : {a b : State} (kind : ℕ) → kind_at a 0 ≢ EOF → Puts (one kind ∷ []) a b → Puts (current_as kind (ahead a 0)) a b
current-some {a} {b} kind some puts =
    let there : (kind_in (ahead a 0) 0 == EOF) ≡ false = ne_eqb (kind_in (ahead a 0) 0) EOF (λ end. some (kind_at-first a ∙ end)) in
    subst (λ steps. Puts steps a b) (sym (if-false _ _ _ there)) puts

-- an error alone, where the token is one to go on from
pub recovery-there : (text : List ℕ) (recovers : ℕ → Bool) (s : State) → recovers (kind_at s 0) ≡ true → recovery_steps text recovers (ahead s 0) ≡ Error text ∷ []
recovery-there text recovers s test = if-true _ _ _ (ap recovers (sym (kind_at-first s)) ∙ test)

-- a token that isn't one to go on from stands with the error in a node
pub recovery_puts : {a b c d e : State} {m : Mark} (text : List ℕ) (recovers : ℕ → Bool) → recovers (kind_at a 0) ≡ false → Begins m a b → Puts (Error text ∷ []) b c
    → Puts (current_as (kind_in (ahead c 0) 0) (ahead c 0)) c d → Completes m.id ERROR d e → Puts (recovery_steps text recovers (ahead a 0)) a e
recovery_puts {a} {b} {c} {d} {e} text recovers test begins error token completes =
    let seen : ahead c 0 ≡ ahead a 0 = ahead-error error ∙ ahead-still begins.keeps begins.position in
    let here : Puts (current_as (kind_in (ahead a 0) 0) (ahead a 0)) c d =
    subst (λ seen. Puts (current_as (kind_in seen 0) seen) c d) seen token in
    let steps = if-false _ _ _ (ap recovers (sym (kind_at-first a)) ∙ test) in
    subst (λ steps. Puts steps a e) (sym steps) (node_puts begins (puts-then error here) completes)

-- where no kind is one to go on from
pub recovery-same : (text : List ℕ) (recovers others : ℕ → Bool) (seen : List Entry) → ((kind : ℕ) → recovers kind ≡ others kind)
    → recovery_steps text recovers seen ≡ recovery_steps text others seen
recovery-same text recovers others seen same =
    ap (λ b. if b then Error text ∷ [] else node ERROR (Error text ∷ current_as (kind_in seen 0) seen)) (same (kind_in seen 0))

-- ---- where no kind is one to go on from, the current token is eaten

-- the current token stands with the error in a node, and is gone
pub record EatsOne (text : List ℕ) (a b : State) : Type 0 where
  pub entry : Entry
  pub is : ahead a 0 ≡ entry ∷ ahead b 0
  pub kind : entry.kind ≢ EOF
  pub puts : Puts (node ERROR (Error text ∷ one entry.kind ∷ [])) a b

pub eats_one : {text : List ℕ} {a b : State} → kind_at a 0 ≢ EOF → Puts (recovery_steps text no_recovery (ahead a 0)) a b → EatsOne text a b
eats_one {text} {a} {b} some puts = cases (ahead a 0) refl
  where
    cases : (seen : List Entry) → ahead a 0 ≡ seen → EatsOne text a b
    cases [] e = absurd (some (kind_at-first a ∙ ap (λ seen. kind_in seen 0) e))
    cases (entry ∷ rest) e =
        let kind : entry.kind ≢ EOF = λ end. some (kind_at-first a ∙ (ap (λ seen. kind_in seen 0) e ∙ end)) in
        let same : recovery_steps text no_recovery (entry ∷ rest) ≡ node ERROR (Error text ∷ one entry.kind ∷ []) =
        ap (λ steps. node ERROR (Error text ∷ steps)) (if-false _ _ _ (ne_eqb entry.kind EOF kind)) in
        let put : Puts (node ERROR (Error text ∷ one entry.kind ∷ [])) a b =
        subst (λ steps. Puts steps a b) (ap (recovery_steps text no_recovery) e ∙ same) puts in
        record { entry = entry; is = e ∙ ap (λ seen. entry ∷ seen) (sym (ahead-moved 1 put.keeps put.position ∙ ap (drop 1) e)); kind = kind; puts = put }

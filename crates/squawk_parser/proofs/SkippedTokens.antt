-- Tokens are skipped one after another.
use Rattle.std.proofs.Common.{◌≡◌, ◌≢◌, ◌∙◌, ℕ, ◌+◌, ◌==◌, ◌||◌, Bool, true, false, List, [], ◌∷◌, ◌++◌, take, drop, ap, sym, refl, subst, append_assoc}
use Rattle.std.proofs.lemmas.List.{append-nil, map-append}
use Rattle.std.proofs.lemmas.Bool.{eq-eqb, ne_eqb}
use Rattle.std.proofs.lemmas.List.Elements.{All-drop, All-head, All-take}
use Rattle.squawk_kinds.specs.Kinds.{EOF, ERROR}
use Rattle.squawk_table.specs.ParserInput.{Entry, HasNoEndToken, kind_in}
use Rattle.squawk_output.specs.Draft.{Mark}
use Rattle.squawk_output.specs.Steps.{Error}
use Rattle.squawk_parser.specs.Eaten.{current_as, node, one}
use Rattle.squawk_parser.specs.Recorded.{Begins, Completes, Puts}
use Rattle.squawk_parser.specs.Skipped.{before_stop, one_by_one, skip_steps}
use Rattle.squawk_parser.specs.State.{State, IsSound, ahead, kind_at}
use Rattle.squawk_parser.proofs.Recovery.{ahead-error}
use Rattle.squawk_parser.proofs.RecordedSteps.{node_puts, puts-none, puts-then}
use Rattle.squawk_parser.proofs.SeenSteps.{ahead-moved, ahead-still, bump_puts, if-false, if-true, kind_at-first}

-- some tokens were put one by one, and those that are still ahead before a stop are the others
pub record Skips (stops : ℕ → Bool) (a b : State) : Type 0 where
  pub tokens : List Entry
  pub puts : Puts (one_by_one tokens) a b
  pub all : before_stop stops (ahead a 0) ≡ tokens ++ before_stop stops (ahead b 0)

pub skips-none : (stops : ℕ → Bool) (a : State) → IsSound a → Skips stops a a
skips-none stops a sound = record { tokens = []; puts = puts-none a sound; all = refl }

-- whether no token is skipped where a parser stands
abbrev pub stops_at : (ℕ → Bool) → State → Bool
stops_at stops s = kind_at s 0 == EOF || stops (kind_at s 0)

neither : (x y : Bool) → (x || y) ≡ false → (x ≡ false) × (y ≡ false)
neither true y e = absurd (cc)
neither false y e = (refl, e)

-- elsewhere the current token is one to skip
pub record IsSkipped (stops : ℕ → Bool) (s : State) : Type 0 where
  pub entry : Entry
  pub rest : List Entry
  pub seen : ahead s 0 ≡ entry ∷ rest
  pub kind : entry.kind ≢ EOF
  pub goes_on : stops entry.kind ≡ false

pub is_skipped : (stops : ℕ → Bool) (s : State) → stops_at stops s ≡ false → IsSkipped stops s
is_skipped stops s test = cases (ahead s 0) refl
  where
    tests : (kind_at s 0 == EOF ≡ false) × (stops (kind_at s 0) ≡ false)
    tests = neither (kind_at s 0 == EOF) (stops (kind_at s 0)) test

    some : kind_at s 0 ≢ EOF
    some end = absurd (let e = sym tests.0 ∙ eq-eqb (kind_at s 0) EOF end in cc)

    cases : (seen : List Entry) → ahead s 0 ≡ seen → IsSkipped stops s
    cases [] e = absurd (some (kind_at-first s ∙ ap (λ seen. kind_in seen 0) e))
    cases (entry ∷ rest) e =
        let first : kind_at s 0 ≡ entry.kind = kind_at-first s ∙ ap (λ seen. kind_in seen 0) e in
        record { entry = entry; rest = rest; seen = e; kind = λ end. some (first ∙ end); goes_on = sym (ap stops first) ∙ tests.1 }

-- and where none is, none is before a stop
pub none_before : (stops : ℕ → Bool) (s : State) → IsSound s → stops_at stops s ≡ true → before_stop stops (ahead s 0) ≡ []
none_before stops s sound test =
    cases (ahead s 0) (All-drop (λ e. e.kind ≢ EOF) (s.position + 0) (take s.limit s.input) (All-take (λ e. e.kind ≢ EOF) s.limit s.input sound.no_end))
    (ap (λ kind. kind == EOF || stops kind) (sym (kind_at-first s)) ∙ test)
  where
    cases : (seen : List Entry) → HasNoEndToken seen → (kind_in seen 0 == EOF || stops (kind_in seen 0)) ≡ true → before_stop stops seen ≡ []
    cases [] some e = refl
    cases (entry ∷ rest) some e =
        let kind : (entry.kind == EOF) ≡ false = ne_eqb entry.kind EOF (All-head (λ e. e.kind ≢ EOF) entry rest some) in
        if-true _ _ _ (rw kind at e)

-- one more is skipped
pub skips-next : {stops : ℕ → Bool} {a b c : State} → Skips stops a b → stops_at stops b ≡ false
    → Puts (current_as (kind_in (ahead b 0) 0) (ahead b 0)) b c → Skips stops a c
skips-next {stops} {a} {b} {c} so_far test puts =
    let at = is_skipped stops b test in
    let token = bump_puts at.entry.kind (ap (λ seen. kind_in seen 0) at.seen) at.kind puts in
    let others : at.rest ≡ ahead c 0 = sym (ahead-moved 1 token.keeps token.position ∙ ap (drop 1) at.seen) in
    let here : before_stop stops (ahead b 0) ≡ at.entry ∷ before_stop stops (ahead c 0) =
    ap (before_stop stops) at.seen ∙ (if-false _ _ _ at.goes_on ∙ ap (λ seen. at.entry ∷ before_stop stops seen) others) in
    record {
      tokens = so_far.tokens ++ at.entry ∷ [];
      puts = subst (λ steps. Puts steps a c) (sym (map-append (λ e. one e.kind) so_far.tokens (at.entry ∷ []))) (puts-then so_far.puts token);
      all = so_far.all
          ∙ (ap (λ more. so_far.tokens ++ more) here ∙ sym (append_assoc so_far.tokens (at.entry ∷ []) (before_stop stops (ahead c 0))));
    }

-- nothing is put where none is before a stop
pub skip_none : {a : State} (text : List ℕ) (stops : ℕ → Bool) → IsSound a → stops_at stops a ≡ true → Puts (skip_steps text (before_stop stops (ahead a 0))) a a
skip_none {a} text stops sound test =
    subst (λ tokens. Puts (skip_steps text tokens) a a) (sym (none_before stops a sound test)) (puts-none a sound)

-- all that were before a stop stand in a node, behind the error
pub skip_puts : {text : List ℕ} {stops : ℕ → Bool} {a b c d e : State} {m : Mark} → stops_at stops a ≡ false → Begins m a b → Puts (Error text ∷ []) b c
    → Skips stops c d → stops_at stops d ≡ true → Completes m.id ERROR d e → Puts (skip_steps text (before_stop stops (ahead a 0))) a e
skip_puts {text} {stops} {a} {b} {c} {d} {e} {m} first begins error skips last completes =
    let at = is_skipped stops a first in
    let seen : ahead c 0 ≡ ahead a 0 = ahead-error error ∙ ahead-still begins.keeps begins.position in
    let all : before_stop stops (ahead a 0) ≡ skips.tokens =
    ap (before_stop stops) (sym seen)
    ∙ (skips.all ∙ (ap (λ more. skips.tokens ++ more) (none_before stops d skips.puts.keeps.sound last) ∙ append-nil skips.tokens)) in
    let some : before_stop stops (ahead a 0) ≡ at.entry ∷ before_stop stops at.rest = ap (before_stop stops) at.seen ∙ if-false _ _ _ at.goes_on in
    let steps : skip_steps text (before_stop stops (ahead a 0)) ≡ node ERROR (Error text ∷ one_by_one skips.tokens) =
    ap (skip_steps text) some ∙ ap (λ tokens. node ERROR (Error text ∷ one_by_one tokens)) (sym some ∙ all) in
    subst (λ steps. Puts steps a e) (sym steps) (node_puts begins (puts-then error skips.puts) completes)

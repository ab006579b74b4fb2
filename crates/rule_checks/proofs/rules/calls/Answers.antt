use Rattle.std.proofs.Common.{◌≡◌, ℕ, ◌+◌, ◌≤◌, ◌++◌, ◌∷◌, [], List, ◌⊎◌, inl, inr, subst, arith}
use Rattle.std.specs.Prelude.{Contains, ◌↔◌}
use Rattle.std.proofs.lemmas.List.Elements.{Contains-append_left, Contains-push, Contains-push_cases}
use Rattle.rule_grammar.specs.declared.part.Part.{Part}
use Rattle.rule_grammar.specs.declared.part.Part.TheVariants.{Call}
use Rattle.rule_checks.specs.Rows.{row_at}
use Rattle.rule_checks.specs.Rules.{IsCalled}
use Rattle.std.proofs.Math.Nat.{eq-or-lt_of_le}
use Rattle.rule_checks.proofs.rules.calls.Goals as goal
use Rattle.rule_checks.proofs.rules.calls.Goals.{in-Some+in_ok-push, in_default}

called_before : (rows : List Part) (start k r : ℕ) → IsCalled rows start (k + 1) r → (IsCalled rows start k r) ⊎ ((last : ℕ) × (row_at rows k ≡ Call (r + 1) last))
called_before rows start k r call = elim (eq-or-lt_of_le {n = call.at} {m = k} (let before = call.before in omega arith)) [
  | inr less ↦ inl (record { at = call.at; from = call.from; before = less; last = call.last; calls = call.calls })
  | inl last ↦ inr (call.last, subst (λ n. row_at rows n ≡ Call (r + 1) call.last) last call.calls)
]

call_more : (rows : List Part) (start k r rule : ℕ) (list : List ℕ) → start ≤ k → (last : ℕ) × (row_at rows k ≡ Call (rule + 1) last)
    → Contains list r ↔ IsCalled rows start k r → Contains (list ++ rule ∷ []) r ↔ IsCalled rows start (k + 1) r
call_more rows start k r rule list from call before = (
  (λ contained. elim (Contains-push_cases list rule r contained) [
    | inl earlier ↦ let there = before.0 earlier in record { at = there.at; from = there.from; before = omega arith; last = there.last; calls = there.calls }
    | inr same ↦ record { at = k; from = from; before = omega arith; last = call.0; calls = subst (λ n. row_at rows k ≡ Call (n + 1) call.0) same call.1 }
  ]),
  (λ called. elim (called_before rows start k r called) [
    | inl earlier ↦ Contains-append_left list (rule ∷ []) r (before.1 earlier)
    | inr last ↦ let next : rule + 1 ≡ r + 1 = cc (call.1, last.1) in let same : rule ≡ r = omega arith in subst (λ n. Contains (list ++ rule ∷ []) n) same (Contains-push list rule)
  ]),
)

call_none : (rows : List Part) (start k r : ℕ) (list : List ℕ) → ((last : ℕ) → row_at rows k ≡ Call (r + 1) last → ⊥)
    → Contains list r ↔ IsCalled rows start k r → Contains list r ↔ IsCalled rows start (k + 1) r
call_none rows start k r list none before = (
  (λ contained. let there = before.0 contained in record { at = there.at; from = there.from; before = omega arith; last = there.last; calls = there.calls }),
  (λ called. elim (called_before rows start k r called) [ inl earlier ↦ before.1 earlier | inr last ↦ absurd (none last.0 last.1) ]),
)

pub loop-k-preserved : goal.loop-k-preserved
loop-k-preserved c r = elim c.match-called.branch [
  | in-Some+in_ok-push w ↦ rw (w.list-is, w.in_ok-push.ensures.items)
      (call_more c.args.rows.now c.args.start c.loop-k.k r w.in-Some.rule c.loop-k.list.items c.loop-k.auto.k w.in-Some.ensures.is (c.loop-k.invariant r))
  | in_default w ↦ rw w.list-is
      (call_none c.args.rows.now c.args.start c.loop-k.k r c.loop-k.list.items (λ last calls. w.in_default.not-Some r (c.called.ensures.none r last calls)) (c.loop-k.invariant r))
]

pub returns : goal.returns
returns c r = let same : c.loop-k.k ≡ c.args.end = omega arith in subst (λ k. Contains c.loop-k.list.items r ↔ IsCalled c.args.rows.now c.args.start k r) same (c.loop-k.invariant r)

use Rattle.std.specs.Prelude.{ℕ, ◌⊎◌, true}
use Rattle.std.proofs.Common.{◌≡◌, ◌≤◌, ◌∙◌, ap, inl, inr, subst, sym}
use Rattle.rule_grammar.specs.Derivations.{IsOnly, is_silent, next_row}
use Rattle.rule_grammar.specs.Derivations.IsOnly.{after_silent}
use Rattle.rule_grammar.specs.declared.part.Part.{Part}
use Rattle.rule_grammar.specs.declared.part.Part.TheVariants.{Guard, Look}
use Rattle.rule_grammar.proofs.table.Table.only_after_guard.Goals as goal

-- guards and looks eat nothing
quiet : {part : Part} → ((first : ℕ) × (next : ℕ) × (part ≡ Guard first next)) ⊎ ((end : ℕ) × (part ≡ Look end)) → is_silent part ≡ true
quiet (inl guard) = ap is_silent guard.2
quiet (inr look) = ap is_silent look.1

pub returns-then-is_one-clause-is : goal.returns-then-is_one-clause-is
returns-then-is_one-clause-is c =
    let list = c.args.self.now.rows.now in
    let start = c.args.rows.start in
    let end = c.args.rows.end in
    let silent = ap is_silent (sym c.part.ensures) ∙ quiet c.in-Guard.is in
    let to = subst (λ (k : ℕ). end ≤ next_row list k) c.beyond.ensures.is (c.is_one.ensures.only c.if-is_one.true) in
    subst (λ (k : ℕ). IsOnly list start end k) (sym c.beyond.ensures.is) (after_silent silent to)

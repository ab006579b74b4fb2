use Rattle.std.proofs.Common.{◌≡◌, ℕ, ◌+◌, ◌⊎◌, List, Bool, true, inl, inr, subst, sym}
use Rattle.std.specs.Prelude.{◌↔◌}
use Rattle.squawk_kinds.specs.declared.syntax_kind.SyntaxKind.{SyntaxKind}
use Rattle.rule_grammar.specs.declared.part.Part as part
use Rattle.rule_grammar.specs.declared.part.Part.TheVariants.{Repeat, List as Items, Some as Once}
use Rattle.rule_checks.specs.Empty.{AllHave, Empty, RepeatsNothing}
use Rattle.rule_checks.specs.Sets.{IsSetOf, has}
use Rattle.rule_checks.proofs.Lists.{iff_then}
use Rattle.rule_checks.proofs.checks.repeats_nothing.Goals as goal

repeats : (rows : List part.Part) (k end : ℕ) (p : part.Part) → (p ≡ Repeat end) ⊎ ((p ≡ Once end) ⊎ ((separator : SyntaxKind) × (p ≡ Items end separator)))
    → AllHave rows (Empty rows) (k + 1) end ↔ RepeatsNothing rows k p
repeats rows k end p is =
    let same : AllHave rows (Empty rows) (k + 1) end ↔ AllHave rows (Empty rows) (k + 1) end = (λ all. all, λ all. all) in
    let at = λ (q : part.Part). AllHave rows (Empty rows) (k + 1) end ↔ RepeatsNothing rows k q in
    elim is [ inl repeat ↦ subst at (sym repeat) same | inr other ↦ elim other [ inl once ↦ subst at (sym once) same | inr items ↦ subst at (sym items.1) same ] ]

all-same : (rows : List part.Part) (marks : List Bool) (start end : ℕ) → IsSetOf (Empty rows) marks
    → AllHave rows (λ m. has marks m ≡ true) start end ↔ AllHave rows (Empty rows) start end
all-same rows marks start end empties = (λ all m walk. (empties m).0 (all m walk), λ all m walk. (empties m).1 (all m walk))

pub returns-in-Repeat : goal.returns-in-Repeat
returns-in-Repeat c =
    let same = all-same c.args.rows.now c.args.empties.now (c.args.k + 1) c.in-Repeat.end c.requires.empties in
    let repeats_so = repeats c.args.rows.now c.args.k c.in-Repeat.end c.row_at.result c.in-Repeat.is in
    iff_then (iff_then c.all_have.ensures same) (rw c.row_at.ensures at repeats_so)

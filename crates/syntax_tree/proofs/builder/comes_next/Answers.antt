use Rattle.std.proofs.Common.{◌≡◌, ◌∙◌, ℕ, suc, ◌-◌, ◌<◌, List, [], ◌∷◌, length, take, drop, get_or, eqb, arith, ap, sym}
use Rattle.std.proofs.Math.Bool.{and-true}
use Rattle.std.proofs.Math.Seq.{drop-cons}
use Rattle.std.specs.List.{starts_with}
use Rattle.syntax_tree.proofs.builder.comes_next.Goals as goal

one_byte : (source text : List ℕ) (start : ℕ) → length text ≡ 1 → start < length source
    → eqb (get_or text 0 0) (get_or source start 0) ≡ starts_with eqb (take (length source - start) (drop start source)) text
one_byte source [] start one low = absurd (omega (arith, one))
one_byte source (t ∷ u ∷ r) start one low = absurd (omega (arith, one))
one_byte source (t ∷ []) start one low =
    let rest = length source - suc start in
    let is : length source - start ≡ suc rest = omega (arith, low) in
    sym (and-true (eqb t (get_or source start 0)))
    ∙ ap (λ l. starts_with eqb l (t ∷ [])) (sym (ap (λ n. take n (drop start source)) is ∙ ap (take (suc rest)) (drop-cons source start 0 low)))

pub returns-then-start-source : goal.returns-then-start-source
returns-then-start-source c = one_byte c.args.source.now c.args.text.now c.args.start c.if-text-eq1.true c.if-start-source.true

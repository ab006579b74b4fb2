use Rattle.std.proofs.Common.{◌≡◌, ◌/◌, ◌<◌, ◌≤◌, ◌==◌, ◌||◌, length, get_or, take, ap, sym, ◌∙◌, arith, length-set, take_all}
use Rattle.std.specs.List.{list_any}
use Rattle.std.proofs.lemmas.List.Folds.{list_any_more}
use Rattle.squawk_kinds.specs.Kinds.{WHITESPACE}
use Rattle.squawk_kinds.proofs.TokenSetLemmas.{with_bit-is, has-all}
use Rattle.squawk_kinds.proofs.token_set.TokenSet.new.Goals as goal

pub loop-kind-preserved : goal.loop-kind-preserved
loop-kind-preserved c =
    let kinds = c.args.kinds.now in
    let at = c.loop-kind.kind-index in
    let n = c.from-number.result in
    let d = c.kind-item.result in
    let number : n ≡ get_or kinds at d = c.from-number.ensures ∙ c.from.ensures ∙ c.kind-item.is in
    let token : n ≤ WHITESPACE = rw number (c.requires at d c.loop-kind-test.true) in
    let size : length c.loop-kind.set-inside.0 ≡ 10 = c.loop-kind.invariant.size in
    let within : n / 64 < length c.loop-kind.set-inside.0 = omega arith in
    record {
      size = length-set _ _ _ ∙ size;
      kinds = λ k le.
          with_bit-is c.loop-kind.set-inside.0 n k within
          ∙ ap (λ b. b || (n == k)) (c.loop-kind.invariant.kinds k le)
          ∙ ap (λ m. list_any (λ one. one == k) (take at kinds) || (m == k)) number
          ∙ sym (list_any_more (λ one. one == k) kinds at d c.loop-kind-test.true);
    }

pub returns : goal.returns
returns c =
    let kinds = c.args.kinds.now in
    let over : length kinds ≤ c.loop-kind.kind-index = c.loop-kind-test.false in
    has-all c.loop-kind.set-inside.0 kinds c.requires (λ k le. rw (take_all _ _ over) at (c.loop-kind.invariant.kinds k le))

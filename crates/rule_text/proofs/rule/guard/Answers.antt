use Rattle.std.proofs.Common.{refl}
use Rattle.rule_text.proofs.Definitions.{guard_read, miss_guards}
use Rattle.rule_text.proofs.Decisions.{decides_by, exits}
use Rattle.rule_text.proofs.Reading.{over_more, over_one, sort_not_from, word_sort}
use Rattle.rule_text.proofs.rule.guard.Goals as goal

pub returns : goal.returns
returns c =
    decides_by c.push.result c.push.ensures.adds c.push.ensures.only
    (λ adds. guard_read c.in_ok-name.ensures.read (c.in_ok-expect.ensures.takes refl) (c.in_ok-first.ensures.takes refl) (c.in_ok-expect-2.ensures.takes refl)
    (c.in_ok-next.ensures.takes refl) adds)

pub returns-in_err-expect : goal.returns-in_err-expect
returns-in_err-expect c =
    exits c.from_residual-in_err-expect.ensures.0 (miss_guards c.in_ok-name.ensures.read (λ f n g. c.in_err-expect.ensures.misses g.begins))

pub returns-in_err-first : goal.returns-in_err-first
returns-in_err-first c =
    let over1 = over_one (c.in_ok-expect.ensures.takes refl).bumps in
    exits c.from_residual-in_err-first.ensures.0
    (miss_guards c.in_ok-name.ensures.read (λ f n g. sort_not_from over1 c.in_err-first.ensures.misses (word_sort g.one)))

pub returns-in_err-expect-2 : goal.returns-in_err-expect-2
returns-in_err-expect-2 c =
    let over2 = over_more (over_one (c.in_ok-expect.ensures.takes refl).bumps) (c.in_ok-first.ensures.takes refl).bumps in
    exits c.from_residual-in_err-expect-2.ensures.0
    (miss_guards c.in_ok-name.ensures.read (λ f n g. sort_not_from over2 c.in_err-expect-2.ensures.misses g.ends))

pub returns-in_err-next : goal.returns-in_err-next
returns-in_err-next c =
    let over2 = over_more (over_one (c.in_ok-expect.ensures.takes refl).bumps) (c.in_ok-first.ensures.takes refl).bumps in
    let over3 = over_more over2 (c.in_ok-expect-2.ensures.takes refl).bumps in
    exits c.from_residual-in_err-next.ensures.0
    (miss_guards c.in_ok-name.ensures.read (λ f n g. sort_not_from over3 c.in_err-next.ensures.misses (word_sort g.other)))

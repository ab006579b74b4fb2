use Rattle.std.proofs.Common.{refl}
use Rattle.squawk_script.proofs.StepCalls.{eat_puts, puts-performs}
use Rattle.squawk_script.specs.declared.call.Call.TheVariants.{Eat, BumpAny, BumpRemap, Expect, Error, ErrRecover, ErrAndBump}
use Rattle.squawk_script.proofs.run.perform.Goals as goal

pub returns-in-Eat-clause-performs : goal.returns-in-Eat-clause-performs
returns-in-Eat-clause-performs c =
    rw c.in-Eat.is
    (puts-performs _ _ _ (Eat c.in-Eat.kind) c.requires.tied
    (eat_puts _ _ c.in-Eat.kind c.eat.result c.eat.ensures.at c.eat.ensures.keeps c.eat.ensures.puts c.eat.ensures.none) refl (λ run. refl) (λ tokens. refl))

pub returns-in-BumpAny-clause-performs : goal.returns-in-BumpAny-clause-performs
returns-in-BumpAny-clause-performs c =
    rw c.in-BumpAny.is (puts-performs _ _ _ BumpAny c.requires.tied c.bump_any.ensures.puts refl (λ run. refl) (λ tokens. refl))

pub returns-in-BumpRemap-clause-performs : goal.returns-in-BumpRemap-clause-performs
returns-in-BumpRemap-clause-performs c =
    rw c.in-BumpRemap.is
    (puts-performs _ _ _ (BumpRemap c.in-BumpRemap.kind) c.requires.tied c.bump_remap.ensures.puts refl (λ run. refl) (λ tokens. refl))

pub returns-in-Expect-clause-performs : goal.returns-in-Expect-clause-performs
returns-in-Expect-clause-performs c =
    rw c.in-Expect.is (puts-performs _ _ _ (Expect c.in-Expect.kind) c.requires.tied c.expect.ensures.puts refl (λ run. refl) (λ tokens. refl))

pub returns-in-Error-clause-performs : goal.returns-in-Error-clause-performs
returns-in-Error-clause-performs c =
    let puts = c.error.ensures.puts in
    rw c.in-Error.is (puts-performs _ _ _ (Error c.in-Error.message) c.requires.tied (rw c.as_str.ensures.chars at puts) refl (λ run. refl) (λ tokens. refl))

pub returns-in-ErrRecover-clause-performs : goal.returns-in-ErrRecover-clause-performs
returns-in-ErrRecover-clause-performs c =
    let puts = c.err_recover.ensures in
    rw c.in-ErrRecover.is
    (puts-performs _ _ _ (ErrRecover c.in-ErrRecover.message c.in-ErrRecover.recovery) c.requires.tied
    (rw c.as_str-in-ErrRecover.ensures.chars at puts) refl (λ run. refl) (λ tokens. refl))

pub returns-in-ErrAndBump-clause-performs : goal.returns-in-ErrAndBump-clause-performs
returns-in-ErrAndBump-clause-performs c =
    let puts = c.err_and_bump.ensures.puts in
    rw c.in-ErrAndBump.is
    (puts-performs _ _ _ (ErrAndBump c.in-ErrAndBump.message) c.requires.tied
    (rw c.as_str-in-ErrAndBump.ensures.chars at puts) refl (λ run. refl) (λ tokens. refl))

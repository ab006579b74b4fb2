use Rattle.std.proofs.Common.{◌≡◌, take}
use Rattle.rule_text.specs.Places.{place_after}
use Rattle.rule_text.proofs.error.place_after.Given as goal

abbrev pub invariant-loop-one : goal.invariant-loop-one
invariant-loop-one l = l.place ≡ place_after (take l.one-index l.before)

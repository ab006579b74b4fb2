use Rattle.std.proofs.Common.{◌≡◌, ◌∷◌, rules}
use Rattle.std.proofs.lemmas.List.Elements.{All-tail}
use Rattle.squawk_output.specs.StoredSteps.{HasText, unpacked}
use Rattle.squawk_output.proofs.output.steps.StepsIterator.next.Goals as goal

pub invariant_of-self : goal.invariant_of-self
invariant_of-self c =
    let cut : c.self.inside.words.now ≡ c.in_ok-first.first.now ∷ c.in_ok-first.rest.now = search rules in
    All-tail (λ word. HasText c.self.inside.errors.now (unpacked word)) c.in_ok-first.first.now c.in_ok-first.rest.now (rw cut at c.self.invariant)

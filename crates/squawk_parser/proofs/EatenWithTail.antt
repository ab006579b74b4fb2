-- A kind with a tail that records steps: all of it stands in one node.
use Rattle.std.proofs.Common.{◌≡◌, ◌∙◌, ℕ, ◌++◌, List, ap, subst}
use Rattle.squawk_output.specs.Steps.{Step}
use Rattle.squawk_parser.specs.Eaten.{EatsWith, closing_steps, element_steps, elements_of_kind, node, tail_of_kind}
use Rattle.squawk_parser.specs.Recorded.{Puts}
use Rattle.squawk_parser.specs.State.{State, IsSound, Keeps, ahead}
use Rattle.squawk_parser.proofs.RecordedSteps.{Keeps-then, node_puts, puts-then}
use Rattle.squawk_parser.proofs.SeenSteps.{ahead-still}

-- Where the tail records these steps, the node has them between its tokens and what closes them, for what is
-- ahead of the parser behind the tail.
pub eats_with_puts : {does : State → State → Type 0} {kind : ℕ} {old new : State} → EatsWith does kind old new → (steps : List Step)
    → ((a b : State) → IsSound a → Keeps a b → does a b → Puts steps a b)
    → (ran : State) × IsSound ran × Puts (node kind (element_steps (elements_of_kind kind) (ahead old 0) ++ (steps ++ closing_steps old.words (tail_of_kind kind) (ahead ran 0)))) old new
eats_with_puts {does} {kind} {old} {new} e steps records =
    let begins = e.does_so in
    let elements = e.goes_on.does_so in
    let tail = e.goes_on.goes_on.does_so in
    let ran = e.goes_on.goes_on.between in
    let recorded = records e.goes_on.between ran elements.keeps.sound tail.keeps tail.runs in
    let all = puts-then elements (puts-then recorded e.goes_on.goes_on.goes_on.does_so) in
    let words : ran.words ≡ old.words = (Keeps-then begins.keeps (Keeps-then elements.keeps tail.keeps)).words in
    let seen : ahead e.between 0 ≡ ahead old 0 = ahead-still begins.keeps begins.position in
    let same = ap (λ seen. element_steps (elements_of_kind kind) seen ++ (steps ++ closing_steps ran.words (tail_of_kind kind) (ahead ran 0))) seen
    ∙ ap (λ words. element_steps (elements_of_kind kind) (ahead old 0) ++ (steps ++ closing_steps words (tail_of_kind kind) (ahead ran 0))) words in (
      ran,
      tail.keeps.sound,
      node_puts begins (subst (λ steps. Puts steps e.between e.goes_on.goes_on.goes_on.between) same all) e.goes_on.goes_on.goes_on.goes_on,
    )

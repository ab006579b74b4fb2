-- The tokens that are left are eaten one after another.
use Rattle.std.proofs.Common.{◌≡◌, ◌≢◌, ◌∙◌, ◌<◌, ◌==◌, List, [], ◌∷◌, ◌++◌, length, arith, ap, sym, refl, subst, append_assoc}
use Rattle.std.proofs.lemmas.Bool.{ne_eqb}
use Rattle.std.proofs.lemmas.List.{append-nil}
use Rattle.squawk_kinds.specs.Kinds.{EOF, ERROR}
use Rattle.squawk_table.specs.ParserInput.{Entry, kind_in}
use Rattle.squawk_output.specs.Steps.{Step, Error}
use Rattle.squawk_parser.specs.Eaten.{node, one, recovery_steps, no_recovery}
use Rattle.squawk_parser.specs.Recorded.{Puts}
use Rattle.squawk_parser.specs.State.{State, ahead, kind_at}
use Rattle.squawk_parser.proofs.RecordedSteps.{puts-then}
use Rattle.squawk_parser.proofs.Recovery.{eats_one}
use Rattle.squawk_parser.proofs.SeenSteps.{if-false, if-true, kind_at-first}
use Rattle.tiny_grammar.specs.Expressions.{expected_end, tail_steps}

-- a parser that has eaten some of them
pub record Eating (old now : State) : Type 0 where
  pub done : List Step
  pub puts : Puts done old now
  pub all : tail_steps (ahead old 0) ≡ done ++ tail_steps (ahead now 0)

module _ {b c : State} (some : kind_at b 0 ≢ EOF) (puts : Puts (recovery_steps expected_end no_recovery (ahead b 0)) b c) where
  pub eating-next : {a : State} → Eating a b → Eating a c
  eating-next {a} eating =
      let eats = eats_one some puts in
      let step = node ERROR (Error expected_end ∷ one eats.entry.kind ∷ []) in
      let next : tail_steps (ahead b 0) ≡ step ++ tail_steps (ahead c 0) =
      ap tail_steps eats.is ∙ if-false _ _ _ (ne_eqb eats.entry.kind EOF eats.kind) in
      record {
        done = eating.done ++ step;
        puts = puts-then eating.puts eats.puts;
        all = eating.all ∙ (ap (λ steps. eating.done ++ steps) next ∙ sym (append_assoc eating.done step (tail_steps (ahead c 0))));
      }

pub eating-all : {a b : State} → Eating a b → kind_at b 0 ≡ EOF → Puts (tail_steps (ahead a 0)) a b
eating-all {a} {b} eating end =
    let first : kind_in (ahead b 0) 0 ≡ EOF = sym (kind_at-first b) ∙ end in
    let none : tail_steps (ahead b 0) ≡ [] = cases (ahead b 0) first in
    subst (λ steps. Puts steps a b) (sym (eating.all ∙ (ap (λ steps. eating.done ++ steps) none ∙ append-nil eating.done))) eating.puts
  where
    cases : (seen : List Entry) → kind_in seen 0 ≡ EOF → tail_steps seen ≡ []
    cases [] e = refl
    cases (entry ∷ rest) e = if-true _ _ _ (ap (λ kind. kind == EOF) e)

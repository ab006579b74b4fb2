-- Kinds entered from the last to the first.
use Rattle.std.proofs.Common.{◌≡◌, ◌∙◌, ℕ, ◌+◌, ◌≤◌, List, [], ◌∷◌, ◌++◌, length, sym, ap, arith, append_assoc, length-append}
use Rattle.std.proofs.lemmas.List.{append-nil}
use Rattle.squawk_output.specs.Steps.{Built}
use Rattle.squawk_output.specs.EventLog.{entering}
use Rattle.squawk_output.specs.Chain.{entered_back}
use Rattle.squawk_output.specs.Pass.{Enters}

entered_back-push : (kinds : List ℕ) (kind : ℕ) → entered_back (kinds ++ kind ∷ []) ≡ entering kind ++ entered_back kinds
entered_back-push [] kind = sym (append-nil (entering kind))
entered_back-push (k ∷ ks) kind = ap (λ ys. ys ++ entering k) (entered_back-push ks kind) ∙ append_assoc (entering kind) (entered_back ks) (entering k)

-- one kind more
pub Enters-next : (kinds before after : List ℕ) (output made entered : Built) (kind : ℕ) → before ≡ after ++ kind ∷ []
    → entered ≡ record made { steps = made.steps ++ entering kind; turns = made.turns + 1 } → Enters kinds output before made → Enters kinds output after entered
Enters-next kinds before after output made entered kind popped is enters = record {
  turns = omega (arith, ap length popped, length-append after (kind ∷ []), enters.turns, ap (λ w. w.turns) is);
  steps =
      ap (λ w. w.steps ++ entered_back after) is
      ∙ (append_assoc made.steps (entering kind) (entered_back after)
      ∙ (ap (λ ys. made.steps ++ ys) (sym (entered_back-push after kind) ∙ ap entered_back (sym popped)) ∙ enters.steps));
  room = ap (λ w. w.room) is ∙ enters.room;
  texts = ap (λ w. w.texts) is ∙ enters.texts;
}

-- the next kind to be entered has room
pub next_enters : (kinds before after : List ℕ) (output made : Built) (kind : ℕ) → before ≡ after ++ kind ∷ [] → Enters kinds output before made
    → length output.steps + length (entered_back kinds) ≤ output.room → length made.steps + length (entering kind) ≤ made.room
next_enters kinds before after output made kind popped enters room =
    omega (
      arith,
      room,
      enters.room,
      ap length enters.steps,
      length-append made.steps (entered_back before),
      length-append output.steps (entered_back kinds),
      ap length (ap entered_back popped ∙ entered_back-push after kind),
      length-append (entering kind) (entered_back after),
    )

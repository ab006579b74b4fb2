-- Calls that put steps at the end of a draft.
use Rattle.std.proofs.Common.{◌≡◌, ◌∙◌, ℕ, ◌+◌, Bool, not, List, [], refl, arith, ap, sym, subst, IsTrue, length, map}
use Rattle.std.proofs.lemmas.Bool.{cond_both}
use Rattle.squawk_kinds.specs.TokenSets.{has}
use Rattle.squawk_table.specs.ParserInput.{Entry}
use Rattle.squawk_output.specs.Steps.{Step, eaten, is_error}
use Rattle.squawk_parser.specs.Composites.{stands_at}
use Rattle.squawk_parser.specs.Eaten.{eat_steps}
use Rattle.squawk_parser.specs.LookAhead.{seen_from}
use Rattle.squawk_parser.specs.Recorded.{Puts, items_for, with_steps}
use Rattle.squawk_parser.specs.State.{State, IsSound, Keeps, ahead}
use Rattle.squawk_parser.proofs.RecordedSteps.{puts-none, went}
use Rattle.squawk_parser.proofs.StepsAtEnd.{closed-items_for}
use Rattle.squawk_script.specs.Events.{events_made}
use Rattle.squawk_script.specs.Meaning.{Run, call_steps, seen, stepped, with_call}
use Rattle.squawk_script.specs.Slots.{IsAt, IsTied, Performs, advanced, statuses_of}
use Rattle.squawk_script.specs.declared.call.Call.{Call}
use Rattle.squawk_script.specs.declared.call.Call.TheVariants as calls
use Rattle.squawk_script.specs.declared.slot.Slot.{Slot}
use Rattle.squawk_script.proofs.Held.{holds-put}
use Rattle.squawk_script.proofs.MarkerCalls.{Acts, acted, limit-kept}
use Rattle.squawk_script.proofs.Refusals.{steps-fail}

-- a parser sees what a run in its state does
seen-same : (s : State) (run : Run) → s.limit ≡ length s.input → run.position ≡ s.position → ahead s 0 ≡ seen s.input run
seen-same s run limit position =
    ap (λ n. seen_from s.input n (s.position + 0)) limit ∙ ap (λ n. seen_from s.input (length s.input) n) (let p : s.position + 0 ≡ run.position = omega (arith, position) in p)

-- a call whose steps are put at the end
pub puts-performs : (old new : State) (slots : List Slot) (call : Call) → IsTied old slots → Puts (call_steps old.words (ahead old 0) call) old new
    → advanced (statuses_of slots) call ≡ statuses_of slots
    → ((run : Run) → stepped old.words old.input run call ≡ with_call run (call_steps old.words (seen old.input run) call))
    → ((tokens : List Entry) → events_made old.words tokens call ≡ map is_error (call_steps old.words tokens call)) → Performs old new slots slots call
puts-performs old new slots call tied puts stays leads makes =
    let steps : List Step = call_steps old.words (ahead old 0) call in
    let after : State = record old { draft = with_steps old.draft steps; position = old.position + eaten steps } in
    let acts : Acts old new after (map is_error steps) = record {
      draft = puts.draft;
      went = went puts.keeps;
      limit = limit-kept puts.keeps;
      position = puts.position;
      fails = steps-fail old new steps puts.refused;
    } in
    acted old new slots slots tied call after slots (map is_error steps) acts refl
    (holds-put old.draft.items (items_for old.draft.entries steps) slots (closed-items_for old.draft.entries steps)) (sym stays)
    (λ run at.
    subst (IsAt after slots) (sym (leads run))
    (subst (λ tokens. IsAt after slots (with_call run (call_steps old.words tokens call))) (seen-same old run tied.limit at.position) (record {
      draft = ap (λ d. with_steps d steps) at.draft;
      position = ap (λ n. n + eaten steps) at.position;
      count = at.count;
      markers = at.markers;
    })))
    (λ run at.
    makes (seen old.input run) ∙ ap (λ tokens. map is_error (call_steps old.words tokens call)) (sym (seen-same old run tied.limit at.position)))

-- eating a kind puts its steps at the end where it stands, and nothing where it doesn't
pub eat_puts : (old new : State) (kind : ℕ) (result : Bool) → result ≡ stands_at (has old.words.operator_first) kind (ahead old 0)
    → Keeps old new → (IsTrue result → Puts (eat_steps old.words kind (ahead old 0)) old new) → (IsTrue (not result) → new ≡ old)
    → Puts (call_steps old.words (ahead old 0) (calls.Eat kind)) old new
eat_puts old new kind result at keeps puts none =
    cond_both (stands_at (has old.words.operator_first) kind (ahead old 0)) (eat_steps old.words kind (ahead old 0)) [] (λ steps. Puts steps old new)
    (λ e. puts (at ∙ e)) (λ e. let same = none (ap not (at ∙ e)) in subst (λ s. Puts [] old s) (sym same) (puts-none old (subst IsSound same keeps.sound)))

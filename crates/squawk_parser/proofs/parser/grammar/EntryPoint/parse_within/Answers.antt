use Rattle.std.proofs.Common.{◌≡◌, ◌∙◌, ◌≤◌, ap, sym, subst, arith}
use Rattle.std.proofs.lemmas.Result.{IfOk-weaker}
use Rattle.squawk_output.specs.Steps.{Walk, errors_in}
use Rattle.squawk_output.specs.Draft.{plain}
use Rattle.squawk_parser.specs.State.{State, Keeps, IsSound}
use Rattle.squawk_output.proofs.PlainLog.{errors-plain}
use Rattle.squawk_parser.proofs.parser.grammar.EntryPoint.parse_within.Goals as goal
use Rattle.squawk_parser.proofs.parser.grammar.EntryPoint.parse_within.Goals.{in-SourceFile, in-Plpgsql}

output_of : State → Walk
output_of s = record { steps = plain s.draft.items; recorded = s.draft.recorded; turns = s.draft.turns_due }

-- what a sound parser leaves is within its limits
within : (s : State) (o : Walk) → IsSound s → o ≡ output_of s → (o.recorded ≤ s.max_events) × (errors_in o.steps ≤ s.max_errors)
unfolding output_of
within s o sound is = rw is (sound.recorded, omega (arith, sound.errors, errors-plain s.draft.items))

pub returns-clause-within : goal.returns-clause-within
unfolding output_of
returns-clause-within g c =
    let old = c.new-p.result in
    let left = c.match-self.p in
    let keeps : Keeps old left =
    elim c.match-self.branch [
      | in-SourceFile w ↦ subst (Keeps old) (sym w.p-is) w.entry_point-run.ensures.keeps
      | in-Plpgsql w ↦ subst (Keeps old) (sym w.p-is) w.plpgsql_entry_point-run.ensures.keeps
    ] in
    let events : left.max_events ≡ c.args.limits.events = keeps.max_events ∙ ap (λ s. s.max_events) c.new-p.ensures.begins in
    let errors : left.max_errors ≡ c.args.limits.errors = keeps.max_errors ∙ ap (λ s. s.max_errors) c.new-p.ensures.begins in
    let limits = c.args.limits in
    IfOk-weaker c.finish.result (λ o. o ≡ output_of left) (λ o. (o.recorded ≤ limits.events) × (errors_in o.steps ≤ limits.errors))
    (λ o is. let fits = within left o c.finish.ensures.sound is in (omega (arith, fits.0, events), omega (arith, fits.1, errors))) c.finish.ensures.output

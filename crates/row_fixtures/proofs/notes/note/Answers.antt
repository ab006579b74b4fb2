use Rattle.std.proofs.Common.{◌∙◌, []}
use Rattle.squawk_output.specs.declared.log.Made.TheVariants.{ByStart}
use Rattle.squawk_parser.proofs.OpenMarkers.{none_open, HasNoOpenMarker-none_open, HasOpenMarkers-start, HasOpenMarkers-complete, without-one}
use Rattle.row_fixtures.proofs.notes.note.Goals as goal

pub returns-else-ne-clause-closed : goal.returns-else-ne-clause-closed
returns-else-ne-clause-closed c none goes =
    let started = HasOpenMarkers-start _ _ [] (λ _. none_open _ none) c.start.ensures.begins.records in
    let ends = rw c.start.ensures.begins.is at c.complete-node.ensures.completes.records in
    HasNoOpenMarker-none_open _ (HasOpenMarkers-complete _ _ _ _ _ started ends goes ∙ without-one _ ByStart)

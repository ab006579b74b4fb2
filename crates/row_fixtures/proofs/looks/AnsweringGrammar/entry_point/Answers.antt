use Rattle.squawk_parser.proofs.OpenMarkers.{HasNoOpenMarker-none_open, HasOpenMarkers-closed}
use Rattle.squawk_parser.proofs.RecordedSteps.{Keeps-then}
use Rattle.row_fixtures.proofs.looks.AnsweringGrammar.entry_point.Goals as goal

pub loop-question-preserved : goal.loop-question-preserved
loop-question-preserved c =
    let before = c.loop-question.invariant in
    let told = c.tell.ensures in
    (Keeps-then before.0 told.keeps, HasOpenMarkers-closed c.loop-question.p c.tell.new.p before.1 told.went told.closed)

pub returns-clause-closed : goal.returns-clause-closed
returns-clause-closed c goes = HasNoOpenMarker-none_open c.loop-question.p.draft.items (c.loop-question.invariant.1 goes)

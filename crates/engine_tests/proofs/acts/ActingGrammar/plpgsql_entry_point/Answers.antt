use Rattle.std.proofs.Common.{[]}
use Rattle.squawk_parser.proofs.OpenMarkers.{HasNoOpenMarker-none_open, HasOpenMarkers-fresh, HasOpenMarkers-part}
use Rattle.squawk_parser.proofs.RecordedSteps.{went}
use Rattle.engine_tests.proofs.acts.ActingGrammar.plpgsql_entry_point.Goals as goal

pub returns-clause-closed : goal.returns-clause-closed
returns-clause-closed g c goes =
    let fresh = HasOpenMarkers-fresh c.args.p.now c.requires.fresh in
    let step-1 = HasOpenMarkers-part c.args.p.now c.early-early.new.p [] fresh (went c.early-early.ensures.keeps) c.early-early.ensures.open_markers in
    let step-2 = HasOpenMarkers-part c.early-early.new.p c.extend.new.p [] step-1 (went c.extend.ensures.keeps) c.extend.ensures.open_markers in
    let step-3 = HasOpenMarkers-part c.extend.new.p c.precede.new.p [] step-2 (went c.precede.ensures.keeps) c.precede.ensures.open_markers in
    HasNoOpenMarker-none_open c.precede.new.p.draft.items (step-3 goes)

use Rattle.std.proofs.Common.{[]}
use Rattle.squawk_parser.proofs.OpenMarkers.{HasNoOpenMarker-none_open, HasOpenMarkers-fresh, HasOpenMarkers-part}
use Rattle.squawk_parser.proofs.RecordedSteps.{went}
use Rattle.engine_tests.proofs.acts.ActingGrammar.entry_point.Goals as goal

pub returns-clause-closed : goal.returns-clause-closed
returns-clause-closed g c goes =
    let fresh = HasOpenMarkers-fresh c.args.p.now c.requires.fresh in
    let step-1 = HasOpenMarkers-part c.args.p.now c.eat.new.p [] fresh (went c.eat.ensures.keeps) c.eat.ensures.open_markers in
    let step-2 = HasOpenMarkers-part c.eat.new.p c.eat-2.new.p [] step-1 (went c.eat-2.ensures.keeps) c.eat-2.ensures.open_markers in
    let step-3 = HasOpenMarkers-part c.eat-2.new.p c.expect.new.p [] step-2 (went c.expect.ensures.keeps) c.expect.ensures.open_markers in
    let step-4 = HasOpenMarkers-part c.expect.new.p c.expect-2.new.p [] step-3 (went c.expect-2.ensures.keeps) c.expect-2.ensures.open_markers in
    let step-5 = HasOpenMarkers-part c.expect-2.new.p c.bump.new.p [] step-4 (went c.bump.ensures.keeps) c.bump.ensures.open_markers in
    let step-6 = HasOpenMarkers-part c.bump.new.p c.bump-2.new.p [] step-5 (went c.bump-2.ensures.keeps) c.bump-2.ensures.open_markers in
    let step-7 = HasOpenMarkers-part c.bump-2.new.p c.eat_with.new.p [] step-6 (went c.eat_with.ensures.keeps) c.eat_with.ensures.open_markers in
    let step-8 = HasOpenMarkers-part c.eat_with.new.p c.bump-3.new.p [] step-7 (went c.bump-3.ensures.keeps) c.bump-3.ensures.open_markers in
    let step-9 = HasOpenMarkers-part c.bump-3.new.p c.eat_with-2.new.p [] step-8 (went c.eat_with-2.ensures.keeps) c.eat_with-2.ensures.open_markers in
    let step-10 = HasOpenMarkers-part c.eat_with-2.new.p c.eat-3.new.p [] step-9 (went c.eat-3.ensures.keeps) c.eat-3.ensures.open_markers in
    HasNoOpenMarker-none_open c.eat-3.new.p.draft.items (step-10 goes)

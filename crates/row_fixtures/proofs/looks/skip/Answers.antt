use Rattle.std.proofs.Common.{[]}
use Rattle.squawk_parser.proofs.OpenMarkers.{HasNoOpenMarker-none_open, HasOpenMarkers-puts, none_open}
use Rattle.squawk_parser.proofs.RecordedSteps.{Keeps-none, Keeps-then}
use Rattle.row_fixtures.proofs.looks.skip.Goals as goal

pub loop-init : goal.loop-init
loop-init c = (Keeps-none c.args.p.now c.requires, λ none _. none_open c.args.p.now.draft.items none)

pub loop-preserved : goal.loop-preserved
loop-preserved c =
    let before = c.loop.invariant in
    let puts = c.bump_any.ensures.puts in
    (Keeps-then before.0 puts.keeps, λ none. HasOpenMarkers-puts [] (before.1 none) puts)

pub returns-clause-closed : goal.returns-clause-closed
returns-clause-closed c none goes = HasNoOpenMarker-none_open c.loop.p.draft.items (c.loop.invariant.1 none goes)

use Rattle.std.proofs.Common.{[]}
use Rattle.squawk_parser.proofs.OpenMarkers.{HasNoOpenMarker-none_open, HasOpenMarkers-fresh, HasOpenMarkers-puts}
use Rattle.engine_tests.proofs.failed.FailingGrammar.entry_point.Goals as goal

pub returns-clause-closed : goal.returns-clause-closed
returns-clause-closed g c goes =
    let h0 = HasOpenMarkers-fresh c.args.p.now c.requires.fresh in
    let h1 = HasOpenMarkers-puts [] h0 c.error.ensures.puts in
    let h2 = HasOpenMarkers-puts [] h1 c.bump_any.ensures.puts in
    let h3 = HasOpenMarkers-puts [] h2 c.err_and_bump.ensures.puts in
    let h4 = HasOpenMarkers-puts [] h3 c.bump_any-2.ensures.puts in
    let h5 = HasOpenMarkers-puts [] h4 c.bump_any-3.ensures.puts in
    HasNoOpenMarker-none_open _ (h5 goes)

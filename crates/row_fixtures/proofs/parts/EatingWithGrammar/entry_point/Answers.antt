use Rattle.std.proofs.Common.{◌∙◌}
use Rattle.squawk_parser.proofs.OpenMarkers.{HasNoOpenMarker-none_open, HasOpenMarkers-fresh}
use Rattle.squawk_parser.proofs.RecordedSteps.{went}
use Rattle.row_fixtures.proofs.parts.EatingWithGrammar.entry_point.Goals as goal

pub returns-clause-closed : goal.returns-clause-closed
returns-clause-closed c goes =
    HasNoOpenMarker-none_open _ (c.eat_in_root.ensures.open_markers goes ∙ HasOpenMarkers-fresh _ c.requires.fresh (went c.eat_in_root.ensures.keeps goes))

use Rattle.std.proofs.Common.{◌∙◌, [], ap, sym}
use Rattle.squawk_parser.proofs.OpenMarkers.{HasNoOpenMarker-none_open, HasOpenMarkers-fresh, HasOpenMarkers-part}
use Rattle.engine_tests.proofs.limits.LimitingGrammar.entry_point.Goals as goal

pub returns-clause-closed : goal.returns-clause-closed
returns-clause-closed g c goes =
    let fresh = HasOpenMarkers-fresh c.args.p.now c.requires.fresh in
    let looked = HasOpenMarkers-part c.args.p.now c.with_limit-one.new.self [] fresh (λ goes. sym (ap (λ s. s.first_reason) c.with_limit-one.ensures.does) ∙ goes) c.with_limit-one.ensures.open_markers in
    let looked_again = HasOpenMarkers-part c.with_limit-one.new.self c.with_limit-two.new.self [] looked (λ goes. sym (ap (λ s. s.first_reason) c.with_limit-two.ensures.does) ∙ goes) c.with_limit-two.ensures.open_markers in
    let ate = HasOpenMarkers-part c.with_limit-two.new.self c.with_limit-position.new.self [] looked_again c.with_limit-position.ensures.does c.with_limit-position.ensures.open_markers in
    let ate_more = HasOpenMarkers-part c.with_limit-position.new.self c.with_limit-position-2.new.self [] ate c.with_limit-position-2.ensures.does c.with_limit-position-2.ensures.open_markers in
    HasNoOpenMarker-none_open c.with_limit-position-2.new.self.draft.items (ate_more goes)

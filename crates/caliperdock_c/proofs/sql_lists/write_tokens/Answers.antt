use Rattle.std.proofs.Common.{◌∙◌, ap, arith, get_or, set}
use Rattle.squawk_tokens.specs.declared.token.Token.{Token}
use Rattle.squawk_tokens.specs.declared.token.TokenKind.TheVariants.{Unknown}
use Rattle.caliperdock_c.specs.TokenNumbers.{number_of}
use Rattle.caliperdock_c.proofs.Overlays.{over_more_map}
use Rattle.caliperdock_c.proofs.sql_lists.write_tokens.Goals as goal

abbrev none : Token
none = record { kind = Unknown; len = 0 }

pub loop-i-preserved : goal.loop-i-preserved
loop-i-preserved c =
    let items = c.args.tokens.now in
    let i = c.loop-i.i in
    let end = c.min-end.ensures in
    ap (λ x. set c.loop-i.room i x) c.number_of.ensures.number
    ∙ (ap (λ room. set room i (number_of (get_or items i none))) c.loop-i.invariant
    ∙ over_more_map number_of c.args.room.now items none i (omega arith) (omega arith))

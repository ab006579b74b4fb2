use Rattle.std.proofs.Common.{◌≡◌, ◌∙◌, refl, sym}
use Rattle.squawk_parser.specs.declared.parser.parse_error.ParseError.TheVariants.{TooManyErrors}
use Rattle.squawk_output.specs.Draft.{errors_of}
use Rattle.squawk_parser.proofs.ParserViews.{seen}
use Rattle.squawk_parser.proofs.RefusedError.{Puts-refused, Puts-full}
use Rattle.squawk_parser.proofs.parser.Parser.has_room_for_error.Goals as goal

pub returns-then-not-has_room-clause-full : goal.returns-then-not-has_room-clause-full
returns-then-not-has_room-clause-full c =
    let of = c.if-not-has_room.ensures in
    λ _ msg. Puts-full c.args.self.now c.has_room.new.self msg of.keeps (of.full refl).0 (of.full refl).1 of.position of.draft (of.refused refl)

pub returns-then-errors-self-clause-full : goal.returns-then-errors-self-clause-full
returns-then-errors-self-clause-full c =
    let s = seen c.self.inside in
    let old = c.args.self.now in
    let room = c.if-not-has_room.ensures.room refl in
    let same : s ≡ old = c.self.view_is ∙ room.0 in
    let full : errors_of s.draft.items ≡ s.max_errors = sym c.errors.ensures ∙ c.if-errors-self.true in
    λ _ msg. Puts-refused s old msg TooManyErrors same room.1 (refl, cc, room.2) c.witness_sound.ensures

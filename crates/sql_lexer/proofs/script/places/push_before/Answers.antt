use Rattle.std.proofs.Common.{◌<◌, ◌≤◌, ◌∙◌, ◌++◌, [], ◌∷◌, ap, arith, length, sym}
use Rattle.std.proofs.lemmas.List.{length-take-le}
use Rattle.squawk_tokens.specs.declared.token.Token.{Token}
use Rattle.sql_lexer.proofs.LinesFit.{front_is_utf8, front_within}
use Rattle.sql_lexer.proofs.ScriptPlaces.{next_on_line, on_line, token_on_line}
use Rattle.sql_lexer.proofs.script.places.push_before.Goals as goal

pub slice_bounds-word_of-end : goal.slice_bounds-word_of-end
slice_bounds-word_of-end c =
    let some : 0 < c.args.left = omega arith in
    let within = front_within c.args.text.now c.args.left c.requires.rest.utf8 c.requires.room.boundary some in
    let le : c.in_ok-found.found.len ≤ length c.args.text.now =
    omega (arith, within, c.requires.room.boundary.0, ap (λ (t : Token). t.len) c.in_ok-found.ensures.1) in
    sym (length-take-le c.in_ok-found.found.len c.args.text.now le)

pub overflow_sub-place : goal.overflow_sub-place
overflow_sub-place c =
    let some : 0 < c.args.left = omega arith in
    let within = front_within c.args.text.now c.args.left c.requires.rest.utf8 c.requires.room.boundary some in
    omega (arith, within, ap (λ (t : Token). t.len) c.in_ok-found.ensures.1)

pub returns-clause-token : goal.returns-clause-token
returns-clause-token c =
    let some : 0 < c.args.left = omega arith in
    let found = token_on_line c.args.left c.args.text.now some in (
      c.in_ok-found.ensures.0 ∙ ap (λ (t : Token). c.args.tokens.now.items ++ t ∷ []) found,
      c.in_ok-found.ensures.1 ∙ found,
    )

pub returns-clause-place : goal.returns-clause-place
returns-clause-place c =
    let some : 0 < c.args.left = omega arith in
    on_line c.args.left c.args.statement c.args.waiting c.args.text.now c.in_ok-found.found c.word_of-word.ensures c.after.ensures c.waiting_behind.ensures
    ∙ next_on_line c.args.left c.args.statement c.args.waiting c.args.text.now c.in_ok-found.found some c.in_ok-found.ensures.1

pub word_of-word-requires-clause-utf8 : goal.word_of-word-requires-clause-utf8
word_of-word-requires-clause-utf8 c =
    let some : 0 < c.args.left = omega arith in
    front_is_utf8 c.args.text.now c.args.left c.in_ok-found.found c.in_ok-found.ensures.1 c.requires.rest.utf8 c.requires.room.boundary some

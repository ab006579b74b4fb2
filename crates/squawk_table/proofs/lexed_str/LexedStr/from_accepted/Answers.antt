use Rattle.std.proofs.Common.{◌≡◌, ◌∙◌, length, take, ap, arith, subst, sym}
use Rattle.std.specs.Prelude.{sum_by}
use Rattle.std.proofs.Math.Seq.{take-length}
use Rattle.std.proofs.lemmas.List.{take_all}
use Rattle.squawk_tokens.specs.declared.token.Token.{Token}
use Rattle.squawk_tokens.specs.AcceptedTokens.{start_of, AreAcceptedTokens}
use Rattle.squawk_tokens.specs.Conversion.{HasRead}
use Rattle.squawk_tokens.specs.ErrorRanges.{StandApart}
use Rattle.squawk_tokens.specs.LexicalErrors.{lexical_errors}
use Rattle.squawk_table.specs.RawTable.{IsTable}
use Rattle.squawk_table.proofs.TableLemmas.{boundary, IsTable-table_of, is_table_of}
use Rattle.squawk_table.proofs.lexed_str.LexedStr.from_accepted.Goals as goal

pub range-piece-requires-clause-start_boundary : goal.range-piece-requires-clause-start_boundary
range-piece-requires-clause-start_boundary g c = λ _.
    rw c.loop-token.invariant.sum
    (boundary (g.V.Vocabulary.keyword c.args.vocabulary.now) c.args.text.now c.args.tokens.now c.requires c.utf8.text c.loop-token.token-index (omega arith))

pub extend_token-requires-clause-start : goal.extend_token-requires-clause-start
extend_token-requires-clause-start g c =
    let loop = c.loop-token in
    let tokens = c.args.tokens.now in
    let read = take loop.token-index tokens in
    let at : loop.converter.at ≡ start_of tokens loop.token-index =
    loop.invariant.read.at ∙ ap (λ ts. sum_by (λ (t : Token). t.len) ts) (take-length read) in
    rw (loop.invariant.text, at)
    (boundary (g.V.Vocabulary.keyword c.args.vocabulary.now) c.args.text.now tokens c.requires c.utf8.text loop.token-index (omega arith))

pub invariant_of-result : goal.invariant_of-result
invariant_of-result g c =
    let keyword = g.V.Vocabulary.keyword c.args.vocabulary.now in
    let text = c.args.text.now in
    let tokens = c.args.tokens.now in
    let loop = c.loop-token in
    let accepted = c.requires in
    let has = subst (λ ts. HasRead ts loop.converter) (take_all loop.token-index tokens (omega arith)) loop.invariant.read in
    let found : c.into_errors.result.items ≡ lexical_errors text tokens =
    c.into_errors.ensures.errors ∙ (has.errors ∙ ap (λ text. lexical_errors text tokens) loop.invariant.text) in
    let apart = c.into_errors.ensures.apart tokens (subst (λ text. AreAcceptedTokens text tokens) (sym loop.invariant.text) accepted) has in
    subst IsTable
    (is_table_of keyword text tokens loop.kinds.items loop.starts.items c.push.new.self.items c.into_errors.result.items loop.at loop.token-index (omega arith) loop.invariant.kinds loop.invariant.starts c.in_ok-push.ensures.items found)
    (IsTable-table_of keyword text tokens accepted (g.met.V.Vocabulary.keywords_are_tokens c.args.vocabulary.now) c.utf8.text
    (subst (StandApart (start_of tokens) (length tokens)) found apart))

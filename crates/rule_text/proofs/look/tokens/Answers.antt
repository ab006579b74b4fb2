use Rattle.std.proofs.Common.{refl, ◌∙◌}
use Rattle.rule_text.proofs.Leaves.{sort_not_back}
use Rattle.rule_text.proofs.LookEnds.{same_more_tokens, same_token}
use Rattle.rule_text.proofs.Looks.{some_split, tokens_read}
use Rattle.rule_text.proofs.Decisions.{behind, exits, exits_as, miss_first, miss_rest, miss_sole, missed_from, read, written_in}
use Rattle.rule_text.proofs.look.tokens.Goals as goal

pub returns-in_err-more_tokens : goal.returns-in_err-more_tokens
returns-in_err-more_tokens c =
    let first = behind (c.in_ok-expect.ensures.takes refl).bumps c.in_ok-token.ensures.reads in
    exits_as c.in_err-more_tokens.ensures c.from_residual-in_err-more_tokens.ensures
    (λ m. miss_rest some_split (λ j k ps qs v w. same_token v w) first.written (miss_first (λ k rs t. t) (missed_from first.words m)))

pub returns-in_err-expect-2 : goal.returns-in_err-expect-2
returns-in_err-expect-2 c =
    let first = behind (c.in_ok-expect.ensures.takes refl).bumps c.in_ok-token.ensures.reads in
    let further = written_in first.words c.in_ok-more_tokens.ensures.reads in
    let no = sort_not_back c.more_tokens.new.reader.at (c.in_ok-more_tokens.ensures.reads.words ∙ first.words) c.in_err-expect-2.ensures.misses in
    exits c.from_residual-in_err-expect-2.ensures.0
    (miss_rest some_split (λ j k ps qs v w. same_token v w) first.written
    (miss_rest (λ k rs t. t) (λ j k ps qs v w. same_more_tokens v w) further (miss_sole no)))

pub returns : goal.returns
returns c =
    read (tokens_read (c.in_ok-expect.ensures.takes refl) c.in_ok-token.ensures.reads c.in_ok-more_tokens.ensures.reads (c.in_ok-expect-2.ensures.takes refl))

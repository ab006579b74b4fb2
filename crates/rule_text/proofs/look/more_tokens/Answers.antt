use Rattle.std.proofs.Common.{ap, sym, ◌∙◌}
use Rattle.rule_text.specs.Written.{is_token}
use Rattle.rule_text.specs.Written.MoreTokens.{no_token}
use Rattle.rule_text.proofs.Decisions.{leads_end, read}
use Rattle.rule_text.proofs.Goes.{nearer}
use Rattle.rule_text.proofs.LookEnds.{token_goes}
use Rattle.rule_text.proofs.Looks.{token_is, tokens_lead}
use Rattle.rule_text.proofs.Reading.{reads_none}
use Rattle.rule_text.proofs.look.more_tokens.Goals as goal

pub loop-reader-preserved : goal.loop-reader-preserved
loop-reader-preserved c =
    tokens_lead c.loop-reader.invariant (ap is_token (sym c.sort.ensures) ∙ (sym c.is_token.ensures ∙ c.loop-reader-test.true)) c.in_ok-token.ensures.reads

pub loop-reader-smaller : goal.loop-reader-smaller
loop-reader-smaller c =
    let begins = ap is_token (sym c.sort.ensures) ∙ (sym c.is_token.ensures ∙ c.loop-reader-test.true) in
    nearer c.loop-reader.reader.at c.in_ok-token.ensures.reads.words (token_goes c.in_ok-token.ensures.reads.written) (token_is _ begins)

pub returns : goal.returns
returns c =
    let ends = ap is_token (sym c.sort.ensures) ∙ (sym c.is_token.ensures ∙ c.loop-reader-test.false) in
    read (leads_end c.loop-reader.invariant (reads_none c.loop-reader.reader (no_token ends)))

use Rattle.std.proofs.Common.{◌∙◌, refl, sym, arith}
use Rattle.syntax_tree.proofs.Searches.{first_found, no_tokens}
use Rattle.syntax_tree.proofs.tokens.first_token_between.Goals as goal

pub returns-then-is_token : goal.returns-then-is_token
returns-then-is_token c = λ forest is. (
  refl,
  first_found forest c.args.from c.loop-at.at c.args.stop c.loop-at.auto.at c.loop-at-test.true
      (sym (c.is_token.ensures forest is) ∙ c.if-is_token.true) (c.loop-at.invariant forest is),
)

pub returns : goal.returns
returns c = λ forest is.
    no_tokens forest c.args.from c.args.stop (λ k above below. c.loop-at.invariant forest is k above (omega (arith, below, c.loop-at-test.false)))

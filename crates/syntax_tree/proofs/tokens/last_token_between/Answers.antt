use Rattle.std.proofs.Common.{◌≡◌, ◌∙◌, ◌+◌, ◌-◌, refl, sym, subst, arith}
use Rattle.syntax_tree.proofs.Searches.{NoToken, last_found, no_tokens}
use Rattle.syntax_tree.proofs.tokens.last_token_between.Goals as goal

pub returns-then-is_token : goal.returns-then-is_token
returns-then-is_token c = λ forest is.
    let behind : c.loop-behind.behind ≡ c.loop-behind.behind - 1 + 1 = omega (arith, c.loop-behind-test.true) in (
      refl,
      last_found forest c.args.from (c.loop-behind.behind - 1) c.args.stop (omega (arith, c.loop-behind-test.true)) (omega (arith, c.loop-behind-test.true, c.loop-behind.invariant.0))
          (sym (c.is_token.ensures forest is) ∙ c.if-is_token.true) (subst (λ n. NoToken forest n c.args.stop) behind (c.loop-behind.invariant.1 forest is)),
    )

pub returns : goal.returns
returns c = λ forest is.
    no_tokens forest c.args.from c.args.stop (λ k above below. c.loop-behind.invariant.1 forest is k (omega (arith, above, c.loop-behind-test.false)) below)

use Rattle.std.proofs.Common.{◌≡◌, ◌≢◌, ◌∙◌, arith, sym}
use Rattle.squawk_kinds.specs.Kinds.{L_PAREN}
use Rattle.squawk_parser.specs.State.{kind_at}
use Rattle.sql_grammar.proofs.StatementKinds.{parens_end, parens_next}
use Rattle.sql_grammar.proofs.statement_kinds.first_word.Goals as goal

pub loop-parens-preserved : goal.loop-parens-preserved
loop-parens-preserved c =
    let is : kind_at c.args.p.now c.loop-parens.parens ≡ L_PAREN = grind arith in
    sym (parens_next c.args.p.now c.loop-parens.parens is) ∙ c.loop-parens.invariant

pub returns : goal.returns
returns c =
    let other : kind_at c.args.p.now c.loop-parens.parens ≢ L_PAREN = grind arith in
    c.nth-2.ensures ∙ (sym (parens_end c.args.p.now c.loop-parens.parens other) ∙ c.loop-parens.invariant)

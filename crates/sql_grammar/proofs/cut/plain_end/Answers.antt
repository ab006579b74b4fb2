use Rattle.std.proofs.Common.{◌≢◌, ◌≡◌, ◌∙◌, ap, arith, sym}
use Rattle.squawk_kinds.specs.Kinds.{EOF}
use Rattle.squawk_parser.specs.State.{kind_at}
use Rattle.sql_lexer.specs.declared.statements.Statement.TheVariants.{Plain}
use Rattle.sql_grammar.specs.Words.{word_of}
use Rattle.sql_grammar.proofs.Lengths.{len_all, len_end, len_next, plain_stays}
use Rattle.sql_grammar.proofs.cut.plain_end.Goals as goal

pub returns-then-ends_plain : goal.returns-then-ends_plain
returns-then-ends_plain c =
    let some : kind_at c.args.p.now c.loop-kind.len ≢ EOF = grind arith in
    len_end c.args.p.now Plain c.loop-kind.len c.loop-kind.invariant some (ap word_of c.nth-kind.ensures) (sym c.ends_plain.ensures ∙ c.if-ends_plain.true)

pub loop-kind-preserved : goal.loop-kind-preserved
loop-kind-preserved c =
    let some : kind_at c.args.p.now c.loop-kind.len ≢ EOF = grind arith in
    let going = sym c.ends_plain.ensures ∙ c.if-ends_plain.false in
    len_next c.args.p.now Plain c.loop-kind.len c.loop-kind.invariant some (ap word_of c.nth-kind.ensures) going (plain_stays (word_of c.nth-kind.result) going)

pub returns : goal.returns
returns c =
    let end : kind_at c.args.p.now c.loop-kind.len ≡ EOF = grind arith in
    len_all c.args.p.now Plain c.loop-kind.len c.loop-kind.invariant c.position.ensures.sound end

use Rattle.std.proofs.Common.{◌≢◌, ◌≡◌, ◌∙◌, ap, arith, sym}
use Rattle.squawk_kinds.specs.Kinds.{EOF}
use Rattle.squawk_parser.specs.State.{kind_at}
use Rattle.sql_lexer.specs.Statements.{unclosed_in}
use Rattle.sql_lexer.proofs.Unclosed.{most_after}
use Rattle.sql_grammar.specs.Words.{word_of}
use Rattle.sql_grammar.proofs.Lengths.{len_all, len_end, len_next, len_plain}
use Rattle.sql_grammar.proofs.cut.first_len.Goals as goal

pub returns-then-ends_with : goal.returns-then-ends_with
returns-then-ends_with c =
    let some : kind_at c.args.p.now c.loop-statement.len ≢ EOF = grind arith in
    len_end c.args.p.now c.loop-statement.statement c.loop-statement.len c.loop-statement.invariant.so_far some
    (c.word_of-word.ensures ∙ ap word_of c.nth-kind.ensures) (sym c.ends_with.ensures ∙ c.if-ends_with.true)

pub returns-in-Plain : goal.returns-in-Plain
returns-in-Plain c =
    let some : kind_at c.args.p.now c.loop-statement.len ≢ EOF = grind arith in
    len_plain c.args.p.now c.loop-statement.statement c.loop-statement.len c.loop-statement.invariant.so_far some
    (c.word_of-word.ensures ∙ ap word_of c.nth-kind.ensures) (sym c.ends_with.ensures ∙ c.if-ends_with.false) c.after-statement.ensures c.in-Plain.is c.plain_end.ensures

pub loop-statement-preserved : goal.loop-statement-preserved
loop-statement-preserved c =
    let before = c.loop-statement.invariant in
    let some : kind_at c.args.p.now c.loop-statement.len ≢ EOF = grind arith in
    record {
      most = omega (arith, before.most, ap unclosed_in c.after-statement.ensures, most_after c.loop-statement.statement c.word_of-word.result);
      so_far = len_next c.args.p.now c.loop-statement.statement c.loop-statement.len before.so_far some
          (c.word_of-word.ensures ∙ ap word_of c.nth-kind.ensures) (sym c.ends_with.ensures ∙ c.if-ends_with.false) c.after-statement.ensures;
    }

pub returns : goal.returns
returns c =
    let end : kind_at c.args.p.now c.loop-statement.len ≡ EOF = grind arith in
    len_all c.args.p.now c.loop-statement.statement c.loop-statement.len c.loop-statement.invariant.so_far c.position.ensures.sound end

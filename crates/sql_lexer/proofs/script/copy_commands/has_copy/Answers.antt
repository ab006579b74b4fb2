use Rattle.std.proofs.Common.{◌∙◌, arith, sym}
use Rattle.sql_lexer.proofs.CopyCommands.{all_words, copy_found, has_word, next_word, none_yet, token_within}
use Rattle.sql_lexer.proofs.script.copy_commands.has_copy.Goals as goal

pub loop-at-init : goal.loop-at-init
loop-at-init c = none_yet c.args.text.now c.requires.utf8

pub slice_bounds-plain_word-end : goal.slice_bounds-plain_word-end
slice_bounds-plain_word-end c =
    (token_within c.args.text.now c.loop-at.statement c.loop-at.at c.requires.utf8 c.loop-at.invariant c.loop-at-test.true c.token_in_front-found.ensures).1

pub returns-then-data_follow : goal.returns-then-data_follow
returns-then-data_follow c =
    let word = has_word c.args.text.now c.loop-at.statement c.loop-at.at c.requires.utf8 c.loop-at.invariant c.loop-at-test.true c.token_in_front-found.ensures c.plain_word-word.ensures in
    copy_found word (sym c.data_follow.ensures ∙ c.if-data_follow.true)

pub loop-at-smaller : goal.loop-at-smaller
loop-at-smaller c =
    let within = token_within c.args.text.now c.loop-at.statement c.loop-at.at c.requires.utf8 c.loop-at.invariant c.loop-at-test.true c.token_in_front-found.ensures in
    omega (arith, within.0, within.1)

pub loop-at-preserved : goal.loop-at-preserved
loop-at-preserved c =
    let word = has_word c.args.text.now c.loop-at.statement c.loop-at.at c.requires.utf8 c.loop-at.invariant c.loop-at-test.true c.token_in_front-found.ensures c.plain_word-word.ensures in
    next_word word c.loop-at.invariant.unclosed (sym c.data_follow.ensures ∙ c.if-data_follow.false) c.after-statement.ensures

pub returns : goal.returns
returns c = c.data_follow-2.ensures ∙ all_words c.args.text.now c.loop-at.statement c.loop-at.at c.loop-at.invariant c.loop-at-test.false

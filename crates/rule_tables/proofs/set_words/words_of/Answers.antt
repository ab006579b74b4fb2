use Rattle.std.proofs.Common.{◌∙◌, arith, length-set}
use Rattle.rule_tables.proofs.Words.{word_more, words_have_set}
use Rattle.rule_tables.proofs.set_words.words_of.Goals as goal

pub loop-index-preserved : goal.loop-index-preserved
loop-index-preserved c = record {
  len = length-set c.loop-index.words c.loop-index.index _ ∙ c.loop-index.invariant.len;
  words = word_more c.loop-index.words c.args.set.now c.loop-index.index _ (omega (arith, c.loop-index.invariant.len)) c.word_of.ensures c.loop-index.invariant.words;
}

pub returns : goal.returns
returns c kind = words_have_set c.args.set.now c.loop-index.words c.loop-index.invariant.len (λ n lt. c.loop-index.invariant.words n (omega (arith, lt))) kind

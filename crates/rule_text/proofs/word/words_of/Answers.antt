use Rattle.std.proofs.Common.{arith, refl, sym, subst, ap, ◌∙◌, Global, List, Vec}
use Rattle.std.proofs.lemmas.Grind.{common_steps}
use Rattle.std.proofs.lemmas.Str.{IsCharBoundary-start}
use Rattle.rule_text.specs.declared.word.Word.{Word}
use Rattle.rule_text.specs.Words.{AreWords}
use Rattle.rule_text.specs.Words.AreWords.{no_words}
use Rattle.rule_text.proofs.Words.{good_at, trivia_next, word_next}
use Rattle.rule_text.proofs.word.words_of.Goals as goal
use Rattle.rule_text.proofs.word.words_of.Goals.{then-not-is_trivia+in_ok-push, else-not-is_trivia}

pub loop-token-init : goal.loop-token-init
loop-token-init c = record {
  at = refl;
  boundary = IsCharBoundary-start c.args.text.now c.utf8.text;
  words = subst (λ (l : List Word). AreWords c.args.text.now c.args.tokens.now 0 l) (sym c.new-words.ensures.items) no_words;
}

pub loop-token-preserved : goal.loop-token-preserved
loop-token-preserved c =
    let within = c.loop-token-test.true in
    let good = good_at c.loop-token.token-index _ c.requires within c.loop-token.invariant.at in
    record {
      at = grind (arith, common_steps);
      boundary = good.boundary;
      words = elim c.if-not-is_trivia.branch [
        | then-not-is_trivia+in_ok-push w ↦ word_next _ c.loop-token.invariant.words within c.loop-token.invariant.at (sym w.if-not-is_trivia.ensures)
            w.word_at.ensures (ap (λ (v : Vec Word Global). v.items) w.words-is ∙ w.in_ok-push.ensures.items)
        | else-not-is_trivia w ↦ trivia_next _ c.loop-token.invariant.words within (sym w.if-not-is_trivia.ensures)
            (ap (λ (v : Vec Word Global). v.items) w.words-is)
      ];
    }

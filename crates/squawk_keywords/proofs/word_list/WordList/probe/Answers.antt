use Rattle.squawk_keywords.specs.KeywordPairs.{pairs_of}
use Rattle.squawk_keywords.specs.LetterCase.{kind_by}
use Rattle.squawk_keywords.proofs.AgreeLemmas.{probed-is}
use Rattle.squawk_keywords.proofs.word_list.WordList.probe.Goals as goal

pub returns-in-Some : goal.returns-in-Some
returns-in-Some c =
    probed-is c.args.self.now.ignores_case (kind_by c.args.self.now.ignores_case (pairs_of c.args.self.now.words.items)) c.in-Some.slots.slots.items c.in-Some.slots.words.items c.args.text.now c.probe.result
    (c.args.self.now.agree c.in-Some.slots c.in-Some.is) c.probe.ensures

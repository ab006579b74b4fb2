use Rattle.std.proofs.Common.{◌∙◌, sym}
use Rattle.squawk_keywords.proofs.AgreeLemmas.{agree_more, agree_same}
use Rattle.squawk_keywords.proofs.word_slots.WordSlots.add.Goals as goal

pub returns-in-Some-None : goal.returns-in-Some-None
returns-in-Some-None c = λ kind_of so.
    agree_more c.args.ignores_case kind_of c.args.self.now.slots.items c.args.self.now.words.items c.args.word.now c.args.kind so c.take.new.self.slots.items c.take.new.self.words.items c.take.ensures.answers

pub returns-in-Some-Some : goal.returns-in-Some-Some
returns-in-Some-Some c = λ kind_of so.
    agree_same c.args.ignores_case kind_of c.args.self.now.slots.items c.args.self.now.words.items c.args.word.now c.args.kind so
    (λ none. absurd (let p = sym c.in-Some-Some.is ∙ c.probe.ensures ∙ none in cc))

pub returns-in-None : goal.returns-in-None
returns-in-None c = λ kind_of so.
    agree_same c.args.ignores_case kind_of c.args.self.now.slots.items c.args.self.now.words.items c.args.word.now c.args.kind so
    (λ none. absurd (let p = sym c.in-None.is ∙ c.probe.ensures ∙ none in cc))

use Rattle.std.proofs.Common.{◌∙◌, ◌++◌, take}
use Rattle.std.proofs.KnownBytes.{Appends-trans}
use Rattle.squawk_answer.proofs.Parts.{part-left, part-more}
use Rattle.squawk_answer.proofs.watch.Watch.write_all.Goals as goal

pub loop-rest-preserved : goal.loop-rest-preserved
loop-rest-preserved g c =
    let (done, split, appended) = c.loop-rest.invariant.written in
    let rest = c.loop-rest.rest.now in
    let n = c.in-Some.n in
    record {
      watch = c.in-Some.ensures.watched ∙ c.loop-rest.invariant.watch;
      written = (done ++ take n rest, part-more _ done rest n split, Appends-trans _ _ _ _ _ appended c.in-Some.ensures.some.2);
    }

pub returns-in-None-clause-part : goal.returns-in-None-clause-part
returns-in-None-clause-part g c = λ _.
    let (done, split, appended) = c.loop-rest.invariant.written in
    part-left _ _ _ _ done c.loop-rest.rest.now split c.loop-rest-test.ensures appended c.in-None.ensures.none

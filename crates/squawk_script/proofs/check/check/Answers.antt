-- A call that is admitted may follow those before it, and the statuses after the last call show which markers are open.
use Rattle.std.proofs.Common.{◌≡◌, ◌∙◌, true}
use Rattle.squawk_script.specs.Slots.{is_admitted}
use Rattle.squawk_script.proofs.GoodCalls.{accepted-all, first_open-found, good-more, statuses-more}
use Rattle.squawk_script.proofs.check.check.Goals as goal

pub loop-index-preserved : goal.loop-index-preserved
loop-index-preserved c =
    let admitted : is_admitted c.loop-index.statuses.items c.index-calls-index.result ≡ true = cc in
    let more = statuses-more c.args.calls.now c.loop-index.statuses.items c.loop-index.index c.index-calls-index.result c.loop-index-test.true
    c.index-calls-index.is c.loop-index.invariant.statuses admitted in
    record {
      statuses = rw c.advance.ensures.items more;
      capacity = c.advance.ensures.capacity ∙ c.loop-index.invariant.capacity;
      good = good-more c.args.calls.now c.loop-index.statuses.items c.loop-index.index c.index-calls-index.result c.loop-index-test.true
          c.index-calls-index.is c.loop-index.invariant.statuses admitted c.loop-index.invariant.good;
    }

pub returns-in-Some-clause-refused : goal.returns-in-Some-clause-refused
returns-in-Some-clause-refused c =
    first_open-found c.args.calls.now c.loop-index.statuses.items c.loop-index.index c.loop-index-test.false c.loop-index.invariant.statuses
    c.in-Some.marker c.loop-index.invariant.good (cc)

pub returns-clause-accepted : goal.returns-clause-accepted
returns-clause-accepted c =
    let accepted = accepted-all c.args.calls.now c.loop-index.statuses.items c.loop-index.index c.loop-index-test.false c.loop-index.invariant.statuses
    c.loop-index.invariant.good (cc) in
    (accepted, c.count_markers-markers.ensures)

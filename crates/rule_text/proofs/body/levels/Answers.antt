use Rattle.std.proofs.Common.{arith, ap, sym, ◌∙◌, ◌≡◌, Some, None}
use Rattle.rule_text.specs.Rules.{next_level}
use Rattle.rule_text.specs.Rules.MoreOperators.{no_operator}
use Rattle.rule_text.specs.Written.{is_end, sort_at}
use Rattle.rule_text.proofs.Bodies.{level_after, level_lead}
use Rattle.rule_text.proofs.Goes.{nearer, operator_goes}
use Rattle.rule_text.proofs.Decisions.{behind, leads_end, leads_none, read}
use Rattle.rule_text.proofs.Reading.{reads_none}
use Rattle.rule_text.proofs.body.levels.Goals as goal

pub loop-next-init : goal.loop-next-init
loop-next-init c = record { leads = leads_none c.args.reader.now; later = c.requires; fits = omega arith }

pub loop-next-smaller : goal.loop-next-smaller
loop-next-smaller c =
    let there = ap is_end (sym c.sort.ensures) ∙ c.in-Some.ensures.some in
    let r = behind (c.bump.ensures there) c.in_ok-operator.ensures.reads in
    let far = operator_goes r.written in
    nearer c.loop-next.reader.at r.words (omega (arith, far)) there

pub loop-next-preserved : goal.loop-next-preserved
loop-next-preserved c =
    let there = ap is_end (sym c.sort.ensures) ∙ c.in-Some.ensures.some in
    let bumps = c.bump.ensures there in
    let is : next_level (sort_at c.loop-next.reader.words.now c.loop-next.reader.at) c.loop-next.level ≡ Some c.in-Some.next
    = ap (λ s. next_level s c.loop-next.level) (sym c.sort.ensures) ∙ (sym c.next_level.ensures.is ∙ c.in-Some.is) in
    let far = operator_goes (behind bumps c.in_ok-operator.ensures.reads).written in
    let up = level_after (sort_at c.loop-next.reader.words.now c.loop-next.reader.at) c.loop-next.level is in
    let before = c.loop-next.invariant.later in
    record {
      leads = level_lead c.loop-next.invariant.leads is bumps c.in_ok-operator.ensures.reads;
      later = omega (arith, far, up, before);
      fits = omega (arith, up, before, bumps.at, bumps.fits);
    }

pub returns : goal.returns
returns c =
    let none : next_level (sort_at c.loop-next.reader.words.now c.loop-next.reader.at) c.loop-next.level ≡ None
    = ap (λ s. next_level s c.loop-next.level) (sym c.sort.ensures) ∙ (sym c.next_level.ensures.is ∙ c.in_default.is) in
    read (leads_end c.loop-next.invariant.leads (reads_none c.loop-next.reader (no_operator none)))

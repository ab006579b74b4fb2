use Rattle.std.proofs.Common.{Bool, true, false, arith, ap, subst, sym, ◌∙◌}
use Rattle.rule_text.specs.Rules.{is_level}
use Rattle.rule_text.specs.Reading.{Reads, written_as}
use Rattle.rule_text.specs.Written.{Written as forms, begins_guard}
use Rattle.rule_text.specs.Written.Form.{arms}
use Rattle.rule_text.proofs.Bodies.{miss_body_arms, miss_body_levels, miss_body_ordered, miss_body_sole, no_operand_more, one_of_read, only_one_read, operators_read, rest_read}
use Rattle.rule_text.proofs.Leaves.{after_bars_at, sort_back, still_after_bars, still_sort, told_at, told_back}
use Rattle.rule_text.proofs.Expressions.{arm_read}
use Rattle.rule_text.proofs.Goes.{goes}
use Rattle.rule_text.proofs.Decisions.{decides_by, decides_of, exits_as, missed_at, missed_from, read, refused}
use Rattle.rule_text.proofs.body.body.Goals as goal

pub returns-then-not-is_level : goal.returns-then-not-is_level
returns-then-not-is_level c =
    let begins = ap begins_guard (sym c.sort.ensures) ∙ (sym c.begins_guard-guarded.ensures ∙ c.if-guarded.false) in
    let ends = ap is_level (sym c.sort-in_default.ensures) ∙ (sym c.is_level.ensures ∙ c.if-not-is_level.true) in
    read (only_one_read begins c.in_ok-alternative.ensures.reads c.in_default.ensures.none ends)

pub returns-then-guarded : goal.returns-then-guarded
returns-then-guarded c =
    let r = c.in_ok-alternative.ensures.reads in
    let begins = ap begins_guard (sym c.sort.ensures) ∙ (sym c.begins_guard-guarded.ensures ∙ c.if-guarded.true) in
    let ends = ap is_level (sym c.sort-in_default.ensures) ∙ (sym c.is_level.ensures ∙ c.if-not-is_level.true) in
    refused (miss_body_sole begins r.written (still_after_bars c.alternative.new.reader.at r.words c.in_default.ensures.none) (told_back is_level c.alternative.new.reader.at r.words ends))

pub operators-requires-clause-later : goal.operators-requires-clause-later
operators-requires-clause-later c =
    let far = goes c.in_ok-alternative.ensures.reads.written in
    omega (arith, far, c.requires, c.in_ok-wrap.ensures.wraps.at)

pub returns-in_default : goal.returns-in_default
returns-in_default c =
    let r = c.in_ok-alternative.ensures.reads in
    let wraps = c.in_ok-wrap.ensures.wraps in
    let first = arm_read r c.len-start.ensures c.size_from-size.ensures wraps in
    let begins = ap is_level (sym c.sort-in_default.ensures) ∙ (sym c.is_level.ensures ∙ c.if-not-is_level.false) in
    let bars = still_after_bars c.alternative.new.reader.at r.words c.in_default.ensures.none in
    let there = told_at is_level (sym wraps.words) wraps.at begins in
    decides_of c.operators.result c.operators.ensures.reads c.operators.ensures.refuses
    (λ o. operators_read first (no_operand_more (after_bars_at (sym wraps.words) wraps.at c.in_default.ensures.none)) there c.len-start.ensures o)
    (λ m. miss_body_levels r.written (forms.last (bars false)) (told_back is_level c.alternative.new.reader.at r.words begins)
    (missed_at (wraps.words ∙ r.words) wraps.at m))

pub returns-in_err-arms : goal.returns-in_err-arms
returns-in_err-arms c =
    let r = c.in_ok-alternative.ensures.reads in
    let wraps = c.in_ok-wrap-2.ensures.wraps in
    exits_as c.in_err-arms.ensures c.from_residual-in_err-arms.ensures
    (λ m. miss_body_arms c.in-Some.ordered r.written (sort_back c.alternative.new.reader.at r.words c.in-Some.ensures.some)
    (missed_at (wraps.words ∙ r.words) wraps.at m))

pub returns-then-not-is_level-2 : goal.returns-then-not-is_level-2
returns-then-not-is_level-2 c =
    let wraps = c.in_ok-wrap-2.ensures.wraps in
    let first = arm_read c.in_ok-alternative.ensures.reads c.len-start.ensures c.size_from-size-2.ensures wraps in
    let ends = ap is_level (sym c.sort-2.ensures) ∙ (sym c.is_level-2.ensures ∙ c.if-not-is_level-2.true) in
    decides_by c.wrap-then-not-is_level-2.result c.wrap-then-not-is_level-2.ensures.wraps c.wrap-then-not-is_level-2.ensures.only
    (λ w. one_of_read first (still_sort (sym wraps.words) wraps.at c.in-Some.ensures.some) c.in_ok-arms.ensures.reads ends c.len-start.ensures
    c.size_from-size-then-not-is_level-2.ensures w)

pub returns-then-ordered : goal.returns-then-ordered
returns-then-ordered c =
    let r = c.in_ok-alternative.ensures.reads in
    let wraps = c.in_ok-wrap-2.ensures.wraps in
    let rest = rest_read r wraps c.in_ok-arms.ensures.reads in
    let begins = ap is_level (sym c.sort-2.ensures) ∙ (sym c.is_level-2.ensures ∙ c.if-not-is_level-2.false) in
    refused (miss_body_ordered c.if-ordered.true r.written (sort_back c.alternative.new.reader.at r.words c.in-Some.ensures.some) rest
    (told_back is_level c.arms.new.reader.at (c.in_ok-arms.ensures.reads.words ∙ (wraps.words ∙ r.words)) begins))

pub operators-requires-2-clause-later : goal.operators-requires-2-clause-later
operators-requires-2-clause-later c =
    let far = goes c.in_ok-alternative.ensures.reads.written in
    let rest = goes c.in_ok-arms.ensures.reads.written in
    omega (arith, far, rest, c.requires, c.in_ok-wrap-2.ensures.wraps.at)

pub returns : goal.returns
returns c =
    let r = c.in_ok-alternative.ensures.reads in
    let wraps = c.in_ok-wrap-2.ensures.wraps in
    let first = arm_read r c.len-start.ensures c.size_from-size-2.ensures wraps in
    let rest = subst (λ (o : Bool). Reads (written_as (arms true o) 0) c.wrap-2.new.self c.arms.new.reader) c.if-ordered.false c.in_ok-arms.ensures.reads in
    let begins = ap is_level (sym c.sort-2.ensures) ∙ (sym c.is_level-2.ensures ∙ c.if-not-is_level-2.false) in
    let words = c.in_ok-arms.ensures.reads.words ∙ (wraps.words ∙ r.words) in
    decides_of c.operators-2.result c.operators-2.ensures.reads c.operators-2.ensures.refuses
    (λ o. operators_read first rest begins c.len-start.ensures o)
    (λ m. miss_body_levels r.written (rest_read r wraps rest) (told_back is_level c.arms.new.reader.at words begins) (missed_from words m))

use Rattle.std.proofs.Common.{ap, refl, ◌∙◌}
use Rattle.rule_text.specs.Written.{is_end}
use Rattle.rule_text.specs.Written.Kinds.{one_kind}
use Rattle.rule_text.proofs.Leaves.{kinds_read, kinds_split, one_kind_split, sort_not_back}
use Rattle.rule_text.proofs.Decisions.{behind, decides_as, exits, exits_as, miss_first, miss_rest, miss_sole, missed_from, read, written_in}
use Rattle.rule_text.proofs.Reading.{reads_as}
use Rattle.rule_text.proofs.Same.{same_kind, same_more_kinds}
use Rattle.rule_text.proofs.leaf.kinds.Goals as goal

pub returns-then-not-is_at : goal.returns-then-not-is_at
returns-then-not-is_at c =
    let no = c.is_at.ensures.is_not c.if-not-is_at.true in
    decides_as c.kind.ensures (λ r. reads_as r (λ ps v. one_kind no v)) (λ m. miss_first (one_kind_split no) m)

pub returns-in_err-more_kinds : goal.returns-in_err-more_kinds
returns-in_err-more_kinds c =
    let there = c.is_at.ensures.is c.if-not-is_at.false in
    let first = behind (c.bump.ensures (ap is_end there)) c.in_ok-kind.ensures.reads in
    exits_as c.in_err-more_kinds.ensures c.from_residual-in_err-more_kinds.ensures
    (λ m. miss_rest (kinds_split there) (λ j k ps qs v w. same_kind v w) first.written (miss_first (λ k rs t. t) (missed_from first.words m)))

pub returns-in_err-expect : goal.returns-in_err-expect
returns-in_err-expect c =
    let there = c.is_at.ensures.is c.if-not-is_at.false in
    let first = behind (c.bump.ensures (ap is_end there)) c.in_ok-kind.ensures.reads in
    let further = written_in first.words c.in_ok-more_kinds.ensures.reads in
    let no = sort_not_back c.more_kinds.new.reader.at (c.in_ok-more_kinds.ensures.reads.words ∙ first.words) c.in_err-expect.ensures.misses in
    exits c.from_residual-in_err-expect.ensures.0
    (miss_rest (kinds_split there) (λ j k ps qs v w. same_kind v w) first.written
    (miss_rest (λ k rs t. t) (λ j k ps qs v w. same_more_kinds v w) further (miss_sole no)))

pub returns : goal.returns
returns c =
    let there = c.is_at.ensures.is c.if-not-is_at.false in
    let first = behind (c.bump.ensures (ap is_end there)) c.in_ok-kind.ensures.reads in
    read (kinds_read there first c.in_ok-more_kinds.ensures.reads (c.in_ok-expect.ensures.takes refl))

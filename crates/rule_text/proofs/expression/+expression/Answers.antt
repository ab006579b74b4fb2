use Rattle.std.proofs.Common.{arith, refl, sym, ap, ◌≡◌, ◌∙◌}
use Rattle.rule_text.specs.declared.word.Sort.TheVariants as sorts
use Rattle.rule_text.specs.Written.{Written as forms, begins_guard, begins_item, is_end, is_sign, sort_at}
use Rattle.rule_text.proofs.Leaves.{told_back, item_is, sign_is, sort_back, sort_not_back, still_after_bars, still_sort}
use Rattle.rule_text.proofs.Expressions.{arm_read, arms_lead, choice_read, group_read_as, node_read, plain_read, arrow_split, atom_decided, group_read, group_split, items_lead, list_read, list_split, miss_arms, miss_brace, miss_separator, miss_sole_arm, no_atom, one_as, guard_split, signed_read}
use Rattle.rule_text.proofs.Goes.{goes, nearer}
use Rattle.rule_text.proofs.Decisions.{behind, decides_as, decides_by, decides_then, exits, exits_as, leads_end, miss_first, miss_rest, miss_sole, missed_at, missed_from, read, refused}
use Rattle.rule_text.proofs.Reading.{reads_as, reads_none}
use Rattle.rule_text.proofs.Same.{same, same_guarding}
use Rattle.rule_text.proofs.expression.+expression.Goals as goal

-- ---- atoms

pub atom-returns-in-Kind : goal.atom-returns-in-Kind
atom-returns-in-Kind t c =
    let there : sort_at c.args.reader.now.words.now c.args.reader.now.at ≡ sorts.Kind = sym c.sort.ensures ∙ c.in-Kind.is in
    atom_decided there (one_as (forms.token (c.name-name.ensures sorts.Kind there refl)) (c.one.ensures (ap is_end there)))

pub atom-returns-in-Class : goal.atom-returns-in-Class
atom-returns-in-Class t c =
    let there : sort_at c.args.reader.now.words.now c.args.reader.now.at ≡ sorts.Class = sym c.sort.ensures ∙ c.in-Class.is in
    atom_decided there (one_as (forms.class (c.name-name.ensures sorts.Class there refl)) (c.one-in-Class.ensures (ap is_end there)))

pub atom-returns-in-Call : goal.atom-returns-in-Call
atom-returns-in-Call t c =
    let there : sort_at c.args.reader.now.words.now c.args.reader.now.at ≡ sorts.Call = sym c.sort.ensures ∙ c.in-Call.is in
    atom_decided there (one_as (forms.call (c.name-name.ensures sorts.Call there refl)) (c.one-in-Call.ensures (ap is_end there)))

pub atom-returns-in-Operand : goal.atom-returns-in-Operand
atom-returns-in-Operand t c =
    let there : sort_at c.args.reader.now.words.now c.args.reader.now.at ≡ sorts.Operand = sym c.sort.ensures ∙ c.in-Operand.is in
    atom_decided there c.operand.ensures

pub atom-returns-in-Equals : goal.atom-returns-in-Equals
atom-returns-in-Equals t c =
    let there : sort_at c.args.reader.now.words.now c.args.reader.now.at ≡ sorts.Equals = sym c.sort.ensures ∙ c.in-Equals.is in
    atom_decided there (decides_as c.becomes.ensures (λ r. reads_as r (λ ps v. forms.becomes v)) (λ m. miss_first arrow_split m))

pub atom-returns-in-Tilde : goal.atom-returns-in-Tilde
atom-returns-in-Tilde t c =
    let there : sort_at c.args.reader.now.words.now c.args.reader.now.at ≡ sorts.Tilde = sym c.sort.ensures ∙ c.in-Tilde.is in
    atom_decided there (c.node_is.ensures c.args.floor)

pub atom-returns-in-OpenParen : goal.atom-returns-in-OpenParen
atom-returns-in-OpenParen t c =
    let there : sort_at c.args.reader.now.words.now c.args.reader.now.at ≡ sorts.OpenParen = sym c.sort.ensures ∙ c.in-OpenParen.is in
    atom_decided there c.group.ensures

pub atom-returns-in-OpenBrace : goal.atom-returns-in-OpenBrace
atom-returns-in-OpenBrace t c =
    let there : sort_at c.args.reader.now.words.now c.args.reader.now.at ≡ sorts.OpenBrace = sym c.sort.ensures ∙ c.in-OpenBrace.is in
    atom_decided there c.list.ensures

pub group-returns : goal.group-returns
group-returns t c = read (group_read c.in_ok-nested.ensures.reads (c.in_ok-expect.ensures.takes refl))

pub group-returns-in_err-expect : goal.group-returns-in_err-expect
group-returns-in_err-expect t c =
    let inner = c.in_ok-nested.ensures.reads in
    exits c.from_residual-in_err-expect.ensures.0 (miss_rest group_split (λ j k ps qs v w. same v w) inner.written
    (miss_sole (sort_not_back c.nested.new.reader.at inner.words c.in_err-expect.ensures.misses)))

pub list-returns : goal.list-returns
list-returns t c =
    decides_by c.wrap.result c.wrap.ensures.wraps c.wrap.ensures.only
    (λ w. list_read c.in_ok-nested.ensures.reads c.in_ok-separator.ensures.read (c.in_ok-expect.ensures.takes refl) c.len-start.ensures c.size_from-size.ensures w)

pub list-returns-in_err-separator : goal.list-returns-in_err-separator
list-returns-in_err-separator t c =
    let inner = c.in_ok-nested.ensures.reads in
    exits c.from_residual-in_err-separator.ensures.0 (miss_rest list_split (λ j k ps qs v w. same v w) inner.written
    (miss_separator (missed_from inner.words c.in_err-separator.ensures.missed)))

pub list-returns-in_err-expect : goal.list-returns-in_err-expect
list-returns-in_err-expect t c =
    let inner = c.in_ok-nested.ensures.reads in
    let separates = c.in_ok-separator.ensures.read in
    exits c.from_residual-in_err-expect.ensures.0 (miss_rest list_split (λ j k ps qs v w. same v w) inner.written
    (missed_from inner.words (miss_brace separates.given
    (sort_not_back c.separator.new.reader.at separates.words c.in_err-expect.ensures.misses))))

-- ---- items

pub item-returns-then-not-is_sign : goal.item-returns-then-not-is_sign
item-returns-then-not-is_sign t c =
    let r = c.in_ok-atom.ensures.reads in
    let no = ap is_sign (sym c.sort-sign.ensures) ∙ (sym c.is_sign.ensures ∙ c.if-not-is_sign.true) in
    read (reads_as r (λ ps v. forms.once v (told_back is_sign c.atom.new.reader.at r.words no)))

pub item-returns : goal.item-returns
item-returns t c =
    let there = c.is_sign.ensures in
    decides_by c.wrap.result c.wrap.ensures.wraps c.wrap.ensures.only
    (λ w. signed_read c.in_ok-atom.ensures.reads (sym c.sort-sign.ensures) (sym there ∙ c.if-not-is_sign.false)
    (c.bump.ensures (sign_is (sort_at c.atom.new.reader.words.now c.atom.new.reader.at) (sym c.sort-sign.ensures) (sym there ∙ c.if-not-is_sign.false))) c.greedy-greedy.ensures c.len-start.ensures c.size_from-size.ensures
    (rw (sym c.sign_part.ensures) w))

pub items-loop-reader-preserved : goal.items-loop-reader-preserved
items-loop-reader-preserved t c =
    items_lead c.loop-reader.invariant (ap begins_item (sym c.sort.ensures) ∙ (sym c.begins_item.ensures ∙ c.loop-reader-test.true)) c.in_ok-item.ensures.reads

pub items-loop-reader-smaller : goal.items-loop-reader-smaller
items-loop-reader-smaller t c =
    let begins = ap begins_item (sym c.sort.ensures) ∙ (sym c.begins_item.ensures ∙ c.loop-reader-test.true) in
    nearer c.loop-reader.reader.at c.in_ok-item.ensures.reads.words (goes c.in_ok-item.ensures.reads.written) (item_is (sort_at c.loop-reader.reader.words.now c.loop-reader.reader.at) begins)

pub items-returns : goal.items-returns
items-returns t c =
    let ends = ap begins_item (sym c.sort.ensures) ∙ (sym c.begins_item.ensures ∙ c.loop-reader-test.false) in
    read (leads_end c.loop-reader.invariant (reads_none c.loop-reader.reader (forms.none ends)))

pub sequence-returns-then-not-of_rule : goal.sequence-returns-then-not-of_rule
sequence-returns-then-not-of_rule t c = read (group_read_as c.in_ok-items.ensures.reads c.if-not-of_rule.true)

pub sequence-returns-then-not-names_a_kind : goal.sequence-returns-then-not-names_a_kind
sequence-returns-then-not-names_a_kind t c =
    read (plain_read c.in_ok-items.ensures.reads c.len-start.ensures c.names_a_kind.ensures c.if-not-names_a_kind.true)

pub sequence-returns : goal.sequence-returns
sequence-returns t c =
    decides_by c.wrap.result c.wrap.ensures.wraps c.wrap.ensures.only
    (λ w. node_read c.in_ok-items.ensures.reads c.len-start.ensures c.if-not-of_rule.false c.names_a_kind.ensures c.if-not-names_a_kind.false
    c.size_from-size.ensures w)

-- ---- alternatives

pub alternative-returns : goal.alternative-returns
alternative-returns t c =
    decides_then c.in_ok-guard.ensures.reads c.sequence.ensures (λ ps qs g v. forms.guarded g v) guard_split (λ j k ps qs v w. same_guarding v w)

pub arm-returns : goal.arm-returns
arm-returns t c =
    decides_by c.wrap.result c.wrap.ensures.wraps c.wrap.ensures.only
    (λ w. arm_read c.in_ok-alternative.ensures.reads c.len-start.ensures c.size_from-size.ensures w)

pub arms-loop-reader-smaller : goal.arms-loop-reader-smaller
arms-loop-reader-smaller t c =
    let at_bar = c.is_at.ensures.is c.loop-reader-test.true in
    let there = ap is_end at_bar ∙ c.bar.ensures.some in
    let r = behind (c.bump.ensures there) c.in_ok-arm.ensures.reads in
    let far = goes r.written in
    nearer c.loop-reader.reader.at r.words (omega (arith, far)) there

pub arms-loop-reader-preserved : goal.arms-loop-reader-preserved
arms-loop-reader-preserved t c =
    let at_bar = c.is_at.ensures.is c.loop-reader-test.true in
    arms_lead c.loop-reader.invariant (at_bar ∙ c.bar.ensures.is) (c.bump.ensures (ap is_end at_bar ∙ c.bar.ensures.some)) c.in_ok-arm.ensures.reads

pub arms-returns : goal.arms-returns
arms-returns t c =
    read (leads_end c.loop-reader.invariant
    (reads_none c.loop-reader.reader (forms.last (λ e. c.is_at.ensures.is_not c.loop-reader-test.false (e ∙ sym c.bar.ensures.is)))))

pub alternatives-returns : goal.alternatives-returns
alternatives-returns t c =
    let wraps = c.in_ok-wrap.ensures.wraps in
    let first = arm_read c.in_ok-alternative.ensures.reads c.len-start.ensures c.size_from-size.ensures wraps in
    let there = still_sort (sym wraps.words) wraps.at c.in-Some.ensures.some in
    decides_by c.wrap-2.result c.wrap-2.ensures.wraps c.wrap-2.ensures.only
    (λ w. choice_read first there c.in_ok-arms.ensures.reads c.len-start.ensures c.size_from-size-2.ensures w)

pub alternatives-returns-in_err-arms : goal.alternatives-returns-in_err-arms
alternatives-returns-in_err-arms t c =
    let wraps = c.in_ok-wrap.ensures.wraps in
    let first = c.in_ok-alternative.ensures.reads in
    exits_as c.in_err-arms.ensures c.from_residual-in_err-arms.ensures
    (λ m. miss_arms c.in-Some.ordered first.written (sort_back c.alternative.new.reader.at first.words c.in-Some.ensures.some)
    (missed_at (wraps.words ∙ first.words) wraps.at m))

pub alternatives-returns-then-guarded : goal.alternatives-returns-then-guarded
alternatives-returns-then-guarded t c =
    let first = c.in_ok-alternative.ensures.reads in
    let begins = ap begins_guard (sym c.sort.ensures) ∙ (sym c.begins_guard-guarded.ensures ∙ c.if-guarded.true) in
    refused (miss_sole_arm begins first.written (still_after_bars c.alternative.new.reader.at first.words c.in_default.ensures.none))

pub alternatives-returns-in_default : goal.alternatives-returns-in_default
alternatives-returns-in_default t c =
    let first = c.in_ok-alternative.ensures.reads in
    let begins = ap begins_guard (sym c.sort.ensures) ∙ (sym c.begins_guard-guarded.ensures ∙ c.if-guarded.false) in
    read (reads_as first (λ ps v. forms.alone begins v (still_after_bars c.alternative.new.reader.at first.words c.in_default.ensures.none)))

pub atom-returns-in_default : goal.atom-returns-in_default
atom-returns-in_default t c =
    let n = c.in_default in
    refused (record {
      no = λ k ps v. no_atom (λ e. n.not-Kind (c.sort.ensures ∙ e)) (λ e. n.not-Class (c.sort.ensures ∙ e)) (λ e. n.not-Call (c.sort.ensures ∙ e))
          (λ e. n.not-Operand (c.sort.ensures ∙ e)) (λ e. n.not-Equals (c.sort.ensures ∙ e)) (λ e. n.not-Tilde (c.sort.ensures ∙ e))
          (λ e. n.not-OpenParen (c.sort.ensures ∙ e)) (λ e. n.not-OpenBrace (c.sort.ensures ∙ e)) v;
    })

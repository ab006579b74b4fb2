use Rattle.std.proofs.Common.{arith, sym, subst, ap, ◌≡◌, ◌+◌, ◌∙◌, ℕ, IsSome}
use Rattle.std.proofs.lemmas.Bool.Decides.{nat_tests}
use Rattle.squawk_parser.proofs.SomeSteps.{none_some}
use Rattle.rule_grammar.specs.Derivations.{Counts, Derived, Derives, is_silent, text_of}
use Rattle.rule_grammar.specs.Derivations.Derives.{none, more, all, silent, class, name, node, word, call, one, taken, left_out, repeated, some, listed, operators, operand, arm, no_turn, turn, first, stands, operates}
use Rattle.rule_grammar.specs.Derivations.Span.{rows, single}
use Rattle.rule_grammar.specs.Parts.{part_at}
use Rattle.rule_grammar.specs.declared.part.Part.TheVariants as parts
use Rattle.rule_grammar.proofs.Counted.{counts_added, counts_completed, counts_preceded, counts_some, counts_then}
use Rattle.rule_grammar.proofs.Derived.{after_error, alone_in, as_part, both_parts, from_place, known, moved, of_kind, one_more, only_in, quiet, some_then, still, still_before, to_end, told}
use Rattle.rule_grammar.proofs.run.+run.Goals as goal

-- ---- rows

pub block-loop-row-init : goal.block-loop-row-init
block-loop-row-init t c =
    let nothing = none_some c.args.p.now c.requires in
    record { adds = nothing; further = omega arith; derives = quiet none; counts = counts_some nothing }

pub block-loop-row-preserved : goal.block-loop-row-preserved
block-loop-row-preserved t c =
    let before = c.loop-row.invariant in
    let took = c.step.ensures in
    let both = both_parts before.derives (moved c.args.rule.now.table.now before.adds.some.keeps took.derives) (λ a b. more a b) in
    record {
      adds = some_then before.adds took.adds;
      further = omega (arith, c.beyond-beyond.ensures.later);
      derives = subst
          (λ (k : ℕ). Derived (text_of c.args.rule.now.table.now c.args.p.now) (rows c.args.rows.start k) c.args.told.now.place c.step.new.told.place c.args.p.now.position c.step.new.p.position)
          (sym c.beyond-beyond.ensures.is) both;
      counts = counts_then before.counts took.counts;
    }

pub block-returns-clause-derives : goal.block-returns-clause-derives
block-returns-clause-derives t c = as_part c.loop-row.invariant.derives (λ d. all (omega arith) d)

pub block-returns-clause-counts : goal.block-returns-clause-counts
block-returns-clause-counts t c = c.loop-row.invariant.counts

-- ---- parts

pub step-returns-in-Token-clause-derives : goal.step-returns-in-Token-clause-derives
step-returns-in-Token-clause-derives t c =
    let is : part_at c.args.rule.now.table.now.rows.now c.args.row ≡ parts.Token c.in-Token.kind = sym c.requires.is ∙ c.in-Token.is in
    known c.token.ensures.told (λ f. of_kind c.args.rule.now.table.now c.args.p.now c.token.new.p is f)

pub step-returns-in-Word-clause-derives : goal.step-returns-in-Word-clause-derives
step-returns-in-Word-clause-derives t c =
    let is : part_at c.args.rule.now.table.now.rows.now c.args.row ≡ parts.Word c.in-Word.set = sym c.requires.is ∙ c.in-Word.is in
    known c.word.ensures.told
    (λ f. subst (λ (m : ℕ). Derives (text_of c.args.rule.now.table.now c.args.p.now) (single c.args.row) c.args.p.now.position m) (sym f.2) (word is f.0 f.1))

pub step-returns-in-Class-clause-derives : goal.step-returns-in-Class-clause-derives
step-returns-in-Class-clause-derives t c =
    let is : part_at c.args.rule.now.table.now.rows.now c.args.row ≡ parts.Class c.in-Class.set = sym c.requires.is ∙ c.in-Class.is in
    known c.class.ensures.told
    (λ f. subst (λ (m : ℕ). Derives (text_of c.args.rule.now.table.now c.args.p.now) (single c.args.row) c.args.p.now.position m) (sym f.1) (class is f.0))

pub step-returns-in-Name-clause-derives : goal.step-returns-in-Name-clause-derives
step-returns-in-Name-clause-derives t c =
    let is : part_at c.args.rule.now.table.now.rows.now c.args.row ≡ parts.Name c.in-Name.kind c.in-Name.set = sym c.requires.is ∙ c.in-Name.is in
    known c.name.ensures.told
    (λ f. subst (λ (m : ℕ). Derives (text_of c.args.rule.now.table.now c.args.p.now) (single c.args.row) c.args.p.now.position m) (sym f.1) (name is f.0))

pub step-returns-in-Becomes-clause-derives : goal.step-returns-in-Becomes-clause-derives
step-returns-in-Becomes-clause-derives t c =
    let is : part_at c.args.rule.now.table.now.rows.now c.args.row ≡ parts.Becomes c.in-Becomes.kind = sym c.requires.is ∙ c.in-Becomes.is in
    subst (λ v. Derived (text_of c.args.rule.now.table.now c.args.p.now) (single c.args.row) c.args.told.now.place v c.args.p.now.position c.args.p.now.position)
    (sym c.becomes.ensures) (quiet (silent (ap is_silent is)))

pub step-returns-in-Call-clause-derives : goal.step-returns-in-Call-clause-derives
step-returns-in-Call-clause-derives t c =
    let is : part_at c.args.rule.now.table.now.rows.now c.args.row ≡ parts.Call c.in-Call.start c.in-Call.end = sym c.requires.is ∙ c.in-Call.is in
    as_part c.call.ensures.derives (λ d. call is d)

pub step-returns-in-Operand-clause-derives : goal.step-returns-in-Operand-clause-derives
step-returns-in-Operand-clause-derives t c =
    let is : part_at c.args.rule.now.table.now.rows.now c.args.row ≡ parts.Operand c.in-Operand.operators c.in-Operand.floor = sym c.requires.is ∙ c.in-Operand.is in
    as_part c.inner_operand.ensures.derives.1 (λ d. operand is d)

pub step-returns-in-Node-clause-derives : goal.step-returns-in-Node-clause-derives
step-returns-in-Node-clause-derives t c =
    let is : part_at c.args.rule.now.table.now.rows.now c.args.row ≡ parts.Node c.in-Node.end c.in-Node.kind = sym c.requires.is ∙ c.in-Node.is in
    as_part c.inner_node.ensures.derives (λ d. node is d)

pub step-returns-in-Choice-clause-derives : goal.step-returns-in-Choice-clause-derives
step-returns-in-Choice-clause-derives t c =
    let is : part_at c.args.rule.now.table.now.rows.now c.args.row ≡ parts.Choice c.in-Choice.end = sym c.requires.is ∙ c.in-Choice.is in
    as_part c.choice.ensures.derives (λ d. one is d)

pub step-returns-in-Optional-clause-derives : goal.step-returns-in-Optional-clause-derives
step-returns-in-Optional-clause-derives t c =
    let is : part_at c.args.rule.now.table.now.rows.now c.args.row ≡ parts.Optional c.in-Optional.end = sym c.requires.is ∙ c.in-Optional.is in
    c.optional.ensures.derives is

pub step-returns-in-Repeat-clause-derives : goal.step-returns-in-Repeat-clause-derives
step-returns-in-Repeat-clause-derives t c =
    let is : part_at c.args.rule.now.table.now.rows.now c.args.row ≡ parts.Repeat c.in-Repeat.end = sym c.requires.is ∙ c.in-Repeat.is in
    as_part c.repeat.ensures.derives (λ d. repeated is d)

pub step-returns-in-List-clause-derives : goal.step-returns-in-List-clause-derives
step-returns-in-List-clause-derives t c =
    let is : part_at c.args.rule.now.table.now.rows.now c.args.row ≡ parts.List c.in-List.end c.in-List.separator = sym c.requires.is ∙ c.in-List.is in
    as_part c.list.ensures.derives (λ d. listed is d)

pub step-returns-in-Operators-clause-derives : goal.step-returns-in-Operators-clause-derives
step-returns-in-Operators-clause-derives t c =
    let is : part_at c.args.rule.now.table.now.rows.now c.args.row ≡ parts.Operators c.in-Operators.end = sym c.requires.is ∙ c.in-Operators.is in
    as_part (c.operators.ensures.derives is).1 (λ d. operators is d)

pub step-returns-in-Nothing-clause-derives : goal.step-returns-in-Nothing-clause-derives
step-returns-in-Nothing-clause-derives t c =
    let is : part_at c.args.rule.now.table.now.rows.now c.args.row ≡ parts.Nothing = sym c.requires.is ∙ c.in-Nothing.is in
    quiet (silent (ap is_silent is))

pub step-returns-in-Is-clause-derives : goal.step-returns-in-Is-clause-derives
step-returns-in-Is-clause-derives t c =
    let is : part_at c.args.rule.now.table.now.rows.now c.args.row ≡ parts.Is c.in-Is.end = sym c.requires.is ∙ c.in-Is.is in
    still (quiet (silent (ap is_silent is))) c.expect_kind.ensures.told

pub step-returns-in-Guard-clause-derives : goal.step-returns-in-Guard-clause-derives
step-returns-in-Guard-clause-derives t c =
    let is : part_at c.args.rule.now.table.now.rows.now c.args.row ≡ parts.Guard c.in-Guard.first c.in-Guard.next = sym c.requires.is ∙ c.in-Guard.is in
    quiet (silent (ap is_silent is))

pub step-returns-in-Look-clause-derives : goal.step-returns-in-Look-clause-derives
step-returns-in-Look-clause-derives t c =
    let is : part_at c.args.rule.now.table.now.rows.now c.args.row ≡ parts.Look c.in-Look.end = sym c.requires.is ∙ c.in-Look.is in
    quiet (silent (ap is_silent is))

pub step-returns-in-Arm-clause-derives : goal.step-returns-in-Arm-clause-derives
step-returns-in-Arm-clause-derives t c =
    let is : part_at c.args.rule.now.table.now.rows.now c.args.row ≡ parts.Arm c.in-Arm.end = sym c.requires.is ∙ c.in-Arm.is in
    quiet (silent (ap is_silent is))

pub step-returns-in-Tail-clause-derives : goal.step-returns-in-Tail-clause-derives
step-returns-in-Tail-clause-derives t c =
    let is : part_at c.args.rule.now.table.now.rows.now c.args.row ≡ parts.Tail c.in-Tail.end c.in-Tail.level c.in-Tail.ceiling = sym c.requires.is ∙ c.in-Tail.is in
    quiet (silent (ap is_silent is))

-- ---- nodes, choices and loops

pub node::node-returns-clause-counts : goal.node::node-returns-clause-counts
node::node-returns-clause-counts t c =
    let inner = subst (λ v. Counts v c.parts.new.told.place c.start-node.new.self c.parts.new.p) c.enter-outer.ensures c.parts.ensures.counts in
    let whole = counts_then (counts_added c.start-node.ensures.opens.some) (counts_then inner (counts_completed c.complete.ensures.completes)) in
    subst (λ v. Counts c.args.told.now.place v c.args.p.now c.complete.new.p) (sym c.leave.ensures.place) whole

pub node::parts-returns-in-Token-clause-derives : goal.node::parts-returns-in-Token-clause-derives
node::parts-returns-in-Token-clause-derives t c =
    let is : part_at c.args.rule.now.table.now.rows.now c.args.rows.start ≡ parts.Token c.in-Token.kind = cc in
    to_end c.requires.all (alone_in (known c.token.ensures.told (λ f. of_kind c.args.rule.now.table.now c.args.p.now c.token.new.p is f)) (c.is_one.ensures.only cc))

pub node::parts-returns-in_default-clause-derives : goal.node::parts-returns-in_default-clause-derives
node::parts-returns-in_default-clause-derives t c = to_end c.requires.all c.block.ensures.derives

pub node::node_called-returns-in-Node-clause-derives : goal.node::node_called-returns-in-Node-clause-derives
node::node_called-returns-in-Node-clause-derives t c =
    let is : part_at c.args.rule.now.table.now.rows.now c.args.rows.start ≡ parts.Node c.in-Node.end c.in-Node.kind = cc in
    alone_in (as_part c.node.ensures.derives (λ d. node is d)) (c.is_one.ensures.only cc)

pub groups::choice-returns-in-Some-clause-derives : goal.groups::choice-returns-in-Some-clause-derives
groups::choice-returns-in-Some-clause-derives t c = from_place c.arm.ensures.told (as_part c.block.ensures.derives (λ d. arm c.in-Some.ensures.is d))

pub groups::choice_after_others-returns-in-Some-clause-derives : goal.groups::choice_after_others-returns-in-Some-clause-derives
groups::choice_after_others-returns-in-Some-clause-derives t c = after_error c.missing.ensures.tells (from_place c.arm.ensures.told c.block.ensures.derives)

pub called-returns-in-Node-clause-derives : goal.called-returns-in-Node-clause-derives
called-returns-in-Node-clause-derives t c =
    let is : part_at c.args.rule.now.table.now.rows.now c.args.rows.start ≡ parts.Node c.in-Node.end c.in-Node.kind = cc in
    alone_in (as_part c.inner_node.ensures.derives (λ d. node is d)) (c.is_one.ensures.only cc)

pub groups::inner-returns-in-Call-clause-derives : goal.groups::inner-returns-in-Call-clause-derives
groups::inner-returns-in-Call-clause-derives t c =
    let is : part_at c.args.rule.now.table.now.rows.now (c.args.row + 1) ≡ parts.Call c.in-Call.start c.in-Call.end = cc in
    alone_in (as_part c.call.ensures.derives (λ d. call is d)) (c.is_one.ensures.only cc)

pub groups::repeat-loop-p-init : goal.groups::repeat-loop-p-init
groups::repeat-loop-p-init t c =
    let nothing = none_some c.args.p.now c.requires.sound in
    record { adds = nothing; derives = quiet no_turn; counts = counts_some nothing }

pub groups::list-loop-separator-init : goal.groups::list-loop-separator-init
groups::list-loop-separator-init t c = record {
  adds = c.inner.ensures.adds;
  derives = as_part c.inner.ensures.derives (λ d. first d);
  counts = c.inner.ensures.counts;
}

pub groups::optional-returns-then-is_next-clause-derives : goal.groups::optional-returns-then-is_next-clause-derives
groups::optional-returns-then-is_next-clause-derives t c = λ is.
    let before = c.is_next.ensures in
    still_before before.told (as_part (moved c.args.rule.now.table.now before.adds.some.keeps c.inner.ensures.derives) (λ d. taken is d))

pub groups::optional-returns-else-is_next-clause-derives : goal.groups::optional-returns-else-is_next-clause-derives
groups::optional-returns-else-is_next-clause-derives t c = λ is.
    known c.is_next.ensures.told
    (λ f. subst (λ (m : ℕ). Derives (text_of c.args.rule.now.table.now c.args.p.now) (single c.args.row) c.args.p.now.position m) (sym f) (left_out is))

pub groups::repeat-loop-p-preserved : goal.groups::repeat-loop-p-preserved
groups::repeat-loop-p-preserved t c =
    let so_far = c.loop-p.invariant in
    let seen = c.is_next.ensures in
    let before = some_then so_far.adds seen.adds in
    record {
      adds = some_then before c.inner.ensures.adds;
      derives = both_parts (still so_far.derives seen.told) (moved c.args.rule.now.table.now before.some.keeps c.inner.ensures.derives) (λ a b. turn a b);
      counts = counts_then so_far.counts (counts_then seen.counts c.inner.ensures.counts);
    }

pub groups::list-loop-separator-preserved : goal.groups::list-loop-separator-preserved
groups::list-loop-separator-preserved t c =
    let so_far = c.loop-separator.invariant in
    let seen = c.is_separated.ensures in
    let reached = some_then so_far.adds seen.adds in
    let before = some_then reached c.bump_at.ensures.adds in
    let item = c.inner-in-loop-separator.ensures in
    record {
      adds = some_then before item.adds;
      derives = one_more c.args.rule.now.table.now c.args.p.now c.loop-separator.p c.is_separated.new.p c.bump_at.new.p c.inner-in-loop-separator.new.p reached.some.keeps before.some.keeps so_far.derives seen.told c.loop-separator-test.true c.bump_at.ensures.eats item.derives;
      counts = counts_then so_far.counts (counts_then seen.counts (counts_then (counts_some c.bump_at.ensures.adds) item.counts));
    }

-- ---- operators

pub operators::operand-returns-in-Some-clause-derives : goal.operators::operand-returns-in-Some-clause-derives
operators::operand-returns-in-Some-clause-derives t c = from_place c.arm.ensures.told (as_part c.one_node.ensures.derives (λ d. arm c.in-Some.ensures.is d))

pub operators::operation-returns-clause-counts : goal.operators::operation-returns-clause-counts
operators::operation-returns-clause-counts t c =
    let judged = subst (λ v. Counts v c.associate.new.told.place c.precede-node.new.p c.associate.new.p) c.enter-outer.ensures c.associate.ensures.counts in
    let whole = counts_then (counts_preceded c.precede-node.ensures.precedes)
    (counts_then judged (counts_then c.block.ensures.counts (counts_completed c.complete.ensures.completes))) in
    subst (λ v. Counts c.args.told.now.place v c.args.p.now c.complete.new.p) (sym c.leave.ensures.place) whole

pub operators::climb-loop-operator-init : goal.operators::climb-loop-operator-init
operators::climb-loop-operator-init t c =
    let first = c.one_node-left.ensures in
    record { adds = first.adds; derives = λ is. as_part first.derives (λ d. stands is (arm c.requires.is d)); counts = first.counts }

pub operators::climb-loop-operator-preserved : goal.operators::climb-loop-operator-preserved
operators::climb-loop-operator-preserved t c =
    let table = c.args.rule.now.table.now in
    let so_far = c.loop-operator.invariant in
    let took = c.operation-left.ensures in
    let on = from_place c.operator.ensures.told (moved table so_far.adds.adds.some.keeps took.derives) in
    record {
      adds = took.adds c.args.p.now so_far.adds;
      derives = λ is. record {
        clean = λ n. (so_far.derives is).clean (on.clean n);
        derives = λ n.
            let fits = took.fits n in
            operates ((so_far.derives is).derives (on.clean n)) is c.in-Some.ensures.is c.in-Some.ensures.floor (grind (arith, fits, nat_tests)) (on.derives n);
      };
      counts = counts_then so_far.counts (subst (λ v. Counts v c.operation-left.new.told.place c.loop-operator.p c.operation-left.new.p) c.operator.ensures.told took.counts);
    }

pub operators::operators_after_others-returns-in-Some-clause-derives : goal.operators::operators_after_others-returns-in-Some-clause-derives
operators::operators_after_others-returns-in-Some-clause-derives t c = λ is.
    let took = c.climb.ensures.derives is in
    (took.0, after_error c.missing.ensures.tells (from_place c.arm.ensures.told took.1))

pub operators::operators_after_others-returns-in_default-clause-derives : goal.operators::operators_after_others-returns-in_default-clause-derives
operators::operators_after_others-returns-in_default-clause-derives t c = λ is.
    (0, told (subst IsSome (sym c.arm.ensures.told) c.missing.ensures.tells))

pub groups::some-returns-clause-derives : goal.groups::some-returns-clause-derives
groups::some-returns-clause-derives t c = λ is.
    let before = c.inner.ensures in
    both_parts before.derives (moved c.args.rule.now.table.now before.adds.some.keeps c.repeat.ensures.derives) (λ a b. some is a b)

-- ---- one node

pub node::one_node-returns-in-Some-clause-derives : goal.node::one_node-returns-in-Some-clause-derives
node::one_node-returns-in-Some-clause-derives t c = as_part c.node_in.ensures.derives (λ d. only_in c.in-Some.ensures.is d)

pub node::node_in-returns-in-Node-clause-derives : goal.node::node_in-returns-in-Node-clause-derives
node::node_in-returns-in-Node-clause-derives t c =
    let is : part_at c.args.rule.now.table.now.rows.now c.args.row ≡ parts.Node c.in-Node.end c.in-Node.kind = cc in
    as_part c.node.ensures.derives (λ d. node is d)

pub node::node_in-returns-in-Call-clause-derives : goal.node::node_in-returns-in-Call-clause-derives
node::node_in-returns-in-Call-clause-derives t c =
    let is : part_at c.args.rule.now.table.now.rows.now c.args.row ≡ parts.Call c.in-Call.start c.in-Call.end = cc in
    as_part c.called_node.ensures.derives (λ d. call is d)

pub node::node_in-returns-in-Choice-clause-derives : goal.node::node_in-returns-in-Choice-clause-derives
node::node_in-returns-in-Choice-clause-derives t c =
    let is : part_at c.args.rule.now.table.now.rows.now c.args.row ≡ parts.Choice c.in-Choice.end = cc in
    as_part c.operand.ensures.derives (λ d. one is d)

pub node::node_in-returns-in-Operators-clause-derives : goal.node::node_in-returns-in-Operators-clause-derives
node::node_in-returns-in-Operators-clause-derives t c =
    let is : part_at c.args.rule.now.table.now.rows.now c.args.row ≡ parts.Operators c.in-Operators.end = cc in
    as_part (c.operators_node.ensures.derives is).1 (λ d. operators is d)

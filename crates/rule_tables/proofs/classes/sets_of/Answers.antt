use Rattle.std.proofs.Common.{◌≡◌, ◌+◌, ◌∙◌, ℕ, List, length, take, ap, arith, sym, subst, Vec, Global}
use Rattle.squawk_kinds.specs.TokenSets.{has}
use Rattle.squawk_kinds.specs.declared.token_set.TokenSet.{TokenSet}
use Rattle.rule_tables.specs.Classes.{AreClasses, class_has, list_has}
use Rattle.rule_tables.specs.Definitions.{classes_in}
use Rattle.rule_tables.proofs.MoreClasses.{classes_next, classes_stay}
use Rattle.rule_tables.proofs.classes.sets_of.Goals as goal
use Rattle.rule_tables.proofs.classes.sets_of.Goals.{in-Some+in_ok-push-in-Some, in-None}

pub loop-index-preserved : goal.loop-index-preserved
loop-index-preserved g c =
    elim c.match-size_of_class.branch [
      | in-Some+in_ok-push-in-Some w ↦
          let has_kinds : (kind : ℕ) → has w.union_of-set.result kind ≡ class_has (g.N.Names.vocabulary c.args.names.now) c.args.definitions.now.parts.now (list_has c.loop-index.sets.items) c.loop-index.index w.in-Some.size kind =
          subst (λ (xs : List TokenSet). (kind : ℕ) → has w.union_of-set.result kind ≡ class_has (g.N.Names.vocabulary c.args.names.now) c.args.definitions.now.parts.now (list_has xs) c.loop-index.index w.in-Some.size kind) w.deref.ensures.value w.union_of-set.ensures in
          let both : (length c.match-size_of_class.sets.items ≡ classes_in (take (c.loop-index.index + 1) c.args.definitions.now.parts.now)) × AreClasses (g.N.Names.vocabulary c.args.names.now) c.args.definitions.now.parts.now (list_has c.match-size_of_class.sets.items) (c.loop-index.index + 1) =
          classes_next (g.N.Names.vocabulary c.args.names.now) c.args.definitions.now.parts.now c.loop-index.sets.items c.match-size_of_class.sets.items w.union_of-set.result c.loop-index.index w.in-Some.size _ c.loop-index-test.true
          (sym c.size_of_class.ensures ∙ w.in-Some.is) (ap (λ (sets : Vec TokenSet Global). sets.items) w.sets-is ∙ w.in_ok-push-in-Some.ensures) c.loop-index.invariant.len has_kinds c.loop-index.invariant.are in
          record { len = both.0; are = both.1 }
      | in-None w ↦
          let both : (length c.loop-index.sets.items ≡ classes_in (take (c.loop-index.index + 1) c.args.definitions.now.parts.now)) × AreClasses (g.N.Names.vocabulary c.args.names.now) c.args.definitions.now.parts.now (list_has c.loop-index.sets.items) (c.loop-index.index + 1) =
          classes_stay (g.N.Names.vocabulary c.args.names.now) c.args.definitions.now.parts.now c.loop-index.sets.items c.loop-index.index _ c.loop-index-test.true
          (sym c.size_of_class.ensures ∙ w.in-None.is) c.loop-index.invariant.len c.loop-index.invariant.are in
          rw (ap (λ (sets : Vec TokenSet Global). sets.items) w.sets-is) (record { len = both.0; are = both.1 })
    ]

pub returns-clause-are : goal.returns-clause-are
returns-clause-are g c = λ i lt. c.loop-index.invariant.are i (omega (arith, lt))

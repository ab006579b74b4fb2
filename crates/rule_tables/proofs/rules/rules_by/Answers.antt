use Rattle.std.proofs.Common.{rules, arith, ap, ◌≡◌, ℕ, None, List, length, refl, subst, sym}
use Rattle.squawk_kinds.specs.declared.token_set.TokenSet.{TokenSet}
use Rattle.rule_checks.specs.Rules.{IsUnreached}
use Rattle.rule_checks.specs.Sets.{IsFirst}
use Rattle.rule_grammar.specs.declared.part.Part as row
use Rattle.rule_tables.specs.Forks.{AreDecided, IsFirstOpen, plan_in}
use Rattle.rule_tables.specs.Refusals.{AreOf, IsLost, IsPlanOf, IsRefused, NotEndless}
use Rattle.rule_tables.specs.Places.{Plan}
use Rattle.rule_tables.specs.Rows.{file_row}
use Rattle.rule_tables.specs.Sets.{HaveSets}
use Rattle.rule_tables.proofs.Refused.{lost_rule, open_rule}
use Rattle.rule_tables.proofs.UpToPart.{few_parts}
use Rattle.rule_tables.proofs.Words.{has_classes}
use Rattle.rule_tables.proofs.rules.rules_by.Goals as goal

pub rules_of-requires-clause-few : goal.rules_of-requires-clause-few
rules_of-requires-clause-few g c =
    omega (arith, few_parts c.args.definitions.now.parts.now c.requires, c.in_ok-rows.ensures.len, ap length c.deref-2.ensures.value)

pub returns-in_err-rules-clause-err : goal.returns-in_err-rules-clause-err
returns-in_err-rules-clause-err g c =
    let parts = c.args.definitions.now.parts.now in
    let list : List row.Part = c.in_ok-rows.rows.items in
    let sets : List TokenSet = c.in_ok-sets.sets.items in
    let are : AreOf (g.N.Names.vocabulary c.args.names.now) parts list sets = record { are = c.in_ok-rows.ensures.are; len = c.in_ok-rows.ensures.len; classes = c.in_ok-sets.ensures.are } in
    let endless : NotEndless list = subst NotEndless c.deref.ensures.value c.in_ok-refuse_endless.ensures.ok in
    let first : IsFirstOpen (plan_in parts list sets) parts c.in_err-rules.field-0.0 =
    subst (λ (s : List TokenSet). IsFirstOpen (plan_in parts list s) parts c.in_err-rules.field-0.0) c.deref-3.ensures.value
    (subst (λ (r : List row.Part). IsFirstOpen (plan_in parts r c.deref-3.result.now) parts c.in_err-rules.field-0.0) c.deref-2.ensures.value c.in_err-rules.ensures.err) in
    let fault : IsRefused (g.N.Names.vocabulary c.args.names.now) parts c.in_err-rules.field-0.0 =
    open_rule (g.N.Names.vocabulary c.args.names.now) parts list sets are endless c.in_err-rules.field-0.0 first in
    search rules

pub returns-in_err-refuse_unreached-clause-err : goal.returns-in_err-refuse_unreached-clause-err
returns-in_err-refuse_unreached-clause-err g c =
    let parts = c.args.definitions.now.parts.now in
    let list : List row.Part = c.in_ok-rows.rows.items in
    let sets : List TokenSet = c.in_ok-sets.sets.items in
    let are : AreOf (g.N.Names.vocabulary c.args.names.now) parts list sets = record { are = c.in_ok-rows.ensures.are; len = c.in_ok-rows.ensures.len; classes = c.in_ok-sets.ensures.are } in
    let endless : NotEndless list = subst NotEndless c.deref.ensures.value c.in_ok-refuse_endless.ensures.ok in
    let decided : AreDecided (plan_in parts list sets) parts (length list) =
    subst (λ (s : List TokenSet). AreDecided (plan_in parts list s) parts (length list)) c.deref-3.ensures.value
    (subst (λ (r : List row.Part). AreDecided (plan_in parts r c.deref-3.result.now) parts (length r)) c.deref-2.ensures.value c.in_ok-rules.ensures.decided) in
    let lost : IsLost list (file_row parts) c.in_err-refuse_unreached.field-0.0 =
    subst (λ (k : ℕ). IsLost list k c.in_err-refuse_unreached.field-0.0) c.file_row.ensures
    (subst (λ (r : List row.Part). IsLost r c.file_row.result c.in_err-refuse_unreached.field-0.0) c.deref-4.ensures.value c.in_err-refuse_unreached.ensures.err) in
    let fault : IsRefused (g.N.Names.vocabulary c.args.names.now) parts c.in_err-refuse_unreached.field-0.0 =
    lost_rule (g.N.Names.vocabulary c.args.names.now) parts list sets are endless decided c.in_err-refuse_unreached.field-0.0 lost in
    search rules

pub returns-clause-sound : goal.returns-clause-sound
returns-clause-sound g c =
    let parts = c.args.definitions.now.parts.now in
    let list : List row.Part = c.in_ok-rows.rows.items in
    let sets : List TokenSet = c.in_ok-sets.sets.items in
    record {
      rows = list;
      sets = sets;
      are = record { are = c.in_ok-rows.ensures.are; len = c.in_ok-rows.ensures.len; classes = c.in_ok-sets.ensures.are };
      endless = subst NotEndless c.deref.ensures.value c.in_ok-refuse_endless.ensures.ok;
      decided = subst (λ (s : List TokenSet). AreDecided (plan_in parts list s) parts (length list)) c.deref-3.ensures.value
          (subst (λ (r : List row.Part). AreDecided (plan_in parts r c.deref-3.result.now) parts (length r)) c.deref-2.ensures.value c.in_ok-rules.ensures.decided);
      reached = subst (λ (k : ℕ). IsFirst (length list) (IsUnreached list k) None) c.file_row.ensures
          (subst (λ (r : List row.Part). IsFirst (length r) (IsUnreached r c.file_row.result) None) c.deref-4.ensures.value c.in_ok-refuse_unreached.ensures.ok);
    }

pub returns-clause-classes : goal.returns-clause-classes
returns-clause-classes g c =
    has_classes (g.N.Names.vocabulary c.args.names.now) c.args.definitions.now.parts.now c.in_ok-sets.sets.items c.in_ok-rules.rules.sets c.in_ok-sets.ensures.len c.in_ok-sets.ensures.are
    (subst (λ (sets : List TokenSet). HaveSets sets c.in_ok-rules.rules.sets (length sets)) c.deref-3.ensures.value c.in_ok-rules.ensures.sets)

pub returns-clause-plan : goal.returns-clause-plan
returns-clause-plan g c =
    let parts = c.args.definitions.now.parts.now in
    let list : List row.Part = c.in_ok-rows.rows.items in
    let sets : List TokenSet = c.in_ok-sets.sets.items in
    let are : AreOf (g.N.Names.vocabulary c.args.names.now) parts list sets = record { are = c.in_ok-rows.ensures.are; len = c.in_ok-rows.ensures.len; classes = c.in_ok-sets.ensures.are } in
    let same : c.in_ok-rules.rules.plan ≡ plan_in parts list sets =
    subst (λ (s : List TokenSet). c.in_ok-rules.rules.plan ≡ plan_in parts list s) c.deref-3.ensures.value
    (subst (λ (r : List row.Part). c.in_ok-rules.rules.plan ≡ plan_in parts r c.deref-3.result.now) c.deref-2.ensures.value c.in_ok-rules.ensures.plan) in
    let is : IsPlanOf (g.N.Names.vocabulary c.args.names.now) parts (plan_in parts list sets) = record { are = are; start = refl } in
    subst (λ (plan : Plan). IsPlanOf (g.N.Names.vocabulary c.args.names.now) parts plan) (sym same) is

use Rattle.std.proofs.Common.{◌≡◌, ◌≢◌, ◌==◌, ◌∙◌, ℕ, List, ◌∷◌, None, Some, [], Bool, true, length, map, ap, sym, subst}
use Rattle.std.proofs.lemmas.Bool.{eqb-true}
use Rattle.squawk_kinds.specs.Kinds.{EOF}
use Rattle.squawk_kinds.specs.TokenSets.{has}
use Rattle.squawk_table.specs.ParserInput.{Entry, kind_in}
use Rattle.squawk_table.specs.Shape.{AreOneToken}
use Rattle.squawk_output.specs.Steps.{Token}
use Rattle.squawk_parser.specs.CompositeForms.{element_of, tail_of}
use Rattle.squawk_parser.specs.Composites.{Glued, are_joint, stands_at}
use Rattle.squawk_parser.specs.Eaten.{element_steps, node, composite_of}
use Rattle.squawk_parser.specs.Recorded.{Puts}
use Rattle.squawk_parser.specs.State.{ahead}
use Rattle.squawk_parser.specs.declared.parser.composite.Form.TheVariants as form
use Rattle.squawk_parser.proofs.CompositeFacts.{IsComposite, eat_steps-none, eat_steps-composite, glued-no_end, glued-some, is_no_composite, is_composite, sequence-no_end, stands_at-none, stands_at-composite}
use Rattle.squawk_parser.proofs.Markers.{open_marker-put}
use Rattle.squawk_parser.proofs.RecordedSteps.{node_puts, token_puts}
use Rattle.squawk_parser.proofs.SeenSteps.{ahead-still, and-left, seen_one, joint_all}
use Rattle.squawk_parser.proofs.SomeSteps.{puts_some}
use Rattle.squawk_parser.proofs.SpentEvents.{eat_steps_spend as spent}
use Rattle.squawk_parser.proofs.parser.Parser.bump.Goals as goal

-- glued tokens that stand are one
glued_one : (kind : ℕ) (parts slice : List ℕ) (seen : List Entry) (operator_kind : ℕ → Bool) → IsComposite kind (Glued parts)
    → stands_at operator_kind kind seen ≡ true → slice ≡ parts → AreOneToken (length slice) seen
glued_one kind parts slice seen operator_kind r stands is =
    let touch : are_joint parts seen ≡ true = and-left _ _ (sym (stands_at-composite operator_kind seen r) ∙ stands) in
    subst (λ xs. AreOneToken (length xs) seen) (sym is) (joint_all parts seen (glued-some r) (glued-no_end r) touch)

-- so is the token of a kind that isn't composite
plain_one : (kind : ℕ) (seen : List Entry) (operator_kind : ℕ → Bool) → composite_of kind ≡ None → stands_at operator_kind kind seen ≡ true → kind ≢ EOF → AreOneToken 1 seen
plain_one kind seen operator_kind none stands some =
    let first : (kind_in seen 0 == kind) ≡ true = sym (stands_at-none kind operator_kind seen none) ∙ stands in
    let same : kind_in seen 0 ≡ kind = eqb-true (kind_in seen 0) kind first in
    seen_one seen (λ end. some (sym same ∙ end))

pub do_bump-requires : goal.do_bump-requires
do_bump-requires c =
    let old = c.args.self.now in
    let none = is_no_composite c.args.kind c.composite.result c.in-None.is c.composite.ensures in
    plain_one c.args.kind (ahead old 0) (has old.words.operator_first) none c.requires.at c.requires.end

pub do_bump-requires-in-Some-Glued : goal.do_bump-requires-in-Some-Glued
do_bump-requires-in-Some-Glued c =
    let old = c.args.self.now in
    let composite = c.in-Some-Glued in
    let r = is_composite c.args.kind c.composite.result (form.Glued composite.parts) (composite.is ∙ ap Some composite.field-0-is) c.composite.ensures in
    glued_one c.args.kind composite.parts c.as_slice.result.now (ahead old 0) (has old.words.operator_first) r c.requires.at c.as_slice.ensures

pub eat_elements-requires-clause-no_end : goal.eat_elements-requires-clause-no_end
eat_elements-requires-clause-no_end c =
    let composite = c.in-Some-Sequence in
    let r = is_composite c.args.kind c.composite.result (form.Sequence composite.parts composite.field-0-1) (composite.is ∙ ap Some composite.field-0-is) c.composite.ensures in
    sequence-no_end c.args.kind composite.parts (tail_of composite.field-0-1) r

pub complete-requires-clause-open_marker : goal.complete-requires-clause-open_marker
complete-requires-clause-open_marker c =
    let start = c.start-node.ensures in
    open_marker-put c.start-node.result start.open_marker c.eat_elements.ensures

pub returns-in-None-clause-puts : goal.returns-in-None-clause-puts
returns-in-None-clause-puts c =
    let old = c.args.self.now in
    let bump = c.do_bump.ensures in
    let none = is_no_composite c.args.kind c.composite.result c.in-None.is c.composite.ensures in
    subst (λ steps. Puts steps old c.do_bump.new.self) (sym (eat_steps-none c.args.kind old.words (ahead old 0) none)) (token_puts c.args.kind 1 bump.keeps bump.records bump.position)

pub returns-in-Some-Glued-clause-puts : goal.returns-in-Some-Glued-clause-puts
returns-in-Some-Glued-clause-puts c =
    let old = c.args.self.now in
    let composite = c.in-Some-Glued in
    let bump = c.do_bump-in-Some-Glued.ensures in
    let r = is_composite c.args.kind c.composite.result (form.Glued composite.parts) (composite.is ∙ ap Some composite.field-0-is) c.composite.ensures in
    let same = ap (λ parts. Token c.args.kind (length parts) ∷ []) c.as_slice.ensures in
    subst (λ steps. Puts steps old c.do_bump-in-Some-Glued.new.self) (same ∙ sym (eat_steps-composite old.words (ahead old 0) r))
    (token_puts c.args.kind (length c.as_slice.result.now) bump.keeps bump.records bump.position)

pub returns-in-Some-Joint-clause-puts : goal.returns-in-Some-Joint-clause-puts
returns-in-Some-Joint-clause-puts c =
    let old = c.args.self.now in
    let composite = c.in-Some-Joint in
    let r = is_composite c.args.kind c.composite.result (form.Joint composite.parts) (composite.is ∙ ap Some composite.field-0-is) c.composite.ensures in
    subst (λ steps. Puts steps old c.eat_joint.new.self) (sym (eat_steps-composite old.words (ahead old 0) r)) c.eat_joint.ensures

pub returns-in-Some-Operator-clause-puts : goal.returns-in-Some-Operator-clause-puts
returns-in-Some-Operator-clause-puts c =
    let old = c.args.self.now in
    let composite = c.in-Some-Operator in
    let r = is_composite c.args.kind c.composite.result form.Operator (composite.is ∙ ap Some composite.field-0-is) c.composite.ensures in
    subst (λ steps. Puts steps old c.eat_operator.new.self) (sym (eat_steps-composite old.words (ahead old 0) r)) c.eat_operator.ensures.puts

pub returns-in-Some-Sequence-clause-puts : goal.returns-in-Some-Sequence-clause-puts
returns-in-Some-Sequence-clause-puts c =
    let old = c.args.self.now in
    let composite = c.in-Some-Sequence in
    let start = c.start-node.ensures in
    let elements = c.eat_elements.ensures in
    let done = c.complete.ensures in
    let r = is_composite c.args.kind c.composite.result (form.Sequence composite.parts composite.field-0-1) (composite.is ∙ ap Some composite.field-0-is) c.composite.ensures in
    let seen = ap (λ seen. node c.args.kind (element_steps (map element_of composite.parts) seen)) (ahead-still start.begins.keeps start.begins.position) in
    subst (λ steps. Puts steps old c.complete.new.p) (seen ∙ sym (eat_steps-composite old.words (ahead old 0) r))
    (node_puts start.begins elements done.completes)

pub returns-in-None-clause-some : goal.returns-in-None-clause-some
returns-in-None-clause-some c = puts_some (returns-in-None-clause-puts c)

pub returns-in-Some-Glued-clause-some : goal.returns-in-Some-Glued-clause-some
returns-in-Some-Glued-clause-some c = puts_some (returns-in-Some-Glued-clause-puts c)

pub returns-in-Some-Joint-clause-some : goal.returns-in-Some-Joint-clause-some
returns-in-Some-Joint-clause-some c = puts_some (returns-in-Some-Joint-clause-puts c)

pub returns-in-Some-Operator-clause-some : goal.returns-in-Some-Operator-clause-some
returns-in-Some-Operator-clause-some c = puts_some (returns-in-Some-Operator-clause-puts c)

pub returns-in-Some-Sequence-clause-some : goal.returns-in-Some-Sequence-clause-some
returns-in-Some-Sequence-clause-some c = puts_some (returns-in-Some-Sequence-clause-puts c)

pub returns-in-None-clause-spends : goal.returns-in-None-clause-spends
returns-in-None-clause-spends c = spent c.args.self.now.words c.args.kind c.requires.at c.witness_sound.ensures.words (returns-in-None-clause-puts c)

pub returns-in-Some-Glued-clause-spends : goal.returns-in-Some-Glued-clause-spends
returns-in-Some-Glued-clause-spends c = spent c.args.self.now.words c.args.kind c.requires.at c.witness_sound.ensures.words (returns-in-Some-Glued-clause-puts c)

pub returns-in-Some-Joint-clause-spends : goal.returns-in-Some-Joint-clause-spends
returns-in-Some-Joint-clause-spends c = spent c.args.self.now.words c.args.kind c.requires.at c.witness_sound.ensures.words (returns-in-Some-Joint-clause-puts c)

pub returns-in-Some-Operator-clause-spends : goal.returns-in-Some-Operator-clause-spends
returns-in-Some-Operator-clause-spends c = spent c.args.self.now.words c.args.kind c.requires.at c.witness_sound.ensures.words (returns-in-Some-Operator-clause-puts c)

pub returns-in-Some-Sequence-clause-spends : goal.returns-in-Some-Sequence-clause-spends
returns-in-Some-Sequence-clause-spends c = spent c.args.self.now.words c.args.kind c.requires.at c.witness_sound.ensures.words (returns-in-Some-Sequence-clause-puts c)

use Rattle.std.proofs.Common.{◌≡◌, ◌+◌, ◌∙◌, [], ◌∷◌, ◌++◌, length, rules, arith, ap, refl, sym, inl, inr, eqb-true}
use Rattle.std.proofs.lemmas.List.{length-append}
use Rattle.std.specs.Str.{chars}
use Rattle.syntax_tree.specs.Refusals.{RefusesToken}
use Rattle.syntax_tree.specs.Layout.{token_element}
use Rattle.syntax_tree.proofs.BlockPlaces.{HasBlocks-element, HasBlocks-filled}
use Rattle.syntax_tree.proofs.Drafts.{few_steps_taken, stood}
use Rattle.syntax_tree.proofs.DraftsToken.{is_part, not_found, IsGrowing-token, StandsAfter-token}
use Rattle.syntax_tree.proofs.Refusals.{none_open, some_open, elements_taken, bytes_more, is_next, not_empty, follows, seen_next, next_seen, wants_memory}
use Rattle.syntax_tree.proofs.builder.TreeBuilder.token.Goals as goal
use Rattle.syntax_tree.proofs.builder.TreeBuilder.token.Goals.{then-is_empty-via-then-is_empty, then-is_empty-via-else-is_empty+then-not-comes_next, then-at-via-then-at, then-at-via-else-at+then-end}

pub returns-then-self-clause-step : goal.returns-then-self-clause-step
returns-then-self-clause-step c = λ steps stands.
    (refl, none_open _ steps (stood _ _ c.self.view_is steps stands) c.self.invariant.grows.few c.if-self.true)

pub returns-then-is_empty-clause-step : goal.returns-then-is_empty-clause-step
returns-then-is_empty-clause-step c = λ steps stands.
    let before = stood _ _ c.self.view_is steps stands in (
      refl,
      (
        some_open _ steps before c.if-self.false,
        λ seen. let next = next_seen _ steps before _ (chars c.args.text.now) c.self.view_is seen in
            elim c.then-is_empty.branch [
              | then-is_empty-via-then-is_empty w ↦
                  not_empty _ steps before c.args.text.now c.utf8.text (eqb-true _ _ (sym c.is_empty.ensures ∙ w.if-is_empty.true)) next
              | then-is_empty-via-else-is_empty+then-not-comes_next w ↦
                  let rest = follows _ steps before c.args.text.now c.utf8.text c.self.invariant.grows.utf8 next in
                  not_found c.self.inside.sent w.as_bytes.ensures.value w.as_bytes-else-is_empty.ensures.value w.comes_next.ensures
                  w.if-not-comes_next.true rest.0 rest.1
            ],
      ),
    )

pub returns-then-at-clause-step : goal.returns-then-at-clause-step
returns-then-at-clause-step c = λ steps stands.
    let before = stood _ _ c.self.view_is steps stands in
    let part = is_part c.self.inside.sent c.as_bytes.ensures.value c.as_bytes-else-is_empty.ensures.value c.comes_next.ensures
    c.is_empty.ensures c.if-is_empty.false c.if-not-comes_next.false in
    let next = is_next _ steps before c.args.text.now c.utf8.text part in (
      refl,
      (
        some_open _ steps before c.if-self.false,
        seen_next _ steps before _ (chars c.args.text.now) c.self.view_is next,
        elim c.then-at.branch [
          | then-at-via-then-at w ↦ inl (omega (arith, elements_taken _ steps before, c.len-at.ensures, w.if-at.true, c.self.inside.elements.ok))
          | then-at-via-else-at+then-end w ↦ inr (omega (arith, bytes_more _ steps before c.args.text.now c.utf8.text, w.if-end.true))
        ],
      ),
    )

pub returns-in_err-reserve-clause-step : goal.returns-in_err-reserve-clause-step
returns-in_err-reserve-clause-step c = λ steps stands.
    let before = stood _ _ c.self.view_is steps stands in
    let part = is_part c.self.inside.sent c.as_bytes.ensures.value c.as_bytes-else-is_empty.ensures.value c.comes_next.ensures
    c.is_empty.ensures c.if-is_empty.false c.if-not-comes_next.false in
    let next = is_next _ steps before c.args.text.now c.utf8.text part in
    wants_memory c.from_residual.result _ _ (RefusesToken c.args.self.now.source steps (chars c.args.text.now))
    c.from_residual.ensures.1 (search rules) (
      some_open _ steps before c.if-self.false,
      seen_next _ steps before _ (chars c.args.text.now) c.self.view_is next,
      omega (arith, elements_taken _ steps before, c.len-at.ensures, c.if-at.false, c.self.inside.elements.ok),
      omega (arith, bytes_more _ steps before c.args.text.now c.utf8.text, c.if-end.false),
    )

pub returns-in_err-fill-clause-step : goal.returns-in_err-fill-clause-step
returns-in_err-fill-clause-step c = λ steps stands.
    let answer = c.from_residual-in_err-fill in
    let before = stood _ _ c.self.view_is steps stands in
    let part = is_part c.self.inside.sent c.as_bytes.ensures.value c.as_bytes-else-is_empty.ensures.value c.comes_next.ensures
    c.is_empty.ensures c.if-is_empty.false c.if-not-comes_next.false in
    let next = is_next _ steps before c.args.text.now c.utf8.text part in
    wants_memory answer.result _ _ (RefusesToken c.args.self.now.source steps (chars c.args.text.now))
    answer.ensures.1 (search rules) (
      some_open _ steps before c.if-self.false,
      seen_next _ steps before _ (chars c.args.text.now) c.self.view_is next,
      omega (arith, elements_taken _ steps before, c.len-at.ensures, c.if-at.false, c.self.inside.elements.ok),
      omega (arith, bytes_more _ steps before c.args.text.now c.utf8.text, c.if-end.false),
    )

pub overflow_add-self : goal.overflow_add-self
overflow_add-self c = omega (arith, few_steps_taken _ c.self.invariant.grows)

pub invariant_of-self-2 : goal.invariant_of-self-2
invariant_of-self-2 c =
    let part = is_part c.self.inside.sent c.as_bytes.ensures.value c.as_bytes-else-is_empty.ensures.value c.comes_next.ensures
    c.is_empty.ensures c.if-is_empty.false c.if-not-comes_next.false in
    record {
      grows = IsGrowing-token _ c.args.kind c.args.text.now c.push_reserved.new.self.items (search rules) c.if-self.false c.utf8.text part
          c.self.invariant.grows (omega (arith, c.if-at.false, c.len-at.ensures, c.self.inside.elements.ok)) (omega (arith, c.if-end.false));
      places =
          let token = token_element c.args.kind c.self.inside.innermost c.len-at.result c.self.inside.sent c.len-at.result in
          let put : c.push_reserved.new.self.items ≡ c.self.inside.elements.items ++ token ∷ [] = search rules in
          HasBlocks-filled _ _ c.push_reserved.new.self.items c.self.inside.sent _ (c.len-at.result + 1) (omega arith)
          (omega (arith, ap length put, length-append c.self.inside.elements.items (token ∷ []), c.len-at.ensures, c.self.inside.elements.ok)) (search rules)
          (HasBlocks-element _ c.self.inside.elements.items c.push_reserved.new.self.items token _ put refl c.self.invariant.places);
    }

pub returns-clause-step : goal.returns-clause-step
returns-clause-step c = λ steps stands.
    let part = is_part c.self.inside.sent c.as_bytes.ensures.value c.as_bytes-else-is_empty.ensures.value c.comes_next.ensures
    c.is_empty.ensures c.if-is_empty.false c.if-not-comes_next.false in
    StandsAfter-token _ c.args.kind c.args.text.now c.push_reserved.new.self.items (search rules) c.if-self.false c.utf8.text part
    steps (stood _ _ c.self.view_is steps stands)

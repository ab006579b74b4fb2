-- Why a builder refuses a step, and which steps are those of one root.
use Rattle.std.proofs.Common.{◌≡◌, ◌≢◌, ◌∙◌, ℕ, suc, ◌+◌, ◌-◌, ◌<◌, ◌≤◌, List, [], ◌∷◌, ◌++◌, fold, length, take, drop, arith, ap, sym, subst, refl, append_assoc, take-append-drop, inl, inr, encode_utf8_all, IsUtf8, IsCharBoundary, Result, Ok, Err, IsErrAnd, MatchResult}
use Rattle.std.specs.Str.{chars}
use Rattle.std.proofs.lemmas.List.{length-append, length-take-le, nil_from_length, append_cancel_left}
use Rattle.std.proofs.lemmas.List.Concat.{flat_map-append}
use Rattle.std.proofs.lemmas.List.Sums.{fold-append}
use Rattle.std.proofs.lemmas.Str.{encodes-append, encodes-chars, chars-append, chars-nil, chars_from_encodes, IsCharBoundary-from_take}
use Rattle.squawk_tokens.specs.LexicalErrors.{LexicalError}
use Rattle.squawk_table.specs.Sent.{text_in, texts_of}
use Rattle.squawk_table.specs.declared.shortcuts.str_step.OwnedStep.{OwnedStep}
use Rattle.squawk_table.specs.declared.shortcuts.str_step.OwnedStep.TheVariants as step
use Rattle.squawk_tree.specs.TreeText.{nodes_open_behind}
use Rattle.squawk_tree.specs.Forest.{Forest, Nothing, Token, Node, Error, forest_steps}
use Rattle.syntax_tree.specs.Trees.{size, text_of, IsOneRoot}
use Rattle.syntax_tree.specs.Layout.{Laid, IsTree, HoldsTree, errors_of}
use Rattle.syntax_tree.specs.Drafts.{Growing, Draft, Outside, Within, draft_size, draft_text, draft_steps, draft_errors, draft_depth, IsDraft, IsGrowing, StandsAfter, StandsOver}
use Rattle.syntax_tree.specs.Refusals.{nodes_open, elements_in, errors_in, IsNext, RefusesOver, RefusesStep}
use Rattle.syntax_tree.specs.declared.builder.TreeRefusal.{TreeRefusal}
use Rattle.syntax_tree.specs.declared.builder.TreeRefusal.TheVariants.{OutOfMemory}
use Rattle.syntax_tree.proofs.Layouts.{size-IsOneRoot}
use Rattle.syntax_tree.proofs.DraftsGrown.{IsUtf8-draft}
use Rattle.syntax_tree.proofs.Drafts.{size_is}
use Rattle.syntax_tree.proofs.DraftsToken.{some_chars, IsNextPart}

-- ---- what the steps of trees and drafts have

open_behind-forest : (f : Forest) (n : ℕ) → fold nodes_open_behind n (forest_steps f) ≡ n
open_behind-forest Nothing n = refl
open_behind-forest (Token kind text others) n = open_behind-forest others n
open_behind-forest (Node kind inner others) n =
    let back : suc n - 1 ≡ n = omega arith in
    fold-append nodes_open_behind (suc n) (forest_steps inner) (step.Exit ∷ forest_steps others)
    ∙ (ap (λ m. fold nodes_open_behind m (step.Exit ∷ forest_steps others)) (open_behind-forest inner (suc n))
    ∙ (ap (λ m. fold nodes_open_behind m (forest_steps others)) back ∙ open_behind-forest others n))
open_behind-forest (Error text pos others) n = open_behind-forest others n

nodes_open-draft : (d : Draft) → nodes_open (draft_steps d) ≡ draft_depth d
nodes_open-draft (Outside f) = open_behind-forest f 0
nodes_open-draft (Within d kind f) =
    let more : suc (draft_depth d) ≡ draft_depth d + 1 = omega arith in
    fold-append nodes_open_behind 0 (draft_steps d) (step.Enter kind ∷ forest_steps f)
    ∙ (ap (λ m. fold nodes_open_behind m (step.Enter kind ∷ forest_steps f)) (nodes_open-draft d) ∙ (open_behind-forest f (suc (draft_depth d)) ∙ more))

pub elements_in-append : (a b : List OwnedStep) → elements_in (a ++ b) ≡ elements_in a + elements_in b
elements_in-append [] b = omega arith
elements_in-append (step.Token kind text ∷ a) b = omega (arith, elements_in-append a b)
elements_in-append (step.Enter kind ∷ a) b = omega (arith, elements_in-append a b)
elements_in-append (step.Exit ∷ a) b = elements_in-append a b
elements_in-append (step.Error text pos ∷ a) b = elements_in-append a b

elements_in-forest : (f : Forest) → elements_in (forest_steps f) ≡ size f
elements_in-forest Nothing = refl
elements_in-forest (Token kind text others) = omega (arith, elements_in-forest others)
elements_in-forest (Node kind inner others) =
    omega (arith, elements_in-append (forest_steps inner) (step.Exit ∷ forest_steps others), elements_in-forest inner, elements_in-forest others)
elements_in-forest (Error text pos others) = elements_in-forest others

elements_in-draft : (d : Draft) → elements_in (draft_steps d) ≡ draft_size d
elements_in-draft (Outside f) = elements_in-forest f
elements_in-draft (Within d kind f) =
    omega (arith, elements_in-append (draft_steps d) (step.Enter kind ∷ forest_steps f), elements_in-draft d, elements_in-forest f)

pub errors_in-append : (a b : List OwnedStep) → errors_in (a ++ b) ≡ errors_in a + errors_in b
errors_in-append [] b = omega arith
errors_in-append (step.Token kind text ∷ a) b = errors_in-append a b
errors_in-append (step.Enter kind ∷ a) b = errors_in-append a b
errors_in-append (step.Exit ∷ a) b = errors_in-append a b
errors_in-append (step.Error text pos ∷ a) b = omega (arith, errors_in-append a b)

errors_in-forest : (f : Forest) (node at given : ℕ) → errors_in (forest_steps f) ≡ length (errors_of f node at given)
errors_in-forest Nothing node at given = refl
errors_in-forest (Token kind text others) node at given = errors_in-forest others node (at + 1) (given + 1)
errors_in-forest (Node kind inner others) node at given =
    let behind = given + 2 + length (forest_steps inner) in
    omega (
      arith,
      errors_in-append (forest_steps inner) (step.Exit ∷ forest_steps others),
      length-append (errors_of inner at (at + 1) (given + 1)) (errors_of others node (at + 1 + size inner) behind),
      errors_in-forest inner at (at + 1) (given + 1),
      errors_in-forest others node (at + 1 + size inner) behind,
    )
errors_in-forest (Error text pos others) node at given = omega (arith, errors_in-forest others node at (given + 1))

errors_in-draft : (d : Draft) → errors_in (draft_steps d) ≡ length (draft_errors d)
errors_in-draft (Outside f) = errors_in-forest f 4294967295 0 0
errors_in-draft (Within d kind f) =
    let at = draft_size d in
    let given = length (draft_steps d) + 1 in
    omega (
      arith,
      errors_in-append (draft_steps d) (step.Enter kind ∷ forest_steps f),
      length-append (draft_errors d) (errors_of f at (at + 1) given),
      errors_in-draft d,
      errors_in-forest f at (at + 1) given,
    )

pub texts_of-forest : (f : Forest) → texts_of (forest_steps f) ≡ text_of f
texts_of-forest Nothing = refl
texts_of-forest (Token kind text others) = ap (λ t. text ++ t) (texts_of-forest others)
texts_of-forest (Node kind inner others) =
    flat_map-append text_in (forest_steps inner) (step.Exit ∷ forest_steps others)
    ∙ (ap (λ t. t ++ texts_of (forest_steps others)) (texts_of-forest inner) ∙ ap (λ t. text_of inner ++ t) (texts_of-forest others))
texts_of-forest (Error text pos others) = texts_of-forest others

texts_of-draft : (d : Draft) → texts_of (draft_steps d) ≡ draft_text d
texts_of-draft (Outside f) = texts_of-forest f
texts_of-draft (Within d kind f) =
    flat_map-append text_in (draft_steps d) (step.Enter kind ∷ forest_steps f)
    ∙ (ap (λ t. t ++ texts_of (forest_steps f)) (texts_of-draft d) ∙ ap (λ t. draft_text d ++ t) (texts_of-forest f))

-- ---- what a builder knows of the steps that it took

module _ (growing : Growing) where
  outside_depth : (d : Draft) → IsDraft growing d → length growing.elements ≤ 4294967295 → growing.innermost ≡ 4294967295 → draft_depth d ≡ 0
  outside_depth (Outside f) is few none = refl
  outside_depth (Within d kind f) is few none = absurd (omega (arith, is.innermost_is, size_is growing (Within d kind f) is, few, none))

  inside_depth : (d : Draft) → IsDraft growing d → growing.innermost ≢ 4294967295 → 1 ≤ draft_depth d
  inside_depth (Outside f) is some = absurd (some is.innermost_is)
  inside_depth (Within d kind f) is some = omega arith

  IsUtf8-sent : (d : Draft) → IsDraft growing d → IsUtf8 (take growing.sent growing.source)
  IsUtf8-sent d is = subst IsUtf8 (sym is.text) (IsUtf8-draft d is.texts)

  pub sent_boundary : IsGrowing growing → IsCharBoundary growing.source growing.sent
  sent_boundary is = IsCharBoundary-from_take growing.source growing.sent is.utf8 is.is.sent (IsUtf8-sent is.draft is.is)

  module _ (steps : List OwnedStep) (stands : StandsAfter growing steps) where
    depth_is : nodes_open steps ≡ draft_depth stands.draft
    depth_is = ap nodes_open (sym stands.walk) ∙ nodes_open-draft stands.draft

    pub none_open : length growing.elements ≤ 4294967295 → growing.innermost ≡ 4294967295 → nodes_open steps ≡ 0
    none_open few none = depth_is ∙ outside_depth stands.draft stands.is few none

    pub some_open : growing.innermost ≢ 4294967295 → 0 < nodes_open steps
    some_open some = omega (arith, depth_is, inside_depth stands.draft stands.is some)

    pub elements_taken : elements_in steps ≡ length growing.elements
    elements_taken = ap elements_in (sym stands.walk) ∙ (elements_in-draft stands.draft ∙ sym (size_is growing stands.draft stands.is))

    pub errors_taken : errors_in steps ≡ length growing.errors
    errors_taken = ap errors_in (sym stands.walk) ∙ (errors_in-draft stands.draft ∙ ap length (sym stands.is.errors))

    texts_taken : encode_utf8_all (texts_of steps) ≡ take growing.sent growing.source
    texts_taken = ap encode_utf8_all (ap texts_of (sym stands.walk) ∙ texts_of-draft stands.draft) ∙ sym stands.is.text

    -- ---- a token's text

    module _ (text : List ℕ) (utf8 : IsUtf8 text) where
      texts_more : encode_utf8_all (texts_of steps ++ chars text) ≡ take growing.sent growing.source ++ text
      texts_more =
          encodes-append (texts_of steps) (chars text)
          ∙ (ap (λ t. t ++ encode_utf8_all (chars text)) texts_taken ∙ ap (λ t. take growing.sent growing.source ++ t) (encodes-chars text utf8))

      pub bytes_more : length (encode_utf8_all (texts_of steps ++ chars text)) ≡ growing.sent + length text
      bytes_more =
          omega (
            arith,
            ap length texts_more,
            length-append (take growing.sent growing.source) text,
            length-take-le growing.sent growing.source stands.is.sent,
          )

      pub is_next : IsNextPart growing.source growing.sent text → IsNext growing.source steps (chars text)
      is_next part =
          let sent = take growing.sent growing.source in
          let left = drop growing.sent growing.source in
          let rest = drop (length text) left in
          let sent_utf8 = IsUtf8-sent stands.draft stands.is in
          let sent_are : texts_of steps ≡ chars sent = chars_from_encodes (texts_of steps) sent sent_utf8 texts_taken in
          let left_are : chars left ≡ chars text ++ chars rest = ap chars part.next ∙ chars-append text rest utf8 in
          let all : chars growing.source ≡ chars sent ++ chars left = ap chars (sym (take-append-drop growing.sent growing.source)) ∙ chars-append sent left sent_utf8 in (
            some_chars text utf8 part.some,
            (
              chars rest,
              append_assoc (texts_of steps) (chars text) (chars rest)
                  ∙ (ap (λ t. texts_of steps ++ t) (sym left_are) ∙ (ap (λ t. t ++ chars left) sent_are ∙ sym all)),
            ),
          )

      pub not_empty : length text ≡ 0 → IsNext growing.source steps (chars text) → ⊥
      not_empty none next =
          let no_chars : chars text ≡ [] = ap chars (nil_from_length text none) ∙ chars-nil in
          omega (arith, ap length no_chars, next.0)

      pub follows : IsUtf8 growing.source → IsNext growing.source steps (chars text) → (rest : List ℕ) × (drop growing.sent growing.source ≡ text ++ rest)
      follows source_utf8 next =
          let sent = take growing.sent growing.source in
          let rest = encode_utf8_all next.1.0 in
          let front : encode_utf8_all ((texts_of steps ++ chars text) ++ next.1.0) ≡ (sent ++ text) ++ rest =
          encodes-append (texts_of steps ++ chars text) next.1.0 ∙ ap (λ t. t ++ rest) texts_more in
          let all : sent ++ (text ++ rest) ≡ sent ++ drop growing.sent growing.source =
          sym (append_assoc sent text rest)
          ∙ (sym front ∙ (ap encode_utf8_all next.1.1 ∙ (encodes-chars growing.source source_utf8 ∙ sym (take-append-drop growing.sent growing.source)))) in
          (rest, sym (append_cancel_left sent (text ++ rest) (drop growing.sent growing.source) all))

    -- the same of the source as a caller sees it
    pub seen_next : (seen : Growing) (text : List ℕ) → growing ≡ seen → IsNext growing.source steps text → IsNext seen.source steps text
    seen_next seen text same next = subst (λ g. IsNext g.source steps text) same next

    pub next_seen : (seen : Growing) (text : List ℕ) → growing ≡ seen → IsNext seen.source steps text → IsNext growing.source steps text
    next_seen seen text same next = subst (λ g. IsNext g.source steps text) (sym same) next

    -- ---- a tree, or none

    module _ (forest : Forest) (one : IsOneRoot forest) (same : forest_steps forest ≡ steps) where
      pub not_open : growing.innermost ≢ 4294967295 → ⊥
      not_open some = omega (arith, some_open some, ap nodes_open same, open_behind-forest forest 0)

      pub not_without : length growing.elements ≡ 0 → ⊥
      not_without none = omega (arith, none, elements_taken, ap elements_in same, elements_in-forest forest, size-IsOneRoot forest one)

-- ---- want of memory

pub wants_memory : {X : Type 0} (result : Result X TreeRefusal) (taken : X → Type 0) (stays : Type 0) (refuses : TreeRefusal → Type 0)
    → IsErrAnd result (λ answer. answer ≡ OutOfMemory) → stays → refuses OutOfMemory → MatchResult result taken (λ answer. stays × refuses answer)
wants_memory (Ok done) taken stays refuses is same why = absurd is
wants_memory (Err answer) taken stays refuses is same why = (same, subst refuses (sym is) why)

-- ---- the sink

pub begins_over : (growing : Growing) (text : List ℕ) → StandsAfter growing [] → growing.source ≡ text → StandsOver growing (step.Error text 0 ∷ [])
begins_over growing text stands source = record { steps = []; is = ap (λ s. step.Error s 0 ∷ []) (sym source); stands = stands }

pub takes_over : {X : Type 0} (old new : Growing) (next : OwnedStep) (result : Result X TreeRefusal) → new.source ≡ old.source
    → ((steps : List OwnedStep) → StandsAfter old steps
    → MatchResult result (λ _. StandsAfter new (steps ++ next ∷ [])) (λ answer. (new ≡ old) × RefusesStep old.source steps next answer))
    → (list : List OwnedStep) → StandsOver old list
    → MatchResult result (λ _. StandsOver new (list ++ next ∷ [])) (λ answer. StandsOver new list × RefusesOver list next answer)
takes_over old new next (Ok x) source takes list over = record {
  steps = over.steps ++ next ∷ [];
  is = ap (λ l. l ++ next ∷ []) over.is ∙ ap (λ s. step.Error s 0 ∷ (over.steps ++ next ∷ [])) (sym source);
  stands = takes over.steps over.stands;
}
takes_over old new next (Err answer) source takes list over =
    let refused = takes over.steps over.stands in
    (subst (λ g. StandsOver g list) (sym refused.0) over, record { source = old.source; steps = over.steps; is = over.is; refused = refused.1 })

-- ---- the tree

module _ (growing : Growing) (text : List ℕ) (lexical : List LexicalError) (text_is : text ≡ take growing.sent growing.source) (few : length growing.elements ≤ 4294967295) (outside : growing.innermost ≡ 4294967295) (some : 1 ≤ length growing.elements) where
  abbrev laid : Laid
  laid = record { text = text; elements = growing.elements; errors = growing.errors; lexical = lexical }

  record Finished (steps : List OwnedStep) : Type 0 where
    pub forest : Forest
    pub is : IsTree laid forest
    pub walk : forest_steps forest ≡ steps

  finished_draft : (d : Draft) → IsDraft growing d → Finished (draft_steps d)
  finished_draft (Outside f) is = record {
    forest = f;
    is = record {
      elements = is.elements;
      errors = is.errors;
      text = text_is ∙ is.text;
      texts = is.texts;
      one = elim is.root [
        | inl none ↦ absurd (omega (arith, none, some, size_is growing (Outside f) is))
        | inr one ↦ one
      ];
    };
    walk = refl;
  }
  finished_draft (Within d kind f) is = absurd (omega (arith, is.innermost_is, size_is growing (Within d kind f) is, few, outside))

  pub finished : (steps : List OwnedStep) → StandsAfter growing steps → (forest : Forest) × IsTree laid forest × (forest_steps forest ≡ steps)
  finished steps stands =
      let f = finished_draft stands.draft stands.is in
      (f.forest, f.is, f.walk ∙ stands.walk)

  pub HoldsTree-finished : IsGrowing growing → HoldsTree laid
  HoldsTree-finished is =
      let f = finished_draft is.draft is.is in
      record {
        tree = f.forest;
        is = f.is;
        few = few;
        few_errors = is.few_errors;
        short = omega (arith, ap length text_is, length-take-le growing.sent growing.source is.is.sent, is.short);
      }

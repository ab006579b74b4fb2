-- What a builder has behind each step but a token.
use Rattle.std.proofs.Common.{◌≡◌, ◌≢◌, ◌∙◌, ℕ, ◌+◌, ◌-◌, ◌<◌, ◌≤◌, List, [], ◌∷◌, ◌++◌, length, get_or, set, arith, ap, sym, subst, refl, append_assoc, append-nil, inl, encode_utf8_all}
use Rattle.std.proofs.lemmas.List.{length-append, length-set, length-take-le, get_or_default}
use Rattle.squawk_table.specs.declared.shortcuts.str_step.OwnedStep.{OwnedStep}
use Rattle.squawk_table.specs.declared.shortcuts.str_step.OwnedStep.TheVariants as step
use Rattle.squawk_tree.specs.Forest.{Nothing, Node, Error, forest_steps}
use Rattle.syntax_tree.specs.Trees.{text_of}
use Rattle.syntax_tree.specs.Layout.{errors_of}
use Rattle.syntax_tree.specs.Drafts.{Growing, Draft, Outside, Within, draft_size, draft_bytes, draft_text, draft_steps, draft_elements, draft_errors, innermost, open_element, IsDraft, IsGrowing, StandsAfter}
use Rattle.syntax_tree.specs.declared.element.Element.{Element}
use Rattle.syntax_tree.specs.declared.tree.TreeError.{TreeError}
use Rattle.syntax_tree.proofs.DraftsLast.{with_last}
use Rattle.syntax_tree.proofs.DraftsGrown.{grow, length-draft, length-draft_text, few_draft_steps, innermost-grow, draft_text-grow, draft_steps-grow, draft_errors-grow, draft_elements-grow, HasTexts-grow, HasRoom-error, HasRoom-node, HasOneRoot-error, HasOneRoot-node, HasOneRoot-closed}
use Rattle.syntax_tree.proofs.DraftsClosed.{closed, closes}

-- ---- what the numbers are

module _ (growing : Growing) where
  pub size_is : (d : Draft) → IsDraft growing d → length growing.elements ≡ draft_size d
  size_is d is = ap length is.elements ∙ length-draft d

  pub sent_is : (d : Draft) → IsDraft growing d → growing.sent ≡ draft_bytes d
  sent_is d is = sym (length-take-le growing.sent growing.source is.sent) ∙ (ap length is.text ∙ length-draft_text d)

  -- the number of steps fits into 64 bits
  pub few_steps_taken : IsGrowing growing → growing.steps ≤ 12884901885
  few_steps_taken is =
      omega (arith, is.is.steps, few_draft_steps is.draft, size_is is.draft is.is, is.few, is.few_errors, ap length is.is.errors)

  innermost_among : (d : Draft) → IsDraft growing d → growing.innermost ≢ 4294967295 → growing.innermost < length growing.elements
  innermost_among (Outside f) is inside = absurd (inside is.innermost_is)
  innermost_among (Within d kind f) is inside = omega (arith, is.innermost_is, size_is (Within d kind f) is)

  pub innermost_below : IsGrowing growing → growing.innermost ≢ 4294967295 → growing.innermost < length growing.elements
  innermost_below is inside = innermost_among is.draft is.is inside

-- a builder that took no step
pub IsDraft-new : (source : List ℕ) (elements : List Element) (errors : List TreeError) → elements ≡ [] → errors ≡ []
    → IsDraft (record { source = source; sent = 0; elements = elements; innermost = 4294967295; errors = errors; steps = 0 }) (Outside Nothing)
IsDraft-new source elements errors no_element no_error = record {
  elements = no_element;
  innermost_is = refl;
  errors = no_error;
  steps = refl;
  sent = omega arith;
  text = refl;
  root = inl refl;
  texts = tt;
}

-- of the builder as a caller sees it
pub stood : (growing seen : Growing) → growing ≡ seen → (steps : List OwnedStep) → StandsAfter seen steps → StandsAfter growing steps
stood growing seen same steps stands = subst (λ g. StandsAfter g steps) (sym same) stands

-- more of a walk
pub walk_more : (d : Draft) (steps next : List OwnedStep) → draft_steps d ≡ steps → draft_steps d ++ next ≡ steps ++ next
walk_more d steps next walk = ap (λ s. s ++ next) walk

-- ---- the beginning of a node

module _ (growing : Growing) (kind innermost' : ℕ) (elements' : List Element) (at : innermost' ≡ length growing.elements)
    (put : elements' ≡ growing.elements ++ open_element kind growing.innermost (length growing.elements) growing.sent ∷ [])
    (root : growing.innermost ≡ 4294967295 → length growing.elements ≡ 0) where
  abbrev with_node : Growing
  with_node = record {
    source = growing.source;
    sent = growing.sent;
    elements = elements';
    innermost = innermost';
    errors = growing.errors;
    steps = growing.steps + 1;
  }

  IsDraft-node : (d : Draft) → IsDraft growing d → IsDraft with_node (Within d kind Nothing)
  IsDraft-node d is = record {
    elements = put
        ∙ (ap (λ e. e ++ open_element kind growing.innermost (length e) growing.sent ∷ []) is.elements
        ∙ (ap (λ p. draft_elements d ++ open_element kind p (length (draft_elements d)) growing.sent ∷ []) is.innermost_is
        ∙ (ap (λ at. draft_elements d ++ open_element kind (innermost d) at growing.sent ∷ []) (length-draft d)
        ∙ ap (λ start. draft_elements d ++ open_element kind (innermost d) (draft_size d) start ∷ []) (sent_is growing d is))));
    innermost_is = at ∙ size_is growing d is;
    errors = is.errors ∙ sym (append-nil (draft_errors d));
    steps = omega (arith, is.steps, length-append (draft_steps d) (step.Enter kind ∷ []));
    sent = is.sent;
    text = is.text ∙ ap encode_utf8_all (sym (append-nil (draft_text d)));
    root = HasOneRoot-node d kind (λ none. sym (size_is growing d is) ∙ root (is.innermost_is ∙ none)) is.root;
    texts = (is.texts, tt);
  }

  pub IsGrowing-node : IsGrowing growing → length growing.elements < 4294967295 → IsGrowing with_node
  IsGrowing-node is few = record {
    draft = Within is.draft kind Nothing;
    is = IsDraft-node is.draft is.is;
    utf8 = is.utf8;
    few = omega (
      arith,
      ap length put,
      length-append growing.elements (open_element kind growing.innermost (length growing.elements) growing.sent ∷ []),
    );
    few_errors = is.few_errors;
    short = is.short;
  }

  pub StandsAfter-node : (steps : List OwnedStep) → StandsAfter growing steps → StandsAfter with_node (steps ++ step.Enter kind ∷ [])
  StandsAfter-node steps stands = record {
    draft = Within stands.draft kind Nothing;
    is = IsDraft-node stands.draft stands.is;
    walk = walk_more stands.draft steps (step.Enter kind ∷ []) stands.walk;
  }

-- ---- the end of the innermost open node

module _ (growing : Growing) (few : length growing.elements ≤ 4294967295) (inside : growing.innermost ≢ 4294967295) (read leaf node : Element) (count : ℕ)
    (count_is : count ≡ length growing.elements) (read_is : read ≡ get_or growing.elements (count - 1) read)
    (leaf_is : leaf ≡ get_or growing.elements (count - 1) leaf)
    (node_is : node ≡ get_or (set growing.elements (count - 1) (with_last growing.innermost leaf)) growing.innermost node) where
  abbrev with_closed : Growing
  with_closed = record {
    source = growing.source;
    sent = growing.sent;
    elements = set (set growing.elements (count - 1) (with_last growing.innermost leaf)) growing.innermost (closed count read.last node);
    innermost = node.parent;
    errors = growing.errors;
    steps = growing.steps + 1;
  }

  -- the draft, whose innermost open node is closed
  abbrev closed_draft : Draft → Draft
  closed_draft (Outside f) = Outside f
  closed_draft (Within d kind inner) = grow d (Node kind inner Nothing)

  closed_steps : (d : Draft) → IsDraft growing d → draft_steps (closed_draft d) ≡ draft_steps d ++ step.Exit ∷ []
  closed_steps (Outside f) is = absurd (inside is.innermost_is)
  closed_steps (Within d kind inner) is = draft_steps-grow d (Node kind inner Nothing) ∙ sym (append_assoc (draft_steps d) (step.Enter kind ∷ forest_steps inner) (step.Exit ∷ []))

  IsDraft-closed : (d : Draft) → IsDraft growing d → IsDraft with_closed (closed_draft d)
  IsDraft-closed (Outside f) is = absurd (inside is.innermost_is)
  IsDraft-closed (Within d kind inner) is =
      let whole = Node kind inner Nothing in
      let ends = closes d kind inner (HasRoom-node d kind inner is.root) growing.elements growing.innermost count
      is.elements (sym is.innermost_is) (count_is ∙ size_is growing (Within d kind inner) is) leaf node leaf_is node_is in
      let same : read ≡ leaf =
      read_is ∙ (get_or_default growing.elements (count - 1) read leaf (omega (arith, count_is, size_is growing (Within d kind inner) is)) ∙ sym leaf_is) in
      let steps_are = closed_steps (Within d kind inner) is in
      record {
        elements = ap (λ e. set (set growing.elements (count - 1) (with_last growing.innermost leaf)) growing.innermost (closed count e.last node)) same ∙ ends.ends;
        innermost_is = ends.parent ∙ sym (innermost-grow d whole);
        errors = is.errors
            ∙ (ap (λ l. draft_errors d ++ l) (sym (append-nil (errors_of inner (draft_size d) (draft_size d + 1) (length (draft_steps d) + 1))))
            ∙ sym (draft_errors-grow d whole));
        steps = omega (arith, is.steps, ap length steps_are, length-append (draft_steps (Within d kind inner)) (step.Exit ∷ []));
        sent = is.sent;
        text = is.text ∙ ap encode_utf8_all (ap (λ t. draft_text d ++ t) (sym (append-nil (text_of inner))) ∙ sym (draft_text-grow d whole));
        root = HasOneRoot-closed d kind inner is.root;
        texts = HasTexts-grow d whole is.texts.0 (is.texts.1, tt);
      }

  pub IsGrowing-closed : IsGrowing growing → IsGrowing with_closed
  IsGrowing-closed is = record {
    draft = closed_draft is.draft;
    is = IsDraft-closed is.draft is.is;
    utf8 = is.utf8;
    few = simp length-set few;
    few_errors = is.few_errors;
    short = is.short;
  }

  pub StandsAfter-closed : (steps : List OwnedStep) → StandsAfter growing steps → StandsAfter with_closed (steps ++ step.Exit ∷ [])
  StandsAfter-closed steps stands = record {
    draft = closed_draft stands.draft;
    is = IsDraft-closed stands.draft stands.is;
    walk = closed_steps stands.draft stands.is ∙ walk_more stands.draft steps (step.Exit ∷ []) stands.walk;
  }

-- ---- an error

abbrev pub tree_error : List ℕ → ℕ → ℕ → ℕ → ℕ → TreeError
tree_error text pos node next given = record { msg = text; pos = pos; node = node; next = next; step = given }

module _ (growing : Growing) (text : List ℕ) (pos : ℕ) (errors' : List TreeError)
    (put : errors' ≡ growing.errors ++ tree_error text pos growing.innermost (length growing.elements) growing.steps ∷ []) where
  abbrev with_error : Growing
  with_error = record {
    source = growing.source;
    sent = growing.sent;
    elements = growing.elements;
    innermost = growing.innermost;
    errors = errors';
    steps = growing.steps + 1;
  }

  IsDraft-error : (d : Draft) → IsDraft growing d → IsDraft with_error (grow d (Error text pos Nothing))
  IsDraft-error d is =
      let error = Error text pos Nothing in
      record {
        elements = is.elements ∙ (sym (append-nil (draft_elements d)) ∙ sym (draft_elements-grow d error (HasRoom-error d text pos)));
        innermost_is = is.innermost_is ∙ sym (innermost-grow d error);
        errors = put
            ∙ (ap (λ l. l ++ tree_error text pos growing.innermost (length growing.elements) growing.steps ∷ []) is.errors
            ∙ (ap (λ node. draft_errors d ++ tree_error text pos node (length growing.elements) growing.steps ∷ []) is.innermost_is
            ∙ (ap (λ next. draft_errors d ++ tree_error text pos (innermost d) next growing.steps ∷ []) (size_is growing d is)
            ∙ (ap (λ given. draft_errors d ++ tree_error text pos (innermost d) (draft_size d) given ∷ []) is.steps
            ∙ sym (draft_errors-grow d error)))));
        steps = omega (arith, is.steps, ap length (draft_steps-grow d error), length-append (draft_steps d) (forest_steps error));
        sent = is.sent;
        text = is.text ∙ ap encode_utf8_all (sym (append-nil (draft_text d)) ∙ sym (draft_text-grow d error));
        root = HasOneRoot-error d text pos is.root;
        texts = HasTexts-grow d error is.texts tt;
      }

  pub IsGrowing-error : IsGrowing growing → length growing.errors < 4294967295 → IsGrowing with_error
  IsGrowing-error is few = record {
    draft = grow is.draft (Error text pos Nothing);
    is = IsDraft-error is.draft is.is;
    utf8 = is.utf8;
    few = is.few;
    few_errors = omega (arith, ap length put, length-append growing.errors (tree_error text pos growing.innermost (length growing.elements) growing.steps ∷ []));
    short = is.short;
  }

  pub StandsAfter-error : (steps : List OwnedStep) → StandsAfter growing steps → StandsAfter with_error (steps ++ step.Error text pos ∷ [])
  StandsAfter-error steps stands = record {
    draft = grow stands.draft (Error text pos Nothing);
    is = IsDraft-error stands.draft stands.is;
    walk = draft_steps-grow stands.draft (Error text pos Nothing) ∙ walk_more stands.draft steps (step.Error text pos ∷ []) stands.walk;
  }

-- What a builder has behind a token.
use Rattle.std.proofs.Common.{◌≡◌, ◌≢◌, ◌∙◌, ℕ, ◌+◌, ◌-◌, ◌<◌, ◌≤◌, ◌==◌, zero, suc, Bool, true, false, true≢false, eqb, List, [], ◌∷◌, ◌++◌, length, take, drop, arith, ap, sym, refl, append-nil, take-add, inl, inr, eq-zero-or-pos, encode_utf8_all, IsUtf8}
use Rattle.std.specs.List.{starts_with}
use Rattle.std.specs.Str.{chars}
use Rattle.std.proofs.lemmas.Bool.Decides.{Decides-eqb}
use Rattle.std.proofs.lemmas.List.{length-append, length-drop, take_at, take_rest, nil_from_length}
use Rattle.std.proofs.lemmas.Slice.Eq.{starts_is}
use Rattle.std.proofs.lemmas.Str.{encodes-append, encodes-chars}
use Rattle.squawk_table.specs.declared.shortcuts.str_step.OwnedStep.{OwnedStep}
use Rattle.squawk_table.specs.declared.shortcuts.str_step.OwnedStep.TheVariants as step
use Rattle.squawk_tree.specs.Forest.{Forest, Nothing, Token, forest_steps}
use Rattle.syntax_tree.specs.Layout.{token_element}
use Rattle.syntax_tree.specs.Drafts.{Growing, Draft, draft_size, draft_bytes, draft_text, draft_steps, draft_elements, draft_errors, innermost, IsDraft, IsGrowing, StandsAfter}
use Rattle.syntax_tree.specs.declared.element.Element.{Element}
use Rattle.syntax_tree.proofs.DraftsGrown.{grow, length-draft, innermost-grow, draft_text-grow, draft_steps-grow, draft_errors-grow, draft_elements-grow, HasTexts-grow, last_behind-token, HasRoom-token, HasOneRoot-token}
use Rattle.syntax_tree.proofs.Drafts.{sent_is, walk_more}

is_some : (n : ℕ) → (n == 0) ≡ false → 1 ≤ n
is_some zero none = absurd (true≢false none)
is_some (suc n) none = omega arith

-- a text is the next part of the source, and not empty
pub record IsNextPart (source : List ℕ) (sent : ℕ) (text : List ℕ) : Type 0 where
  pub some : 1 ≤ length text
  pub next : drop sent source ≡ text ++ drop (length text) (drop sent source)

-- what the comparison of a text with the rest of the source tells
module _ {source bytes text compared : List ℕ} {found : Bool} (sent : ℕ) (source_is : bytes ≡ source) (text_is : compared ≡ text)
    (found_is : found ≡ starts_with eqb (take (length bytes - sent) (drop sent bytes)) compared) where
  told : (found ≡ true → drop sent source ≡ text ++ drop (length text) (drop sent source)) × ((rest : List ℕ) → drop sent source ≡ text ++ rest → found ≡ true)
  told =
      starts_is Decides-eqb (drop sent source) text found
      (found_is
      ∙ (ap (λ b. starts_with eqb (take (length b - sent) (drop sent b)) compared) source_is
      ∙ (ap (λ t. starts_with eqb (take (length source - sent) (drop sent source)) t) text_is ∙ ap (λ l. starts_with eqb l text) (take_rest source sent))))

  pub not_found : found ≡ false → (rest : List ℕ) → drop sent source ≡ text ++ rest → ⊥
  not_found none rest next = true≢false (sym (told.1 rest next) ∙ none)

  pub is_part : {empty : Bool} → empty ≡ (length text == 0) → empty ≡ false → found ≡ true → IsNextPart source sent text
  is_part empty_is some here = record { some = is_some (length text) (sym empty_is ∙ some); next = told.0 here }

-- a text has as many characters as none only if it is empty
pub some_chars : (text : List ℕ) → IsUtf8 text → 1 ≤ length text → 1 ≤ length (chars text)
some_chars text utf8 some =
    elim (eq-zero-or-pos (length (chars text))) [
      | inl none ↦
          let empty : [] ≡ text = ap encode_utf8_all (sym (nil_from_length (chars text) none)) ∙ encodes-chars text utf8 in
          absurd (omega (arith, ap length empty, some))
      | inr more ↦ more
    ]

module _ (growing : Growing) (kind : ℕ) (text : List ℕ) (elements' : List Element)
    (put : elements' ≡ growing.elements ++ token_element kind growing.innermost (length growing.elements) growing.sent (length growing.elements) ∷ [])
    (inside : growing.innermost ≢ 4294967295) (utf8 : IsUtf8 text)
    (part : IsNextPart growing.source growing.sent text) where
  abbrev with_token : Growing
  with_token = record {
    source = growing.source;
    sent = growing.sent + length text;
    elements = elements';
    innermost = growing.innermost;
    errors = growing.errors;
    steps = growing.steps + 1;
  }

  abbrev token : Forest
  token = Token kind (chars text) Nothing

  token_taken : take (growing.sent + length text) growing.source ≡ take growing.sent growing.source ++ encode_utf8_all (chars text ++ [])
  token_taken =
      take-add growing.sent (length text) growing.source
      ∙ ap (λ l. take growing.sent growing.source ++ l)
      (ap (take (length text)) part.next
      ∙ (take_at text (drop (length text) (drop growing.sent growing.source)) (length text) refl
      ∙ (sym (encodes-chars text utf8) ∙ ap encode_utf8_all (sym (append-nil (chars text))))))

  IsDraft-token : (d : Draft) → IsDraft growing d → IsDraft with_token (grow d token)
  IsDraft-token d is =
      let inside_is : innermost d ≢ 4294967295 = λ none. inside (is.innermost_is ∙ none) in
      record {
        elements = put
            ∙ (ap (λ e. e ++ token_element kind growing.innermost (length e) growing.sent (length e) ∷ []) is.elements
            ∙ (ap (λ p. draft_elements d ++ token_element kind p (length (draft_elements d)) growing.sent (length (draft_elements d)) ∷ []) is.innermost_is
            ∙ (ap (λ at. draft_elements d ++ token_element kind (innermost d) at growing.sent at ∷ []) (length-draft d)
            ∙ (ap (λ start. draft_elements d ++ token_element kind (innermost d) (draft_size d) start (draft_size d) ∷ []) (sent_is growing d is)
            ∙ (ap (λ last. draft_elements d ++ token_element kind (innermost d) (draft_size d) (draft_bytes d) last ∷ [])
            (sym (last_behind-token d kind (chars text) inside_is))
            ∙ sym (draft_elements-grow d token (HasRoom-token d kind (chars text) inside_is)))))));
        innermost_is = is.innermost_is ∙ sym (innermost-grow d token);
        errors = is.errors ∙ (sym (append-nil (draft_errors d)) ∙ sym (draft_errors-grow d token));
        steps = omega (arith, is.steps, ap length (draft_steps-grow d token), length-append (draft_steps d) (forest_steps token));
        sent = omega (arith, is.sent, ap length part.next, length-drop growing.sent growing.source, length-append text (drop (length text) (drop growing.sent growing.source)));
        text = token_taken
            ∙ (ap (λ t. t ++ encode_utf8_all (chars text ++ [])) is.text
            ∙ (sym (encodes-append (draft_text d) (chars text ++ [])) ∙ ap encode_utf8_all (sym (draft_text-grow d token))));
        root = HasOneRoot-token d kind (chars text) inside_is is.root;
        texts = HasTexts-grow d token is.texts (rw (encodes-chars text utf8) utf8, some_chars text utf8 part.some, tt);
      }

  pub IsGrowing-token : IsGrowing growing → length growing.elements < 4294967295 → growing.sent + length text ≤ 4294967295 → IsGrowing with_token
  IsGrowing-token is few short = record {
    draft = grow is.draft token;
    is = IsDraft-token is.draft is.is;
    utf8 = is.utf8;
    few = omega (
      arith,
      ap length put,
      length-append growing.elements (token_element kind growing.innermost (length growing.elements) growing.sent (length growing.elements) ∷ []),
    );
    few_errors = is.few_errors;
    short = short;
  }

  pub StandsAfter-token : (steps : List OwnedStep) → StandsAfter growing steps → StandsAfter with_token (steps ++ step.Token kind (chars text) ∷ [])
  StandsAfter-token steps stands = record {
    draft = grow stands.draft token;
    is = IsDraft-token stands.draft stands.is;
    walk = draft_steps-grow stands.draft token ∙ walk_more stands.draft steps (step.Token kind (chars text) ∷ []) stands.walk;
  }

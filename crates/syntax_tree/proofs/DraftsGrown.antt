-- A draft with more trees at its end.
use Rattle.std.proofs.Common.{◌≡◌, ◌≢◌, ◌⊎◌, ◌∙◌, ℕ, ◌+◌, ◌*◌, ◌≤◌, List, ◌∷◌, ◌++◌, length, arith, ap, sym, refl, append_assoc, zero-add, inl, inr, encode_utf8_all, IsUtf8}
use Rattle.std.proofs.lemmas.List.{length-append}
use Rattle.std.proofs.lemmas.Str.{encodes-append}
use Rattle.squawk_table.specs.declared.shortcuts.str_step.OwnedStep.TheVariants as step
use Rattle.squawk_tree.specs.Forest.{Forest, Nothing, Token, Node, Error, forest_bytes, forest_steps}
use Rattle.syntax_tree.specs.Trees.{size, text_of}
use Rattle.syntax_tree.specs.Layout.{layout, errors_of, last_of, outermost, AreTexts}
use Rattle.syntax_tree.specs.Drafts.{Draft, Outside, Within, draft_size, draft_bytes, draft_text, draft_steps, draft_elements, draft_errors, innermost, open_element, HasOneRoot, HasTexts}
use Rattle.syntax_tree.proofs.Beside.{beside, size-beside, last_of-beside, outermost-none}
use Rattle.syntax_tree.proofs.Layouts.{layout-none, text_of-beside, forest_steps-beside, length-text_of, few_steps, AreTexts-beside, both_utf8, IsUtf8-texts, IsOneRoot-beside, IsOneRoot-node, length-layout, outermost-last, layout-at, layout-beside, errors_of-at, errors_of-beside}

-- ---- what a draft has

pub length-draft : (d : Draft) → length (draft_elements d) ≡ draft_size d
length-draft (Outside f) = length-layout f 4294967295 0 0 0
length-draft (Within d kind f) =
    let at = draft_size d in
    let last = last_of f (at + 1) at in
    omega (
      arith,
      length-append (draft_elements d) (open_element kind (innermost d) at (draft_bytes d) ∷ layout f at (at + 1) (draft_bytes d) last),
      length-draft d,
      length-layout f at (at + 1) (draft_bytes d) last,
    )

pub length-draft_text : (d : Draft) → length (encode_utf8_all (draft_text d)) ≡ draft_bytes d
length-draft_text (Outside f) = length-text_of f
length-draft_text (Within d kind f) =
    omega (
      arith,
      ap length (encodes-append (draft_text d) (text_of f)),
      length-append (encode_utf8_all (draft_text d)) (encode_utf8_all (text_of f)),
      length-draft_text d,
      length-text_of f,
    )

pub few_draft_steps : (d : Draft) → length (draft_steps d) ≤ 2 * draft_size d + length (draft_errors d)
few_draft_steps (Outside f) = few_steps f 4294967295 0 0
few_draft_steps (Within d kind f) =
    let at = draft_size d in
    let given = length (draft_steps d) + 1 in
    omega (
      arith,
      few_draft_steps d,
      few_steps f at (at + 1) given,
      length-append (draft_steps d) (step.Enter kind ∷ forest_steps f),
      length-append (draft_errors d) (errors_of f at (at + 1) given),
    )

pub IsUtf8-draft : (d : Draft) → HasTexts d → IsUtf8 (encode_utf8_all (draft_text d))
IsUtf8-draft (Outside f) texts = IsUtf8-texts f texts
IsUtf8-draft (Within d kind f) texts = both_utf8 (draft_text d) (text_of f) (IsUtf8-draft d texts.0) (IsUtf8-texts f texts.1)

-- ---- trees in the innermost open node

abbrev pub grow : Draft → Forest → Draft
grow (Outside f) g = Outside (beside f g)
grow (Within d kind f) g = Within d kind (beside f g)

pub innermost-grow : (d : Draft) (g : Forest) → innermost (grow d g) ≡ innermost d
innermost-grow (Outside f) g = refl
innermost-grow (Within d kind f) g = refl

pub draft_text-grow : (d : Draft) (g : Forest) → draft_text (grow d g) ≡ draft_text d ++ text_of g
draft_text-grow (Outside f) g = text_of-beside f g
draft_text-grow (Within d kind f) g = ap (λ t. draft_text d ++ t) (text_of-beside f g) ∙ sym (append_assoc (draft_text d) (text_of f) (text_of g))

pub draft_steps-grow : (d : Draft) (g : Forest) → draft_steps (grow d g) ≡ draft_steps d ++ forest_steps g
draft_steps-grow (Outside f) g = forest_steps-beside f g
draft_steps-grow (Within d kind f) g =
    ap (λ t. draft_steps d ++ step.Enter kind ∷ t) (forest_steps-beside f g)
    ∙ sym (append_assoc (draft_steps d) (step.Enter kind ∷ forest_steps f) (forest_steps g))

pub HasTexts-grow : (d : Draft) (g : Forest) → HasTexts d → AreTexts g → HasTexts (grow d g)
HasTexts-grow (Outside f) g p q = AreTexts-beside f g p q
HasTexts-grow (Within d kind f) g p q = (p.0, AreTexts-beside f g p.1 q)

pub draft_errors-grow : (d : Draft) (g : Forest) → draft_errors (grow d g) ≡ draft_errors d ++ errors_of g (innermost d) (draft_size d) (length (draft_steps d))
draft_errors-grow (Outside f) g =
    errors_of-beside f g 4294967295 0 0
    ∙ ap (λ l. errors_of f 4294967295 0 0 ++ l) (errors_of-at g 4294967295 _ _ _ _ (zero-add (size f)) (zero-add (length (forest_steps f))))
draft_errors-grow (Within d kind f) g =
    let at = draft_size d in
    let given = length (draft_steps d) + 1 in
    let given_is : given + length (forest_steps f) ≡ length (draft_steps d ++ step.Enter kind ∷ forest_steps f) =
    omega (arith, length-append (draft_steps d) (step.Enter kind ∷ forest_steps f)) in
    ap (λ l. draft_errors d ++ l)
    (errors_of-beside f g at (at + 1) given ∙ ap (λ l. errors_of f at (at + 1) given ++ l) (errors_of-at g at _ _ _ _ refl given_is))
    ∙ sym (append_assoc (draft_errors d) (errors_of f at (at + 1) given) _)

-- ---- elements

-- outside of nodes no element stands before another
abbrev pub HasRoom : Draft → Forest → Type 0
HasRoom (Outside f) g = (size f ≡ 0) ⊎ (size g ≡ 0)
HasRoom (Within d kind f) g = Unit {0}

-- the outermost element that ends with trees at the end of a draft
abbrev pub last_behind : Draft → Forest → ℕ
last_behind (Outside f) g = 0
last_behind (Within d kind f) g = last_of g (draft_size d + 1 + size f) (last_of f (draft_size d + 1) (draft_size d))

layout-outside : (f g : Forest) → (size f ≡ 0) ⊎ (size g ≡ 0) → layout f 4294967295 0 0 (outermost g (last_of f 0 0) 0) ≡ layout f 4294967295 0 0 0
layout-outside f g room =
    elim room [
      | inl none ↦ layout-none f 4294967295 0 0 (outermost g (last_of f 0 0) 0) none ∙ sym (layout-none f 4294967295 0 0 0 none)
      | inr none ↦ ap (λ all. layout f 4294967295 0 0 all) (outermost-none g (last_of f 0 0) 0 none)
    ]

pub draft_elements-grow : (d : Draft) (g : Forest) → HasRoom d g
    → draft_elements (grow d g) ≡ draft_elements d ++ layout g (innermost d) (draft_size d) (draft_bytes d) (last_behind d g)
draft_elements-grow (Outside f) g room =
    layout-beside f g 4294967295 0 0 0 0
    ∙ (ap (λ l. l ++ layout g 4294967295 (0 + size f) (0 + forest_bytes f) 0) (layout-outside f g room)
    ∙ ap (λ l. layout f 4294967295 0 0 0 ++ l) (layout-at g 4294967295 _ _ _ _ 0 (zero-add (size f)) (zero-add (forest_bytes f))))
draft_elements-grow (Within d kind f) g room =
    let at = draft_size d in
    let start = draft_bytes d in
    let opened = open_element kind (innermost d) at start in
    let last = last_of f (at + 1) at in
    let all = last_of g (at + 1 + size f) last in
    ap (λ a. draft_elements d ++ opened ∷ layout (beside f g) at (at + 1) start a) (last_of-beside f g (at + 1) at)
    ∙ (ap (λ l. draft_elements d ++ opened ∷ l)
    (layout-beside f g at (at + 1) start all at
    ∙ ap (λ a. layout f at (at + 1) start a ++ layout g at (at + 1 + size f) (start + forest_bytes f) all) (outermost-last g (at + 1 + size f) last))
    ∙ sym (append_assoc (draft_elements d) (opened ∷ layout f at (at + 1) start last) (layout g at (at + 1 + size f) (start + forest_bytes f) all)))

pub last_behind-token : (d : Draft) (kind : ℕ) (text : List ℕ) → innermost d ≢ 4294967295 → last_behind d (Token kind text Nothing) ≡ draft_size d
last_behind-token (Outside f) kind text some = absurd (some refl)
last_behind-token (Within d kind' f) kind text some = refl

pub last_behind-node : (d : Draft) (kind : ℕ) (inner : Forest) → HasRoom d (Node kind inner Nothing) → last_behind d (Node kind inner Nothing) ≡ draft_size d
last_behind-node (Outside f) kind inner room =
    elim room [
      | inl none ↦ sym none
      | inr none ↦ absurd (omega (arith, none))
    ]
last_behind-node (Within d kind' f) kind inner room = refl

pub HasRoom-token : (d : Draft) (kind : ℕ) (text : List ℕ) → innermost d ≢ 4294967295 → HasRoom d (Token kind text Nothing)
HasRoom-token (Outside f) kind text some = absurd (some refl)
HasRoom-token (Within d kind' f) kind text some = tt

pub HasRoom-error : (d : Draft) (text : List ℕ) (pos : ℕ) → HasRoom d (Error text pos Nothing)
HasRoom-error (Outside f) text pos = inr refl
HasRoom-error (Within d kind' f) text pos = tt

pub HasRoom-node : (d : Draft) (kind : ℕ) (inner : Forest) → HasOneRoot (Within d kind inner) → HasRoom d (Node kind inner Nothing)
HasRoom-node (Outside f) kind inner root = inl root
HasRoom-node (Within d kind' f) kind inner root = tt

-- ---- the root

-- what is in the innermost open node doesn't bear on it
root-within : (d : Draft) (kind : ℕ) (f g : Forest) → HasOneRoot (Within d kind f) → HasOneRoot (Within d kind g)
root-within (Outside trees) kind f g root = root
root-within (Within d kind' trees) kind f g root = root

pub HasOneRoot-token : (d : Draft) (kind : ℕ) (text : List ℕ) → innermost d ≢ 4294967295 → HasOneRoot d → HasOneRoot (grow d (Token kind text Nothing))
HasOneRoot-token (Outside f) kind text some root = absurd (some refl)
HasOneRoot-token (Within d kind' f) kind text some root = root-within d kind' f (beside f (Token kind text Nothing)) root

pub HasOneRoot-error : (d : Draft) (text : List ℕ) (pos : ℕ) → HasOneRoot d → HasOneRoot (grow d (Error text pos Nothing))
HasOneRoot-error (Outside f) text pos root =
    elim root [
      | inl none ↦ inl (size-beside f (Error text pos Nothing) ∙ omega (arith, none))
      | inr one ↦ inr (IsOneRoot-beside f (Error text pos Nothing) one refl)
    ]
HasOneRoot-error (Within d kind' f) text pos root = root-within d kind' f (beside f (Error text pos Nothing)) root

pub HasOneRoot-node : (d : Draft) (kind : ℕ) → (innermost d ≡ 4294967295 → draft_size d ≡ 0) → HasOneRoot d → HasOneRoot (Within d kind Nothing)
HasOneRoot-node (Outside f) kind none root = none refl
HasOneRoot-node (Within d kind' f) kind none root = root

pub HasOneRoot-closed : (d : Draft) (kind : ℕ) (inner : Forest) → HasOneRoot (Within d kind inner) → HasOneRoot (grow d (Node kind inner Nothing))
HasOneRoot-closed (Outside f) kind inner root = inr (IsOneRoot-node f kind inner root)
HasOneRoot-closed (Within d kind' f) kind inner root = root-within d kind' f (beside f (Node kind inner Nothing)) root

-- Trees beside each other, and how they lie in lists.
use Rattle.std.proofs.Common.{◌≡◌, ◌∙◌, ℕ, suc, ◌+◌, ◌*◌, ◌≤◌, List, [], ◌∷◌, ◌++◌, length, arith, ap, sym, refl, append_assoc, add-zero, encode_utf8_all, IsUtf8}
use Rattle.std.proofs.lemmas.List.{length-append, nil_from_length}
use Rattle.std.proofs.lemmas.Str.{IsUtf8-nil, IsUtf8-append, encodes-append}
use Rattle.squawk_table.specs.declared.shortcuts.str_step.OwnedStep.TheVariants as step
use Rattle.squawk_tree.specs.Forest.{Forest, Nothing, Token, Node, Error, forest_bytes, forest_steps}
use Rattle.syntax_tree.specs.Trees.{size, text_of, IsOneRoot}
use Rattle.syntax_tree.specs.Layout.{layout, errors_of, last_of, outermost, token_element, node_element, AreTexts}
use Rattle.syntax_tree.specs.declared.tree.TreeError.{TreeError}
use Rattle.syntax_tree.proofs.Beside.{beside, size-beside}

-- ---- sizes, texts and steps

pub text_of-beside : (f g : Forest) → text_of (beside f g) ≡ text_of f ++ text_of g
text_of-beside Nothing g = refl
text_of-beside (Token kind text others) g = ap (λ t. text ++ t) (text_of-beside others g) ∙ sym (append_assoc text (text_of others) (text_of g))
text_of-beside (Node kind inner others) g = ap (λ t. text_of inner ++ t) (text_of-beside others g) ∙ sym (append_assoc (text_of inner) (text_of others) (text_of g))
text_of-beside (Error text pos others) g = text_of-beside others g

pub forest_steps-beside : (f g : Forest) → forest_steps (beside f g) ≡ forest_steps f ++ forest_steps g
forest_steps-beside Nothing g = refl
forest_steps-beside (Token kind text others) g = ap (λ s. step.Token kind text ∷ s) (forest_steps-beside others g)
forest_steps-beside (Node kind inner others) g =
    ap (λ s. step.Enter kind ∷ (forest_steps inner ++ step.Exit ∷ s)) (forest_steps-beside others g)
    ∙ ap (λ s. step.Enter kind ∷ s) (sym (append_assoc (forest_steps inner) (step.Exit ∷ forest_steps others) (forest_steps g)))
forest_steps-beside (Error text pos others) g = ap (λ s. step.Error text pos ∷ s) (forest_steps-beside others g)

pub length-text_of : (f : Forest) → length (encode_utf8_all (text_of f)) ≡ forest_bytes f
length-text_of Nothing = refl
length-text_of (Token kind text others) =
    omega (
      arith,
      ap length (encodes-append text (text_of others)),
      length-append (encode_utf8_all text) (encode_utf8_all (text_of others)),
      length-text_of others,
    )
length-text_of (Node kind inner others) =
    omega (
      arith,
      ap length (encodes-append (text_of inner) (text_of others)),
      length-append (encode_utf8_all (text_of inner)) (encode_utf8_all (text_of others)),
      length-text_of inner,
      length-text_of others,
    )
length-text_of (Error text pos others) = length-text_of others

-- a step is the beginning or the end of an element, or an error
pub few_steps : (f : Forest) (node at given : ℕ) → length (forest_steps f) ≤ 2 * size f + length (errors_of f node at given)
few_steps Nothing node at given = omega arith
few_steps (Token kind text others) node at given = omega (arith, few_steps others node (at + 1) (given + 1))
few_steps (Node kind inner others) node at given =
    let behind = given + 2 + length (forest_steps inner) in
    omega (
      arith,
      few_steps inner at (at + 1) (given + 1),
      few_steps others node (at + 1 + size inner) behind,
      length-append (forest_steps inner) (step.Exit ∷ forest_steps others),
      length-append (errors_of inner at (at + 1) (given + 1)) (errors_of others node (at + 1 + size inner) behind),
    )
few_steps (Error text pos others) node at given = omega (arith, few_steps others node at (given + 1))

-- ---- what of them is text, and one root

pub AreTexts-beside : (f g : Forest) → AreTexts f → AreTexts g → AreTexts (beside f g)
AreTexts-beside Nothing g p q = q
AreTexts-beside (Token kind text others) g p q = (p.0, p.1, AreTexts-beside others g p.2 q)
AreTexts-beside (Node kind inner others) g p q = (p.0, AreTexts-beside others g p.1 q)
AreTexts-beside (Error text pos others) g p q = AreTexts-beside others g p q

pub both_utf8 : (a b : List ℕ) → IsUtf8 (encode_utf8_all a) → IsUtf8 (encode_utf8_all b) → IsUtf8 (encode_utf8_all (a ++ b))
both_utf8 a b p q = rw (encodes-append a b) (IsUtf8-append (encode_utf8_all a) (encode_utf8_all b) p q)

pub IsUtf8-texts : (f : Forest) → AreTexts f → IsUtf8 (encode_utf8_all (text_of f))
IsUtf8-texts Nothing p = IsUtf8-nil
IsUtf8-texts (Token kind text others) p = both_utf8 text (text_of others) p.0 (IsUtf8-texts others p.2)
IsUtf8-texts (Node kind inner others) p = both_utf8 (text_of inner) (text_of others) (IsUtf8-texts inner p.0) (IsUtf8-texts others p.1)
IsUtf8-texts (Error text pos others) p = IsUtf8-texts others p

pub IsOneRoot-beside : (f g : Forest) → IsOneRoot f → size g ≡ 0 → IsOneRoot (beside f g)
IsOneRoot-beside Nothing g one none = absurd one
IsOneRoot-beside (Token kind text others) g one none = one
IsOneRoot-beside (Node kind inner others) g one none = omega (arith, size-beside others g, one, none)
IsOneRoot-beside (Error text pos others) g one none = IsOneRoot-beside others g one none

pub IsOneRoot-node : (f : Forest) (kind : ℕ) (inner : Forest) → size f ≡ 0 → IsOneRoot (beside f (Node kind inner Nothing))
IsOneRoot-node Nothing kind inner none = refl
IsOneRoot-node (Token kind' text others) kind inner none = absurd (omega (arith, none))
IsOneRoot-node (Node kind' inner' others) kind inner none = absurd (omega (arith, none))
IsOneRoot-node (Error text pos others) kind inner none = IsOneRoot-node others kind inner none

pub size-IsOneRoot : (f : Forest) → IsOneRoot f → 1 ≤ size f
size-IsOneRoot Nothing one = absurd one
size-IsOneRoot (Token kind text others) one = absurd one
size-IsOneRoot (Node kind inner others) one = omega arith
size-IsOneRoot (Error text pos others) one = size-IsOneRoot others one

-- ---- elements

pub length-layout : (f : Forest) (parent at start all : ℕ) → length (layout f parent at start all) ≡ size f
length-layout Nothing parent at start all = refl
length-layout (Token kind text others) parent at start all = omega (arith, length-layout others parent (at + 1) (start + length (encode_utf8_all text)) all)
length-layout (Node kind inner others) parent at start all =
    let all' = outermost others at all in
    omega (
      arith,
      length-append (layout inner at (at + 1) start all') (layout others parent (at + 1 + size inner) (start + forest_bytes inner) all),
      length-layout inner at (at + 1) start all',
      length-layout others parent (at + 1 + size inner) (start + forest_bytes inner) all,
    )
length-layout (Error text pos others) parent at start all = length-layout others parent at start all

-- the outermost element that ends with trees is the last of them, or that which ends with the trees before
pub outermost-last : (g : Forest) (at none : ℕ) → outermost g none (last_of g at none) ≡ none
outermost-last Nothing at none = refl
outermost-last (Token kind text others) at none = refl
outermost-last (Node kind inner others) at none = refl
outermost-last (Error text pos others) at none = outermost-last others at none

outermost-beside : (f g : Forest) (at at' all : ℕ) → outermost (beside f g) at all ≡ outermost f at (outermost g (last_of f at' at) all)
outermost-beside Nothing g at at' all = refl
outermost-beside (Token kind text others) g at at' all = refl
outermost-beside (Node kind inner others) g at at' all = refl
outermost-beside (Error text pos others) g at at' all = outermost-beside others g at at' all

pub layout-at : (f : Forest) (parent at at' start start' all : ℕ) → at ≡ at' → start ≡ start' → layout f parent at start all ≡ layout f parent at' start' all
layout-at f parent at at' start start' all p q = ap (λ a. layout f parent a start all) p ∙ ap (λ s. layout f parent at' s all) q

pub layout-beside : (f g : Forest) (parent at start all none : ℕ)
    → layout (beside f g) parent at start all
    ≡ layout f parent at start (outermost g (last_of f at none) all) ++ layout g parent (at + size f) (start + forest_bytes f) all
layout-beside Nothing g parent at start all none = layout-at g parent at (at + 0) start (start + 0) all (sym (add-zero at)) (sym (add-zero start))
layout-beside (Token kind text others) g parent at start all none =
    let bytes = length (encode_utf8_all text) in
    let all' = outermost g (last_of others (at + 1) at) all in
    let at_is : at + 1 + size others ≡ at + suc (size others) = omega arith in
    let start_is : start + bytes + forest_bytes others ≡ start + (bytes + forest_bytes others) = omega arith in
    ap (λ last. token_element kind parent at start last ∷ layout (beside others g) parent (at + 1) (start + bytes) all) (outermost-beside others g at (at + 1) all)
    ∙ ap (λ l. token_element kind parent at start (outermost others at all') ∷ l)
    (layout-beside others g parent (at + 1) (start + bytes) all at
    ∙ ap (λ l. layout others parent (at + 1) (start + bytes) all' ++ l) (layout-at g parent _ _ _ _ all at_is start_is))
layout-beside (Node kind inner others) g parent at start all none =
    let at' = at + 1 + size inner in
    let start' = start + forest_bytes inner in
    let all' = outermost g (last_of others at' at) all in
    let node = node_element kind (size inner) parent at start (last_of inner (at + 1) (outermost others at all')) in
    let within = layout inner at (at + 1) start (outermost others at all') in
    let at_is : at' + size others ≡ at + suc (size inner + size others) = omega arith in
    let start_is : start' + forest_bytes others ≡ start + (forest_bytes inner + forest_bytes others) = omega arith in
    ap (λ last. node_element kind (size inner) parent at start (last_of inner (at + 1) last) ∷ (layout inner at (at + 1) start last ++ layout (beside others g) parent at' start' all))
    (outermost-beside others g at at' all)
    ∙ ap (λ l. node ∷ (within ++ l))
    (layout-beside others g parent at' start' all at ∙ ap (λ l. layout others parent at' start' all' ++ l) (layout-at g parent _ _ _ _ all at_is start_is))
    ∙ ap (λ l. node ∷ l) (sym (append_assoc within (layout others parent at' start' all') _))
layout-beside (Error text pos others) g parent at start all none = layout-beside others g parent at start all none

-- ---- trees without elements, and others

pub layout-none : (f : Forest) (parent at start all : ℕ) → size f ≡ 0 → layout f parent at start all ≡ []
layout-none f parent at start all none = nil_from_length (layout f parent at start all) (length-layout f parent at start all ∙ none)

-- ---- errors

pub errors_of-at : (f : Forest) (node at at' given given' : ℕ) → at ≡ at' → given ≡ given' → errors_of f node at given ≡ errors_of f node at' given'
errors_of-at f node at at' given given' p q = ap (λ a. errors_of f node a given) p ∙ ap (λ s. errors_of f node at' s) q

pub errors_of-beside : (f g : Forest) (node at given : ℕ)
    → errors_of (beside f g) node at given ≡ errors_of f node at given ++ errors_of g node (at + size f) (given + length (forest_steps f))
errors_of-beside Nothing g node at given = errors_of-at g node at (at + 0) given (given + 0) (sym (add-zero at)) (sym (add-zero given))
errors_of-beside (Token kind text others) g node at given =
    let at_is : at + 1 + size others ≡ at + suc (size others) = omega arith in
    let step_is : given + 1 + length (forest_steps others) ≡ given + suc (length (forest_steps others)) = omega arith in
    errors_of-beside others g node (at + 1) (given + 1) ∙ ap (λ l. errors_of others node (at + 1) (given + 1) ++ l) (errors_of-at g node _ _ _ _ at_is step_is)
errors_of-beside (Node kind inner others) g node at given =
    let at' = at + 1 + size inner in
    let given' = given + 2 + length (forest_steps inner) in
    let within = errors_of inner at (at + 1) (given + 1) in
    let at_is : at' + size others ≡ at + suc (size inner + size others) = omega arith in
    let step_is : given' + length (forest_steps others) ≡ given + length (forest_steps (Node kind inner others)) =
    omega (arith, length-append (forest_steps inner) (step.Exit ∷ forest_steps others)) in
    ap (λ l. within ++ l)
    (errors_of-beside others g node at' given' ∙ ap (λ l. errors_of others node at' given' ++ l) (errors_of-at g node _ _ _ _ at_is step_is))
    ∙ sym (append_assoc within (errors_of others node at' given') _)
errors_of-beside (Error text pos others) g node at given =
    let step_is : given + 1 + length (forest_steps others) ≡ given + suc (length (forest_steps others)) = omega arith in
    let error : TreeError = record { msg = text; pos = pos; node = node; next = at; step = given } in
    ap (λ l. error ∷ l)
    (errors_of-beside others g node at (given + 1) ∙ ap (λ l. errors_of others node at (given + 1) ++ l) (errors_of-at g node _ _ _ _ refl step_is))

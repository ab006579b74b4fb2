-- Trees beside each other stand apart, by their places and by their bytes.
use Rattle.std.proofs.Common.{◌≡◌, ◌∙◌, ◌⊎◌, inl, inr, ℕ, zero, suc, ◌+◌, ◌-◌, ◌<◌, ◌≤◌, List, [], ◌∷◌, ◌++◌, arith, ap, sym, refl, true, false}
use Rattle.std.proofs.lemmas.Bool.{cases_lt}
use Rattle.squawk_tree.specs.Forest.{Forest, Nothing, Token, Node, Error, forest_bytes}
use Rattle.syntax_tree.specs.Trees.{size, forest_at, inner_of, is_token, size_at, start_at, end_at, places, IsOneRoot}
use Rattle.syntax_tree.proofs.Texts.{at-inner, at-others, start-first, start-all, start-within, start-others}

-- ---- a token holds nothing, and a node begins where what follows it does

pub token_inner : (trees : Forest) → is_token trees ≡ true → inner_of trees ≡ Nothing
token_inner Nothing token = refl
token_inner (Token kind text others) token = refl
token_inner (Node kind inner others) token = let no : false ≡ true = token in absurd (cc no)
token_inner (Error text pos others) token = refl

pub begins_with : (trees : Forest) (i : ℕ) → i < size trees → is_token (forest_at trees i) ≡ false → start_at trees (suc i) ≡ start_at trees i
begins_with Nothing i below node = absurd (omega (arith, below))
begins_with (Token kind text others) zero below node = let no : true ≡ false = node in absurd (cc no)
begins_with (Token kind text others) (suc i) below node = omega (arith, begins_with others i (omega (arith, below)) node)
begins_with (Node kind inner others) zero below node = start-within kind inner others 0 (omega arith) ∙ start-first inner
begins_with (Node kind inner others) (suc i) below node =
    elim (cases_lt i (size inner)) [
      | inl lt ↦
          let here = ap is_token (sym (at-inner kind inner others i lt)) ∙ node in
          start-within kind inner others (suc i) (omega arith) ∙ (begins_with inner i lt here ∙ sym (start-within kind inner others i (omega arith)))
      | inr ge ↦
          let here = ap is_token (sym (at-others kind inner others i ge)) ∙ node in
          let next : suc i - size inner ≡ suc (i - size inner) = omega arith in
          start-others kind inner others (suc i) (omega arith)
          ∙ (ap (λ n. forest_bytes inner + start_at others n) next
          ∙ (ap (λ n. forest_bytes inner + n) (begins_with others (i - size inner) (omega (arith, below, ge)) here) ∙ sym (start-others kind inner others i ge)))
    ]
begins_with (Error text pos others) i below node = begins_with others i below node

-- ---- places in a node

-- a number is one of a list
abbrev pub In : ℕ → List ℕ → Type 0
In x [] = ⊥
In x (y ∷ list) = (x ≡ y) ⊎ In x list

pub in_middle : (before : List ℕ) (x : ℕ) (behind : List ℕ) → In x (before ++ x ∷ behind)
in_middle [] x behind = inl refl
in_middle (y ∷ before) x behind = inr (in_middle before x behind)

pub places-from : (trees : Forest) (at c : ℕ) → In c (places at trees) → (at ≤ c) × (c - at < size trees)
places-from Nothing at c here = absurd here
places-from (Token kind text others) at c (inl e) = (omega arith, omega arith)
places-from (Token kind text others) at c (inr more) = let b = places-from others (at + 1) c more in (omega (arith, b.0), omega (arith, b.0, b.1))
places-from (Node kind inner others) at c (inl e) = (omega arith, omega arith)
places-from (Node kind inner others) at c (inr more) = let b = places-from others (at + 1 + size inner) c more in (omega (arith, b.0), omega (arith, b.0, b.1))
places-from (Error text pos others) at c here = places-from others at c here

-- of two trees beside each other, the first one ends before the second one
pub apart : (trees : Forest) (at c d : ℕ) → In c (places at trees) → In d (places at trees) → c < d → c + size_at trees (c - at) ≤ d
apart Nothing at c d first second lt = absurd first
apart (Token kind text others) at c d (inl e) second lt =
    let here : c - at ≡ 0 = omega arith in
    omega (arith, ap (λ i. size_at (Token kind text others) i) here)
apart (Token kind text others) at c d (inr first) (inl e) lt = absurd (omega (arith, (places-from others (at + 1) c first).0))
apart (Token kind text others) at c d (inr first) (inr second) lt =
    let b = (places-from others (at + 1) c first).0 in
    let here : c - at ≡ suc (c - (at + 1)) = omega (arith, b) in
    omega (arith, ap (λ i. size_at (Token kind text others) i) here, apart others (at + 1) c d first second lt)
apart (Node kind inner others) at c d (inl e) (inl e') lt = absurd (omega arith)
apart (Node kind inner others) at c d (inl e) (inr second) lt =
    let here : c - at ≡ 0 = omega arith in
    omega (arith, ap (λ i. size_at (Node kind inner others) i) here, (places-from others (at + 1 + size inner) d second).0)
apart (Node kind inner others) at c d (inr first) (inl e) lt = absurd (omega (arith, (places-from others (at + 1 + size inner) c first).0))
apart (Node kind inner others) at c d (inr first) (inr second) lt =
    let b = (places-from others (at + 1 + size inner) c first).0 in
    let here : c - at ≡ suc (c - (at + 1)) = omega (arith, b) in
    let past : c - (at + 1) - size inner ≡ c - (at + 1 + size inner) = omega arith in
    omega (
      arith,
      ap (λ i. size_at (Node kind inner others) i) here,
      ap (λ f. size (inner_of f)) (at-others kind inner others (c - (at + 1)) (omega (arith, b)) ∙ ap (forest_at others) past),
      apart others (at + 1 + size inner) c d first second lt,
    )
apart (Error text pos others) at c d first second lt = apart others at c d first second lt

pub root_end : (tree : Forest) → IsOneRoot tree → end_at tree 0 ≡ forest_bytes tree
root_end Nothing one = absurd one
root_end (Token kind text others) one = absurd one
root_end (Node kind inner others) one =
    let all : 0 + size_at (Node kind inner others) 0 ≡ suc (size inner) = omega arith in
    let none = start-all others in
    let none' = ap (start_at others) one ∙ start-first others in
    omega (arith, ap (start_at (Node kind inner others)) all ∙ (start-within kind inner others (size inner) (omega arith) ∙ start-all inner), none, none')
root_end (Error text pos others) one = root_end others one

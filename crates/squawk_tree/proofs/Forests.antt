-- The text of trees beside each other.
use Rattle.std.proofs.Common.{◌≡◌, ◌∙◌, ℕ, suc, ◌+◌, ◌-◌, List, [], ◌∷◌, ◌++◌, length, arith, ap, sym, refl, append_assoc, add-zero}
use Rattle.std.specs.Prelude.{encode_utf8_all}
use Rattle.std.proofs.lemmas.List.{append-nil}
use Rattle.squawk_kinds.specs.KindNames.{Names}
use Rattle.squawk_table.specs.declared.shortcuts.str_step.OwnedStep.{OwnedStep}
use Rattle.squawk_table.specs.declared.shortcuts.str_step.OwnedStep.TheVariants as step
use Rattle.squawk_tree.specs.TreeText.{bytes_left, error_shown, line, span, text_from, token_shown, tree_text}
use Rattle.squawk_tree.specs.Forest.{Forest, Nothing, Token, Node, Error, forest_bytes, forest_text, forest_steps}

-- the bytes that are left of a node in which trees stand before further steps
bytes_left-forest : (forest : Forest) (rest : List OwnedStep) (inner : ℕ) → bytes_left (forest_steps forest ++ rest) inner ≡ forest_bytes forest + bytes_left rest inner
bytes_left-forest Nothing rest inner = omega arith
bytes_left-forest (Token kind text others) rest inner = omega (arith, bytes_left-forest others rest inner)
bytes_left-forest (Node kind within others) rest inner =
    let steps = ap (λ steps. bytes_left steps (suc inner)) (append_assoc (forest_steps within) (step.Exit ∷ forest_steps others) rest) in
    omega (arith, steps, bytes_left-forest within (step.Exit ∷ (forest_steps others ++ rest)) (suc inner), bytes_left-forest others rest inner)
bytes_left-forest (Error text pos others) rest inner = bytes_left-forest others rest inner

-- a text before two others
regrouped : (a b c d d' : List ℕ) → b ≡ c ++ d → d ≡ d' → a ++ b ≡ (a ++ c) ++ d'
regrouped a b c d d' e f = rw (e, f) (sym (append_assoc a c d'))

text_from-forest : (names : Names) (forest : Forest) (rest : List OwnedStep) (depth start : ℕ)
    → text_from names depth start (forest_steps forest ++ rest) ≡ forest_text names depth start forest ++ text_from names depth (start + forest_bytes forest) rest
text_from-forest names Nothing rest depth start = ap (λ at. text_from names depth at rest) (sym (add-zero start))
text_from-forest names (Token kind text others) rest depth start =
    let end = start + length (encode_utf8_all text) in
    let at : end + forest_bytes others ≡ start + (length (encode_utf8_all text) + forest_bytes others) = omega arith in
    regrouped (line depth (token_shown names kind start end text)) (text_from names depth end (forest_steps others ++ rest)) (forest_text names depth end others)
    (text_from names depth (end + forest_bytes others) rest) (text_from names depth (start + (length (encode_utf8_all text) + forest_bytes others)) rest)
    (text_from-forest names others rest depth end) (ap (λ at. text_from names depth at rest) at)
text_from-forest names (Node kind inner others) rest depth start =
    let behind = forest_steps others ++ rest in
    let all = (forest_steps inner ++ step.Exit ∷ forest_steps others) ++ rest in
    let assoc = append_assoc (forest_steps inner) (step.Exit ∷ forest_steps others) rest in
    let end = start + forest_bytes inner in
    let bytes : bytes_left all 0 ≡ forest_bytes inner = ap (λ steps. bytes_left steps 0) assoc ∙ (bytes_left-forest inner (step.Exit ∷ behind) 0 ∙ add-zero (forest_bytes inner)) in
    let within = ap (λ at. text_from names (suc depth) at all) (add-zero start)
    ∙ (ap (text_from names (suc depth) start) assoc ∙ text_from-forest names inner (step.Exit ∷ behind) (suc depth) start) in
    let back : suc depth - 1 ≡ depth = omega arith in
    let last : end + forest_bytes others ≡ start + (forest_bytes inner + forest_bytes others) = omega arith in
    let after = ap (λ depth. text_from names depth (end + 0) behind) back
    ∙ (ap (λ at. text_from names depth at behind) (add-zero end)
    ∙ (text_from-forest names others rest depth end ∙ ap (λ at. forest_text names depth end others ++ text_from names depth at rest) last)) in
    ap (λ bytes. line depth (span names kind start (start + bytes)) ++ text_from names (suc depth) (start + 0) all) bytes
    ∙ (regrouped (line depth (span names kind start end)) (text_from names (suc depth) (start + 0) all) (forest_text names (suc depth) start inner)
    (text_from names (suc depth - 1) (end + 0) behind) (forest_text names depth end others ++ text_from names depth (start + (forest_bytes inner + forest_bytes others)) rest) within after
    ∙ sym (append_assoc (line depth (span names kind start end) ++ forest_text names (suc depth) start inner) (forest_text names depth end others)
    (text_from names depth (start + (forest_bytes inner + forest_bytes others)) rest)))
text_from-forest names (Error text pos others) rest depth start =
    ap (λ at. line depth (error_shown text pos) ++ text_from names depth at (forest_steps others ++ rest)) (add-zero start)
    ∙ regrouped (line depth (error_shown text pos)) (text_from names depth start (forest_steps others ++ rest)) (forest_text names depth start others)
    (text_from names depth (start + forest_bytes others) rest) (text_from names depth (start + forest_bytes others) rest)
    (text_from-forest names others rest depth start) refl

pub tree_text-forest : (names : Names) (forest : Forest) → tree_text names (forest_steps forest) ≡ forest_text names 0 0 forest
tree_text-forest names forest =
    ap (tree_text names) (sym (append-nil (forest_steps forest))) ∙ (text_from-forest names forest [] 0 0 ∙ append-nil (forest_text names 0 0 forest))

-- What is inside of some rows.
use Rattle.std.specs.Prelude.{◌≡◌, ℕ, ◌+◌, List}
use Rattle.std.proofs.Common.{subst, sym}
use Rattle.rule_grammar.specs.Derivations.{AreInside, Derives, IsArm, IsOnly, Text}
use Rattle.rule_grammar.specs.Derivations.Derives.{arm, call, node, one}
use Rattle.rule_grammar.specs.Derivations.Span.{block, single}
use Rattle.rule_grammar.specs.Parts.{part_at}
use Rattle.rule_grammar.specs.declared.part.Part.TheVariants.{Call, Choice, Node}
use Rattle.rule_grammar.proofs.Derived.{only_in}

-- what is in the only part of some rows
in_only : {list : List (List ℕ)} {start end k first last : ℕ} → IsOnly list start end k
    → ((t : Text) → t.rows ≡ list → (i j : ℕ) → Derives t (block first last) i j → Derives t (single k) i j) → AreInside list first last start end
in_only {start = start} {end = end} {k = k} only f =
    λ t same i j d. only_in (subst (λ (l : List (List ℕ)). IsOnly l start end k) (sym same) only) (f t same i j d)

pub in_node : {list : List (List ℕ)} {start end k last kind : ℕ} → IsOnly list start end k → part_at list k ≡ Node last kind
    → AreInside list (k + 1) last start end
in_node {k = k} {last = last} {kind = kind} only is =
    in_only only (λ t same i j d. node (subst (λ (l : List (List ℕ)). part_at l k ≡ Node last kind) (sym same) is) d)

pub in_call : {list : List (List ℕ)} {start end k first last : ℕ} → IsOnly list start end k → part_at list k ≡ Call first last
    → AreInside list first last start end
in_call {k = k} {first = first} {last = last} only is =
    in_only only (λ t same i j d. call (subst (λ (l : List (List ℕ)). part_at l k ≡ Call first last) (sym same) is) d)

pub in_arm : {list : List (List ℕ)} {start end k to first last : ℕ} → IsOnly list start end k → part_at list k ≡ Choice to
    → IsArm list (k + 1) to first last → AreInside list first last start end
in_arm {k = k} {to = to} {first = first} {last = last} only is way =
    in_only only (λ t same i j d. one (subst (λ (l : List (List ℕ)). part_at l k ≡ Choice to) (sym same) is)
    (arm (subst (λ (l : List (List ℕ)). IsArm l (k + 1) to first last) (sym same) way) d))

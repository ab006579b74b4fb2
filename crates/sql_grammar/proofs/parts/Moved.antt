-- What rules derive of some tokens, they derive where these stand among others.
use Rattle.std.proofs.Common.{◌≡◌, ◌∙◌, ℕ, ◌+◌, ◌≤◌, Bool, List, arith, ap, subst}
use Rattle.squawk_parser.specs.Composites.{stands_at}
use Rattle.squawk_parser.specs.Words.{Words}
use Rattle.squawk_table.specs.ParserInput.{Entry}
use Rattle.squawk_kinds.specs.TokenSets.{has}
use Rattle.squawk_output.specs.Steps.{eaten}
use Rattle.squawk_parser.specs.Eaten.{eat_steps}
use Rattle.rule_grammar.specs.Derivations.{Derives, Text, Span, is_hidden, kind_of, seen_at, word_of}
use Rattle.rule_grammar.specs.Derivations.Span.{block, single}
use Rattle.rule_grammar.specs.Parts.{set_has}
use Rattle.rule_grammar.specs.Derivations.Derives.{none, more, all, silent, token, composite, word, class, name, node, call, one, taken, left_out, some, repeated, listed, operators, operand, arm, no_turn, turn, first, next, stands, operates}

-- what is derived ends no earlier than it begins
pub ascends : {t : Text} {span : Span} {i j : ℕ} → Derives t span i j → i ≤ j
ascends none = omega arith
ascends (more d e) = omega (arith, ascends d, ascends e)
ascends (all is d) = ascends d
ascends (silent is) = omega arith
ascends (token is at) = omega arith
ascends (composite is shown at) = omega arith
ascends (word is at has) = omega arith
ascends (class is has) = omega arith
ascends (name is has) = omega arith
ascends (node is d) = ascends d
ascends (call is d) = ascends d
ascends (one is d) = ascends d
ascends (taken is d) = ascends d
ascends (left_out is) = omega arith
ascends (some is d e) = omega (arith, ascends d, ascends e)
ascends (repeated is d) = ascends d
ascends (listed is d) = ascends d
ascends (operators is d) = ascends d
ascends (operand is d) = ascends d
ascends (arm is d) = ascends d
ascends no_turn = omega arith
ascends (turn d e) = omega (arith, ascends d, ascends e)
ascends (first d) = ascends d
ascends (next d at e) = omega (arith, ascends d, ascends e)
ascends (stands is d) = ascends d
ascends (operates d is tail low high e) = omega (arith, ascends d, ascends e)

-- The same rules over other tokens: from a place on they see what they saw, up to their limit and there.
pub record Sees (t u : Text) (off : ℕ) : Type 0 where
  pub kind : (i : ℕ) → i ≤ t.limit → kind_of u (off + i) ≡ kind_of t i
  pub word : (i : ℕ) → i ≤ t.limit → word_of u (off + i) ≡ word_of t i
  pub seen : (i : ℕ) → i ≤ t.limit → seen_at u (off + i) ≡ seen_at t i
  pub hidden : (i : ℕ) → i ≤ t.limit → is_hidden u.hidden (off + i) ≡ is_hidden t.hidden i

module _ (rows sets : List (List ℕ)) (words : Words) (hidden others : List Bool) (input whole : List Entry) (limit end off : ℕ) where
  abbrev t : Text
  t = record { rows = rows; sets = sets; hidden = hidden; words = words; input = input; limit = limit }

  abbrev u : Text
  u = record { rows = rows; sets = sets; hidden = others; words = words; input = whole; limit = end }

  module _ (sees : Sees t u off) where
    -- where the end stands otherwise
    to : (span : Span) (i j m : ℕ) → j ≡ m → Derives u span i j → Derives u span i m
    to span i j m e d = subst (Derives u span i) e d

    pub moved : {span : Span} {i j : ℕ} → Derives t span i j → j ≤ limit → Derives u span (off + i) (off + j)
    moved none le = none
    moved (more d e) le = more (moved d (omega (arith, le, ascends e))) (moved e le)
    moved (all is d) le = all is (moved d le)
    moved (silent is) le = silent is
    moved (token {k = k} {i = i} is at) le = to (single k) (off + i) (off + i + 1) (off + (i + 1)) (omega arith) (token is (sees.kind i (omega (arith, le)) ∙ at))
    moved (composite {k = k} {i = i} {kind = kind} is shown at) le =
        let here : i ≤ limit = omega (arith, le) in
        let same = sees.seen i here in
        to (single k) (off + i) (off + i + eaten (eat_steps words kind (seen_at u (off + i)))) (off + (i + eaten (eat_steps words kind (seen_at t i))))
        (omega (arith, ap (λ seen. eaten (eat_steps words kind seen)) same))
        (composite is (sees.hidden i here ∙ shown) (ap (stands_at (has words.operator_first) kind) same ∙ at))
    moved (word {k = k} {i = i} {set = set} is at has) le =
        let here : i ≤ limit = omega (arith, le) in
        to (single k) (off + i) (off + i + 1) (off + (i + 1)) (omega arith) (word is (sees.kind i here ∙ at) (ap (set_has sets set) (sees.word i here) ∙ has))
    moved (class {k = k} {i = i} {set = set} is has) le =
        to (single k) (off + i) (off + i + 1) (off + (i + 1)) (omega arith) (class is (ap (set_has sets set) (sees.kind i (omega (arith, le))) ∙ has))
    moved (name {k = k} {i = i} {set = set} is has) le =
        to (single k) (off + i) (off + i + 1) (off + (i + 1)) (omega arith) (name is (ap (set_has sets set) (sees.kind i (omega (arith, le))) ∙ has))
    moved (node is d) le = node is (moved d le)
    moved (call is d) le = call is (moved d le)
    moved (one is d) le = one is (moved d le)
    moved (taken is d) le = taken is (moved d le)
    moved (left_out is) le = left_out is
    moved (some is d e) le = some is (moved d (omega (arith, le, ascends e))) (moved e le)
    moved (repeated is d) le = repeated is (moved d le)
    moved (listed is d) le = listed is (moved d le)
    moved (operators is d) le = operators is (moved d le)
    moved (operand is d) le = operand is (moved d le)
    moved (arm is d) le = arm is (moved d le)
    moved no_turn le = no_turn
    moved (turn d e) le = turn (moved d (omega (arith, le, ascends e))) (moved e le)
    moved (first d) le = first (moved d le)
    moved (next {start = start} {end = last} {separator = separator} {i = i} {j = j} {m = m} d at e) le =
        let here : j ≤ limit = omega (arith, le, ascends e) in
        next (moved d here) (sees.kind j here ∙ at) (subst (λ n. Derives u (block start last) n (off + m)) (omega arith) (moved e le))
    moved (stands is d) le = stands is (moved d le)
    moved (operates d is tail low high e) le = operates (moved d (omega (arith, le, ascends e))) is tail low high (moved e le)

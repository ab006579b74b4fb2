-- Operators and their operands are added one after another.
use Rattle.std.proofs.Common.{◌≡◌, ◌∙◌, ℕ, zero, suc, ◌<◌, ◌≤◌, Bool, true, false, List, [], ◌∷◌, ◌++◌, length, arith, ap, sym, refl, subst, append_assoc, length-append}
use Rattle.std.specs.Prelude.{replicate}
use Rattle.std.specs.List.{flat_map}
use Rattle.std.proofs.lemmas.List.{append-nil, flat_map_more, length-drop}
use Rattle.std.proofs.lemmas.Grind.{flat_map-append}
use Rattle.squawk_kinds.specs.Kinds.{CUSTOM_OP}
use Rattle.squawk_kinds.specs.TokenSets.{has}
use Rattle.squawk_table.specs.ParserInput.{Entry, kind_in}
use Rattle.squawk_output.specs.Steps.{Step, Enter, Exit, eaten}
use Rattle.squawk_output.specs.Draft.{Mark, Node}
use Rattle.squawk_parser.specs.Composed.{Adds, AddsNode, RecordsSteps}
use Rattle.squawk_parser.specs.Recorded.{Completes, Precedes, Puts}
use Rattle.squawk_parser.specs.State.{State, ahead}
use Rattle.squawk_parser.specs.Composites.{stands_at}
use Rattle.squawk_parser.proofs.AddedSteps.{Adds-node, Adds-puts, Adds-then}
use Rattle.squawk_parser.proofs.Progress.{operator-eats}
use Rattle.squawk_parser.proofs.RecordedItems.{eaten-append}
use Rattle.squawk_parser.proofs.SeenSteps.{ahead-moved, ahead-still, if-false, if-true}
use Rattle.squawk_parser.proofs.StepsInOrder.{RecordsSteps-before, RecordsSteps-puts, RecordsSteps-then}
use Rattle.tiny_grammar.specs.Expressions.{HasTinyOperators, behind, is_operator_kind, bin, expression_in_order, expression_steps, in_order, nested, operand_steps, operator_steps, part_in_order, rest_of, right_steps, rights, rights_of, behind_expression}

-- one operator more
pub nested-push : (first part : List Step) (parts : List (List Step)) → Enter bin ∷ (nested first parts ++ part) ++ Exit ∷ [] ≡ nested first (parts ++ part ∷ [])
nested-push first part parts =
    let n = length parts in
    let close = λ (part : List Step). part ++ Exit ∷ [] in
    let closed : flat_map close (parts ++ part ∷ []) ≡ flat_map close parts ++ (part ++ Exit ∷ []) =
    flat_map-append close parts (part ∷ []) ∙ ap (λ zs. flat_map close parts ++ zs) (append-nil (part ++ Exit ∷ [])) in
    let more : length (parts ++ part ∷ []) ≡ suc n = omega (arith, length-append parts (part ∷ [])) in
    let front : replicate (suc n) (Enter bin) ≡ Enter bin ∷ replicate n (Enter bin) = refl in
    sym
    (ap (λ k. (replicate k (Enter bin) ++ first) ++ flat_map close (parts ++ part ∷ [])) more
    ∙ (ap (λ zs. Enter bin ∷ ((replicate n (Enter bin) ++ first) ++ zs)) closed
    ∙ ap (λ zs. Enter bin ∷ zs)
    (sym (append_assoc (replicate n (Enter bin) ++ first) (flat_map close parts) (part ++ Exit ∷ []))
    ∙ sym (append_assoc ((replicate n (Enter bin) ++ first) ++ flat_map close parts) part (Exit ∷ [])))))

-- a parser that has put some of the operators of an expression
pub record Expressing (old now : State) (left : Node) : Type 0 where
  pub done : List (List Step)
  pub puts : AddsNode (nested (operand_steps (ahead old 0)) done) left old now
  pub records : RecordsSteps (in_order (operand_steps (ahead old 0)) done) old now
  pub most : ℕ
  pub enough : length (ahead now 0) ≤ most
  pub parts : rights_of (ahead old 0)
      ≡ done ++ rights most (ahead now 0)
  pub rest : behind_expression (ahead old 0)
      ≡ rest_of most (ahead now 0)

pub expressing-first : {old now : State} {left : Node} → AddsNode (operand_steps (ahead old 0)) left old now → RecordsSteps (operand_steps (ahead old 0)) old now
    → Expressing old now left
expressing-first {old} {now} {left} puts records =
    let seen = ahead old 0 in
    let first = operand_steps seen in
    let here : ahead now 0 ≡ behind first seen = ahead-moved (eaten first) puts.keeps puts.position in
    record {
      done = [];
      puts = subst (λ steps. AddsNode steps left old now) (sym (append-nil first)) puts;
      records = subst (λ steps. RecordsSteps steps old now) (sym (append-nil first)) records;
      most = length seen;
      enough = omega (arith, ap length here, length-drop (eaten first) seen);
      parts = ap (rights (length seen)) (sym here);
      rest = ap (rest_of (length seen)) (sym here);
    }

-- whether one stands
pub at-operator : {old now : State} {left : Node} {found told : Bool} → HasTinyOperators old.words → Expressing old now left
    → found ≡ stands_at (has now.words.operator_first) CUSTOM_OP (ahead now 0) → found ≡ told → is_operator_kind (kind_in (ahead now 0) 0) ≡ told
at-operator {old} {now} operators e at is =
    let same : has now.words.operator_first ≡ is_operator_kind = ap (λ words. has words.operator_first) e.puts.keeps.words ∙ operators in
    sym (ap (λ f. f (kind_in (ahead now 0) 0)) same) ∙ (sym at ∙ is)

-- the definitions where an operator stands, and where none does
module _ (seen : List Entry) where
  parts-next : (n : ℕ) → is_operator_kind (kind_in seen 0) ≡ true
      → rights (suc n) seen ≡ right_steps seen ∷ rights n (behind (right_steps seen) seen)
  parts-next n is = if-true _ _ _ is

  rest-next : (n : ℕ) → is_operator_kind (kind_in seen 0) ≡ true → rest_of (suc n) seen ≡ rest_of n (behind (right_steps seen) seen)
  rest-next n is = if-true _ _ _ is

  parts-end : (n : ℕ) → is_operator_kind (kind_in seen 0) ≡ false → rights n seen ≡ []
  parts-end zero is = refl
  parts-end (suc n) is = if-false _ _ _ is

  rest-end : (n : ℕ) → is_operator_kind (kind_in seen 0) ≡ false → rest_of n seen ≡ seen
  rest-end zero is = refl
  rest-end (suc n) is = if-false _ _ _ is

-- fewer tokens are left behind an operator
behind_fewer : (seen : List Entry) → is_operator_kind (kind_in seen 0) ≡ true → length (behind (right_steps seen) seen) < length seen
behind_fewer [] is = absurd (cc)
behind_fewer (e ∷ seen) is =
    let all = e ∷ seen in
    let operator = operator_steps all in
    omega (arith, operator-eats is_operator_kind CUSTOM_OP all refl is, eaten-append operator (operand_steps (behind operator all)), length-drop (eaten (right_steps all)) all)

-- ---- one operator

-- the operator is eaten behind the left operand
record EatsOperator (s t u : State) : Type 0 where
  puts : Puts (operator_steps (ahead s 0)) t u
  behind : ahead u 0 ≡ behind (operator_steps (ahead s 0)) (ahead s 0)

module _ {s t u : State} {left : Node} {m : Mark} (precedes : Precedes left m s t)
    (eats : Puts (operator_steps (ahead t 0)) t u) where
  operator_there : EatsOperator s t u
  operator_there =
      let same : ahead t 0 ≡ ahead s 0 = ahead-still precedes.keeps precedes.position in
      let operator = operator_steps (ahead s 0) in
      let put : Puts operator t u = subst (λ seen. Puts (operator_steps seen) t u) same eats in
      record { puts = put; behind = ahead-moved (eaten operator) put.keeps put.position ∙ ap (behind operator) same }

  -- what is added
  pub operation_adds : {v : State} {n : Node} → AddsNode (operand_steps (ahead u 0)) n u v → Adds (right_steps (ahead s 0)) t v
  operation_adds {v} {n} node =
      Adds-then (Adds-puts operator_there.puts) (Adds-node (subst (λ seen. AddsNode (operand_steps seen) n u v) operator_there.behind node))

  -- what is recorded for it
  pub operation_records : {v w : State} {kind : ℕ} → RecordsSteps (operand_steps (ahead u 0)) u v → Completes m.id kind v w
      → RecordsSteps (part_in_order (right_steps (ahead s 0))) s w
  operation_records {v} {w} records completes =
      RecordsSteps-before bin precedes
      (RecordsSteps-then (RecordsSteps-puts operator_there.puts) (subst (λ seen. RecordsSteps (operand_steps seen) u v) operator_there.behind records)) completes

module _ (s w : State) (is : is_operator_kind (kind_in (ahead s 0) 0) ≡ true) (there : ahead w 0 ≡ behind (right_steps (ahead s 0)) (ahead s 0)) where
  -- fewer tokens are left
  pub expressing-fewer : length (ahead w 0) < length (ahead s 0)
  expressing-fewer = omega (arith, ap length there, behind_fewer (ahead s 0) is)

  pub expressing-next : {old : State} {left n : Node} (e : Expressing old s left)
      → AddsNode (Enter bin ∷ (nested (operand_steps (ahead old 0)) e.done ++ right_steps (ahead s 0)) ++ Exit ∷ []) n old w
      → RecordsSteps (part_in_order (right_steps (ahead s 0))) s w
      → Expressing old w n
  expressing-next {old} {left} {n} e puts records = cases e.most e.enough e.parts e.rest
    where
      cases : (most : ℕ) → length (ahead s 0) ≤ most
          → rights_of (ahead old 0) ≡ e.done ++ rights most (ahead s 0)
          → behind_expression (ahead old 0) ≡ rest_of most (ahead s 0)
          → Expressing old w n
      cases zero enough parts rest = let lt = expressing-fewer in absurd (omega (arith, lt, enough))
      cases (suc most) enough parts rest =
          let right = right_steps (ahead s 0) in
          let lt = expressing-fewer in
          record {
            done = e.done ++ right ∷ [];
            puts = subst (λ steps. AddsNode steps n old w) (nested-push (operand_steps (ahead old 0)) right e.done) puts;
            records = subst (λ steps. RecordsSteps steps old w)
                (flat_map_more part_in_order (operand_steps (ahead old 0)) e.done right)
                (RecordsSteps-then e.records records);
            most = most;
            enough = omega (arith, lt, enough);
            parts = parts
                ∙ (ap (λ zs. e.done ++ zs) (parts-next (ahead s 0) most is ∙ ap (λ zs. right ∷ rights most zs) (sym there))
                ∙ sym (append_assoc e.done (right ∷ []) (rights most (ahead w 0))));
            rest = rest ∙ (rest-next (ahead s 0) most is ∙ ap (rest_of most) (sym there));
          }

-- ---- the end

module _ {old now : State} {left : Node} (is : is_operator_kind (kind_in (ahead now 0) 0) ≡ false) (e : Expressing old now left) where
  pub expressing-all : Adds (expression_steps (ahead old 0)) old now
  expressing-all =
      subst (λ parts. Adds (nested (operand_steps (ahead old 0)) parts) old now)
      (sym (e.parts ∙ (ap (λ zs. e.done ++ zs) (parts-end (ahead now 0) e.most is) ∙ append-nil e.done))) (Adds-node e.puts)

  pub expressing-records : RecordsSteps (expression_in_order (ahead old 0)) old now
  expressing-records =
      subst (λ parts. RecordsSteps (in_order (operand_steps (ahead old 0)) parts) old now)
      (sym (e.parts ∙ (ap (λ zs. e.done ++ zs) (parts-end (ahead now 0) e.most is) ∙ append-nil e.done))) e.records

  pub expressing-rest : ahead now 0 ≡ behind_expression (ahead old 0)
  expressing-rest = sym (e.rest ∙ rest-end (ahead now 0) e.most is)

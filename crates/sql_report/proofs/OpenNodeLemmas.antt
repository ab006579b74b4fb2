-- The statements that are left, step by step.
use Rattle.std.proofs.Common.{◌≡◌, ◌∙◌, ◌≢◌, ℕ, suc, ◌+◌, ◌-◌, ◌==◌, false, Option, None, Some, option_map, List, [], ◌∷◌, ◌++◌, length, if◌then◌else◌, add_assoc, add-one, ap, arith, encode_utf8_all, length-append, refl, sym}
use Rattle.std.proofs.lemmas.Bool.{ne_eqb}
use Rattle.squawk_table.specs.declared.shortcuts.str_step.OwnedStep.{OwnedStep}
use Rattle.squawk_table.specs.declared.shortcuts.str_step.OwnedStep.TheVariants.{Token, Enter, Exit, Error}
use Rattle.sql_report.specs.OpenNodes.{closed, front_nodes, statements_left}
use Rattle.sql_report.specs.Statements.{bytes_until_left, ending, statements_from}
use Rattle.sql_report.specs.declared.statement_list.OpenNode.{OpenNode}
use Rattle.sql_report.specs.declared.statement_list.Statement.{Statement}

pub front_nodes_last : (nodes : List OpenNode) (last : OpenNode) → front_nodes (nodes ++ last ∷ []) ≡ nodes
front_nodes_last [] last = refl
front_nodes_last (node ∷ []) last = refl
front_nodes_last (node ∷ inner ∷ nodes) last = ap (λ l. node ∷ l) (front_nodes_last (inner ∷ nodes) last)

-- what is closed isn't a statement but where two nodes are open
pub closed_more : (nodes : List OpenNode) (last : OpenNode) (at : ℕ) → length nodes ≢ 1 → closed (nodes ++ last ∷ []) at ≡ []
closed_more [] last at more = refl
closed_more (node ∷ []) last at more = absurd (more refl)
closed_more (root ∷ node ∷ []) last at more = refl
closed_more (root ∷ node ∷ inner ∷ nodes) last at more = refl

pub closed_statement : (nodes : List OpenNode) (last : OpenNode) (at : ℕ) → length nodes ≡ 1
    → closed (nodes ++ last ∷ []) at ≡ record { kind = last.kind; start = last.start; end = at } ∷ []
closed_statement [] last at one = absurd (omega arith)
closed_statement (node ∷ []) last at one = refl
closed_statement (root ∷ node ∷ nodes) last at one = absurd (omega arith)

length-front : (node : OpenNode) (nodes : List OpenNode) → length (front_nodes (node ∷ nodes)) ≡ length nodes
length-front node [] = refl
length-front node (inner ∷ nodes) = ap suc (length-front inner nodes)

same_place : (at : ℕ) → at ≡ at + 0
same_place at = omega arith

-- an open node as a statement, if it ends
abbrev ended : OpenNode → ℕ → Option ℕ → List Statement
ended node at bytes = ending node.kind node.start at bytes

ended-more : (node : OpenNode) (at more : ℕ) (bytes : Option ℕ) → ended node (at + more) bytes ≡ ended node at (option_map (λ n. more + n) bytes)
ended-more node at more None = refl
ended-more node at more (Some n) = ap (λ end. record { kind = node.kind; start = node.start; end = end } ∷ []) (add_assoc at more n)

-- a token
pub left_token : (nodes : List OpenNode) (at kind : ℕ) (text : List ℕ) (steps : List OwnedStep)
    → statements_left nodes (at + length (encode_utf8_all text)) steps ≡ statements_left nodes at (Token kind text ∷ steps)
left_token [] at kind text steps = refl
left_token (root ∷ []) at kind text steps = refl
left_token (root ∷ node ∷ inner) at kind text steps =
    ap (λ first. first ++ statements_from (length (root ∷ node ∷ inner)) (at + length (encode_utf8_all text)) steps)
    (ended-more node at (length (encode_utf8_all text)) (bytes_until_left steps (length inner)))

-- an error
pub left_error : (nodes : List OpenNode) (at pos : ℕ) (text : List ℕ) (steps : List OwnedStep)
    → statements_left nodes at steps ≡ statements_left nodes at (Error text pos ∷ steps)
left_error [] at pos text steps = ap (λ n. statements_from 0 n steps) (same_place at)
left_error (root ∷ []) at pos text steps = ap (λ n. statements_from 1 n steps) (same_place at)
left_error (root ∷ node ∷ inner) at pos text steps =
    ap (λ n. ended node at (bytes_until_left steps (length inner)) ++ statements_from (length (root ∷ node ∷ inner)) n steps) (same_place at)

-- a beginning
pub left_enter : (nodes : List OpenNode) (at kind : ℕ) (steps : List OwnedStep)
    → statements_left (nodes ++ record { kind = kind; start = at } ∷ []) at steps ≡ statements_left nodes at (Enter kind ∷ steps)
left_enter [] at kind steps = ap (λ n. statements_from 1 n steps) (same_place at)
left_enter (root ∷ []) at kind steps = ap (λ n. ending kind at at (bytes_until_left steps 0) ++ statements_from 2 n steps) (same_place at)
left_enter (root ∷ node ∷ inner) at kind steps =
    let new : OpenNode = record { kind = kind; start = at } in
    let longer : length (inner ++ new ∷ []) ≡ suc (length inner) = length-append inner (new ∷ []) ∙ add-one (length inner) in
    let inside : (suc (suc (length inner)) == 1) ≡ false = ne_eqb (suc (suc (length inner))) 1 (λ e. omega arith) in
    let first = ended node at (bytes_until_left steps (suc (length inner))) in
    ap (λ n. ended node at (bytes_until_left steps n) ++ statements_from (suc (suc n)) at steps) longer
    ∙ (ap (λ n. first ++ statements_from (suc (suc (suc (length inner)))) n steps) (same_place at)
    ∙ ap (λ v. first ++ ((if v then ending kind at at (bytes_until_left steps 0) else []) ++ statements_from (suc (suc (suc (length inner)))) (at + 0) steps)) (sym inside))

-- a closing
pub left_exit : (nodes : List OpenNode) (at : ℕ) (steps : List OwnedStep)
    → closed nodes at ++ statements_left (front_nodes nodes) at steps ≡ statements_left nodes at (Exit ∷ steps)
left_exit [] at steps = ap (λ n. statements_from 0 n steps) (same_place at)
left_exit (root ∷ []) at steps = ap (λ n. statements_from 0 n steps) (same_place at)
left_exit (root ∷ node ∷ []) at steps =
    ap (λ n. record { kind = node.kind; start = node.start; end = n } ∷ statements_from 1 n steps) (same_place at)
left_exit (root ∷ node ∷ inner ∷ nodes) at steps =
    let one_less : suc (suc (length nodes)) ≡ suc (suc (suc (length nodes))) - 1 = omega arith in
    let first = ended node at (bytes_until_left steps (length nodes)) in
    ap (λ n. ended node at (bytes_until_left steps n) ++ statements_from (suc (suc n)) at steps) (length-front inner nodes)
    ∙ (ap (λ n. first ++ statements_from n at steps) one_less
    ∙ ap (λ n. first ++ statements_from (suc (suc (suc (length nodes))) - 1) n steps) (same_place at))

-- How the nodes of statements are sent.
use Rattle.std.proofs.Common.{◌≡◌, ◌∙◌, ℕ, zero, suc, ◌+◌, ◌-◌, ◌<◌, ◌==◌, ◌&&◌, nat_lt, inl, inr, Bool, true, false, List, [], ◌∷◌, ◌++◌, length, if◌then◌else◌, append_assoc, arith, ap, sym, subst, refl}
use Rattle.std.specs.Prelude.{not, drop, Some, None}
use Rattle.std.specs.Borrow.{Bor}
use Rattle.std.proofs.lemmas.Bool.{and_parts, false≢true}
use Rattle.squawk_output.specs.OneRoot.{IsBalanced}
use Rattle.squawk_output.specs.Steps.{Step, Token, Enter, Exit, Error}
use Rattle.squawk_parser.specs.Eaten.{node}
use Rattle.squawk_parser.proofs.Balance as balance
use Rattle.squawk_table.specs.ParserInput.{Entry}
use Rattle.squawk_table.specs.Sent.{errors_moved, leading_errors}
use Rattle.rule_grammar.specs.declared.rules.RuleGrammar.{RuleGrammar}
use Rattle.sql_grammar.specs.Files.{AreNodesOf, EndWithToken, left_to, rules_for}
use Rattle.sql_grammar.specs.Kinds.{PSQL_COMMAND}
use Rattle.sql_grammar.specs.Statements.{Statement}
use Rattle.sql_grammar.specs.declared.Detail.{Detail}
use Rattle.sql_grammar.specs.declared.Detail.TheVariants.{Nodes}
use Rattle.sql_grammar.proofs.parts.Files.{Each}
use Rattle.sql_grammar.proofs.parts.Sending.{AreBeforeTokens, before_token, depth-append, depth-moved, depth_after, moved-append}
use Rattle.sql_grammar.proofs.parts.Sending.AreBeforeTokens.{none, more}
use Rattle.sql_grammar.proofs.parts.Sending.HasToken.{here}
use Rattle.sql_grammar.proofs.parts.Statements.{IsClosedStatement}

-- ---- balance

same_depth : (d e : ℕ) (xs : List Step) → balance.depth_after d xs ≡ Some e → depth_after d xs ≡ e
same_depth d e [] h = cc
same_depth d e (Token kind n ∷ xs) h = same_depth d e xs h
same_depth d e (Enter kind ∷ xs) h = let next : d + 1 ≡ suc d = omega arith in ap (λ n. depth_after n xs) next ∙ same_depth (suc d) e xs h
same_depth zero e (Exit ∷ xs) h = absurd (cc)
same_depth (suc d) e (Exit ∷ xs) h = let next : suc d - 1 ≡ d = omega arith in ap (λ n. depth_after n xs) next ∙ same_depth d e xs h
same_depth d e (Error text ∷ xs) h = same_depth d e xs h

deeper : (d : ℕ) (xs : List Step) → balance.depth_after 0 xs ≡ Some 0 → balance.depth_after d xs ≡ Some d
deeper zero xs h = h
deeper (suc d) xs h = balance.depth_after-suc d d xs (deeper d xs h)

pub balanced_depth : (d : ℕ) (xs : List Step) → IsBalanced xs → depth_after d xs ≡ d
balanced_depth d xs balanced = same_depth d d xs (deeper d xs (balance.depth_after-balanced xs balanced))

pub balanced-append : (xs ys : List Step) → IsBalanced xs → IsBalanced ys → IsBalanced (xs ++ ys)
balanced-append xs ys first second =
    balance.IsBalanced-depth_after (xs ++ ys)
    (balance.depth_after-append 0 0 xs ys (balance.depth_after-balanced xs first) ∙ balance.depth_after-balanced ys second)

balanced-node : (kind : ℕ) (inner : List Step) → IsBalanced inner → IsBalanced (node kind inner)
balanced-node kind inner balanced =
    balance.IsBalanced-depth_after (node kind inner)
    (balance.depth_after-append 1 1 inner (Exit ∷ []) (deeper 1 inner (balance.depth_after-balanced inner balanced)))

-- ---- the nodes of statements

pub record AreNodes (steps : List Step) : Type 0 where
  pub balanced : IsBalanced steps
  pub clean : leading_errors steps ≡ []

pub are_nodes : (detail : Detail) (input : List Entry) (from : ℕ) (statements : List Statement) (steps : List Step) → AreNodesOf detail input from statements steps → AreNodes steps
are_nodes detail input from [] steps are =
    subst AreNodes (sym are) (record { balanced = balance.IsBalanced-depth_after [] refl; clean = refl })
are_nodes detail input from (s ∷ statements) steps are =
    let others = are_nodes detail input (from + s.len) statements are.others are.rest in
    subst AreNodes (sym are.is) (record {
      balanced = balanced-append (node are.kind are.inner) are.others (balanced-node are.kind are.inner are.balanced) others.balanced;
      clean = refl;
    })

-- rules are left less than a closed statement has
less_left : (rules : Bor RuleGrammar) (s : Statement) → IsClosedStatement s → left_to (rules_for (Nodes rules) s.kind s.content) s.content < s.len
less_left rules s closed = cases (nat_lt 0 s.content && not (s.kind == PSQL_COMMAND)) refl
  where
    cases : (b : Bool) → (nat_lt 0 s.content && not (s.kind == PSQL_COMMAND)) ≡ b → left_to (if b then Some rules else None) s.content < s.len
    cases false e = closed.some
    cases true e = elim closed.sign [
      | inl lt ↦ lt
      | inr psql ↦ absurd (false≢true (sym (ap (λ k. not (k == PSQL_COMMAND)) psql) ∙ (and_parts (nat_lt 0 s.content) (not (s.kind == PSQL_COMMAND)) e).1))
    ]

-- a node whose last step is a token, and nodes after it
node_before : (kind : ℕ) (inner others : List Step) → IsBalanced inner → EndWithToken inner → leading_errors others ≡ [] → AreBeforeTokens 1 (errors_moved others)
    → AreBeforeTokens 1 (errors_moved (node kind inner ++ others))
node_before kind inner others balanced (front, token, is) clean are =
    let rest = Token token 1 ∷ Exit ∷ others in
    let split : node kind inner ++ others ≡ (Enter kind ∷ front) ++ rest =
    ap (λ xs. (Enter kind ∷ xs ++ Exit ∷ []) ++ others) is
    ∙ ap (λ xs. Enter kind ∷ xs) (append_assoc (front ++ Token token 1 ∷ []) (Exit ∷ []) others ∙ append_assoc front (Token token 1 ∷ []) (Exit ∷ others)) in
    let moved : errors_moved (node kind inner ++ others) ≡ (Enter kind ∷ errors_moved front) ++ errors_moved rest = ap errors_moved split ∙ moved-append (Enter kind ∷ front) rest refl in
    let last : errors_moved rest ≡ Token token 1 ∷ Exit ∷ errors_moved others =
    ap (λ es. Token token 1 ∷ es ++ Exit ∷ drop (length es) (errors_moved others)) clean in
    let depth : depth_after 1 (Enter kind ∷ errors_moved front) ≡ 2 =
    depth-moved 2 front ∙ (sym (depth-append 2 front (Token token 1 ∷ [])) ∙ (ap (depth_after 2) (sym is) ∙ balanced_depth 2 inner balanced)) in
    let after : AreBeforeTokens 2 (Token token 1 ∷ Exit ∷ errors_moved others) = more (λ e. here) (more (λ e. absurd (false≢true e)) are) in
    subst (AreBeforeTokens 1) (sym (moved ∙ ap (λ xs. (Enter kind ∷ errors_moved front) ++ xs) last))
    (before_token 1 (Enter kind ∷ errors_moved front) (Token token 1 ∷ Exit ∷ errors_moved others) here (subst (λ d. AreBeforeTokens d (Token token 1 ∷ Exit ∷ errors_moved others)) (sym depth) after))

pub nodes_before : (rules : Bor RuleGrammar) (input : List Entry) (from : ℕ) (statements : List Statement) (steps : List Step) → Each statements
    → AreNodesOf (Nodes rules) input from statements steps → AreBeforeTokens 1 (errors_moved steps)
nodes_before rules input from [] steps each are = subst (λ xs. AreBeforeTokens 1 (errors_moved xs)) (sym are) none
nodes_before rules input from (s ∷ statements) steps (closed, each) are =
    let others = nodes_before rules input (from + s.len) statements are.others each are.rest in
    let clean = (are_nodes (Nodes rules) input (from + s.len) statements are.others are.rest).clean in
    subst (λ xs. AreBeforeTokens 1 (errors_moved xs)) (sym are.is) (node_before are.kind are.inner are.others are.balanced (are.last (less_left rules s closed)) clean others)

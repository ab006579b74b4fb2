-- The nodes of the statements of two texts are those of the statements of both.
use Rattle.std.proofs.Common.{◌≡◌, ◌∙◌, ℕ, zero, suc, ◌+◌, ◌<◌, ◌≤◌, ◌==◌, ◌&&◌, nat_lt, inl, inr, Bool, true, false, List, [], ◌∷◌, ◌++◌, length, take, drop, if◌then◌else◌, append_assoc, arith, ap, sym, subst, refl, length-drop}
use Rattle.std.specs.Prelude.{not, sum_by, Some, None}
use Rattle.std.specs.Borrow.{Bor}
use Rattle.std.proofs.lemmas.Bool.{and_parts, false≢true}
use Rattle.std.proofs.lemmas.List.{drop-take}
use Rattle.std.proofs.lemmas.List.Sums.{sum_by-cons}
use Rattle.squawk_kinds.specs.Keywords.{Keywords}
use Rattle.squawk_output.specs.Steps.{Step, errors_in}
use Rattle.squawk_parser.specs.Eaten.{node}
use Rattle.squawk_table.specs.RawTable.{RawToken}
use Rattle.squawk_table.specs.ParserInput.{Entry, entries_of}
use Rattle.rule_grammar.specs.Derivations.{is_hidden}
use Rattle.rule_grammar.specs.declared.rules.RuleGrammar.{RuleGrammar}
use Rattle.sql_grammar.specs.Files.{AreNodesOf, IsParsed, RulesDerive, left_to, rules_for}
use Rattle.sql_grammar.specs.Kinds.{PSQL_COMMAND, sql_words}
use Rattle.sql_grammar.specs.Parts.{AreSame}
use Rattle.sql_grammar.specs.Statements.{Statement, first_statement, len_of, statements_of}
use Rattle.sql_grammar.specs.declared.Detail.TheVariants.{Nodes}
use Rattle.sql_grammar.proofs.AddedStatements.{statements-first}
use Rattle.sql_grammar.proofs.parts.Entries.{count, drop_front, take_front, whole}
use Rattle.sql_grammar.proofs.parts.Statements.{AreClosed, IsClosedStatement, is_closed, stands_first, statements_both}
use Rattle.sql_grammar.proofs.parts.Views.{derive_moved, hidden-front, hidden-later}

-- ---- closed statements

abbrev pub Each : List Statement → Type 0
Each [] = Unit {0}
Each (statement ∷ statements) = IsClosedStatement statement × Each statements

-- how many tokens they have
abbrev pub tokens_in : List Statement → ℕ
tokens_in statements = sum_by (λ (s : Statement). s.len) statements

pub record AllClosed (kinds : List ℕ) : Type 0 where
  pub each : Each (statements_of kinds)
  pub all : tokens_in (statements_of kinds) ≡ length kinds

each-closed : (n : ℕ) (kinds : List ℕ) → length kinds ≤ n → AreClosed kinds → AllClosed kinds
each-closed n [] le closed = record { each = tt; all = refl }
each-closed zero (kind ∷ kinds) le closed = absurd (omega (arith, le))
each-closed (suc n) (kind ∷ kinds) le closed =
    let all = kind ∷ kinds in
    let first = stands_first _ kind kinds [] closed.no_trivia closed.ends in
    let rest = drop (len_of all) all in
    let others = each-closed n rest (omega (arith, le, first.some, length-drop (len_of all) all)) (record { no_trivia = first.no_trivia; ends = first.rest }) in
    let is = statements-first kind kinds in
    record {
      each = subst Each (sym is) (is_closed kind kinds closed, others.each);
      all =
          omega (
            arith,
            ap tokens_in is,
            sum_by-cons (λ (s : Statement). s.len) (first_statement all) (statements_of rest),
            others.all,
            length-drop (len_of all) all,
            first.within,
          );
    }

pub all_closed : (kinds : List ℕ) → AreClosed kinds → AllClosed kinds
all_closed kinds closed = each-closed (length kinds) kinds (omega arith) closed

-- as much is left to other rules
left-same : (r s : Bor RuleGrammar) (kind n : ℕ) → left_to (rules_for (Nodes r) kind n) n ≡ left_to (rules_for (Nodes s) kind n) n
left-same r s kind n = cases (nat_lt 0 n && not (kind == PSQL_COMMAND))
  where
    cases : (b : Bool) → left_to (if b then Some r else None) n ≡ left_to (if b then Some s else None) n
    cases true = refl
    cases false = refl

-- ---- both

module _ (contextual : Keywords) (front later : List RawToken) (r1 r2 r : Bor RuleGrammar) (same1 : AreSame r1.now r.now) (same2 : AreSame r2.now r.now)
    (hidden : r.now.table.hidden.tokens.now ≡ r1.now.table.hidden.tokens.now ++ r2.now.table.hidden.tokens.now)
    (all_told : length r1.now.table.hidden.tokens.now ≡ count contextual front later) where
  abbrev e1 : List Entry
  e1 = entries_of contextual front

  abbrev e2 : List Entry
  e2 = entries_of contextual later

  abbrev e : List Entry
  e = whole contextual front later

  derive_first : (from to : ℕ) → to < length e1 → RulesDerive sql_words e1 from to r1 → RulesDerive sql_words e from to r
  derive_first from to lt derives =
      let begin : 0 + from ≡ from = omega arith in
      let end : 0 + to ≡ to = omega arith in
      let moves = derive_moved r1 r sql_words e1 e from to 0 same1 (record {
        tokens = ap (λ n. take n e) end ∙ take_front contextual front later to lt;
        hidden = λ i le.
            let place : 0 + i ≡ i = omega arith in
            ap (λ n. is_hidden r.now.table.hidden.tokens.now n) place
            ∙ (ap (λ bs. is_hidden bs i) hidden
            ∙ hidden-front r1.now.table.hidden.tokens.now r2.now.table.hidden.tokens.now i (omega (arith, le, lt, all_told)));
      }) derives in
      subst (λ n. RulesDerive sql_words e from n r) end (subst (λ n. RulesDerive sql_words e n (0 + to) r) begin moves)

  derive_second : (from to : ℕ) → RulesDerive sql_words e2 from to r2 → RulesDerive sql_words e (length e1 + from) (length e1 + to) r
  derive_second from to derives =
      let m = length e1 in
      let begin : m + 0 ≡ m = omega arith in
      let rest : drop m e ≡ e2 = sym (ap (λ n. drop n e) begin) ∙ drop_front contextual front later 0 in
      derive_moved r2 r sql_words e2 e from to m same2 (record {
        tokens = drop-take m to e ∙ ap (take to) rest;
        hidden = λ i le.
            ap (λ n. is_hidden r.now.table.hidden.tokens.now (n + i)) (sym all_told)
            ∙ (ap (λ bs. is_hidden bs (length r1.now.table.hidden.tokens.now + i)) hidden
            ∙ hidden-later r1.now.table.hidden.tokens.now r2.now.table.hidden.tokens.now i);
      }) derives

  parsed_first : (s : Statement) (from kind errors : ℕ) → IsClosedStatement s → from + s.len ≤ length e1
      → IsParsed (rules_for (Nodes r1) s.kind s.content) (RulesDerive sql_words e1 from (from + s.content)) s.kind kind errors
      → IsParsed (rules_for (Nodes r) s.kind s.content) (RulesDerive sql_words e from (from + s.content)) s.kind kind errors
  parsed_first s from kind errors closed le parsed = cases (nat_lt 0 s.content && not (s.kind == PSQL_COMMAND)) refl parsed
    where
      limit : (nat_lt 0 s.content && not (s.kind == PSQL_COMMAND)) ≡ true → from + s.content < length e1
      limit ruled = elim closed.sign [
        | inl lt ↦ omega (arith, lt, le)
        | inr psql ↦
            let no = (and_parts (nat_lt 0 s.content) (not (s.kind == PSQL_COMMAND)) ruled).1 in
            absurd (false≢true (sym (ap (λ k. not (k == PSQL_COMMAND)) psql) ∙ no))
      ]

      cases : (b : Bool) → (nat_lt 0 s.content && not (s.kind == PSQL_COMMAND)) ≡ b
          → IsParsed (if b then Some r1 else None) (RulesDerive sql_words e1 from (from + s.content)) s.kind kind errors
          → IsParsed (if b then Some r else None) (RulesDerive sql_words e from (from + s.content)) s.kind kind errors
      cases false is parsed = parsed
      cases true is parsed = λ none. derive_first from (from + s.content) (limit is) (parsed none)

  parsed_second : (s : Statement) (from kind errors : ℕ)
      → IsParsed (rules_for (Nodes r2) s.kind s.content) (RulesDerive sql_words e2 from (from + s.content)) s.kind kind errors
      → IsParsed (rules_for (Nodes r) s.kind s.content) (RulesDerive sql_words e (length e1 + from) (length e1 + from + s.content)) s.kind kind errors
  parsed_second s from kind errors parsed = cases (nat_lt 0 s.content && not (s.kind == PSQL_COMMAND)) parsed
    where
      cases : (b : Bool) → IsParsed (if b then Some r2 else None) (RulesDerive sql_words e2 from (from + s.content)) s.kind kind errors
          → IsParsed (if b then Some r else None) (RulesDerive sql_words e (length e1 + from) (length e1 + from + s.content)) s.kind kind errors
      cases false parsed = parsed
      cases true parsed = λ none.
          let end : length e1 + (from + s.content) ≡ length e1 + from + s.content = omega arith in
          subst (λ n. RulesDerive sql_words e (length e1 + from) n r) end (derive_second from (from + s.content) (parsed none))

  nodes_second : (statements : List Statement) (from : ℕ) (steps : List Step) → AreNodesOf (Nodes r2) e2 from statements steps → AreNodesOf (Nodes r) e (length e1 + from) statements steps
  nodes_second [] from steps are = are
  nodes_second (s ∷ statements) from steps are =
      let next : length e1 + (from + s.len) ≡ length e1 + from + s.len = omega arith in
      record {
        kind = are.kind;
        inner = are.inner;
        others = are.others;
        is = are.is;
        balanced = are.balanced;
        len = are.len;
        parsed = parsed_second s from are.kind (errors_in are.inner) are.parsed;
        last = λ lt. are.last (omega (arith, lt, left-same r2 r s.kind s.content));
        rest = subst (λ n. AreNodesOf (Nodes r) e n statements are.others) next (nodes_second statements (from + s.len) are.others are.rest);
      }

  nodes_first : (statements : List Statement) (from : ℕ) (xs ys : List Step) (others : List Statement) → Each statements → from + tokens_in statements ≡ length e1
      → AreNodesOf (Nodes r1) e1 from statements xs → AreNodesOf (Nodes r2) e2 0 others ys → AreNodesOf (Nodes r) e from (statements ++ others) (xs ++ ys)
  nodes_first [] from xs ys others each all none are =
      let here : length e1 + 0 ≡ from = omega (arith, all) in
      subst (λ xs. AreNodesOf (Nodes r) e from others (xs ++ ys)) (sym none) (subst (λ n. AreNodesOf (Nodes r) e n others ys) here (nodes_second others 0 ys are))
  nodes_first (s ∷ statements) from xs ys others each all is are =
      let sum = sum_by-cons (λ (s : Statement). s.len) s statements in
      record {
        kind = is.kind;
        inner = is.inner;
        others = is.others ++ ys;
        is = ap (λ steps. steps ++ ys) is.is ∙ append_assoc (node is.kind is.inner) is.others ys;
        balanced = is.balanced;
        len = is.len;
        parsed = parsed_first s from is.kind (errors_in is.inner) each.0 (omega (arith, all, sum)) is.parsed;
        last = λ lt. is.last (omega (arith, lt, left-same r1 r s.kind s.content));
        rest = nodes_first statements (from + s.len) is.others ys others each.1 (omega (arith, all, sum)) is.rest are;
      }

  -- the nodes of both, where the kinds of the first end with a statement
  pub nodes_both : (kinds others : List ℕ) (xs ys : List Step) → AreClosed kinds → length kinds ≡ length e1
      → AreNodesOf (Nodes r1) e1 0 (statements_of kinds) xs → AreNodesOf (Nodes r2) e2 0 (statements_of others) ys → AreNodesOf (Nodes r) e 0 (statements_of (kinds ++ others)) (xs ++ ys)
  nodes_both kinds others xs ys closed count first second =
      let closes = all_closed kinds closed in
      subst (λ statements. AreNodesOf (Nodes r) e 0 statements (xs ++ ys)) (sym (statements_both kinds others closed))
      (nodes_first (statements_of kinds) 0 xs ys (statements_of others) closes.each (omega (arith, closes.all, count)) first second)

-- The nodes of a file's statements are added, one behind another.
use Rattle.std.proofs.Common.{Bor, ◌≡◌, ◌≢◌, ◌∙◌, ℕ, zero, suc, ◌+◌, ◌-◌, ◌<◌, ◌≤◌, ◌==◌, ◌&&◌, nat_lt, not, min, Bool, true, false, Option, Some, None, List, [], ◌∷◌, ◌++◌, drop, get_or, take, length, if◌then◌else◌, arith, ap, sym, refl, subst, append_assoc, length-drop}
use Rattle.std.proofs.lemmas.Bool.{ne_eqb}
use Rattle.std.proofs.lemmas.List.{length-map, length-take, same_from_push, take_all, take_more}
use Rattle.squawk_kinds.specs.Kinds.{EOF, TOMBSTONE}
use Rattle.sql_lexer.specs.Statements.{after, ends_with}
use Rattle.sql_lexer.specs.declared.statements.Statement as begun
use Rattle.sql_lexer.specs.declared.statements.Statement.TheVariants.{Start}
use Rattle.squawk_output.specs.Draft.{errors_of, plain}
use Rattle.squawk_output.specs.OneRoot.{IsBalanced}
use Rattle.squawk_output.specs.Steps.{Step, Exit, Token, eaten, errors_in}
use Rattle.squawk_output.proofs.EditedErrors.{errors-append}
use Rattle.squawk_output.proofs.PlainLog.{errors-plain}
use Rattle.squawk_table.specs.ParserInput.{Entry, kind_in, kinds_in}
use Rattle.squawk_parser.specs.Composed.{Adds}
use Rattle.squawk_parser.specs.Eaten.{current_as, one}
use Rattle.squawk_parser.specs.Recorded.{Puts}
use Rattle.squawk_parser.specs.SomeSteps.{AddsSome, Spends}
use Rattle.squawk_parser.specs.State.{State, HasNotFailed, IsSound, Keeps, ahead, kind_at, limited, with_limit_of}
use Rattle.squawk_parser.specs.declared.parser.parse_error.ParseError.{ParseError}
use Rattle.squawk_parser.proofs.AddedSteps.{Adds-puts}
use Rattle.squawk_parser.proofs.Balance.{IsBalanced-depth_after, depth_after, depth_after-append, depth_after-balanced}
use Rattle.squawk_parser.proofs.KindsAhead.{kinds_none}
use Rattle.squawk_parser.proofs.RecordedItems.{plain-append}
use Rattle.squawk_parser.proofs.RecordedSteps.{went}
use Rattle.squawk_parser.proofs.SeenSteps.{if-false, if-true}
use Rattle.squawk_parser.proofs.SomeSteps.{adds_some, none_some, some_adds}
use Rattle.sql_grammar.specs.Files.{AddsRest, EndWithToken, IsParsed, IsRuled, RulesDerive, Runs, left_to, rules_for}
use Rattle.sql_grammar.specs.declared.Detail.{Detail}
use Rattle.sql_grammar.specs.declared.Detail.TheVariants.{Tokens, Nodes}
use Rattle.rule_grammar.specs.Derivations.{Derives, text_of}
use Rattle.rule_grammar.specs.Derivations.Span.{block}
use Rattle.rule_grammar.specs.declared.rules.RuleGrammar.{RuleGrammar}
use Rattle.sql_grammar.specs.Kinds.{PSQL_COMMAND}
use Rattle.sql_grammar.specs.Statements.{first_statement, len_from, statements_behind, statements_of}
use Rattle.sql_grammar.specs.Words.{word_of}

-- ---- how many tokens are seen

pub seen_len : (s : State) → IsSound s → length (kinds_in (ahead s 0)) ≡ s.limit - s.position
seen_len s sound =
    let map = length-map (ahead s 0) (λ e. e.kind) in
    let drop = length-drop (s.position + 0) (take s.limit s.input) in
    let take = length-take s.limit s.input in
    let within = sound.limit in
    omega (arith, map, drop, take, within)

-- a parser that sees the end stands at its limit
at_limit : (s : State) → IsSound s → kind_at s 0 ≡ EOF → s.position ≡ s.limit
at_limit s sound end =
    let none = ap length (kinds_none s sound end) in
    let seen = seen_len s sound in
    let position = sound.position in
    omega (arith, none, seen, position)

-- ---- how many tokens a statement has

pub len_from-within : (statement : begun.Statement) (kinds : List ℕ) → len_from statement kinds ≤ length kinds
len_from-within statement [] = omega arith
len_from-within statement (kind ∷ kinds) = cases (ends_with statement (word_of kind)) (len_from-within (after statement (word_of kind)) kinds)
  where
    cases : (b : Bool) {n : ℕ} → n ≤ length kinds → (if b then 1 else 1 + n) ≤ length (kind ∷ kinds)
    cases true le = omega arith
    cases false le = omega arith

pub len_from-some : (statement : begun.Statement) (kind : ℕ) (kinds : List ℕ) → 0 < len_from statement (kind ∷ kinds)
len_from-some statement kind kinds = cases (ends_with statement (word_of kind)) (len_from (after statement (word_of kind)) kinds)
  where
    cases : (b : Bool) (n : ℕ) → 0 < (if b then 1 else 1 + n)
    cases true n = omega arith
    cases false n = omega arith

-- ---- the statements behind the first

statements-drop : (n : ℕ) (kinds : List ℕ) → statements_behind n kinds ≡ statements_of (drop n kinds)
statements-drop zero kinds = refl
statements-drop (suc n) [] = refl
statements-drop (suc n) (kind ∷ kinds) = statements-drop n kinds

pub statements-first : (kind : ℕ) (kinds : List ℕ)
    → statements_of (kind ∷ kinds) ≡ first_statement (kind ∷ kinds) ∷ statements_of (drop (first_statement (kind ∷ kinds)).len (kind ∷ kinds))
statements-first kind kinds = ap (λ ss. first_statement (kind ∷ kinds) ∷ ss) (others (first_statement (kind ∷ kinds)).len (len_from-some Start kind kinds))
  where
    others : (len : ℕ) → 0 < len → statements_behind (len - 1) kinds ≡ statements_of (drop len (kind ∷ kinds))
    others zero lt = absurd (omega arith)
    others (suc n) lt = let same : suc n - 1 ≡ n = omega arith in ap (λ k. statements_behind k kinds) same ∙ statements-drop n kinds

-- ---- a statement

record AddsBalanced (old new : State) : Type 0 where
  pub steps : List Step
  pub adds : Adds steps old new
  pub balanced : IsBalanced steps

-- some steps that are added are balanced
some_balanced : {a b : State} → IsSound a → AddsSome a b → AddsBalanced a b
some_balanced {a} {b} sound p = cases b.first_reason refl
  where
    cases : (f : Option ParseError) → b.first_reason ≡ f → AddsBalanced a b
    cases None goes =
        let added = some_adds sound p in
        let all = ap plain (added.1.draft goes).items
        ∙ (plain-append a.draft.items (added.1.draft goes).made ∙ ap (λ steps. plain a.draft.items ++ steps) (added.1.draft goes).steps_made) in
        let before = depth_after-balanced (plain a.draft.items) sound.balanced in
        let after = depth_after-balanced (plain b.draft.items) p.some.keeps.sound.balanced in
        let inside = sym (depth_after-append 0 0 (plain a.draft.items) added.0 before) ∙ (ap (depth_after 0) (sym all) ∙ after) in
        record { steps = added.0; adds = added.1; balanced = IsBalanced-depth_after added.0 inside }
    cases (Some reason) failed =
        let forward = p.some.keeps.forward in
        record {
          steps = Token 0 (b.position - a.position) ∷ [];
          adds = record { keeps = p.some.keeps; position = omega (arith, forward); draft = λ goes. absurd (let e = sym goes ∙ failed in cc) };
          balanced = IsBalanced-depth_after (Token 0 (b.position - a.position) ∷ []) refl;
        }

-- what is added has the errors of its steps
errors_added : {a b : State} {xs : List Step} → Adds xs a b → HasNotFailed b → errors_of b.draft.items ≡ errors_of a.draft.items + errors_in xs
errors_added {a} {b} {xs} added goes =
    let more = added.draft goes in
    let errors = errors-plain more.made ∙ ap errors_in more.steps_made in
    ap errors_of more.items ∙ (errors-append a.draft.items more.made ∙ ap (λ n. errors_of a.draft.items + n) errors)

-- how many errors were recorded between two states
abbrev pub told : State → State → ℕ
told a b = errors_of b.draft.items - errors_of a.draft.items

told_added : {a b : State} {xs : List Step} → Adds xs a b → HasNotFailed b → told a b ≡ errors_in xs
told_added {a} {b} {xs} added goes = let all = errors_added added goes in omega (arith, all)

-- what rules add is added
pub ruled : (rules : Bor RuleGrammar) {a b : State} {kind : ℕ} → IsSound a → AddsSome a b → kind ≢ TOMBSTONE → kind_at b 0 ≡ EOF
    → (HasNotFailed b → errors_of b.draft.items ≡ errors_of a.draft.items
    → Derives (text_of rules.now.table a) (block rules.now.start rules.now.end) a.position b.position) → IsRuled rules kind a b
ruled rules {a} {b} sound some is_node end derives =
    let added = some_balanced sound some in
    let at = at_limit b some.some.keeps.sound end ∙ some.some.keeps.limit in
    record {
      steps = added.steps;
      adds = added.adds;
      balanced = added.balanced;
      is_node = is_node;
      derives = λ goes none.
          let all = errors_added added.adds goes in
          subst (λ (to : ℕ). Derives (text_of rules.now.table a) (block rules.now.start rules.now.end) a.position to) at (derives goes (omega (arith, all, none)));
    }

-- ---- how many events

pub runs_as : (detail : Detail) (each more : ℕ) (a b : State) → (detail ≡ Tokens → Spends each more a b) → Runs detail each more a b
runs_as Tokens each more a b f = f refl
runs_as (Nodes rules) each more a b f = tt

pub spends_of : {detail : Detail} (each more : ℕ) (a b : State) → detail ≡ Tokens → Runs detail each more a b → Spends each more a b
spends_of each more a b is runs = subst (λ (d : Detail). Runs d each more a b) is runs

-- ---- whether rules are asked

module _ (detail : Detail) (kind n : ℕ) where
  pub asked : {rules : Bor RuleGrammar} → detail ≡ Nodes rules → (nat_lt 0 n && not (kind == PSQL_COMMAND)) ≡ true → rules_for detail kind n ≡ Some rules
  asked is holds = ap (λ (d : Detail). rules_for d kind n) is ∙ if-true _ _ _ holds

  pub unasked : {rules : Bor RuleGrammar} → detail ≡ Nodes rules → (nat_lt 0 n && not (kind == PSQL_COMMAND)) ≡ false → rules_for detail kind n ≡ None
  unasked is fails = ap (λ (d : Detail). rules_for d kind n) is ∙ if-false _ _ _ fails

  pub alone : detail ≡ Tokens → rules_for detail kind n ≡ None
  alone is = ap (λ (d : Detail). rules_for d kind n) is

-- ---- the tokens before the sign

-- they are added, and the node may have this kind
pub record Opened (detail : Detail) (of n kind : ℕ) (a b : State) : Type 0 where
  pub adds : AddsSome a b
  pub is_node : kind ≢ TOMBSTONE
  pub parsed : HasNotFailed b → IsParsed (rules_for detail of n) (RulesDerive a.words a.input a.position (min a.limit (a.position + n))) of kind (told a b)
  pub last : HasNotFailed b → a.position + left_to (rules_for detail of n) n < b.position → EndWithToken (plain b.draft.items)
  pub runs : Runs detail 1 0 a b

pub opened_none : (detail : Detail) {of n : ℕ} (a : State) → IsSound a → of ≢ TOMBSTONE → rules_for detail of n ≡ None → Opened detail of n of a a
opened_none detail {of} {n} a sound is_node without = record {
  adds = none_some a sound;
  is_node = is_node;
  parsed = λ goes. subst (λ (rules : Option (Bor RuleGrammar)). IsParsed rules (RulesDerive a.words a.input a.position (min a.limit (a.position + n))) of of (told a a))
      (sym without) (refl, omega arith);
  last = λ goes lt. absurd (omega (arith, lt, ap (λ (r : Option (Bor RuleGrammar)). left_to r n) without));
  runs = runs_as detail 1 0 a a (λ alone. omega arith);
}

pub opened_ruled : (detail : Detail) {rules : Bor RuleGrammar} {of kind : ℕ} {a b : State} (n : ℕ) → detail ≡ Nodes rules → rules_for detail of n ≡ Some rules → Keeps a b
    → IsRuled rules kind (limited a n) (with_limit_of b (limited a n)) → Opened detail of n kind a b
opened_ruled detail {rules} {of} {kind} {a} {b} n is asked keeps by =
    let adds : Adds by.steps a b = record { keeps = keeps; position = by.adds.position; draft = by.adds.draft } in
    record {
      adds = adds_some adds;
      is_node = by.is_node;
      parsed = λ goes. subst (λ (r : Option (Bor RuleGrammar)). IsParsed r (RulesDerive a.words a.input a.position (min a.limit (a.position + n))) of kind (told a b))
          (sym asked) (λ none. by.derives goes (sym (told_added adds goes) ∙ none));
      last = λ goes lt. absurd (omega (arith, lt, ap (λ (r : Option (Bor RuleGrammar)). left_to r n) asked, by.adds.keeps.sound.position, by.adds.keeps.limit));
      runs = subst (λ (d : Detail). Runs d 1 0 a b) (sym is) tt;
    }

pub opened_as : {detail : Detail} {of n kind other : ℕ} {a b c : State} → c ≡ b → other ≡ kind → Opened detail of n kind a b → Opened detail of n other a c
opened_as {detail} {of} {n} {kind} {a = a} {c = c} at is o = subst (λ (k : ℕ). Opened detail of n k a c) (sym is) (subst (λ (s : State). Opened detail of n kind a s) (sym at) o)

-- a token that is eaten is no error
pub bumped : {a b : State} (kind : ℕ) (seen : List Entry) → Puts (current_as kind seen) a b → HasNotFailed b → errors_of b.draft.items ≡ errors_of a.draft.items
bumped {a} {b} kind seen puts goes =
    let all = errors_added (Adds-puts puts) goes in
    let none = clean (kind_in seen 0 == EOF) in
    omega (arith, all, none)
  where
    clean : (end : Bool) → errors_in (if end then [] else one kind ∷ []) ≡ 0
    clean true = refl
    clean false = refl

-- a token that is eaten stands last
pub bumped_last : {a b : State} (kind : ℕ) (seen : List Entry) → kind_in seen 0 ≢ EOF → Puts (current_as kind seen) a b → HasNotFailed b → EndWithToken (plain b.draft.items)
bumped_last {a} {b} kind seen some puts goes =
    let one_more : current_as kind seen ≡ one kind ∷ [] = if-false _ _ _ (ne_eqb (kind_in seen 0) EOF some) in
    let added = (Adds-puts puts).draft goes in
    let all : plain b.draft.items ≡ plain a.draft.items ++ current_as kind seen =
    ap plain added.items ∙ (plain-append a.draft.items added.made ∙ ap (λ steps. plain a.draft.items ++ steps) added.steps_made) in
    (plain a.draft.items, kind, all ∙ ap (λ steps. plain a.draft.items ++ steps) one_more)

-- some steps at the end of others that end with a token
last_token : (before steps : List Step) → 0 < length steps → EndWithToken (before ++ steps) → EndWithToken steps
last_token before steps some (front, kind, is) =
    let i = length steps - 1 in
    let end : i + 1 ≡ length steps = omega (arith, some) in
    let last = get_or steps i Exit in
    let split : steps ≡ take i steps ++ last ∷ [] =
    sym (take_all (i + 1) steps (omega (arith, some))) ∙ take_more steps i Exit (omega (arith, some)) in
    let both : (before ++ take i steps) ++ last ∷ [] ≡ front ++ Token kind 1 ∷ [] =
    append_assoc before (take i steps) (last ∷ []) ∙ (ap (λ xs. before ++ xs) (sym split) ∙ is) in
    let same = same_from_push (before ++ take i steps) front last (Token kind 1) both in
    (take i steps, kind, split ∙ ap (λ s. take i steps ++ s ∷ []) same.1)

-- one token more is added, without an error
pub opened_next : {a b c : State} {detail : Detail} {of n kind : ℕ} → AddsSome a c → Runs detail 1 0 a c → (HasNotFailed c → HasNotFailed b)
    → (HasNotFailed c → errors_of c.draft.items ≡ errors_of b.draft.items) → (HasNotFailed c → EndWithToken (plain c.draft.items)) → Opened detail of n kind a b → Opened detail of n kind a c
opened_next {a} {b} {c} {detail} {of} {n} {kind} some runs went same last o = record {
  adds = some;
  is_node = o.is_node;
  parsed = λ goes. subst (λ (errors : ℕ). IsParsed (rules_for detail of n) (RulesDerive a.words a.input a.position (min a.limit (a.position + n))) of kind errors)
      (ap (λ errors. errors - errors_of a.draft.items) (sym (same goes))) (o.parsed (went goes));
  last = λ goes lt. last goes;
  runs = runs;
}

-- steps that eat are some
eats_some : (steps : List Step) → 0 < eaten steps → 0 < length steps
eats_some [] lt = absurd (omega (arith, lt))
eats_some (step ∷ steps) lt = omega arith

pub opened_rest : {a b : State} {detail : Detail} {of n kind : ℕ} → IsSound a → kind_at b 0 ≡ EOF → Opened detail of n kind a b → AddsRest detail of n kind a b
opened_rest {a} {b} {detail} {of} {n} {kind} sound end o =
    let added = some_balanced sound o.adds in
    record {
      steps = added.steps;
      adds = added.adds;
      balanced = added.balanced;
      end = at_limit b o.adds.some.keeps.sound end;
      is_node = o.is_node;
      parsed = λ goes. subst (λ (errors : ℕ). IsParsed (rules_for detail of n) (RulesDerive a.words a.input a.position (min a.limit (a.position + n))) of kind errors)
          (told_added added.adds goes) (o.parsed goes);
      last = λ goes lt.
          let made = added.adds.draft goes in
          let all : plain b.draft.items ≡ plain a.draft.items ++ added.steps =
          ap plain made.items ∙ (plain-append a.draft.items made.made ∙ ap (λ steps. plain a.draft.items ++ steps) made.steps_made) in
          last_token (plain a.draft.items) added.steps (eats_some added.steps (omega (arith, lt, added.adds.position))) (subst EndWithToken all (o.last goes lt));
      runs = o.runs;
    }

-- The nodes of statements, and of a file.
use Rattle.std.proofs.Common.{Bor, ◌≡◌, ◌≢◌, ◌∙◌, ℕ, zero, suc, ◌+◌, ◌<◌, ◌≤◌, Bool, true, false, Option, Some, None, List, [], ◌∷◌, ◌++◌, drop, length, if◌then◌else◌, arith, ap, sym, refl, subst, append_assoc}
use Rattle.std.proofs.lemmas.List.{append-nil}
use Rattle.squawk_kinds.specs.Kinds.{EOF}
use Rattle.sql_lexer.specs.Statements.{ends_with}
use Rattle.sql_lexer.specs.declared.statements.Statement.TheVariants.{Plain, Start}
use Rattle.squawk_output.specs.Draft.{Mark}
use Rattle.squawk_output.specs.Steps.{Step}
use Rattle.squawk_table.specs.ParserInput.{Entry, kinds_in}
use Rattle.squawk_parser.specs.Composed.{Adds}
use Rattle.squawk_parser.specs.Eaten.{node}
use Rattle.squawk_parser.specs.Recorded.{Begins, Completes}
use Rattle.squawk_parser.specs.SomeSteps.{AddsSome}
use Rattle.squawk_parser.specs.Words.{Words}
use Rattle.squawk_parser.specs.State.{State, HasNotFailed, IsFresh, IsSound, Keeps, ahead, kind_at, limited, with_limit_of}
use Rattle.squawk_parser.proofs.AddedSteps.{Adds-node, Adds-puts, Adds-then, node_around, plain-fresh}
use Rattle.squawk_parser.proofs.KindsAhead.{kinds_moved, kinds_none, kinds_some, kinds_still}
use Rattle.squawk_parser.proofs.Progress.{eaten-node}
use Rattle.squawk_parser.proofs.RecordedSteps.{puts-none, went}
use Rattle.squawk_parser.proofs.SeenSteps.{ahead-fresh}
use Rattle.squawk_parser.proofs.SomeSteps.{adds_some, none_some, whole_some}
use Rattle.sql_grammar.specs.Files.{AddsRest, AddsStatement, AreNodesOf, IsFile, IsParsed, RulesDerive}
use Rattle.sql_grammar.specs.declared.Detail.{Detail}
use Rattle.rule_grammar.specs.declared.rules.RuleGrammar.{RuleGrammar}
use Rattle.sql_grammar.specs.Kinds.{SOURCE_FILE, sql_words}
use Rattle.sql_grammar.specs.Statements.{Statement, content_len, first_statement, kind_of, len_of, nth, statements_of}
use Rattle.sql_grammar.specs.Words.{word_of}
use Rattle.sql_grammar.proofs.AddedStatements.{len_from-some, len_from-within, seen_len, statements-first}

-- what is added under a limit is added
pub inner_added : {b c : State} {detail : Detail} {of m kind : ℕ} (n : ℕ) → Keeps b c → (rest : AddsRest detail of m kind (limited b n) (with_limit_of c (limited b n))) → Adds rest.steps b c
inner_added n keeps rest = record { keeps = keeps; position = rest.adds.position; draft = rest.adds.draft }

-- the same of a statement with words, an input and places that are the same
parsed_as : (by : Option (Bor RuleGrammar)) {words words' : Words} {input input' : List Entry} {from from' to to' : ℕ} (of kind errors : ℕ)
    → words ≡ words' → input ≡ input' → from ≡ from' → to ≡ to'
    → IsParsed by (RulesDerive words input from to) of kind errors → IsParsed by (RulesDerive words' input' from' to') of kind errors
parsed_as None of kind errors words_are input_is from_is to_is parsed = parsed
parsed_as (Some rules) {words} {words'} {input} {input'} {from} {from'} {to} {to'} of kind errors words_are input_is from_is to_is parsed = λ none.
    subst (λ (end : ℕ). RulesDerive words' input' from' end rules) to_is
    (subst (λ (begun : ℕ). RulesDerive words' input' begun to rules) from_is
    (subst (λ (entries : List Entry). RulesDerive words' entries from to rules) input_is
    (subst (λ (w : Words). RulesDerive w input from to rules) words_are (parsed none))))

-- the first statement is within what is seen
pub first_within : (s : State) → kind_at s 0 ≢ EOF → (first_statement (kinds_in (ahead s 0))).len ≤ length (kinds_in (ahead s 0))
first_within s some =
    let kind = kind_at s 0 in
    let kinds = drop 1 (kinds_in (ahead s 0)) in
    subst (λ kinds. (first_statement kinds).len ≤ length kinds) (sym (kinds_some s some)) (len_from-within Start (kind ∷ kinds))

content_within : (kinds : List ℕ) (n : ℕ) → content_len kinds n ≤ n
content_within kinds zero = omega arith
content_within kinds (suc n) = cases (ends_with Plain (word_of (nth kinds n)))
  where
    cases : (b : Bool) → (if b then n else suc n) ≤ suc n
    cases true = omega arith
    cases false = omega arith

-- Under a limit of its tokens all of them are added, in its node.
pub first_added : {a b c d : State} {m : Mark} {detail : Detail} {kind : ℕ} (statement : Statement) → statement ≡ first_statement (kinds_in (ahead a 0)) → kind_at a 0 ≢ EOF
    → Begins m a b → Keeps b c → AddsRest detail statement.kind statement.content kind (limited b statement.len) (with_limit_of c (limited b statement.len)) → Completes m.id kind c d
    → AddsStatement detail (first_statement (kinds_in (ahead a 0))) a d
first_added {a} {b} {c} {d} {detail = detail} {kind = kind} statement is some begins keeps rest completes =
    let before : statement.content ≤ statement.len =
    subst (λ (s : Statement). s.content ≤ s.len) (sym is) (content_within (kinds_in (ahead a 0)) (len_of (kinds_in (ahead a 0)))) in
    let within : statement.len ≤ length (kinds_in (ahead a 0)) = subst (λ (s : Statement). s.len ≤ length (kinds_in (ahead a 0))) (sym is) (first_within a some) in
    let seen = seen_len a begins.sound in
    let position = begins.position in
    let limit = begins.keeps.limit in
    let eats = rest.adds.position in
    let end = rest.end in
    subst (λ (s : Statement). AddsStatement detail s a d) is (record {
      kind = kind;
      inner = rest.steps;
      adds = Adds-node (node_around begins (inner_added statement.len keeps rest) completes refl);
      balanced = rest.balanced;
      len = omega (arith, seen, within, position, limit, eats, end);
      parsed = λ goes. parsed_as _ _ _ _ begins.keeps.words begins.keeps.input position (omega (arith, seen, within, position, limit, before)) (rest.parsed (went completes.keeps goes));
      last = λ goes lt. rest.last (went completes.keeps goes) (omega (arith, lt, seen, within, position, limit, eats, end));
    })

-- the first statement, by its numbers
abbrev pub statement_with : ℕ → ℕ → ℕ → Statement
statement_with kind len content = record { kind = kind; len = len; content = content }

pub is_first : (kinds : List ℕ) {kind len content : ℕ} → kind ≡ kind_of kinds → len ≡ len_of kinds → content ≡ content_len kinds len
    → statement_with kind len content ≡ first_statement kinds
is_first kinds {kind} {len} {content} kind_is len_is content_is =
    ap (λ k. statement_with k len content) kind_is
    ∙ (ap (λ n. statement_with (kind_of kinds) len n) (content_is ∙ ap (content_len kinds) len_is)
    ∙ ap (λ n. statement_with (kind_of kinds) n (content_len kinds (len_of kinds))) len_is)

-- and its node eats
pub statement_eats : {a b : State} {detail : Detail} → kind_at a 0 ≢ EOF → AddsStatement detail (first_statement (kinds_in (ahead a 0))) a b → a.position < b.position
statement_eats {a} {b} some added =
    let eats = added.adds.position in
    let inner = eaten-node added.kind added.inner in
    let len = added.len in
    let kind = kind_at a 0 in
    let kinds = drop 1 (kinds_in (ahead a 0)) in
    let there : 0 < (first_statement (kinds_in (ahead a 0))).len =
    subst (λ kinds. 0 < (first_statement kinds).len) (sym (kinds_some a some)) (len_from-some Start kind kinds) in
    omega (arith, eats, inner, len, there)

-- ---- the statements of a file

-- The nodes of statements were added; with those of the statements that are ahead they are all.
pub record FileSoFar (detail : Detail) (begun now : State) : Type 0 where
  pub some : AddsSome begun now
  pub nodes : List Step
  pub adds : Adds nodes begun now
  pub all : HasNotFailed now → (rest : List Step) → AreNodesOf detail begun.input now.position (statements_of (kinds_in (ahead now 0))) rest
      → AreNodesOf detail begun.input begun.position (statements_of (kinds_in (ahead begun 0))) (nodes ++ rest)

pub file-none : {detail : Detail} (s : State) → IsSound s → FileSoFar detail s s
file-none s sound = record { some = none_some s sound; nodes = []; adds = Adds-puts (puts-none s sound); all = λ goes rest are. are }

pub file-next : {a b c : State} {detail : Detail} → a.words ≡ sql_words → kind_at b 0 ≢ EOF → AddsStatement detail (first_statement (kinds_in (ahead b 0))) b c → FileSoFar detail a b
    → FileSoFar detail a c
file-next {a} {b} {c} {detail} words some added before =
    let statement = first_statement (kinds_in (ahead b 0)) in
    let one = node added.kind added.inner in
    let adds = Adds-then before.adds added.adds in
    let eats : c.position ≡ b.position + statement.len = added.adds.position ∙ ap (λ n. b.position + n) (eaten-node added.kind added.inner ∙ added.len) in
    let moved : kinds_in (ahead c 0) ≡ drop statement.len (kinds_in (ahead b 0)) = kinds_moved statement.len added.adds.keeps eats in
    let first_is : statements_of (kinds_in (ahead b 0)) ≡ statement ∷ statements_of (kinds_in (ahead c 0)) =
    subst (λ kinds. statements_of kinds ≡ first_statement kinds ∷ statements_of (drop (first_statement kinds).len kinds)) (sym (kinds_some b some)) (statements-first (kind_at b 0) (drop 1 (kinds_in (ahead b 0))))
    ∙ ap (λ kinds. statement ∷ statements_of kinds) (sym moved) in
    record {
      some = adds_some adds;
      nodes = before.nodes ++ one;
      adds = adds;
      all = λ goes rest are.
          let others : AreNodesOf detail a.input (b.position + statement.len) (statements_of (kinds_in (ahead c 0))) rest =
          subst (λ (from : ℕ). AreNodesOf detail a.input from (statements_of (kinds_in (ahead c 0))) rest) eats are in
          let here : AreNodesOf detail a.input b.position (statement ∷ statements_of (kinds_in (ahead c 0))) (one ++ rest) =
          record {
            kind = added.kind;
            inner = added.inner;
            others = rest;
            is = refl;
            balanced = added.balanced;
            len = added.len;
            parsed = parsed_as _ _ _ _ (before.some.some.keeps.words ∙ words) before.some.some.keeps.input refl refl (added.parsed goes);
            last = λ lt. added.last goes lt;
            rest = others;
          } in
          subst (AreNodesOf detail a.input a.position (statements_of (kinds_in (ahead a 0)))) (sym (append_assoc before.nodes one rest))
          (before.all (went added.adds.keeps goes) (one ++ rest) (subst (λ statements. AreNodesOf detail a.input b.position statements (one ++ rest)) (sym first_is) here));
    }

pub file-all : {a b c d : State} {m : Mark} {detail : Detail} → IsFresh a → Begins m a b → FileSoFar detail b c → Completes m.id SOURCE_FILE c d → kind_at c 0 ≡ EOF → HasNotFailed d
    → IsFile detail a.input d.draft
file-all {a} {b} {c} {d} {detail = detail} fresh begins file completes end goes =
    let none = kinds_none c file.some.some.keeps.sound end in
    let nothing : AreNodesOf detail b.input c.position (statements_of (kinds_in (ahead c 0))) [] =
    subst (λ kinds. AreNodesOf detail b.input c.position (statements_of kinds) []) (sym none) refl in
    let all : AreNodesOf detail b.input b.position (statements_of (kinds_in (ahead b 0))) file.nodes =
    subst (AreNodesOf detail b.input b.position (statements_of (kinds_in (ahead b 0)))) (append-nil file.nodes) (file.all (went completes.keeps goes) [] nothing) in
    let begun : kinds_in (ahead b 0) ≡ kinds_in a.input = kinds_still begins.keeps begins.position ∙ ap kinds_in (ahead-fresh fresh) in
    let first : b.position ≡ 0 = begins.position ∙ ap (λ s. s.position) fresh in
    record {
      whole = whole_some fresh begins file.some completes end goes;
      nodes = file.nodes;
      is = plain-fresh fresh (Adds-node (node_around begins file.adds completes refl)) goes;
      statements = subst (λ kinds. AreNodesOf detail a.input 0 (statements_of kinds) file.nodes) begun
          (subst (λ (from : ℕ). AreNodesOf detail a.input from (statements_of (kinds_in (ahead b 0))) file.nodes) first
          (subst (λ (input : List Entry). AreNodesOf detail input b.position (statements_of (kinds_in (ahead b 0))) file.nodes) begins.keeps.input all));
    }

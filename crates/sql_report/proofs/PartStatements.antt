-- The statements of a script are those of its parts, each moved to where its part begins.
use Rattle.std.proofs.Common.{◌≡◌, ◌∙◌, ℕ, zero, suc, ◌+◌, ◌-◌, ◌≤◌, ◌==◌, Bool, true, false, Option, None, Some, option_map, List, [], ◌∷◌, ◌++◌, length, map, if◌then◌else◌, add_assoc, ap, append_assoc, arith, encode_utf8_all, refl, subst, sym}
use Rattle.std.specs.Prelude.{All}
use Rattle.std.proofs.lemmas.Bool.{ne_eqb}
use Rattle.std.proofs.lemmas.List.{append-nil, map-append}
use Rattle.std.proofs.lemmas.List.Elements.{All-append, All-cons, All-nil, All-same}
use Rattle.std.proofs.lemmas.List.Sums.{sum_by-append, sum_by-cons}
use Rattle.squawk_output.specs.Steps.{Step}
use Rattle.squawk_table.specs.RawTable.{Table}
use Rattle.squawk_table.specs.Sent.{bytes_of, sent_list}
use Rattle.squawk_table.specs.Shape.{Fits}
use Rattle.squawk_table.specs.declared.shortcuts.str_step.OwnedStep.{OwnedStep}
use Rattle.squawk_table.specs.declared.shortcuts.str_step.OwnedStep.TheVariants as sent
use Rattle.squawk_tree.specs.Forest.{Forest, Nothing, Token, Node, Error, forest_bytes, forest_steps}
use Rattle.squawk_tree.specs.TreeText.{bytes_in}
use Rattle.sql_grammar.specs.Parts.{moved_by}
use Rattle.sql_report.proofs.SentForests.{inner_forest}
use Rattle.sql_report.specs.Statements.{HasStatements, bytes_until_left, ending, moved_statement, statement_at, statements_from, statements_of}
use Rattle.sql_report.specs.declared.statement_list.Statement.{Statement}

-- ---- trees

sent_bytes : (forest : Forest) → bytes_of (forest_steps forest) ≡ forest_bytes forest
sent_bytes Nothing = refl
sent_bytes (Token kind text others) = omega (arith, sum_by-cons bytes_in (sent.Token kind text) (forest_steps others), sent_bytes others)
sent_bytes (Node kind inner others) =
    let behind = forest_steps others in
    omega (
      arith,
      sum_by-cons bytes_in (sent.Enter kind) (forest_steps inner ++ sent.Exit ∷ behind),
      sum_by-append bytes_in (forest_steps inner) (sent.Exit ∷ behind),
      sum_by-cons bytes_in sent.Exit behind,
      sent_bytes inner,
      sent_bytes others,
    )
sent_bytes (Error text pos others) = omega (arith, sum_by-cons bytes_in (sent.Error text pos) (forest_steps others), sent_bytes others)

-- trees of a text that stands after so many bytes
abbrev moved : ℕ → Forest → Forest
moved n Nothing = Nothing
moved n (Token kind text others) = Token kind text (moved n others)
moved n (Node kind inner others) = Node kind (moved n inner) (moved n others)
moved n (Error text pos others) = Error text (n + pos) (moved n others)

moved_steps : (n : ℕ) (forest : Forest) → map (moved_by n) (forest_steps forest) ≡ forest_steps (moved n forest)
moved_steps n Nothing = refl
moved_steps n (Token kind text others) = ap (λ l. sent.Token kind text ∷ l) (moved_steps n others)
moved_steps n (Node kind inner others) =
    let step = moved_by n in
    ap (λ l. sent.Enter kind ∷ l)
    (map-append step (forest_steps inner) (sent.Exit ∷ forest_steps others)
    ∙ (ap (λ l. l ++ sent.Exit ∷ map step (forest_steps others)) (moved_steps n inner)
    ∙ ap (λ l. forest_steps (moved n inner) ++ sent.Exit ∷ l) (moved_steps n others)))
moved_steps n (Error text pos others) = ap (λ l. sent.Error text (n + pos) ∷ l) (moved_steps n others)

moved_bytes : (n : ℕ) (forest : Forest) → forest_bytes (moved n forest) ≡ forest_bytes forest
moved_bytes n Nothing = refl
moved_bytes n (Token kind text others) = ap (λ m. length (encode_utf8_all text) + m) (moved_bytes n others)
moved_bytes n (Node kind inner others) = omega (arith, moved_bytes n inner, moved_bytes n others)
moved_bytes n (Error text pos others) = moved_bytes n others

-- ---- the nodes of trees

-- the nodes beside each other, from so many bytes on
abbrev tops : ℕ → Forest → List Statement
tops at Nothing = []
tops at (Token kind text others) = tops (at + length (encode_utf8_all text)) others
tops at (Node kind inner others) = record { kind = kind; start = at; end = at + forest_bytes inner } ∷ tops (at + forest_bytes inner) others
tops at (Error text pos others) = tops at others

moved_tops : (n at : ℕ) (forest : Forest) → tops (n + at) (moved n forest) ≡ map (moved_statement n) (tops at forest)
moved_tops n at Nothing = refl
moved_tops n at (Token kind text others) =
    let bytes = length (encode_utf8_all text) in
    ap (λ m. tops m (moved n others)) (add_assoc n at bytes) ∙ moved_tops n (at + bytes) others
moved_tops n at (Node kind inner others) =
    let end : (n + at) + forest_bytes (moved n inner) ≡ n + (at + forest_bytes inner) = omega (arith, moved_bytes n inner) in
    ap (λ m. record { kind = kind; start = n + at; end = m } ∷ tops m (moved n others)) end
    ∙ ap (λ l. record { kind = kind; start = n + at; end = n + (at + forest_bytes inner) } ∷ l) (moved_tops n (at + forest_bytes inner) others)
moved_tops n at (Error text pos others) = moved_tops n at others

-- ---- steps of trees

none_more : (bytes : Option ℕ) → bytes ≡ option_map (λ m. 0 + m) bytes
none_more None = refl
none_more (Some m) = let same : m ≡ 0 + m = omega arith in ap Some same

further : (n more : ℕ) (bytes : Option ℕ) → option_map (λ m. n + m) (option_map (λ m. more + m) bytes) ≡ option_map (λ m. (n + more) + m) bytes
further n more None = refl
further n more (Some m) = ap Some (sym (add_assoc n more m))

-- a node around them is closed behind them
until_left : (forest : Forest) (rest : List OwnedStep) (inner : ℕ)
    → bytes_until_left (forest_steps forest ++ rest) inner ≡ option_map (λ m. forest_bytes forest + m) (bytes_until_left rest inner)
until_left Nothing rest inner = none_more (bytes_until_left rest inner)
until_left (Token kind text others) rest inner =
    let bytes = length (encode_utf8_all text) in
    ap (option_map (λ m. bytes + m)) (until_left others rest inner) ∙ further bytes (forest_bytes others) (bytes_until_left rest inner)
until_left (Node kind within others) rest inner =
    let behind = forest_steps others ++ rest in
    ap (λ l. bytes_until_left l (suc inner)) (append_assoc (forest_steps within) (sent.Exit ∷ forest_steps others) rest)
    ∙ (until_left within (sent.Exit ∷ behind) (suc inner)
    ∙ (ap (option_map (λ m. forest_bytes within + m)) (until_left others rest inner) ∙ further (forest_bytes within) (forest_bytes others) (bytes_until_left rest inner)))
until_left (Error text pos others) rest inner = until_left others rest inner

-- in a node that isn't a root they begin no statement
none_begun : (forest : Forest) (rest : List OwnedStep) (depth at : ℕ)
    → statements_from (suc (suc depth)) at (forest_steps forest ++ rest) ≡ statements_from (suc (suc depth)) (at + forest_bytes forest) rest
none_begun Nothing rest depth at = let same : at ≡ at + 0 = omega arith in ap (λ n. statements_from (suc (suc depth)) n rest) same
none_begun (Token kind text others) rest depth at =
    let bytes = length (encode_utf8_all text) in
    none_begun others rest depth (at + bytes) ∙ ap (λ n. statements_from (suc (suc depth)) n rest) (add_assoc at bytes (forest_bytes others))
none_begun (Node kind inner others) rest depth at =
    let deep = suc (suc depth) in
    let behind = forest_steps others ++ rest in
    let steps = (forest_steps inner ++ sent.Exit ∷ forest_steps others) ++ rest in
    let none : (deep == 1) ≡ false = ne_eqb deep 1 (λ e. omega arith) in
    let one_less : suc deep - 1 ≡ deep = omega arith in
    let there : (((at + 0) + forest_bytes inner) + 0) + forest_bytes others ≡ at + (forest_bytes inner + forest_bytes others) = omega arith in
    ap (λ v. (if v then ending kind at at (bytes_until_left steps 0) else []) ++ statements_from (suc deep) (at + 0) steps) none
    ∙ (ap (statements_from (suc deep) (at + 0)) (append_assoc (forest_steps inner) (sent.Exit ∷ forest_steps others) rest)
    ∙ (none_begun inner (sent.Exit ∷ behind) (suc depth) (at + 0)
    ∙ (ap (λ d. statements_from d (((at + 0) + forest_bytes inner) + 0) behind) one_less
    ∙ (none_begun others rest depth (((at + 0) + forest_bytes inner) + 0) ∙ ap (λ n. statements_from deep n rest) there))))
none_begun (Error text pos others) rest depth at =
    let same : (at + 0) + forest_bytes others ≡ at + forest_bytes others = omega arith in
    none_begun others rest depth (at + 0) ∙ ap (λ n. statements_from (suc (suc depth)) n rest) same

-- in a root their nodes are statements
tops_begun : (forest : Forest) (rest : List OwnedStep) (at : ℕ)
    → statements_from 1 at (forest_steps forest ++ rest) ≡ tops at forest ++ statements_from 1 (at + forest_bytes forest) rest
tops_begun Nothing rest at = let same : at ≡ at + 0 = omega arith in ap (λ n. statements_from 1 n rest) same
tops_begun (Token kind text others) rest at =
    let bytes = length (encode_utf8_all text) in
    tops_begun others rest (at + bytes)
    ∙ ap (λ n. tops (at + bytes) others ++ statements_from 1 n rest) (add_assoc at bytes (forest_bytes others))
tops_begun (Node kind inner others) rest at =
    let behind = forest_steps others ++ rest in
    let n = forest_bytes inner in
    let end : ((at + 0) + n) + 0 ≡ at + n = omega arith in
    let last : n + 0 ≡ n = omega arith in
    ap (λ l. ending kind at at (bytes_until_left l 0) ++ statements_from 2 (at + 0) l) (append_assoc (forest_steps inner) (sent.Exit ∷ forest_steps others) rest)
    ∙ (ap (λ bytes. ending kind at at bytes ++ statements_from 2 (at + 0) (forest_steps inner ++ sent.Exit ∷ behind)) (until_left inner (sent.Exit ∷ behind) 0)
    ∙ (ap (λ m. ending kind at at (Some m) ++ statements_from 2 (at + 0) (forest_steps inner ++ sent.Exit ∷ behind)) last
    ∙ (ap (λ l. ending kind at at (Some n) ++ l)
    (none_begun inner (sent.Exit ∷ behind) 0 (at + 0)
    ∙ (ap (λ m. statements_from 1 m behind) end
    ∙ (tops_begun others rest (at + n) ∙ ap (λ m. tops (at + n) others ++ statements_from 1 m rest) (add_assoc at n (forest_bytes others))))))))
tops_begun (Error text pos others) rest at =
    let same : at + 0 ≡ at = omega arith in
    ap (λ m. statements_from 1 m (forest_steps others ++ rest)) same ∙ tops_begun others rest at

-- those of a root
root_tops : (kind : ℕ) (forest : Forest) → statements_of (sent.Enter kind ∷ forest_steps forest ++ sent.Exit ∷ []) ≡ tops 0 forest
root_tops kind forest = tops_begun forest (sent.Exit ∷ []) 0 ∙ append-nil (tops 0 forest)

-- ---- a part of a script

part_of : (done inner : List OwnedStep) (ended all : List Statement) (kind : ℕ) (forest : Forest) → inner ≡ forest_steps forest
    → all ≡ statements_of (sent.Enter kind ∷ inner ++ sent.Exit ∷ []) → HasStatements done ended
    → HasStatements (done ++ map (moved_by (bytes_of done)) inner) (ended ++ map (moved_statement (bytes_of done)) all)
part_of done inner ended all kind forest is_forest are has = λ rest.
    let n = bytes_of done in
    let steps = map (moved_by n) inner in
    let there = moved n forest in
    let steps_are : steps ≡ forest_steps there = ap (map (moved_by n)) is_forest ∙ moved_steps n forest in
    let all_are : all ≡ tops 0 forest = are ∙ (ap (λ l. statements_of (sent.Enter kind ∷ l ++ sent.Exit ∷ [])) is_forest ∙ root_tops kind forest) in
    let front : n ≡ n + 0 = omega arith in
    let tops_are : tops n there ≡ map (moved_statement n) all =
    ap (λ m. tops m there) front ∙ (moved_tops n 0 forest ∙ ap (map (moved_statement n)) (sym all_are)) in
    let bytes : n + forest_bytes there ≡ bytes_of (done ++ steps) = omega (arith, sum_by-append bytes_in done steps, ap bytes_of steps_are, sent_bytes there) in
    ap statements_of (append_assoc done steps rest)
    ∙ (has (steps ++ rest)
    ∙ (ap (λ l. ended ++ statements_from 1 n (l ++ rest)) steps_are
    ∙ (ap (λ l. ended ++ l) (tops_begun there rest n)
    ∙ (ap (λ l. ended ++ (l ++ statements_from 1 (n + forest_bytes there) rest)) tops_are
    ∙ (ap (λ m. ended ++ (map (moved_statement n) all ++ statements_from 1 m rest)) bytes
    ∙ sym (append_assoc ended (map (moved_statement n) all) (statements_from 1 (bytes_of (done ++ steps)) rest)))))))

-- the statements of a part are the next ones of the script
pub part_statements : (table : Table) (steps : List Step) (all : List Statement) → Fits table steps → all ≡ statements_of (sent_list table steps)
    → (done inner : List OwnedStep) (ended : List Statement) (kind : ℕ) → sent_list table steps ≡ sent.Enter kind ∷ inner ++ sent.Exit ∷ [] → HasStatements done ended
    → HasStatements (done ++ map (moved_by (bytes_of done)) inner) (ended ++ map (moved_statement (bytes_of done)) all)
part_statements table steps all fits are done inner ended kind is has =
    let forest = inner_forest table steps kind inner fits is in
    part_of done inner ended all kind forest.0 forest.1 (are ∙ ap statements_of is) has

-- ---- where statements stand

-- bytes are no more than these, if there are any
abbrev AreAtMost : ℕ → Option ℕ → Type 0
AreAtMost most None = Unit {0}
AreAtMost most (Some n) = n ≤ most

at_most : (n most all : ℕ) (bytes : Option ℕ) → all ≡ n + most → AreAtMost most bytes → AreAtMost all (option_map (λ m. n + m) bytes)
at_most n most all None is few = tt
at_most n most all (Some m) is few = omega (arith, few, is)

same_bytes : (step : OwnedStep) (steps : List OwnedStep) (bytes : Option ℕ) → bytes_in step ≡ 0 → AreAtMost (bytes_of steps) bytes → AreAtMost (bytes_of (step ∷ steps)) bytes
same_bytes step steps bytes none few =
    let same : bytes_of steps ≡ bytes_of (step ∷ steps) = omega (arith, none, sum_by-cons bytes_in step steps) in
    subst (λ most. AreAtMost most bytes) same few

until_within : (steps : List OwnedStep) (inner : ℕ) → AreAtMost (bytes_of steps) (bytes_until_left steps inner)
until_within [] inner = tt
until_within (sent.Token kind text ∷ steps) inner =
    at_most (length (encode_utf8_all text)) (bytes_of steps) (bytes_of (sent.Token kind text ∷ steps)) (bytes_until_left steps inner) (sum_by-cons bytes_in (sent.Token kind text) steps)
    (until_within steps inner)
until_within (sent.Enter kind ∷ steps) inner = same_bytes (sent.Enter kind) steps (bytes_until_left steps (suc inner)) refl (until_within steps (suc inner))
until_within (sent.Exit ∷ steps) zero = omega arith
until_within (sent.Exit ∷ steps) (suc inner) = same_bytes sent.Exit steps (bytes_until_left steps inner) refl (until_within steps inner)
until_within (sent.Error text pos ∷ steps) inner = same_bytes (sent.Error text pos) steps (bytes_until_left steps inner) refl (until_within steps inner)

-- they stand in a text with so many bytes
module _ (n : ℕ) where
  abbrev pub Stands : Statement → Type 0
  Stands s = (s.start ≤ n) × (s.end ≤ n)

  ending_within : (kind at most : ℕ) (bytes : Option ℕ) → at + most ≤ n → AreAtMost most bytes → All Stands (ending kind at at bytes)
  ending_within kind at most None le few = All-nil Stands
  ending_within kind at most (Some m) le few = All-cons Stands (record { kind = kind; start = at; end = at + m }) [] (omega (arith, le, few), omega (arith, le, few)) (All-nil Stands)

  -- so do those that steps begin, if their bytes stand there
  all_within : (steps : List OwnedStep) (depth at : ℕ) → at + bytes_of steps ≤ n → All Stands (statements_from depth at steps)
  all_within [] depth at le = All-nil Stands
  all_within (sent.Token kind text ∷ steps) depth at le =
      all_within steps depth (at + length (encode_utf8_all text)) (omega (arith, le, sum_by-cons bytes_in (sent.Token kind text) steps))
  all_within (sent.Enter kind ∷ steps) depth at le =
      let here : at + bytes_of steps ≤ n = omega (arith, le, sum_by-cons bytes_in (sent.Enter kind) steps) in
      All-append Stands (statement_at depth at (sent.Enter kind) steps) (statements_from (suc depth) (at + 0) steps) (first (depth == 1) here)
      (all_within steps (suc depth) (at + 0) (omega (arith, here)))
    where
      first : (v : Bool) → at + bytes_of steps ≤ n → All Stands (if v then ending kind at at (bytes_until_left steps 0) else [])
      first true le = ending_within kind at (bytes_of steps) (bytes_until_left steps 0) le (until_within steps 0)
      first false le = All-nil Stands
  all_within (sent.Exit ∷ steps) depth at le = all_within steps (depth - 1) (at + 0) (omega (arith, le, sum_by-cons bytes_in sent.Exit steps))
  all_within (sent.Error text pos ∷ steps) depth at le = all_within steps depth (at + 0) (omega (arith, le, sum_by-cons bytes_in (sent.Error text pos) steps))

  pub statements_within : (steps : List OwnedStep) (all : List Statement) → all ≡ statements_of steps → bytes_of steps ≤ n → All Stands all
  statements_within steps all are le = All-same Stands all (statements_of steps) are (all_within steps 0 0 (omega (arith, le)))

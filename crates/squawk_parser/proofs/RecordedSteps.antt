-- What grammars may rely on: steps that are recorded one after another, and a node of them.
use Rattle.std.proofs.Common.{◌≡◌, ◌∙◌, ℕ, ◌+◌, ◌≤◌, false, Option, Some, None, List, [], ◌∷◌, ◌++◌, length, arith, add-zero, ap, sym, refl, append_assoc, length-append}
use Rattle.std.specs.Prelude.{IsSome}
use Rattle.squawk_output.specs.Steps.{Step, Enter, Exit, Token, is_error, errors_in}
use Rattle.squawk_output.specs.Draft.{Draft, OpenMarker, Mark, errors_of}
use Rattle.squawk_output.specs.declared.log.Made.TheVariants.{ByStart}
use Rattle.squawk_output.specs.Edits.{completed, started, with_token}
use Rattle.squawk_output.proofs.EditedErrors.{errors-append}
use Rattle.squawk_parser.specs.Eaten.{node}
use Rattle.squawk_parser.specs.Recorded.{Begins, Completes, IsRefusedStep, Puts, with_steps}
use Rattle.squawk_parser.specs.State.{State, HasNotFailed, IsReason, IsSound, Keeps, Records}
use Rattle.squawk_parser.specs.declared.parser.parse_error.ParseError.{ParseError}
use Rattle.squawk_parser.proofs.RecordedItems.{steps_errors-append, eaten-append}
use Rattle.squawk_parser.proofs.StepsAtEnd.{errors-with_steps, with_steps-append, with_steps-node, with_steps-none}

-- ---- what every act keeps

pub Keeps-none : (a : State) → IsSound a → Keeps a a
Keeps-none a sound = record { input = refl; words = refl; limit = refl; forward = omega arith; max_events = refl; max_errors = refl; reason = λ failed. refl; sound = sound }

-- a parser that has failed has still failed afterwards
pub still : {a b : State} → Keeps a b → IsSome a.first_reason → IsSome b.first_reason
still k failed = rw (k.reason failed) failed

-- and one that goes on afterwards went on before
pub went : {a b : State} → Keeps a b → HasNotFailed b → HasNotFailed a
went {a} {b} keeps goes = cases a.first_reason refl
  where
    cases : (f : Option ParseError) → a.first_reason ≡ f → a.first_reason ≡ None
    cases None e = e
    cases (Some reason) e =
        let stays : b.first_reason ≡ a.first_reason = keeps.reason (rw e refl) in
        absurd (let p = sym goes ∙ (stays ∙ e) in cc)

pub Keeps-then : {a b c : State} → Keeps a b → Keeps b c → Keeps a c
Keeps-then {a} {b} {c} k l = record {
  input = l.input ∙ k.input;
  words = l.words ∙ k.words;
  limit = l.limit ∙ k.limit;
  forward = omega (arith, k.forward, l.forward);
  max_events = l.max_events ∙ k.max_events;
  max_errors = l.max_errors ∙ k.max_errors;
  reason = λ failed. l.reason (still k failed) ∙ k.reason failed;
  sound = l.sound;
}

-- ---- which step is refused

-- a parser that fails is refused one of the steps
abbrev pub Refuses : List Step → State → State → Type 0
Refuses xs a b = HasNotFailed a → (reason : ParseError) → b.first_reason ≡ Some reason → IsRefusedStep a xs reason

-- a parser that goes on has recorded them
pub record Counts (xs : List Step) (a b : State) : Type 0 where
  pub recorded : b.draft.recorded ≡ a.draft.recorded + length xs
  pub errors : errors_of b.draft.items ≡ errors_of a.draft.items + errors_in xs

pub counted : {xs : List Step} {a b : State} → b.draft ≡ with_steps a.draft xs → Counts xs a b
counted {xs} {a} {b} is = record {
  recorded = ap (λ d. d.recorded) is;
  errors = ap (λ d. errors_of d.items) is ∙ errors-with_steps a.draft xs;
}

later : (xs ys : List Step) (a b : State) (reason : ParseError) → Keeps a b → Counts xs a b → IsRefusedStep b ys reason → IsRefusedStep a (xs ++ ys) reason
later xs ys a b reason keeps counts r = record {
  front = xs ++ r.front;
  next = r.next;
  rest = r.rest;
  is = ap (λ zs. xs ++ zs) r.is ∙ sym (append_assoc xs r.front (r.next ∷ r.rest));
  why = moved keeps.max_events keeps.max_errors events errors r.why;
}
  where
    moved : {m m' n n' k k' e e' : ℕ} → m ≡ m' → n ≡ n' → k ≡ k' → e ≡ e' → IsReason m n k e (is_error r.next) reason → IsReason m' n' k' e' (is_error r.next) reason
    moved p q s t why = rw (← p, ← q, ← s, ← t) why

    events : b.draft.recorded + length r.front ≡ a.draft.recorded + length (xs ++ r.front)
    events = omega (arith, counts.recorded, length-append xs r.front)

    errors : errors_of b.draft.items + errors_in r.front ≡ errors_of a.draft.items + errors_in (xs ++ r.front)
    errors = omega (arith, counts.errors, steps_errors-append xs r.front)

earlier : (xs ys : List Step) (a : State) (reason : ParseError) → IsRefusedStep a xs reason → IsRefusedStep a (xs ++ ys) reason
earlier xs ys a reason r = record {
  front = r.front;
  next = r.next;
  rest = r.rest ++ ys;
  is = ap (λ zs. zs ++ ys) r.is ∙ append_assoc r.front (r.next ∷ r.rest) ys;
  why = r.why;
}

pub refuses-then : {xs ys : List Step} {a b c : State} → Keeps a b → Keeps b c → (HasNotFailed b → Counts xs a b) → Refuses xs a b → Refuses ys b c → Refuses (xs ++ ys) a c
refuses-then {xs} {ys} {a} {b} {c} k l counts first second goes reason fails = cases b.first_reason refl
  where
    cases : (f : Option ParseError) → b.first_reason ≡ f → IsRefusedStep a (xs ++ ys) reason
    cases None e = later xs ys a b reason k (counts e) (second e reason fails)
    cases (Some r) e =
        let stays : c.first_reason ≡ b.first_reason = l.reason (rw e refl) in
        let same : r ≡ reason = let p = sym e ∙ (sym stays ∙ fails) in cc in
        earlier xs ys a reason (first goes reason (e ∙ ap Some same))

-- an event that is no error, as a step
pub refuses-one : {a b : State} {edited : Draft} (step : Step) → is_error step ≡ false → Records a b edited → Refuses (step ∷ []) a b
refuses-one {a} {b} {edited} step plain_step r goes reason fails = record { front = []; next = step; rest = []; is = refl; why = same plain_step (r.refused goes reason fails) }
  where
    same : {wrong : _} → wrong ≡ false → IsReason a.max_events a.max_errors a.draft.recorded (errors_of a.draft.items) false reason
        → IsReason a.max_events a.max_errors (a.draft.recorded + 0) (errors_of a.draft.items + 0) wrong reason
    same is why = rw is (simp add-zero why)

-- ---- how many are recorded

-- an event is one more at most
pub records-most : {a b : State} {edited : Draft} → Records a b edited → edited.recorded ≡ a.draft.recorded + 1 → b.draft.recorded ≤ a.draft.recorded + 1
records-most {a} {b} {edited} r one = cases b.first_reason refl
  where
    cases : (f : Option ParseError) → b.first_reason ≡ f → b.draft.recorded ≤ a.draft.recorded + 1
    cases None e = let is = ap (λ d. d.recorded) (r.draft e) in omega (arith, is, one)
    cases (Some reason) e = let is = ap (λ d. d.recorded) (r.stays (rw e refl)) in omega (arith, is)

-- ---- steps

-- no steps
pub puts-none : (a : State) → IsSound a → Puts [] a a
puts-none a sound = record {
  keeps = Keeps-none a sound;
  position = omega arith;
  draft = λ goes. sym (with_steps-none a.draft);
  stays = λ failed. refl;
  few = omega arith;
  refused = λ goes reason fails. absurd (let p = sym goes ∙ fails in cc);
}

-- steps, and others behind them
pub puts-then : {xs ys : List Step} {a b c : State} → Puts xs a b → Puts ys b c → Puts (xs ++ ys) a c
puts-then {xs} {ys} {a} {b} {c} p q = record {
  keeps = Keeps-then p.keeps q.keeps;
  position = omega (arith, p.position, q.position, eaten-append xs ys);
  draft = λ goes. q.draft goes ∙ (ap (λ d. with_steps d ys) (p.draft (went q.keeps goes)) ∙ with_steps-append a.draft xs ys);
  stays = λ failed. q.stays (still p.keeps failed) ∙ p.stays failed;
  few = omega (arith, p.few, q.few, length-append xs ys);
  refused = refuses-then p.keeps q.keeps (λ goes. counted (p.draft goes)) p.refused q.refused;
}

-- a token
pub token_puts : {a b : State} (kind n : ℕ) → Keeps a b → Records a b (with_token a.draft kind n) → b.position ≡ a.position + n → Puts (Token kind n ∷ []) a b
token_puts {a} {b} kind n k r position = record {
  keeps = k;
  position = position ∙ (omega arith);
  draft = r.draft;
  stays = λ failed. r.stays (still k failed);
  few = records-most r refl;
  refused = refuses-one (Token kind n) refl r;
}

-- the event of an open marker is that of an opening to come
pub begun_counts : {a b : State} (kind : ℕ) → b.draft ≡ started a.draft → Counts (Enter kind ∷ []) a b
begun_counts {a} {b} kind is = record {
  recorded = ap (λ d. d.recorded) is;
  errors = ap (λ d. errors_of d.items) is ∙ errors-append a.draft.items (OpenMarker a.draft.entries ByStart ∷ []);
}

-- a node is begun, steps are recorded in it, and it is completed
pub node_puts : {a b c d : State} {m : Mark} {xs : List Step} {kind : ℕ} → Begins m a b → Puts xs b c → Completes m.id kind c d → Puts (node kind xs) a d
node_puts {a} {b} {c} {d} {m} {xs} {kind} begins p completes = record {
  keeps = Keeps-then begins.keeps (Keeps-then p.keeps completes.keeps);
  position = omega (arith, begins.position, completes.position, p.position, eaten-append xs (Exit ∷ []));
  draft = λ goes.
      let before = went completes.keeps goes in
      let id = ap (λ m. m.id) begins.is in
      completes.records.draft goes
      ∙ (ap (λ id. completed c.draft id kind) id
      ∙ (ap (λ d. completed d a.draft.entries kind)
      (p.draft before ∙ ap (λ d. with_steps d xs) (begins.records.draft (went p.keeps before)))
      ∙ with_steps-node a.draft kind xs begins.sound.logged.below));
  stays = λ failed.
      let second = still begins.keeps failed in
      let third = still p.keeps second in
      completes.records.stays (still completes.keeps third) ∙ (p.stays second ∙ begins.records.stays second);
  few = omega (arith, records-most begins.records refl, p.few, records-most completes.records refl, length-append xs (Exit ∷ []));
  refused = refuses-then begins.keeps (Keeps-then p.keeps completes.keeps)
      (λ goes. begun_counts kind (begins.records.draft goes))
      (refuses-one (Enter kind) refl begins.records)
      (refuses-then p.keeps completes.keeps (λ goes. counted (p.draft goes)) p.refused (refuses-one Exit refl completes.records));
}

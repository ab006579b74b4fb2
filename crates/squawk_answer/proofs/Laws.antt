-- Bytes have one answer, memory, reading and writing aside.
use Rattle.std.proofs.Common.{◌≡◌, ◌∙◌, ℕ, ◌<◌, List, ◌⊎◌, Some, None, Ok, Err, inl, inr, arith, ap, sym, refl, subst, false}
use Rattle.std.specs.Prelude.{MatchResult, Option, Result, IsTrue}
use Rattle.std.proofs.lemmas.Bool.{cases_order}
use Rattle.squawk_document.specs.DocumentGrammars.{GrammarContent, by_calls, by_tiny}
use Rattle.squawk_document.specs.Documents.{Content}
use Rattle.squawk_document.specs.declared.document_error.DocumentError.{DocumentError}
use Rattle.squawk_tokens.specs.AcceptedTokens.{AreAcceptedTokens, IsGoodTokenAt, RefusesTokens}
use Rattle.squawk_tokens.specs.declared.token.Token.{Token}
use Rattle.squawk_tokens.specs.declared.check.TableError.{TableError}
use Rattle.squawk_tokens.specs.declared.check.TableError.TheVariants as table
use Rattle.squawk_table.specs.Shape.{Fits}
use Rattle.squawk_parser.specs.declared.parser.parse_error.ParseError.{ParseError}
use Rattle.squawk_parser.specs.declared.parser.parse_error.ParseError.TheVariants as parse
use Rattle.squawk_script.specs.Accepted as script
use Rattle.squawk_script.specs.declared.call.Call.{Call}
use Rattle.squawk_script.specs.declared.script_error.ScriptError.{ScriptError}
use Rattle.squawk_script.specs.declared.script_error.ScriptError.TheVariants as calls
use Rattle.squawk_answer.specs.Answers.{HasCalls, IsAnswer, IsTheAnswer, IsDetermined, ReadReturns, RefusesCalls, Returns, document_of, lines, parser_input, refusal_by, steps, table_for}
use Rattle.squawk_answer.specs.Lines.{Texts}
use Rattle.squawk_answer.specs.declared.fault.Fault.{Fault}
use Rattle.squawk_answer.specs.declared.fault.Fault.TheVariants.{Document, Table, Script, Parse, DoesNotFit, Memory, Io}

abbrev Answer : Type 0
Answer = Result Texts Fault

-- ---- the first of several

-- two indices that are the first without a property are one
first-same : (Good : ℕ → Type 0) (i j : ℕ) → ((k : ℕ) → k < i → Good k) → ¬ (Good i) → ((k : ℕ) → k < j → Good k) → ¬ (Good j) → i ≡ j
first-same Good i j before bad before' bad' = elim (cases_order i j) [
  | inl same ↦ same
  | inr other ↦ elim other [ inl less ↦ absurd (bad (before' i less)) | inr more ↦ absurd (bad' (before j more)) ]
]

module _ (text : List ℕ) (ts : List Token) where
  tokens-not : (e : TableError) → IsDetermined (Err (Table e)) → RefusesTokens text ts e → AreAcceptedTokens text ts → ⊥
  tokens-not table.TextTooLong known r accepted = absurd (omega (arith, r, accepted.short))
  tokens-not (table.BadToken i) known r accepted = r.bad (accepted.good i r.within)
  tokens-not (table.TextLeft at) known r accepted = absurd (omega (arith, r.sum, r.left, accepted.whole))
  tokens-not table.OutOfMemory known r accepted = absurd (omega (arith, known))

  tokens-one : (e f : TableError) → IsDetermined (Err (Table e)) → IsDetermined (Err (Table f)) → RefusesTokens text ts e → RefusesTokens text ts f → e ≡ f
  tokens-one table.TextTooLong table.TextTooLong a b r s = refl
  tokens-one table.TextTooLong (table.BadToken j) a b r s = absurd (omega (arith, r, s.short))
  tokens-one table.TextTooLong (table.TextLeft at) a b r s = absurd (omega (arith, r, s.short))
  tokens-one (table.BadToken i) table.TextTooLong a b r s = absurd (omega (arith, s, r.short))
  tokens-one (table.BadToken i) (table.BadToken j) a b r s = ap table.BadToken (first-same (IsGoodTokenAt text ts) i j r.before r.bad s.before s.bad)
  tokens-one (table.BadToken i) (table.TextLeft at) a b r s = absurd (r.bad (s.good i r.within))
  tokens-one (table.TextLeft at) table.TextTooLong a b r s = absurd (omega (arith, s, r.short))
  tokens-one (table.TextLeft at) (table.BadToken j) a b r s = absurd (s.bad (r.good j s.within))
  tokens-one (table.TextLeft at) (table.TextLeft at') a b r s = ap table.TextLeft (r.sum ∙ sym s.sum)
  tokens-one table.OutOfMemory f a b r s = absurd (omega (arith, a))
  tokens-one e table.OutOfMemory a b r s = absurd (omega (arith, b))

module _ (cs : List Call) where
  -- a marker that calls don't leave open
  abbrev Closed : ℕ → Type 0
  Closed m = script.is_open cs m ≡ false

  open-not : (m : ℕ) → IsTrue (script.is_open cs m) → ¬ (Closed m)
  open-not m is closed = let p = sym is ∙ closed in cc

  script-not : (e : ScriptError) → IsDetermined (Err (Script e)) → script.Refuses cs e → script.IsAccepted cs → ⊥
  script-not (calls.BadCall i) known r accepted = r.bad (accepted.good i r.within)
  script-not (calls.Unspent m) known r accepted = open-not m r.is (accepted.spent m)
  script-not calls.OutOfMemory known r accepted = absurd (omega (arith, known))

  script-one : (e f : ScriptError) → IsDetermined (Err (Script e)) → IsDetermined (Err (Script f)) → script.Refuses cs e → script.Refuses cs f → e ≡ f
  script-one (calls.BadCall i) (calls.BadCall j) a b r s = ap calls.BadCall (first-same (script.IsGoodAt cs) i j r.before r.bad s.before s.bad)
  script-one (calls.BadCall i) (calls.Unspent m) a b r s = absurd (r.bad (s.good i r.within))
  script-one (calls.Unspent m) (calls.BadCall j) a b r s = absurd (s.bad (r.good j s.within))
  script-one (calls.Unspent m) (calls.Unspent n) a b r s = ap calls.Unspent (first-same Closed m n r.before (open-not m r.is) s.before (open-not n s.is))
  script-one calls.OutOfMemory f a b r s = absurd (omega (arith, a))
  script-one e calls.OutOfMemory a b r s = absurd (omega (arith, b))

calls-not : (g : GrammarContent) (e : ScriptError) → IsDetermined (Err (Script e)) → RefusesCalls g e → HasCalls g → ⊥
calls-not (by_calls entry cs) e known r accepted = script-not cs e known r accepted
calls-not by_tiny e known r accepted = r

calls-one : (g : GrammarContent) (e f : ScriptError) → IsDetermined (Err (Script e)) → IsDetermined (Err (Script f)) → RefusesCalls g e → RefusesCalls g f → e ≡ f
calls-one (by_calls entry cs) e f a b r s = script-one cs e f a b r s
calls-one by_tiny e f a b r s = absurd r

-- ---- stages

-- an answer that is a fault of one stage
abbrev Refused : {E : Type 0} → (E → Type 0) → (E → Fault) → Answer → Type 0
Refused {E} Refuses fault answer = (e : E) × Refuses e × (answer ≡ Err (fault e))

-- one stage: both answers are its fault, or both go on to the next
stage : {E : Type 0} (Refuses : E → Type 0) (fault : E → Fault) (Accepted : Type 0) (a b : Answer) → IsDetermined a → IsDetermined b
    → ((e : E) → IsDetermined (Err (fault e)) → Refuses e → Accepted → ⊥)
    → ((e f : E) → IsDetermined (Err (fault e)) → IsDetermined (Err (fault f)) → Refuses e → Refuses f → e ≡ f)
    → {A B : Type 0} → Refused Refuses fault a ⊎ (Accepted × A) → Refused Refuses fault b ⊎ (Accepted × B) → (A → B → a ≡ b) → a ≡ b
stage Refuses fault Accepted a b known_a known_b never one (inl (e, r, is)) (inl (f, s, is')) next =
    is ∙ (ap (λ e. Err (fault e)) (one e f (rw is at known_a) (rw is' at known_b) r s) ∙ sym is')
stage Refuses fault Accepted a b known_a known_b never one (inl (e, r, is)) (inr (accepted, more)) next = absurd (never e (rw is at known_a) r accepted)
stage Refuses fault Accepted a b known_a known_b never one (inr (accepted, more)) (inl (f, s, is')) next = absurd (never f (rw is' at known_b) s accepted)
stage Refuses fault Accepted a b known_a known_b never one (inr (accepted, more)) (inr (accepted', more')) next = next more more'

-- ---- a document

-- why its run is refused, if it is
abbrev parse_refusal : Content → Option ParseError
parse_refusal d = refusal_by d.grammar d.words (parser_input d)

parse-one : (d : Content) (e f : ParseError) → parse_refusal d ≡ Some e → parse_refusal d ≡ Some f → e ≡ f
parse-one d e f r s = let p = sym r ∙ s in cc

parse-not : (d : Content) (e : ParseError) → parse_refusal d ≡ Some e → parse_refusal d ≡ None → ⊥
parse-not d e some none = let p = sym some ∙ none in cc

abbrev Fitting : Content → Answer → Type 0
Fitting d a = (Fits (table_for d) (steps d) × (a ≡ Ok (lines d))) ⊎ (¬ (Fits (table_for d) (steps d)) × (a ≡ Err DoesNotFit))

abbrev Parsing : Content → Answer → Type 0
Parsing d a = Refused (λ e. parse_refusal d ≡ Some e) Parse a ⊎ ((parse_refusal d ≡ None) × Fitting d a)

abbrev Calling : Content → Answer → Type 0
Calling d a = Refused (RefusesCalls d.grammar) Script a ⊎ (HasCalls d.grammar × Parsing d a)

abbrev Reading : Content → Answer → Type 0
Reading d a = Refused (RefusesTokens d.text d.tokens) Table a ⊎ (AreAcceptedTokens d.text d.tokens × Calling d a)

-- at which stage an answer is known
reading : (d : Content) (a : Answer) → IsDetermined a → Returns d a → Reading d a
reading d (Ok texts) known ((accepted, ((good, none), fits, same)), is) = inr (accepted, inr (good, inr (none, inl (fits, ap Ok is))))
reading d (Err (Document reason)) known t = elim t [ ]
reading d (Err (Table reason)) known t = inl (reason, t, refl)
reading d (Err (Script reason)) known (accepted, t) = inr (accepted, inl (reason, t, refl))
reading d (Err (Parse parse.OutOfMemory)) known t = absurd (omega (arith, known))
reading d (Err (Parse parse.TooManyEvents)) known (accepted, (good, t)) = inr (accepted, inr (good, inl (parse.TooManyEvents, t (λ same. let p = same in cc), refl)))
reading d (Err (Parse parse.TooManyErrors)) known (accepted, (good, t)) = inr (accepted, inr (good, inl (parse.TooManyErrors, t (λ same. let p = same in cc), refl)))
reading d (Err DoesNotFit) known (accepted, ((good, none), unfit)) = inr (accepted, inr (good, inr (none, inr (unfit, refl))))
reading d (Err Memory) known t = absurd (omega (arith, known))
reading d (Err Io) known t = absurd (omega (arith, known))

fitting-one : (d : Content) (a b : Answer) → Fitting d a → Fitting d b → a ≡ b
fitting-one d a b (inl (fits, is)) (inl (fits', is')) = is ∙ sym is'
fitting-one d a b (inl (fits, is)) (inr (unfit, is')) = absurd (unfit fits)
fitting-one d a b (inr (unfit, is)) (inl (fits, is')) = absurd (unfit fits)
fitting-one d a b (inr (unfit, is)) (inr (unfit', is')) = is ∙ sym is'

-- a document has one answer
pub document-one : (d : Content) (a b : Answer) → IsDetermined a → IsDetermined b → Returns d a → Returns d b → a ≡ b
document-one d a b known known' t t' =
    stage (RefusesTokens d.text d.tokens) Table (AreAcceptedTokens d.text d.tokens) a b known known' (tokens-not d.text d.tokens) (tokens-one d.text d.tokens)
    (reading d a known t) (reading d b known' t')
    (λ x y. stage (RefusesCalls d.grammar) Script (HasCalls d.grammar) a b known known' (calls-not d.grammar) (calls-one d.grammar) x y
    (λ p q. stage (λ e. parse_refusal d ≡ Some e) Parse (parse_refusal d ≡ None) a b known known' (λ e known some none. parse-not d e some none) (λ e f known known'. parse-one d e f)
    p q (fitting-one d a b)))

read-one : (reading : Result Content DocumentError) (a b : Answer) → IsDetermined a → IsDetermined b → ReadReturns reading a → ReadReturns reading b → a ≡ b
read-one (Ok d) a b known known' t t' = document-one d a b known known' t t'
read-one (Err reason) a b known known' t t' = t ∙ sym t'

-- and so have bytes
pub answer-one : (input : List ℕ) (a b : Answer) → IsDetermined a → IsDetermined b → IsAnswer input a → IsAnswer input b → a ≡ b
answer-one input a b known known' t t' = read-one (document_of input) a b known known' (t known) (t' known')

-- so an answer to them is the one
pub the_answer : (input : List ℕ) (answer : Answer) → IsAnswer input answer → IsTheAnswer input answer
the_answer input answer is = record { is = is; only = λ known other known' is'. answer-one input other answer known' known is' is }

-- what a document's answer returns is the one answer to the bytes that it was read of
pub the_answer-read : {X : Type 0} (input : List ℕ) (d : Content) (texts : X → Texts) (result : Result X Fault) → document_of input ≡ Ok d
    → MatchResult result (λ x. Returns d (Ok (texts x))) (λ fault. Returns d (Err fault))
    → MatchResult result (λ x. IsTheAnswer input (Ok (texts x))) (λ fault. IsTheAnswer input (Err fault))
the_answer-read input d texts (Ok x) is t = the_answer input (Ok (texts x)) (λ known. subst (λ r. ReadReturns r (Ok (texts x))) (sym is) t)
the_answer-read input d texts (Err fault) is t = the_answer input (Err fault) (λ known. subst (λ r. ReadReturns r (Err fault)) (sym is) t)

-- What is sent for a walk that stands in one root is the steps of a tree, and a builder over its source takes each of them.
use Rattle.std.proofs.Common.{◌≡◌, ◌∙◌, inl, inr, ℕ, suc, ◌+◌, ◌-◌, ◌<◌, ◌≤◌, Bool, true, false, List, [], ◌∷◌, ◌++◌, length, arith, ap, sym, refl, subst, append_assoc}
use Rattle.std.specs.Prelude.{IsUtf8, encode_utf8_all}
use Rattle.std.specs.List.{fold}
use Rattle.std.specs.Str.{chars}
use Rattle.std.proofs.lemmas.List.{length-append}
use Rattle.std.proofs.lemmas.List.Concat.{flat_map-append}
use Rattle.std.proofs.lemmas.List.Sums.{length-filter}
use Rattle.std.proofs.lemmas.Str.{encodes-append, encodes-chars}
use Rattle.squawk_output.specs.Steps.{Step, Token, Enter, Exit, Error, is_error, without_errors}
use Rattle.squawk_output.specs.Steps as walk
use Rattle.squawk_table.specs.RawTable.{Table, IsTable}
use Rattle.squawk_table.specs.Sending.{end_from}
use Rattle.squawk_table.specs.Sent.{IsBeginning, errors_moved, sent_list, text_in, texts_of}
use Rattle.squawk_table.specs.Shape.{Fits}
use Rattle.squawk_table.specs.declared.shortcuts.str_step.OwnedStep.{OwnedStep}
use Rattle.squawk_table.specs.declared.shortcuts.str_step.OwnedStep.TheVariants as sent
use Rattle.squawk_table.proofs.AllSent.{beginning, root_moved}
use Rattle.squawk_table.proofs.NextStep.{end_within}
use Rattle.squawk_table.proofs.SentFrom.{sends_all, sent_from-sent_list}
use Rattle.squawk_table.proofs.SentLaws.{errors-errors_moved}
use Rattle.squawk_tree.specs.Forest.{Forest}
use Rattle.squawk_tree.specs.TreeText.{nodes_open_behind}
use Rattle.syntax_tree.specs.Refusals.{RefusesStep, elements_in, errors_in, nodes_open}
use Rattle.syntax_tree.specs.Trees.{IsOneRoot}
use Rattle.syntax_tree.specs.declared.builder.TreeRefusal.{TreeRefusal}
use Rattle.syntax_tree.specs.declared.builder.TreeRefusal.TheVariants.{OutsideOfRoot, NothingOpen, OtherText, TooLarge, OutOfMemory}
use Rattle.syntax_tree.proofs.Refusals.{elements_in-append, errors_in-append}
use Rattle.syntax_tree.proofs.SentTrees.{Completes, IsRootOf, one_tree, outermost, trees}
use Rattle.syntax_tree.proofs.SentWalks.{Sends, errors-from, goes_root, sends-from, with_errors}

-- ---- each step is one that a builder takes

-- What a step needs, where so many nodes are open and so many elements stand before it: a token stands in a node and isn't empty, a
-- second root doesn't begin, and a node ends where one is open.
abbrev Admits : ℕ → ℕ → Bool → OwnedStep → Type 0
Admits depth count begun (sent.Token kind text) = (1 ≤ depth) × (1 ≤ length text)
Admits depth count begun (sent.Enter kind) = depth ≡ 0 → (begun ≡ false) × (count ≡ 0)
Admits depth count begun sent.Exit = 1 ≤ depth
Admits depth count begun (sent.Error text pos) = Unit {0}

-- behind the beginning of the root
admits-begun : (depth count count' : ℕ) (begun begun' : Bool) (next : OwnedStep) → begun ≡ true → Admits depth count begun next → Admits depth count' begun' next
admits-begun depth count count' begun begun' (sent.Token kind text) is admits = admits
admits-begun depth count count' begun begun' (sent.Enter kind) is admits = λ none.
    let never : true ≡ false = sym is ∙ (admits none).0 in
    absurd (cc never)
admits-begun depth count count' begun begun' sent.Exit is admits = admits
admits-begun depth count count' begun begun' (sent.Error text pos) is admits = tt

admits-first : (next : OwnedStep) (rest : List OwnedStep) (begun : Bool) (n : ℕ) → Sends (next ∷ rest) begun n → Admits n 0 begun next
admits-first (sent.Token kind text) rest begun n sends = (sends.0, sends.1)
admits-first (sent.Enter kind) rest begun n sends = λ none. (sends.0 none, refl)
admits-first sent.Exit rest begun n sends = sends.0
admits-first (sent.Error text pos) rest begun n sends = tt

admits : (front : List OwnedStep) (next : OwnedStep) (rest : List OwnedStep) (begun : Bool) (n : ℕ) → (1 ≤ n → begun ≡ true) → Sends (front ++ next ∷ rest) begun n
    → Admits (fold nodes_open_behind n front) (elements_in front) begun next
admits [] next rest begun n inside sends = admits-first next rest begun n sends
admits (sent.Token kind text ∷ front) next rest begun n inside sends =
    admits-begun _ (elements_in front) (elements_in front + 1) begun begun next (inside sends.0) (admits front next rest begun n inside sends.2)
admits (sent.Enter kind ∷ front) next rest begun n inside sends =
    admits-begun _ (elements_in front) (elements_in front + 1) true begun next refl (admits front next rest true (suc n) (λ _. refl) sends.1)
admits (sent.Exit ∷ front) next rest begun n inside sends = admits front next rest begun (n - 1) (λ _. inside sends.0) sends.1
admits (sent.Error text pos ∷ front) next rest begun n inside sends = admits front next rest begun n inside sends

-- a builder answers no more than this
abbrev pub Answers : List OwnedStep → TreeRefusal → Type 0
Answers all OutsideOfRoot = ⊥
Answers all NothingOpen = ⊥
Answers all OtherText = ⊥
Answers all TooLarge = 4294967295 < elements_in all
Answers all OutOfMemory = Unit {0}

module _ (source : List ℕ) (utf8 : IsUtf8 source) (short : length source ≤ 4294967295) (all : List OwnedStep) (sends : Sends all false 0)
    (begins : IsBeginning (texts_of all) (chars source)) (few : errors_in all ≤ 2147483648)
    (front rest : List OwnedStep) where
  here : (next : OwnedStep) → all ≡ front ++ next ∷ rest → Admits (nodes_open front) (elements_in front) false next
  here next is =
      let never : (n : ℕ) → n ≡ 0 → 1 ≤ n → false ≡ true = λ n none some. absurd (omega (arith, none, some)) in
      admits front next rest false 0 (never 0 refl) (subst (λ l. Sends l false 0) is sends)

  -- the text of a token is the next part of the source
  next_part : (kind : ℕ) (text : List ℕ) → all ≡ front ++ sent.Token kind text ∷ rest → IsBeginning (texts_of front ++ text) (chars source)
  next_part kind text is = (
    texts_of rest ++ begins.0,
    append_assoc (texts_of front) text (texts_of rest ++ begins.0)
        ∙ (ap (λ l. texts_of front ++ l) (sym (append_assoc text (texts_of rest) begins.0))
        ∙ (sym (append_assoc (texts_of front) (text ++ texts_of rest) begins.0)
        ∙ (ap (λ l. l ++ begins.0) (sym (ap texts_of is ∙ flat_map-append text_in front (sent.Token kind text ∷ rest))) ∙ begins.1))),
  )

  short_part : (part : List ℕ) → IsBeginning part (chars source) → length (encode_utf8_all part) ≤ 4294967295
  short_part part (behind, is) =
      omega (
        arith,
        short,
        ap length (encodes-append part behind),
        length-append (encode_utf8_all part) (encode_utf8_all behind),
        ap (λ l. length (encode_utf8_all l)) is,
        ap length (encodes-chars source utf8),
      )

  pub answers : (next : OwnedStep) (answer : TreeRefusal) → all ≡ front ++ next ∷ rest → RefusesStep source front next answer → Answers all answer
  answers (sent.Token kind text) OutsideOfRoot is refused = omega (arith, refused, (here (sent.Token kind text) is).0)
  answers (sent.Token kind text) NothingOpen is refused = refused
  answers (sent.Token kind text) OtherText is refused = refused.1 ((here (sent.Token kind text) is).1, next_part kind text is)
  answers (sent.Token kind text) TooLarge is refused =
      elim refused.2 [
        | inl many ↦ omega (arith, many, ap elements_in is, elements_in-append front (sent.Token kind text ∷ rest))
        | inr long ↦ absurd (omega (arith, long, short_part (texts_of front ++ text) (next_part kind text is)))
      ]
  answers (sent.Token kind text) OutOfMemory is refused = tt
  answers (sent.Enter kind) OutsideOfRoot is refused = omega (arith, refused.1, ((here (sent.Enter kind) is) refused.0).1)
  answers (sent.Enter kind) NothingOpen is refused = refused
  answers (sent.Enter kind) OtherText is refused = refused
  answers (sent.Enter kind) TooLarge is refused = omega (arith, refused.1, ap elements_in is, elements_in-append front (sent.Enter kind ∷ rest))
  answers (sent.Enter kind) OutOfMemory is refused = tt
  answers sent.Exit answer is refused = absurd (omega (arith, refused.1, here sent.Exit is))
  answers (sent.Error text pos) OutsideOfRoot is refused = refused
  answers (sent.Error text pos) NothingOpen is refused = refused
  answers (sent.Error text pos) OtherText is refused = refused
  answers (sent.Error text pos) TooLarge is refused = absurd (omega (arith, refused, few, ap errors_in is, errors_in-append front (sent.Error text pos ∷ rest)))
  answers (sent.Error text pos) OutOfMemory is refused = tt

-- ---- the sent list of a walk that fits

module _ (t : Table) (table : IsTable t) (steps : List Step) (fits : Fits t steps) where
  pub sends : Sends (sent_list t steps) false 0
  sends =
      subst (λ l. Sends l false 0) (sent_from-sent_list t table steps fits)
      (sends-from t table (errors_moved steps) 0 0 false (with_errors (errors_moved steps) false 0 (goes_root (without_errors (errors_moved steps)) (root_moved t steps fits)))
      (sends_all t table steps fits).tokens)

  pub begins : IsBeginning (texts_of (sent_list t steps)) (chars t.text)
  begins =
      let rest = sends_all t table steps fits in
      beginning t table steps fits (end_from t 0 0 (errors_moved steps)) (end_within t 0 0 (errors_moved steps) rest.tokens) rest.raw_left

  pub errors_sent : errors_in (sent_list t steps) ≡ walk.errors_in steps
  errors_sent =
      ap errors_in (sym (sent_from-sent_list t table steps fits))
      ∙ (errors-from t (errors_moved steps) 0 0
      ∙ (sym (length-filter is_error (errors_moved steps)) ∙ (ap length (errors-errors_moved steps) ∙ length-filter is_error steps)))

  pub root_of : IsRootOf (sent_list t steps)
  root_of =
      let never : (n : ℕ) → n ≡ 0 → 1 ≤ n → false ≡ true = λ n none some. absurd (omega (arith, none, some)) in
      let all = trees (sent_list t steps) false 0 (never 0 refl) sends in
      one_tree (sent_list t steps) all.forest all.forests all.count all.are (ended (all.forest) (all.forests) all.completes)
    where
      ended : (forest : Forest) (forests : List Forest) → Completes false (outermost forest forests) → IsOneRoot (outermost forest forests)
      ended forest forests completes = completes

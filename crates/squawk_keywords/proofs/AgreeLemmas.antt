-- The answers of slots agree with the kinds of words, word after word.
use Rattle.std.proofs.Common.{◌≡◌, ℕ, List, [], ◌∷◌, ◌++◌, Bool, true, false, cond, Option, Some, None, Ok, Err, refl, sym, ap, ◌∙◌}
use Rattle.std.specs.Prelude.{IfOk, IfSome, Result}
use Rattle.std.specs.Option.{option_or}
use Rattle.std.specs.Result.{result_unwrap_or}
use Rattle.std.specs.Str.{bytes_eq}
use Rattle.std.proofs.lemmas.List.Elements.{All-head, All-tail}
use Rattle.std.proofs.lemmas.Slice.Eq.{bytes_eq-Decides}
use Rattle.squawk_kinds.specs.Keywords.{Keywords}
use Rattle.squawk_kinds.specs.Kinds.{IsKeyword}
use Rattle.squawk_keywords.specs.KeywordPairs.{AreKeywords, pairs_of}
use Rattle.squawk_keywords.specs.LetterCase.{compared, kind_by}
use Rattle.squawk_keywords.specs.WordSlots.{AgreeWith, probed}
use denote.Ref.{Bor}

-- kinds, and behind them one of a word more
abbrev pub with_word : Bool → Keywords → List ℕ → ℕ → Keywords
with_word ignores_case kind_of word kind text = option_or (kind_of text) (cond (bytes_eq (compared ignores_case word) (compared ignores_case text)) (Some kind) None)

module _ (ignores_case : Bool) (kind_of : Keywords) (slots : List ℕ) (words : List (List ℕ × ℕ)) (word : List ℕ) (kind : ℕ) (so : AgreeWith ignores_case kind_of slots words) where
  -- a word takes a slot
  pub agree_more : (after : List ℕ) (kept : List (List ℕ × ℕ))
      → ((text : List ℕ) (answer : Option ℕ) → probed after kept text ≡ Some answer
      → (before : Option ℕ) × (probed slots words text ≡ Some before) × (answer ≡ option_or before (cond (bytes_eq (compared ignores_case word) text) (Some kind) None)))
      → AgreeWith ignores_case (with_word ignores_case kind_of word kind) after kept
  agree_more after kept more text answer answers =
      let known = more (compared ignores_case text) answer answers in
      ap (λ had. option_or had (cond (bytes_eq (compared ignores_case word) (compared ignores_case text)) (Some kind) None)) (so text known.0 known.1) ∙ sym known.2

  -- a word takes none, since the slots don't say that it is none
  pub agree_same : (probed slots words (compared ignores_case word) ≡ Some None → ⊥) → AgreeWith ignores_case (with_word ignores_case kind_of word kind) slots words
  agree_same taken text answer answers = by_answer answer answers (so text answer answers)
    where
      same_text : (test : Bool) → bytes_eq (compared ignores_case word) (compared ignores_case text) ≡ test → probed slots words (compared ignores_case text) ≡ Some None → test ≡ false
      same_text true e none =
          let equal : compared ignores_case word ≡ compared ignores_case text = (bytes_eq-Decides (compared ignores_case word) (compared ignores_case text)).0 e in
          absurd (taken (ap (probed slots words) equal ∙ none))
      same_text false e none = refl

      by_answer : (found : Option ℕ) → probed slots words (compared ignores_case text) ≡ Some found → kind_of text ≡ found → with_word ignores_case kind_of word kind text ≡ found
      by_answer (Some k) e is = ap (λ had. option_or had (cond (bytes_eq (compared ignores_case word) (compared ignores_case text)) (Some kind) None)) is
      by_answer None e is =
          ap (λ had. option_or had (cond (bytes_eq (compared ignores_case word) (compared ignores_case text)) (Some kind) None)) is
          ∙ ap (λ test. option_or None (cond test (Some kind) None)) (same_text _ refl e)

-- ---- lists of words

-- the kinds of a list with a word more
kind_by-more : (ignores_case : Bool) (words : List (Bor (List ℕ) × ℕ)) (word : Bor (List ℕ) × ℕ) (text : List ℕ)
    → kind_by ignores_case (pairs_of (words ++ word ∷ [])) text ≡ with_word ignores_case (kind_by ignores_case (pairs_of words)) word.0.now word.1 text
kind_by-more ignores_case [] word text = refl
kind_by-more ignores_case (first ∷ words) word text = by_test (bytes_eq (compared ignores_case first.0.now) (compared ignores_case text)) (kind_by-more ignores_case words word text)
  where
    by_test : (test : Bool) → kind_by ignores_case (pairs_of (words ++ word ∷ [])) text ≡ with_word ignores_case (kind_by ignores_case (pairs_of words)) word.0.now word.1 text
        → cond test (Some first.1) (kind_by ignores_case (pairs_of (words ++ word ∷ [])) text)
        ≡ option_or (cond test (Some first.1) (kind_by ignores_case (pairs_of words) text)) (cond (bytes_eq (compared ignores_case word.0.now) (compared ignores_case text)) (Some word.1) None)
    by_test true rest = refl
    by_test false rest = rest

-- slots that agree with words and one more agree with the longer list
pub agree_next : (ignores_case : Bool) (words more : List (Bor (List ℕ) × ℕ)) (word : Bor (List ℕ) × ℕ) (slots : List ℕ) (kept : List (List ℕ × ℕ)) → more ≡ words ++ word ∷ []
    → AgreeWith ignores_case (with_word ignores_case (kind_by ignores_case (pairs_of words)) word.0.now word.1) slots kept → AgreeWith ignores_case (kind_by ignores_case (pairs_of more)) slots kept
agree_next ignores_case words more word slots kept is so text answer answers =
    ap (λ all. kind_by ignores_case (pairs_of all) text) is ∙ kind_by-more ignores_case words word text ∙ so text answer answers

-- ---- the answer for a text

pub probed-is : (ignores_case : Bool) (kind_of : Keywords) (slots : List ℕ) (words : List (List ℕ × ℕ)) (text : List ℕ) (result : Option (Option ℕ)) → AgreeWith ignores_case kind_of slots words
    → result ≡ probed slots words (compared ignores_case text) → IfSome result (λ kind. kind ≡ kind_of text)
probed-is ignores_case kind_of slots words text None so is = tt
probed-is ignores_case kind_of slots words text (Some answer) so is = sym (so text answer (sym is))

-- slots that agree with a list agree with another one with the same kinds
pub agree_alike : (ignores_case : Bool) (one other : Keywords) (slots : List ℕ) (words : List (List ℕ × ℕ)) → ((text : List ℕ) → other text ≡ one text)
    → AgreeWith ignores_case one slots words → AgreeWith ignores_case other slots words
agree_alike ignores_case one other slots words same so text answer answers = same text ∙ so text answer answers

-- the kind of a word is that of a keyword
pub keyword-found : (ignores_case : Bool) (pairs : List (List ℕ × ℕ)) (text : List ℕ) → AreKeywords pairs → IfSome (kind_by ignores_case pairs text) IsKeyword
keyword-found ignores_case [] text are = tt
keyword-found ignores_case (pair ∷ pairs) text are = by_test (bytes_eq (compared ignores_case pair.0) (compared ignores_case text)) (keyword-found ignores_case pairs text (All-tail (λ one. IsKeyword one.1) pair pairs are))
  where
    by_test : (test : Bool) → IfSome (kind_by ignores_case pairs text) IsKeyword → IfSome (cond test (Some pair.1) (kind_by ignores_case pairs text)) IsKeyword
    by_test true rest = All-head (λ one. IsKeyword one.1) pair pairs are
    by_test false rest = rest

-- what holds of slots that may be there, holds where none stands for a failed allocation
pub unless_refused : {X E : Type 0} (P : X → Type 0) (result : Result (Option X) E) (slots : Option X) → slots ≡ result_unwrap_or result None
    → IfOk result (λ found. (x : X) → found ≡ Some x → P x) → (x : X) → slots ≡ Some x → P x
unless_refused P (Ok found) slots is holds x some = holds x (sym is ∙ some)
unless_refused P (Err e) slots is holds x some = absurd (let p = sym is ∙ some in cc)

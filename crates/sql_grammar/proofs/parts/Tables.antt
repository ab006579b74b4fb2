-- The table of two texts of which one stands after the other.
use Rattle.std.proofs.Common.{◌≡◌, ◌∙◌, ℕ, zero, suc, ◌+◌, ◌-◌, ◌<◌, ◌≤◌, List, [], ◌∷◌, ◌++◌, length, take, drop, slice_index, arith, ap, sym, refl, length-append, length-drop, zero-add, ◌⊎◌, inl, inr}
use Rattle.std.specs.Prelude.{slice_range, sum_by}
use Rattle.std.proofs.Math.Seq.{drop-append-add, take-append-add}
use Rattle.std.proofs.lemmas.List.{drop-append-le, get_or-append-add, get_or_append_left, take-append-le}
use Rattle.std.proofs.lemmas.List.Sums.{sum_by-append, sum_by-cons, sum_by-take-le}
use Rattle.squawk_kinds.specs.Keywords.{Keywords}
use Rattle.squawk_tokens.specs.AcceptedTokens.{start_of}
use Rattle.squawk_tokens.specs.declared.token.Token.{Token}
use Rattle.squawk_table.specs.RawTable.{RawToken, Table, kinds_from, piece, raw_after, raw_at, raw_from, raw_tokens, starts_from, table_of}
use Rattle.squawk_table.specs.TokenKinds.{kind_of}
use Rattle.squawk_table.proofs.RawTokens.{raw_after-start}
use Rattle.squawk_table.proofs.TableLemmas.{length-kinds_from, starts_from_at}

-- ---- parts of two texts

pub front_part : (a b : List ℕ) (from to : ℕ) → from ≤ to → to ≤ length a → slice_range (a ++ b) from to ≡ slice_range a from to
front_part a b from to low high =
    ap (take (to - from)) (drop-append-le from a b (omega arith))
    ∙ take-append-le (to - from) (drop from a) b (omega (arith, length-drop from a))

pub later_part : (a b : List ℕ) (from to : ℕ) → slice_range (a ++ b) (length a + from) (length a + to) ≡ slice_range b from to
later_part a b from to =
    let len : length a + to - (length a + from) ≡ to - from = omega arith in
    ap (λ n. take n (drop (length a + from) (a ++ b))) len ∙ ap (take (to - from)) (drop-append-add a b from)

-- ---- kinds

-- how many bytes tokens have
abbrev pub bytes : List Token → ℕ
bytes tokens = sum_by (λ (t : Token). t.len) tokens

start-grows : (tokens : List Token) (i : ℕ) → start_of tokens i ≤ start_of tokens (i + 1)
start-grows [] zero = omega arith
start-grows [] (suc i) = omega arith
start-grows (t ∷ tokens) zero = omega arith
start-grows (t ∷ tokens) (suc i) =
    let f : Token → ℕ = λ t. t.len in
    let next : suc i + 1 ≡ suc (i + 1) = omega arith in
    omega (arith, start-grows tokens i, sum_by-cons f t (take i tokens), sum_by-cons f t (take (i + 1) tokens), ap (start_of (t ∷ tokens)) next)

start-mono : (tokens : List Token) (i j : ℕ) → i ≤ j → start_of tokens i ≤ start_of tokens j
start-mono tokens i zero le = let none : i ≡ 0 = omega (arith, le) in omega (arith, ap (start_of tokens) none)
start-mono tokens i (suc j) le =
    let next : suc j ≡ j + 1 = omega arith in
    let last : (i ≡ suc j) ⊎ (i ≤ j) = grind arith in
    elim last [
      | inl e ↦ omega (arith, ap (start_of tokens) e)
      | inr l ↦ omega (arith, start-mono tokens i j l, start-grows tokens j, ap (start_of tokens) next)
    ]

module _ (keyword : Keywords) where
  pub kinds-append : (text : List ℕ) (at : ℕ) (front later : List Token)
      → kinds_from keyword text at (front ++ later) ≡ kinds_from keyword text at front ++ kinds_from keyword text (at + bytes front) later
  kinds-append text at [] later = ap (λ n. kinds_from keyword text n later) (omega arith)
  kinds-append text at (t ∷ front) later =
      let kind = kind_of keyword t.kind (slice_range text at (at + t.len)) in
      let end : at + t.len + bytes front ≡ at + bytes (t ∷ front) = omega (arith, sum_by-cons (λ (t : Token). t.len) t front) in
      ap (λ ks. kind ∷ ks) (kinds-append text (at + t.len) front later ∙ ap (λ n. kinds_from keyword text (at + t.len) front ++ kinds_from keyword text n later) end)

  pub kinds-front : (a b : List ℕ) (at : ℕ) (tokens : List Token) → at + bytes tokens ≤ length a → kinds_from keyword (a ++ b) at tokens ≡ kinds_from keyword a at tokens
  kinds-front a b at [] le = refl
  kinds-front a b at (t ∷ tokens) le =
      let sum = sum_by-cons (λ (t : Token). t.len) t tokens in
      let here = front_part a b at (at + t.len) (omega arith) (omega (arith, sum, le)) in
      ap (λ text. kind_of keyword t.kind text ∷ kinds_from keyword (a ++ b) (at + t.len) tokens) here
      ∙ ap (λ ks. kind_of keyword t.kind (slice_range a at (at + t.len)) ∷ ks) (kinds-front a b (at + t.len) tokens (omega (arith, sum, le)))

  pub kinds-later : (a b : List ℕ) (at : ℕ) (tokens : List Token) → kinds_from keyword (a ++ b) (length a + at) tokens ≡ kinds_from keyword b at tokens
  kinds-later a b at [] = refl
  kinds-later a b at (t ∷ tokens) =
      let end : length a + at + t.len ≡ length a + (at + t.len) = omega arith in
      ap (λ n. kind_of keyword t.kind (slice_range (a ++ b) (length a + at) n) ∷ kinds_from keyword (a ++ b) n tokens) end
      ∙ (ap (λ text. kind_of keyword t.kind text ∷ kinds_from keyword (a ++ b) (length a + (at + t.len)) tokens) (later_part a b at (at + t.len))
      ∙ ap (λ ks. kind_of keyword t.kind (slice_range b at (at + t.len)) ∷ ks) (kinds-later a b (at + t.len) tokens))

  -- ---- a table of both

  -- starts ascend, up to the end
  pub starts_order : (a : List ℕ) (tokens : List Token) → bytes tokens ≡ length a → (i j : ℕ) → i ≤ j → j ≤ length (kinds_from keyword a 0 tokens)
      → (slice_index (starts_from 0 tokens) i ≤ slice_index (starts_from 0 tokens) j) × (slice_index (starts_from 0 tokens) j ≤ length a)
  starts_order a tokens all i j low high =
      let count = length-kinds_from keyword a 0 tokens in
      let at : (k : ℕ) → k ≤ length tokens → slice_index (starts_from 0 tokens) k ≡ start_of tokens k = λ k le. starts_from_at 0 tokens k le ∙ zero-add (start_of tokens k) in (
        omega (arith, at i (omega (arith, low, high, count)), at j (omega (arith, high, count)), start-mono tokens i j low),
        omega (arith, all, at j (omega (arith, high, count)), sum_by-take-le (λ (t : Token). t.len) tokens j),
      )

  module _ (a b : List ℕ) (front later : List Token) (all : bytes front ≡ length a) where
    abbrev first : Table
    first = table_of keyword a front

    abbrev second : Table
    second = table_of keyword b later

    abbrev both : Table
    both = table_of keyword (a ++ b) (front ++ later)

    pub kinds_both : both.kinds ≡ first.kinds ++ second.kinds
    kinds_both =
        let end : 0 + bytes front ≡ length a + 0 = omega (arith, all) in
        kinds-append (a ++ b) 0 front later
        ∙ (ap (λ ks. ks ++ kinds_from keyword (a ++ b) (0 + bytes front) later) (kinds-front a b 0 front (omega (arith, all)))
        ∙ (ap (λ n. first.kinds ++ kinds_from keyword (a ++ b) n later) end
        ∙ ap (λ ks. first.kinds ++ ks) (kinds-later a b 0 later)))

    pub count_both : length both.kinds ≡ length first.kinds + length second.kinds
    count_both = ap length kinds_both ∙ length-append first.kinds second.kinds

    count_first : length first.kinds ≡ length front
    count_first = length-kinds_from keyword a 0 front

    count_second : length second.kinds ≡ length later
    count_second = length-kinds_from keyword b 0 later

    sum-front : (i : ℕ) → i ≤ length front → start_of (front ++ later) i ≡ start_of front i
    sum-front i le = ap bytes (take-append-le i front later le)

    sum-later : (i : ℕ) → start_of (front ++ later) (length front + i) ≡ length a + start_of later i
    sum-later i = ap bytes (take-append-add front later i) ∙ (sum_by-append (λ (t : Token). t.len) front (take i later) ∙ ap (λ n. n + start_of later i) all)

    pub start_first : (i : ℕ) → i ≤ length first.kinds → slice_index both.starts i ≡ slice_index first.starts i
    start_first i le =
        let within : i ≤ length front = omega (arith, le, count_first) in
        starts_from_at 0 (front ++ later) i (omega (arith, within, length-append front later))
        ∙ (ap (λ n. 0 + n) (sum-front i within) ∙ sym (starts_from_at 0 front i within))

    pub start_second : (i : ℕ) → i ≤ length second.kinds → slice_index both.starts (length first.kinds + i) ≡ length a + slice_index second.starts i
    start_second i le =
        let within : i ≤ length later = omega (arith, le, count_second) in
        omega (
          arith,
          ap (λ n. slice_index both.starts (n + i)) count_first,
          starts_from_at 0 (front ++ later) (length front + i) (omega (arith, within, length-append front later)),
          sum-later i,
          starts_from_at 0 later i within,
        )

    raw_first : (i : ℕ) → i < length first.kinds → raw_at both i ≡ raw_at first i
    raw_first i lt =
        let kind : slice_index both.kinds i ≡ slice_index first.kinds i = ap (λ ks. slice_index ks i) kinds_both ∙ get_or_append_left first.kinds second.kinds 0 i lt in
        let from = start_first i (omega (arith, lt)) in
        let to = start_first (i + 1) (omega (arith, lt)) in
        let order = starts_order a front all i (i + 1) (omega arith) (omega (arith, lt)) in
        ap (λ k. let r : RawToken = record { kind = k; text = piece both i } in r) kind
        ∙ ap (λ text. let r : RawToken = record { kind = slice_index first.kinds i; text = text } in r)
        (ap (λ n. slice_range (a ++ b) n (slice_index both.starts (i + 1))) from
        ∙ (ap (λ n. slice_range (a ++ b) (slice_index first.starts i) n) to
        ∙ front_part a b (slice_index first.starts i) (slice_index first.starts (i + 1)) order.0 order.1))

    raw_second : (i : ℕ) → i < length second.kinds → raw_at both (length first.kinds + i) ≡ raw_at second i
    raw_second i lt =
        let n = length first.kinds in
        let kind : slice_index both.kinds (n + i) ≡ slice_index second.kinds i = ap (λ ks. slice_index ks (n + i)) kinds_both ∙ get_or-append-add first.kinds second.kinds i 0 in
        let next : n + i + 1 ≡ n + (i + 1) = omega arith in
        ap (λ k. let r : RawToken = record { kind = k; text = piece both (n + i) } in r) kind
        ∙ ap (λ text. let r : RawToken = record { kind = slice_index second.kinds i; text = text } in r)
        (ap (λ m. slice_range (a ++ b) m (slice_index both.starts (n + i + 1))) (start_second i (omega (arith, lt)))
        ∙ (ap (λ m. slice_range (a ++ b) (length a + slice_index second.starts i) (slice_index both.starts m)) next
        ∙ (ap (λ m. slice_range (a ++ b) (length a + slice_index second.starts i) m) (start_second (i + 1) (omega (arith, lt)))
        ∙ later_part a b (slice_index second.starts i) (slice_index second.starts (i + 1)))))

    raws_second : (i n : ℕ) → i + n ≤ length second.kinds → raw_from both (length first.kinds + i) n ≡ raw_from second i n
    raws_second i zero le = refl
    raws_second i (suc n) le =
        let next : length first.kinds + i + 1 ≡ length first.kinds + (i + 1) = omega arith in
        ap (λ r. r ∷ raw_from both (length first.kinds + i + 1) n) (raw_second i (omega (arith, le)))
        ∙ ap (λ rs. raw_at second i ∷ rs) (ap (λ m. raw_from both m n) next ∙ raws_second (i + 1) n (omega (arith, le)))

    -- from a raw token of the second on
    pub after_second : (i : ℕ) → i ≤ length second.kinds → raw_after both (length first.kinds + i) ≡ raw_after second i
    after_second i le =
        let left : length both.kinds - (length first.kinds + i) ≡ length second.kinds - i = omega (arith, count_both) in
        ap (raw_from both (length first.kinds + i)) left ∙ raws_second i (length second.kinds - i) (omega (arith, le))

    raws_first : (i n : ℕ) → i + n ≡ length first.kinds → raw_from both i (n + length second.kinds) ≡ raw_from first i n ++ raw_tokens second
    raws_first i zero e =
        let here : i ≡ length first.kinds + 0 = omega (arith, e) in
        let count : 0 + length second.kinds ≡ length second.kinds = omega arith in
        ap (raw_from both i) count ∙ ap (λ m. raw_from both m (length second.kinds)) here ∙ raws_second 0 (length second.kinds) (omega arith)
    raws_first i (suc n) e =
        let count : suc n + length second.kinds ≡ suc (n + length second.kinds) = omega arith in
        ap (raw_from both i) count
        ∙ (ap (λ r. r ∷ raw_from both (i + 1) (n + length second.kinds)) (raw_first i (omega (arith, e)))
        ∙ ap (λ rs. raw_at first i ∷ rs) (raws_first (i + 1) n (omega (arith, e))))

    -- from one of the first on
    pub after_first : (i : ℕ) → i ≤ length first.kinds → raw_after both i ≡ raw_after first i ++ raw_tokens second
    after_first i le =
        let left : length both.kinds - i ≡ length first.kinds - i + length second.kinds = omega (arith, count_both, le) in
        ap (raw_from both i) left ∙ raws_first i (length first.kinds - i) (omega (arith, le))

    -- all
    pub raws_both : raw_tokens both ≡ raw_tokens first ++ raw_tokens second
    raws_both = sym (raw_after-start both) ∙ (after_first 0 (omega arith) ∙ ap (λ rs. rs ++ raw_tokens second) (raw_after-start first))

-- Accepted tokens of two texts are accepted over both.
use Rattle.std.proofs.Common.{◌≡◌, ◌∙◌, ℕ, ◌+◌, ◌-◌, ◌<◌, ◌≤◌, List, ◌++◌, inl, inr, length, take, get_or, arith, ap, sym, subst, length-append}
use Rattle.std.specs.Prelude.{IsCharBoundary, IsUtf8, slice_range}
use Rattle.std.proofs.Math.Seq.{take-append-add}
use Rattle.std.proofs.lemmas.Bool.{cases_lt}
use Rattle.std.proofs.lemmas.List.{get_or-append-add, get_or_append_left, take-append-le, take_all}
use Rattle.std.proofs.lemmas.List.Sums.{sum_by-append}
use Rattle.std.proofs.lemmas.Str.{IsCharBoundary-from_take, IsUtf8-append, IsUtf8-take}
use Rattle.squawk_tokens.specs.AcceptedTokens.{AreAcceptedTokens, IsGoodToken, start_of}
use Rattle.squawk_tokens.specs.TokenRules.{MeetsKind}
use Rattle.squawk_tokens.specs.declared.token.Token.{Token}
use Rattle.sql_grammar.proofs.parts.Tables.{bytes, front_part, later_part}

module _ (a b : List ℕ) (a_utf8 : IsUtf8 a) (b_utf8 : IsUtf8 b) where
  all_utf8 : IsUtf8 (a ++ b)
  all_utf8 = IsUtf8-append a b a_utf8 b_utf8

  front_boundary : (n : ℕ) → IsCharBoundary a n → IsCharBoundary (a ++ b) n
  front_boundary n boundary =
      IsCharBoundary-from_take (a ++ b) n all_utf8 (omega (arith, boundary.0, length-append a b))
      (subst IsUtf8 (sym (take-append-le n a b boundary.0)) (IsUtf8-take a n a_utf8 boundary))

  later_boundary : (n : ℕ) → IsCharBoundary b n → IsCharBoundary (a ++ b) (length a + n)
  later_boundary n boundary =
      IsCharBoundary-from_take (a ++ b) (length a + n) all_utf8 (omega (arith, boundary.0, length-append a b))
      (subst IsUtf8 (sym (take-append-add a b n)) (IsUtf8-append a (take n b) a_utf8 (IsUtf8-take b n b_utf8 boundary)))

  good_front : (start : ℕ) (t : Token) → start + t.len ≤ length a → IsGoodToken a start t → IsGoodToken (a ++ b) start t
  good_front start t within good = record {
    nonempty = good.nonempty;
    boundary = front_boundary (start + t.len) good.boundary;
    kind = subst (λ text. MeetsKind text t.kind) (sym (front_part a b start (start + t.len) (omega arith) within)) good.kind;
  }

  good_later : (start : ℕ) (t : Token) → IsGoodToken b start t → IsGoodToken (a ++ b) (length a + start) t
  good_later start t good =
      let end : length a + (start + t.len) ≡ length a + start + t.len = omega arith in
      record {
        nonempty = good.nonempty;
        boundary = subst (IsCharBoundary (a ++ b)) end (later_boundary (start + t.len) good.boundary);
        kind = subst (λ text. MeetsKind text t.kind) (sym (later_part a b start (start + t.len)) ∙ ap (slice_range (a ++ b) (length a + start)) end) good.kind;
      }

  module _ (xs ys : List Token) (a_ok : AreAcceptedTokens a xs) (b_ok : AreAcceptedTokens b ys) where
    a_bytes : bytes xs ≡ length a
    a_bytes = ap bytes (sym (take_all (length xs) xs (omega arith))) ∙ a_ok.whole

    good_at : (i : ℕ) (d : Token) → i < length (xs ++ ys) → IsGoodToken (a ++ b) (start_of (xs ++ ys) i) (get_or (xs ++ ys) i d)
    good_at i d lt = elim (cases_lt i (length xs)) [
      | inl low ↦
          let good = a_ok.good i low d in
          let within : start_of xs i + (get_or xs i d).len ≤ length a = good.boundary.0 in
          subst (λ n. IsGoodToken (a ++ b) n (get_or (xs ++ ys) i d)) (sym (ap bytes (take-append-le i xs ys (omega (arith, low)))))
          (subst (IsGoodToken (a ++ b) (start_of xs i)) (sym (get_or_append_left xs ys d i low)) (good_front (start_of xs i) (get_or xs i d) within good))
      | inr high ↦
          let j = i - length xs in
          let sum : length xs + j ≡ i = omega (arith, high) in
          let good = b_ok.good j (omega (arith, lt, high, length-append xs ys)) d in
          let start : start_of (xs ++ ys) (length xs + j) ≡ length a + start_of ys j =
          ap bytes (take-append-add xs ys j) ∙ (sum_by-append (λ (t : Token). t.len) xs (take j ys) ∙ ap (λ n. n + start_of ys j) a_bytes) in
          subst (λ k. IsGoodToken (a ++ b) (start_of (xs ++ ys) k) (get_or (xs ++ ys) k d)) sum
          (subst (λ n. IsGoodToken (a ++ b) n (get_or (xs ++ ys) (length xs + j) d)) (sym start)
          (subst (IsGoodToken (a ++ b) (length a + start_of ys j)) (sym (get_or-append-add xs ys j d)) (good_later (start_of ys j) (get_or ys j d) good)))
    ]

    pub both_accepted : length a + length b ≤ 4294967295 → AreAcceptedTokens (a ++ b) (xs ++ ys)
    both_accepted short = record {
      short = omega (arith, short, length-append a b);
      good = λ i lt d. good_at i d lt;
      whole =
          ap bytes (take_all (length (xs ++ ys)) (xs ++ ys) (omega arith))
          ∙ omega (
            arith,
            sum_by-append (λ (t : Token). t.len) xs ys,
            a_bytes,
            sym b_ok.whole,
            ap bytes (take_all (length ys) ys (omega arith)),
            length-append a b,
          );
    }

-- The tokens of a part of a text are accepted over that part.
use Rattle.std.proofs.Common.{◌≡◌, ◌∙◌, ℕ, zero, suc, ◌+◌, ◌-◌, ◌<◌, ◌≤◌, List, [], ◌∷◌, ◌++◌, length, take, drop, get_or, arith, ap, sym, subst, refl, length-append, length-drop, length-take}
use Rattle.std.specs.Prelude.{IsCharBoundary, IsUtf8, None, slice_range}
use Rattle.std.proofs.Math.Seq.{take-append-add}
use Rattle.std.proofs.lemmas.List.{drop-drop, drop-take, get_or-append-add, get_or_append_left, take-append-le, take_all}
use Rattle.std.proofs.lemmas.List.Sums.{sum_by-append, sum_by-take-le, sum_by_more}
use Rattle.std.proofs.lemmas.Str.{IsCharBoundary-from_take, IsUtf8-drop, IsUtf8-take}
use Rattle.squawk_tokens.specs.AcceptedTokens.{AreAcceptedTokens, IsGoodToken, start_of}
use Rattle.squawk_tokens.specs.TokenRules.{MeetsKind}
use Rattle.squawk_tokens.specs.declared.token.Token.{Token}
use Rattle.squawk_table.proofs.TableLemmas.{boundary}
use Rattle.sql_grammar.proofs.parts.Tables.{bytes}

-- ---- a part of a text

-- fronts of fronts
take-take : {A : Type 0} (i j : ℕ) (xs : List A) → i ≤ j → take i (take j xs) ≡ take i xs
take-take zero j xs le = refl
take-take (suc i) zero xs le = absurd (omega (arith, le))
take-take (suc i) (suc j) [] le = refl
take-take (suc i) (suc j) (x ∷ xs) le = ap (λ ys. x ∷ ys) (take-take i j xs (omega (arith, le)))

module _ (text : List ℕ) (utf8 : IsUtf8 text) (from to : ℕ) (begins : IsCharBoundary text from) (order : from ≤ to) (within : to ≤ length text) where
  abbrev part : List ℕ
  part = slice_range text from to

  -- what stands between two boundaries
  between_utf8 : (i : ℕ) → IsCharBoundary text (from + i) → IsUtf8 (take i (drop from text))
  between_utf8 i boundary =
      let front = take (from + i) text in
      let front_utf8 = IsUtf8-take text (from + i) utf8 boundary in
      let shorter : take from front ≡ take from text = take-take from (from + i) text (omega arith) in
      let inside : IsCharBoundary front from =
      IsCharBoundary-from_take front from front_utf8 (omega (arith, length-take (from + i) text, begins.0)) (subst IsUtf8 (sym shorter) (IsUtf8-take text from utf8 begins)) in
      subst IsUtf8 (drop-take from i text) (IsUtf8-drop front from front_utf8 inside)

  pub part_utf8 : IsCharBoundary text to → IsUtf8 part
  part_utf8 ends =
      let sum : from + (to - from) ≡ to = omega (arith, order) in
      between_utf8 (to - from) (subst (IsCharBoundary text) (sym sum) ends)

  pub part_length : length part ≡ to - from
  part_length = omega (arith, length-take (to - from) (drop from text), length-drop from text, within, order)

  pub part_boundary : IsCharBoundary text to → (i : ℕ) → i ≤ to - from → IsCharBoundary text (from + i) → IsCharBoundary part i
  part_boundary ends i le boundary =
      IsCharBoundary-from_take part i (part_utf8 ends) (omega (arith, le, part_length))
      (subst IsUtf8 (sym (take-take i (to - from) (drop from text) le)) (between_utf8 i boundary))

  -- a part of the part
  pub part_part : (i j : ℕ) → i ≤ j → j ≤ to - from → slice_range part i j ≡ slice_range text (from + i) (from + j)
  part_part i j low high =
      let sum : i + (to - from - i) ≡ to - from = omega (arith, low, high) in
      let len : from + j - (from + i) ≡ j - i = omega arith in
      ap (λ n. take (j - i) (drop i (take n (drop from text)))) (sym sum)
      ∙ (ap (take (j - i)) (drop-take i (to - from - i) (drop from text))
      ∙ (take-take (j - i) (to - from - i) (drop i (drop from text)) (omega (arith, low, high))
      ∙ (ap (take (j - i)) (drop-drop i from text) ∙ ap (λ n. take n (drop (from + i) text)) (sym len))))

-- ---- its tokens

module _ (text : List ℕ) (utf8 : IsUtf8 text) (front cut later : List Token) (ok : AreAcceptedTokens text (front ++ (cut ++ later))) where
  abbrev all : List Token
  all = front ++ (cut ++ later)

  abbrev from : ℕ
  from = bytes front

  abbrev to : ℕ
  to = bytes front + bytes cut

  place : (i : ℕ) → i ≤ length cut → start_of all (length front + i) ≡ bytes front + start_of cut i
  place i le =
      ap bytes (take-append-add front (cut ++ later) i)
      ∙ (sum_by-append (λ (t : Token). t.len) front (take i (cut ++ later)) ∙ ap (λ ts. bytes front + bytes ts) (take-append-le i cut later le))

  total : length text ≡ bytes front + (bytes cut + bytes later)
  total =
      omega (
        arith,
        sym ok.whole,
        ap bytes (take_all (length all) all (omega arith)),
        sum_by-append (λ (t : Token). t.len) front (cut ++ later),
        sum_by-append (λ (t : Token). t.len) cut later,
      )

  good_at : (i : ℕ) (d : Token) → i < length cut → IsGoodToken text (bytes front + start_of cut i) (get_or cut i d)
  good_at i d lt =
      let within : length front + i < length all = omega (arith, lt, length-append front (cut ++ later), length-append cut later) in
      let same : get_or all (length front + i) d ≡ get_or cut i d = get_or-append-add front (cut ++ later) i d ∙ get_or_append_left cut later d i lt in
      subst (λ n. IsGoodToken text n (get_or cut i d)) (place i (omega (arith, lt)))
      (subst (λ t. IsGoodToken text (start_of all (length front + i)) t) same (ok.good (length front + i) within d))

  here : start_of all (length front) ≡ bytes front
  here = let none : length front + 0 ≡ length front = omega arith in ap (start_of all) (sym none) ∙ (place 0 (omega arith) ∙ omega arith)

  there : start_of all (length front + length cut) ≡ to
  there = place (length cut) (omega arith) ∙ ap (λ ts. bytes front + bytes ts) (take_all (length cut) cut (omega arith))

  pub begins_at : IsCharBoundary text from
  begins_at = subst (IsCharBoundary text) here (boundary (λ _. None) text all ok utf8 (length front) (omega (arith, length-append front (cut ++ later))))

  pub ends_at : IsCharBoundary text to
  ends_at =
      subst (IsCharBoundary text) there
      (boundary (λ _. None) text all ok utf8 (length front + length cut) (omega (arith, length-append front (cut ++ later), length-append cut later)))

  order : from ≤ to
  order = omega arith

  pub within_text : to ≤ length text
  within_text = omega (arith, total)

  abbrev cut_text : List ℕ
  cut_text = slice_range text from to

  size : to - from ≡ bytes cut
  size = omega arith

  next_start : (i : ℕ) (d : Token) → i < length cut → start_of cut (i + 1) ≡ start_of cut i + (get_or cut i d).len
  next_start i d lt = sum_by_more (λ (t : Token). t.len) cut i d lt

  good_in_part : (i : ℕ) (d : Token) → i < length cut → IsGoodToken cut_text (start_of cut i) (get_or cut i d)
  good_in_part i d lt =
      let t = get_or cut i d in
      let good = good_at i d lt in
      let low = start_of cut i in
      let fits : low + t.len ≤ to - from = omega (arith, size, next_start i d lt, sum_by-take-le (λ (t : Token). t.len) cut (i + 1)) in
      let place : from + low + t.len ≡ from + (low + t.len) = omega arith in
      record {
        nonempty = good.nonempty;
        boundary = part_boundary text utf8 from to begins_at order within_text ends_at (low + t.len) fits (subst (IsCharBoundary text) place good.boundary);
        kind = subst (λ part. MeetsKind part t.kind)
            (ap (slice_range text (from + low)) place ∙ sym (part_part text utf8 from to begins_at order within_text low (low + t.len) (omega arith) fits)) good.kind;
      }

  pub part_accepted : AreAcceptedTokens cut_text cut
  part_accepted = record {
    short = omega (arith, ok.short, total, size, part_length text utf8 from to begins_at order within_text);
    good = λ i lt d. good_in_part i d lt;
    whole = omega (arith, size, part_length text utf8 from to begins_at order within_text, ap bytes (take_all (length cut) cut (omega arith)));
  }

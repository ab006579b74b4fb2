-- A loop cuts statement after statement, and remembers where a part can end.
use Rattle.std.proofs.Common.{◌≡◌, ◌∙◌, ℕ, zero, suc, ◌+◌, ◌-◌, ◌<◌, ◌≤◌, ◌&&◌, ◌||◌, ◌⊎◌, inl, inr, Bool, true, false, nat_lt, is_some, List, [], ◌∷◌, ◌++◌, length, take, length-append, ⊎_elim, arith, ap, sym, subst, refl}
use Rattle.std.proofs.lemmas.Bool.{and_parts, cases_lt, false≢true, ltb-true}
use Rattle.std.proofs.lemmas.List.{take_all, take-append-le}
use Rattle.squawk_tokens.specs.declared.token.Token.{Token}
use Rattle.sql_lexer.specs.Lines.{EndsLine}
use Rattle.sql_lexer.specs.ScriptLexing.{Cuts, Lexing, after_statement, after_statements, longer, next_statement, script_place}
use Rattle.sql_grammar.specs.CutParts.{CutsInScript, CutsStatements}
use Rattle.sql_grammar.specs.ReadParts.{NoneEnds, NoneLeft, can_end_part}
use Rattle.sql_grammar.proofs.parts.Cuts.{cuts_next}
use Rattle.sql_grammar.proofs.parts.Tables.{bytes}

-- So many statements are cut up to a place, and up to one where a part can end.
pub record IsCutting (is_last : Bool) (old now kept : Lexing) (tokens : List Token) (count : ℕ) : Type 0 where
  pub n : ℕ
  pub text : now.text ≡ old.text
  pub cuts : CutsStatements n old now tokens
  pub cuts_longer : EndsLine old.text → now.at < length old.text → (rest : List ℕ) → CutsStatements n (longer rest old) (longer rest now) tokens
  pub k : ℕ
  pub kept_text : kept.text ≡ old.text
  pub within : count ≤ length tokens
  pub keeps : CutsStatements k old kept (take count tokens)
  pub keeps_longer : is_last ≡ false → 0 < k → EndsLine old.text → (rest : List ℕ) → CutsStatements k (longer rest old) (longer rest kept) (take count tokens)
  pub some : 0 < count → 0 < k
  pub from_none : count ≡ 0 → k ≡ 0
  pub ends : is_last ≡ false → 0 < k → can_end_part kept ≡ true
  pub all : is_last ≡ true → (kept ≡ now) × (count ≡ length tokens)
  pub since : is_last ≡ false → (m : ℕ) → k < m → m ≤ n → can_end_part (after_statements m old) ≡ false

module _ (is_last : Bool) (old now kept new : Lexing) (tokens more : List Token) (count : ℕ) (is : IsCutting is_last old now kept tokens count) (left : now.at < length now.text)
    (same : new.text ≡ now.text) (cuts : Cuts now new tokens more)
    (cuts_of_longer : EndsLine now.text → new.at < length now.text → (rest : List ℕ) → Cuts (longer rest now) (longer rest new) tokens more) where
  cut : CutsStatements (suc is.n) old new more
  cut = cuts_next old now new tokens more is.text cuts is.n same is.cuts

  new_text : new.text ≡ old.text
  new_text = same ∙ is.text

  cut_longer : EndsLine old.text → new.at < length old.text → (rest : List ℕ) → CutsStatements (suc is.n) (longer rest old) (longer rest new) more
  cut_longer ends lt rest =
      let within : new.at < length now.text = omega (arith, lt, ap length is.text) in
      let before : now.at < length old.text = omega (arith, lt, cuts.at) in
      cuts_next (longer rest old) (longer rest now) (longer rest new) tokens more (ap (λ text. text ++ rest) is.text) (cuts_of_longer (subst EndsLine (sym is.text) ends) within rest) is.n
      (ap (λ text. text ++ rest) same) (is.cuts_longer ends before rest)

  -- some tokens are cut
  has_tokens : (ts : List Token) → 0 < bytes ts → 0 < length ts
  has_tokens [] lt = lt
  has_tokens (t ∷ ts) lt = omega arith

  some_tokens : 0 < length more
  some_tokens = has_tokens more (omega (arith, cut.at, cuts.goes_on left, is.cuts.at))

  pub kept_here : (is_last || can_end_part new) ≡ true → IsCutting is_last old new new more (length more)
  kept_here keeps = record {
    n = suc is.n;
    text = new_text;
    cuts = cut;
    cuts_longer = cut_longer;
    k = suc is.n;
    kept_text = new_text;
    within = omega arith;
    keeps = subst (CutsStatements (suc is.n) old new) (sym (take_all (length more) more (omega arith))) cut;
    keeps_longer = λ last lt ends rest.
        subst (CutsStatements (suc is.n) (longer rest old) (longer rest new)) (sym (take_all (length more) more (omega arith)))
        (cut_longer ends (within_text (can_end last)) rest);
    some = λ lt. omega arith;
    from_none = λ e. absurd (omega (arith, e, some_tokens));
    ends = λ last lt. can_end last;
    all = λ last. (refl, refl);
    since = λ last m after le. absurd (omega (arith, after, le));
  }
    where
      by_last : (b : Bool) → (b || can_end_part new) ≡ true → b ≡ false → can_end_part new ≡ true
      by_last true e last = absurd (false≢true (sym last))
      by_last false e last = e

      can_end : is_last ≡ false → can_end_part new ≡ true
      can_end last = by_last is_last keeps last

      within_text : can_end_part new ≡ true → new.at < length old.text
      within_text e = omega (arith, ltb-true new.at (length new.text) (and_parts (nat_lt new.at (length new.text)) (is_some (script_place new.place)) e).0, ap length new_text)

  pub goes_by : (is_last || can_end_part new) ≡ false → IsCutting is_last old new kept more count
  goes_by keeps = record {
    n = suc is.n;
    text = new_text;
    cuts = cut;
    cuts_longer = cut_longer;
    k = is.k;
    kept_text = is.kept_text;
    within = omega (arith, is.within, ap length cuts.tokens, length-append tokens (next_statement now));
    keeps = subst (CutsStatements is.k old kept) (sym same_front) is.keeps;
    keeps_longer = λ last lt ends rest. subst (CutsStatements is.k (longer rest old) (longer rest kept)) (sym same_front) (is.keeps_longer last lt ends rest);
    some = is.some;
    from_none = is.from_none;
    ends = is.ends;
    all = λ last. absurd (not_last is_last keeps last);
    since = λ last m after le.
        ⊎_elim
        (λ (lt : m < suc is.n). is.since last m after (omega (arith, lt)))
        (λ (ge : suc is.n ≤ m).
        let here : m ≡ suc is.n = omega (arith, ge, le) in
        subst (λ n. can_end_part (after_statements n old) ≡ false) (sym here) (subst (λ l. can_end_part l ≡ false) cut.after (cannot_end is_last keeps)))
        (cases_lt m (suc is.n));
  }
    where
      same_front : take count more ≡ take count tokens
      same_front = ap (take count) cuts.tokens ∙ take-append-le count tokens (next_statement now) is.within

      not_last : (b : Bool) → (b || can_end_part new) ≡ false → b ≡ true → ⊥
      not_last true e last = false≢true (sym e)
      not_last false e last = false≢true last

      cannot_end : (b : Bool) → (b || can_end_part new) ≡ false → can_end_part new ≡ false
      cannot_end true e = absurd (false≢true (sym e))
      cannot_end false e = e

-- ---- the end of the loop

-- a lexer doesn't go back, and keeps its text
later_text : (n : ℕ) (l : Lexing) → (after_statements n l).text ≡ l.text
later_text zero l = refl
later_text (suc n) l = later_text n l

later_at : (n d : ℕ) (l : Lexing) → (after_statements n l).at ≤ (after_statements (d + n) l).at
later_at n zero l = let same : 0 + n ≡ n = omega arith in subst (λ m. (after_statements n l).at ≤ (after_statements m l).at) (sym same) (omega arith)
later_at n (suc d) l =
    let next : suc d + n ≡ suc (d + n) = omega arith in
    subst (λ m. (after_statements n l).at ≤ (after_statements m l).at) (sym next) (omega (arith, later_at n d l))

no_end : (l : Lexing) → length l.text ≤ l.at → can_end_part l ≡ false
no_end l le = ap (λ b. b && is_some (script_place l.place)) (not_lt (nat_lt l.at (length l.text)) refl)
  where
    not_lt : (b : Bool) → nat_lt l.at (length l.text) ≡ b → nat_lt l.at (length l.text) ≡ false
    not_lt true e = absurd (omega (arith, ltb-true l.at (length l.text) e, le))
    not_lt false e = e

-- at the end of a text no part can end
pub none_at_end : (l : Lexing) → length l.text ≤ l.at → NoneEnds l
none_at_end l le = λ m some.
    let same : m + 0 ≡ m = omega arith in
    let at : l.at ≤ (after_statements m l).at = subst (λ x. l.at ≤ (after_statements x l).at) same (later_at 0 m l) in
    no_end (after_statements m l) (omega (arith, at, le, ap length (later_text m l)))

-- so many statements, and so many more
after_more : (m k : ℕ) (l : Lexing) → after_statements m (after_statements k l) ≡ after_statements (m + k) l
after_more zero k l = let same : 0 + k ≡ k = omega arith in ap (λ n. after_statements n l) (sym same)
after_more (suc m) k l =
    let next : suc m + k ≡ suc (m + k) = omega arith in
    ap after_statement (after_more m k l) ∙ ap (λ n. after_statements n l) (sym next)

module _ (is_last : Bool) (old now kept : Lexing) (tokens : List Token) (count : ℕ) (is : IsCutting is_last old now kept tokens count) (at_end : length now.text ≤ now.at) where
  none_after : (m : ℕ) → is.k < m → is_last ≡ false → can_end_part (after_statements m old) ≡ false
  none_after m after last =
      ⊎_elim
      (λ (lt : m < suc is.n). is.since last m after (omega (arith, lt)))
      (λ (ge : suc is.n ≤ m).
      let sum : m - is.n + is.n ≡ m = omega (arith, ge) in
      let at : (after_statements is.n old).at ≤ (after_statements m old).at = subst (λ x. (after_statements is.n old).at ≤ (after_statements x old).at) sum (later_at is.n (m - is.n) old) in
      no_end (after_statements m old)
      (omega (arith, at, ap (λ (l : Lexing). l.at) is.cuts.after, at_end, ap length is.text, ap length (later_text m old))))
      (cases_lt m (suc is.n))

  -- no part can end after what is kept
  ends_none : is_last ≡ false → NoneEnds kept
  ends_none last = λ m some.
      subst (λ l. can_end_part l ≡ false) (sym (ap (after_statements m) is.keeps.after ∙ after_more m is.k old)) (none_after (m + is.k) (omega (arith, some)) last)

  left_with : (b : Bool) → is_last ≡ b → NoneLeft b kept
  left_with true last =
      let all : kept ≡ now = (is.all last).0 in
      subst (λ (l : Lexing). length l.text ≤ l.at) (sym all) at_end
  left_with false last = ends_none last

  none_left : NoneLeft is_last kept
  none_left = left_with is_last refl

  pub ends_front : is_last ≡ false → count ≡ 0 → NoneEnds old
  ends_front last e = subst NoneEnds (is.keeps.after ∙ ap (λ n. after_statements n old) (is.from_none e)) (ends_none last)

module _ (is_last : Bool) (old now kept : Lexing) (tokens : List Token) (count : ℕ) (is : IsCutting is_last old now kept tokens count) where
  from_front : is.k ≡ 0 → kept.at ≡ old.at
  from_front e = ap (λ (l : Lexing). l.at) (is.keeps.after ∙ ap (λ n. after_statements n old) e)

  pub at_front : count ≡ 0 → kept.at ≡ old.at
  at_front e = from_front (is.from_none e)

-- What is kept is a part, where something is, or where no other text follows. So many bytes are kept, or all is cut.
module _ (least : ℕ) (is_last : Bool) (old now kept : Lexing) (tokens : List Token) (count : ℕ) (is : IsCutting is_last old now kept tokens count)
    (kept_some : (0 < count) ⊎ (is_last ≡ true)) (enough : ((old.at + least ≤ kept.at) × (old.at < kept.at)) ⊎ (length now.text ≤ now.at)) where
  nonzero : (k : ℕ) → (k ≡ 0 → ⊥) → 0 < k
  nonzero zero none = absurd (none refl)
  nonzero (suc k) none = omega arith

  some : old.at < length old.text → 0 < is.k
  some left =
      ⊎_elim is.some
      (λ (last : is_last ≡ true).
      let same : now.at ≡ kept.at = ap (λ (l : Lexing). l.at) (sym (is.all last).0) in
      nonzero is.k
      (λ e.
      ⊎_elim
      (λ (more : (old.at + least ≤ kept.at) × (old.at < kept.at)). omega (arith, more.1, from_front is_last old now kept tokens count is e))
      (λ (at_end : length now.text ≤ now.at). omega (arith, at_end, same, from_front is_last old now kept tokens count is e, left, ap length is.text))
      enough))
      kept_some

  goes_on : is_last ≡ false → 0 < is.k
  goes_on last = ⊎_elim is.some (λ (e : is_last ≡ true). absurd (false≢true (sym last ∙ e))) kept_some

  pub part_of : CutsInScript least is_last old kept (take count tokens)
  part_of = record {
    text = is.kept_text;
    part = record { count = is.k; some = some; cuts = is.keeps };
    ends = λ last. is.ends last (goes_on last);
    longer = λ last ends rest. (is.keeps_longer last (goes_on last) ends rest).left;
    full = ⊎_elim
        (λ (more : (old.at + least ≤ kept.at) × (old.at < kept.at)). inl more.0)
        (λ (at_end : length now.text ≤ now.at). inr (none_left is_last old now kept tokens count is at_end))
        enough;
  }

-- ---- tests

pub by_left : (a b : Bool) → a ≡ true → (a || b) ≡ true
by_left a b e = ap (λ x. x || b) e

pub by_right : (a b : Bool) → b ≡ true → (a || b) ≡ true
by_right true b e = refl
by_right false b e = e

pub by_neither : (a b : Bool) → a ≡ false → b ≡ false → (a || b) ≡ false
by_neither a b e f = ap (λ x. x || b) e ∙ f

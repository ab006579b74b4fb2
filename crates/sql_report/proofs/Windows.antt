-- What a window shows of a line is what the script shows.
use Rattle.std.proofs.Common.{◌≡◌, ◌∙◌, ◌⊎◌, inl, inr, ℕ, zero, suc, ◌+◌, ◌-◌, ◌<◌, ◌≤◌, ◌||◌, ◌^◌, Bool, true, false, cond, List, [], ◌∷◌, ◌++◌, length, min, take, drop, append_assoc, ap, arith, refl, subst, sym, length-append, length-take}
use Rattle.std.specs.List.{count_by, list_any, prefix_len, take_while}
use Rattle.std.proofs.Math.Seq.{drop-append-add, take-append-add}
use Rattle.std.proofs.lemmas.Bool.{cases_lt, eqb-true, false≢true}
use Rattle.std.proofs.lemmas.List.{append-nil, drop-append-le, drop-drop, drop_all, drop_min, take-append-drop, take-append-le, take_all, take_min}
use Rattle.std.proofs.lemmas.List.Folds.{list_any-append}
use Rattle.std.proofs.lemmas.List.Sums.{take_while-cons}
use Rattle.sql_report.specs.ErrorLines.{error_at, shown_error}
use Rattle.sql_report.specs.Findings.{Told}
use Rattle.sql_report.specs.Places.{AreCountable, IsLineColumn, IsPartOfWindow, IsSameWindow, IsWindowOf, SeesLine, Spot, begins_character, column_at, is_continuation, is_feed, is_in_line, last_line, line_at, shown_before, shown_behind}
use Rattle.sql_report.specs.declared.line_column.LineColumn.{LineColumn}
use Rattle.sql_report.proofs.LastLines.{near, near-last_line, or_true, past_continuation}
use Rattle.sql_report.proofs.LineColumns.{column_read, line_read}

-- ---- up to a line feed

-- what is shown of a text, which begins in a line
abbrev shown : List ℕ → List ℕ
shown text = take_while is_in_line (take (100 + prefix_len is_continuation (drop 100 text)) text)

line-feed : (front more : List ℕ) (n : ℕ) → take_while is_in_line (take n (front ++ 10 ∷ more)) ≡ take_while is_in_line (take n front)
line-feed [] more zero = refl
line-feed [] more (suc n) = refl
line-feed (b ∷ front) more zero = refl
line-feed (b ∷ front) more (suc n) =
    take_while-cons is_in_line b (take n (front ++ 10 ∷ more))
    ∙ (ap (λ l. cond (is_in_line b) (b ∷ l) []) (line-feed front more n) ∙ sym (take_while-cons is_in_line b (take n front)))

continued-feed : (front more : List ℕ) → prefix_len is_continuation (front ++ 10 ∷ more) ≡ prefix_len is_continuation front
continued-feed [] more = refl
continued-feed (b ∷ front) more = ap (λ n. cond (is_continuation b) (1 + n) 0) (continued-feed front more)

-- what stands after a line feed isn't shown
shown-feed : (front more : List ℕ) → shown (front ++ 10 ∷ more) ≡ shown front
shown-feed front more =
    let n = prefix_len is_continuation (drop 100 (front ++ 10 ∷ more)) in
    line-feed front more (100 + n) ∙ ap (take_while is_in_line) (same n refl (cases_lt (length front) 100))
  where
    same : (n : ℕ) → n ≡ prefix_len is_continuation (drop 100 (front ++ 10 ∷ more)) → (length front < 100) ⊎ (100 ≤ length front)
        → take (100 + n) front ≡ take (100 + prefix_len is_continuation (drop 100 front)) front
    same n is (inl lt) = take_all (100 + n) front (omega (arith, lt)) ∙ sym (take_all (100 + prefix_len is_continuation (drop 100 front)) front (omega (arith, lt)))
    same n is (inr le) =
        ap (λ m. take (100 + m) front) (is ∙ (ap (prefix_len is_continuation) (drop-append-le 100 front (10 ∷ more) le) ∙ continued-feed (drop 100 front) more))

-- a text with a line feed
record HasFeed (text : List ℕ) : Type 0 where
  front : List ℕ
  more : List ℕ
  is : text ≡ front ++ 10 ∷ more

has_feed : (text : List ℕ) → list_any is_feed text ≡ true → HasFeed text
has_feed [] any = absurd (false≢true any)
has_feed (b ∷ text) any = either (is_feed b) refl (has_feed text)
  where
    either : (v : Bool) → is_feed b ≡ v → (list_any is_feed text ≡ true → HasFeed text) → HasFeed (b ∷ text)
    either true feed later = record { front = []; more = text; is = ap (λ c. c ∷ text) (eqb-true b 10 feed) }
    either false other later =
        let h = later (ap (λ v. v || list_any is_feed text) (sym other) ∙ any) in
        record { front = b ∷ h.front; more = h.more; is = ap (λ l. b ∷ l) h.is }

shown-more : (text rest : List ℕ) → (rest ≡ []) ⊎ (list_any is_feed text ≡ true) → shown (text ++ rest) ≡ shown text
shown-more text rest (inl none) = ap (λ l. shown (text ++ l)) none ∙ ap shown (append-nil text)
shown-more text rest (inr any) =
    let h = has_feed text any in
    ap (λ t. shown (t ++ rest)) h.is
    ∙ (ap shown (append_assoc h.front (10 ∷ h.more) rest) ∙ (shown-feed h.front (h.more ++ rest) ∙ (sym (shown-feed h.front h.more) ∙ ap shown (sym h.is))))

-- ---- bytes of a window

module _ (passed rest window : List ℕ) (at : ℕ) (within : (rest ≡ []) ⊎ (at ≤ length window)) where
  abbrev whole : List ℕ
  whole = passed ++ (window ++ rest)

  taken : take (length passed + at) whole ≡ passed ++ take at window
  taken = take-append-add passed (window ++ rest) at ∙ ap (λ l. passed ++ l) (front within)
    where
      front : (rest ≡ []) ⊎ (at ≤ length window) → take at (window ++ rest) ≡ take at window
      front (inl none) = ap (λ l. take at (window ++ l)) none ∙ ap (take at) (append-nil window)
      front (inr le) = take-append-le at window rest le

  dropped : drop (length passed + at) whole ≡ drop at window ++ rest
  dropped = drop-append-add passed (window ++ rest) at ∙ left within
    where
      left : (rest ≡ []) ⊎ (at ≤ length window) → drop at (window ++ rest) ≡ drop at window ++ rest
      left (inl none) = ap (λ l. drop at (window ++ l)) none ∙ (ap (drop at) (append-nil window) ∙ (sym (append-nil (drop at window)) ∙ ap (λ l. drop at window ++ l) (sym none)))
      left (inr le) = drop-append-le at window rest le

  line_there : (c : LineColumn) → IsLineColumn (passed ++ take at window) c → c.line ≡ line_at whole (length passed + at)
  line_there c is = line_read (passed ++ take at window) c is ∙ ap (λ l. count_by is_feed l + 1) (sym taken)

  column_there : (c : LineColumn) → IsLineColumn (passed ++ take at window) c → c.column ≡ column_at whole (length passed + at)
  column_there c is = column_read (passed ++ take at window) c is ∙ ap (λ l. count_by begins_character (last_line l) + 1) (sym taken)

  before_there : (passed ≡ []) ⊎ (100 ≤ length (take at window)) → shown_before window at ≡ shown_before whole (length passed + at)
  before_there enough =
      let front = take at window in
      ap past_continuation
      (near-last_line front ∙ (ap last_line (sym (same enough)) ∙ (sym (near-last_line (passed ++ front)) ∙ ap (λ l. near (last_line l)) (sym taken))))
    where
      same : (passed ≡ []) ⊎ (100 ≤ length (take at window)) → near (passed ++ take at window) ≡ near (take at window)
      same (inl none) = ap (λ l. near (l ++ take at window)) none
      same (inr enough) =
          let front = take at window in
          let past : length (passed ++ front) - 100 ≡ length passed + (length front - 100) = omega (arith, enough, length-append passed front) in
          ap (λ n. drop n (passed ++ front)) past ∙ drop-append-add passed front (length front - 100)

  behind_there : (rest ≡ []) ⊎ (list_any is_feed (drop at window) ≡ true) → shown_behind window at ≡ shown_behind whole (length passed + at)
  behind_there ends = sym (ap shown dropped ∙ shown-more (drop at window) rest ends)

-- ---- a place of a window

-- it is the same at another byte
pub of_same : (script passed rest : List ℕ) (old new : Spot) → IsSameWindow old new → IsWindowOf script passed rest old → IsWindowOf script passed rest new
of_same script passed rest old new same is = record {
  script_is = is.script_is ∙ ap (λ w. passed ++ (w ++ rest)) (sym same.window);
  before_is = subst (IsLineColumn passed) (sym same.before) is.before_is;
  countable = subst (λ w. AreCountable (passed ++ w)) (sym same.window) is.countable;
}

-- what is counted at a place
abbrev pub AreCounts : Spot → LineColumn → Type 0
AreCounts place c =
    (passed : List ℕ) → IsLineColumn passed place.before → AreCountable (passed ++ place.window) → IsLineColumn (passed ++ take place.at place.window) c

module _ (script passed rest : List ℕ) (old place : Spot) (same : IsSameWindow old place) (is : IsWindowOf script passed rest old) (at : ℕ)
    (there : place.at ≡ min at (length place.window)) (c : LineColumn) (counts : AreCounts place c) where
  abbrev pub w : List ℕ
  w = old.window

  front : take place.at place.window ≡ take at w
  front = ap (λ n. take n place.window) there ∙ (take_min at place.window ∙ ap (take at) same.window)

  counted : IsLineColumn (passed ++ take at w) c
  counted = let of = of_same script passed rest old place same is in subst (λ l. IsLineColumn (passed ++ l) c) front (counts passed of.before_is of.countable)

  -- its line and its column
  pub place_there : (rest ≡ []) ⊎ (at ≤ length w) → (c.line ≡ line_at script (length passed + at)) × (c.column ≡ column_at script (length passed + at))
  place_there inside = (
    line_there passed rest w at inside c counted ∙ ap (λ s. line_at s (length passed + at)) (sym is.script_is),
    column_there passed rest w at inside c counted ∙ ap (λ s. column_at s (length passed + at)) (sym is.script_is),
  )

  -- an error there
  pub error_there : (name : List ℕ) (error : Told) → SeesLine passed rest w at
      → shown_error name c.line c.column (shown_before place.window place.at) (shown_behind place.window place.at) error ≡ error_at name script (length passed + at) error
  error_there name error sees =
      let inside = within sees.line_ends in
      let n = length passed + at in
      let counts = place_there inside in
      let before : shown_before place.window place.at ≡ shown_before script n =
      ap (λ l. past_continuation (near (last_line l))) front ∙ (before_there passed rest w at inside sees.enough_before ∙ ap (λ s. shown_before s n) (sym is.script_is)) in
      let behind : shown_behind place.window place.at ≡ shown_behind script n =
      ap shown (ap (λ n. drop n place.window) there ∙ (drop_min at place.window ∙ ap (drop at) same.window))
      ∙ (behind_there passed rest w at inside sees.line_ends ∙ ap (λ s. shown_behind s n) (sym is.script_is)) in
      rw (counts.0, counts.1, before, behind) refl
    where
      within : (rest ≡ []) ⊎ (list_any is_feed (drop at w) ≡ true) → (rest ≡ []) ⊎ (at ≤ length w)
      within (inl none) = inl none
      within (inr feed) = elim (cases_lt (length w) at) [
        | inl past ↦ absurd (false≢true (ap (list_any is_feed) (sym (drop_all at w (omega (arith, past)))) ∙ feed))
        | inr le ↦ inr le
      ]

-- a window that is all of a script
pub whole_window : (text : List ℕ) (place : Spot) → place.window ≡ text → IsLineColumn [] place.before → length text < 2 ^ 63 → IsWindowOf text [] [] place
whole_window text place window before few = record {
  script_is = sym (append-nil place.window ∙ window);
  before_is = before;
  countable = omega (arith, few, ap length window);
}

-- a byte of a part
pub sees_part : (script passed rest : List ℕ) (place : Spot) (begins start len at : ℕ) → IsPartOfWindow script passed rest place begins start len → at ≤ len
    → SeesLine passed rest place.window (start + at)
sees_part script passed rest place begins start len at part le = record {
  enough_before = before part.enough_before;
  line_ends = ends part.line_ends;
}
  where
    before : (passed ≡ []) ⊎ (100 ≤ start) → (passed ≡ []) ⊎ (100 ≤ length (take (start + at) place.window))
    before (inl none) = inl none
    before (inr enough) = inr (omega (arith, enough, le, part.within, length-take (start + at) place.window))

    ends : (rest ≡ []) ⊎ (list_any is_feed (drop (start + len) place.window) ≡ true) → (rest ≡ []) ⊎ (list_any is_feed (drop (start + at) place.window) ≡ true)
    ends (inl none) = inl none
    ends (inr feed) =
        let left = drop (start + at) place.window in
        let to : (start + at) + (len - at) ≡ start + len = omega arith in
        let later : drop (len - at) left ≡ drop (start + len) place.window = drop-drop (len - at) (start + at) place.window ∙ ap (λ n. drop n place.window) to in
        let front = take (len - at) left in
        inr
        (ap (list_any is_feed) (sym (take-append-drop (len - at) left))
        ∙ (list_any-append is_feed front (drop (len - at) left)
        ∙ (ap (λ l. list_any is_feed front || list_any is_feed l) later ∙ (ap (λ v. list_any is_feed front || v) feed ∙ or_true (list_any is_feed front)))))

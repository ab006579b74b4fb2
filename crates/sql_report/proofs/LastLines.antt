-- The last line of a text in two.
use Rattle.std.proofs.Common.{◌≡◌, ◌∙◌, ℕ, ◌+◌, ◌-◌, ◌<◌, ◌≤◌, ◌||◌, Bool, true, false, List, [], ◌∷◌, ◌++◌, length, take, drop, get_or, if◌then◌else◌, append_assoc, ap, arith, refl, sym, length-append, length-drop, length-take}
use Rattle.std.specs.List.{list_any, prefix_len}
use Rattle.std.proofs.lemmas.List.{drop_at, drop_more, take-append-drop, take_more}
use Rattle.std.proofs.lemmas.List.Folds.{list_any-append}
use Rattle.sql_report.specs.Places.{is_continuation, is_feed, last_line}

pub or_true : (b : Bool) → (b || true) ≡ true
or_true b = elim b as (λ v. (v || true) ≡ true) [ true ↦ refl | false ↦ refl ]

or_false : (b : Bool) → (b || false) ≡ b
or_false b = elim b as (λ v. (v || false) ≡ v) [ true ↦ refl | false ↦ refl ]

if-append : (b : Bool) (p q r : List ℕ) → (if b then p ++ r else q ++ r) ≡ (if b then p else q) ++ r
if-append b p q r = elim b as (λ v. (if v then p ++ r else q ++ r) ≡ (if v then p else q) ++ r) [ true ↦ refl | false ↦ refl ]

-- a text with a line feed has it
pub last_line-feed : (front rest : List ℕ) → list_any is_feed rest ≡ true → last_line (front ++ rest) ≡ last_line rest
last_line-feed [] rest feed = refl
last_line-feed (b ∷ front) rest feed =
    let any : list_any is_feed (b ∷ (front ++ rest)) ≡ true =
    list_any-append is_feed (b ∷ front) rest ∙ (ap (λ v. list_any is_feed (b ∷ front) || v) feed ∙ or_true (list_any is_feed (b ∷ front))) in
    ap (λ v. if v then last_line (front ++ rest) else b ∷ (front ++ rest)) any ∙ last_line-feed front rest feed

-- one without is all in it
last_line-all : (text : List ℕ) → list_any is_feed text ≡ false → last_line text ≡ text
last_line-all [] none = refl
last_line-all (b ∷ text) none = ap (λ v. if v then last_line text else b ∷ text) none

pub last_line-none : (front rest : List ℕ) → list_any is_feed rest ≡ false → last_line (front ++ rest) ≡ last_line front ++ rest
last_line-none [] rest none = last_line-all rest none
last_line-none (b ∷ front) rest none =
    let same : list_any is_feed (b ∷ (front ++ rest)) ≡ list_any is_feed (b ∷ front) =
    list_any-append is_feed (b ∷ front) rest ∙ (ap (λ v. list_any is_feed (b ∷ front) || v) none ∙ or_false (list_any is_feed (b ∷ front))) in
    ap (λ v. if v then last_line (front ++ rest) else b ∷ (front ++ rest)) same
    ∙ (ap (λ l. if list_any is_feed (b ∷ front) then l else b ∷ (front ++ rest)) (last_line-none front rest none)
    ∙ if-append (list_any is_feed (b ∷ front)) (last_line front) (b ∷ front) rest)

pub any_one : (byte : ℕ) (b : Bool) → is_feed byte ≡ b → list_any is_feed (byte ∷ []) ≡ b
any_one byte b is = ap (λ v. v || false) is ∙ or_false b

-- a line feed ends it
pub last_line-end : (front : List ℕ) (byte : ℕ) → is_feed byte ≡ true → last_line (front ++ byte ∷ []) ≡ []
last_line-end front byte feed = last_line-feed front (byte ∷ []) (any_one byte true feed) ∙ ap (λ v. if v || false then [] else byte ∷ []) feed

pub last_line-le : (text : List ℕ) → length (last_line text) ≤ length text
last_line-le [] = omega arith
last_line-le (b ∷ text) = either (list_any is_feed (b ∷ text)) (last_line-le text)
  where
    either : (v : Bool) → length (last_line text) ≤ length text → length (if v then last_line text else b ∷ text) ≤ length (b ∷ text)
    either true le = omega (arith, le)
    either false le = omega arith

-- ---- looked for from the end

-- a byte that is no line feed stands in it
pub last_line-back : (text : List ℕ) (at : ℕ) → at < length text → is_feed (get_or text at 0) ≡ false
    → last_line (take (at + 1) text) ++ drop (at + 1) text ≡ last_line (take at text) ++ drop at text
last_line-back text at lt other =
    let byte = get_or text at 0 in
    let more : last_line (take (at + 1) text) ≡ last_line (take at text) ++ byte ∷ [] =
    ap last_line (take_more text at 0 lt) ∙ last_line-none (take at text) (byte ∷ []) (any_one byte false other) in
    ap (λ l. l ++ drop (at + 1) text) more
    ∙ (append_assoc (last_line (take at text)) (byte ∷ []) (drop (at + 1) text) ∙ ap (λ l. last_line (take at text) ++ l) (sym (drop_more text at 0 lt)))

-- it begins after a line feed
pub last_line-found : (text : List ℕ) (at : ℕ) → at < length text → is_feed (get_or text at 0) ≡ true → last_line (take (at + 1) text) ≡ []
last_line-found text at lt feed = ap last_line (take_more text at 0 lt) ∙ last_line-end (take at text) (get_or text at 0) feed

-- ---- its last bytes

-- the last 100 bytes, or all
abbrev pub near : List ℕ → List ℕ
near text = drop (length text - 100) text

-- what stands after the bytes of a character that begins before them
abbrev pub past_continuation : List ℕ → List ℕ
past_continuation line = drop (prefix_len is_continuation line) line

-- those of the last line stand among those of the text
pub near-last_line : (text : List ℕ) → near (last_line text) ≡ last_line (near text)
near-last_line text =
    ap (λ t. near (last_line t)) (sym (take-append-drop n text)) ∙ either (list_any is_feed rest) refl
  where
    n : ℕ
    n = length text - 100

    front : List ℕ
    front = take n text

    rest : List ℕ
    rest = drop n text

    either : (v : Bool) → list_any is_feed rest ≡ v → near (last_line (front ++ rest)) ≡ last_line rest
    either true feed =
        let none : length (last_line rest) - 100 ≡ 0 = omega (arith, last_line-le rest, length-drop n text) in
        ap near (last_line-feed front rest feed) ∙ ap (λ i. drop i (last_line rest)) none
    either false none =
        let here = last_line front in
        let at : length (here ++ rest) - 100 ≡ length here = omega (arith, length-append here rest, last_line-le front, length-take n text, length-drop n text) in
        ap near (last_line-none front rest none) ∙ (ap (λ i. drop i (here ++ rest)) at ∙ (drop_at here rest (length here) refl ∙ sym (last_line-all rest none)))

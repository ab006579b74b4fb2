-- An end that is found in a text is found at the same place in one that goes on.
use Rattle.std.proofs.Common.{◌≡◌, ◌∙◌, ℕ, suc, ◌+◌, ◌-◌, ◌<◌, ◌≤◌, ◌==◌, Bool, true, false, Option, Some, None, List, [], ◌∷◌, ◌++◌, ⊎_elim, length, length-take, take, arith, ap, refl, sym, subst}
use Rattle.std.specs.Prelude.{IfSome, nat_eq, if◌then◌else◌}
use Rattle.std.proofs.lemmas.Bool.{cases_lt, cond_both, false≢true}
use Rattle.std.proofs.lemmas.List.{take-append-le}
use lib.Pointwise.{pointwise, bytes_decides}
use Rattle.sql_lexer.specs.Rules.{begins, past}
use Rattle.sql_lexer.specs.Strings.{quote_end, escape_end}
use Rattle.sql_lexer.specs.Comments.{comment_end, opens, closes}
use Rattle.sql_lexer.specs.DollarQuotes.{first_end}

-- what is found in a text is found in the longer one
abbrev pub Kept : Option ℕ → Option ℕ → Type 0
Kept found other = IfSome found (λ m. other ≡ Some m)

kept_past : (n : ℕ) (found other : Option ℕ) → Kept found other → Kept (past n found) (past n other)
kept_past n None other keeps = tt
kept_past n (Some m) other keeps = ap (past n) keeps

-- both go the same way at a test
branch : (b : Bool) (x y u v : Option ℕ) → (b ≡ true → Kept x u) → (b ≡ false → Kept y v) → Kept (if b then x else y) (if b then u else v)
branch true x y u v keeps others = keeps refl
branch false x y u v keeps others = others refl

-- ---- quotes, which no newline is

pub quote_keeps : (quote : ℕ) (front rest : List ℕ) → (10 == quote) ≡ false → Kept (quote_end quote (front ++ 10 ∷ [])) (quote_end quote ((front ++ 10 ∷ []) ++ rest))
quote_keeps quote [] rest none =
    cond_both (10 == quote) (Some 1) None (λ found. Kept found (quote_end quote (10 ∷ rest))) (λ e. absurd (false≢true (sym none ∙ e))) (λ e. tt)
quote_keeps quote (b ∷ []) rest none =
    let two = past 2 (quote_end quote []) in
    let long_two = past 2 (quote_end quote rest) in
    branch (b == quote) (if 10 == quote then two else Some 1) (past 1 (quote_end quote (10 ∷ [])))
    (if 10 == quote then long_two else Some 1) (past 1 (quote_end quote (10 ∷ rest)))
    (λ e. branch (10 == quote) two (Some 1) long_two (Some 1) (λ f. absurd (false≢true (sym none ∙ f))) (λ f. refl))
    (λ e. kept_past 1 (quote_end quote (10 ∷ [])) (quote_end quote (10 ∷ rest)) (quote_keeps quote [] rest none))
quote_keeps quote (b ∷ c ∷ front) rest none =
    let text = front ++ 10 ∷ [] in
    let long = text ++ rest in
    let two = past 2 (quote_end quote text) in
    let long_two = past 2 (quote_end quote long) in
    branch (b == quote) (if c == quote then two else Some 1) (past 1 (quote_end quote (c ∷ text)))
    (if c == quote then long_two else Some 1) (past 1 (quote_end quote (c ∷ long)))
    (λ e. branch (c == quote) two (Some 1) long_two (Some 1)
    (λ f. kept_past 2 (quote_end quote text) (quote_end quote long) (quote_keeps quote front rest none)) (λ f. refl))
    (λ e. kept_past 1 (quote_end quote (c ∷ text)) (quote_end quote (c ∷ long)) (quote_keeps quote (c ∷ front) rest none))

pub escape_keeps : (front rest : List ℕ) → Kept (escape_end (front ++ 10 ∷ [])) (escape_end ((front ++ 10 ∷ []) ++ rest))
escape_keeps [] rest = tt
escape_keeps (b ∷ []) rest =
    let one = past 1 (escape_end (10 ∷ rest)) in
    branch (b == 92) None (if b == 39 then Some 1 else None) (past 2 (escape_end rest)) (if b == 39 then Some 1 else one)
    (λ e. tt) (λ e. branch (b == 39) (Some 1) None (Some 1) one (λ f. refl) (λ f. tt))
escape_keeps (b ∷ c ∷ front) rest =
    let text = front ++ 10 ∷ [] in
    let long = text ++ rest in
    let one = past 1 (escape_end (c ∷ text)) in
    let long_one = past 1 (escape_end (c ∷ long)) in
    let two = past 2 (escape_end text) in
    let long_two = past 2 (escape_end long) in
    let keeps_two = kept_past 2 (escape_end text) (escape_end long) (escape_keeps front rest) in
    branch (b == 92) two (if b == 39 then (if c == 39 then two else Some 1) else one)
    long_two (if b == 39 then (if c == 39 then long_two else Some 1) else long_one)
    (λ e. keeps_two)
    (λ e. branch (b == 39) (if c == 39 then two else Some 1) one (if c == 39 then long_two else Some 1) long_one
    (λ f. branch (c == 39) two (Some 1) long_two (Some 1) (λ g. keeps_two) (λ g. refl))
    (λ f. kept_past 1 (escape_end (c ∷ text)) (escape_end (c ∷ long)) (escape_keeps (c ∷ front) rest)))

-- ---- comments

pub comment_keeps : (outer : ℕ) (text rest : List ℕ) → Kept (comment_end outer text) (comment_end outer (text ++ rest))
comment_keeps outer [] rest = tt
comment_keeps outer (b ∷ []) rest = tt
comment_keeps outer (b ∷ c ∷ text) rest =
    let long = text ++ rest in
    let deep = past 2 (comment_end (outer + 1) text) in
    let long_deep = past 2 (comment_end (outer + 1) long) in
    let back = past 2 (comment_end (outer - 1) text) in
    let long_back = past 2 (comment_end (outer - 1) long) in
    let one = past 1 (comment_end outer (c ∷ text)) in
    let long_one = past 1 (comment_end outer (c ∷ long)) in
    let closed = if outer == 0 then Some 2 else back in
    let long_closed = if outer == 0 then Some 2 else long_back in
    branch (opens b c) deep (if closes b c then closed else one) long_deep (if closes b c then long_closed else long_one)
    (λ e. kept_past 2 (comment_end (outer + 1) text) (comment_end (outer + 1) long) (comment_keeps (outer + 1) text rest))
    (λ e. branch (closes b c) closed one long_closed long_one
    (λ f. branch (outer == 0) (Some 2) back (Some 2) long_back (λ g. refl)
    (λ g. kept_past 2 (comment_end (outer - 1) text) (comment_end (outer - 1) long) (comment_keeps (outer - 1) text rest)))
    (λ f. kept_past 1 (comment_end outer (c ∷ text)) (comment_end outer (c ∷ long)) (comment_keeps outer (c ∷ text) rest)))

-- ---- tags

begins_same : (text rest tag : List ℕ) → length tag ≤ length text → begins (text ++ rest) tag ≡ begins text tag
begins_same text rest tag le = ap (pointwise nat_eq tag) (take-append-le (length tag) text rest le)

begins_within : (text tag : List ℕ) → begins text tag ≡ true → length tag ≤ length text
begins_within text tag e =
    let same : tag ≡ take (length tag) text = (bytes_decides tag (take (length tag) text)).0 e in
    omega (arith, ap length same, length-take (length tag) text)

within_more : (n m : ℕ) (found : Option ℕ) → IfSome found (λ k. n ≤ m) → IfSome (past 1 found) (λ k. n ≤ suc m)
within_more n m None within = tt
within_more n m (Some k) within = (let le : n ≤ m = within in let more : n ≤ suc m = omega (arith, le) in more)

-- a text has a tag that is found in it
tag_within : (tag text : List ℕ) → IfSome (first_end tag text) (λ k. length tag ≤ length text)
tag_within tag [] = tt
tag_within tag (b ∷ text) =
    cond_both (begins (b ∷ text) tag) (Some (length tag)) (past 1 (first_end tag text)) (λ found. IfSome found (λ k. length tag ≤ length (b ∷ text)))
    (λ e. begins_within (b ∷ text) tag e)
    (λ e. within_more (length tag) (length text) (first_end tag text) (tag_within tag text))

too_short : (n m : ℕ) (found other : Option ℕ) → IfSome found (λ k. n ≤ m) → m < n → Kept found other
too_short n m None other within lt = tt
too_short n m (Some k) other within lt = (let le : n ≤ m = within in absurd (omega (arith, le, lt)))

pub first_keeps : (tag text rest : List ℕ) → Kept (first_end tag text) (first_end tag (text ++ rest))
first_keeps tag [] rest = tt
first_keeps tag (b ∷ text) rest =
    let here = b ∷ text in
    let one = past 1 (first_end tag text) in
    let long_one = past 1 (first_end tag (text ++ rest)) in
    ⊎_elim
    (λ lt. too_short (length tag) (length here) (first_end tag here) (first_end tag (here ++ rest)) (tag_within tag here) lt)
    (λ le. subst (λ t. Kept (first_end tag here) (if t then Some (length tag) else long_one)) (sym (begins_same here rest tag le))
    (branch (begins here tag) (Some (length tag)) one (Some (length tag)) long_one (λ e. refl)
    (λ e. kept_past 1 (first_end tag text) (first_end tag (text ++ rest)) (first_keeps tag text rest))))
    (cases_lt (length here) (length tag))

-- The lines whose nodes are open.
use Rattle.std.proofs.Common.{◌≡◌, ◌∙◌, ℕ, suc, ◌+◌, List, [], ◌∷◌, ◌++◌, length, arith, ap, sym, refl}
use Rattle.std.specs.Prelude.{Some, None}
use Rattle.std.proofs.lemmas.List.{length-append}
use Rattle.squawk_tree.specs.Drawing.{open_count, openings_in}
use Rattle.squawk_tree.specs.SoundDrawings.{before_indices, open_indices}
use Rattle.squawk_tree.specs.declared.line.Line.{Line}
use Rattle.squawk_tree.specs.declared.line.Shown.{Shown}
use Rattle.squawk_tree.specs.declared.line.Shown.TheVariants.{Node, Token, Error}

pub open_count-append : (xs ys : List Line) → open_count (xs ++ ys) ≡ open_count xs + open_count ys
open_count-append [] ys = omega arith
open_count-append (x ∷ xs) ys = omega (arith, open_count-append xs ys)

-- ---- indices

before_indices-append : (index : ℕ) (shown : Shown) (ps qs : List ℕ) → before_indices index shown (ps ++ qs) ≡ before_indices index shown ps ++ qs
before_indices-append index (Node kind start None) ps qs = refl
before_indices-append index (Node kind start (Some end)) ps qs = refl
before_indices-append index (Token kind start end) ps qs = refl
before_indices-append index (Error text pos) ps qs = refl

before_indices-none : (index : ℕ) (shown : Shown) (ps : List ℕ) → openings_in shown ≡ 0 → before_indices index shown ps ≡ ps
before_indices-none index (Node kind start None) ps none = absurd (omega (arith, none))
before_indices-none index (Node kind start (Some end)) ps none = refl
before_indices-none index (Token kind start end) ps none = refl
before_indices-none index (Error text pos) ps none = refl

length-before_indices : (index : ℕ) (shown : Shown) (ps : List ℕ) → length (before_indices index shown ps) ≡ openings_in shown + length ps
length-before_indices index (Node kind start None) ps = omega arith
length-before_indices index (Node kind start (Some end)) ps = omega arith
length-before_indices index (Token kind start end) ps = omega arith
length-before_indices index (Error text pos) ps = omega arith

pub open_indices-append : (index : ℕ) (xs ys : List Line) → open_indices index (xs ++ ys) ≡ open_indices index xs ++ open_indices (index + length xs) ys
open_indices-append index [] ys = let e : index + 0 ≡ index = omega arith in rw e refl
open_indices-append index (x ∷ xs) ys =
    let e : suc index + length xs ≡ index + suc (length xs) = omega arith in
    let rest = open_indices-append (suc index) xs ys ∙ ap (λ p. open_indices (suc index) xs ++ open_indices p ys) e in
    ap (before_indices index x.shown) rest ∙ before_indices-append index x.shown (open_indices (suc index) xs) (open_indices (index + suc (length xs)) ys)

pub open_indices-none : (index : ℕ) (lines : List Line) → open_count lines ≡ 0 → open_indices index lines ≡ []
open_indices-none index [] none = refl
open_indices-none index (x ∷ lines) none =
    before_indices-none index x.shown (open_indices (suc index) lines) (omega (arith, none)) ∙ open_indices-none (suc index) lines (omega (arith, none))

pub length-open_indices : (index : ℕ) (lines : List Line) → length (open_indices index lines) ≡ open_count lines
length-open_indices index [] = refl
length-open_indices index (x ∷ lines) =
    omega (arith, length-before_indices index x.shown (open_indices (suc index) lines), length-open_indices (suc index) lines)

-- ---- the last open line

abbrev pub node : ℕ → ℕ → ℕ → Line
node depth kind start = record { depth = depth; shown = Node kind start None }

-- The last of the indices is that of an open node, behind which no other is open.
pub record LastOpen (from : ℕ) (lines : List Line) (indices : List ℕ) (index : ℕ) : Type 0 where
  pub front : List Line
  pub depth : ℕ
  pub kind : ℕ
  pub start : ℕ
  pub behind : List Line
  pub is : lines ≡ front ++ node depth kind start ∷ behind
  pub at : index ≡ from + length front
  pub none : open_count behind ≡ 0
  pub others : open_indices from front ≡ indices

-- a line that isn't the last one before one that has the last
skipped : (from : ℕ) (x : Line) (lines : List Line) (indices indices' : List ℕ) (index : ℕ) → before_indices from x.shown indices ≡ indices' → LastOpen (suc from) lines indices index → LastOpen from (x ∷ lines) indices' index
skipped from x lines indices indices' index e last = record {
  front = x ∷ last.front;
  depth = last.depth;
  kind = last.kind;
  start = last.start;
  behind = last.behind;
  is = ap (λ rest. x ∷ rest) last.is;
  at = omega (arith, last.at);
  none = last.none;
  others = ap (before_indices from x.shown) last.others ∙ e;
}

last_from : (from depth : ℕ) (shown : Shown) (lines : List Line) (indices : List ℕ) (index : ℕ)
    → ((others : List ℕ) → open_indices (suc from) lines ≡ others ++ index ∷ [] → LastOpen (suc from) lines others index)
    → before_indices from shown (open_indices (suc from) lines) ≡ indices ++ index ∷ []
    → LastOpen from (record { depth = depth; shown = shown } ∷ lines) indices index
last_from from depth (Node kind start None) lines [] index rest e =
    let nil : open_indices (suc from) lines ≡ [] = cc in
    let count = length-open_indices (suc from) lines in
    let same : from ≡ index = cc in
    record {
      front = [];
      depth = depth;
      kind = kind;
      start = start;
      behind = lines;
      is = refl;
      at = omega arith;
      none = sym count ∙ ap length nil;
      others = refl;
    }
last_from from depth (Node kind start None) lines (first ∷ indices) index rest e =
    let same : from ≡ first = cc in
    let tail : open_indices (suc from) lines ≡ indices ++ index ∷ [] = cc in
    skipped from (node depth kind start) lines indices (first ∷ indices) index (ap (λ p. p ∷ indices) same) (rest indices tail)
last_from from depth (Node kind start (Some end)) lines indices index rest e =
    skipped from (record { depth = depth; shown = Node kind start (Some end) }) lines indices indices index refl (rest indices e)
last_from from depth (Token kind start end) lines indices index rest e =
    skipped from (record { depth = depth; shown = Token kind start end }) lines indices indices index refl (rest indices e)
last_from from depth (Error text pos) lines indices index rest e =
    skipped from (record { depth = depth; shown = Error text pos }) lines indices indices index refl (rest indices e)

pub last_open : (from : ℕ) (lines : List Line) (indices : List ℕ) (index : ℕ) → open_indices from lines ≡ indices ++ index ∷ [] → LastOpen from lines indices index
last_open from [] indices index e =
    absurd (let k = ap length e in let len = length-append indices (index ∷ []) in omega arith)
last_open from (x ∷ lines) indices index e =
    last_from from x.depth x.shown lines indices index (λ others rest. last_open (suc from) lines others index rest) e

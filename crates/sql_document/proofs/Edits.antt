-- A text is edited: the pieces in front stay.
use Rattle.std.proofs.Common.{◌≡◌, ◌∙◌, ◌⊎◌, ⊎_elim, ℕ, zero, suc, ◌+◌, ◌-◌, ◌<◌, ◌≤◌, Bool, false, true, Option, Some, None, List, [], ◌∷◌, ◌++◌, length, drop, take, append_assoc, arith, ap, sym, subst, refl, length-append, length-drop, length-take, take-append-drop}
use Rattle.std.specs.Prelude.{string_bytes}
use Rattle.std.proofs.Math.Seq.{drop-append_seam, take-append-add, drop-append-add, take-append_seam}
use Rattle.std.proofs.lemmas.Bool.{false≢true}
use Rattle.std.proofs.lemmas.List.{append-nil, drop-append-le, drop-drop, drop_all, take-append-le}
use Rattle.squawk_keywords.specs.declared.keywords.Keywords.{Keywords}
use Rattle.rule_grammar.specs.declared.rules.RuleGrammar.{RuleGrammar}
use Rattle.sql_lexer.specs.declared.script.script_place.ScriptPlace.{ScriptPlace}
use Rattle.sql_lexer.specs.declared.script.script_place.ScriptPlace.TheVariants as script
use Rattle.sql_grammar.specs.ReadParts.{begun_with}
use Rattle.sql_grammar.specs.declared.script_parts.Progress.{Progress}
use Rattle.sql_grammar.specs.declared.script_parts.Progress.TheVariants.{Front, Inside}
use Rattle.sql_grammar.specs.declared.script_parts.ScriptPart.{ScriptPart}
use Rattle.sql_document.specs.Pieces.{AreChain, Follows, IsPiece, IsRange, edited, text_of}
use Rattle.sql_document.specs.Recuts.{AreTails, Grows, IsBefore, IsTouched, StandBefore}
use Rattle.sql_document.specs.declared.piece.Piece.{Piece}
use Rattle.sql_document.proofs.Chains.{chain_append, chain_text}
use Rattle.std.proofs.lemmas.Option.{same_Some}

-- ---- texts of pieces

module _ {Kept : Type 0} where
  pub text_append : (xs ys : List (Piece Kept)) → text_of (xs ++ ys) ≡ text_of xs ++ text_of ys
  text_append [] ys = refl
  text_append (x ∷ xs) ys = ap (λ rest. string_bytes x.text ++ rest) (text_append xs ys) ∙ sym (append_assoc (string_bytes x.text) (text_of xs) (text_of ys))

  pub text_split : (n : ℕ) (xs : List (Piece Kept)) → text_of xs ≡ text_of (take n xs) ++ text_of (drop n xs)
  text_split n xs = ap text_of (sym (take-append-drop n xs)) ∙ text_append (take n xs) (drop n xs)

  -- one more piece stands before a place
  pub before_more : (start place : ℕ) (xs : List (Piece Kept)) (x : Piece Kept) → StandBefore start xs place → IsBefore (start + length (text_of xs)) x place → StandBefore start (xs ++ x ∷ []) place
  before_more start place [] x before is = let same : start + length (text_of {Kept = Kept} []) ≡ start = omega arith in (subst (λ n. IsBefore n x place) same is, tt)
  before_more start place (y ∷ xs) x before is =
      let size = length (string_bytes y.text) in
      let same : start + length (text_of (y ∷ xs)) ≡ start + size + length (text_of xs) = omega (arith, length-append (string_bytes y.text) (text_of xs)) in
      (before.0, before_more (start + size) place xs x before.1 (subst (λ n. IsBefore n x place) same is))

  -- pieces that stand before a place end before it
  pub before_ends : (start place : ℕ) (xs : List (Piece Kept)) → StandBefore start xs place → (0 < length xs) → start + length (text_of xs) < place
  before_ends start place [] before some = absurd (omega (arith, some))
  before_ends start place (x ∷ []) before some = omega (arith, before.0.2, length-append (string_bytes x.text) (text_of {Kept = Kept} []))
  before_ends start place (x ∷ y ∷ xs) before some =
      let rest = before_ends (start + length (string_bytes x.text)) place (y ∷ xs) before.1 (omega arith) in
      omega (arith, rest, length-append (string_bytes x.text) (text_of (y ∷ xs)))

-- ---- chains

-- a front of a text and what stands after it
prefix : (c x old rest : List ℕ) → length old ≤ length c → c ++ x ≡ old ++ rest → c ≡ old ++ drop (length old) c
prefix c x old rest le same =
    sym (take-append-drop (length old) c)
    ∙ ap (λ xs. xs ++ drop (length old) c) (sym (take-append-le (length old) c x le) ∙ (ap (take (length old)) same ∙ take-append_seam old rest))

module _ {Kept : Type 0} (keeps : ScriptPart → Kept → Type 0) (vocabulary : Keywords) (rules : RuleGrammar) where
  -- a piece that depends on a front of a text is one of any text with that front
  piece_moves : (piece : Piece Kept) (next : Option ScriptPlace) (c x y : List ℕ) (seen : ℕ) → piece.seen ≡ Some seen → length (string_bytes piece.text) + seen < length c → IsPiece keeps vocabulary rules piece next (c ++ x)
      → IsPiece keeps vocabulary rules piece next (c ++ y)
  piece_moves piece next c x y seen seen_is lt is =
      let goes = subst (λ s. Follows vocabulary rules is.old is.new (length is.part.table.text) s next is.rest) seen_is is.follows in
      let within : length is.old.lexer.text ≤ length c = omega (arith, goes.sees, lt, ap length is.text) in
      let rest = drop (length is.old.lexer.text) c in
      record {
        part = is.part;
        old = is.old;
        new = is.new;
        begun = is.begun;
        progress = is.progress;
        reads = is.reads;
        text = is.text;
        kept = is.kept;
        rest = rest ++ y;
        left_is = ap (λ xs. xs ++ y) (prefix c x is.old.lexer.text is.rest within is.left_is) ∙ append_assoc is.old.lexer.text rest y;
        follows = subst (λ s. Follows vocabulary rules is.old is.new (length is.part.table.text) s next (rest ++ y)) (sym seen_is) goes;
      }

  pub front_moves : (from to : Option ScriptPlace) (pieces : List (Piece Kept)) (c x y end : List ℕ) (start : ℕ) → AreChain keeps vocabulary rules from pieces to (c ++ x) end → StandBefore start pieces (start + length c)
      → AreChain keeps vocabulary rules from pieces to (c ++ y) (drop (length (text_of pieces)) (c ++ y))
  front_moves from to [] c x y end start (same, is) before = (same, refl)
  front_moves from to (piece ∷ pieces) c x y end start (is, next, here, others) before =
      let size = length (string_bytes piece.text) in
      let lt : size + before.0.0 < length c = omega (arith, before.0.2) in
      let le : size ≤ length c = omega (arith, lt) in
      let place : start + length c ≡ start + size + length (drop size c) = omega (arith, length-drop size c, le) in
      let rest = front_moves next to pieces (drop size c) x y end (start + size)
      (subst (λ left. AreChain keeps vocabulary rules next pieces to left end) (drop-append-le size c x le) others) (subst (StandBefore (start + size) pieces) place before.1) in
      let step : drop size (c ++ y) ≡ drop size c ++ y = drop-append-le size c y le in
      let total : size + length (text_of pieces) ≡ length (string_bytes piece.text ++ text_of pieces) = sym (length-append (string_bytes piece.text) (text_of pieces)) in
      let ends : drop (length (text_of pieces)) (drop size c ++ y) ≡ drop (length (string_bytes piece.text ++ text_of pieces)) (c ++ y) =
      ap (drop (length (text_of pieces))) (sym step) ∙ (drop-drop (length (text_of pieces)) size (c ++ y) ∙ ap (λ n. drop n (c ++ y)) total) in (
        is,
        next,
        piece_moves piece next c x y before.0.0 before.0.1 lt here,
        subst (λ left. AreChain keeps vocabulary rules next pieces to left (drop (length (string_bytes piece.text ++ text_of pieces)) (c ++ y))) (sym step)
            (subst (λ end. AreChain keeps vocabulary rules next pieces to (drop size c ++ y) end) ends rest),
      )

  -- a chain in two parts
  pub record Splits (from to : Option ScriptPlace) (xs ys : List (Piece Kept)) (left end : List ℕ) : Type 0 where
    pub mid : Option ScriptPlace
    pub between : List ℕ
    pub first : AreChain keeps vocabulary rules from xs mid left between
    pub second : AreChain keeps vocabulary rules mid ys to between end

  pub split : (from to : Option ScriptPlace) (xs ys : List (Piece Kept)) (left end : List ℕ) → AreChain keeps vocabulary rules from (xs ++ ys) to left end → Splits from to xs ys left end
  split from to [] ys left end chain = record { mid = from; between = left; first = (refl, refl); second = chain }
  split from to (x ∷ xs) ys left end (is, next, here, others) =
      let rest = split next to xs ys (drop (length (string_bytes x.text)) left) end others in
      record { mid = rest.mid; between = rest.between; first = (is, next, here, rest.first); second = rest.second }

  -- the end of a chain from each piece on
  pub tails : (from : Option ScriptPlace) (pieces : List (Piece Kept)) (left : List ℕ) → AreChain keeps vocabulary rules from pieces None left [] → (n : ℕ) → AreTails keeps vocabulary rules pieces n
  tails from [] left chain n k le lt = absurd (omega (arith, lt))
  tails from (piece ∷ pieces) left (is, next, here, others) n zero le lt =
      let text : left ≡ text_of (piece ∷ pieces) = chain_text keeps vocabulary rules from None (piece ∷ pieces) left [] (is, next, here, others) ∙ append-nil (text_of (piece ∷ pieces)) in
      (piece, refl, subst (λ left. AreChain keeps vocabulary rules (Some piece.place) (piece ∷ pieces) None left []) text (refl, next, here, others))
  tails from (piece ∷ pieces) left (is, next, here, others) n (suc k) le lt =
      tails next pieces (drop (length (string_bytes piece.text)) left) others 0 k (omega arith) (omega (arith, lt))

-- ---- an edit

front_no_inside : Front ≡ Inside → ⊥
front_no_inside e = false≢true (ap is_inside e)
  where
    is_inside : Progress → Bool
    is_inside Front = false
    is_inside Inside = true

module _ {Kept : Type 0} where
  pub before_within : (place : ℕ) (xs : List (Piece Kept)) → StandBefore 0 xs place → length (text_of xs) ≤ place
  before_within place [] before = omega arith
  before_within place (x ∷ xs) before = omega (arith, before_ends 0 place (x ∷ xs) before (omega arith))

-- the pieces from the first one that an edit touches are joined
module _ {Kept : Type 0} (pieces : List (Piece Kept)) (rs re first start last : ℕ) (text : List ℕ) (touched : IsTouched pieces rs first start) (range : IsRange rs re (text_of pieces)) (grows : Grows pieces [] text first last)
    (reaches : (re - start ≤ length text) ⊎ (last ≡ length pieces)) where
  pub past : start ≤ rs
  past = omega (arith, touched.begins, before_within rs (take first pieces) touched.before)

  -- all of the range
  pub reached : re - start ≤ length text
  reached =
      ⊎_elim (λ (enough : re - start ≤ length text). enough)
      (λ (all : last ≡ length pieces).
      let none : drop last pieces ≡ [] = drop_all last pieces (omega (arith, all)) in
      omega (arith, touched.begins, range.ends.0, ap length (text_split first pieces), length-append (text_of (take first pieces)) (text_of (drop first pieces)), ap length grows.tail_is, length-append grows.added (text_of (drop last pieces)), ap length grows.text_is, ap (λ ps. length (text_of ps)) none))
      reaches

module _ {Kept : Type 0} (keeps : ScriptPart → Kept → Type 0) (vocabulary : Keywords) (rules : RuleGrammar) (pieces : List (Piece Kept))
    (chain : AreChain keeps vocabulary rules (Some script.Front) pieces None (text_of pieces) []) (rs re first start last : ℕ) (text : List ℕ) (touched : IsTouched pieces rs first start) (range : IsRange rs re (text_of pieces))
    (grows : Grows pieces [] text first last) (reaches : (re - start ≤ length text) ⊎ (last ≡ length pieces)) (repl : List ℕ) (piece : Piece Kept) (there : drop first pieces ≡ piece ∷ drop (suc first) pieces) where
  abbrev before : StandBefore 0 (take first pieces) rs
  before = touched.before

  abbrev order : rs ≤ re
  order = range.order

  high_in : re - length (text_of (take first pieces)) ≤ length text
  high_in = omega (arith, reached pieces rs re first start last text touched range grows reaches, touched.begins)

  abbrev front : List ℕ
  front = text_of (take first pieces)

  abbrev low : ℕ
  low = rs - length front

  abbrev high : ℕ
  high = re - length front

  abbrev all : List ℕ
  all = text_of pieces

  abbrev tail : List ℕ
  tail = text_of (drop last pieces)

  abbrev pub changed : List ℕ
  changed = (take low text ++ repl) ++ drop high text

  from_front : rs ≡ length front + low
  from_front = omega (arith, before_within rs (take first pieces) before)

  to_front : re ≡ length front + high
  to_front = omega (arith, before_within rs (take first pieces) before, order)

  low_in : low ≤ length text
  low_in = omega (arith, order, high_in)

  all_is : all ≡ front ++ (text ++ tail)
  all_is = text_split first pieces ∙ ap (λ xs. front ++ xs) (grows.tail_is ∙ ap (λ xs. xs ++ tail) (sym grows.text_is))

  take_is : take rs all ≡ front ++ take low text
  take_is = ap (take rs) all_is ∙ (ap (λ n. take n (front ++ (text ++ tail))) from_front ∙ (take-append-add front (text ++ tail) low ∙ ap (λ xs. front ++ xs) (take-append-le low text tail low_in)))

  drop_is : drop re all ≡ drop high text ++ tail
  drop_is = ap (drop re) all_is ∙ (ap (λ n. drop n (front ++ (text ++ tail))) to_front ∙ (drop-append-add front (text ++ tail) high ∙ drop-append-le high text tail high_in))

  abbrev now : List ℕ
  now = edited rs re repl all

  pub now_is : now ≡ front ++ (changed ++ tail)
  now_is =
      ap (λ xs. xs ++ (repl ++ drop re all)) take_is
      ∙ (ap (λ xs. (front ++ take low text) ++ (repl ++ xs)) drop_is
      ∙ (append_assoc front (take low text) (repl ++ (drop high text ++ tail))
      ∙ ap (λ xs. front ++ xs) (sym (append_assoc (take low text) repl (drop high text ++ tail)) ∙ sym (append_assoc (take low text ++ repl) (drop high text) tail))))

  rs_in : length (take rs all) ≡ rs
  rs_in = omega (arith, ap length take_is, length-append front (take low text), length-take low text, low_in, from_front)

  parts : Splits keeps vocabulary rules (Some script.Front) None (take first pieces) (drop first pieces) all []
  parts = split keeps vocabulary rules (Some script.Front) None (take first pieces) (drop first pieces) all []
      (subst (λ ps. AreChain keeps vocabulary rules (Some script.Front) ps None all []) (sym (take-append-drop first pieces)) chain)

  mid_is : parts.mid ≡ Some piece.place
  mid_is = (subst (λ ps. AreChain keeps vocabulary rules parts.mid ps None parts.between []) there parts.second).0

  -- at the front of a script nothing may be left of it; elsewhere something is
  pub some_changed : begun_with piece.place ≡ Inside → 0 < length changed
  some_changed inside = by_front (take first pieces) refl
    where
      front_inside : (q : ScriptPlace) → Some script.Front ≡ Some q → begun_with q ≡ Inside → ⊥
      front_inside q e is = front_no_inside (sym (ap begun_with (sym (same_Some script.Front q e))) ∙ is)

      by_front : (ps : List (Piece Kept)) → ps ≡ take first pieces → 0 < length changed
      by_front [] none =
          absurd (front_inside piece.place ((subst (λ ps. AreChain keeps vocabulary rules (Some script.Front) ps parts.mid all parts.between) (sym none) parts.first).0 ∙ mid_is) inside)
      by_front (p ∷ ps) some =
          let lt = before_ends 0 rs (take first pieces) before (subst (λ ps. 0 < length ps) some (omega arith)) in
          omega (arith, lt, from_front, low_in, length-append (take low text ++ repl) (drop high text), length-append (take low text) repl, length-take low text)

  module _ (end : ℕ) (new : List (Piece Kept)) (recut : AreChain keeps vocabulary rules (Some piece.place) (new ++ drop end pieces) None (changed ++ tail) []) where
    pub edited_chain : AreChain keeps vocabulary rules (Some script.Front) (take first pieces ++ (new ++ drop end pieces)) None now []
    edited_chain =
        let c = take rs all in
        let place : rs ≡ 0 + length c = omega (arith, rs_in) in
        let moved : AreChain keeps vocabulary rules (Some script.Front) (take first pieces) parts.mid now (drop (length front) now) =
        front_moves keeps vocabulary rules (Some script.Front) parts.mid (take first pieces) c (drop rs all) (repl ++ drop re all) parts.between 0
        (subst (λ left. AreChain keeps vocabulary rules (Some script.Front) (take first pieces) parts.mid left parts.between) (sym (take-append-drop rs all)) parts.first) (subst (StandBefore 0 (take first pieces)) place before) in
        chain_append keeps vocabulary rules (Some script.Front) parts.mid None (take first pieces) (new ++ drop end pieces) now (changed ++ tail) []
        (subst (λ left. AreChain keeps vocabulary rules (Some script.Front) (take first pieces) parts.mid now left) (ap (drop (length front)) now_is ∙ drop-append_seam front (changed ++ tail)) moved)
        (subst (λ from. AreChain keeps vocabulary rules from (new ++ drop end pieces) None (changed ++ tail) []) (sym mid_is) recut)

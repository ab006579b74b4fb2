-- A text is cut anew, and old pieces after it are met.
use Rattle.std.proofs.Common.{◌≡◌, ◌∙◌, ℕ, suc, ◌+◌, ◌-◌, ◌<◌, ◌≤◌, Option, Some, None, List, [], ◌∷◌, ◌++◌, length, drop, take, get_or, ⊎_elim, append_assoc, arith, ap, sym, subst, refl, length-append, length-drop}
use Rattle.std.specs.Prelude.{IsCharBoundary, IsUtf8, string_bytes}
use Rattle.std.proofs.Math.Seq.{drop-append_seam, take-append_seam}
use Rattle.std.proofs.lemmas.Bool.{cases_lt}
use Rattle.std.proofs.lemmas.List.{append-nil, drop-append-le, drop-drop, drop_all, nil_from_length, take-append-le}
use Rattle.std.proofs.lemmas.Str.{IsCharBoundary-from_rest, IsCharBoundary-from_take, IsUtf8-drop, IsUtf8-take}
use Rattle.squawk_keywords.specs.declared.keywords.Keywords.{Keywords}
use Rattle.rule_grammar.specs.declared.rules.RuleGrammar.{RuleGrammar}
use Rattle.sql_lexer.specs.declared.script.script_place.ScriptPlace.{ScriptPlace}
use Rattle.sql_grammar.specs.ReadParts.{begun_with, text_left}
use Rattle.sql_grammar.specs.declared.script_parts.Progress.TheVariants.{Inside}
use Rattle.sql_grammar.specs.declared.script_parts.ScriptPart.{ScriptPart}
use Rattle.sql_document.specs.Pieces.{AreChain, Finds, Follows, IsPiece, text_of}
use Rattle.sql_document.specs.Recuts.{AreTails, EndsWithPiece, Grows, IsMet}
use Rattle.sql_document.specs.declared.piece.Piece.{Piece}
use Rattle.std.proofs.lemmas.Option.{none-some, same_Some}
use Rattle.sql_document.proofs.Grows.{drop-at}
use Rattle.sql_document.proofs.Chains.{after_is, chain_append, left_after, size_of, stands}

-- a character begins there in a longer text, too
pub boundary_grows : (a b : List ℕ) (n : ℕ) → IsUtf8 a → IsUtf8 (a ++ b) → IsCharBoundary a n → IsCharBoundary (a ++ b) n
boundary_grows a b n utf8 all boundary =
    IsCharBoundary-from_take (a ++ b) n all (omega (arith, boundary.0, length-append a b))
    (subst IsUtf8 (sym (take-append-le n a b boundary.0)) (IsUtf8-take a n utf8 boundary))

module _ {Kept : Type 0} (old : List (Piece Kept)) where
  -- what is left is the same where old pieces are read
  pub same_left : (text now : List ℕ) (from last at : ℕ) → Grows old text now from last → at ≤ length text → drop at text ++ text_of (drop from old) ≡ drop at now ++ text_of (drop last old)
  same_left text now from last at grows within =
      ap (λ xs. drop at text ++ xs) grows.tail_is
      ∙ (sym (append_assoc (drop at text) grows.added (text_of (drop last old)))
      ∙ ap (λ xs. xs ++ text_of (drop last old)) (sym (ap (drop at) grows.text_is ∙ drop-append-le at text grows.added within)))

  pub boundary_grown : (text now : List ℕ) (from last at : ℕ) → Grows old text now from last → IsUtf8 text → IsUtf8 now → IsCharBoundary text at → IsCharBoundary now at
  boundary_grown text now from last at grows utf8 all boundary =
      subst (λ xs. IsCharBoundary xs at) (sym grows.text_is) (boundary_grows text grows.added at utf8 (subst IsUtf8 grows.text_is all) boundary)

  -- texts are added twice
  pub grows_more : (text mid now : List ℕ) (from between last : ℕ) → Grows old text mid from between → Grows old mid now between last → Grows old text now from last
  grows_more text mid now from between last first second = record {
    added = first.added ++ second.added;
    text_is = second.text_is ∙ (ap (λ xs. xs ++ second.added) first.text_is ∙ append_assoc text first.added second.added);
    tail_is = first.tail_is ∙ (ap (λ xs. first.added ++ xs) second.tail_is ∙ sym (append_assoc first.added second.added (text_of (drop last old))));
    order = omega (arith, first.order, second.order);
    within = second.within;
    ends = λ k is le.
        ⊎_elim
        (λ (before : k < between).
        let same : between ≡ last = omega (arith, is, before, second.order) in
        let none : length second.added ≡ 0 =
        omega (arith, ap length second.tail_is, length-append second.added (text_of (drop last old)), ap (λ n. length (text_of (drop n old))) same) in
        let text_same : mid ≡ now = sym (second.text_is ∙ (ap (λ xs. mid ++ xs) (nil_from_length second.added none) ∙ append-nil mid)) in
        subst (λ text. EndsWithPiece old text k) text_same (first.ends k (is ∙ sym same) le))
        (λ (after : between ≤ k). second.ends k is after)
        (cases_lt k between);
  }

  -- what is left is an old piece, and those after it
  pub met : (text : List ℕ) (at k : ℕ) (ends : EndsWithPiece old text k) → at ≤ length text → length (string_bytes ends.piece.text) ≡ length text - at → drop at text ++ text_of (drop (suc k) old) ≡ text_of (drop k old)
  met text at k ends within size =
      let front : at ≡ length ends.front = omega (arith, size, within, ap length ends.text_is, length-append ends.front (string_bytes ends.piece.text)) in
      let left : drop at text ≡ string_bytes ends.piece.text =
      ap (drop at) ends.text_is ∙ (ap (λ n. drop n (ends.front ++ string_bytes ends.piece.text)) front ∙ drop-append_seam ends.front (string_bytes ends.piece.text)) in
      ap (λ xs. xs ++ text_of (drop (suc k) old)) left ∙ sym (ap text_of ends.there)

module _ {Kept : Type 0} (keeps : ScriptPart → Kept → Type 0) (vocabulary : Keywords) (rules : RuleGrammar) where
  -- a piece after others
  pub one_more : (from next : Option ScriptPlace) (place : ScriptPlace) (pieces : List (Piece Kept)) (piece : Piece Kept) (whole left : List ℕ) → AreChain keeps vocabulary rules from pieces (Some place) whole left
      → piece.place ≡ place → IsPiece keeps vocabulary rules piece next left → AreChain keeps vocabulary rules from (pieces ++ piece ∷ []) next whole (drop (size_of keeps vocabulary rules piece) left)
  one_more from next place pieces piece whole left chain is here =
      chain_append keeps vocabulary rules from (Some place) next pieces (piece ∷ []) whole left (drop (size_of keeps vocabulary rules piece) left) chain
      (ap Some (sym is), next, here, (refl, refl))

  module _ (text tail : List ℕ) (at : ℕ) (piece : Piece Kept) (next : Option ScriptPlace) (is : IsPiece keeps vocabulary rules piece next (drop at text ++ tail)) (fits : length (string_bytes piece.text) ≤ length (drop at text)) where
    abbrev size : ℕ
    size = length (string_bytes piece.text)

    pub left_next : drop size (drop at text ++ tail) ≡ drop (at + size) text ++ tail
    left_next = drop-append-le size (drop at text) tail fits ∙ ap (λ xs. xs ++ tail) (drop-drop size at text)

    pub boundary_next : IsUtf8 text → IsCharBoundary text at → IsUtf8 (string_bytes piece.text) → IsCharBoundary text (at + size)
    boundary_next utf8 boundary piece_utf8 =
        let here : take size (drop at text) ≡ string_bytes piece.text =
        sym (take-append-le size (drop at text) tail fits)
        ∙ (ap (take size) (stands keeps vocabulary rules piece next (drop at text ++ tail) is) ∙ take-append_seam (string_bytes piece.text) (left_after keeps vocabulary rules piece next (drop at text ++ tail) is)) in
        IsCharBoundary-from_rest text at size boundary.0
        (IsCharBoundary-from_take (drop at text) size (IsUtf8-drop text at utf8 boundary) fits (subst IsUtf8 (sym here) piece_utf8))

-- ---- a piece is cut

module _ {Kept : Type 0} (keeps : ScriptPart → Kept → Type 0) (vocabulary : Keywords) (rules : RuleGrammar) where
  -- after the last piece nothing is left
  pub none_left : (piece : Piece Kept) (left : List ℕ) → IsPiece keeps vocabulary rules piece None left → drop (length (string_bytes piece.text)) left ≡ []
  none_left piece left is = after_is keeps vocabulary rules piece None left is ∙ by_seen piece.seen is.follows
    where
      by_seen : (seen : Option ℕ) → Follows vocabulary rules is.old is.new (length is.part.table.text) seen None is.rest → text_left is.new ++ is.rest ≡ []
      by_seen None follows = ap (λ xs. xs ++ is.rest) (drop_all is.new.lexer.at is.new.lexer.text follows.over) ∙ follows.nothing
      by_seen (Some seen) follows = absurd (none-some follows.place follows.next_is)

  -- after another one the script is inside
  pub inside_next : (piece : Piece Kept) (place : ScriptPlace) (left : List ℕ) → IsPiece keeps vocabulary rules piece (Some place) left → begun_with place ≡ Inside
  inside_next piece place left is = by_seen piece.seen is.follows
    where
      by_seen : (seen : Option ℕ) → Follows vocabulary rules is.old is.new (length is.part.table.text) seen (Some place) is.rest → begun_with place ≡ Inside
      by_seen None follows = absurd (none-some place (sym follows.none))
      by_seen (Some seen) follows = ap begun_with (same_Some place follows.place follows.next_is) ∙ follows.inside

  module _ (old : List (Piece Kept)) (text0 text now : List ℕ) (from last read at : ℕ) (place0 place : ScriptPlace) (items : List (Piece Kept)) (piece : Piece Kept) (next : Option ScriptPlace)
      (first : Grows old text0 text from last) (second : Grows old text now last read)
      (chain : AreChain keeps vocabulary rules (Some place0) items (Some place) (text0 ++ text_of (drop from old)) (drop at text ++ text_of (drop last old)))
      (within : at ≤ length text) (is : IsPiece keeps vocabulary rules piece next (drop at now ++ text_of (drop read old))) (found : Finds place (drop at now) piece next) where
    abbrev end : ℕ
    end = at + length (string_bytes piece.text)

    pub all_grown : Grows old text0 now from read
    all_grown = grows_more old text0 text now from last read first second

    left_same : drop at text ++ text_of (drop last old) ≡ drop at now ++ text_of (drop read old)
    left_same = same_left old text now last read at second within

    pub chain_next : AreChain keeps vocabulary rules (Some place0) (items ++ piece ∷ []) next (text0 ++ text_of (drop from old)) (drop end now ++ text_of (drop read old))
    chain_next =
        subst (λ left. AreChain keeps vocabulary rules (Some place0) (items ++ piece ∷ []) next (text0 ++ text_of (drop from old)) left)
        (left_next keeps vocabulary rules now (text_of (drop read old)) at piece next is found.within)
        (one_more keeps vocabulary rules (Some place0) next place items piece (text0 ++ text_of (drop from old)) (drop at now ++ text_of (drop read old))
        (subst (λ left. AreChain keeps vocabulary rules (Some place0) items (Some place) (text0 ++ text_of (drop from old)) left) left_same chain) found.place_is is)

    -- how much is left
    pub amounts : length text - at + length (text_of (drop last old)) ≡ length now - at + length (text_of (drop read old))
    amounts =
        omega (
          arith,
          ap length left_same,
          length-append (drop at text) (text_of (drop last old)),
          length-append (drop at now) (text_of (drop read old)),
          length-drop at text,
          length-drop at now,
        )

    -- the script has ended
    pub chain_end : next ≡ None → AreChain keeps vocabulary rules (Some place0) ((items ++ piece ∷ []) ++ drop (length old) old) None (text0 ++ text_of (drop from old)) []
    chain_end none =
        let nothing : drop end now ++ text_of (drop read old) ≡ [] =
        sym (left_next keeps vocabulary rules now (text_of (drop read old)) at piece next is found.within)
        ∙ none_left piece (drop at now ++ text_of (drop read old)) (subst (λ next. IsPiece keeps vocabulary rules piece next (drop at now ++ text_of (drop read old))) none is) in
        subst (λ pieces. AreChain keeps vocabulary rules (Some place0) pieces None (text0 ++ text_of (drop from old)) [])
        (sym (append-nil (items ++ piece ∷ [])) ∙ ap (λ xs. (items ++ piece ∷ []) ++ xs) (sym (drop_all (length old) old (omega arith))))
        (subst (λ left. AreChain keeps vocabulary rules (Some place0) (items ++ piece ∷ []) None (text0 ++ text_of (drop from old)) left) nothing
        (subst (λ next. AreChain keeps vocabulary rules (Some place0) (items ++ piece ∷ []) next (text0 ++ text_of (drop from old)) (drop end now ++ text_of (drop read old))) none chain_next))

    -- an old piece goes on
    pub chain_met : (k : ℕ) (q : ScriptPlace) (p : Piece Kept) → next ≡ Some q → suc k ≡ read → from ≤ k → end ≤ length now → p ≡ get_or old k p → IsMet p (length now - end) q → AreTails keeps vocabulary rules old from
        → AreChain keeps vocabulary rules (Some place0) ((items ++ piece ∷ []) ++ drop k old) None (text0 ++ text_of (drop from old)) []
    chain_met k q p next_is last_is le end_within at_k is_met tails =
        let within_old : k < length old = omega (arith, last_is, second.within) in
        let here = drop-at k old p within_old ∙ ap (λ x. x ∷ drop (suc k) old) (sym at_k) in
        let ends = all_grown.ends k last_is le in
        let tail = tails k le within_old in
        let ends_same : ends.piece ≡ p = ap (head p) (sym ends.there ∙ here) in
        let tail_same : tail.0 ≡ p = ap (head p) (sym tail.1 ∙ here) in
        let left : drop end now ++ text_of (drop read old) ≡ text_of (drop k old) =
        ap (λ n. drop end now ++ text_of (drop n old)) (sym last_is) ∙ met old now end k ends end_within (ap (λ (x : Piece Kept). length (string_bytes x.text)) ends_same ∙ is_met.0) in
        chain_append keeps vocabulary rules (Some place0) next None (items ++ piece ∷ []) (drop k old) (text0 ++ text_of (drop from old)) (text_of (drop k old)) []
        (subst (λ left. AreChain keeps vocabulary rules (Some place0) (items ++ piece ∷ []) next (text0 ++ text_of (drop from old)) left) left chain_next)
        (subst (λ from. AreChain keeps vocabulary rules from (drop k old) None (text_of (drop k old)) []) (ap Some (ap (λ (x : Piece Kept). x.place) tail_same ∙ is_met.1) ∙ sym next_is) tail.2)
      where
        head : Piece Kept → List (Piece Kept) → Piece Kept
        head d [] = d
        head d (x ∷ xs) = x

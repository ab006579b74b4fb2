-- What a loop over the elements of a tree has put, and what is left.
use Rattle.std.proofs.Common.{◌≡◌, ◌∙◌, ◌||◌, ℕ, Bool, true, false, List, [], ◌∷◌, ◌++◌, map, ap, sym, subst, append_assoc}
use Rattle.std.proofs.lemmas.Bool.{cond-false, cond-true}
use Rattle.std.proofs.lemmas.List.{append-nil}
use Rattle.squawk_tree.specs.Forest.{Forest}
use Rattle.syntax_tree.specs.Layout.{Laid, IsTree}
use Rattle.syntax_tree.specs.Trees.{descendants_of, is_token_at, tokens_among}
use Rattle.syntax_tree.specs.Views.{At, place_in}
use Rattle.syntax_tree.proofs.PlacesLeft.{BeginsAt, begins, no_places}
use Rattle.sql_trim.specs.Formatted.{Piece, ends_line, formatted, piece_at, pieces_of, white}
use Rattle.sql_trim.specs.Trimmed.{has_line_feed, trimmed}
use Rattle.sql_trim.proofs.Blanks.{trimmed-append}

-- What is put of what is left of a tree, white space that isn't put yet, and what is left of a walk over its elements.
pub record PutsPieces (laid : Laid) (tree : Forest) (text held : List ℕ) (walk : List At) : Type 0 where
  pub places : List ℕ
  pub left : walk ≡ map (place_in laid) places
  pub same : text ++ formatted (white held ∷ map (piece_at tree) (tokens_among tree places)) ≡ formatted (pieces_of tree)

pub puts_none : (laid : Laid) (tree : Forest) (text held : List ℕ) (walk : List At) → text ≡ [] → held ≡ [] → walk ≡ map (place_in laid) (descendants_of tree 0)
    → PutsPieces laid tree text held walk
puts_none laid tree text held walk none nothing all = record {
  places = descendants_of tree 0;
  left = all;
  same = ap (λ l. l ++ formatted (white held ∷ pieces_of tree)) none ∙ ap (λ l. formatted (white l ∷ pieces_of tree)) nothing;
}

pub puts_all : {laid : Laid} {tree : Forest} {text held : List ℕ} {walk : List At} → PutsPieces laid tree text held walk → walk ≡ []
    → text ++ trimmed true held ≡ formatted (pieces_of tree)
puts_all {laid} {tree} {text} {held} s e =
    ap (λ l. text ++ l) (sym (append-nil (trimmed true held)))
    ∙ (ap (λ places. text ++ formatted (white held ∷ map (piece_at tree) (tokens_among tree places))) (sym (no_places laid s.places (sym s.left ∙ e))) ∙ s.same)

module _ {laid : Laid} {tree : Forest} {text held : List ℕ} {walk : List At} (s : PutsPieces laid tree text held walk)
    (place : At) (rest : List At) (is : walk ≡ place ∷ rest) (lies : IsTree laid tree)
    (token : Bool) (read : IsTree place.laid tree → token ≡ is_token_at tree place.at) where
  next : BeginsAt laid s.places place rest
  next = begins laid s.places place rest (sym s.left ∙ is)

  pub own_tree : IsTree place.laid tree
  own_tree = subst (λ l. IsTree l tree) (sym (ap (λ p. p.laid) next.place_is)) lies

  here : is_token_at tree next.at ≡ token
  here = ap (λ p. is_token_at tree p.at) (sym next.place_is) ∙ sym (read own_tree)

  abbrev others : List ℕ
  others = tokens_among tree next.behind

  from : text ++ formatted (white held ∷ map (piece_at tree) (tokens_among tree (next.at ∷ next.behind))) ≡ formatted (pieces_of tree)
  from = ap (λ places. text ++ formatted (white held ∷ map (piece_at tree) (tokens_among tree places))) (sym next.is) ∙ s.same

  pub passes_node : token ≡ false → PutsPieces laid tree text held rest
  passes_node node = record {
    places = next.behind;
    left = next.rest_is;
    same = ap (λ places. text ++ formatted (white held ∷ map (piece_at tree) places))
        (sym (cond-false (is_token_at tree next.at) (next.at ∷ others) others (here ∙ node)))
        ∙ from;
  }

  pub puts_token : token ≡ true → (text' held' : List ℕ)
      → ((behind : List Piece) → text' ++ formatted (white held' ∷ behind) ≡ text ++ formatted (white held ∷ piece_at tree place.at ∷ behind))
      → PutsPieces laid tree text' held' rest
  puts_token is_one text' held' more = record {
    places = next.behind;
    left = next.rest_is;
    same = more (map (piece_at tree) others)
        ∙ (ap (λ p. text ++ formatted (white held ∷ piece_at tree p.at ∷ map (piece_at tree) others)) next.place_is
        ∙ (ap (λ places. text ++ formatted (white held ∷ map (piece_at tree) places))
        (sym (cond-true (is_token_at tree next.at) (next.at ∷ others) others (here ∙ is_one)))
        ∙ from));
  }

-- ---- one token

module _ (text held bytes : List ℕ) (piece : Piece) (behind : List Piece) (same : bytes ≡ piece.bytes) where
  -- white space is held back
  pub holds : piece.is_white ≡ true → text ++ formatted (white (held ++ bytes) ∷ behind) ≡ text ++ formatted (white held ∷ piece ∷ behind)
  holds is =
      let ends = ends_line behind in
      let whole : trimmed ends (held ++ bytes) ++ formatted behind
      ≡ trimmed (ends || has_line_feed bytes) held ++ (trimmed ends bytes ++ formatted behind) =
      ap (λ l. l ++ formatted behind) (trimmed-append ends held bytes)
      ∙ append_assoc (trimmed (ends || has_line_feed bytes) held) (trimmed ends bytes) (formatted behind) in
      rw (is, ← same) (ap (λ l. text ++ l) whole)

  -- any other token is put behind what is left of it
  pub puts : piece.is_white ≡ false
      → ((text ++ trimmed false held) ++ bytes) ++ formatted (white [] ∷ behind) ≡ text ++ formatted (white held ∷ piece ∷ behind)
  puts is =
      rw (is, ← same) (append_assoc (text ++ trimmed false held) bytes (formatted behind) ∙ append_assoc text (trimmed false held) (bytes ++ formatted behind))

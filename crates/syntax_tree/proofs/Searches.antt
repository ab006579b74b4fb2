-- The first and the last token among places, and the places of an element.
use Rattle.std.proofs.Common.{◌≡◌, ◌∙◌, ℕ, ◌+◌, ◌-◌, ◌<◌, ◌≤◌, [], ◌∷◌, ◌++◌, length, arith, ap, one-add, filter, true, false}
use Rattle.std.specs.List.{range_with_len}
use Rattle.std.proofs.lemmas.Bool.{cond-true}
use Rattle.std.proofs.lemmas.List.Elements.{filter-append}
use Rattle.squawk_tree.specs.Forest.{Forest}
use Rattle.syntax_tree.specs.Trees.{is_token_at, size_at, places_between, descendants_of, tokens_among, StartsWith, EndsWith}
use Rattle.syntax_tree.specs.Layout.{Laid, IsTree}
use Rattle.syntax_tree.specs.Views.{element_in}
use Rattle.syntax_tree.proofs.Places.{reads}
use Rattle.syntax_tree.proofs.Children.{range_with_len-append, filter-none}

-- no token stands at the places from one on, below another
abbrev pub NoToken : Forest → ℕ → ℕ → Type 0
NoToken tree from stop = (k : ℕ) → from ≤ k → k < stop → is_token_at tree k ≡ false

pub no_tokens : (tree : Forest) (from stop : ℕ) → NoToken tree from stop → tokens_among tree (places_between from stop) ≡ []
no_tokens tree from stop none = filter-none (is_token_at tree) from (stop - from) (λ k above below. none k above (omega (arith, above, below)))

module _ (tree : Forest) (from at stop : ℕ) (above : from ≤ at) (below : at < stop) (token : is_token_at tree at ≡ true) where
  tokens_split : tokens_among tree (places_between from stop)
      ≡ tokens_among tree (places_between from at) ++ at ∷ tokens_among tree (places_between (at + 1) stop)
  tokens_split =
      let p = is_token_at tree in
      let len : stop - from ≡ at - from + (1 + (stop - (at + 1))) = omega (arith, above, below) in
      let seam : from + (at - from) ≡ at = omega (arith, above) in
      let rest = range_with_len (at + 1) (stop - (at + 1)) in
      let head : range_with_len at (1 + (stop - (at + 1))) ≡ at ∷ rest = ap (range_with_len at) (one-add (stop - (at + 1))) in
      ap (λ n. filter p (range_with_len from n)) len
      ∙ (ap (filter p) (range_with_len-append from (at - from) (1 + (stop - (at + 1))))
      ∙ (filter-append p (range_with_len from (at - from)) (range_with_len (from + (at - from)) (1 + (stop - (at + 1))))
      ∙ ap (λ l. filter p (range_with_len from (at - from)) ++ l)
      (ap (λ a. filter p (range_with_len a (1 + (stop - (at + 1))))) seam
      ∙ (ap (filter p) head ∙ cond-true (p at) (at ∷ filter p rest) (filter p rest) token))))

  pub first_found : NoToken tree from at → StartsWith (tokens_among tree (places_between from stop)) at
  first_found none = record {
    behind = tokens_among tree (places_between (at + 1) stop);
    is = tokens_split ∙ ap (λ l. l ++ at ∷ tokens_among tree (places_between (at + 1) stop)) (no_tokens tree from at none);
  }

  pub last_found : NoToken tree (at + 1) stop → EndsWith (tokens_among tree (places_between from stop)) at
  last_found none = record {
    before = tokens_among tree (places_between from at);
    is = tokens_split ∙ ap (λ l. tokens_among tree (places_between from at) ++ at ∷ l) (no_tokens tree (at + 1) stop none);
  }

module _ (laid : Laid) (tree : Forest) (is : IsTree laid tree) (at : ℕ) (below : at < length laid.elements) (behind : ℕ) (ends : behind ≡ (element_in laid at).behind) where
  pub ends_within : behind ≤ length laid.elements
  ends_within = let read = reads laid tree is at below in omega (arith, read.behind, read.within)

  pub descendants_are : places_between at behind ≡ descendants_of tree at
  descendants_are =
      let read = reads laid tree is at below in
      let len : behind - at ≡ size_at tree at = omega (arith, read.behind) in
      ap (range_with_len at) len

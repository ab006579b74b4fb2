-- What a caller's names stand for.
use Rattle.std.specs.Prelude.{◌≡◌, ℕ, ◌&&◌, not, Bool, true, false, Option, List, option_map}
use Rattle.std.specs.List.{find}
use Rattle.std.specs.Str.{bytes_eq}
use denote.Ref.{Bor}
use Rattle.squawk_kinds.specs.TokenSets.{has}
use Rattle.squawk_kinds.specs.declared.token_set.TokenSet.{TokenSet}

-- the kind of the token and of the node with each name, the contextual kind of the identifier with each text, the class of
-- tokens with each name, and whether operators are made of a kind
pub record Vocabulary : Type 0 where
  pub token : List ℕ → Option ℕ
  pub node : List ℕ → Option ℕ
  pub word : List ℕ → Option ℕ
  pub class : List ℕ → Option TokenSet
  pub operators : ℕ → Bool

-- the kind of a token in a class: of an identifier with the text, if it is one of words
abbrev pub kind_in : Vocabulary → Bool → List ℕ → Option ℕ
kind_in v true name = v.word name
kind_in v false name = v.token name

-- what the first pair with the name has
abbrev pub named : {X : Type 0} → List (Bor (List ℕ) × X) → List ℕ → Option X
named pairs name = option_map (λ pair. pair.1) (find (λ pair. bytes_eq name pair.0.now) pairs)

-- the keywords that are in none of three categories
abbrev pub IsUnreserved : (all reserved names functions set : TokenSet) → Type 0
IsUnreserved all reserved names functions set = (kind : ℕ) → has set kind ≡ (has all kind && not (has reserved kind) && not (has names kind) && not (has functions kind))

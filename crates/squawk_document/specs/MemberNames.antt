-- The names of the members that the objects of a document have.
use Rattle.std.specs.Prelude.{◌≡◌, List, [], ◌∷◌, ℕ, IfSome, IsSome, Ok, codes, length}
use Rattle.serde_json.specs.Data.{Data}
use Rattle.serde_json.specs.Find.{get}
use Rattle.squawk_document.specs.Values.{has_members}

-- those of the document
abbrev pub document_names : List (List ℕ)
document_names = codes "text" ∷ codes "tokens" ∷ codes "words" ∷ codes "vocabulary" ∷ codes "entry" ∷ codes "calls" ∷ []

-- those of its words
abbrev pub words_names : List (List ℕ)
words_names = codes "operator_first" ∷ codes "names" ∷ []

-- those of its vocabulary
abbrev pub vocabulary_names : List (List ℕ)
vocabulary_names = codes "keywords" ∷ codes "contextual" ∷ []

-- each of these names has a member
abbrev pub HasEach : List (List ℕ) → Data → Type 0
HasEach [] d = Unit {0}
HasEach (name ∷ names) d = IsSome (get name d) × HasEach names d

-- an object with a member of each of these names, and no more members
abbrev pub HasMembers : List (List ℕ) → Data → Type 0
HasMembers names d = (has_members (length names) d ≡ Ok d) × HasEach names d

-- a document is such an object, and so are the two objects in it
pub record IsDocument (d : Data) : Type 0 where
  pub members : HasMembers document_names d
  pub words : IfSome (get (codes "words") d) (HasMembers words_names)
  pub vocabulary : IfSome (get (codes "vocabulary") d) (HasMembers vocabulary_names)

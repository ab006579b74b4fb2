-- Which kinds each class has.
use Rattle.std.specs.Prelude.{◌≡◌, ℕ, ◌+◌, ◌<◌, ◌&&◌, ◌||◌, ◌==◌, not, nat_le, nat_lt, Bool, true, false, Option, Some, None, List, [], ◌∷◌, drop, length, take, slice_get}
use Rattle.squawk_kinds.specs.Kinds.{WHITESPACE}
use Rattle.squawk_kinds.specs.TokenSets.{has}
use Rattle.squawk_kinds.specs.declared.token_set.TokenSet.{TokenSet}
use Rattle.rule_grammar.specs.Parts.{set_has}
use Rattle.rule_parts.specs.declared.Part.{Part}
use Rattle.rule_parts.specs.declared.Part.TheVariants.{Words, Without, Token, Class, Call}
use Rattle.rule_tables.specs.Definitions.{class_number, classes_in, size_of_class}
use Rattle.rule_tables.specs.Vocabulary.{Vocabulary, kind_in}

-- whether a token of the kind is one of a kind
abbrev pub is_token : Option ℕ → ℕ → Bool
is_token None kind = false
is_token (Some one) kind = nat_le one WHITESPACE && (one == kind)

-- Whether the class of a number below `count` has the kind, where `holds` says which kinds each class has.
abbrev pub class_holds : (ℕ → ℕ → Bool) → ℕ → Option ℕ → ℕ → Bool
class_holds holds count None kind = false
class_holds holds count (Some number) kind = nat_lt number count && holds number kind

-- whether a set, if there is one, has a kind
abbrev pub some_has : Option TokenSet → ℕ → Bool
some_has None kind = false
some_has (Some set) kind = has set kind

-- whether the part is a class of words
abbrev pub is_words : Option Part → Bool
is_words (Some (Words own size)) = true
is_words part = false

-- the number of the class that a member is, if it is one
abbrev pub member_number : List Part → Part → Option ℕ
member_number parts (Class name) = class_number parts name.text.now
member_number parts p = None

-- whether another member has the kind: a token, of words by its text, or a class that the caller gives
abbrev pub token_has : Vocabulary → Bool → ℕ → Part → Bool
token_has v words kind (Token name) = is_token (kind_in v words name.text.now) kind
token_has v words kind (Call name) = some_has (v.class name.text.now) kind
token_has v words kind p = false

-- whether a member of the class of number `count` has the kind
abbrev pub member_has : Vocabulary → List Part → (ℕ → ℕ → Bool) → ℕ → Bool → ℕ → Part → Bool
member_has v parts holds count words kind p = class_holds holds count (member_number parts p) kind || token_has v words kind p

-- whether the kinds of the member after this one are taken away
abbrev pub is_without : Part → Bool
is_without Without = true
is_without p = false

-- what is so far, and one more; or without it, after `-`
abbrev pub joined : Bool → Bool → Bool → Bool
joined false before one = before || one
joined true before one = before && not one

-- whether the members have a kind, one after another, where `member` says which have it
abbrev pub members_have : (Part → Bool) → Bool → Bool → List Part → Bool
members_have member before after_without [] = before
members_have member before after_without (p ∷ ps) = members_have member (joined after_without before (member p)) (is_without p) ps

-- the members of the class that is part i
abbrev pub members_of : List Part → ℕ → ℕ → List Part
members_of parts i size = take size (drop (i + 1) parts)

-- whether the class that is part i, of this size, has a kind
abbrev pub class_has : Vocabulary → List Part → (ℕ → ℕ → Bool) → ℕ → ℕ → ℕ → Bool
class_has v parts holds i size kind =
    members_have (member_has v parts holds (classes_in (take i parts)) (is_words (slice_get parts i)) kind) false false (members_of parts i size)

-- The first sets are those of the classes among the first n parts.
abbrev pub AreClasses : Vocabulary → List Part → (ℕ → ℕ → Bool) → ℕ → Type 0
AreClasses v parts holds n = (i : ℕ) → i < n → (size : ℕ) → size_of_class (slice_get parts i) ≡ Some size → (kind : ℕ) → holds (classes_in (take i parts)) kind ≡ class_has v parts holds i size kind

-- The sets of a table are those of the classes of the parts.
abbrev pub HasClasses : Vocabulary → List Part → List (List ℕ) → Type 0
HasClasses v parts sets = AreClasses v parts (set_has sets) (length parts)

-- whether the set of a number has a kind
abbrev pub list_has : List TokenSet → ℕ → ℕ → Bool
list_has sets number kind = some_has (slice_get sets number) kind

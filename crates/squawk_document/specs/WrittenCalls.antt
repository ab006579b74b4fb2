-- How calls of a parser are written as JSON: each with its name and its fields, each once.
use Rattle.std.specs.Prelude.{◌≡◌, ℕ, List, [], ◌∷◌, Ok, codes, MatchResult}
use Rattle.serde_json.specs.Data.{Data}
use Rattle.squawk_kinds.specs.declared.token_set.TokenSet.{TokenSet}
use Rattle.squawk_script.specs.declared.call.Call.{Call}
use Rattle.squawk_script.specs.declared.call.Call.TheVariants.{Start, Complete, Abandon, Precede, ExtendTo, Eat, BumpAny, BumpRemap, Expect, Error, ErrRecover, ErrAndBump}
use Rattle.squawk_document.specs.Calls.{message_in}
use Rattle.squawk_document.specs.KindSets.{set_in}
use Rattle.squawk_document.specs.Values.{items_in, kind_number_in, string_in, u32_in}

-- ---- names and fields

-- the name of a call
abbrev pub name_of_call : Call → List ℕ
name_of_call Start = codes "start"
name_of_call (Complete marker kind) = codes "complete"
name_of_call (Abandon marker) = codes "abandon"
name_of_call (Precede node) = codes "precede"
name_of_call (ExtendTo node marker) = codes "extend_to"
name_of_call (Eat kind) = codes "eat"
name_of_call (Expect kind) = codes "expect"
name_of_call BumpAny = codes "bump_any"
name_of_call (BumpRemap kind) = codes "bump_remap"
name_of_call (Error message) = codes "error"
name_of_call (ErrAndBump message) = codes "err_and_bump"
name_of_call (ErrRecover message recovery) = codes "err_recover"

-- an argument of a call: the number of a marker or a node, a kind, the characters of a message, or a set of kinds
pub data Field : Type 0 where
  id_field : ℕ → Field
  kind_field : ℕ → Field
  message_field : List ℕ → Field
  kinds_field : TokenSet → Field

-- the fields of a call, in the order in which the call has them
abbrev pub fields_of_call : Call → List Field
fields_of_call Start = []
fields_of_call (Complete marker kind) = id_field marker ∷ kind_field kind ∷ []
fields_of_call (Abandon marker) = id_field marker ∷ []
fields_of_call (Precede node) = id_field node ∷ []
fields_of_call (ExtendTo node marker) = id_field node ∷ id_field marker ∷ []
fields_of_call (Eat kind) = kind_field kind ∷ []
fields_of_call (Expect kind) = kind_field kind ∷ []
fields_of_call BumpAny = []
fields_of_call (BumpRemap kind) = kind_field kind ∷ []
fields_of_call (Error message) = message_field message ∷ []
fields_of_call (ErrAndBump message) = message_field message ∷ []
fields_of_call (ErrRecover message recovery) = message_field message ∷ kinds_field recovery ∷ []

-- ---- JSON of a call

-- JSON of a field: it is read as the field; a set of kinds has many such lists
abbrev pub IsField : Field → Data → Type 0
IsField (id_field id) d = u32_in d ≡ Ok id
IsField (kind_field kind) d = kind_number_in d ≡ Ok kind
IsField (message_field message) d = message_in d ≡ Ok message
IsField (kinds_field kinds) d = set_in 0 d ≡ Ok kinds

-- a list has JSON of each of these, in their order, and of nothing else
abbrev pub OneForOne : {X : Type 0} → (X → Data → Type 0) → List X → List Data → Type 0
OneForOne Is [] [] = Unit
OneForOne Is [] (d ∷ ds) = ⊥
OneForOne Is (x ∷ xs) [] = ⊥
OneForOne Is (x ∷ xs) (d ∷ ds) = Is x d × OneForOne Is xs ds

-- a call's name, and its fields
abbrev pub AreNameAndFields : Call → List Data → Type 0
AreNameAndFields call [] = ⊥
AreNameAndFields call (name ∷ fields) = (string_in name ≡ Ok (name_of_call call)) × OneForOne IsField (fields_of_call call) fields

-- JSON of a call: a list of its name and its fields
abbrev pub IsCall : Call → Data → Type 0
IsCall call d = MatchResult (items_in d) (AreNameAndFields call) (λ _. ⊥)

-- JSON of calls: a list of them
abbrev pub AreCalls : List Call → Data → Type 0
AreCalls calls d = MatchResult (items_in d) (OneForOne IsCall calls) (λ _. ⊥)

-- ---- JSON of none

-- JSON that is no call
abbrev pub IsNoCall : Data → Type 0
IsNoCall d = (call : Call) → ¬ (IsCall call d)

-- JSON that is no list of calls
abbrev pub AreNoCalls : Data → Type 0
AreNoCalls d = (calls : List Call) → ¬ (AreCalls calls d)

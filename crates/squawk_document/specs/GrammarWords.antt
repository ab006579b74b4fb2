-- The words of a document: the operators of its grammar, and the names of its kinds.
use Rattle.std.specs.Prelude.{ℕ, List, Result, Ok, codes}
use Rattle.serde_json.specs.Data.{Data}
use Rattle.serde_json.specs.View.{view}
use Rattle.squawk_document.specs.declared.document_error.DocumentError.{DocumentError}
use Rattle.squawk_document.specs.declared.words.WordMembers.{WordMembers}
use Rattle.squawk_document.specs.Values.{◌>>=◌, each, has_members, items_in, kind_number_in, member_in, pair_in, string_in}

-- the members of a document's words, as JSON
pub record WordData : Type 0 where
  pub operator_first : Data
  pub names : Data

-- the same, of members that were read
abbrev pub word_data : WordMembers → WordData
word_data members = record { operator_first = view members.operator_first.now; names = view members.names.now }

-- an object with these two members and no other
abbrev pub word_members_in : Data → Result WordData DocumentError
word_members_in d = has_members 2 d
    >>= λ object. member_in (codes "operator_first") object
    >>= λ operator_first. member_in (codes "names") object
    >>= λ names. Ok (record { operator_first = operator_first; names = names })

-- a kind and its name
abbrev pub kind_and_name_in : Data → Result (ℕ × List ℕ) DocumentError
kind_and_name_in d = pair_in d >>= λ pair. kind_number_in pair.0 >>= λ kind. string_in pair.1 >>= λ name. Ok (kind, name)

-- kinds and their names
abbrev pub names_in : Data → Result (List (ℕ × List ℕ)) DocumentError
names_in d = items_in d >>= λ items. each kind_and_name_in items

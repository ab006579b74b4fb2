-- The members of a document.
use Rattle.std.specs.Prelude.{Result, Ok, codes}
use Rattle.serde_json.specs.Data.{Data}
use Rattle.serde_json.specs.View.{view}
use Rattle.squawk_document.specs.declared.document_error.DocumentError.{DocumentError}
use Rattle.squawk_document.specs.declared.members.DocumentMembers.{DocumentMembers}
use Rattle.squawk_document.specs.Values.{◌>>=◌, has_members, member_in}

-- the members, as JSON
pub record MemberData : Type 0 where
  pub text : Data
  pub tokens : Data
  pub words : Data
  pub vocabulary : Data
  pub entry : Data
  pub calls : Data

-- the same, of members that were read
abbrev pub member_data : DocumentMembers → MemberData
member_data members = record {
  text = view members.text.now;
  tokens = view members.tokens.now;
  words = view members.words.now;
  vocabulary = view members.vocabulary.now;
  entry = view members.entry.now;
  calls = view members.calls.now;
}

-- an object with these six members and no other
abbrev pub members_in : Data → Result MemberData DocumentError
members_in d = has_members 6 d
    >>= λ object. member_in (codes "text") object
    >>= λ text. member_in (codes "tokens") object
    >>= λ tokens. member_in (codes "words") object
    >>= λ words. member_in (codes "vocabulary") object
    >>= λ vocabulary. member_in (codes "entry") object
    >>= λ entry. member_in (codes "calls") object
    >>= λ calls. Ok (record { text = text; tokens = tokens; words = words; vocabulary = vocabulary; entry = entry; calls = calls })

-- What is read as a document is an object with its six members, and so are the two objects in it.
use Rattle.std.proofs.Common.{◌≡◌, ◌∙◌, ℕ, List, [], ◌∷◌, Bool, true, false, Ok, Err, Some, None, ap, refl, subst, sym}
use Rattle.std.specs.Prelude.{◌==◌, Option, Result, IfSome, IsSome, codes, if◌then◌else◌}
use Rattle.std.specs.Option.{ok_or}
use Rattle.serde_json.specs.Data.{Data, Members}
use Rattle.serde_json.specs.Find.{as_object, get}
use Rattle.squawk_document.specs.DocumentParts.{MemberData, members_in}
use Rattle.squawk_document.specs.Documents.{Content, document_in, words_in}
use Rattle.squawk_document.specs.GrammarWords.{word_members_in}
use Rattle.squawk_document.specs.KeywordPairs.{answered, keyword_list_in, vocabulary_in}
use Rattle.squawk_document.specs.MemberNames.{HasMembers, IsDocument, vocabulary_names, words_names}
use Rattle.squawk_document.specs.TokenShapes.{tokens_in}
use Rattle.squawk_document.specs.Values.{◌>>=◌, has_members, member_in, members_len, string_in}
use Rattle.squawk_document.specs.declared.document_error.DocumentError.{DocumentError}
use Rattle.squawk_document.specs.declared.document_error.DocumentError.TheVariants.{Shape}

-- one read and another one of its result: both succeed
both : {A B : Type 0} (r : Result A DocumentError) (f : A → Result B DocumentError) {y : B} → (r >>= f) ≡ Ok y → (x : A) × (r ≡ Ok x) × (f x ≡ Ok y)
both (Ok x) f is = (x, refl, is)
both (Err e) f is = absurd (let p = is in cc)

given : {A : Type 0} {x y : A} (r : Result A DocumentError) → r ≡ Ok x → r ≡ Ok y → y ≡ x
given r is same = let p = sym is ∙ same in cc

-- a member and another reading of it: it is there
there : {B : Type 0} (key : List ℕ) (d : Data) (f : Data → Result B DocumentError) {y : B} → (member_in key d >>= f) ≡ Ok y → (x : Data) × (get key d ≡ Some x) × (f x ≡ Ok y)
there {B} key d f {y} = of (get key d)
  where
    of : (o : Option Data) → (ok_or o Shape >>= f) ≡ Ok y → (x : Data) × (o ≡ Some x) × (f x ≡ Ok y)
    of None is = absurd (let p = is in cc)
    of (Some x) is = (x, refl, is)

some : {o : Option Data} {x : Data} → o ≡ Some x → IsSome o
some is = subst IsSome (sym is) refl

-- an object and another reading of it: it has so many members
object : {B : Type 0} (n : ℕ) (d : Data) (f : Data → Result B DocumentError) {y : B} → (has_members n d >>= f) ≡ Ok y → (has_members n d ≡ Ok d) × (f d ≡ Ok y)
object {B} n d f {y} = of (as_object d)
  where
    tested : (b : Bool) → ((if b then Ok d else Err Shape) >>= f) ≡ Ok y → ((if b then Ok d else Err Shape) ≡ Ok d) × (f d ≡ Ok y)
    tested true is = (refl, is)
    tested false is = absurd (let p = is in cc)

    of : (o : Option Members) → let read = ok_or o Shape >>= λ ms. if members_len ms == n then Ok d else Err Shape in (read >>= f) ≡ Ok y → (read ≡ Ok d) × (f d ≡ Ok y)
    of None is = absurd (let p = is in cc)
    of (Some ms) is = tested (members_len ms == n) is

-- one of two members
pair : {B : Type 0} (one other : List ℕ) (d : Data) (f : Data → Data → Result B DocumentError) {y : B}
    → (has_members 2 d >>= λ d. member_in one d >>= λ x. member_in other d >>= f x) ≡ Ok y → HasMembers (one ∷ other ∷ []) d
pair one other d f is =
    let (exact, more) = object 2 d _ is in
    let (x, first, more) = there one d _ more in
    let (_, second, _) = there other d (f x) more in
    (exact, (some first, (some second, tt)))

-- a law: a document that was read has exactly these members
pub is_document : (d : Data) (y : Content) → document_in d ≡ Ok y → IsDocument d
is_document d y is =
    let (members, of_d, more) = both (members_in d) _ is in
    let (_, _, more) = both (string_in members.text) _ more in
    let (_, _, more) = both (tokens_in members.tokens) _ more in
    let (_, of_words, more) = both (words_in members.words) _ more in
    let (_, of_words, _) = both (word_members_in members.words) _ of_words in
    let (_, of_vocabulary, _) = both (answered (vocabulary_in members.vocabulary)) _ more in
    let (_, of_vocabulary, _) = both (vocabulary_in members.vocabulary) _ of_vocabulary in
    let (exact, more) = object 6 d _ of_d in
    let (t, text, more) = there (codes "text") d _ more in
    let (k, tokens, more) = there (codes "tokens") d _ more in
    let (w, words, more) = there (codes "words") d _ more in
    let (v, vocabulary, more) = there (codes "vocabulary") d _ more in
    let (e, entry, more) = there (codes "entry") d _ more in
    let (c, calls, more) = there (codes "calls") d _ more in
    let read : MemberData = record { text = t; tokens = k; words = w; vocabulary = v; entry = e; calls = c } in
    let at : members ≡ read = given _ refl more in
    record {
      members = (exact, (some text, (some tokens, (some words, (some vocabulary, (some entry, (some calls, tt)))))));
      words = subst (λ o. IfSome o (HasMembers words_names)) (sym words) (subst (HasMembers words_names) (ap (λ m. m.words) at) (pair (codes "operator_first") (codes "names") members.words (λ first names. Ok (record { operator_first = first; names = names })) of_words));
      vocabulary = subst (λ o. IfSome o (HasMembers vocabulary_names)) (sym vocabulary)
          (subst (HasMembers vocabulary_names) (ap (λ m. m.vocabulary) at) (pair (codes "keywords") (codes "contextual") members.vocabulary
          (λ first second. keyword_list_in first >>= λ keywords. keyword_list_in second >>= λ contextual. Ok (record { keywords = keywords; contextual = contextual })) of_vocabulary));
    }

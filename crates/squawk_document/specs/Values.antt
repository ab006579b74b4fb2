-- Reads of JSON values, which may fail.
use Rattle.std.specs.Prelude.{◌≡◌, ℕ, ◌+◌, ◌==◌, Bool, List, [], ◌∷◌, length, Result, Ok, Err, option_and_then, slice_get, nat_eq, nat_lt, if◌then◌else◌}
use Rattle.std.specs.Cmp.Lexicographic.{pointwise}
use Rattle.std.specs.Option.{ok_or}
use Rattle.std.specs.Str.{is_utf8}
use Rattle.serde_json.specs.Data.{Data, Items, no_items, item, Members, no_members, member}
use Rattle.serde_json.specs.Find.{as_array, as_bool, as_number, as_object, as_str, as_u64, get}
use Rattle.serde_json.specs.Read.{read}
use Rattle.squawk_document.specs.declared.document_error.DocumentError.{DocumentError}
use Rattle.squawk_document.specs.declared.document_error.DocumentError.TheVariants.{Json, Shape, OutOfMemory}

-- ---- readings that may fail

-- one read, and another one of its result
infixl 10 ◌>>=◌
abbrev pub ◌>>=◌ : {A B : Type 0} → Result A DocumentError → (A → Result B DocumentError) → Result B DocumentError
(Ok x) >>= f = f x
(Err e) >>= f = Err e

-- a read ends in this error; nothing is said of memory
abbrev pub Fails : {Y : Type 0} → DocumentError → Result Y DocumentError → Type 0
Fails Json reading = reading ≡ Err Json
Fails Shape reading = reading ≡ Err Shape
Fails OutOfMemory reading = Unit {0}

-- the result of a function that allocates, seen by view, is that of the read, unless an allocation failed
abbrev pub Gives : {X Y : Type 0} → (X → Y) → Result X DocumentError → Result Y DocumentError → Type 0
Gives view (Ok x) reading = reading ≡ Ok (view x)
Gives view (Err e) reading = Fails e reading

-- the result of a function that doesn't allocate, seen by view, is that of the read
abbrev pub GivesExactly : {X Y : Type 0} → (X → Y) → Result X DocumentError → Result Y DocumentError → Type 0
GivesExactly view (Ok x) reading = reading ≡ Ok (view x)
GivesExactly view (Err e) reading = reading ≡ Err e

-- ---- JSON values

-- the bytes are text, and JSON
abbrev pub json_value : List ℕ → Result Data DocumentError
json_value input = if is_utf8 input then ok_or (read input) Json else Err Json

-- the items of an array, as a list
abbrev pub data_list : Items → List Data
data_list no_items = []
data_list (item d ds) = d ∷ data_list ds

-- the number of members of an object
abbrev pub members_len : Members → ℕ
members_len no_members = 0
members_len (member k d ms) = members_len ms + 1

-- the items of an array
abbrev pub items_in : Data → Result (List Data) DocumentError
items_in d = ok_or (as_array d) Shape >>= λ ds. Ok (data_list ds)

-- an object with n members
abbrev pub has_members : ℕ → Data → Result Data DocumentError
has_members n d = ok_or (as_object d) Shape >>= λ ms. if members_len ms == n then Ok d else Err Shape

-- the member of an object at a key
abbrev pub member_in : List ℕ → Data → Result Data DocumentError
member_in key d = ok_or (get key d) Shape

-- a whole number from low to high, without a sign, a fraction and an exponent
abbrev pub number_in : ℕ → ℕ → Data → Result ℕ DocumentError
number_in low high d =
    ok_or (option_and_then as_u64 (as_number d)) Shape >>= λ n. if nat_lt n low then Err Shape else if nat_lt high n then Err Shape else Ok n

-- a number of 32 bits
abbrev pub u32_in : Data → Result ℕ DocumentError
u32_in = number_in 0 4294967295

-- the number of a kind
abbrev pub kind_number_in : Data → Result ℕ DocumentError
kind_number_in = number_in 0 65535

-- a string, as its bytes
abbrev pub string_in : Data → Result (List ℕ) DocumentError
string_in d = ok_or (as_str d) Shape

-- true or false
abbrev pub bool_in : Data → Result Bool DocumentError
bool_in d = ok_or (as_bool d) Shape

-- whether a text is this one
abbrev pub is_text : List ℕ → List ℕ → Bool
is_text = pointwise nat_eq

-- a list of n items
abbrev pub with_len : ℕ → List Data → Result (List Data) DocumentError
with_len n ds = if length ds == n then Ok ds else Err Shape

-- item i of a list
abbrev pub item_at : List Data → ℕ → Result Data DocumentError
item_at ds i = ok_or (slice_get ds i) Shape

-- the items of a list of two
abbrev pub pair_in : Data → Result (Data × Data) DocumentError
pair_in d = items_in d >>= with_len 2 >>= λ items. item_at items 0 >>= λ first. item_at items 1 >>= λ second. Ok (first, second)

-- what is read of each item, or the first error
abbrev pub each : {X : Type 0} → (Data → Result X DocumentError) → List Data → Result (List X) DocumentError
each f [] = Ok []
each f (d ∷ ds) = f d >>= λ x. each f ds >>= λ xs. Ok (x ∷ xs)

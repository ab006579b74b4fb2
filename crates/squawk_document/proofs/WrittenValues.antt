-- Values that are read, as they are written: the result of a read determines the JSON.
use Rattle.std.proofs.Common.{◌≡◌, ℕ, ◌==◌, ◌≤◌, All, List, [], ◌∷◌, Bool, true, false, cond, Ok, Err, refl, ap, sym, ◌∙◌, arith}
use Rattle.std.specs.Prelude.{Result, map, nat_lt}
use Rattle.std.specs.Cmp.Lexicographic.{bytes_decides}
use Rattle.std.proofs.lemmas.Bool.{le-ltb}
use Rattle.std.proofs.lemmas.Bool.Decides.{Decides-eqb}
use Rattle.std.proofs.lemmas.List.Elements.{All-head, All-tail}
use Rattle.serde_json.specs.Data.{Data, Items, null, boolean, number, unsigned, negative, float, string, array, object, no_items, item}
use Rattle.serde_json.specs.View.{items_of}
use Rattle.squawk_document.specs.declared.document_error.DocumentError.{DocumentError}
use Rattle.squawk_document.specs.Values.{◌>>=◌, bool_in, data_list, each, is_text, items_in, number_in, string_in, u32_in}
use Rattle.squawk_document.specs.WrittenTokens.{IsOf32Bits, whole}

-- ---- one reading behind another

-- both gave something
pub bound : {X Y P : Type 0} (r : Result X DocumentError) (f : X → Result Y DocumentError) (y : Y)
    → (r >>= f) ≡ Ok y → ((x : X) → r ≡ Ok x → f x ≡ Ok y → P) → P
bound (Ok x) f y reads go = go x refl reads
bound (Err e) f y reads go = absurd (let p = reads in cc)

-- a test held, or it didn't
by_test : {X P Q : Type 0} (test : Bool) → (test ≡ true → Q) → (here other x : X) → cond test here other ≡ x → (Q → here ≡ x → P) → (other ≡ x → P) → P
by_test true holds here other x reads this that = this (holds refl) reads
by_test false holds here other x reads this that = that reads

-- a text is the one that it is compared with, or another
pub by_text : {X P : Type 0} (w word : List ℕ) (here other x : X) → cond (is_text w word) here other ≡ x → (w ≡ word → here ≡ x → P) → (other ≡ x → P) → P
by_text w word = by_test (is_text w word) (bytes_decides w word).0

-- and so is a number
pub by_number : {X P : Type 0} (n one : ℕ) (here other x : X) → cond (n == one) here other ≡ x → (n ≡ one → here ≡ x → P) → (other ≡ x → P) → P
by_number n one = by_test (n == one) (Decides-eqb n one).0

-- ---- values

pub number_in-ok : (low high n : ℕ) → low ≤ n → n ≤ high → number_in low high (whole n) ≡ Ok n
number_in-ok low high n above below = rw (le-ltb n low above, le-ltb high n below) refl

pub u32_in-ok : (n : ℕ) → IsOf32Bits n → u32_in (whole n) ≡ Ok n
u32_in-ok n below = number_in-ok 0 4294967295 n (omega arith) below

pub number_in-is : (low high : ℕ) (d : Data) (n : ℕ) → number_in low high d ≡ Ok n → d ≡ whole n
number_in-is low high (number (unsigned m)) n reads = by_low (nat_lt m low) refl
  where
    by_high : (b : Bool) → nat_lt high m ≡ b → nat_lt m low ≡ false → whole m ≡ whole n
    by_high true above below = absurd (let p = rw (below, above) at reads in cc)
    by_high false above below = let is : m ≡ n = let p = rw (below, above) at reads in cc in ap whole is

    by_low : (b : Bool) → nat_lt m low ≡ b → whole m ≡ whole n
    by_low true below = absurd (let p = rw below at reads in cc)
    by_low false below = by_high (nat_lt high m) refl below
number_in-is low high (number (negative z)) n reads = absurd (let p = reads in cc)
number_in-is low high (number (float x)) n reads = absurd (let p = reads in cc)
number_in-is low high null n reads = absurd (let p = reads in cc)
number_in-is low high (boolean b) n reads = absurd (let p = reads in cc)
number_in-is low high (string s) n reads = absurd (let p = reads in cc)
number_in-is low high (array ds) n reads = absurd (let p = reads in cc)
number_in-is low high (object ms) n reads = absurd (let p = reads in cc)

pub bool_in-is : (d : Data) (b : Bool) → bool_in d ≡ Ok b → d ≡ boolean b
bool_in-is null b reads = absurd (let p = reads in cc)
bool_in-is (boolean c) b reads = let is : c ≡ b = let p = reads in cc in ap boolean is
bool_in-is (number x) b reads = absurd (let p = reads in cc)
bool_in-is (string s) b reads = absurd (let p = reads in cc)
bool_in-is (array ds) b reads = absurd (let p = reads in cc)
bool_in-is (object ms) b reads = absurd (let p = reads in cc)

pub string_in-is : (d : Data) (s : List ℕ) → string_in d ≡ Ok s → d ≡ string s
string_in-is null s reads = absurd (let p = reads in cc)
string_in-is (boolean b) s reads = absurd (let p = reads in cc)
string_in-is (number x) s reads = absurd (let p = reads in cc)
string_in-is (string t) s reads = let is : t ≡ s = let p = reads in cc in ap string is
string_in-is (array ds) s reads = absurd (let p = reads in cc)
string_in-is (object ms) s reads = absurd (let p = reads in cc)

-- ---- lists

pub data_list-items_of : (ds : List Data) → data_list (items_of ds) ≡ ds
data_list-items_of [] = refl
data_list-items_of (d ∷ ds) = ap (λ rest. d ∷ rest) (data_list-items_of ds)

items_of-data_list : (ds : Items) → items_of (data_list ds) ≡ ds
items_of-data_list no_items = refl
items_of-data_list (item d ds) = ap (item d) (items_of-data_list ds)

pub items_in-is : (d : Data) (ds : List Data) → items_in d ≡ Ok ds → d ≡ array (items_of ds)
items_in-is null ds reads = absurd (let p = reads in cc)
items_in-is (boolean b) ds reads = absurd (let p = reads in cc)
items_in-is (number x) ds reads = absurd (let p = reads in cc)
items_in-is (string s) ds reads = absurd (let p = reads in cc)
items_in-is (array items) ds reads =
    let are : data_list items ≡ ds = let p = reads in cc in
    ap array (sym (items_of-data_list items) ∙ ap items_of are)
items_in-is (object ms) ds reads = absurd (let p = reads in cc)

-- each item that is read is written so
pub each-is : {X : Type 0} (f : Data → Result X DocumentError) (written : X → Data) → ((d : Data) (x : X) → f d ≡ Ok x → d ≡ written x)
    → (ds : List Data) (xs : List X) → each f ds ≡ Ok xs → ds ≡ map written xs
each-is f written is [] xs reads = let none : [] ≡ xs = let p = reads in cc in ap (map written) none
each-is f written is (d ∷ ds) xs reads =
    bound (f d) _ xs reads (λ x first more.
    bound (each f ds) _ xs more (λ rest last all.
    let are : x ∷ rest ≡ xs = let p = all in cc in
    let here : d ≡ written x = is d x first in
    let there : ds ≡ map written rest = each-is f written is ds rest last in
    (λ i. here i ∷ there i) ∙ ap (map written) are))

-- each item that is written is read back
pub each-ok : {X : Type 0} (f : Data → Result X DocumentError) (written : X → Data) (P : X → Type 0) → ((x : X) → P x → f (written x) ≡ Ok x)
    → (xs : List X) → All P xs → each f (map written xs) ≡ Ok xs
each-ok f written P reads [] all = refl
each-ok f written P reads (x ∷ xs) all = rw (reads x (All-head P x xs all), each-ok f written P reads xs (All-tail P x xs all)) refl

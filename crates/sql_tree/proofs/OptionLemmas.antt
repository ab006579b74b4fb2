-- What is asked by flags, one after another, and their arguments.
use Rattle.std.proofs.Common.{◌≡◌, ◌∙◌, ℕ, ◌+◌, ◌<◌, ◌≤◌, List, [], ◌∷◌, ◌++◌, Bool, true, false, add-one, ap, cond, drop, get_or, length, map, refl, subst, sym, take}
use Rattle.std.specs.Prelude.{MatchBool, filter, not}
use Rattle.std.specs.Borrow.{Bor}
use Rattle.std.specs.Str.{bytes_eq}
use Rattle.std.proofs.lemmas.List.Elements.{filter-append}
use Rattle.std.proofs.Math.ListN.{drop_of_length-le}
use Rattle.std.proofs.Math.Seq.{drop-cons, take-suc}
use Rattle.std.proofs.lemmas.List.{append-nil, map-append, take_all}
use Rattle.std.proofs.lemmas.Simd.{map-map}
use Rattle.clap.specs.declared.parser.matches.Found.{Found}
use Rattle.sql_tree.specs.Options.{FlagRow, IsAsked, IsSet, row_of}
use Rattle.sql_tree.specs.declared.options.Flag.{Flag}
use Rattle.sql_tree.specs.declared.options.Listing.{Listing}
use Rattle.sql_tree.specs.declared.options.Listing.TheVariants.{Tree}

abbrev pub rows_behind : List Flag → ℕ → List FlagRow
rows_behind items i = map row_of (drop i items)

pub asked_at : (found : Found) (items : List Flag) (i : ℕ) (d : Flag) (set : Bool) (listing : Listing) → i < length items
    → IsSet found (get_or items i d).name.now set
    → MatchBool set (listing ≡ (get_or items i d).listing) (IsAsked found (rows_behind items (i + 1)) listing)
    → IsAsked found (rows_behind items i) listing
asked_at found items i d set listing within is rest =
    let e : drop i items ≡ get_or items i d ∷ drop (i + 1) items = drop-cons items i d within ∙ ap (λ n. get_or items i d ∷ drop n items) (sym (add-one i)) in
    subst (λ l. IsAsked found (map row_of l) listing) (sym e) (set, is, rest)

pub asked_none : (found : Found) (items : List Flag) (i : ℕ) → length items ≤ i → IsAsked found (rows_behind items i) Tree
asked_none found items i end = subst (λ l. IsAsked found (map row_of l) Tree) (sym (drop_of_length-le items end)) refl

-- what a function makes of the first argument, and of flags up to one
abbrev pub before : {B : Type 0} → B → (Flag → B) → List Flag → ℕ → List B
before first f items i = first ∷ map f (take i items)

-- the names of other flags up to one
abbrev pub others_before : List ℕ → List Flag → ℕ → List (List ℕ)
others_before name items i = filter (λ other. not (bytes_eq other name)) (map (λ flag. flag.name.now) (take i items))

module _ (items : List Flag) (i : ℕ) (d : Flag) (within : i < length items) where
  map-next : {B : Type 0} (f : Flag → B) → map f (take (i + 1) items) ≡ map f (take i items) ++ f (get_or items i d) ∷ []
  map-next f =
      ap (λ n. map f (take n items)) (add-one i) ∙ (ap (map f) (take-suc items i d within) ∙ map-append f (take i items) (get_or items i d ∷ []))

  pub one_more : {A B : Type 0} (first : B) (f : Flag → B) (g : A → B) (old new : List A) (one : A)
      → new ≡ old ++ one ∷ [] → map g old ≡ before first f items i → g one ≡ f (get_or items i d) → map g new ≡ before first f items (i + 1)
  one_more first f g old new one grown so_far is =
      ap (map g) grown ∙ (map-append g old (one ∷ []) ∙ (ap (λ l. l ++ g one ∷ []) so_far
      ∙ (ap (λ b. before first f items i ++ b ∷ []) is ∙ ap (λ l. first ∷ l) (sym (map-next f)))))

  others_more : (name : List ℕ) (differs : Bool) → differs ≡ not (bytes_eq (get_or items i d).name.now name)
      → others_before name items (i + 1) ≡ others_before name items i ++ cond differs ((get_or items i d).name.now ∷ []) []
  others_more name differs is =
      let p : List ℕ → Bool = λ other. not (bytes_eq other name) in
      ap (filter p) (map-next (λ flag. flag.name.now))
      ∙ (filter-append p (map (λ flag. flag.name.now) (take i items)) ((get_or items i d).name.now ∷ [])
      ∙ subst (λ b. others_before name items i ++ filter p ((get_or items i d).name.now ∷ []) ≡ others_before name items i ++ cond b ((get_or items i d).name.now ∷ []) []) (sym is) refl)

  pub others_put : (name : List ℕ) (differs : Bool) → differs ≡ not (bytes_eq (get_or items i d).name.now name) → differs ≡ true
      → (old new : List (Bor (List ℕ))) → new ≡ old ++ (get_or items i d).name ∷ [] → map (λ id. id.now) old ≡ others_before name items i
      → map (λ id. id.now) new ≡ others_before name items (i + 1)
  others_put name differs is so old new grown so_far =
      ap (map (λ id. id.now)) grown ∙ (map-append (λ id. id.now) old ((get_or items i d).name ∷ [])
      ∙ (ap (λ l. l ++ (get_or items i d).name.now ∷ []) so_far ∙ sym (others_more name true (sym so ∙ is))))

  pub others_left : (name : List ℕ) (differs : Bool) → differs ≡ not (bytes_eq (get_or items i d).name.now name) → differs ≡ false
      → (old : List (Bor (List ℕ))) → map (λ id. id.now) old ≡ others_before name items i → map (λ id. id.now) old ≡ others_before name items (i + 1)
  others_left name differs is so old so_far =
      so_far ∙ (sym (append-nil (others_before name items i)) ∙ sym (others_more name false (sym so ∙ is)))

-- all flags of a list whose rows are these
module _ (items : List Flag) (rows : List FlagRow) (are : map row_of items ≡ rows) where
  pub asked_first : (found : Found) (listing : Listing) → IsAsked found (rows_behind items 0) listing → IsAsked found rows listing
  asked_first found listing asked = subst (λ l. IsAsked found l listing) are asked

  module _ (i : ℕ) (end : length items ≤ i) where
    all_mapped : {B : Type 0} (f : FlagRow → B) → map (λ flag. f (row_of flag)) (take i items) ≡ map f rows
    all_mapped f = ap (map (λ flag. f (row_of flag))) (take_all i items end) ∙ (sym (map-map f row_of items) ∙ ap (map f) are)

    pub before_all : {B : Type 0} (first : B) (f : FlagRow → B) (all : List B) → all ≡ before first (λ flag. f (row_of flag)) items i
        → all ≡ first ∷ map f rows
    before_all first f all so_far = so_far ∙ ap (λ l. first ∷ l) (all_mapped f)

    pub others_all : (name : List ℕ) (all : List (List ℕ)) → all ≡ others_before name items i
        → all ≡ filter (λ other. not (bytes_eq other name)) (map (λ row. row.name) rows)
    others_all name all so_far = so_far ∙ ap (filter (λ other. not (bytes_eq other name))) (all_mapped (λ row. row.name))

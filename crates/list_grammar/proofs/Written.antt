-- Items and lists are read as they are written.
use Rattle.std.proofs.Common.{◌≡◌, ◌≢◌, ◌∙◌, ℕ, ◌+◌, ◌≤◌, ◌==◌, ◌||◌, Bool, true, false, List, [], ◌∷◌, ◌++◌, drop, arith, ap, sym, refl, subst, append_assoc}
use Rattle.std.proofs.lemmas.Bool.{eq-eqb}
use Rattle.std.proofs.lemmas.Grind.{flat_map-append}
use Rattle.std.proofs.lemmas.List.{append-nil}
use Rattle.squawk_kinds.specs.Kinds.{COMMA, EOF, IDENT, INT_NUMBER, L_PAREN, R_PAREN}
use Rattle.squawk_kinds.specs.TokenSets.{has}
use Rattle.squawk_table.specs.ParserInput.{kind_in, kinds_in}
use Rattle.squawk_output.specs.Draft.{Mark}
use Rattle.squawk_output.specs.Steps.{Enter, Exit}
use Rattle.squawk_parser.specs.Composites.{stands_at}
use Rattle.squawk_parser.specs.Eaten.{current_as, eat_steps, expect_steps, node, one}
use Rattle.squawk_parser.specs.Recorded.{Begins, Completes, Puts}
use Rattle.squawk_parser.specs.State.{State, IsSound, ahead, kind_at}
use Rattle.squawk_parser.proofs.KindsAhead.{kind_none, kind_seen, kind_there, kinds_moved, kinds_still}
use Rattle.squawk_parser.proofs.RecordedSteps.{node_puts, puts-then}
use Rattle.squawk_parser.proofs.SeenSteps.{bump_puts, if-true}
use Rattle.list_grammar.specs.Trees.{HasRead, Item, Items, Reads, deepest, depth_of, file_kinds, kinds_of, list, list_node, more, name, none, number, steps_at, steps_of, with_commas}
use Rattle.list_grammar.proofs.Reading.{HasRead-none, HasRead-one, HasRead-then, ReadsSome, ReadsSome-next, deepest_first, deepest_others}

-- whether a list has no more items at a kind
abbrev pub ends_at : ℕ → Bool
ends_at kind = (kind == EOF) || (kind == R_PAREN)

-- ---- an item

-- it begins with a name, a number or an opening parenthesis
pub item-first : (a : State) (item : Item) (rest : List ℕ) → kinds_in (ahead a 0) ≡ kinds_of item ++ rest → ends_at (kind_at a 0) ≡ false
item-first a name rest there = ap ends_at (kind_there a there)
item-first a number rest there = ap ends_at (kind_there a there)
item-first a (list items) rest there = ap ends_at (kind_there a there)

-- items nested no deeper are read
abbrev pub ReadsItem : ℕ → (Item → List ℕ) → State → State → Type 0
ReadsItem depth written old new = (item : Item) (rest : List ℕ) → depth_of item ≤ depth → Reads (written item) rest old new

module _ {a b : State} {depth : ℕ} where
  pub item_token : kind_at a 0 ≢ L_PAREN → Puts (current_as (kind_in (ahead a 0) 0) (ahead a 0)) a b → ReadsItem depth kinds_of a b
  item_token other puts name rest within there = HasRead-one IDENT refl there (bump_puts IDENT (kind_seen a there) (λ is. absurd (omega (arith, is))) puts)
  item_token other puts number rest within there = HasRead-one INT_NUMBER refl there (bump_puts INT_NUMBER (kind_seen a there) (λ is. absurd (omega (arith, is))) puts)
  item_token other puts (list items) rest within there = absurd (other (kind_there a there))

  pub item_list : {deeper : ℕ} → kind_at a 0 ≡ L_PAREN → ((items : Items) (rest : List ℕ) → deepest items ≤ deeper → Reads (kinds_of (list items)) rest a b) → depth ≤ 1 + deeper → ReadsItem depth kinds_of a b
  item_list is reads room name rest within there = absurd (omega (arith, is, kind_there a there))
  item_list is reads room number rest within there = absurd (omega (arith, is, kind_there a there))
  item_list is reads room (list items) rest within there = reads items rest (omega (arith, within, room)) there

  pub item_deep : depth ≡ 0 → kind_at a 0 ≡ L_PAREN → ReadsItem depth kinds_of a b
  item_deep no_depth is name rest within there = absurd (omega (arith, is, kind_there a there))
  item_deep no_depth is number rest within there = absurd (omega (arith, is, kind_there a there))
  item_deep no_depth is (list items) rest within there = absurd (omega (arith, within, no_depth))

  pub item_none : kind_at a 0 ≢ IDENT → kind_at a 0 ≢ INT_NUMBER → kind_at a 0 ≢ L_PAREN → ReadsItem depth kinds_of a b
  item_none no_name no_number no_list name rest within there = absurd (no_name (kind_there a there))
  item_none no_name no_number no_list number rest within there = absurd (no_number (kind_there a there))
  item_none no_name no_number no_list (list items) rest within there = absurd (no_list (kind_there a there))

-- ---- commas and parentheses

-- a kind that is expected stands there
expected : {a b : State} (kind : ℕ) {rest : List ℕ} → stands_at (has a.words.operator_first) kind (ahead a 0) ≡ (kind_in (ahead a 0) 0 == kind)
    → eat_steps a.words kind (ahead a 0) ≡ one kind ∷ [] → kinds_in (ahead a 0) ≡ kind ∷ rest → Puts (expect_steps a.words kind (ahead a 0)) a b → Puts (one kind ∷ []) a b
expected {a} {b} kind plain eats there puts =
    let stands = plain ∙ eq-eqb (kind_in (ahead a 0) 0) kind (kind_seen a there) in
    subst (λ steps. Puts steps a b) (if-true _ _ _ stands ∙ eats) puts

pub next_reads : {a b c : State} {depth : ℕ} → Puts (expect_steps a.words COMMA (ahead a 0)) a b → ReadsItem depth kinds_of b c → ReadsItem depth (λ item. COMMA ∷ kinds_of item) a c
next_reads puts reads item rest within there =
    let comma = HasRead-one COMMA refl there (expected COMMA refl refl there puts) in
    HasRead-then comma (reads item rest within comma.others)

-- items between parentheses, nested no deeper, are read
abbrev pub ReadsItems : ℕ → State → State → Type 0
ReadsItems depth old new = (items : Items) (rest : List ℕ) → deepest items ≤ depth → Reads (drop 1 (with_commas items)) (R_PAREN ∷ rest) old new

list_steps : (inner : List ℕ) → node list_node ((one L_PAREN ∷ []) ++ (steps_of inner ++ one R_PAREN ∷ [])) ≡ steps_of (L_PAREN ∷ inner ++ R_PAREN ∷ [])
list_steps inner =
    ap (λ steps. Enter list_node ∷ one L_PAREN ∷ steps)
    (append_assoc (steps_of inner) (one R_PAREN ∷ []) (Exit ∷ []) ∙ sym (flat_map-append steps_at inner (R_PAREN ∷ [])))

pub list_reads : {a b c d e f : State} {m : Mark} {depth : ℕ} → Begins m a b → Puts (current_as (kind_in (ahead b 0) 0) (ahead b 0)) b c
    → ReadsItems depth c d
    → Puts (expect_steps d.words R_PAREN (ahead d 0)) d e → Completes m.id list_node e f
    → (items : Items) (rest : List ℕ) → deepest items ≤ depth → Reads (kinds_of (list items)) rest a f
list_reads {a} {b} {c} {d} {e} {f} begins bump reads expect completes items rest within there =
    let inner = drop 1 (with_commas items) in
    let at_b : kinds_in (ahead b 0) ≡ L_PAREN ∷ (inner ++ R_PAREN ∷ rest) =
    kinds_still begins.keeps begins.position ∙ (there ∙ ap (λ kinds. L_PAREN ∷ kinds) (append_assoc inner (R_PAREN ∷ []) rest)) in
    let opening : Puts (one L_PAREN ∷ []) b c = bump_puts L_PAREN (kind_seen b at_b) (λ is. absurd (omega (arith, is))) bump in
    let at_c : kinds_in (ahead c 0) ≡ inner ++ R_PAREN ∷ rest = kinds_moved 1 opening.keeps opening.position ∙ ap (drop 1) at_b in
    let read = reads items rest within at_c in
    let closing : Puts (one R_PAREN ∷ []) d e = expected R_PAREN refl refl read.others expect in
    record {
      puts = subst (λ steps. Puts steps a f) (list_steps inner) (node_puts begins (puts-then opening (puts-then read.puts closing)) completes);
      others = kinds_still completes.keeps completes.position ∙ (kinds_moved 1 closing.keeps closing.position ∙ ap (drop 1) read.others);
    }

-- ---- the items of a list

pub items_none : {a : State} {depth : ℕ} → IsSound a → ends_at (kind_at a 0) ≡ true → ReadsItems depth a a
items_none sound end none rest within there = HasRead-none (R_PAREN ∷ rest) sound there
items_none {a} sound end (more item items) rest within there =
    let first = item-first a item _ (there ∙ append_assoc (kinds_of item) (with_commas items) (R_PAREN ∷ rest)) in
    absurd (let e = sym end ∙ first in cc)

-- a comma and an item more
pub some_more : {a b c : State} {depth : ℕ} → ends_at (kind_at b 0) ≡ false → ReadsItem depth (λ item. COMMA ∷ kinds_of item) b c
    → ReadsSome depth with_commas (λ rest. R_PAREN ∷ rest) a b → ReadsSome depth with_commas (λ rest. R_PAREN ∷ rest) a c
some_more {a} {b} {c} {depth} going reads some =
    ReadsSome-next depth with_commas (λ rest. R_PAREN ∷ rest) (λ item. COMMA ∷ kinds_of item) refl (λ item items. refl)
    (λ rest there. absurd (let e = sym going ∙ ap ends_at (kind_there b there) in cc)) reads some

pub items_some : {a b c : State} {depth : ℕ} → ends_at (kind_at a 0) ≡ false → ReadsItem depth kinds_of a b
    → ReadsSome depth with_commas (λ rest. R_PAREN ∷ rest) b c → ends_at (kind_at c 0) ≡ true → ReadsItems depth a c
items_some {a} {b} {c} going reads some end none rest within there =
    absurd (let e = sym going ∙ ap ends_at (kind_there a there) in cc)
items_some {a} {b} {c} going reads some end (more item items) rest within there =
    let first = reads item (with_commas items ++ R_PAREN ∷ rest) (deepest_first item items within) (there ∙ append_assoc (kinds_of item) (with_commas items) (R_PAREN ∷ rest)) in
    let r = some items rest (deepest_others item items within) first.others in
    cases first r.done r.left r.is r.read
  where
    cases : HasRead (kinds_of item) (with_commas items ++ R_PAREN ∷ rest) a b → (done : List ℕ) (left : Items) → with_commas items ≡ done ++ with_commas left
        → HasRead done (with_commas left ++ R_PAREN ∷ rest) b c → HasRead (kinds_of item ++ with_commas items) (R_PAREN ∷ rest) a c
    cases first done none is read =
        subst (λ kinds. HasRead (kinds_of item ++ kinds) (R_PAREN ∷ rest) a c) (sym (is ∙ append-nil done)) (HasRead-then first read)
    cases first done (more item left) is read = absurd (let e = sym end ∙ ap ends_at (kind_there c read.others) in cc)

-- ---- a file

pub file_more : {a b c : State} {depth : ℕ} → kind_at b 0 ≢ EOF → ReadsItem depth kinds_of b c → ReadsSome depth file_kinds (λ _. []) a b → ReadsSome depth file_kinds (λ _. []) a c
file_more {a} {b} {c} {depth} going reads some =
    ReadsSome-next depth file_kinds (λ _. []) kinds_of refl (λ item items. refl) (λ rest there. going (kind_none b there)) reads some

pub file_reads : {a b : State} {depth : ℕ} → ReadsSome depth file_kinds (λ _. []) a b → kind_at b 0 ≡ EOF → (items : Items) → deepest items ≤ depth → kinds_in (ahead a 0) ≡ file_kinds items
    → Puts (steps_of (file_kinds items)) a b
file_reads {a} {b} some end items within there =
    let r = some items [] within (there ∙ sym (append-nil (file_kinds items))) in
    cases r.done r.left r.is r.read
  where
    cases : (done : List ℕ) (left : Items) → file_kinds items ≡ done ++ file_kinds left → HasRead done (file_kinds left ++ []) a b → Puts (steps_of (file_kinds items)) a b
    cases done none is read = subst (λ kinds. Puts (steps_of kinds) a b) (sym (is ∙ append-nil done)) read.puts
    cases done (more item left) is read =
        let first = item-first b item _ (read.others ∙ append_assoc (kinds_of item) (file_kinds left) []) in
        absurd (let e = sym (ap ends_at end) ∙ first in cc)

-- Kinds of well-formed lists are read one after another.
use Rattle.std.proofs.Common.{◌≡◌, ◌≢◌, ◌∙◌, ℕ, ◌≤◌, List, [], ◌∷◌, ◌++◌, drop, arith, ap, sym, refl, subst, append_assoc}
use Rattle.std.proofs.lemmas.Grind.{flat_map-append}
use Rattle.std.proofs.lemmas.List.{append-nil}
use Rattle.squawk_table.specs.ParserInput.{kinds_in}
use Rattle.squawk_parser.specs.Eaten.{one}
use Rattle.squawk_parser.specs.Recorded.{Puts}
use Rattle.squawk_parser.specs.State.{State, IsSound, ahead}
use Rattle.squawk_parser.proofs.KindsAhead.{kinds_moved}
use Rattle.squawk_parser.proofs.RecordedSteps.{puts-none, puts-then}
use Rattle.list_grammar.specs.Trees.{HasRead, Item, Items, Reads, deepest, depth_of, more, none, steps_at}

-- ---- depth

pub deepest_first : (item : Item) (items : Items) {depth : ℕ} → deepest (more item items) ≤ depth → depth_of item ≤ depth
deepest_first item items within = omega (arith, within)

pub deepest_others : (item : Item) (items : Items) {depth : ℕ} → deepest (more item items) ≤ depth → deepest items ≤ depth
deepest_others item items within = omega (arith, within)

-- ---- what was read

pub HasRead-none : {a : State} (rest : List ℕ) → IsSound a → kinds_in (ahead a 0) ≡ rest → HasRead [] rest a a
HasRead-none {a} rest sound there = record { puts = puts-none a sound; others = there }

pub HasRead-then : {a b c : State} {kinds others mid rest : List ℕ} → HasRead kinds mid a b → HasRead others rest b c → HasRead (kinds ++ others) rest a c
HasRead-then {a} {b} {c} {kinds} {others} {mid} {rest} before after = record {
  puts = subst (λ steps. Puts steps a c) (sym (flat_map-append steps_at kinds others)) (puts-then before.puts after.puts);
  others = after.others;
}

-- one token that is no parenthesis
pub HasRead-one : {a b : State} (kind : ℕ) {rest : List ℕ} → steps_at kind ≡ one kind ∷ [] → kinds_in (ahead a 0) ≡ kind ∷ rest → Puts (one kind ∷ []) a b → HasRead (kind ∷ []) rest a b
HasRead-one {a} {b} kind {rest} plain there puts = record {
  puts = subst (λ steps. Puts steps a b) (sym (append-nil (steps_at kind) ∙ plain)) puts;
  others = kinds_moved 1 puts.keeps puts.position ∙ ap (drop 1) there;
}

-- ---- a loop over items

-- of items that are written so, some were read, and the others are ahead, nested no deeper
pub record HasReadSome (depth : ℕ) (written : Items → List ℕ) (all : Items) (rest : List ℕ) (old now : State) : Type 0 where
  pub done : List ℕ
  pub left : Items
  pub within : deepest left ≤ depth
  pub is : written all ≡ done ++ written left
  pub read : HasRead done (written left ++ rest) old now

-- where items are ahead, and behind them what closes them
abbrev pub ReadsSome : ℕ → (Items → List ℕ) → (List ℕ → List ℕ) → State → State → Type 0
ReadsSome depth written closed old now =
    (all : Items) (rest : List ℕ) → deepest all ≤ depth → kinds_in (ahead old 0) ≡ written all ++ closed rest → HasReadSome depth written all (closed rest) old now

pub ReadsSome-none : (depth : ℕ) (written : Items → List ℕ) (closed : List ℕ → List ℕ) (a : State) → IsSound a → ReadsSome depth written closed a a
ReadsSome-none depth written closed a sound all rest within there =
    record { done = []; left = all; within = within; is = refl; read = HasRead-none (written all ++ closed rest) sound there }

-- one item more
pub ReadsSome-next : {a b c : State} (depth : ℕ) (written : Items → List ℕ) (closed : List ℕ → List ℕ) (front : Item → List ℕ)
    → written none ≡ [] → ((one : Item) (items : Items) → written (more one items) ≡ front one ++ written items)
    → ((rest : List ℕ) → kinds_in (ahead b 0) ≢ closed rest) → ((one : Item) (rest : List ℕ) → depth_of one ≤ depth → Reads (front one) rest b c)
    → ReadsSome depth written closed a b → ReadsSome depth written closed a c
ReadsSome-next {a} {b} {c} depth written closed front empty split goes_on next before all rest within there =
    let r = before all rest within there in cases r.done r.left r.within r.is r.read
  where
    cases : (done : List ℕ) (left : Items) → deepest left ≤ depth → written all ≡ done ++ written left → HasRead done (written left ++ closed rest) a b
        → HasReadSome depth written all (closed rest) a c
    cases done none few is read = absurd (goes_on rest (read.others ∙ ap (λ kinds. kinds ++ closed rest) empty))
    cases done (more one left) few is read =
        let here = ap (λ kinds. kinds ++ closed rest) (split one left) ∙ append_assoc (front one) (written left) (closed rest) in
        record {
          done = done ++ front one;
          left = left;
          within = deepest_others one left few;
          is = is ∙ (ap (λ kinds. done ++ kinds) (split one left) ∙ sym (append_assoc done (front one) (written left)));
          read = HasRead-then read (next one (written left ++ closed rest) (deepest_first one left few) (read.others ∙ here));
        }

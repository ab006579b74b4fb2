-- Loops that put findings behind others.
use Rattle.std.proofs.Common.{◌≡◌, ◌∙◌, ℕ, ◌+◌, ◌<◌, Bool, true, false, List, [], ◌∷◌, ◌++◌, None, map, length, get_or, take, refl, ap, sym, append_assoc}
use Rattle.std.specs.List.{filter_map, flat_map}
use Rattle.std.proofs.lemmas.List.{append-nil, map-append, take_more}
use Rattle.std.proofs.lemmas.List.Elements.{filter_map-append}
use Rattle.squawk_tree.specs.Forest.{Forest}
use Rattle.sql_report.specs.Findings.{Told}
use Rattle.syntax_tree.specs.Layout.{Laid}
use Rattle.syntax_tree.specs.Trees.{start_at}
use Rattle.syntax_tree.specs.Views.{At, place_in}
use Rattle.syntax_tree.proofs.PlacesLeft.{BeginsAt, begins, no_places}
use Rattle.sql_lint.specs.AlterTable.{adding_rules}
use Rattle.sql_lint.specs.ColumnTypes.{type_rules}
use Rattle.sql_lint.specs.Rows.{Row, row_of}
use Rattle.sql_lint.specs.Rules.{changing_rules, findings_at, told_if}
use denote.Ref.{Bor}

-- ---- walks over nodes

-- What a walk passed was found, behind what was found before.
pub record Finds (laid : Laid) (at_place : ℕ → List Told) (before : List Told) (all : List ℕ) (found : List Told) (walk : List At) : Type 0 where
  pub places : List ℕ
  pub left : walk ≡ map (place_in laid) places
  pub same : found ++ flat_map at_place places ≡ before ++ flat_map at_place all

module _ {laid : Laid} {at_place : ℕ → List Told} {before : List Told} {all : List ℕ} {found : List Told} {walk : List At}
    (s : Finds laid at_place before all found walk) where
  pub finds_all : walk ≡ [] → found ≡ before ++ flat_map at_place all
  finds_all none =
      sym (append-nil found) ∙ (ap (λ places. found ++ flat_map at_place places) (sym (no_places laid s.places (sym s.left ∙ none))) ∙ s.same)

  module _ (place : At) (rest : List At) (is : walk ≡ place ∷ rest) where
    next : BeginsAt laid s.places place rest
    next = begins laid s.places place rest (sym s.left ∙ is)

    pub its_tree : place.laid ≡ laid
    its_tree = ap (λ p. p.laid) next.place_is

    pub finds_more : (more : List Told) → more ≡ found ++ at_place place.at → Finds laid at_place before all more rest
    finds_more more adds = record {
      places = next.behind;
      left = next.rest_is;
      same = ap (λ l. l ++ flat_map at_place next.behind) adds
          ∙ (append_assoc found (at_place place.at) (flat_map at_place next.behind)
          ∙ (ap (λ at. found ++ (at_place at ++ flat_map at_place next.behind)) (ap (λ p. p.at) next.place_is)
          ∙ (ap (λ places. found ++ flat_map at_place places) (sym next.is) ∙ s.same)));
    }

-- ---- rules

-- the findings by three tables of rules, one after another, are those by all rules
pub by_all_rules : (of : ℕ) (tree : Forest) (at start : ℕ) → start ≡ start_at tree at → (changing adding types : List Row)
    → changing ≡ changing_rules of tree at → adding ≡ adding_rules of tree at → types ≡ type_rules of tree at
    → (found first second third : List Told) → first ≡ found ++ filter_map (told_if start) changing
    → second ≡ first ++ filter_map (told_if start) adding → third ≡ second ++ filter_map (told_if start) types
    → third ≡ found ++ findings_at of tree at
by_all_rules of tree at start begins changing adding types is_changing is_adding is_types found first second third one two three =
    let tell = filter_map (told_if start) in
    three
    ∙ (ap (λ l. l ++ tell types) (two ∙ ap (λ l. l ++ tell adding) one)
    ∙ (append_assoc (found ++ tell changing) (tell adding) (tell types)
    ∙ (append_assoc found (tell changing) (tell adding ++ tell types)
    ∙ (ap (λ l. found ++ (tell changing ++ l)) (sym (filter_map-append (told_if start) adding types))
    ∙ (ap (λ l. found ++ l) (sym (filter_map-append (told_if start) changing (adding ++ types)))
    ∙ (ap (λ l. found ++ tell (l ++ (adding ++ types))) is_changing
    ∙ (ap (λ l. found ++ tell (changing_rules of tree at ++ (l ++ types))) is_adding
    ∙ (ap (λ l. found ++ tell (changing_rules of tree at ++ (adding_rules of tree at ++ l))) is_types
    ∙ ap (λ s. found ++ filter_map (told_if s) (changing_rules of tree at ++ (adding_rules of tree at ++ type_rules of tree at))) begins))))))))

-- ---- rows

-- what is told of a row alone
pub row_told : (start : ℕ) (is_broken : Bool) (message : List ℕ) → is_broken ≡ true
    → filter_map (told_if start) ((is_broken, message) ∷ []) ≡ record { at = start; message = message; hint = None } ∷ []
row_told start true message is = refl
row_told start false message is = cc

pub row_passed : (start : ℕ) (is_broken : Bool) (message : List ℕ) → is_broken ≡ false → filter_map (told_if start) ((is_broken, message) ∷ []) ≡ []
row_passed start true message is = cc
row_passed start false message is = refl

-- it comes behind what is told of the rows before it
pub tells_row : (start : ℕ) (rows : List (Bool × Bor (List ℕ))) (i : ℕ) (d : Bool × Bor (List ℕ)) → i < length rows
    → (before found more : List Told) → found ≡ before ++ filter_map (told_if start) (map row_of (take i rows))
    → more ≡ found ++ filter_map (told_if start) (row_of (get_or rows i d) ∷ [])
    → more ≡ before ++ filter_map (told_if start) (map row_of (take (i + 1) rows))
tells_row start rows i d below before found more so_far adds =
    let tell = filter_map (told_if start) in
    let one = get_or rows i d in
    adds
    ∙ (ap (λ l. l ++ tell (row_of one ∷ [])) so_far
    ∙ (append_assoc before (tell (map row_of (take i rows))) (tell (row_of one ∷ []))
    ∙ ap (λ l. before ++ l)
    (sym (filter_map-append (told_if start) (map row_of (take i rows)) (row_of one ∷ []))
    ∙ (ap tell (sym (map-append row_of (take i rows) (one ∷ []))) ∙ ap (λ l. tell (map row_of l)) (sym (take_more rows i d below))))))

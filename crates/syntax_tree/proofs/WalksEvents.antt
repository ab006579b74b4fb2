-- The walk over an element of a tree.
use Rattle.std.proofs.Common.{◌≡◌, ◌∙◌, ℕ, suc, ◌+◌, ◌*◌, ◌<◌, ◌≤◌, List, [], ◌∷◌, length, arith, ap, sym, refl, subst, add-zero, true, false, encode_utf8_all}
use Rattle.std.proofs.lemmas.Bool.{lt-ltb, le-ltb, eq-eqb, ne_eqb}
use Rattle.std.proofs.lemmas.List.{length-append}
use Rattle.squawk_tree.specs.Forest.{Forest, Nothing, Token, Node, Error, forest_bytes}
use Rattle.syntax_tree.specs.Trees.{Event, Entered, Left, size, forest_at, inner_of, events, events_of}
use Rattle.syntax_tree.specs.Layout.{Laid, IsTree, outermost}
use Rattle.syntax_tree.specs.Views.{element_in}
use Rattle.syntax_tree.specs.Walks.{Ends, Gives, Visiting, visiting, enough, ends_before, event_turn, events_left, IsVisiting}
use Rattle.syntax_tree.proofs.Places.{reads}
use Rattle.syntax_tree.proofs.WalksByRule.{goes, Leads, leads_on, all_given}
use Rattle.syntax_tree.proofs.Lies.{Lies, lies_behind_token, lies_within_node, lies_behind_node, lies_behind_error}
use Rattle.syntax_tree.proofs.WalksLaid.{holds, token_here, node_here, ends_here, ends_later}

module _ (laid : Laid) (root : ℕ) where
  -- ---- turns

  module _ (w : Visiting) where
    pub turn_leave : ends_before laid w.entered w.at ≡ true → (w.entered ≡ root → ⊥)
        → event_turn laid root w ≡ Gives (Left w.entered) (visiting w.at (element_in laid w.entered).parent)
    turn_leave ends other = rw (ends, ne_eqb w.entered root other)

    pub turn_last : ends_before laid w.entered w.at ≡ true → w.entered ≡ root → event_turn laid root w ≡ Gives (Left w.entered) (visiting 4294967295 4294967295)
    turn_last ends same = rw (ends, eq-eqb w.entered root same)

    module _ (stays : ends_before laid w.entered w.at ≡ false) where
      pub turn_enter : w.at < length laid.elements → event_turn laid root w ≡ Gives (Entered w.at) (visiting (w.at + 1) w.at)
      turn_enter below = rw (stays, lt-ltb w.at (length laid.elements) below)

      pub turn_ended : length laid.elements ≤ w.at → event_turn laid root w ≡ Ends
      turn_ended past = rw (stays, le-ltb w.at (length laid.elements) past)

  -- ---- the walk leads through trees, in a node that doesn't end before the place behind them

  abbrev leads : Visiting → List Event → Visiting → Type 0
  leads = Leads (event_turn laid root)

  leads_through : (tree trees : Forest) (node at start all : ℕ) → (1 ≤ size trees → Lies laid tree trees node at start all) → root < at
      → (node < length laid.elements → at + size trees ≤ (element_in laid node).behind)
      → leads (visiting at node) (events at trees) (visiting (at + size trees) node)
  leads_through tree Nothing node at start all lies inside room = ap (λ a. visiting a node) (sym (add-zero at))
  leads_through tree (Token kind text others) node at start all lies inside room =
      let below : at < length laid.elements = omega (arith, (lies (omega arith)).within) in
      let here = token_here laid tree node at start all kind text others (lies (omega arith)) in
      let place : at + 1 + size others ≡ at + suc (size others) = omega arith in
      let entered = turn_enter (visiting at node) (ends_later laid node at (λ some. omega (arith, room some))) below in
      let left : event_turn laid root (visiting (at + 1) at) ≡ Gives (Left at) (visiting (at + 1) node) =
      turn_leave (visiting (at + 1) at) (ends_here laid at (at + 1) below (ap (λ e. e.behind) here)) (λ same. omega (arith, same, inside))
      ∙ ap (λ p. Gives (Left at) (visiting (at + 1) p)) (ap (λ e. e.parent) here) in
      let through = leads_through tree others node (at + 1) (start + length (encode_utf8_all text)) all
      (λ some. lies_behind_token laid tree node at start all kind text others some (lies (omega arith))) (omega (arith, inside)) (λ some. omega (arith, room some)) in (
        visiting (at + 1) at,
        entered,
        (visiting (at + 1) node, left, subst (λ a. leads (visiting (at + 1) node) (events (at + 1) others) (visiting a node)) place through),
      )
  leads_through tree (Node kind inner others) node at start all lies inside room =
      let behind = at + 1 + size inner in
      let end = at + suc (size inner + size others) in
      let below : at < length laid.elements = omega (arith, (lies (omega arith)).within) in
      let here = node_here laid tree node at start all kind inner others (lies (omega arith)) in
      let place : behind + size others ≡ end = omega arith in
      let entered = turn_enter (visiting at node) (ends_later laid node at (λ some. omega (arith, room some))) below in
      let left : event_turn laid root (visiting behind at) ≡ Gives (Left at) (visiting behind node) =
      turn_leave (visiting behind at) (ends_here laid at behind below (ap (λ e. e.behind) here)) (λ same. omega (arith, same, inside))
      ∙ ap (λ p. Gives (Left at) (visiting behind p)) (ap (λ e. e.parent) here) in
      let within = leads_through tree inner at (at + 1) start (outermost others at all) (λ _. lies_within_node laid tree node at start all kind inner others (lies (omega arith)))
      (omega (arith, inside)) (λ some. omega (arith, ap (λ e. e.behind) here)) in
      let through = leads_through tree others node behind (start + forest_bytes inner) all (λ some. lies_behind_node laid tree node at start all kind inner others (lies (omega arith)) some)
      (omega (arith, inside)) (λ some. omega (arith, room some)) in (
        visiting (at + 1) at,
        entered,
        leads_on (event_turn laid root) (visiting (at + 1) at) (visiting behind at) (visiting end node) (events (at + 1) inner) (Left at ∷ events behind others) within
            (visiting behind node, left, subst (λ a. leads (visiting behind node) (events behind others) (visiting a node)) place through),
      )
  leads_through tree (Error text pos others) node at start all lies inside room =
      leads_through tree others node at start all (λ some. lies_behind_error laid tree node at start all text pos others (lies some)) inside room

length-events : (at : ℕ) (trees : Forest) → length (events at trees) ≡ 2 * size trees
length-events at Nothing = refl
length-events at (Token kind text others) = omega (arith, length-events (at + 1) others)
length-events at (Node kind inner others) =
    omega (
      arith,
      length-append (events (at + 1) inner) (Left at ∷ events (at + 1 + size inner) others),
      length-events (at + 1) inner,
      length-events (at + 1 + size inner) others,
    )
length-events at (Error text pos others) = length-events at others

module _ (laid : Laid) (tree : Forest) (is : IsTree laid tree) (few : length laid.elements ≤ 4294967295) (at : ℕ) (below : at < length laid.elements) where
  abbrev inner : Forest
  inner = inner_of (forest_at tree at)

  events_within : length (events_of tree at) < enough laid
  events_within =
      omega (arith, length-append (events (at + 1) inner) (Left at ∷ []), length-events (at + 1) inner, (reads laid tree is at below).within)

  pub events_are : events_left laid at (visiting at 4294967295) ≡ events_of tree at
  events_are =
      let here = holds laid tree is at below in
      let behind = at + 1 + size inner in
      let none = visiting 4294967295 4294967295 in
      let outside = λ (a : ℕ). ends_later laid 4294967295 a (λ some. absurd (omega (arith, some, few))) in
      let ends : (element_in laid at).behind ≡ behind = omega (arith, (reads laid tree is at below).behind) in
      let within = leads_through laid at tree inner at (at + 1) here.start here.all here.lies (omega arith) (λ some. omega (arith, ends)) in
      let over = leads_on (event_turn laid at) (visiting (at + 1) at) (visiting behind at) none (events (at + 1) inner) (Left at ∷ []) within
      (none, turn_last laid at (visiting behind at) (ends_here laid at behind below ends) refl, refl) in
      all_given (event_turn laid at) (enough laid) (visiting at 4294967295) none (events_of tree at)
      (visiting (at + 1) at, turn_enter laid at (visiting at 4294967295) (outside at) below, over)
      (turn_ended laid at none (outside 4294967295) few) (omega (arith, events_within))

  pub visit_begins : IsVisiting laid at (visiting at 4294967295)
  visit_begins = omega (arith, ap length events_are, events_within)

-- ---- an iterator along it

-- an event is given, and the walk goes to another place
pub record Visits (laid : Laid) (root : ℕ) (w next : Visiting) (event : Event) : Type 0 where
  pub on : IsVisiting laid root next
  pub gives : events_left laid root w ≡ event ∷ events_left laid root next

module _ (laid : Laid) (root : ℕ) (w : Visiting) (on : IsVisiting laid root w) where
  turns : (next : Visiting) (event : Event) → event_turn laid root w ≡ Gives event next → Visits laid root w next event
  turns next event turn =
      let g = goes (event_turn laid root) (enough laid) w event next on turn in
      record { on = omega (arith, on, ap length g.gives); gives = g.gives }

  module _ (ends : ends_before laid w.entered w.at ≡ true) where
    pub gives_leave : (w.entered ≡ root → ⊥) → Visits laid root w (visiting w.at (element_in laid w.entered).parent) (Left w.entered)
    gives_leave other = turns _ _ (turn_leave laid root w ends other)

    pub gives_last : w.entered ≡ root → Visits laid root w (visiting 4294967295 4294967295) (Left w.entered)
    gives_last same = turns _ _ (turn_last laid root w ends same)

  module _ (stays : ends_before laid w.entered w.at ≡ false) where
    pub gives_enter : w.at < length laid.elements → Visits laid root w (visiting (w.at + 1) w.at) (Entered w.at)
    gives_enter below = turns _ _ (turn_enter laid root w stays below)

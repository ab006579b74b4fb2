-- The walk that gives the steps of a tree.
use Rattle.std.proofs.Common.{◌≡◌, ◌∙◌, ℕ, suc, ◌+◌, ◌<◌, ◌≤◌, List, [], ◌∷◌, length, arith, ap, sym, refl, subst, add-zero, nat_lt, eqb, true, false, slice_range, chars, encode_utf8_all}
use Rattle.std.proofs.lemmas.Bool.{cond-false, lt-ltb, le-ltb}
use Rattle.std.proofs.lemmas.List.{append-nil, length-append}
use Rattle.std.proofs.lemmas.List.Elements.{All-nil}
use Rattle.squawk_table.specs.declared.shortcuts.str_step.OwnedStep.{OwnedStep}
use Rattle.squawk_table.specs.declared.shortcuts.str_step.OwnedStep.TheVariants as step
use Rattle.squawk_tree.specs.Forest.{Forest, Nothing, Token, Node, Error, forest_bytes, forest_steps}
use Rattle.syntax_tree.specs.Trees.{size, text_at}
use Rattle.syntax_tree.specs.Layout.{Laid, IsTree, errors_of, outermost, last_of, token_element, node_element}
use Rattle.syntax_tree.specs.Views.{element_in}
use Rattle.syntax_tree.specs.Walks.{Ends, Gives, Walking, walking, enough, ends_before, start_in, error_in, has_error, element_turn, step_turn, steps_left, IsOnWalk}
use Rattle.syntax_tree.specs.declared.element.Element.{Element}
use Rattle.syntax_tree.proofs.Layouts.{few_steps}
use Rattle.syntax_tree.proofs.Texts.{elements_are}
use Rattle.syntax_tree.proofs.Places.{lies_whole}
use Rattle.syntax_tree.proofs.WalksByRule.{goes, Leads, leads_on, all_given}
use Rattle.syntax_tree.proofs.Lies.{Lies, lies_behind_token, lies_within_node, lies_behind_node, lies_behind_error}
use Rattle.syntax_tree.proofs.WalksLaid.{token_here, text_here, node_here, text_is, ends_here, ends_later}
use Rattle.syntax_tree.proofs.WalksErrors.{Errs, no_error, errs_behind_token, errs_in_node, errs_behind_node, errs_behind_error, error_here, has_error_here}

-- ---- turns

module _ (laid : Laid) (w : Walking) where
  pub turn_error : has_error laid w.error w.given ≡ true
      → step_turn laid w ≡ Gives (step.Error (error_in laid w.error).msg (error_in laid w.error).pos) (walking w.at w.node (w.error + 1) (w.given + 1))
  turn_error e = rw e

  module _ (none : has_error laid w.error w.given ≡ false) where
    pub turn_exit : ends_before laid w.node w.at ≡ true → step_turn laid w ≡ Gives step.Exit (walking w.at (element_in laid w.node).parent w.error (w.given + 1))
    turn_exit e = rw (none, e)

    module _ (stays : ends_before laid w.node w.at ≡ false) where
      pub turn_end : length laid.elements ≤ w.at → step_turn laid w ≡ Ends
      turn_end past = rw (none, stays, le-ltb w.at (length laid.elements) past)

      pub turn_element : w.at < length laid.elements → (e : Element) → element_in laid w.at ≡ e → step_turn laid w ≡ element_turn laid w e
      turn_element below e is = rw (none, stays, lt-ltb w.at (length laid.elements) below) (ap (element_turn laid w) is)

-- ---- the walk

same_place : (at at' node error error' given given' : ℕ) → at ≡ at' → error ≡ error' → given ≡ given' → walking at node error given ≡ walking at' node error' given'
same_place at at' node error error' given given' p q r =
    ap (λ a. walking a node error given) p ∙ (ap (λ e. walking at' node e given) q ∙ ap (λ g. walking at' node error' g) r)

module _ (laid : Laid) (tree : Forest) (is : IsTree laid tree) where
  abbrev leads : Walking → List OwnedStep → Walking → Type 0
  leads = Leads (step_turn laid)

  -- the walk leads over trees, in a node that doesn't end before the place behind them
  leads_over : (trees : Forest) (node at start all error given : ℕ) → (1 ≤ size trees → Lies laid tree trees node at start all) → Errs laid trees node at error given
      → (node < length laid.elements → at + size trees ≤ (element_in laid node).behind)
      → leads (walking at node error given) (forest_steps trees)
      (walking (at + size trees) node (error + length (errors_of trees node at given)) (given + length (forest_steps trees)))
  leads_over Nothing node at start all error given lies errs room =
      same_place at (at + 0) node error (error + 0) given (given + 0) (sym (add-zero at)) (sym (add-zero error)) (sym (add-zero given))
  leads_over (Token kind text others) node at start all error given lies errs room =
      let w = walking at node error given in
      let v = walking (at + 1) node error (given + 1) in
      let errs' = errs_behind_token laid node at error given kind text others errs in
      let below : at < length laid.elements = omega (arith, (lies (omega arith)).within) in
      let none = no_error laid node (at + 1) error (given + 1) others errs' given (omega arith) in
      let stays = ends_later laid node at (λ some. omega (arith, room some)) in
      let here = token_here laid tree node at start all kind text others (lies (omega arith)) in
      let is_text = ap (λ e. chars (slice_range laid.text e.start (start_in laid e.behind))) (sym here) ∙ (text_is laid tree is at below ∙ text_here laid tree node at start all kind text others (lies (omega arith))) in
      let turn : step_turn laid w ≡ Gives (step.Token kind text) v =
      turn_element laid w none stays below (token_element kind node at start (outermost others at all)) here ∙ ap (λ t. Gives (step.Token kind t) v) is_text in
      let count = length (errors_of others node (at + 1) (given + 1)) in
      let target = same_place (at + 1 + size others) (at + suc (size others)) node (error + count) (error + count)
      (given + 1 + length (forest_steps others)) (given + suc (length (forest_steps others))) (omega arith) refl (omega arith) in
      let over = leads_over others node (at + 1) (start + length (encode_utf8_all text)) all error (given + 1)
      (λ some. lies_behind_token laid tree node at start all kind text others some (lies (omega arith))) errs' (λ some. omega (arith, room some)) in
      (v, turn, subst (λ u. leads v (forest_steps others) u) target over)
  leads_over (Node kind inner others) node at start all error given lies errs room =
      let count = length (errors_of inner at (at + 1) (given + 1)) in
      let passed = length (forest_steps inner) in
      let behind = at + 1 + size inner in
      let w = walking at node error given in
      let v = walking behind at (error + count) (given + 1 + passed) in
      let v' = walking behind node (error + count) (given + 2 + passed) in
      let errs' = errs_in_node laid node at error given kind inner others errs in
      let after = errs_behind_node laid node at error given kind inner others errs in
      let below : at < length laid.elements = omega (arith, (lies (omega arith)).within) in
      let here = node_here laid tree node at start all kind inner others (lies (omega arith)) in
      let none = no_error laid at (at + 1) error (given + 1) inner errs' given (omega arith) in
      let stays = ends_later laid node at (λ some. omega (arith, room some)) in
      let entered = turn_element laid w none stays below (node_element kind (size inner) node at start (last_of inner (at + 1) (outermost others at all))) here in
      let left : step_turn laid v ≡ Gives step.Exit v' =
      turn_exit laid v (no_error laid node behind (error + count) (given + 2 + passed) others after (given + 1 + passed) (omega arith))
      (ends_here laid at behind below (ap (λ e. e.behind) here))
      ∙ (ap (λ p. Gives step.Exit (walking behind p (error + count) (given + 1 + passed + 1))) (ap (λ e. e.parent) here)
      ∙ ap (Gives step.Exit) (same_place behind behind node (error + count) (error + count) (given + 1 + passed + 1) (given + 2 + passed) refl refl (omega arith))) in
      let within = leads_over inner at (at + 1) start (outermost others at all) error (given + 1) (λ _. lies_within_node laid tree node at start all kind inner others (lies (omega arith))) errs'
      (λ some. omega (arith, ap (λ e. e.behind) here)) in
      let over = leads_over others node behind (start + forest_bytes inner) all (error + count) (given + 2 + passed)
      (λ some. lies_behind_node laid tree node at start all kind inner others (lies (omega arith)) some) after (λ some. omega (arith, room some)) in
      let more = length (errors_of others node behind (given + 2 + passed)) in
      let errors = length (errors_of (Node kind inner others) node at given) in
      let steps = length (forest_steps (Node kind inner others)) in
      let target = same_place (behind + size others) (at + suc (size inner + size others)) node (error + count + more) (error + errors)
      (given + 2 + passed + length (forest_steps others)) (given + steps) (omega arith)
      (omega (arith, length-append (errors_of inner at (at + 1) (given + 1)) (errors_of others node behind (given + 2 + passed))))
      (omega (arith, length-append (forest_steps inner) (step.Exit ∷ forest_steps others))) in (
        walking (at + 1) at error (given + 1),
        entered,
        leads_on (step_turn laid) (walking (at + 1) at error (given + 1)) v (walking (at + suc (size inner + size others)) node (error + errors) (given + steps))
            (forest_steps inner) (step.Exit ∷ forest_steps others) within (v', left, subst (λ u. leads v' (forest_steps others) u) target over),
      )
  leads_over (Error text pos others) node at start all error given lies errs room =
      let v = walking at node (error + 1) (given + 1) in
      let turn : step_turn laid (walking at node error given) ≡ Gives (step.Error text pos) v =
      turn_error laid (walking at node error given) (has_error_here laid node at error given text pos others errs)
      ∙ ap (λ e. Gives (step.Error e.msg e.pos) v) (error_here laid node at error given text pos others errs) in
      let count = length (errors_of others node at (given + 1)) in
      let target = same_place (at + size others) (at + size others) node (error + 1 + count) (error + suc count)
      (given + 1 + length (forest_steps others)) (given + suc (length (forest_steps others))) refl (omega arith) (omega arith) in
      let over = leads_over others node at start all (error + 1) (given + 1) (λ some. lies_behind_error laid tree node at start all text pos others (lies some))
      (errs_behind_error laid node at error given text pos others errs) room in
      (v, turn, subst (λ u. leads v (forest_steps others) u) target over)

-- ---- the walk over a whole tree

module _ (laid : Laid) (tree : Forest) (is : IsTree laid tree) (few : length laid.elements ≤ 4294967295) where
  errs_at_root : Errs laid tree 4294967295 0 0 0
  errs_at_root = record {
    front = [];
    rest = [];
    errors = is.errors ∙ sym (append-nil (errors_of tree 4294967295 0 0));
    error_is = refl;
    later = All-nil (λ e. 0 + length (forest_steps tree) ≤ e.step);
  }

  steps_within : length (forest_steps tree) < enough laid
  steps_within = omega (arith, few_steps tree 4294967295 0 0, elements_are laid tree is, ap length is.errors)

  pub steps_are : steps_left laid (walking 0 4294967295 0 0) ≡ forest_steps tree
  steps_are =
      let count = length (errors_of tree 4294967295 0 0) in
      let end = walking (0 + size tree) 4294967295 (0 + count) (0 + length (forest_steps tree)) in
      let none : has_error laid end.error end.given ≡ false =
      cond-false (nat_lt (0 + count) (length laid.errors)) (eqb (error_in laid (0 + count)).step (0 + length (forest_steps tree))) false
      (le-ltb (0 + count) (length laid.errors) (omega (arith, ap length is.errors))) in
      let over = leads_over laid tree is tree 4294967295 0 0 0 0 0 (λ _. lies_whole laid tree is) errs_at_root (λ some. absurd (omega (arith, some, few))) in
      let ended = turn_end laid end none (ends_later laid 4294967295 (0 + size tree) (λ some. absurd (omega (arith, some, few)))) (omega (arith, elements_are laid tree is)) in
      all_given (step_turn laid) (enough laid) (walking 0 4294967295 0 0) end (forest_steps tree) over ended (omega (arith, steps_within))

  pub walk_begins : IsOnWalk laid (walking 0 4294967295 0 0)
  walk_begins = omega (arith, ap length steps_are, steps_within)

-- ---- an iterator along it

-- a step is given, and the walk goes to another place
pub record Steps (laid : Laid) (w next : Walking) (given : OwnedStep) : Type 0 where
  pub on : IsOnWalk laid next
  pub gives : steps_left laid w ≡ given ∷ steps_left laid next

module _ (laid : Laid) (w : Walking) (on : IsOnWalk laid w) where
  turns : (next : Walking) (given : OwnedStep) → step_turn laid w ≡ Gives given next → next.given ≡ w.given + 1 → Steps laid w next given
  turns next given turn count =
      let g = goes (step_turn laid) (enough laid) w given next (omega (arith, on)) turn in
      record { on = omega (arith, on, ap length g.gives, count); gives = g.gives }

  pub gives_error : has_error laid w.error w.given ≡ true
      → Steps laid w (walking w.at w.node (w.error + 1) (w.given + 1)) (step.Error (error_in laid w.error).msg (error_in laid w.error).pos)
  gives_error here = turns _ _ (turn_error laid w here) refl

  module _ (none : has_error laid w.error w.given ≡ false) where
    pub gives_exit : ends_before laid w.node w.at ≡ true → Steps laid w (walking w.at (element_in laid w.node).parent w.error (w.given + 1)) step.Exit
    gives_exit ends = turns _ _ (turn_exit laid w none ends) refl

    module _ (stays : ends_before laid w.node w.at ≡ false) where
      module _ (below : w.at < length laid.elements) (e : Element) (here : e ≡ element_in laid w.at) where
        pub gives_token : e.is_token ≡ true → (tree : Forest) → IsTree laid tree
            → Steps laid w (walking (w.at + 1) w.node w.error (w.given + 1)) (step.Token e.kind (text_at tree w.at))
        gives_token token tree is =
            let words : chars (slice_range laid.text e.start (start_in laid e.behind)) ≡ text_at tree w.at =
            ap (λ e. chars (slice_range laid.text e.start (start_in laid e.behind))) here ∙ text_is laid tree is w.at below in
            let turn : element_turn laid w e ≡ Gives (step.Token e.kind (text_at tree w.at)) (walking (w.at + 1) w.node w.error (w.given + 1)) = rw (token, words) in
            turns _ _ (turn_element laid w none stays below e (sym here) ∙ turn) refl

        pub gives_enter : e.is_token ≡ false → Steps laid w (walking (w.at + 1) w.at w.error (w.given + 1)) (step.Enter e.kind)
        gives_enter node =
            let turn : element_turn laid w e ≡ Gives (step.Enter e.kind) (walking (w.at + 1) w.at w.error (w.given + 1)) = rw node in
            turns _ _ (turn_element laid w none stays below e (sym here) ∙ turn) refl

-- A parser stays sound under its acts.
use Rattle.std.proofs.Common.{◌≡◌, ◌∙◌, ℕ, ◌+◌, ◌<◌, ◌≤◌, false, true, Some, List, [], ◌∷◌, ◌++◌, cond, drop, arith, add-zero, ap, sym, refl}
use Rattle.std.specs.Prelude.{Contains, IsSome}
use Rattle.std.proofs.lemmas.List.{append-nil}
use Rattle.squawk_output.specs.Steps as steps
use Rattle.squawk_output.specs.Steps.{Step, Enter, Exit, eaten, errors_in}
use Rattle.squawk_output.specs.Draft.{Draft, Item, Node, OpenMarker, Open, Close, Token, Error, IsLogged, errors_of, plain}
use Rattle.squawk_output.specs.Edits.{abandoned, completed, extended, is_open_marker_of, is_opening_of, moved, preceded, preceded_item, stands_before, started, with_error, with_token, without_open_marker}
use Rattle.squawk_output.specs.declared.log.Made.{Made}
use Rattle.squawk_output.specs.declared.log.Made.TheVariants.{ByPrecede, ByStart}
use Rattle.squawk_output.proofs.EditedErrors.{errors-append}
use Rattle.squawk_output.proofs.PlainLog.{errors-plain}
use Rattle.squawk_table.specs.Shape.{AreOneToken, IsOver}
use Rattle.squawk_table.proofs.Over.{IsOver-token_last, IsOver-error_last}
use Rattle.squawk_parser.specs.State.{State, IsSound, HasNotFailed, ahead}
use Rattle.squawk_parser.specs.declared.parser.parse_error.ParseError.{ParseError}
use Rattle.squawk_parser.specs.declared.parser.parse_error.ParseError.TheVariants.{OutOfMemory, TooManyEvents, TooManyErrors}
use Rattle.squawk_parser.proofs.Balance.{depth_after, depth_after-append, depth_after-balanced, IsBalanced-depth_after}
use Rattle.squawk_parser.proofs.MovedSteps.{IsMoved, IsMoved-around, IsMoved-earlier, IsMoved-same}
use Rattle.squawk_parser.proofs.OneToken.{AreOneToken-seen, AreOneToken-within}
use Rattle.squawk_parser.proofs.RecordedItems.{plain-append, eaten-append}
use Rattle.squawk_parser.proofs.Splits.{spliced-open_marker, spliced-opening, split-extended}

-- a parser that goes on isn't refused anything
pub not_refused : (s : State) (reason : ParseError) → HasNotFailed s → s.first_reason ≡ Some reason → ⊥
not_refused s reason goes refused = cc

pub not_failed : (s : State) → HasNotFailed s → IsSome s.first_reason → ⊥
not_failed s goes failed = cc

-- ---- a parser that goes on, with another draft and further on

module _ (s : State) (sound : IsSound s) (goes : HasNotFailed s) where
  flat_before : depth_after 0 (plain s.draft.items) ≡ Some 0
  flat_before = depth_after-balanced (plain s.draft.items) sound.balanced

  edited : (d : Draft) (position : ℕ) → position ≤ s.limit → d.recorded ≤ s.max_events → IsLogged d → errors_of d.items ≤ s.max_errors
      → depth_after 0 (plain d.items) ≡ Some 0 → IsOver (plain d.items) s.input → eaten (plain d.items) ≡ position
      → IsSound (record s { position = position; draft = d })
  edited d position within recorded logged errors flat over eats = record {
    position = within;
    limit = sound.limit;
    words = sound.words;
    no_end = sound.no_end;
    recorded = recorded;
    logged = logged;
    errors = errors;
    refused = λ full. absurd (not_refused s TooManyEvents goes full);
    refused_error = λ full. absurd (not_refused s TooManyErrors goes full);
    balanced = IsBalanced-depth_after (plain d.items) flat;
    over = over;
    behind = omega (arith, eats);
    exact = λ goes. eats;
  }

  -- an edit that eats nothing and reports nothing
  edited_as : (d : Draft) → d.recorded ≤ s.max_events → IsLogged d → IsMoved (plain s.draft.items) (plain d.items) → IsSound (record s { draft = d })
  edited_as d recorded logged move =
      edited d s.position sound.position recorded logged (omega (arith, sound.errors, move.errors, errors-plain d.items, errors-plain s.draft.items)) (move.flat flat_before)
      (move.over s.input sound.over) (move.eats ∙ sound.exact goes)

  -- ---- at the end

  pub IsSound-started : s.draft.recorded < s.max_events → IsLogged (started s.draft) → IsSound (record s { draft = started s.draft })
  IsSound-started room logged =
      let open_marker : List Item = OpenMarker s.draft.entries ByStart ∷ [] in
      edited_as (started s.draft) (omega arith) logged
      (IsMoved-same (plain s.draft.items) (plain (started s.draft).items) (plain-append s.draft.items open_marker ∙ append-nil (plain s.draft.items)))

  -- n tokens as one, which the parser eats
  pub IsSound-with_token : (kind n : ℕ) → s.draft.recorded < s.max_events → AreOneToken n (ahead s 0) → IsLogged (with_token s.draft kind n)
      → IsSound (record s { position = s.position + n; draft = with_token s.draft kind n })
  IsSound-with_token kind n room one logged =
      let items = s.draft.items in
      let token : List Item = Token kind n ∷ [] in
      let reads : plain (items ++ token) ≡ plain items ++ steps.Token kind n ∷ [] = plain-append items token in
      let there : AreOneToken n (drop (eaten (plain items)) s.input) = rw (sound.exact goes) (AreOneToken-seen n s.limit s.position s.input (rw add-zero at one)) in
      edited (with_token s.draft kind n) (s.position + n) (AreOneToken-within n s.limit s.position s.input (rw add-zero at one)) (omega arith) logged
      (omega (arith, sound.errors, errors-append items token))
      (rw reads (depth_after-append 0 0 (plain items) (steps.Token kind n ∷ []) flat_before))
      (rw reads (IsOver-token_last (plain items) s.input kind n sound.over there))
      (rw reads (eaten-append (plain items) (steps.Token kind n ∷ []) ∙ (ap (λ k. k + eaten (steps.Token kind n ∷ [])) (sound.exact goes) ∙ omega arith)))

  pub IsSound-with_error : (text : List ℕ) → s.draft.recorded < s.max_events → errors_of s.draft.items < s.max_errors → IsLogged (with_error s.draft text)
      → IsSound (record s { draft = with_error s.draft text })
  IsSound-with_error text room errors logged =
      let items = s.draft.items in
      let error : List Item = Error text ∷ [] in
      let reads : plain (items ++ error) ≡ plain items ++ steps.Error text ∷ [] = plain-append items error in
      edited (with_error s.draft text) s.position sound.position (omega arith) logged (omega (arith, errors-append items error))
      (rw reads (depth_after-append 0 0 (plain items) (steps.Error text ∷ []) flat_before))
      (rw reads (IsOver-error_last (plain items) s.input text sound.over))
      (rw reads (eaten-append (plain items) (steps.Error text ∷ []) ∙ (ap (λ k. k + eaten (steps.Error text ∷ [])) (sound.exact goes) ∙ omega arith)))

  -- ---- at a marker

  pub IsSound-completed : (id kind : ℕ) (made : Made) → s.draft.recorded < s.max_events → Contains s.draft.items (OpenMarker id made)
      → IsLogged (completed s.draft id kind) → IsSound (record s { draft = completed s.draft id kind })
  IsSound-completed id kind made room there logged =
      let splice = spliced-open_marker id made (λ item. Open id kind true ∷ []) s.draft.items sound.logged.once there in
      let front = splice.0.front in
      let back = splice.0.back in
      let opening : Item = Open id kind true in
      let before : plain s.draft.items ≡ plain front ++ plain back = ap plain splice.0.is ∙ plain-append front (OpenMarker id made ∷ back) in
      let after : plain (completed s.draft id kind).items ≡ plain front ++ Enter kind ∷ (plain back ++ Exit ∷ []) =
      ap (λ items. plain (items ++ Close ∷ [])) splice.1
      ∙ (plain-append (front ++ opening ∷ back) (Close ∷ [])
      ∙ (ap (λ xs. xs ++ Exit ∷ []) (plain-append front (opening ∷ back)) ∙ assoc (plain front) (Enter kind ∷ plain back))) in
      edited_as (completed s.draft id kind) (omega arith) logged (rw (before, after) (IsMoved-around kind (plain front) (plain back)))
    where
      assoc : (xs ys : List Step) → (xs ++ ys) ++ Exit ∷ [] ≡ xs ++ (ys ++ Exit ∷ [])
      assoc [] ys = refl
      assoc (x ∷ xs) ys = ap (λ zs. x ∷ zs) (assoc xs ys)

  pub IsSound-preceded : (node kind : ℕ) → s.draft.recorded < s.max_events → Contains s.draft.items (Open node kind true)
      → IsLogged (preceded s.draft node) → IsSound (record s { draft = preceded s.draft node })
  IsSound-preceded node kind room there logged =
      let splice = spliced-opening node kind (λ item. OpenMarker s.draft.entries ByPrecede ∷ preceded_item item ∷ []) s.draft.items sound.logged.once there in
      let front = splice.0.front in
      let back = splice.0.back in
      edited_as (preceded s.draft node) (omega arith) logged
      (IsMoved-same (plain s.draft.items) (plain (preceded s.draft node).items)
      (ap plain splice.1 ∙ (plain-append front (OpenMarker s.draft.entries ByPrecede ∷ Open node kind false ∷ back) ∙ sym (ap plain splice.0.is ∙ plain-append front (Open node kind true ∷ back)))))

  plain-without_open_marker : (id : ℕ) (made : Made) → Contains s.draft.items (OpenMarker id made) → IsMoved (plain s.draft.items) (plain (without_open_marker id s.draft.items))
  plain-without_open_marker id made there =
      let splice = spliced-open_marker id made (λ item. []) s.draft.items sound.logged.once there in
      IsMoved-same (plain s.draft.items) (plain (without_open_marker id s.draft.items))
      (ap plain splice.1 ∙ (plain-append splice.0.front splice.0.back ∙ sym (ap plain splice.0.is ∙ plain-append splice.0.front (OpenMarker id made ∷ splice.0.back))))

  pub IsSound-abandoned : (id : ℕ) (made : Made) → Contains s.draft.items (OpenMarker id made) → IsLogged (abandoned s.draft id)
      → IsSound (record s { draft = abandoned s.draft id })
  IsSound-abandoned id made there logged = edited_as (abandoned s.draft id) sound.recorded logged (plain-without_open_marker id made there)

  pub IsSound-extended : (node : Node) (id : ℕ) (made : Made) → Contains s.draft.items (OpenMarker id made) → Contains s.draft.items (Open node.id node.kind true)
      → IsLogged (extended s.draft node id) → IsSound (record s { draft = extended s.draft node id })
  IsSound-extended node id made open_marker there logged =
      edited_as (extended s.draft node id) sound.recorded logged (cases (stands_before (is_open_marker_of id) (is_opening_of node.id) s.draft.items) refl)
    where
      cases : (b : _) → stands_before (is_open_marker_of id) (is_opening_of node.id) s.draft.items ≡ b
          → IsMoved (plain s.draft.items) (plain (cond b (moved node id s.draft.items) (without_open_marker id s.draft.items)))
      cases true before =
          let at = split-extended node id s.draft.items sound.logged.once there before in
          let opening : Item = Open node.id node.kind true in
          let old : plain s.draft.items ≡ plain at.front ++ (plain at.between ++ Enter node.kind ∷ plain at.back) =
          ap plain at.is
          ∙ (plain-append at.front (OpenMarker id at.made ∷ (at.between ++ opening ∷ at.back)) ∙ ap (λ xs. plain at.front ++ xs) (plain-append at.between (opening ∷ at.back))) in
          let new : plain (moved node id s.draft.items) ≡ plain at.front ++ Enter node.kind ∷ (plain at.between ++ plain at.back) =
          ap plain at.edit
          ∙ (plain-append at.front (opening ∷ (at.between ++ at.back)) ∙ ap (λ xs. plain at.front ++ Enter node.kind ∷ xs) (plain-append at.between at.back)) in
          rw (old, new) (IsMoved-earlier node.kind (plain at.front) (plain at.between) (plain at.back))
      cases false before = plain-without_open_marker id made open_marker

-- ---- a parser that has failed

-- for want of memory
pub IsSound-failed : (s : State) → IsSound s → IsSound (record s { first_reason = Some OutOfMemory })
IsSound-failed s sound = record {
  position = sound.position;
  limit = sound.limit;
  words = sound.words;
  no_end = sound.no_end;
  recorded = sound.recorded;
  logged = sound.logged;
  errors = sound.errors;
  refused = λ full. absurd (let other = full in cc);
  refused_error = λ full. absurd (let other = full in cc);
  balanced = sound.balanced;
  over = sound.over;
  behind = sound.behind;
  exact = λ goes. absurd (let other = goes in cc);
}

-- it goes past n tokens
pub IsSound-past : (s : State) (n : ℕ) → IsSound s → IsSome s.first_reason → AreOneToken n (ahead s 0) → IsSound (record s { position = s.position + n })
IsSound-past s n sound failed one = record {
  position = AreOneToken-within n s.limit s.position s.input (rw add-zero at one);
  limit = sound.limit;
  words = sound.words;
  no_end = sound.no_end;
  recorded = sound.recorded;
  logged = sound.logged;
  errors = sound.errors;
  refused = sound.refused;
  refused_error = sound.refused_error;
  balanced = sound.balanced;
  over = sound.over;
  behind = omega (arith, sound.behind);
  exact = λ goes. absurd (not_failed s goes failed);
}

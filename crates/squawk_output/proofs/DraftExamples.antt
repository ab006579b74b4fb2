-- The draft of a small log, and the steps of small drafts: what they have is worked out by hand.
use Rattle.std.proofs.Common.{◌≡◌, ℕ, true, false, Some, None, List, [], ◌∷◌, ◌++◌, refl}
use Rattle.squawk_kinds.specs.Kinds.{IDENT, TOMBSTONE}
use Rattle.squawk_output.specs.Steps as steps
use Rattle.squawk_output.specs.Steps.{Step, Enter, Exit}
use Rattle.squawk_output.specs.declared.event.Event.TheVariants.{Start, Finish}
use Rattle.squawk_output.specs.Draft.{Item, OpenMarker, Open, Close, Token, plain}
use Rattle.squawk_output.specs.Edits.{extended_items, filled}
use Rattle.squawk_output.specs.declared.log.Made.TheVariants.{ByPrecede, ByStart}
use Rattle.squawk_output.specs.LogDraft.{draft_items}

-- an open marker in front of a node, which is in front of another; and a marker that was abandoned, and one that is
-- open
draft_of_a_log : draft_items (Start 700 (Some 2) ∷ Finish ∷ Start 701 (Some 2) ∷ Finish ∷ Start TOMBSTONE None ∷ Start TOMBSTONE None ∷ Start TOMBSTONE None ∷ [])
    (false ∷ false ∷ false ∷ false ∷ true ∷ false ∷ true ∷ [])
    ≡ OpenMarker 4 ByPrecede ∷ Open 2 701 false ∷ Open 0 700 false ∷ Close ∷ Close ∷ OpenMarker 6 ByStart ∷ []
draft_of_a_log = refl

-- Ids matter to a plain list by their order alone. Two markers, a token and a third marker: its id is its event's
-- index, 3; one above the greatest id before it would be 2. The second and the third are completed, and the third's
-- node is extended to the first.
abbrev steps_with : ℕ → List Step
steps_with id =
    let markers : List Item = OpenMarker 0 ByStart ∷ OpenMarker 1 ByStart ∷ Token IDENT 1 ∷ OpenMarker id ByStart ∷ [] in
    plain (extended_items (record { id = id; kind = 701 }) 0 (filled (filled markers 1 700 ++ Close ∷ []) id 701 ++ Close ∷ []))

steps_with_indices : steps_with 3 ≡ Enter 701 ∷ Enter 700 ∷ steps.Token IDENT 1 ∷ Exit ∷ Exit ∷ []
steps_with_indices = refl

steps_with_greatest : steps_with 2 ≡ Enter 701 ∷ Enter 700 ∷ steps.Token IDENT 1 ∷ Exit ∷ Exit ∷ []
steps_with_greatest = refl

-- The definitions of logs on small ones: what they give is worked out by hand.
use Rattle.std.proofs.Common.{◌≡◌, Some, None, [], ◌∷◌, refl}
use Rattle.squawk_kinds.specs.Kinds.{IDENT, TOMBSTONE}
use Rattle.squawk_output.specs.Steps as steps
use Rattle.squawk_output.specs.Steps.{Enter, Exit}
use Rattle.squawk_output.specs.declared.event.Event.TheVariants.{Start, Finish, Token, Error}
use Rattle.squawk_output.specs.EventLog.{Log, list_of, owned, turns_of}

-- a node, a token and an error without a link
abbrev flat : Log
flat = Start 700 None ∷ Token IDENT 1 ∷ Error (101 ∷ []) ∷ Finish ∷ []

list_of_flat : list_of flat ≡ Enter 700 ∷ steps.Token IDENT 1 ∷ steps.Error (101 ∷ []) ∷ Exit ∷ []
list_of_flat = refl

turns_of_flat : turns_of flat ≡ 5
turns_of_flat = refl

-- a chain: its last node is the outermost
abbrev chain : Log
chain = Start 701 (Some 3) ∷ Token IDENT 1 ∷ Finish ∷ Start 702 (Some 2) ∷ Finish ∷ Start 707 None ∷ Finish ∷ []

owned_chain : owned chain 0 ≡ (5, Start 707 None) ∷ (3, Start 702 (Some 2)) ∷ (0, Start 701 (Some 3)) ∷ []
owned_chain = refl

list_of_chain : list_of chain ≡ Enter 707 ∷ Enter 702 ∷ Enter 701 ∷ steps.Token IDENT 1 ∷ Exit ∷ Exit ∷ Exit ∷ []
list_of_chain = refl

turns_of_chain : turns_of chain ≡ 14
turns_of_chain = refl

-- a tombstone that has a link to where the first one's leads, too
abbrev crossing : Log
crossing = Start 701 (Some 3) ∷ Start TOMBSTONE (Some 2) ∷ Finish ∷ Start 702 None ∷ Finish ∷ []

list_of_crossing : list_of crossing ≡ Enter 702 ∷ Enter 701 ∷ Exit ∷ Exit ∷ []
list_of_crossing = refl

turns_of_crossing : turns_of crossing ≡ 12
turns_of_crossing = refl

-- two links to one index: the first takes it and what lies beyond
abbrev forest : Log
forest = Start 700 (Some 2) ∷ Start 701 (Some 1) ∷ Start 702 (Some 1) ∷ Start 703 None ∷ []

owned_forest : owned forest 1 ≡ (1, Start 701 (Some 1)) ∷ []
owned_forest = refl

list_of_forest : list_of forest ≡ Enter 703 ∷ Enter 702 ∷ Enter 700 ∷ Enter 701 ∷ []
list_of_forest = refl

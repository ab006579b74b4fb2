-- The definitions of drafts on small ones: what they give is worked out by hand.
use Rattle.std.proofs.Common.{◌≡◌, true, false, [], ◌∷◌, refl}
use Rattle.squawk_output.specs.Draft as items
use Rattle.squawk_output.specs.declared.log.Made.TheVariants as made
use Rattle.squawk_output.specs.Draft.{Draft, nothing, errors_of, plain}
use Rattle.squawk_output.specs.Edits.{abandoned, completed, extended, preceded, started, with_token, with_error}
use Rattle.squawk_output.specs.Steps as steps
use Rattle.squawk_table.proofs.Examples.{crossing_steps}

abbrev token : Draft → Draft
token d = with_token d 3 1

-- a node with two tokens
one_node : completed (token (token (started nothing))) 0 700 ≡ record {
  items = items.Open 0 700 true ∷ items.Token 3 1 ∷ items.Token 3 1 ∷ items.Close ∷ [];
  recorded = 4;
  entries = 4;
  turns_due = 5;
}
one_node = refl

-- a node with an error, which eats nothing
abbrev with_a_refusal : Draft
with_a_refusal = completed (with_error (token (started nothing)) (110 ∷ 111 ∷ [])) 0 700

plain_of_a_refusal : plain with_a_refusal.items ≡ steps.Enter 700 ∷ steps.Token 3 1 ∷ steps.Error (110 ∷ 111 ∷ []) ∷ steps.Exit ∷ []
plain_of_a_refusal = refl

errors_of_a_refusal : errors_of with_a_refusal.items ≡ 1
errors_of_a_refusal = refl

recorded_of_a_refusal : with_a_refusal.recorded ≡ 4
recorded_of_a_refusal = refl

-- the second of two markers that cross is completed after the first
abbrev crossing : Draft
crossing = completed (completed (token (completed (token (started (token (started (started nothing))))) 1 703)) 3 704) 0 700

plain_of_crossing : plain crossing.items ≡ crossing_steps
plain_of_crossing = refl

recorded_of_crossing : crossing.recorded ≡ 9
recorded_of_crossing = refl

-- ---- markers that move

-- a node that is preceded twice, each time in front of the outermost one
abbrev node_in_front : Draft
node_in_front = completed (preceded (completed (preceded (completed (token (started nothing)) 0 701) 0) 3 702) 3) 5 707

one_node_in_front_of_the_other : node_in_front ≡ record {
  items = items.Open 5 707 true ∷ items.Open 3 702 false ∷ items.Open 0 701 false ∷ items.Token 3 1 ∷ items.Close ∷ items.Close ∷ items.Close ∷ [];
  recorded = 7;
  entries = 7;
  turns_due = 14;
}
one_node_in_front_of_the_other = refl

-- a marker in front of a node is given up: the node can't be preceded again
preceded_in_vain : abandoned (preceded (completed (token (started nothing)) 0 701) 0) 3 ≡ record {
  items = items.Open 0 701 false ∷ items.Token 3 1 ∷ items.Close ∷ [];
  recorded = 4;
  entries = 4;
  turns_due = 8;
}
preceded_in_vain = refl

-- three markers, each with a token, and a node behind them
abbrev three_markers : Draft
three_markers = completed (token (started (token (started (token (started (started nothing))))))) 5 705

abbrev last_node : items.Node
last_node = record { id = 5; kind = 705 }

-- the node goes to the nearer marker, and then to the farther one
extended_twice : extended (extended three_markers last_node 3) last_node 1 ≡ record {
  items = items.OpenMarker 0 made.ByStart ∷ items.Open 5 705 true ∷ items.Token 3 1 ∷ items.Token 3 1 ∷ items.Token 3 1 ∷ items.Close ∷ [];
  recorded = 8;
  entries = 8;
  turns_due = 16;
}
extended_twice = refl

-- or to the farther one at once, so that the nearer one's open marker stands behind it, and it stays
extended_past_a_marker : extended (extended three_markers last_node 1) last_node 3 ≡ extended (extended three_markers last_node 3) last_node 1
extended_past_a_marker = refl

-- a node that is preceded stays before the items of a marker that is older than the new one
abbrev preceded_past_a_marker : Draft
preceded_past_a_marker = completed (preceded (completed (token (started (started (started nothing)))) 1 705) 1) 5 701

extended_in_vain : extended preceded_past_a_marker (record { id = 5; kind = 701 }) 2 ≡ record {
  items = items.OpenMarker 0 made.ByStart ∷ items.Open 5 701 true ∷ items.Open 1 705 false ∷ items.Token 3 1 ∷ items.Close ∷ items.Close ∷ [];
  recorded = 7;
  entries = 7;
  turns_due = 15;
}
extended_in_vain = refl

-- ---- entries that go

-- a marker that is abandoned at once leaves no entry
given_up_at_once : completed (token (abandoned (started (started nothing)) 1)) 0 700 ≡ record {
  items = items.Open 0 700 true ∷ items.Token 3 1 ∷ items.Close ∷ [];
  recorded = 4;
  entries = 3;
  turns_due = 4;
}
given_up_at_once = refl

-- and one behind which something was recorded leaves its own
given_up_later : completed (abandoned (token (started (started nothing))) 1) 0 700 ≡ record {
  items = items.Open 0 700 true ∷ items.Token 3 1 ∷ items.Close ∷ [];
  recorded = 4;
  entries = 4;
  turns_due = 6;
}
given_up_later = refl

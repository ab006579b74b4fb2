-- What calls mean over small inputs, and which events limits refuse: what they give is worked out by hand.
use Rattle.std.proofs.Common.{◌≡◌, ℕ, Bool, true, false, Some, None, List, [], ◌∷◌, refl}
use Rattle.squawk_kinds.specs.Kinds.{COLON, COLON_EQ, EOF, EQ, ERROR, IDENT}
use Rattle.squawk_kinds.specs.TokenSets as sets
use Rattle.squawk_kinds.specs.TokenSets.{no_kinds}
use Rattle.squawk_table.specs.ParserInput.{Entry}
use Rattle.squawk_output.specs.Steps as steps
use Rattle.squawk_output.specs.Steps.{Step, Enter, Exit, Token}
use Rattle.squawk_output.specs.Draft.{plain}
use Rattle.squawk_parser.specs.Words.{no_words}
use Rattle.squawk_parser.specs.declared.parser.parse_error.ParseError.TheVariants.{TooManyEvents, TooManyErrors}
use Rattle.squawk_script.specs.Accepted.{is_at_hand, is_open, may_follow}
use Rattle.squawk_script.specs.Events.{refusal}
use Rattle.squawk_script.specs.Meaning.{Run, run_of}
use Rattle.squawk_script.specs.declared.call.Call.{Call}
use Rattle.squawk_script.specs.declared.call.Call.TheVariants.{Start, Complete, Abandon, Precede, ExtendTo, Eat, BumpAny, BumpRemap, Error, ErrRecover, ErrAndBump}

abbrev word : Entry
word = record { kind = IDENT; contextual_kind = IDENT; is_joint = false }

-- what the calls leave over so many words
abbrev left : List Entry → List Call → Run
left input calls = run_of no_words input calls

abbrev leaves : List Entry → List Call → List Step → ℕ → ℕ → ℕ → Type 0
leaves input calls steps recorded turns position =
    (plain (left input calls).draft.items ≡ steps) × ((left input calls).draft.recorded ≡ recorded) × ((left input calls).draft.turns_due ≡ turns)
    × ((left input calls).position ≡ position)

-- ---- markers that move

-- the chain of two that precede
preceded_twice : leaves (word ∷ [])
    (Start ∷ BumpAny ∷ Complete 0 701 ∷ Precede 0 ∷ Complete 1 702 ∷ Precede 1 ∷ Complete 2 707 ∷ [])
    (Enter 707 ∷ Enter 702 ∷ Enter 701 ∷ Token 3 1 ∷ Exit ∷ Exit ∷ Exit ∷ []) 7 14 1
preceded_twice = (refl, refl, refl, refl)

-- a node is extended past one marker to another
abbrev three_markers : List Call → List Call
three_markers rest = Start ∷ Start ∷ BumpAny ∷ Start ∷ BumpAny ∷ Start ∷ BumpAny ∷ Complete 3 705 ∷ rest

abbrev extended_steps : List Step
extended_steps = Enter 700 ∷ Enter 705 ∷ Token 3 1 ∷ Token 3 1 ∷ Token 3 1 ∷ Exit ∷ Exit ∷ []

extended_to_the_nearer_first : leaves (word ∷ word ∷ word ∷ []) (three_markers (ExtendTo 3 2 ∷ ExtendTo 3 1 ∷ Complete 0 700 ∷ [])) extended_steps 9 17 3
extended_to_the_nearer_first = (refl, refl, refl, refl)

extended_to_the_farther_first : leaves (word ∷ word ∷ word ∷ []) (three_markers (ExtendTo 3 1 ∷ ExtendTo 3 2 ∷ Complete 0 700 ∷ [])) extended_steps 9 17 3
extended_to_the_farther_first = (refl, refl, refl, refl)

-- a marker in front of a node is abandoned
is_abandoned : leaves (word ∷ word ∷ [])
    (Start ∷ Start ∷ BumpAny ∷ Complete 1 701 ∷ Precede 1 ∷ Abandon 2 ∷ Start ∷ BumpAny ∷ Complete 3 702 ∷ Complete 0 700 ∷ [])
    (Enter 700 ∷ Enter 701 ∷ Token 3 1 ∷ Exit ∷ Enter 702 ∷ Token 3 1 ∷ Exit ∷ Exit ∷ []) 9 15 2
is_abandoned = (refl, refl, refl, refl)

-- a preceding node begins before a marker that is older: it stays
extended_in_vain : leaves (word ∷ [])
    (Start ∷ Start ∷ Start ∷ BumpAny ∷ Complete 1 705 ∷ Precede 1 ∷ Complete 3 701 ∷ ExtendTo 3 2 ∷ Complete 0 700 ∷ [])
    (Enter 700 ∷ Enter 701 ∷ Enter 705 ∷ Token 3 1 ∷ Exit ∷ Exit ∷ Exit ∷ []) 8 16 1
extended_in_vain = (refl, refl, refl, refl)

-- an id is used again where the marker that had it is gone
begun_again : leaves (word ∷ []) (Start ∷ Abandon 0 ∷ Start ∷ BumpAny ∷ Complete 1 700 ∷ []) (Enter 700 ∷ Token 3 1 ∷ Exit ∷ []) 4 4 1
begun_again = (refl, refl, refl, refl)

-- ---- calls that name no marker

nothing_is_eaten_at_the_end : leaves (word ∷ []) (BumpAny ∷ BumpAny ∷ BumpRemap 5 ∷ []) (Token 3 1 ∷ []) 1 1 1
nothing_is_eaten_at_the_end = (refl, refl, refl, refl)

-- two joint signs are one token, and where they don't stand nothing is eaten
abbrev colon_eq : List Entry
colon_eq = record { kind = COLON; contextual_kind = EOF; is_joint = true } ∷ record { kind = EQ; contextual_kind = EOF; is_joint = false } ∷ word ∷ []

pair_is_eaten : leaves colon_eq (Eat COLON_EQ ∷ Eat COLON_EQ ∷ BumpAny ∷ []) (Token COLON_EQ 2 ∷ Token 3 1 ∷ []) 2 2 3
unfolding sets.has
pair_is_eaten = (refl, refl, refl, refl)

skipped_token : leaves (word ∷ []) (ErrAndBump (101 ∷ []) ∷ ErrRecover (102 ∷ []) no_kinds ∷ Error (103 ∷ []) ∷ [])
    (Enter ERROR ∷ steps.Error (101 ∷ []) ∷ Token 3 1 ∷ Exit ∷ Enter ERROR ∷ steps.Error (102 ∷ []) ∷ Exit ∷ steps.Error (103 ∷ []) ∷ []) 8 10 1
unfolding sets.has
skipped_token = (refl, refl, refl, refl)

-- ---- events that find no room

-- each is an error or not
abbrev two_errors : List Bool
two_errors = false ∷ true ∷ false ∷ true ∷ []

room_for_all : refusal 4 2 two_errors ≡ None
room_for_all = refl

room_for_two : refusal 2 1 two_errors ≡ Some TooManyEvents
room_for_two = refl

room_for_one_error : refusal 4 1 two_errors ≡ Some TooManyErrors
room_for_one_error = refl

-- the first that finds no room counts, and of one that is an error the room for events
errors_are_first : refusal 3 0 two_errors ≡ Some TooManyErrors
errors_are_first = refl

both_at_once : refusal 1 0 two_errors ≡ Some TooManyEvents
both_at_once = refl

-- ---- calls that may follow others

abbrev one_node : List Call
one_node = Start ∷ Start ∷ Complete 1 701 ∷ []

first_is_open : is_open one_node 0 ≡ true
first_is_open = refl

second_is_not : is_open one_node 1 ≡ false
second_is_not = refl

second_is_at_hand : is_at_hand one_node 1 ≡ true
second_is_at_hand = refl

-- a preceded node is at hand no more, also where the new marker is abandoned
preceded_is_not_at_hand : is_at_hand (Start ∷ Start ∷ Complete 1 701 ∷ Precede 1 ∷ Abandon 2 ∷ []) 1 ≡ false
preceded_is_not_at_hand = refl

older_marker_may_be_extended_to : may_follow one_node (ExtendTo 1 0) ≡ true
older_marker_may_be_extended_to = refl

younger_marker_may_not : may_follow (Start ∷ Complete 0 701 ∷ Start ∷ []) (ExtendTo 0 1) ≡ false
younger_marker_may_not = refl

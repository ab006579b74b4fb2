-- The definitions on small texts: what they give is worked out by hand.
use Rattle.std.proofs.Common.{◌≡◌, ℕ, zero, suc, ◌+◌, ◌<◌, arith, Bool, true, false, nat_eq, Some, None, List, [], ◌∷◌, refl, if◌then◌else◌}
use Rattle.std.specs.Prelude.{codes}
use Rattle.std.specs.Str.{chars}
use Rattle.std.specs.Cmp.Lexicographic.{pointwise}
use Rattle.std.proofs.lemmas.Bool.{false≢true}
use Rattle.squawk_tokens.specs.declared.token.Token.{Token}
use Rattle.squawk_tokens.specs.declared.token.TokenKind.TheVariants.{Ident, Whitespace}
use Rattle.squawk_table.specs.declared.shortcuts.str_step.OwnedStep.{OwnedStep}
use Rattle.squawk_table.specs.declared.shortcuts.str_step.OwnedStep.TheVariants as sent
use Rattle.squawk_tokens.specs.AcceptedTokens.{start_of}
use Rattle.squawk_table.specs.RawTable.{Table, table_of}
use Rattle.squawk_kinds.specs.Keywords.{Keywords}
use Rattle.squawk_kinds.specs.Kinds.{EOF, EQ, IDENT, R_ANGLE, WHITESPACE}
use Rattle.squawk_table.specs.ParserInput.{Entry, input_of, is_joint_in}
use Rattle.squawk_table.specs.Shape.{IsOver, no_keywords}
use Rattle.squawk_output.specs.Steps as steps
use Rattle.squawk_output.specs.Steps.{Step}
use Rattle.squawk_table.specs.Sent.{errors_moved, sent_list, texts_of}

-- ---- texts and their tokens

abbrev ident : ℕ → Token
ident len = record { kind = Ident; len = len }

abbrev space : ℕ → Token
space len = record { kind = Whitespace; len = len }

-- each word of "message raise" has a contextual keyword, and "select" is a keyword
abbrev select_only : Keywords
select_only text = if pointwise nat_eq text (codes "select") then Some 200 else None

abbrev messages : Keywords
messages text = if pointwise nat_eq text (codes "message") then Some 201 else if pointwise nat_eq text (codes "raise") then Some 202 else None

abbrev two_idents : Table
two_idents = table_of no_keywords (codes "a b") (ident 1 ∷ space 1 ∷ ident 1 ∷ [])

abbrev three_idents : Table
three_idents = table_of no_keywords (codes "a b c") (ident 1 ∷ space 1 ∷ ident 1 ∷ space 1 ∷ ident 1 ∷ [])

-- ---- tables

start_of_two : start_of (ident 1 ∷ space 1 ∷ ident 1 ∷ []) 2 ≡ 2
start_of_two = refl

table_of_two : two_idents ≡ record { text = codes "a b"; kinds = IDENT ∷ WHITESPACE ∷ IDENT ∷ []; starts = 0 ∷ 1 ∷ 2 ∷ 3 ∷ []; errors = [] }
table_of_two = refl

table_of_keyword : (table_of select_only (codes "select x") (ident 6 ∷ space 1 ∷ ident 1 ∷ [])).kinds ≡ 200 ∷ WHITESPACE ∷ IDENT ∷ []
table_of_keyword = refl

-- ---- inputs

abbrev entry : ℕ → ℕ → Bool → Entry
entry kind contextual is_joint = record { kind = kind; contextual_kind = contextual; is_joint = is_joint }

-- a space keeps two identifiers apart
input_of_two : input_of no_keywords two_idents ≡ entry IDENT IDENT false ∷ entry IDENT IDENT false ∷ []
input_of_two = refl

-- nothing stands between the first and the second identifier, and nothing comes after the second
input_of_joint : input_of no_keywords (table_of no_keywords (codes "ab") (ident 1 ∷ ident 1 ∷ [])) ≡ entry IDENT IDENT true ∷ entry IDENT IDENT false ∷ []
input_of_joint = refl

input_of_contextual : input_of messages (table_of no_keywords (codes "message raise") (ident 7 ∷ space 1 ∷ ident 5 ∷ [])) ≡ entry IDENT 201 false ∷ entry IDENT 202 false ∷ []
input_of_contextual = refl

-- a keyword has no contextual kind
input_of_keyword : input_of messages (table_of select_only (codes "select") (ident 6 ∷ [])) ≡ entry 200 EOF false ∷ []
input_of_keyword = refl

-- ---- what is sent

-- a node in a node in a root
abbrev pub crossing_steps : List Step
crossing_steps =
    steps.Enter 700 ∷ steps.Enter 703 ∷ steps.Token IDENT 1 ∷ steps.Enter 704 ∷ steps.Token IDENT 1 ∷ steps.Exit ∷ steps.Token IDENT 1 ∷ steps.Exit ∷ steps.Exit ∷ []

abbrev a : OwnedStep
a = sent.Token IDENT (codes "a")

abbrev b : OwnedStep
b = sent.Token IDENT (codes "b")

abbrev c : OwnedStep
c = sent.Token IDENT (codes "c")

abbrev gap : OwnedStep
gap = sent.Token WHITESPACE (codes " ")

-- an empty text
sent_of_nothing : sent_list (table_of no_keywords [] []) (steps.Enter 700 ∷ steps.Exit ∷ []) ≡ sent.Enter 700 ∷ sent.Exit ∷ []
unfolding chars
sent_of_nothing = refl

-- trivia stands before the token after it
sent_of_two : sent_list two_idents (steps.Enter 700 ∷ steps.Token IDENT 1 ∷ steps.Token IDENT 1 ∷ steps.Exit ∷ []) ≡ sent.Enter 700 ∷ a ∷ gap ∷ b ∷ sent.Exit ∷ []
unfolding chars
sent_of_two = refl

-- what comes after the last token that is eaten isn't sent, but for the trivia before the end
sent_of_one : sent_list two_idents (steps.Enter 700 ∷ steps.Token IDENT 1 ∷ steps.Exit ∷ []) ≡ sent.Enter 700 ∷ a ∷ gap ∷ sent.Exit ∷ []
unfolding chars
sent_of_one = refl

-- trivia stands before the opening of a node, not in it, and not before the end of an inner one
sent_of_crossing : sent_list three_idents crossing_steps
    ≡ sent.Enter 700 ∷ sent.Enter 703 ∷ a ∷ gap ∷ sent.Enter 704 ∷ b ∷ sent.Exit ∷ gap ∷ c ∷ sent.Exit ∷ sent.Exit ∷ []
unfolding chars
sent_of_crossing = refl

-- trivia at the beginning of a text stands in the root
sent_of_mark : sent_list (table_of no_keywords (239 ∷ 187 ∷ 191 ∷ codes "a") (space 3 ∷ ident 1 ∷ [])) (steps.Enter 700 ∷ steps.Token IDENT 1 ∷ steps.Exit ∷ [])
    ≡ sent.Enter 700 ∷ sent.Token WHITESPACE (65279 ∷ []) ∷ a ∷ sent.Exit ∷ []
unfolding chars
sent_of_mark = refl

-- trivia at the end of a text stands before the end of the root
sent_of_trailing : sent_list (table_of no_keywords (codes "a ") (ident 1 ∷ space 1 ∷ [])) (steps.Enter 700 ∷ steps.Enter 701 ∷ steps.Token IDENT 1 ∷ steps.Exit ∷ steps.Exit ∷ [])
    ≡ sent.Enter 700 ∷ sent.Enter 701 ∷ a ∷ sent.Exit ∷ gap ∷ sent.Exit ∷ []
unfolding chars
sent_of_trailing = refl

texts_of_two : texts_of (sent.Enter 700 ∷ a ∷ gap ∷ b ∷ sent.Exit ∷ []) ≡ codes "a b"
texts_of_two = refl

-- ---- errors

-- an error goes before one closing, not before two
errors_moved_once : errors_moved (steps.Exit ∷ steps.Exit ∷ steps.Error (codes "e") ∷ []) ≡ steps.Exit ∷ steps.Error (codes "e") ∷ steps.Exit ∷ []
errors_moved_once = refl

-- several errors keep their order
errors_moved_together : errors_moved (steps.Exit ∷ steps.Error (codes "e") ∷ steps.Error (codes "f") ∷ steps.Enter 5 ∷ [])
    ≡ steps.Error (codes "e") ∷ steps.Error (codes "f") ∷ steps.Exit ∷ steps.Enter 5 ∷ []
errors_moved_together = refl

-- an error before the end of the root stands before the trivia there
sent_of_error : sent_list (table_of no_keywords (codes "x ") (ident 1 ∷ space 1 ∷ []))
    (steps.Enter 700 ∷ steps.Enter 701 ∷ steps.Token IDENT 1 ∷ steps.Exit ∷ steps.Error (codes "e") ∷ steps.Exit ∷ [])
    ≡ sent.Enter 700 ∷ sent.Enter 701 ∷ sent.Token IDENT (codes "x") ∷ sent.Error (codes "e") 1 ∷ sent.Exit ∷ gap ∷ sent.Exit ∷ []
unfolding chars lib.Utf8.encode
sent_of_error = refl

-- and so does one behind the root, while one before the root stays there
sent_of_outer_errors : sent_list (table_of no_keywords (codes "a ") (ident 1 ∷ space 1 ∷ []))
    (steps.Error (codes "m") ∷ steps.Enter 700 ∷ steps.Enter 701 ∷ steps.Token IDENT 1 ∷ steps.Exit ∷ steps.Exit ∷ steps.Error (codes "n") ∷ [])
    ≡ sent.Error (codes "m") 0 ∷ sent.Enter 700 ∷ sent.Enter 701 ∷ a ∷ sent.Exit ∷ sent.Error (codes "n") 1 ∷ gap ∷ sent.Exit ∷ []
unfolding chars lib.Utf8.encode
sent_of_outer_errors = refl

-- ---- tokens of several input tokens

-- two joint tokens are one
over_joint : IsOver (steps.Token EQ 2 ∷ []) (entry EQ EOF true ∷ entry R_ANGLE EOF false ∷ [])
over_joint = (record { some = omega arith; there = omega arith; touch = first_is_joint }, tt)
  where
    first_is_joint : (i : ℕ) → i + 1 < 2 → is_joint_in (entry EQ EOF true ∷ entry R_ANGLE EOF false ∷ []) i ≡ true
    first_is_joint zero lt = refl
    first_is_joint (suc i) lt = absurd (omega arith)

-- and two that stand apart aren't
apart_isnt_over : IsOver (steps.Token EQ 2 ∷ []) (entry EQ EOF false ∷ entry R_ANGLE EOF false ∷ []) → ⊥
apart_isnt_over over = false≢true (over.0.touch 0 (omega arith))

-- the text of two joint ones is joined
sent_of_joined : sent_list (table_of no_keywords (codes "ab c") (ident 1 ∷ ident 1 ∷ space 1 ∷ ident 1 ∷ []))
    (steps.Enter 700 ∷ steps.Token IDENT 2 ∷ steps.Error (codes "e") ∷ steps.Token IDENT 1 ∷ steps.Exit ∷ [])
    ≡ sent.Enter 700 ∷ sent.Token IDENT (codes "ab") ∷ sent.Error (codes "e") 2 ∷ gap ∷ c ∷ sent.Exit ∷ []
unfolding chars lib.Utf8.encode
sent_of_joined = refl

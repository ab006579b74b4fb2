-- The input of a parser: the raw tokens that aren't trivia.
use Rattle.std.specs.Prelude.{◌≢◌, All, ℕ, ◌==◌, Bool, false, not, List, [], ◌∷◌, map, slice_get, unwrap_or, option_map, if◌then◌else◌}
use Rattle.squawk_kinds.specs.Kinds.{EOF, IDENT, is_trivia}
use Rattle.squawk_table.specs.RawTable.{Table, RawToken, raw_tokens}
use Rattle.squawk_kinds.specs.Keywords.{Keywords}

-- a token of an input: its kind, its contextual kind, and whether it is joint with the next token of the input
pub record Entry : Type 0 where
  pub kind : ℕ
  pub contextual_kind : ℕ
  pub is_joint : Bool

-- an identifier has the contextual keyword that it spells, if any; every other token has none
abbrev pub contextual_kind_of : Keywords → RawToken → ℕ
contextual_kind_of contextual raw = if raw.kind == IDENT then unwrap_or (contextual raw.text) IDENT else EOF

-- whether the next raw token is one of the input
abbrev pub is_followed : List RawToken → Bool
is_followed [] = false
is_followed (next ∷ rest) = not (is_trivia next.kind)

-- the entry of a raw token: it is joint with its successor if that is the next raw token
abbrev pub entry_for : Keywords → RawToken → List RawToken → Entry
entry_for contextual raw rest = record { kind = raw.kind; contextual_kind = contextual_kind_of contextual raw; is_joint = is_followed rest }

-- the entries of the raw tokens that aren't trivia
abbrev pub entries_of : Keywords → List RawToken → List Entry
entries_of contextual [] = []
entries_of contextual (raw ∷ rest) =
    if is_trivia raw.kind then entries_of contextual rest else entry_for contextual raw rest ∷ entries_of contextual rest

-- the input of a table
abbrev pub input_of : Keywords → Table → List Entry
input_of contextual table = entries_of contextual (raw_tokens table)

-- no token of an input is the end
abbrev pub HasNoEndToken : List Entry → Type 0
HasNoEndToken input = All (λ e. e.kind ≢ EOF) input

-- the kinds of tokens
abbrev pub kinds_in : List Entry → List ℕ
kinds_in seen = map (λ e. e.kind) seen

-- the kind of token i of an input, or the end's
abbrev pub kind_in : List Entry → ℕ → ℕ
kind_in input i = unwrap_or (option_map (λ e. e.kind) (slice_get input i)) EOF

-- the contextual kind of token i of an input, or the end's
abbrev pub contextual_kind_in : List Entry → ℕ → ℕ
contextual_kind_in input i = unwrap_or (option_map (λ e. e.contextual_kind) (slice_get input i)) EOF

-- whether token i of an input is joint with the next
abbrev pub is_joint_in : List Entry → ℕ → Bool
is_joint_in input i = unwrap_or (option_map (λ e. e.is_joint) (slice_get input i)) false

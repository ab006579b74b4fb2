-- How what stands before a token changes from one raw token to the next.
use Rattle.std.specs.Prelude.{ℕ, ◌+◌, ◌&&◌, Bool, true, false, List, [], ◌∷◌, slice_range, if◌then◌else◌}
use Rattle.std.specs.List.{list_any}
use Rattle.squawk_tokens.specs.declared.token.Token.{Token}
use Rattle.squawk_tokens.specs.declared.token.TokenKind.{TokenKind}
use Rattle.sql_lexer.specs.Bytes.{is_line_end}
use Rattle.sql_grammar.specs.StrayStrings.{is_block_comment, is_plain, is_quoted, is_space, is_trivia}
use Rattle.sql_grammar.specs.declared.strings.Before.{Before}
use Rattle.sql_grammar.specs.declared.strings.Before.TheVariants.{NoString, SameLine, LineBefore, Comment}

abbrev pub is_on_line : Before → Bool
is_on_line SameLine = true
is_on_line before = false

abbrev pub after_comment : Before → Before
after_comment NoString = NoString
after_comment before = Comment

-- after trivia
abbrev pub after_trivia : Before → TokenKind → List ℕ → Before
after_trivia before kind text =
    if is_block_comment kind then after_comment before
    else if is_on_line before && (is_space kind && list_any is_line_end text) then LineBefore
    else before

-- after another token
abbrev pub after_token : TokenKind → Before
after_token kind = if is_quoted kind then SameLine else NoString

-- whether a plain string after it is a stray one
abbrev pub is_apart : Before → Bool
is_apart SameLine = true
is_apart Comment = true
is_apart before = false

-- the strays by what stands before the first token
abbrev pub strays_from : Before → List ℕ → ℕ → List Token → List Bool
strays_from before text at [] = []
strays_from before text at (t ∷ tokens) =
    if is_trivia t.kind then strays_from (after_trivia before t.kind (slice_range text at (at + t.len))) text (at + t.len) tokens
    else (is_plain t.kind && is_apart before) ∷ strays_from (after_token t.kind) text (at + t.len) tokens

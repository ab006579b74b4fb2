use Rattle.std.proofs.Common.{◌∙◌, ◌≡◌, ap, refl, get_or, zero-add}
use Rattle.std.specs.Prelude.{ℕ, if◌then◌else◌}
use Rattle.squawk_tokens.specs.declared.token.TokenKind.{TokenKind}
use Rattle.squawk_tokens.specs.declared.token.TokenKind.TheVariants.{Whitespace, Unknown}
use Rattle.sql_lexer.specs.Bytes.{is_space}
use Rattle.sql_lexer.specs.Rules.{token}
use Rattle.sql_lexer.specs.Signs.{kind_in, signs}
use Rattle.sql_lexer.specs.declared.signs.TheConstants.{SINGLE_KINDS}
use Rattle.sql_lexer.proofs.Tables.{given, given_at}
use Rattle.sql_lexer.proofs.signs.single.Goals as goal

abbrev kind_of : ℕ → TokenKind
kind_of b = if is_space b then Whitespace else kind_in signs b

as_given : SINGLE_KINDS ≡ given kind_of 0 128
as_given = refl

pub returns : goal.returns
returns c =
    c.token.ensures
    ∙ ap (λ kind. token kind 1) (ap (λ kinds. get_or kinds c.args.b Unknown) as_given ∙ given_at kind_of 0 128 c.args.b Unknown c.requires ∙ ap kind_of (zero-add c.args.b))

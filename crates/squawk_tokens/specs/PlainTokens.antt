-- Tokens whose text is not looked into. Only contracts of private functions cite them.
use Rattle.squawk_tokens.specs.declared.token.TokenKind.{TokenKind}
use Rattle.squawk_tokens.specs.declared.token.TokenKind.TheVariants.{Literal}

-- a token that is no literal
abbrev pub IsNoLiteral : TokenKind → Type 0
IsNoLiteral (Literal kind) = ⊥
IsNoLiteral kind = Unit {0}

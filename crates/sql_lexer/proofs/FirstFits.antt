-- The token that begins a text fits it.
use Rattle.std.proofs.Common.{◌≡◌, ℕ, ◌<◌, ◌≤◌, true, Option, Some, None, List, length, ⊎_elim, arith, refl}
use Rattle.std.specs.Prelude.{IsUtf8}
use Rattle.std.specs.Option.{unwrap_or}
use Rattle.std.proofs.lemmas.Bool.{cases_lt}
use Rattle.std.proofs.lemmas.Bool.Decides.{nat_tests}
use Rattle.squawk_tokens.specs.declared.token.Token.{Token}
use Rattle.sql_lexer.specs.Bytes.{is_name_start}
use Rattle.sql_lexer.specs.Rules.{first, first_of}
use Rattle.sql_lexer.specs.Signs.{sign}
use Rattle.sql_lexer.specs.Tokens.{rules, first_token}
use Rattle.sql_lexer.proofs.Choices.{name_fits_first}
use Rattle.sql_lexer.proofs.Fits.{Fits, RuleFits, first_fits}
use Rattle.sql_lexer.proofs.RunsFit.{whitespace_fits, identifier_fits, line_comment_fits, dot_dot_fits, sign_fits}
use Rattle.sql_lexer.proofs.CommandsFit.{psql_command_fits}
use Rattle.sql_lexer.proofs.ClosedFit.{block_comment_fits, string_fits, quoted_identifier_fits, prefixed_fits, dollar_quote_fits}
use Rattle.sql_lexer.proofs.NumbersFit.{numbers_fit, point_number_fits, parameter_fits}

rules_fit : (text : List ℕ) → IsUtf8 text → RuleFits text (first_of rules text)
rules_fit text utf8 =
    first_fits rules text (
      whitespace_fits text utf8,
      (
        line_comment_fits text,
        (
          block_comment_fits text utf8,
          (
            psql_command_fits text utf8,
            (
              string_fits text utf8,
              (
                quoted_identifier_fits text utf8,
                (
                  prefixed_fits text utf8,
                  (
                    identifier_fits text,
                    (
                      parameter_fits text utf8,
                      (
                        dollar_quote_fits text utf8,
                        (numbers_fit text utf8, (point_number_fits text utf8, (dot_dot_fits text utf8, tt))),
                      ),
                    ),
                  ),
                ),
              ),
            ),
          ),
        ),
      ),
    )

-- where no rule fits, the first byte is ASCII
or_sign : (text : List ℕ) (found : Option Token) → IsUtf8 text → RuleFits text found → 0 < length text → (found ≡ None → first text < 128)
    → Fits text (unwrap_or found (sign (first text)))
or_sign text None utf8 fits some ascii = sign_fits text utf8 some (ascii refl)
or_sign text (Some token) utf8 fits some ascii = fits

begins_name : (b : ℕ) → 128 ≤ b → is_name_start b ≡ true
begins_name b high = grind (arith, nat_tests)

none_is_ascii : (text : List ℕ) → first_of rules text ≡ None → first text < 128
none_is_ascii text none =
    ⊎_elim (λ lt. lt) (λ high. absurd (name_fits_first text (begins_name (first text) high) none)) (cases_lt (first text) 128)

pub first_token_fits : (text : List ℕ) → IsUtf8 text → 0 < length text → Fits text (first_token text)
first_token_fits text utf8 some = or_sign text (first_of rules text) utf8 (rules_fit text utf8) some (none_is_ascii text)

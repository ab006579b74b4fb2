-- The rule that fits a text that ends a line is the one that fits a longer text, unless its token reaches the end.
use Rattle.std.proofs.Common.{ℕ, List, inl}
use Rattle.sql_lexer.specs.Lines.{EndsLine}
use Rattle.sql_lexer.specs.Numbers.{numbers}
use Rattle.sql_lexer.specs.Rules.{first_of}
use Rattle.sql_lexer.specs.Tokens.{rules}
use Rattle.sql_lexer.proofs.lines.Agrees.{Agrees}
use Rattle.sql_lexer.proofs.lines.Choice.{agrees-first_of}
use Rattle.sql_lexer.proofs.lines.Closed.{agrees-block_comment, agrees-dollar_quote, agrees-prefixed, agrees-quoted_identifier, agrees-string}
use Rattle.sql_lexer.proofs.lines.Commands.{same-psql_command}
use Rattle.sql_lexer.proofs.lines.Numbers.{same-binary, same-decimal, same-hexadecimal, same-octal, same-parameter, same-point_number}
use Rattle.sql_lexer.proofs.lines.Runs.{agrees-dot_dot, agrees-identifier, agrees-line_comment, agrees-whitespace}

agrees-numbers : (text rest : List ℕ) → EndsLine text → Agrees (first_of numbers) text rest
agrees-numbers text rest ends =
    agrees-first_of numbers text rest (
      inl (same-binary text rest ends),
      (inl (same-octal text rest ends), (inl (same-hexadecimal text rest ends), (inl (same-decimal text rest ends), tt))),
    )

pub agrees-rules : (text rest : List ℕ) → EndsLine text → Agrees (first_of rules) text rest
agrees-rules text rest ends =
    agrees-first_of rules text rest (
      agrees-whitespace text rest ends,
      (
        agrees-line_comment text rest ends,
        (
          agrees-block_comment text rest ends,
          (
            inl (same-psql_command text rest ends),
            (
              agrees-string text rest ends,
              (
                agrees-quoted_identifier text rest ends,
                (
                  agrees-prefixed text rest ends,
                  (
                    agrees-identifier text rest ends,
                    (
                      inl (same-parameter text rest ends),
                      (
                        agrees-dollar_quote text rest ends,
                        (
                          agrees-numbers text rest ends,
                          (
                            inl (same-point_number text rest ends),
                            (agrees-dot_dot text rest ends, tt),
                          ),
                        ),
                      ),
                    ),
                  ),
                ),
              ),
            ),
          ),
        ),
      ),
    )

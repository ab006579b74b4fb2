-- White space, identifiers, line comments and two points agree: no newline is in a run, unless it is white space.
use Rattle.std.proofs.Common.{◌∙◌, ℕ, ◌+◌, ◌==◌, not, List, ◌++◌, inl, inr, length, ap, refl}
use Rattle.std.specs.Prelude.{codes}
use Rattle.std.specs.List.{prefix_len, position_or_len}
use Rattle.std.proofs.lemmas.Bool.{cases_eq, cond-false, ne_eqb}
use Rattle.std.proofs.lemmas.List.Folds.{prefix_len-append}
use Rattle.squawk_tokens.specs.declared.token.TokenKind.TheVariants.{Whitespace, LineComment, Ident, DotDot}
use Rattle.sql_lexer.specs.Lines.{EndsLine}
use Rattle.sql_lexer.specs.Bytes.{is_space, is_line_end, is_name_part, is_name_start}
use Rattle.sql_lexer.specs.Rules.{token, first, begins}
use Rattle.sql_lexer.specs.Signs.{whitespace, dot_dot}
use Rattle.sql_lexer.specs.Identifiers.{identifier}
use Rattle.sql_lexer.specs.Comments.{line_comment}
use Rattle.sql_lexer.proofs.lines.Agrees.{Agrees}
use Rattle.sql_lexer.proofs.lines.Choice.{when_agrees}
use Rattle.sql_lexer.proofs.lines.LineParts.{run_inside, same_begins, same_first}

pub agrees-whitespace : (text rest : List ℕ) → EndsLine text → Agrees whitespace text rest
agrees-whitespace text rest ends =
    let n = prefix_len is_space text in
    when_agrees text (is_space (first (text ++ rest))) (is_space (first text)) (token Whitespace (prefix_len is_space (text ++ rest))) (token Whitespace n)
    (ap is_space (same_first text rest ends))
    (λ e. elim (cases_eq n (length text)) [
      | inl all ↦ inr all
      | inr less ↦ inl (ap (token Whitespace) (prefix_len-append is_space text rest
          ∙ cond-false (n == length text) (length text + prefix_len is_space rest) n (ne_eqb n (length text) less)))
    ])

pub agrees-identifier : (text rest : List ℕ) → EndsLine text → Agrees identifier text rest
agrees-identifier text rest ends =
    when_agrees text (is_name_start (first (text ++ rest))) (is_name_start (first text))
    (token Ident (prefix_len is_name_part (text ++ rest))) (token Ident (prefix_len is_name_part text))
    (ap is_name_start (same_first text rest ends)) (λ e. inl (ap (token Ident) (run_inside is_name_part text rest refl ends).same))

pub agrees-line_comment : (text rest : List ℕ) → EndsLine text → Agrees line_comment text rest
agrees-line_comment text rest ends =
    when_agrees text (begins (text ++ rest) (codes "--")) (begins text (codes "--"))
    (token LineComment (position_or_len is_line_end (text ++ rest))) (token LineComment (position_or_len is_line_end text))
    (same_begins (codes "--") text rest refl ends) (λ e. inl (ap (token LineComment) (run_inside (λ b. not (is_line_end b)) text rest refl ends).same))

pub agrees-dot_dot : (text rest : List ℕ) → EndsLine text → Agrees dot_dot text rest
agrees-dot_dot text rest ends =
    when_agrees text (begins (text ++ rest) (codes "..")) (begins text (codes "..")) (token DotDot 2) (token DotDot 2)
    (same_begins (codes "..") text rest refl ends) (λ e. inl refl)

use Rattle.std.proofs.Common.{◌≡◌, ◌∙◌, ℕ, Bool, ap, arith, sym}
use Rattle.squawk_table.specs.ParserInput.{kinds_in}
use Rattle.squawk_parser.specs.State.{State, ahead, kind_at}
use Rattle.sql_lexer.specs.Statements.{ends_with}
use Rattle.sql_lexer.specs.declared.statements.Statement.TheVariants.{Plain}
use Rattle.sql_grammar.specs.Statements.{nth}
use Rattle.sql_grammar.specs.Words.{word_of}
use Rattle.sql_grammar.proofs.Lengths.{content_else, content_none, content_then}
use Rattle.sql_grammar.proofs.Looks.{kind_nth}
use Rattle.sql_grammar.proofs.cut.content_len.Goals as goal
use Rattle.sql_grammar.proofs.cut.content_len.Goals.{else-len-gt0-via-else-len-gt0, else-len-gt0-via-then-len-gt0+else-ends_plain}

-- the last token, as it was looked at
last_is : (s : State) (n : ℕ) (kind : ℕ) (ends b : Bool) → kind ≡ kind_at s n → ends ≡ ends_with Plain (word_of kind) → ends ≡ b
    → ends_with Plain (word_of (nth (kinds_in (ahead s 0)) n)) ≡ b
last_is s n kind ends b there told is = ap (λ k. ends_with Plain (word_of k)) (sym (there ∙ kind_nth s n)) ∙ (sym told ∙ is)

pub returns-then-ends_plain : goal.returns-then-ends_plain
returns-then-ends_plain c =
    content_then (kinds_in (ahead c.args.p.now 0)) c.args.len c.if-len-gt0.true (last_is c.args.p.now _ _ _ _ c.nth.ensures c.ends_plain.ensures c.if-ends_plain.true)

pub returns-else-len-gt0 : goal.returns-else-len-gt0
returns-else-len-gt0 c =
    let kinds = kinds_in (ahead c.args.p.now 0) in
    elim c.else-len-gt0.branch [
      | else-len-gt0-via-then-len-gt0+else-ends_plain w ↦ content_else kinds c.args.len (last_is c.args.p.now _ _ _ _ w.nth.ensures w.ends_plain.ensures w.if-ends_plain.false)
      | else-len-gt0-via-else-len-gt0 w ↦ content_none kinds c.args.len (omega (arith, w.if-len-gt0.false))
    ]

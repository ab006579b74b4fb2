-- White space, identifiers, line comments, commands and signs fit.
use Rattle.std.proofs.Common.{◌≡◌, ◌∙◌, ℕ, ◌<◌, ◌==◌, not, true, false, Bool, List, [], ◌∷◌, length, take, arith, refl, sym}
use Rattle.std.specs.Prelude.{IsUtf8, codes}
use Rattle.std.specs.List.{prefix_len, position_or_len, list_all}
use Rattle.std.proofs.lemmas.Bool.{cond_both, eqb-true, and_parts, false≢true}
use Rattle.std.proofs.lemmas.Bool.Decides.{nat_tests}
use Rattle.squawk_tokens.specs.declared.token.TokenKind.{TokenKind}
use Rattle.squawk_tokens.specs.declared.token.TokenKind.TheVariants.{Whitespace, LineComment, Ident, Literal, PositionalParam, DotDot, Eof}
use Rattle.squawk_tokens.specs.TokenRules.{MeetsKind}
use Rattle.sql_lexer.specs.Bytes.{is_space, is_line_end, is_name_part, is_name_start}
use Rattle.sql_lexer.specs.Rules.{token, first, begins}
use Rattle.sql_lexer.specs.Signs.{whitespace, dot_dot, sign, signs, kind_in}
use Rattle.sql_lexer.specs.Identifiers.{identifier}
use Rattle.sql_lexer.specs.Comments.{line_comment}
use Rattle.sql_lexer.proofs.Boundaries.{IsLead, before_lead, after_ascii, after_front, run_bytes}
use Rattle.sql_lexer.proofs.FoundEnds.{front_ends}
use Rattle.sql_lexer.proofs.Fits.{Fits, RuleFits, when_fits}

-- a run takes its first byte
pub run_takes : (passes : ℕ → Bool) (text : List ℕ) → 0 < length text → passes (first text) ≡ true → 0 < prefix_len passes text
run_takes passes [] some e = absurd (omega arith)
run_takes passes (b ∷ rest) some e = rw e (omega arith)

-- a text whose first byte passes a test that 0 doesn't pass isn't empty
pub is_there : (passes : ℕ → Bool) (text : List ℕ) → passes 0 ≡ false → passes (first text) ≡ true → 0 < length text
is_there passes [] none e = absurd (false≢true (sym none ∙ e))
is_there passes (b ∷ rest) none e = omega arith

-- ---- white space and identifiers

spaces_are_ascii : (b : ℕ) → is_space b ≡ true → b < 128
spaces_are_ascii b e = grind (arith, nat_tests)

pub whitespace_fits : (text : List ℕ) → IsUtf8 text → RuleFits text (whitespace text)
whitespace_fits text utf8 =
    let n = prefix_len is_space text in
    when_fits text (is_space (first text)) (token Whitespace n) (λ e. record {
      nonempty = run_takes is_space text (is_there is_space text refl e) e;
      boundary = after_front text n n utf8 (run_bytes is_space text spaces_are_ascii) (omega arith);
      kind = tt;
    })

name_ends_lead : (b : ℕ) → is_name_part b ≡ false → IsLead b
name_ends_lead b e = λ high. grind (arith, nat_tests)

begins_a_name : (b : ℕ) → is_name_start b ≡ true → is_name_part b ≡ true
begins_a_name b e = grind (arith, nat_tests)

pub name_fits : (text : List ℕ) → is_name_start (first text) ≡ true → Fits text (token Ident (prefix_len is_name_part text))
name_fits text e = record {
  nonempty = run_takes is_name_part text (is_there is_name_start text refl e) (begins_a_name (first text) e);
  boundary = before_lead is_name_part text name_ends_lead;
  kind = tt;
}

pub identifier_fits : (text : List ℕ) → RuleFits text (identifier text)
identifier_fits text = when_fits text (is_name_start (first text)) (token Ident (prefix_len is_name_part text)) (name_fits text)

-- ---- up to the end of the line

pub line_ends_lead : (b : ℕ) → not (is_line_end b) ≡ false → IsLead b
line_ends_lead b e = λ high. grind (arith, nat_tests)

line_fits : (kind : TokenKind) (text : List ℕ) → ((front : List ℕ) → MeetsKind front kind) → 0 < length text → not (is_line_end (first text)) ≡ true
    → Fits text (token kind (position_or_len is_line_end text))
line_fits kind text meets some e =
    let others = λ (b : ℕ). not (is_line_end b) in
    record {
      nonempty = run_takes others text some e;
      boundary = before_lead others text line_ends_lead;
      kind = meets (take (position_or_len is_line_end text) text);
    }

dashes_fit : (text : List ℕ) → begins text (codes "--") ≡ true → Fits text (token LineComment (position_or_len is_line_end text))
dashes_fit [] e = absurd (false≢true e)
dashes_fit (b ∷ rest) e =
    let dash : 45 ≡ b = eqb-true 45 b (and_parts (45 == b) (begins rest (codes "-")) e).0 in
    line_fits LineComment (b ∷ rest) (λ front. tt) (omega arith) (rw (sym dash) refl)

pub line_comment_fits : (text : List ℕ) → RuleFits text (line_comment text)
line_comment_fits text =
    when_fits text (begins text (codes "--")) (token LineComment (position_or_len is_line_end text))
    (dashes_fit text)

-- ---- signs

pub dot_dot_fits : (text : List ℕ) → IsUtf8 text → RuleFits text (dot_dot text)
dot_dot_fits text utf8 =
    when_fits text (begins text (codes "..")) (token DotDot 2) (λ e.
    let front = front_ends 46 text (codes "..") e (record { some = omega arith; within = omega arith; last = refl }) in
    record { nonempty = omega arith; boundary = after_ascii text 2 utf8 (omega arith) front.within (omega (arith, front.last)); kind = tt })

-- a kind that asks nothing of its text
is_plain : TokenKind → Bool
is_plain (PositionalParam junk) = false
is_plain (Literal kind) = false
is_plain Eof = false
is_plain kind = true

plain_meets : (front : List ℕ) (kind : TokenKind) → is_plain kind ≡ true → MeetsKind front kind
unfolding is_plain
plain_meets front (PositionalParam junk) e = absurd (false≢true e)
plain_meets front (Literal kind) e = absurd (false≢true e)
plain_meets front Eof e = absurd (false≢true e)
plain_meets front kind e = tt

plain_in : (rows : List (ℕ × TokenKind)) (b : ℕ) → list_all (λ row. is_plain row.1) rows ≡ true → is_plain (kind_in rows b) ≡ true
unfolding is_plain
plain_in [] b e = refl
plain_in (row ∷ rows) b e =
    let parts = and_parts (is_plain row.1) (list_all (λ row. is_plain row.1) rows) e in
    cond_both (b == row.0) row.1 (kind_in rows b) (λ kind. is_plain kind ≡ true) (λ f. parts.0) (λ f. plain_in rows b parts.1)

signs_are_plain : list_all (λ row. is_plain row.1) signs ≡ true
unfolding is_plain
signs_are_plain = refl

-- of an ASCII byte, which is a character
pub sign_fits : (text : List ℕ) → IsUtf8 text → 0 < length text → first text < 128 → Fits text (sign (first text))
sign_fits [] utf8 some ascii = absurd (omega arith)
sign_fits (b ∷ rest) utf8 some ascii = record {
  nonempty = omega arith;
  boundary = after_ascii (b ∷ rest) 1 utf8 (omega arith) (omega arith) ascii;
  kind = plain_meets (b ∷ []) (kind_in signs b) (plain_in signs b signs_are_plain);
}

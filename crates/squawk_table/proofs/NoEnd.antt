-- No raw token of a table is the end, and no token of its input.
use Rattle.std.proofs.Common.{◌≢◌, ℕ, zero, suc, ◌+◌, ◌≤◌, Bool, true, false, Option, Some, None, List, [], ◌∷◌, length, if◌then◌else◌, arith}
use Rattle.std.specs.Prelude.{All, IfSome, slice_range, unwrap_or}
use Rattle.std.proofs.lemmas.List.Elements.{All-nil, All-cons, All-get_or, All-head, All-tail}
use Rattle.squawk_kinds.specs.Keywords.{Keywords}
use Rattle.squawk_kinds.specs.Kinds.{EOF, IDENT, IsKeyword, is_trivia}
use Rattle.squawk_tokens.specs.AcceptedTokens.{AreAcceptedTokens}
use Rattle.squawk_tokens.specs.TokenRules.{MeetsKind}
use Rattle.squawk_tokens.specs.declared.token.Token.{Token as RawText}
use Rattle.squawk_tokens.specs.declared.token.TokenKind.{TokenKind}
use Rattle.squawk_tokens.specs.declared.token.TokenKind.TheVariants.{Ident, PsqlCommand, Literal, Eof}
use Rattle.squawk_tokens.specs.declared.token.LiteralKind.{LiteralKind}
use Rattle.squawk_tokens.specs.declared.token.LiteralKind.TheVariants.{Int}
use Rattle.squawk_table.specs.ParserInput.{HasNoEndToken, entries_of, entry_for, input_of}
use Rattle.squawk_table.specs.RawTable.{RawToken, Table, kinds_from, raw_from, raw_tokens}
use Rattle.squawk_table.specs.TokenKinds.{kind_of, literal_kind_of}

-- ---- a table of accepted raw tokens has no end among its kinds

abbrev pub AreKeywords : Keywords → Type 0
AreKeywords keyword = (text : List ℕ) → IfSome (keyword text) IsKeyword

literal-some : (kind : LiteralKind) → literal_kind_of kind ≢ EOF
literal-some (Int empty base junk) e = omega arith
literal-some kind e = omega arith

pub kind-some : (keyword : Keywords) (kind : TokenKind) (text part : List ℕ) → AreKeywords keyword → MeetsKind part kind → kind_of keyword kind text ≢ EOF
kind-some keyword Ident text part law meets = cases (keyword text) (law text)
  where
    cases : (o : Option ℕ) → IfSome o IsKeyword → unwrap_or o IDENT ≢ EOF
    cases None is e = omega arith
    cases (Some kind) is e = is.not_end e
kind-some keyword (PsqlCommand true) text part law meets = λ e. omega arith
kind-some keyword (PsqlCommand false) text part law meets = λ e. omega arith
kind-some keyword (Literal kind) text part law meets = literal-some kind
kind-some keyword Eof text part law meets = absurd meets
kind-some keyword kind text part law meets = λ e. omega arith

-- what a good token's kind says of some text
abbrev IsSomeKind : RawText → Type 0
IsSomeKind token = (text : List ℕ) × MeetsKind text token.kind

kinds-some : (keyword : Keywords) (text : List ℕ) (start : ℕ) (tokens : List RawText) → AreKeywords keyword → All IsSomeKind tokens → All (λ kind. kind ≢ EOF) (kinds_from keyword text start tokens)
kinds-some keyword text start [] law good = All-nil (λ kind. kind ≢ EOF)
kinds-some keyword text start (t ∷ tokens) law good =
    let first = All-head IsSomeKind t tokens good in
    All-cons (λ kind. kind ≢ EOF) _ (kinds_from keyword text (start + t.len) tokens) (kind-some keyword t.kind (slice_range text start (start + t.len)) first.0 law first.1)
    (kinds-some keyword text (start + t.len) tokens law (All-tail IsSomeKind t tokens good))

-- so has an accepted list of raw tokens
pub table-no_end : (keyword : Keywords) (text : List ℕ) (tokens : List RawText) → AreKeywords keyword → AreAcceptedTokens text tokens → All (λ kind. kind ≢ EOF) (kinds_from keyword text 0 tokens)
table-no_end keyword text tokens law accepted =
    let good : All IsSomeKind tokens = λ k d lt. let token = accepted.good k lt d in (_, token.kind) in
    kinds-some keyword text 0 tokens law good

raw-no_end : (table : Table) (i n : ℕ) → i + n ≤ length table.kinds → All (λ kind. kind ≢ EOF) table.kinds → All (λ raw. raw.kind ≢ EOF) (raw_from table i n)
raw-no_end table i zero within some = All-nil (λ raw. raw.kind ≢ EOF)
raw-no_end table i (suc n) within some =
    All-cons (λ raw. raw.kind ≢ EOF) _ (raw_from table (i + 1) n) (All-get_or (λ kind. kind ≢ EOF) table.kinds i 0 (omega arith) some) (raw-no_end table (i + 1) n (omega arith) some)

entries-no_end : (k : Keywords) (raw : List RawToken) → All (λ r. r.kind ≢ EOF) raw → HasNoEndToken (entries_of k raw)
entries-no_end k [] some = All-nil (λ e. e.kind ≢ EOF)
entries-no_end k (r ∷ raw) some =
    cases (is_trivia r.kind) (All-head (λ r. r.kind ≢ EOF) r raw some) (entries-no_end k raw (All-tail (λ r. r.kind ≢ EOF) r raw some))
  where
    cases : (b : Bool) → r.kind ≢ EOF → HasNoEndToken (entries_of k raw) → HasNoEndToken (if b then entries_of k raw else entry_for k r raw ∷ entries_of k raw)
    cases true first rest = rest
    cases false first rest = All-cons (λ e. e.kind ≢ EOF) (entry_for k r raw) (entries_of k raw) first rest

-- nor has its input
pub input-no_end : (k : Keywords) (table : Table) → All (λ kind. kind ≢ EOF) table.kinds → HasNoEndToken (input_of k table)
input-no_end k table some = entries-no_end k (raw_tokens table) (raw-no_end table 0 (length table.kinds) (omega arith) some)

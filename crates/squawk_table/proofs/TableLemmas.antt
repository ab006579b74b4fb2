-- The table of an accepted list.
use Rattle.std.proofs.Common.{◌≡◌, ◌≢◌, ℕ, zero, suc, ◌+◌, ◌<◌, ◌≤◌, List, [], ◌∷◌, ◌++◌, length, take, drop, slice_index, get_or, arith, add-one, add-zero, zero-add, ap, sym, refl, ◌∙◌, ◌⊎◌, inl, inr}
use Rattle.std.specs.Prelude.{All, IsUtf8, IsCharBoundary}
use Rattle.std.proofs.lemmas.Str.{IsCharBoundary-start}
use Rattle.std.proofs.lemmas.List.Sums.{sum_by_more, sum_by-cons}
use Rattle.std.proofs.lemmas.List.{drop_all, append-nil}
use Rattle.squawk_tokens.specs.declared.token.Token.{Token}
use Rattle.squawk_tokens.specs.declared.token.TokenKind.TheVariants.{Ident}
use Rattle.squawk_tokens.specs.AcceptedTokens.{start_of, AreAcceptedTokens}
use Rattle.squawk_tokens.specs.ErrorRanges.{LiesIn, StandApart}
use Rattle.squawk_tokens.specs.LexicalErrors.{LexicalError, lexical_errors}
use Rattle.squawk_table.specs.RawTable.{IsTable, Table, table_of, kinds_from, starts_from}
use Rattle.squawk_kinds.specs.Keywords.{Keywords}
use Rattle.squawk_kinds.specs.Kinds.{EOF}
use Rattle.squawk_table.proofs.NoEnd.{AreKeywords, table-no_end}

abbrev none : Token
none = record { kind = Ident; len = 0 }

pub length-kinds_from : (keyword : Keywords) (text : List ℕ) (at : ℕ) (tokens : List Token) → length (kinds_from keyword text at tokens) ≡ length tokens
length-kinds_from keyword text at [] = refl
length-kinds_from keyword text at (t ∷ ts) = ap suc (length-kinds_from keyword text (at + t.len) ts)

pub length-starts_from : (at : ℕ) (tokens : List Token) → length (starts_from at tokens) ≡ suc (length tokens)
length-starts_from at [] = refl
length-starts_from at (t ∷ ts) = ap suc (length-starts_from (at + t.len) ts)

-- where token i starts, counted from the first one's start
pub starts_from_at : (at : ℕ) (tokens : List Token) (i : ℕ) → i ≤ length tokens → slice_index (starts_from at tokens) i ≡ at + start_of tokens i
starts_from_at at [] zero le = sym (add-zero at)
starts_from_at at [] (suc i) le = absurd (omega arith)
starts_from_at at (t ∷ ts) zero le = sym (add-zero at)
starts_from_at at (t ∷ ts) (suc i) le =
    omega (arith, starts_from_at (at + t.len) ts i (omega arith), sum_by-cons (λ (t : Token). t.len) t (take i ts))

module _ (keyword : Keywords) (text : List ℕ) (tokens : List Token) (ok : AreAcceptedTokens text tokens) where
  start_more : (i : ℕ) → i < length tokens → (start_of tokens i < start_of tokens (i + 1)) × IsCharBoundary text (start_of tokens (i + 1))
  start_more i lt =
      let more = sum_by_more (λ t. t.len) tokens i none lt in
      let good = ok.good i lt none in
      rw more (omega (arith, good.nonempty), good.boundary)

  -- a token starts at a character boundary
  pub boundary : IsUtf8 text → (i : ℕ) → i ≤ length tokens → IsCharBoundary text (start_of tokens i)
  boundary utf8 zero le = IsCharBoundary-start text utf8
  boundary utf8 (suc i) le = rw add-one at (start_more i (omega arith)).1

  ascends : (i j : ℕ) → i < j → j ≤ length tokens → start_of tokens i < start_of tokens j
  ascends i zero lt le = absurd (omega arith)
  ascends i (suc j) lt le =
      let step = rw add-one at (start_more j (omega arith)).0 in
      let last : (i ≡ j) ⊎ (i < j) = grind arith in
      elim last [ inl e ↦ rw e step | inr l ↦ omega (arith, ascends i j l (omega arith), step) ]

  at : (i : ℕ) → i ≤ length tokens → slice_index (starts_from 0 tokens) i ≡ start_of tokens i
  at i le = starts_from_at 0 tokens i le ∙ zero-add (start_of tokens i)

  -- an error that lies in a token lies in the table's
  in_table : (error : LexicalError) → ((i : ℕ) × LiesIn (start_of tokens) (length tokens) error i)
      → (i : ℕ) × LiesIn (slice_index (starts_from 0 tokens)) (length (kinds_from keyword text 0 tokens)) error i
  in_table error (i, lies) =
      let kinds = length-kinds_from keyword text 0 tokens in
      let within = lies.within in (
        i,
        record {
          within = omega arith;
          begins = rw (at i (omega arith)) lies.begins;
          nonempty = lies.nonempty;
          ends = rw (at (i + 1) (omega arith)) lies.ends;
        },
      )

  pub IsTable-of_kinds : All (λ kind. kind ≢ EOF) (kinds_from keyword text 0 tokens) → IsUtf8 text → StandApart (start_of tokens) (length tokens) (lexical_errors text tokens) → IsTable (table_of keyword text tokens)
  IsTable-of_kinds no_end utf8 apart =
      let kinds = length-kinds_from keyword text 0 tokens in
      let starts = length-starts_from 0 tokens in
      record {
        utf8 = utf8;
        no_end = no_end;
        entries = omega arith;
        begins = at 0 (omega arith);
        ends = rw kinds (at (length tokens) (omega arith) ∙ ok.whole);
        boundaries = λ i lt. rw (at i (omega arith)) (boundary utf8 i (omega arith));
        ascends = λ i j l lt. rw (at i (omega arith), at j (omega arith)) (ascends i j l (omega arith));
        errors = record { each = λ k d lt. in_table (get_or (lexical_errors text tokens) k d) (apart.each k d lt); ascend = apart.ascend };
      }

  pub IsTable-table_of : AreKeywords keyword → IsUtf8 text → StandApart (start_of tokens) (length tokens) (lexical_errors text tokens) → IsTable (table_of keyword text tokens)
  IsTable-table_of law utf8 apart = IsTable-of_kinds (table-no_end keyword text tokens law ok) utf8 apart

-- what was made token by token is the table
pub is_table_of : (keyword : Keywords) (text : List ℕ) (tokens : List Token) (kinds before starts : List ℕ) (errors : List LexicalError) (at n : ℕ) → length tokens ≤ n
    → kinds ++ kinds_from keyword text at (drop n tokens) ≡ kinds_from keyword text 0 tokens
    → before ++ starts_from at (drop n tokens) ≡ starts_from 0 tokens → starts ≡ before ++ at ∷ [] → errors ≡ lexical_errors text tokens
    → table_of keyword text tokens ≡ record { text = text; kinds = kinds; starts = starts; errors = errors }
is_table_of keyword text tokens kinds before starts errors at n past k s made found =
    let none_left : drop n tokens ≡ [] = drop_all n tokens past in
    let same_kinds : kinds_from keyword text 0 tokens ≡ kinds = sym k ∙ (ap (λ ts. kinds ++ kinds_from keyword text at ts) none_left ∙ append-nil kinds) in
    let same_starts : starts_from 0 tokens ≡ starts = sym s ∙ (ap (λ ts. before ++ starts_from at ts) none_left ∙ sym made) in
    ap (λ k. let t : Table = record { text = text; kinds = k; starts = starts_from 0 tokens; errors = lexical_errors text tokens } in t) same_kinds
    ∙ (ap (λ s. let t : Table = record { text = text; kinds = kinds; starts = s; errors = lexical_errors text tokens } in t) same_starts
    ∙ ap (λ e. let t : Table = record { text = text; kinds = kinds; starts = starts; errors = e } in t) (sym found))

-- A table that grows by one raw token, and the one that is made in the end.
use Rattle.std.proofs.Common.{◌≡◌, ◌≢◌, ◌∙◌, ℕ, ◌+◌, List, [], ◌∷◌, ◌++◌, length, arith, ap, subst, sym}
use Rattle.std.specs.Prelude.{All, slice_index, slice_range}
use Rattle.std.proofs.lemmas.List.Elements.{All-push}
use Rattle.squawk_kinds.specs.Keywords.{Keywords}
use Rattle.squawk_kinds.specs.Kinds.{EOF}
use Rattle.squawk_tokens.specs.AcceptedTokens.{IsGoodToken, start_of}
use Rattle.squawk_tokens.specs.Conversion.{Conversion, HasRead}
use Rattle.squawk_tokens.specs.ErrorRanges.{StandApart}
use Rattle.squawk_tokens.specs.LexicalErrors.{LexicalError, lexical_errors}
use Rattle.squawk_tokens.specs.declared.token.Token.{Token}
use Rattle.squawk_table.specs.RawTable.{IsTable, Table, kinds_from, starts_from, table_of}
use Rattle.squawk_table.specs.TableBuilding.{Building, CanGrow, HasAdded, HasAll}
use Rattle.squawk_table.specs.TokenKinds.{kind_of}
use Rattle.squawk_table.proofs.NoEnd.{AreKeywords, kind-some}
use Rattle.squawk_table.proofs.TableLemmas.{IsTable-of_kinds, starts_from_at}

-- where the last of some tokens ends
abbrev end_of : ℕ → List Token → ℕ
end_of at tokens = slice_index (starts_from at tokens) (length tokens)

module _ (keyword : Keywords) (t : Token) where
  -- the kind of a token that starts here
  abbrev kind_at : List ℕ → ℕ → ℕ
  kind_at text here = kind_of keyword t.kind (slice_range text here (here + t.len))

  kinds_from-push : (text : List ℕ) (at here : ℕ) (ts : List Token) → end_of at ts ≡ here → kinds_from keyword text at (ts ++ t ∷ []) ≡ kinds_from keyword text at ts ++ kind_at text here ∷ []
  kinds_from-push text at here [] ends = ap (λ n. kind_at text n ∷ []) ends
  kinds_from-push text at here (x ∷ xs) ends = ap (λ ks. kind_of keyword x.kind (slice_range text at (at + x.len)) ∷ ks) (kinds_from-push text (at + x.len) here xs ends)

  starts_from-push : (at here : ℕ) (ts : List Token) → end_of at ts ≡ here → starts_from at (ts ++ t ∷ []) ≡ starts_from at ts ++ (here + t.len) ∷ []
  starts_from-push at here [] ends = ap (λ n. at ∷ (n + t.len) ∷ []) ends
  starts_from-push at here (x ∷ xs) ends = ap (λ ns. at ∷ ns) (starts_from-push (at + x.len) here xs ends)

  end_of-push : (at here : ℕ) (ts : List Token) → end_of at ts ≡ here → end_of at (ts ++ t ∷ []) ≡ here + t.len
  end_of-push at here [] ends = ap (λ n. n + t.len) ends
  end_of-push at here (x ∷ xs) ends = end_of-push (at + x.len) here xs ends

  pub CanGrow-push : (text kinds : List ℕ) (at : ℕ) → AreKeywords keyword → IsGoodToken text at t → CanGrow text kinds at → CanGrow text (kinds ++ kind_at text at ∷ []) (at + t.len)
  CanGrow-push text kinds at law good grows = record {
    utf8 = grows.utf8;
    no_end = All-push (λ kind. kind ≢ EOF) kinds (kind_at text at) grows.no_end (kind-some keyword t.kind (slice_range text at (at + t.len)) _ law good.kind);
    boundary = good.boundary;
  }

  -- a builder with one token more
  abbrev with_token : Building → Conversion → Building
  with_token b read = record { text = b.text; kinds = b.kinds ++ kind_at b.text b.at ∷ []; starts = b.starts ++ b.at ∷ []; at = b.at + t.len; read = read }

  pub HasAdded-push : (tokens : List Token) (b : Building) (read : Conversion) → HasRead (tokens ++ t ∷ []) read → read.text ≡ b.read.text
      → HasAdded keyword tokens b → HasAdded keyword (tokens ++ t ∷ []) (with_token b read)
  HasAdded-push tokens b read has same added =
      let end : end_of 0 tokens ≡ b.at = omega (arith, starts_from_at 0 tokens (length tokens) (omega arith), added.at) in
      let more = tokens ++ t ∷ [] in
      record {
        at = omega (arith, starts_from_at 0 more (length more) (omega arith), end_of-push 0 b.at tokens end);
        kinds = ap (λ ks. ks ++ kind_at b.text b.at ∷ []) added.kinds ∙ sym (kinds_from-push b.text 0 b.at tokens end);
        starts = ap (λ ns. ns ++ (b.at + t.len) ∷ []) added.starts ∙ sym (starts_from-push 0 b.at tokens end);
        read = has;
        text = same ∙ added.text;
      }

-- the table that a builder with all tokens becomes
module _ (keyword : Keywords) (tokens : List Token) (b : Building) (errors : List LexicalError) (all : HasAll keyword tokens b) (told : errors ≡ b.read.errors) where
  abbrev made : Table
  made = record { text = b.text; kinds = b.kinds; starts = b.starts ++ b.at ∷ []; errors = errors }

  found : errors ≡ lexical_errors b.text tokens
  found = told ∙ (all.added.read.errors ∙ ap (λ text. lexical_errors text tokens) all.added.text)

  made_is : made ≡ table_of keyword b.text tokens
  made_is =
      let kinds = all.added.kinds in
      let starts = all.added.starts in
      let errors = found in
      cc

  pub IsTable-made : CanGrow b.text b.kinds b.at → StandApart (start_of tokens) (length tokens) errors → IsTable made
  IsTable-made grows apart =
      subst IsTable (sym made_is)
      (IsTable-of_kinds keyword b.text tokens all.accepted (subst (All (λ kind. kind ≢ EOF)) all.added.kinds grows.no_end) grows.utf8 (subst (StandApart (start_of tokens) (length tokens)) found apart))

-- The rule of a file.
use Rattle.std.specs.Prelude.{◌≡◌, ℕ, ◌+◌, ◌≤◌, None, length}
use Rattle.std.proofs.Common.{arith, ap, sym, subst, ◌∙◌}
use Rattle.squawk_kinds.specs.Kinds.{EOF}
use Rattle.squawk_output.specs.Draft.{Mark, errors_of}
use Rattle.squawk_parser.specs.Recorded.{Begins, Completes}
use Rattle.squawk_parser.specs.SomeSteps.{AddsSome}
use Rattle.squawk_parser.specs.State.{State, HasNotFailed, IsFresh, kind_at}
use Rattle.squawk_parser.specs.Words.{Words}
use Rattle.squawk_parser.proofs.RecordedSteps.{went}
use Rattle.squawk_parser.proofs.SomeSteps.{whole_some}
use Rattle.squawk_parser.proofs.WholeSteps.{at_end}
use Rattle.rule_grammar.specs.declared.table.Table.{Table}
use Rattle.rule_grammar.specs.Derivations.{Text, text_of, Derives, IsFile, weight}
use Rattle.rule_grammar.specs.Derivations.Span.{block}
use Rattle.rule_grammar.proofs.Derived.{same_text}
use Rattle.rule_grammar.proofs.Counted.{counts_some, counts_completed}

-- some steps were added, and where none is an error, the rule derives the tokens
pub record Content (table : Table) (start end : ℕ) (begun now : State) : Type 0 where
  pub some : AddsSome begun now
  pub derived : HasNotFailed now → errors_of now.draft.items ≡ errors_of begun.draft.items → Derives (text_of table begun) (block start end) begun.position now.position

grows : {a b : State} → AddsSome a b → HasNotFailed b → errors_of a.draft.items ≤ errors_of b.draft.items
grows {a} {b} some goes =
    let more : errors_of a.draft.items + weight None ≤ errors_of b.draft.items + weight None = (counts_some {t = None} some).errors goes in
    omega arith

pub file-all : (table : Table) {words : Words} {start end : ℕ} {a b c d : State} {m : Mark} {kind : ℕ} → IsFresh a → a.words ≡ words
    → Begins m a b → Content table start end b c → Completes m.id kind c d → kind_at c 0 ≡ EOF → HasNotFailed d → IsFile table.rows.now table.sets.now table.hidden.tokens.now words start end a.input d.draft
file-all table {words} {start} {end} {a} {b} {c} {d} {m} {kind} fresh words_are begins file completes at goes = record {
  whole = whole_some fresh begins file.some completes at goes;
  derived = λ none.
      let goes_c = went completes.keeps goes in
      let last : errors_of c.draft.items + weight None ≤ errors_of d.draft.items + weight None = (counts_completed {t = None} completes).errors goes in
      let first = grows file.some goes_c in
      let keeps = file.some.some.keeps in
      let sound = keeps.sound in
      let limit : a.limit ≡ length a.input = ap (λ s. s.limit) fresh in
      let input : c.input ≡ a.input = keeps.input ∙ begins.keeps.input in
      let limit_c : c.limit ≡ length c.input = keeps.limit ∙ (begins.keeps.limit ∙ (limit ∙ ap length (sym input))) in
      let start_at : b.position ≡ 0 = begins.position ∙ ap (λ s. s.position) fresh in
      let lengths = ap length input in
      let most = at_end c sound.no_end limit_c at in
      let end_at : c.position ≡ length a.input = omega (arith, most, lengths, limit_c, sound.position) in
      let derived = file.derived goes_c (omega arith) in
      let from : Derives (text_of table b) (block start end) 0 c.position = subst (λ (i : ℕ). Derives (text_of table b) (block start end) i c.position) start_at derived in
      let to : Derives (text_of table b) (block start end) 0 (length a.input) = subst (λ (i : ℕ). Derives (text_of table b) (block start end) 0 i) end_at from in
      let of_a : Derives (text_of table a) (block start end) 0 (length a.input) = subst (λ (x : Text). Derives x (block start end) 0 (length a.input)) (same_text table begins.keeps) to in
      let with_words : Derives (record { rows = table.rows.now; sets = table.sets.now; hidden = table.hidden.tokens.now; words = words; input = a.input; limit = a.limit }) (block start end) 0 (length a.input) =
      subst (λ (w : Words). Derives (record { rows = table.rows.now; sets = table.sets.now; hidden = table.hidden.tokens.now; words = w; input = a.input; limit = a.limit }) (block start end) 0 (length a.input)) words_are of_a in
      subst (λ (n : ℕ). Derives (record { rows = table.rows.now; sets = table.sets.now; hidden = table.hidden.tokens.now; words = words; input = a.input; limit = n }) (block start end) 0 (length a.input)) limit with_words;
}

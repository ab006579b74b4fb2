-- Tables of words that stand ready.
use Rattle.std.specs.Prelude.{◌≡◌, ℕ, All, List, map, true}
use Rattle.squawk_kinds.specs.TokenSets.{has}
use Rattle.squawk_keywords.specs.KeywordPairs.{AreKeywords, has_kind, pairs_of}
use Rattle.squawk_keywords.specs.LetterCase.{IsInOrder, kind_by}
use Rattle.squawk_keywords.specs.TextKeys.{IsOfText, text_of}
use Rattle.squawk_keywords.specs.WordSlots.{AgreeWith, AreSlots}
use Rattle.squawk_keywords.specs.declared.ready_words.KeptRow.{KeptRow}
use Rattle.squawk_keywords.specs.declared.ready_words.ReadyWords.{ReadyWords}

-- the words of rows, with their kinds
abbrev pub kept_of : List KeptRow → List (List ℕ × ℕ)
kept_of = map (λ row. (text_of row.len (row.low, row.high), row.kind))

-- the tables are those of the words
pub record AreReady (tables : ReadyWords) : Type 0 where
  pub order : IsInOrder true tables.words.now
  pub keywords : AreKeywords (pairs_of tables.words.now)
  pub set : (kind : ℕ) → has tables.set kind ≡ has_kind (pairs_of tables.words.now) kind
  pub kept : All (λ row. IsOfText row.len (row.low, row.high)) tables.kept.now
  pub slots : AreSlots tables.slots.now (kept_of tables.kept.now)
  pub agree : AgreeWith true (kind_by true (pairs_of tables.words.now)) tables.slots.now (kept_of tables.kept.now)

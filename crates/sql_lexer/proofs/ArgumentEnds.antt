-- Where the arguments of a command end, byte by byte.
use Rattle.std.proofs.Common.{◌≡◌, ◌∙◌, ℕ, ◌+◌, ◌<◌, ◌≤◌, true, false, List, length, drop, get_or, ap, sym}
use Rattle.std.proofs.lemmas.Bool.{cond-false, cond-true}
use Rattle.std.proofs.lemmas.List.{drop_all, drop_more}
use Rattle.sql_lexer.specs.declared.psql.Quote.{Quote}
use Rattle.sql_lexer.specs.Psql.{arguments_end, ends_arguments, quote_after}

module _ (quote : Quote) (text : List ℕ) (at : ℕ) where
  pub arguments-next : {next : Quote} → at < length text → ends_arguments quote (get_or text at 0) ≡ false → next ≡ quote_after quote (get_or text at 0)
      → arguments_end quote (drop at text) ≡ 1 + arguments_end next (drop (at + 1) text)
  arguments-next {next} lt goes is =
      ap (arguments_end quote) (drop_more text at 0 lt)
      ∙ (cond-false (ends_arguments quote (get_or text at 0)) 0 (1 + arguments_end (quote_after quote (get_or text at 0)) (drop (at + 1) text)) goes
      ∙ ap (λ q. 1 + arguments_end q (drop (at + 1) text)) (sym is))

  pub arguments-end : at < length text → ends_arguments quote (get_or text at 0) ≡ true → arguments_end quote (drop at text) ≡ 0
  arguments-end lt ends =
      ap (arguments_end quote) (drop_more text at 0 lt)
      ∙ cond-true (ends_arguments quote (get_or text at 0)) 0 (1 + arguments_end (quote_after quote (get_or text at 0)) (drop (at + 1) text)) ends

  pub arguments-all : length text ≤ at → arguments_end quote (drop at text) ≡ 0
  arguments-all le = ap (arguments_end quote) (drop_all at text le)

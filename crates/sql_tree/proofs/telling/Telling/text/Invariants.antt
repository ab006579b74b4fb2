use Rattle.std.proofs.Common.{◌≡◌, ◌<◌, ◌++◌, ℕ, List, [], false, length, true}
use Rattle.sql_lexer.specs.Lines.{EndsLine}
use Rattle.sql_grammar.specs.ReadParts.{left_of}
use Rattle.sql_reader.specs.declared.script_text.Next.TheVariants.{End}
use Rattle.sql_tree.specs.OnTheWay.{IsBefore, IsTelling, IsTextIn}
use Rattle.sql_tree.specs.declared.options.Listing.{Listing}
use Rattle.sql_tree.specs.declared.sql.Sql.{Sql}
use Rattle.sql_tree.proofs.TextParts.{InText}
use Rattle.sql_tree.proofs.telling.Telling.text.Given as goal

abbrev pub invariant-loop-part : goal.invariant-loop-part
invariant-loop-part g l = record {
  window : l.place.window ≡ l.text.window.now;
  before : l.place.before ≡ l.fn.before;
  lines : l.parts.is_last ≡ false → 0 < length l.parts.lexer.text → EndsLine l.parts.lexer.text;
  last : l.parts.is_last ≡ true → l.text.next ≡ End;
  end : l.text.next ≡ End → l.parts.is_last ≡ true;
  told : (sql : Sql) (listing : Listing) (name read left out errs : List ℕ) → IsTelling sql listing name l.fn.self → IsTextIn read left l.fn.before l.text
      → (l.text.next ≡ End → left ≡ []) → IsBefore sql read (l.text.text.now ++ left) l.text.place out errs l.fn.self
      → InText sql listing name read left l.text out errs (g.W.Write.contents l.fn.printer.out) (g.W.Write.contents l.printer.out)
      (g.E.Write.contents l.fn.printer.errors) (g.E.Write.contents l.printer.errors) l.parts l.self;
}

abbrev pub decreases-loop-part : goal.decreases-loop-part
decreases-loop-part g l = left_of l.parts

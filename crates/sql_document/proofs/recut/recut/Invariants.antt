use Rattle.std.proofs.Common.{◌≡◌, ◌+◌, ◌-◌, ◌<◌, ◌≤◌, ◌++◌, Some, drop, length}
use Rattle.std.specs.Prelude.{IsCharBoundary, string_bytes}
use Rattle.sql_grammar.specs.ReadParts.{at_front, begun_with}
use Rattle.sql_grammar.specs.declared.script_parts.Progress.TheVariants.{Inside}
use Rattle.sql_document.specs.Pieces.{AreChain, text_of}
use Rattle.sql_document.specs.Recuts.{Grows}
use Rattle.sql_document.proofs.recut.recut.Given as goal

abbrev pub invariant-loop-new : goal.invariant-loop-new
invariant-loop-new g l = record {
  order : l.from ≤ l.last;
  within : l.last ≤ length l.old;
  grows : Grows l.old (string_bytes l.fn.text) (string_bytes l.text) l.from l.last;
  chain : AreChain (g.K.Keep.keeps l.keep) l.sql.vocabulary l.sql.rules (Some l.fn.place) l.new.items (Some l.place) (string_bytes l.fn.text ++ text_of (drop l.from l.old))
      (drop l.at (string_bytes l.text) ++ text_of (drop l.last l.old));
  boundary : IsCharBoundary (string_bytes l.text) l.at;
  some : begun_with l.place ≡ Inside → l.at < length (string_bytes l.text);
}

abbrev pub decreases-loop-new : goal.decreases-loop-new
decreases-loop-new g l = length (string_bytes l.text) - l.at + length (text_of (drop l.last l.old)) + at_front (begun_with l.place) + (length l.old - l.last)

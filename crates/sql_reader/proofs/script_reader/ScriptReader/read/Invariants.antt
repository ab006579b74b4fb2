use Rattle.std.proofs.Common.{◌≡◌, ◌≢◌, ◌++◌, ℕ, List}
use Rattle.std.specs.Io.KnownBytes.{Consumes, IsAtEnd}
use Rattle.sql_reader.specs.Windows.{kept, unread}
use Rattle.sql_reader.specs.declared.script_reader.Input.TheVariants.{Ended, Open}
use Rattle.sql_reader.proofs.script_reader.ScriptReader.read.Given as goal

abbrev pub invariant-loop : goal.invariant-loop
invariant-loop g l = record {
  more : (more : List ℕ) × (unread l.self-inside.window ≡ l.fn.self.unread ++ more) × Consumes l.fn.self.remaining (g.R.Read.remaining l.self-inside.reader) more;
  kept : kept l.self-inside.window ≡ l.fn.self.kept;
  least : l.self-inside.least ≡ l.fn.self.least;
  passed : l.self-inside.passed ≡ l.fn.self.passed;
  place : l.self-inside.place ≡ l.fn.self.place;
  first : l.fn.self.input ≢ Open → l.counter ≡ 0;
  stays : l.fn.self.input ≢ Open → l.self-inside.input ≡ l.fn.self.input;
  ended : l.fn.self.input ≡ Open → l.self-inside.input ≡ Ended → IsAtEnd (g.R.Read.remaining l.self-inside.reader);
}

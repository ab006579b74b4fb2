-- Where a writer of JSON stands. Only private functions speak of it.
use Rattle.std.specs.Prelude.{ℕ, List, map, reverse, string_bytes}
use Rattle.std.specs.declared.alloc.Global.{Global}
use Rattle.std.specs.declared.string.String.{String}
use Rattle.sql_report.specs.JsonLines.{Standing}
use Rattle.sql_report.specs.declared.json_writer.JsonWriter.{JsonWriter}

-- the errors of the open nodes, the innermost first, where they are kept with the innermost last
abbrev pub nodes_of : List (String Global) → List (List ℕ)
nodes_of errors = reverse (map string_bytes errors)

-- where it stands, at a byte
abbrev pub standing : JsonWriter → ℕ → Standing
standing writer at = record { nodes = nodes_of writer.errors.items; has_child = writer.has_child; at = at }

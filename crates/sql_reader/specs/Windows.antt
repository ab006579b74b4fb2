-- The bytes of a script that are in memory. Only private functions speak of it.
use Rattle.std.specs.Prelude.{ℕ, List, drop, take}
use Rattle.sql_reader.specs.declared.window.Window.{Window}

-- those before the unread ones
abbrev pub kept : Window → List ℕ
kept window = take window.start window.bytes.items

-- those that are unread
abbrev pub unread : Window → List ℕ
unread window = drop window.start window.bytes.items

-- Which kind of statement begins with which words (PostgreSQL's documentation, part VI, "SQL Commands").
use Rattle.std.specs.Prelude.{ℕ, ◌++◌, List, codes, map, unwrap_or}
use Rattle.std.specs.Char.{to_ascii_uppercase}
use Rattle.std.specs.Map.{lookup}
use Rattle.std.specs.Str.{bytes_eq}
use Rattle.squawk_kinds.specs.EngineNames.{words_in}
use Rattle.squawk_kinds.specs.Kinds.{EOF, TOMBSTONE}
use Rattle.sql_words.specs.SqlKinds.{keyword_kinds, node_names}

-- the kind of a keyword
abbrev pub kind_of_word : List ℕ → ℕ
kind_of_word word = unwrap_or (lookup (λ one. bytes_eq one word) keyword_kinds) EOF

-- the kind of the nodes with a name
abbrev pub kind_named : List ℕ → ℕ
kind_named name = unwrap_or (lookup (λ one. bytes_eq one name) (map (λ row. (row.1, row.0)) node_names)) TOMBSTONE

-- statements with this name begin with each of these words
abbrev pub begin_with : List ℕ → List ℕ → List (ℕ × ℕ)
begin_with name words = map (λ word. (kind_of_word word, kind_named name)) (words_in words)

-- statements that begin with these words have them for names
abbrev pub named_alike : List ℕ → List (ℕ × ℕ)
named_alike words = map (λ word. (kind_of_word word, kind_named (map to_ascii_uppercase word))) (words_in words)

-- the first words of statements, each with the kind of the statement
unfoldable pub statement_kinds : List (ℕ × ℕ)
statement_kinds =
    begin_with (codes "SELECT") (codes "select with values table") ++
    named_alike (codes "insert update delete merge create alter drop truncate") ++
    begin_with (codes "COMMENT_ON") (codes "comment") ++
    begin_with (codes "SECURITY_LABEL") (codes "security") ++
    begin_with (codes "IMPORT_FOREIGN_SCHEMA") (codes "import") ++
    named_alike (codes "reassign refresh reindex cluster vacuum") ++
    begin_with (codes "ANALYZE") (codes "analyze analyse") ++
    named_alike (codes "grant revoke") ++
    begin_with (codes "BEGIN") (codes "begin start") ++
    begin_with (codes "COMMIT") (codes "commit end") ++
    begin_with (codes "ROLLBACK") (codes "rollback abort") ++
    named_alike (codes "savepoint") ++
    begin_with (codes "RELEASE_SAVEPOINT") (codes "release") ++
    named_alike (codes "lock set reset show discard load checkpoint listen notify unlisten copy call do explain") ++
    named_alike (codes "prepare execute deallocate declare fetch move close")

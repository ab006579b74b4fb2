-- The kinds of keywords and of nodes, and what kinds are called.
use Rattle.std.specs.Prelude.{ℕ, ◌+◌, ◌==◌, ◌&&◌, ◌++◌, Bool, true, false, List, [], ◌∷◌, Option, codes, cond, is_some, map, unwrap_or}
use Rattle.std.specs.Char.{to_ascii_uppercase}
use Rattle.std.specs.List.{list_any}
use Rattle.std.specs.Map.{lookup}
use Rattle.std.specs.Str.{bytes_eq}
use Rattle.squawk_kinds.specs.Kinds.{SIMILAR_KW}
use Rattle.squawk_kinds.specs.EngineNames.{engine_names, words_in}
use Rattle.squawk_kinds.specs.KindNames.{Names}
use Rattle.sql_words.specs.PostgresKeywords.{keywords, col_name_keywords, reserved_keywords, type_func_name_keywords}
use Rattle.sql_words.specs.declared.category.Category.{Category}
use Rattle.sql_words.specs.declared.keywords.Keyword.{Keyword}
use Rattle.sql_words.specs.declared.named_kind.NamedKind.{NamedKind}
use Rattle.sql_words.specs.declared.category.Category.TheVariants.{ColName, Reserved, TypeFuncName, Unreserved}

-- ---- kinds of keywords

-- words with numbers that ascend from the first's
abbrev pub numbered : ℕ → List (List ℕ) → List (List ℕ × ℕ)
numbered number [] = []
numbered number (word ∷ words) = (word, number) ∷ numbered (number + 1) words

-- the keywords that the engine has kinds for
abbrev pub engine_keywords : List (List ℕ × ℕ)
engine_keywords = numbered SIMILAR_KW (
    words_in (codes "similar to at time zone local is not nfc nfd nfkc nfkd normalized json object array value scalar") ++
    words_in (codes "distinct from operator like ilike in"))

-- the engine's kind of a word
abbrev pub engine_kind : List ℕ → Option ℕ
engine_kind word = lookup (λ one. bytes_eq one word) engine_keywords

-- words with their kinds: the engine's, and those of the other words ascend from `next`
abbrev pub with_kinds : ℕ → List (List ℕ) → List (List ℕ × ℕ)
with_kinds next [] = []
with_kinds next (word ∷ words) =
    let kind = engine_kind word in
    (word, unwrap_or kind next) ∷ with_kinds (cond (is_some kind) next (next + 1)) words

-- ---- categories

abbrev pub is_one_of : List (List ℕ) → List ℕ → Bool
is_one_of words word = list_any (λ one. bytes_eq one word) words

-- the category of a keyword
abbrev pub category_of : List ℕ → Category
category_of word =
    cond (is_one_of reserved_keywords word) Reserved
    (cond (is_one_of type_func_name_keywords word) TypeFuncName (cond (is_one_of col_name_keywords word) ColName Unreserved))

abbrev pub same_category : Category → Category → Bool
same_category Unreserved Unreserved = true
same_category ColName ColName = true
same_category TypeFuncName TypeFuncName = true
same_category Reserved Reserved = true
same_category _ _ = false

-- ---- the table

-- the keywords, each with its kind and its category
unfoldable pub table : List (List ℕ × ℕ × Category)
table = map (λ row. (row.0, row.1, category_of row.0)) (with_kinds 200 keywords)

-- the keywords with their kinds
abbrev pub keyword_kinds : List (List ℕ × ℕ)
keyword_kinds = map (λ row. (row.0, row.1)) table

-- words that are keywords where rules ask for them, with kinds that no other token has
unfoldable pub contextual_kinds : List (List ℕ × ℕ)
contextual_kinds = numbered 88 (
    words_in (codes "absent bypassrls conditional createdb createrole empty enforced error format indent json json_array") ++
    words_in (codes "json_arrayagg json_exists json_object json_objectagg json_query json_scalar json_serialize") ++
    words_in (codes "json_table json_value keep keys login nested nobypassrls nocreatedb nocreaterole noinherit nologin") ++
    words_in (codes "noreplication nosuperuser objects omit path period permissive quotes replication restrictive scalar") ++
    words_in (codes "source string superuser target unconditional virtual"))

-- whether a kind is that of a keyword of the category
abbrev pub is_kind_of : Category → ℕ → Bool
is_kind_of category kind = list_any (λ row. same_category row.2 category && (row.1 == kind)) table

-- the table as code has it
abbrev pub rows_in : List Keyword → List (List ℕ × ℕ × Category)
rows_in = map (λ row. (row.word.now, row.kind, row.category))

-- ---- names

-- kinds with names as code has them
abbrev pub names_in : List NamedKind → Names
names_in = map (λ row. (row.kind, row.name.now))

-- the kind of a keyword is called by its word in upper case, with `_KW` behind it
abbrev pub keyword_name : List ℕ → List ℕ
keyword_name word = map to_ascii_uppercase word ++ codes "_KW"

abbrev pub keyword_names : Names
keyword_names = map (λ row. (row.1, keyword_name row.0)) table

-- kinds of nodes ascend from 700; no node has 749, 750, 753, or 771 to 773
unfoldable pub node_names : Names
node_names = map (λ row. (row.1, row.0)) (
    numbered 700 (
    words_in (codes "SOURCE_FILE STATEMENT PSQL_COMMAND SELECT INSERT UPDATE DELETE MERGE CREATE ALTER DROP TRUNCATE") ++
    words_in (codes "COMMENT_ON SECURITY_LABEL IMPORT_FOREIGN_SCHEMA REASSIGN REFRESH REINDEX CLUSTER VACUUM ANALYZE") ++
    words_in (codes "GRANT REVOKE BEGIN COMMIT ROLLBACK SAVEPOINT RELEASE_SAVEPOINT LOCK SET RESET SHOW DISCARD LOAD") ++
    words_in (codes "CHECKPOINT LISTEN NOTIFY UNLISTEN COPY CALL DO EXPLAIN PREPARE EXECUTE DEALLOCATE DECLARE FETCH") ++
    words_in (codes "MOVE CLOSE")) ++
    numbered 751 (words_in (codes "CASE_EXPR WITH_CLAUSE")) ++
    numbered 754 (
    words_in (codes "INTO_CLAUSE FROM_CLAUSE WHERE_CLAUSE") ++
    words_in (codes "GROUP_BY_CLAUSE HAVING_CLAUSE WINDOW_CLAUSE ORDER_BY_CLAUSE LIMIT_CLAUSE OFFSET_CLAUSE") ++
    words_in (codes "FETCH_CLAUSE LOCKING_CLAUSE VALUES_CLAUSE SET_CLAUSE USING_CLAUSE WHEN_CLAUSE ON_CONFLICT_CLAUSE") ++
    words_in (codes "RETURNING_CLAUSE")) ++
    numbered 774 (
    words_in (codes "NAME NAME_REF PATH COLUMN_LIST ROLE_REF OP LITERAL TYPE TYPE_ARGS DEFAULT_EXPR BIN_EXPR PREFIX_EXPR") ++
    words_in (codes "IS_EXPR BETWEEN_EXPR IN_EXPR LIKE_EXPR ROW_EXPR OVERLAPS_EXPR AT_LOCAL_EXPR COLLATE_EXPR CAST_EXPR") ++
    words_in (codes "SOME_OF SUBQUERY ROW_VALUES FIELD_EXPR INDEX_EXPR SLICE_EXPR PAREN_EXPR PARAM_REF CALL_EXPR") ++
    words_in (codes "EXISTS_EXPR ARRAY_EXPR ELSE_CLAUSE ARRAY_ITEMS ARG_LIST NAMED_ARG WITHIN_CLAUSE FILTER_CLAUSE") ++
    words_in (codes "OVER_CLAUSE XML_ATTRIBUTES XML_ATTRIBUTE XML_PASSING XML_NAMESPACE XML_COLUMN QUERY TABLE_QUERY") ++
    words_in (codes "PAREN_QUERY COMPOUND_SELECT DISTINCT_ON TARGET_LIST TARGET EMPTY_GROUP GROUP_CALL GROUPING_SETS") ++
    words_in (codes "WINDOW_DEF WINDOW_SPEC PARTITION_BY FRAME_CLAUSE FRAME_BOUND SORT_ITEM WITH_TABLE SEARCH_CLAUSE") ++
    words_in (codes "CYCLE_CLAUSE JOIN_EXPR JOIN_USING JOIN_ON FROM_SUBQUERY LATERAL_FUNCTION FROM_TABLE TABLE_FUNCTION") ++
    words_in (codes "PAREN_JOIN ALIAS COLUMN_DEF TABLESAMPLE_CLAUSE RELATION TARGET_TABLE SET_COLUMN CONFLICT_TARGET") ++
    words_in (codes "RETURNING_NAMES SET_ITEM MERGE_WHEN MERGE_INSERT CREATE_TABLE CREATE_TABLE_AS ACCESS_METHOD") ++
    words_in (codes "ON_COMMIT TABLESPACE WITH_DATA INHERITS PARTITION_ITEM PARTITION_BOUND STORAGE COMPRESSION") ++
    words_in (codes "COLUMN_OPTIONS LIKE_CLAUSE LIKE_OPTION CONSTRAINT_NAME NOT_NULL_CONSTRAINT NULL_CONSTRAINT") ++
    words_in (codes "UNIQUE_CONSTRAINT PRIMARY_KEY_CONSTRAINT CHECK_CONSTRAINT DEFAULT_CONSTRAINT IDENTITY_CONSTRAINT") ++
    words_in (codes "GENERATED_CONSTRAINT REFERENCES_CONSTRAINT DEFERRABLE NOT_DEFERRABLE INITIALLY_DEFERRED") ++
    words_in (codes "INITIALLY_IMMEDIATE ON_UPDATE ON_DELETE EXCLUDE_CONSTRAINT FOREIGN_KEY_CONSTRAINT NOT_VALID") ++
    words_in (codes "NO_INHERIT INCLUDE_CLAUSE EXCLUDE_ITEM COLLATE_CLAUSE OPTION_LIST OPTION FOREIGN_OPTIONS ALTER_TABLE") ++
    words_in (codes "RENAME_TO RENAME_COLUMN RENAME_CONSTRAINT SET_SCHEMA OWNER_TO ATTACH_PARTITION DETACH_PARTITION") ++
    words_in (codes "ADD_COLUMN ADD_CONSTRAINT ALTER_CONSTRAINT ALTER_COLUMN VALIDATE_CONSTRAINT DROP_CONSTRAINT") ++
    words_in (codes "DROP_COLUMN SET_WITHOUT SET_LOGGED SET_ACCESS_METHOD SET_TABLESPACE SET_OPTIONS RESET_OPTIONS") ++
    words_in (codes "CLUSTER_ON TRIGGER_ACTION RULE_ACTION ROW_SECURITY INHERIT NO_INHERIT_TABLE OF_TYPE NOT_OF") ++
    words_in (codes "REPLICA_IDENTITY SET_DEFAULT SET_NOT_NULL SET_STORAGE SET_EXPRESSION SET_COMPRESSION DROP_DEFAULT") ++
    words_in (codes "DROP_NOT_NULL DROP_EXPRESSION DROP_IDENTITY ADD_IDENTITY ALTER_IDENTITY SET_TYPE SET_STATISTICS") ++
    words_in (codes "SEQUENCE_OPTION ALTER_ALL CREATE_INDEX INDEX_ITEM OPERATOR_CLASS ALTER_INDEX DEPENDS_ON CREATE_VIEW") ++
    words_in (codes "ALTER_VIEW CREATE_MATERIALIZED_VIEW ALTER_MATERIALIZED_VIEW CREATE_SEQUENCE ALTER_SEQUENCE") ++
    words_in (codes "CREATE_STATISTICS ALTER_STATISTICS CREATE_FUNCTION CREATE_PROCEDURE PARAM_LIST PARAM RETURNS_CLAUSE") ++
    words_in (codes "FUNCTION_OPTION SET_OPTION RESET_OPTION FUNCTION_BODY RETURN ALTER_FUNCTION FUNCTION_SIGNATURE") ++
    words_in (codes "CREATE_AGGREGATE ALTER_AGGREGATE CREATE_OPERATOR OPERATOR_SIGNATURE OPERAND_TYPES ALTER_OPERATOR") ++
    words_in (codes "CREATE_OPERATOR_CLASS CLASS_ITEM CREATE_OPERATOR_FAMILY ALTER_OPERATOR_CLASS ALTER_OPERATOR_FAMILY") ++
    words_in (codes "CREATE_CAST CREATE_CONVERSION ALTER_CONVERSION CREATE_TRANSFORM CREATE_LANGUAGE ALTER_LANGUAGE") ++
    words_in (codes "CREATE_TRIGGER TRIGGER_EVENT REFERENCING_CLAUSE TRANSITION_TABLE ALTER_TRIGGER CREATE_EVENT_TRIGGER") ++
    words_in (codes "EVENT_FILTER ALTER_EVENT_TRIGGER CREATE_RULE ALTER_RULE CREATE_POLICY POLICY_USING POLICY_CHECK") ++
    words_in (codes "ALTER_POLICY CREATE_SCHEMA ALTER_SCHEMA CREATE_TYPE ALTER_TYPE TYPE_ACTION CREATE_DOMAIN") ++
    words_in (codes "ALTER_DOMAIN CREATE_COLLATION ALTER_COLLATION CREATE_TEXT_SEARCH ALTER_TEXT_SEARCH CREATE_EXTENSION") ++
    words_in (codes "ALTER_EXTENSION CREATE_ACCESS_METHOD CREATE_FOREIGN_DATA_WRAPPER ALTER_FOREIGN_DATA_WRAPPER") ++
    words_in (codes "CREATE_SERVER ALTER_SERVER CREATE_FOREIGN_TABLE ALTER_FOREIGN_TABLE CREATE_USER_MAPPING") ++
    words_in (codes "ALTER_USER_MAPPING CREATE_PUBLICATION PUBLICATION_ITEM ALTER_PUBLICATION CREATE_SUBSCRIPTION") ++
    words_in (codes "ALTER_SUBSCRIPTION CREATE_TABLESPACE ALTER_TABLESPACE CREATE_DATABASE DATABASE_OPTION ALTER_DATABASE") ++
    words_in (codes "ALTER_LARGE_OBJECT CREATE_ROLE ROLE_OPTION ALTER_ROLE MEMBER_OPTION GRANTED_BY PRIVILEGE_LIST") ++
    words_in (codes "PRIVILEGE GRANT_TARGET ALTER_DEFAULT_PRIVILEGES DROP_OWNED OBJECT TRANSACTION_MODE SET_CONSTRAINTS") ++
    words_in (codes "ALTER_SYSTEM COMMIT_PREPARED ROLLBACK_PREPARED PREPARE_TRANSACTION") ++
    words_in (codes "JSON_KEY_VALUE JSON_RETURNING_CLAUSE JSON_NULL_CLAUSE JSON_QUOTES_CLAUSE JSON_KEYS_UNIQUE_CLAUSE") ++
    words_in (codes "JSON_WRAPPER_BEHAVIOR_CLAUSE JSON_PASSING_CLAUSE JSON_BEHAVIOR_CLAUSE JSON_FORMAT_CLAUSE") ++
    words_in (codes "JSON_PASSING_ARG JSON_TABLE_COLUMN_LIST JSON_TABLE_COLUMN ENFORCED NOT_ENFORCED")))

-- the names of all kinds
abbrev pub names : Names
names = engine_names ++ (keyword_names ++ node_names)

-- The law of parts.
use Rattle.std.proofs.Common.{◌≡◌, ◌∙◌, ℕ, suc, ◌+◌, ◌-◌, ◌<◌, Bool, true, false, List, [], ◌∷◌, ◌++◌, drop, length, map, slice_index, if◌then◌else◌, arith, ap, sym, subst, refl, length-append}
use Rattle.std.specs.Prelude.{slice_range, not, ◌&&◌}
use Rattle.std.specs.Borrow.{Bor}
use Rattle.std.specs.List.{list_all}
use Rattle.std.specs.Str.{str_eq_ignore_ascii_case}
use Rattle.std.proofs.lemmas.Bool.{and_parts, cond_both, false≢true}
use Rattle.std.proofs.lemmas.List.{get_or_push, length-map, same_from_push}
use Rattle.std.proofs.lemmas.List.Sums.{sum_by-append}
use Rattle.squawk_kinds.specs.Kinds.{is_trivia}
use Rattle.squawk_kinds.specs.Keywords.{Keywords}
use Rattle.squawk_keywords.specs.KeywordPairs.{kind_of_word_ignoring_case}
use Rattle.squawk_output.specs.Draft.{Draft, Item, nothing, plain}
use Rattle.squawk_output.specs.Draft.Item.{Open, Close, Token as TokenItem, Error as ErrorItem}
use Rattle.squawk_output.specs.OneRoot.{IsBalanced, StandsInOneRoot}
use Rattle.squawk_output.specs.Steps.{Step, Token, Enter, Exit, Error, count_of, eaten, without_errors}
use Rattle.squawk_parser.specs.Eaten.{node}
use Rattle.squawk_parser.proofs.Progress.{eaten-node}
use Rattle.squawk_parser.proofs.WholeSteps.{root-node}
use Rattle.squawk_tokens.specs.Continuation.{continued}
use Rattle.squawk_tokens.specs.declared.token.Token as raw
use Rattle.squawk_tokens.specs.declared.token.TokenKind.{TokenKind}
use Rattle.squawk_tokens.specs.declared.token.TokenKind.TheVariants.{Ident, PsqlCommand}
use Rattle.squawk_table.specs.ParserInput.{Entry, entries_of, input_of, kinds_in}
use Rattle.squawk_table.specs.RawTable.{IsTable, Table, kinds_from, raw_tokens}
use Rattle.squawk_table.specs.Sending.{HaveTokens, end_from, sent_from}
use Rattle.squawk_table.specs.Sent.{errors_moved, sent_list}
use Rattle.squawk_table.specs.Shape.{Fits, IsOver, no_keywords}
use Rattle.squawk_table.specs.TokenKinds.{kind_of}
use Rattle.squawk_table.proofs.AllSent.{end_if_eaten}
use Rattle.squawk_table.proofs.Over.{IsOver-exit_last, IsOver-front, eaten-le}
use Rattle.squawk_table.proofs.OverTable.{IsOver-keywords, length-keywords}
use Rattle.squawk_table.proofs.SentFrom.{sends_all, sent_from-sent_list}
use Rattle.rule_grammar.specs.declared.rules.RuleGrammar.{RuleGrammar}
use Rattle.sql_lexer.specs.ScriptEnds.{is_passed_over}
use Rattle.sql_lexer.specs.ScriptWords as by_text
use Rattle.sql_lexer.specs.declared.statements.Word.{Word}
use Rattle.sql_words.specs.SqlKinds.{keyword_kinds}
use Rattle.sql_grammar.specs.Files.{AreNodesOf}
use Rattle.sql_grammar.specs.Kinds.{SOURCE_FILE}
use Rattle.sql_grammar.specs.Parses.{AreOfFile}
use Rattle.sql_grammar.specs.Parts.{AreSame, EndsWithStatement, IsParsedPart, Part, is_sign, steps_of, table_by}
use Rattle.sql_grammar.specs.Statements.{statements_of}
use Rattle.sql_grammar.specs.StrayStrings as strays
use Rattle.sql_grammar.specs.declared.Detail.TheVariants.{Nodes}
use Rattle.sql_grammar.proofs.parts.Law.{IsWhole, PartsMakeWhole, joined}
use Rattle.sql_grammar.proofs.ScriptStatements.{input_kinds, kinds-input}
use Rattle.sql_grammar.proofs.ScriptWords.{kind_word, passed_over}
use Rattle.sql_grammar.proofs.parts.Ends.{front_tokens, inner_all, rest_tokens, sent_inner, tokens-end}
use Rattle.sql_grammar.proofs.parts.Entries.{count_both, kinds_both, over_both}
use Rattle.sql_grammar.proofs.parts.Files.{all_closed, nodes_both}
use Rattle.sql_grammar.proofs.parts.Nodes.{AreNodes, are_nodes, balanced-append, balanced_depth, nodes_before}
use Rattle.sql_grammar.proofs.parts.Sending.{both_sent, depth_after, inner_sent}
use Rattle.sql_grammar.proofs.parts.Statements.{AreClosed, HasNoTrivia}
use Rattle.sql_grammar.proofs.parts.Strays.{behind, errors_both, follows_none, goes_not_on, none_continued, pieces, strays_both}
use Rattle.sql_grammar.proofs.parts.Tables.{bytes, kinds-append, raws_both}

-- ---- a draft of steps

abbrev item_of : Step → Item
item_of (Token kind n) = TokenItem kind n
item_of (Enter kind) = Open 0 kind false
item_of Exit = Close
item_of (Error text) = ErrorItem text

plain-items : (steps : List Step) → plain (map item_of steps) ≡ steps
plain-items [] = refl
plain-items (Token kind n ∷ steps) = ap (λ xs. Token kind n ∷ xs) (plain-items steps)
plain-items (Enter kind ∷ steps) = ap (λ xs. Enter kind ∷ xs) (plain-items steps)
plain-items (Exit ∷ steps) = ap (λ xs. Exit ∷ xs) (plain-items steps)
plain-items (Error text ∷ steps) = ap (λ xs. Error text ∷ xs) (plain-items steps)

-- ---- trivia by its two kinds

named_words : (rows : List (List ℕ × Word)) (name : List ℕ) → list_all (λ row. not (is_passed_over row.1)) rows ≡ true → is_passed_over (by_text.word_in rows name) ≡ false
named_words [] name e = refl
named_words (row ∷ rows) name e =
    let parts = and_parts (not (is_passed_over row.1)) (list_all (λ row. not (is_passed_over row.1)) rows) e in
    cond_both (str_eq_ignore_ascii_case name row.0) row.1 (by_text.word_in rows name) (λ word. is_passed_over word ≡ false)
    (λ f. opposite (is_passed_over row.1) parts.0)
    (λ f. named_words rows name parts.1)
  where
    opposite : (b : Bool) → not b ≡ true → b ≡ false
    opposite true e = absurd (false≢true e)
    opposite false e = refl

word_trivia : (kind : TokenKind) (text : List ℕ) → is_passed_over (by_text.plain_word kind text) ≡ strays.is_trivia kind
word_trivia Ident text = named_words by_text.names text refl
word_trivia (PsqlCommand true) text = refl
word_trivia (PsqlCommand false) text = refl
word_trivia kind text = refl

module _ (keyword : Keywords) (knows : (text : List ℕ) → keyword text ≡ kind_of_word_ignoring_case keyword_kinds text) where
  trivia_kind : (kind : TokenKind) (text : List ℕ) → is_trivia (kind_of keyword kind text) ≡ strays.is_trivia kind
  trivia_kind kind text = sym (passed_over (kind_of keyword kind text)) ∙ (ap is_passed_over (kind_word keyword knows kind text) ∙ word_trivia kind text)

  -- of each token of the input it is told whether it is a stray string
  told_count : (before : List strays.Piece) (text : List ℕ) (at : ℕ) (tokens : List raw.Token)
      → length (strays.strays_after before text at tokens) ≡ length (input_kinds (kinds_from keyword text at tokens))
  told_count before text at [] = refl
  told_count before text at (t ∷ tokens) =
      let part = slice_range text at (at + t.len) in
      let next : List strays.Piece = record { kind = t.kind; text = part } ∷ before in
      cases (strays.is_trivia t.kind) (is_trivia (kind_of keyword t.kind part)) (trivia_kind t.kind part)
      (strays.is_plain t.kind && strays.is_stray before) (kind_of keyword t.kind part) (strays.strays_after next text (at + t.len) tokens) (input_kinds (kinds_from keyword text (at + t.len) tokens))
      (told_count next text (at + t.len) tokens)
    where
      cases : (b c : Bool) → c ≡ b → (stray : Bool) (kind : ℕ) (bs : List Bool) (ks : List ℕ) → length bs ≡ length ks → length (if b then bs else stray ∷ bs) ≡ length (if c then ks else kind ∷ ks)
      cases true true same stray kind bs ks e = e
      cases false false same stray kind bs ks e = ap suc e
      cases true false same stray kind bs ks e = absurd (false≢true same)
      cases false true same stray kind bs ks e = absurd (false≢true (sym same))

no_trivia-input : (kinds : List ℕ) → HasNoTrivia (input_kinds kinds)
no_trivia-input [] = tt
no_trivia-input (kind ∷ kinds) = cases (is_trivia kind) refl (no_trivia-input kinds)
  where
    cases : (b : Bool) → is_trivia kind ≡ b → HasNoTrivia (input_kinds kinds) → HasNoTrivia (if b then input_kinds kinds else kind ∷ input_kinds kinds)
    cases true e rest = rest
    cases false e rest = (passed_over kind ∙ e, rest)

-- ---- what is known of one part

-- a node holds its steps
node_inner : (kind : ℕ) (xs ys : List Step) → node kind xs ≡ node kind ys → xs ≡ ys
node_inner kind xs ys same = ap (drop 1) (same_from_push (Enter kind ∷ xs) (Enter kind ∷ ys) Exit Exit same).0

module _ (rules : Bor RuleGrammar) (keyword contextual : Keywords) (p : Part) (is : IsParsedPart rules keyword contextual p) where
  abbrev t : Table
  t = table_by keyword p

  abbrev input : List Entry
  input = input_of contextual t

  same_nodes : p.nodes ≡ is.file.file.nodes
  same_nodes = node_inner SOURCE_FILE p.nodes is.file.file.nodes (is.file.is ∙ is.file.file.is)

  pub nodes_are : AreNodesOf (Nodes rules) input 0 (statements_of (kinds_in input)) p.nodes
  nodes_are = subst (AreNodesOf (Nodes rules) input 0 (statements_of (kinds_in input))) (sym same_nodes) is.file.file.statements

  pub over : IsOver p.nodes input
  over =
      IsOver-keywords no_keywords contextual p.nodes (raw_tokens t)
      (IsOver-front p.nodes (Exit ∷ []) (input_of no_keywords t) is.fits.over)

  pub eaten_all : eaten p.nodes ≡ length input
  eaten_all =
      let all = is.file.file.whole.all in
      omega (arith, all, ap eaten is.file.is, eaten-node SOURCE_FILE p.nodes, eaten-le p.nodes input over)

  eaten_plain : eaten (steps_of p) ≡ length (input_of no_keywords t)
  eaten_plain = omega (arith, eaten-node SOURCE_FILE p.nodes, eaten_all, length-keywords contextual no_keywords (raw_tokens t))

  pub tokens_have : HaveTokens t 0 0 (errors_moved (steps_of p))
  tokens_have = (sends_all t is.table (steps_of p) is.fits).tokens

  pub ends_all : end_from t 0 0 (errors_moved (steps_of p)) ≡ length t.kinds
  ends_all =
      end_if_eaten t is.table (steps_of p) is.fits (end_from t 0 0 (errors_moved (steps_of p)))
      (tokens-end t 0 0 (errors_moved (steps_of p)) tokens_have) (sends_all t is.table (steps_of p) is.fits).raw_left eaten_plain

  pub sent_all : sent_list t (steps_of p) ≡ sent_from t 0 0 (errors_moved (steps_of p))
  sent_all = sym (sent_from-sent_list t is.table (steps_of p) is.fits)

  pub nodes_stand : AreNodes p.nodes
  nodes_stand = are_nodes (Nodes rules) input 0 (statements_of (kinds_in input)) p.nodes nodes_are

  pub back : depth_after 1 p.nodes ≡ 1
  back = balanced_depth 1 p.nodes nodes_stand.balanced

-- ---- of one that ends with a statement

module _ (keyword contextual : Keywords) (knows : (text : List ℕ) → keyword text ≡ kind_of_word_ignoring_case keyword_kinds text)
    (rules : Bor RuleGrammar) (p : Part) (is : IsParsedPart rules keyword contextual p) where
  abbrev t1 : Table
  t1 = table_by keyword p

  abbrev e1 : List Entry
  e1 = input_of contextual t1

  pub told_all : length rules.now.table.hidden.tokens.now ≡ length e1
  told_all =
      ap length is.hidden
      ∙ (told_count keyword knows [] p.text 0 p.tokens
      ∙ (sym (ap length (kinds-input contextual t1)) ∙ length-map e1 (λ (e : Entry). e.kind)))

  module _ (ends : EndsWithStatement keyword contextual p) where
    pub closed : AreClosed (kinds_in e1)
    closed = record { no_trivia = subst HasNoTrivia (sym (kinds-input contextual t1)) (no_trivia-input t1.kinds); ends = ends.ends }

    pub plain_end : (0 < length t1.kinds) × (is_trivia (slice_index t1.kinds (length t1.kinds - 1)) ≡ false)
    plain_end =
        let at = 0 + bytes ends.front in
        let last = kind_of keyword ends.last.kind (slice_range p.text at (at + ends.last.len)) in
        let kinds = kinds_from keyword p.text 0 ends.front in
        let all : t1.kinds ≡ kinds ++ last ∷ [] = ap (kinds_from keyword p.text 0) ends.tokens ∙ kinds-append keyword p.text 0 ends.front (ends.last ∷ []) in
        let count : length t1.kinds ≡ length kinds + 1 = ap length all ∙ length-append kinds (last ∷ []) in
        let there : slice_index t1.kinds (length t1.kinds - 1) ≡ last =
        ap (λ ks. slice_index ks (length t1.kinds - 1)) all ∙ get_or_push kinds last 0 (length t1.kinds - 1) (omega (arith, count)) in
        (omega (arith, count), ap is_trivia there ∙ (trivia_kind keyword knows ends.last.kind (slice_range p.text at (at + ends.last.len)) ∙ (goes_not_on ends.last.kind ends.sign).not_trivia))

-- ---- both

module _ (keyword contextual : Keywords) (knows : (text : List ℕ) → keyword text ≡ kind_of_word_ignoring_case keyword_kinds text)
    (r1 r2 rules : Bor RuleGrammar) (p q : Part) (ip : IsParsedPart r1 keyword contextual p) (ends : EndsWithStatement keyword contextual p)
    (iq : IsParsedPart r2 keyword contextual q) (same1 : AreSame r1.now rules.now) (same2 : AreSame r2.now rules.now)
    (hidden : rules.now.table.hidden.tokens.now ≡ r1.now.table.hidden.tokens.now ++ r2.now.table.hidden.tokens.now)
    (table : IsTable (table_by keyword (joined p q))) where
  abbrev p_table : Table
  p_table = table_by keyword p

  abbrev q_table : Table
  q_table = table_by keyword q

  abbrev whole_table : Table
  whole_table = table_by keyword (joined p q)

  abbrev nodes : List Step
  nodes = p.nodes ++ q.nodes

  abbrev steps : List Step
  steps = steps_of (joined p q)

  raws : raw_tokens whole_table ≡ raw_tokens p_table ++ raw_tokens q_table
  raws = raws_both keyword p.text q.text p.tokens q.tokens ip.whole

  input_is : (by : Keywords) → input_of by whole_table ≡ entries_of by (raw_tokens p_table ++ raw_tokens q_table)
  input_is by = ap (entries_of by) raws

  balanced : IsBalanced nodes
  balanced = balanced-append p.nodes q.nodes (nodes_stand r1 keyword contextual p ip).balanced (nodes_stand r2 keyword contextual q iq).balanced

  length-same : (by : Keywords) (part : Part) → length (input_of by (table_by keyword part)) ≡ length (input_of contextual (table_by keyword part))
  length-same by part = length-keywords by contextual (raw_tokens (table_by keyword part))

  nodes_over : IsOver nodes (input_of no_keywords whole_table)
  nodes_over =
      subst (IsOver nodes) (sym (input_is no_keywords))
      (over_both no_keywords (raw_tokens p_table) (raw_tokens q_table) p.nodes q.nodes
      (IsOver-keywords contextual no_keywords p.nodes (raw_tokens p_table) (over r1 keyword contextual p ip))
      (eaten_all r1 keyword contextual p ip ∙ sym (length-same no_keywords p))
      (IsOver-keywords contextual no_keywords q.nodes (raw_tokens q_table) (over r2 keyword contextual q iq)))

  fits : Fits whole_table steps
  fits = record { root = root-node SOURCE_FILE nodes balanced; over = IsOver-exit_last nodes (input_of no_keywords whole_table) nodes_over }

  nodes_of_both : AreNodesOf (Nodes rules) (input_of contextual whole_table) 0 (statements_of (kinds_in (input_of contextual whole_table))) nodes
  nodes_of_both =
      let raw1 = raw_tokens p_table in
      let raw2 = raw_tokens q_table in
      let kinds1 = kinds_in (entries_of contextual raw1) in
      let kinds2 = kinds_in (entries_of contextual raw2) in
      let both : AreNodesOf (Nodes rules) (entries_of contextual (raw1 ++ raw2)) 0 (statements_of (kinds1 ++ kinds2)) nodes =
      nodes_both contextual raw1 raw2 r1 r2 rules same1 same2 hidden (told_all keyword contextual knows r1 p ip) kinds1 kinds2 p.nodes q.nodes
      (closed keyword contextual knows r1 p ip ends) (length-map (entries_of contextual raw1) (λ (e : Entry). e.kind))
      (nodes_are r1 keyword contextual p ip) (nodes_are r2 keyword contextual q iq) in
      subst (λ input. AreNodesOf (Nodes rules) input 0 (statements_of (kinds_in input)) nodes) (sym (input_is contextual))
      (subst (λ kinds. AreNodesOf (Nodes rules) (entries_of contextual (raw1 ++ raw2)) 0 (statements_of kinds) nodes) (sym (kinds_both contextual raw1 raw2)) both)

  file : AreOfFile (Nodes rules) contextual whole_table steps
  file =
      let draft : Draft = record nothing { items = map item_of steps } in
      let plain_is = plain-items steps in
      record {
        draft = draft;
        is = sym plain_is;
        file = record {
          whole = record {
            root = subst (λ xs. StandsInOneRoot (without_errors xs)) (sym plain_is) (root-node SOURCE_FILE nodes balanced);
            all =
                omega (
                  arith,
                  ap eaten plain_is,
                  eaten-node SOURCE_FILE nodes,
                  sum_by-append count_of p.nodes q.nodes,
                  eaten_all r1 keyword contextual p ip,
                  eaten_all r2 keyword contextual q iq,
                  ap length (input_is contextual),
                  count_both contextual (raw_tokens p_table) (raw_tokens q_table),
                );
          };
          nodes = nodes;
          is = plain_is;
          statements = nodes_of_both;
        };
      }

  pub parsed_both : IsParsedPart rules keyword contextual (joined p q)
  parsed_both = record {
    whole = omega (arith, sum_by-append (λ (t : raw.Token). t.len) p.tokens q.tokens, ip.whole, iq.whole, length-append p.text q.text);
    table = table;
    fits = fits;
    file = file;
    hidden =
        hidden
        ∙ (ap (λ bs. bs ++ r2.now.table.hidden.tokens.now) ip.hidden
        ∙ (ap (λ bs. strays.stray_strings p.text p.tokens ++ bs) iq.hidden
        ∙ sym (strays_both p.text q.text p.tokens q.tokens ip.whole (not_followed ends.front ends.last ends.tokens ends.sign))));
  }
    where
      not_followed : (front : List raw.Token) (last : raw.Token) → p.tokens ≡ front ++ last ∷ [] → is_sign last.kind ≡ true → strays.follows_string (pieces (p.text ++ q.text) 0 p.tokens []) ≡ false
      not_followed front last is sign = ap (λ tokens. strays.follows_string (pieces (p.text ++ q.text) 0 tokens [])) is ∙ follows_none (p.text ++ q.text) front last sign

  pub whole_is : IsWhole rules keyword contextual p q
  whole_is =
      let back1 = back r1 keyword contextual p ip in
      let back2 = back r2 keyword contextual q iq in
      let has1 = tokens_have r1 keyword contextual p ip in
      let has2 = tokens_have r2 keyword contextual q iq in
      let all = ends_all r1 keyword contextual p ip in
      let plain = plain_end keyword contextual knows r1 p ip ends in
      let shut = closed keyword contextual knows r1 p ip ends in
      let inner = inner_sent p_table p.nodes in
      record {
        parsed = parsed_both;
        inner = inner;
        first = sent_all r1 keyword contextual p ip ∙ sent_inner p_table SOURCE_FILE p.nodes back1 has1 plain all;
        rest = sent_from q_table 0 1 (errors_moved (q.nodes ++ Exit ∷ []));
        second = sent_all r2 keyword contextual q iq;
        sent =
            sym (sent_from-sent_list whole_table table steps fits)
            ∙ both_sent keyword p.text q.text p.tokens q.tokens ip.whole p.nodes q.nodes SOURCE_FILE back1 back2 (nodes_stand r2 keyword contextual q iq).clean
            (nodes_before r1 (input_of contextual p_table) 0 (statements_of (kinds_in (input_of contextual p_table))) p.nodes (all_closed (kinds_in (input_of contextual p_table)) shut).each (nodes_are r1 keyword contextual p ip))
            (front_tokens p_table SOURCE_FILE p.nodes back1 has1) (inner_all p_table SOURCE_FILE p.nodes back1 has1 plain all) (rest_tokens q_table SOURCE_FILE q.nodes back2 has2);
        errors = errors_both p.text q.text p.tokens q.tokens ip.whole (ap (λ tokens. continued (behind tokens [])) ends.tokens ∙ none_continued ends.front ends.last ends.sign);
      }

pub parts_make_whole : (keyword contextual : Keywords) → ((text : List ℕ) → keyword text ≡ kind_of_word_ignoring_case keyword_kinds text) → PartsMakeWhole keyword contextual
parts_make_whole keyword contextual knows r1 r2 rules p q ip ends iq same1 same2 hidden table = whole_is keyword contextual knows r1 r2 rules p q ip ends iq same1 same2 hidden table

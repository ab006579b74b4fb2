-- The next part of a script goes on with what is read.
use Rattle.std.proofs.Common.{◌≡◌, ◌≢◌, ◌∙◌, ℕ, ◌+◌, ◌-◌, ◌<◌, ◌≤◌, Bool, false, true, List, [], ◌∷◌, ◌++◌, length, map, take, drop, append_assoc, arith, ap, sym, subst, refl, length-append, length-drop, length-take, take-append-drop}
use Rattle.std.specs.Prelude.{All, IsUtf8}
use Rattle.std.specs.Borrow.{Bor}
use Rattle.std.proofs.lemmas.List.{drop-drop, map-append, same_from_push}
use Rattle.std.proofs.lemmas.List.Elements.{All-append}
use Rattle.std.proofs.lemmas.Str.{IsUtf8-append}
use Rattle.squawk_kinds.specs.Kinds.{EOF}
use Rattle.squawk_keywords.specs.KeywordAnswers.{contextual_keyword_of, keyword_of}
use Rattle.squawk_keywords.specs.declared.keywords.Keywords.{Keywords}
use Rattle.squawk_output.specs.Steps.{Step}
use Rattle.squawk_table.specs.RawTable.{IsTable, Table, table_of}
use Rattle.squawk_table.specs.Sent.{sent_list}
use Rattle.squawk_table.specs.Shape.{Fits}
use Rattle.squawk_table.specs.declared.shortcuts.str_step.OwnedStep.{OwnedStep}
use Rattle.squawk_table.specs.declared.shortcuts.str_step.OwnedStep.TheVariants as sent
use Rattle.squawk_table.proofs.TableLemmas.{IsTable-of_kinds}
use Rattle.squawk_tokens.specs.AcceptedTokens.{AreAcceptedTokens}
use Rattle.squawk_tokens.specs.LexicalErrors.{LexicalError, shifted}
use Rattle.squawk_tokens.specs.declared.token.Token.{Token}
use Rattle.squawk_tokens.proofs.StandApart.{stand_apart}
use Rattle.rule_grammar.specs.declared.rules.RuleGrammar.{RuleGrammar}
use Rattle.rule_grammar.specs.declared.table.Hidden.{Hidden}
use Rattle.sql_lexer.specs.ScriptEnds.{statement_at, words_from}
use Rattle.sql_lexer.specs.ScriptLexing.{Lexing}
use Rattle.sql_lexer.specs.Scripts.{script_tokens}
use Rattle.sql_lexer.specs.declared.statements.Statement.TheVariants.{Start}
use Rattle.sql_words.specs.SqlVocabulary.{KnowsKeywords}
use Rattle.sql_grammar.specs.CutParts.{CutsPart, CutsStatements, LastEnds}
use Rattle.sql_grammar.specs.Kinds.{SOURCE_FILE}
use Rattle.sql_grammar.specs.Parses.{AreOfFile}
use Rattle.sql_grammar.specs.Parts.{EndsWithStatement, IsParsedPart, Part, moved_by, steps_of, table_by}
use Rattle.sql_grammar.specs.ReadParts.{HasReadNothing, HasReadPart, IsParsedBy, Reading, StandsInText, text_left, tokens_from}
use Rattle.sql_grammar.specs.declared.Detail.TheVariants.{Nodes}
use Rattle.sql_grammar.specs.declared.script_parts.Progress.TheVariants.{Inside}
use Rattle.sql_grammar.proofs.parts.Law.{IsWhole, joined}
use Rattle.sql_grammar.proofs.ScriptStatements.{starts}
use Rattle.sql_grammar.proofs.parts.Cuts.{joined_ends, part_ends}
use Rattle.sql_grammar.proofs.parts.Roots.{root_inner, root_is}
use Rattle.sql_grammar.proofs.parts.Accepted.{both_accepted}
use Rattle.sql_grammar.proofs.parts.Tables.{bytes, kinds_both}
use Rattle.sql_grammar.proofs.parts.Whole.{parts_make_whole}
use Rattle.sql_grammar.proofs.parts.Here.{between, here, here_accepted, here_length}

-- ---- nothing moved

moved-none : (steps : List OwnedStep) → map (moved_by 0) steps ≡ steps
moved-none [] = refl
moved-none (sent.Token kind text ∷ steps) = ap (λ xs. sent.Token kind text ∷ xs) (moved-none steps)
moved-none (sent.Enter kind ∷ steps) = ap (λ xs. sent.Enter kind ∷ xs) (moved-none steps)
moved-none (sent.Exit ∷ steps) = ap (λ xs. sent.Exit ∷ xs) (moved-none steps)
moved-none (sent.Error text pos ∷ steps) =
    let same : 0 + pos ≡ pos = omega arith in
    ap (λ n. sent.Error text n ∷ map (moved_by 0) steps) same ∙ ap (λ xs. sent.Error text pos ∷ xs) (moved-none steps)

shifted-none : (errors : List LexicalError) → map (shifted 0) errors ≡ errors
shifted-none [] = refl
shifted-none (error ∷ errors) =
    let start : 0 + error.start ≡ error.start = omega arith in
    let end : 0 + error.end ≡ error.end = omega arith in
    let same : shifted 0 error ≡ error = ap (λ n. record error { start = n; end = 0 + error.end }) start ∙ ap (λ n. record error { end = n }) end in
    ap (λ e. e ∷ map (shifted 0) errors) same ∙ ap (λ es. error ∷ es) (shifted-none errors)

-- ---- its parse

module _ (vocabulary : Keywords) (rules : RuleGrammar) (old : Reading) (l : Lexing) (same_text : l.text ≡ old.lexer.text) (stands : StandsInText old.begun old.lexer) (utf8 : IsUtf8 old.lexer.text) (cut : List Token)
    (part : CutsPart old.lexer l cut) (steps : List Step)
    (table : IsTable (table_of (keyword_of vocabulary) (here old.begun old.lexer l same_text stands utf8 cut part) cut))
    (fits : Fits (table_of (keyword_of vocabulary) (here old.begun old.lexer l same_text stands utf8 cut part) cut) steps)
    (parsed : IsParsedBy rules vocabulary (here old.begun old.lexer l same_text stands utf8 cut part) cut (table_of (keyword_of vocabulary) (here old.begun old.lexer l same_text stands utf8 cut part) cut) steps)
    (some_left : old.is_last ≡ false → l.at < length old.lexer.text) where
  abbrev cuts : CutsStatements part.count old.lexer l cut
  cuts = part.cuts

  abbrev text : List ℕ
  text = old.lexer.text

  abbrev from : ℕ
  from = old.lexer.at

  abbrev piece : List ℕ
  piece = here old.begun old.lexer l same_text stands utf8 cut part

  abbrev new : Reading
  new = record { lexer = l; begun = old.begun; is_last = old.is_last; progress = Inside }

  -- the part stands in front of what was left
  pub split : text_left old ≡ piece ++ text_left new
  split =
      let rest = drop from text in
      let size : from + bytes cut - from ≡ bytes cut = omega arith in
      sym (take-append-drop (bytes cut) rest)
      ∙ (ap (λ n. take n rest ++ drop (bytes cut) rest) (sym size)
      ∙ ap (λ xs. piece ++ xs) (drop-drop (bytes cut) from text ∙ (ap (λ n. drop n text) (sym cuts.at) ∙ ap (drop l.at) (sym same_text))))

  abbrev q : Part
  q = record { text = piece; tokens = cut; nodes = parsed.file.file.nodes }

  abbrev q_table : Table
  q_table = table_by (keyword_of vocabulary) q

  steps_are : steps ≡ steps_of q
  steps_are = parsed.file.is ∙ parsed.file.file.is

  pub q_parsed : IsParsedPart parsed.by (keyword_of vocabulary) (contextual_keyword_of vocabulary) q
  q_parsed = record {
    whole = sym (here_length old.begun old.lexer l same_text stands utf8 cut part);
    table = table;
    fits = subst (Fits q_table) steps_are fits;
    file = subst (AreOfFile (Nodes parsed.by) (contextual_keyword_of vocabulary) q_table) steps_are parsed.file;
    hidden = parsed.hidden;
  }

  -- what is sent in its root
  abbrev pub inner : List OwnedStep
  inner = root_inner parsed.by (keyword_of vocabulary) (contextual_keyword_of vocabulary) q q_parsed

  pub inner_is : sent_list q_table steps ≡ sent.Enter SOURCE_FILE ∷ inner ++ sent.Exit ∷ []
  inner_is = ap (sent_list q_table) steps_are ∙ root_is parsed.by (keyword_of vocabulary) (contextual_keyword_of vocabulary) q q_parsed

  sent_q : sent_list q_table (steps_of q) ≡ sent.Enter SOURCE_FILE ∷ inner ++ sent.Exit ∷ []
  sent_q = root_is parsed.by (keyword_of vocabulary) (contextual_keyword_of vocabulary) q q_parsed

  bytes_all : bytes cut ≡ length piece
  bytes_all = sym (here_length old.begun old.lexer l same_text stands utf8 cut part)

  -- where the text goes on, it ends with a statement
  q_ends : KnowsKeywords vocabulary → from < length text → l.at < length text → EndsWithStatement (keyword_of vocabulary) (contextual_keyword_of vocabulary) q
  q_ends knows left goes_on =
      let rest = drop (bytes cut) (drop from text) in
      let start : statement_at old.lexer.place ≡ Start = starts (statement_at old.lexer.place) (stands.starts left) in
      let count : from ≡ length (take from text) + 0 = omega (arith, length-take from text, left) in
      let words : LastEnds Start (words_from text from cut) = subst (λ s. LastEnds s (words_from text from cut)) start (cuts.ends (part.some left) goes_on) in
      part_ends (keyword_of vocabulary) (contextual_keyword_of vocabulary) knows.keyword (take from text) piece rest cut q refl refl (omega (arith, bytes_all))
      (subst (λ n. LastEnds Start (words_from (take from text ++ (piece ++ rest)) n cut)) count
      (subst (λ xs. LastEnds Start (words_from xs from cut)) (between old.begun old.lexer l same_text stands utf8 cut part) words))

  -- ---- the script

  module _ (rest : List ℕ) (none : old.is_last ≡ true → rest ≡ []) (cut_left : tokens_from old.lexer.place (text_left old ++ rest) ≡ cut ++ tokens_from l.place (text_left new ++ rest)) where
    -- where the script goes on, the text does
    goes_on : 0 < length (text_left new ++ rest) → l.at < length text
    goes_on some = by_last old.is_last refl
      where
        by_last : (b : Bool) → old.is_last ≡ b → l.at < length text
        by_last true last = omega (arith, some, length-append (text_left new) rest, ap length (none last), length-drop l.at l.text, ap length same_text)
        by_last false others = some_left others

    script_is : (read : List ℕ) → (read ++ piece) ++ (text_left new ++ rest) ≡ read ++ (text_left old ++ rest)
    script_is read =
        append_assoc read piece (text_left new ++ rest) ∙ ap (λ xs. read ++ xs) (sym (append_assoc piece (text_left new) rest) ∙ ap (λ xs. xs ++ rest) (sym split))

    -- ---- the first part

    module _ (knows : KnowsKeywords vocabulary) (read : List ℕ) (errors : List LexicalError) (done : List OwnedStep) (nothing : HasReadNothing read old.lexer.place errors done) where
      read_none : length read ≡ 0
      read_none = ap length nothing.nothing

      all_tokens : script_tokens ((read ++ piece) ++ (text_left new ++ rest)) ≡ cut ++ tokens_from l.place (text_left new ++ rest)
      all_tokens =
          ap script_tokens (script_is read ∙ ap (λ xs. xs ++ (text_left old ++ rest)) nothing.nothing)
          ∙ (ap (λ place. tokens_from place (text_left old ++ rest)) (sym nothing.front) ∙ cut_left)

      pub first_read : HasReadPart vocabulary rules (read ++ piece) (text_left new ++ rest) l.place (errors ++ map (shifted (length read)) q_table.errors) (done ++ map (moved_by (length read)) inner)
      first_read = record {
        part = q;
        by = parsed.by;
        same = parsed.same;
        parsed = q_parsed;
        text = ap (λ xs. xs ++ piece) (sym nothing.nothing);
        accepted = here_accepted old.begun old.lexer l same_text stands utf8 cut part;
        tokens = all_tokens;
        ends = λ some. let lt = goes_on some in q_ends knows (omega (arith, lt, cuts.at)) lt;
        errors_are = sym (ap (λ n. errors ++ map (shifted n) q_table.errors) read_none ∙ (ap (λ es. es ++ map (shifted 0) q_table.errors) nothing.none ∙ shifted-none q_table.errors));
        sent_is = sent_q
            ∙ sym (ap (λ n. (done ++ map (moved_by n) inner) ++ sent.Exit ∷ []) read_none
            ∙ (ap (λ xs. (done ++ xs) ++ sent.Exit ∷ []) (moved-none inner) ∙ ap (λ xs. (xs ++ inner) ++ sent.Exit ∷ []) nothing.entered));
      }

    -- ---- another one

    module _ (knows : KnowsKeywords vocabulary) (read : List ℕ) (errors : List LexicalError) (done : List OwnedStep) (before : HasReadPart vocabulary rules read (text_left old ++ rest) old.lexer.place errors done)
        (left : from < length text) (short : length read + length piece ≤ 4294967295) where
      abbrev p : Part
      p = before.part

      abbrev both : Part
      both = joined p q

      p_length : length p.text ≡ length read
      p_length = ap length before.text

      -- the rules of both
      abbrev both_by : Bor RuleGrammar
      both_by =
          let r = before.by in
          let table = r.now.table in
          let hidden = table.hidden in
          let tokens = hidden.tokens in
          record r { now = record r.now { table = record table { hidden = record hidden { tokens = record tokens { now = tokens.now ++ parsed.by.now.table.hidden.tokens.now } } } } }

      -- the rules of what is read, where others are hidden
      hides : (others : Hidden) → record before.by.now { table = record before.by.now.table { hidden = others } } ≡ record rules { table = record rules.table { hidden = others } }
      hides others = ap (λ (g : RuleGrammar). record g { table = record g.table { hidden = others } }) before.same

      both_tokens : script_tokens ((read ++ piece) ++ (text_left new ++ rest)) ≡ both.tokens ++ tokens_from l.place (text_left new ++ rest)
      both_tokens =
          ap script_tokens (script_is read)
          ∙ (before.tokens ∙ (ap (λ ts. p.tokens ++ ts) cut_left ∙ sym (append_assoc p.tokens cut (tokens_from l.place (text_left new ++ rest)))))

      both_ok : AreAcceptedTokens both.text both.tokens
      both_ok =
          both_accepted p.text piece before.parsed.table.utf8 table.utf8 p.tokens cut before.accepted
          (here_accepted old.begun old.lexer l same_text stands utf8 cut part) (omega (arith, p_length, short))

      both_utf8 : IsUtf8 both.text
      both_utf8 = IsUtf8-append p.text piece before.parsed.table.utf8 table.utf8

      both_table : IsTable (table_by (keyword_of vocabulary) both)
      both_table =
          let kinds = kinds_both (keyword_of vocabulary) p.text piece p.tokens cut before.parsed.whole in
          IsTable-of_kinds (keyword_of vocabulary) both.text both.tokens both_ok
          (subst (All (λ kind. kind ≢ EOF)) (sym kinds) (All-append (λ kind. kind ≢ EOF) _ _ before.parsed.table.no_end table.no_end)) both_utf8
          (stand_apart both.text both.tokens both_utf8 both_ok)

      p_ends : EndsWithStatement (keyword_of vocabulary) (contextual_keyword_of vocabulary) p
      p_ends = before.ends (omega (arith, left, length-append (text_left old) rest, length-drop from text))

      whole : IsWhole both_by (keyword_of vocabulary) (contextual_keyword_of vocabulary) p q
      whole =
          parts_make_whole (keyword_of vocabulary) (contextual_keyword_of vocabulary) knows.keyword before.by parsed.by both_by p q before.parsed p_ends q_parsed
          refl
          (parsed.same ∙ sym (hides parsed.by.now.table.hidden)) refl both_table

      done_is : sent.Enter SOURCE_FILE ∷ whole.inner ≡ done
      done_is = (same_from_push (sent.Enter SOURCE_FILE ∷ whole.inner) done sent.Exit sent.Exit (sym whole.first ∙ before.sent_is)).0

      rest_is : whole.rest ≡ inner ++ sent.Exit ∷ []
      rest_is = ap (drop 1) (sym whole.second ∙ sent_q)

      pub next_read : HasReadPart vocabulary rules (read ++ piece) (text_left new ++ rest) l.place (errors ++ map (shifted (length read)) q_table.errors) (done ++ map (moved_by (length read)) inner)
      next_read = record {
        part = both;
        by = both_by;
        same = hides both_by.now.table.hidden;
        parsed = whole.parsed;
        text = ap (λ xs. xs ++ piece) before.text;
        accepted = both_ok;
        tokens = both_tokens;
        ends = λ some. joined_ends (keyword_of vocabulary) (contextual_keyword_of vocabulary) knows.keyword p q before.parsed.whole p_ends (q_ends knows left (goes_on some));
        errors_are = whole.errors
            ∙ (ap (λ n. (table_by (keyword_of vocabulary) p).errors ++ map (shifted n) q_table.errors) p_length ∙ ap (λ es. es ++ map (shifted (length read)) q_table.errors) before.errors_are);
        sent_is = whole.sent
            ∙ (ap (λ n. sent.Enter SOURCE_FILE ∷ whole.inner ++ map (moved_by n) whole.rest) p_length
            ∙ (ap (λ xs. xs ++ map (moved_by (length read)) whole.rest) done_is
            ∙ (ap (λ xs. done ++ map (moved_by (length read)) xs) rest_is
            ∙ (ap (λ xs. done ++ xs) (map-append (moved_by (length read)) inner (sent.Exit ∷ [])) ∙ sym (append_assoc done (map (moved_by (length read)) inner) (sent.Exit ∷ []))))));
      }

-- What is sent for a part: its root, all of its text, and errors before its end.
use Rattle.std.proofs.Common.{◌≡◌, ◌∙◌, ℕ, ◌+◌, ◌<◌, List, [], ◌∷◌, ◌++◌, length, map, slice_index, get_or, append_assoc, arith, ap, sym, subst, inl, inr}
use Rattle.std.specs.Prelude.{All}
use Rattle.std.specs.Borrow.{Bor}
use Rattle.std.specs.Str.{chars}
use Rattle.std.proofs.lemmas.Bool.{cases_lt}
use Rattle.std.proofs.lemmas.List.{same_from_push}
use Rattle.squawk_kinds.specs.Keywords.{Keywords}
use Rattle.squawk_keywords.specs.KeywordPairs.{kind_of_word_ignoring_case}
use Rattle.squawk_output.specs.Steps.{Exit}
use Rattle.squawk_table.specs.ParserInput.{input_of, kinds_in}
use Rattle.squawk_table.specs.RawTable.{Table}
use Rattle.squawk_table.specs.Sending.{end_from, trivia_here}
use Rattle.squawk_table.specs.Sent.{errors_moved, sent_list, sent_raw, texts_of}
use Rattle.squawk_table.specs.declared.shortcuts.str_step.OwnedStep.{OwnedStep}
use Rattle.squawk_table.specs.declared.shortcuts.str_step.OwnedStep.TheVariants as sent
use Rattle.squawk_table.proofs.AllSent.{whole_text}
use Rattle.squawk_table.proofs.SentFrom.{sends_all}
use Rattle.squawk_tokens.specs.ErrorRanges.{LiesIn}
use Rattle.squawk_tokens.specs.LexicalErrors.{LexicalError}
use Rattle.rule_grammar.specs.declared.rules.RuleGrammar.{RuleGrammar}
use Rattle.sql_words.specs.SqlKinds.{keyword_kinds}
use Rattle.sql_grammar.specs.Kinds.{SOURCE_FILE}
use Rattle.sql_grammar.specs.Parts.{EndsWithStatement, IsParsedPart, Part, steps_of, table_by}
use Rattle.sql_grammar.specs.ReadParts.{ErrorsBelow}
use Rattle.sql_grammar.specs.Statements.{statements_of}
use Rattle.sql_grammar.proofs.parts.Ends.{front_tokens, sent_inner, tokens-end}
use Rattle.sql_grammar.proofs.parts.Files.{all_closed}
use Rattle.sql_grammar.proofs.parts.Nodes.{nodes_before}
use Rattle.sql_grammar.proofs.parts.Placed.{errors_below}
use Rattle.sql_grammar.proofs.parts.Sending.{inner_end, inner_sent, root_sent}
use Rattle.sql_grammar.proofs.parts.Whole.{back, closed, ends_all, nodes_are, plain_end, sent_all, tokens_have}

module _ (rules : Bor RuleGrammar) (keyword contextual : Keywords) (p : Part) (is : IsParsedPart rules keyword contextual p) where
  abbrev t : Table
  t = table_by keyword p

  -- what is sent in the root
  abbrev pub root_inner : List OwnedStep
  root_inner = inner_sent t p.nodes ++ map sent_raw (trivia_here t (inner_end t p.nodes) 1 Exit)

  pub root_is : sent_list t (steps_of p) ≡ sent.Enter SOURCE_FILE ∷ root_inner ++ sent.Exit ∷ []
  root_is =
      sent_all rules keyword contextual p is
      ∙ (root_sent t SOURCE_FILE p.nodes (back rules keyword contextual p is)
      ∙ ap (λ steps. sent.Enter SOURCE_FILE ∷ steps) (sym (append_assoc (inner_sent t p.nodes) (map sent_raw (trivia_here t (inner_end t p.nodes) 1 Exit)) (sent.Exit ∷ []))))

  pub whole_sent : texts_of (sent_list t (steps_of p)) ≡ chars p.text
  whole_sent =
      whole_text t is.table (steps_of p) is.fits (end_from t 0 0 (errors_moved (steps_of p)))
      (tokens-end t 0 0 (errors_moved (steps_of p)) (tokens_have rules keyword contextual p is)) (sends_all t is.table (steps_of p) is.fits).raw_left
      (ends_all rules keyword contextual p is)

  -- lexical errors stand before the end
  pub lexical_below : All (λ error. error.start < length p.text) t.errors
  lexical_below = λ i d lt. in_text (get_or t.errors i d) (is.table.errors.each i d lt)
    where
      in_text : (error : LexicalError) → (i : ℕ) × LiesIn (slice_index t.starts) (length t.kinds) error i → error.start < length p.text
      in_text error (i, lies) = elim (cases_lt (i + 1) (length t.kinds)) [
        | inl lt ↦ omega (arith, lies.nonempty, lies.ends, is.table.ascends (i + 1) (length t.kinds) lt (omega (arith, is.table.entries)), is.table.ends)
        | inr past ↦
            let last : i + 1 ≡ length t.kinds = omega (arith, past, lies.within) in
            omega (arith, lies.nonempty, lies.ends, ap (slice_index t.starts) last, is.table.ends)
      ]

-- those that are sent stand before the end of one that ends with a statement
module _ (keyword contextual : Keywords) (knows : (text : List ℕ) → keyword text ≡ kind_of_word_ignoring_case keyword_kinds text)
    (rules : Bor RuleGrammar) (p : Part) (is : IsParsedPart rules keyword contextual p) (ends : EndsWithStatement keyword contextual p) where
  abbrev pt : Table
  pt = table_by keyword p

  pub sent_below : (done : List OwnedStep) → sent_list pt (steps_of p) ≡ done ++ sent.Exit ∷ [] → ErrorsBelow (length p.text) done
  sent_below done same =
      let depth = back rules keyword contextual p is in
      let has = tokens_have rules keyword contextual p is in
      let kinds = kinds_in (input_of contextual pt) in
      let inner = inner_sent pt p.nodes in
      let all : sent_list pt (steps_of p) ≡ sent.Enter SOURCE_FILE ∷ inner ++ sent.Exit ∷ [] =
      sent_all rules keyword contextual p is
      ∙ sent_inner pt SOURCE_FILE p.nodes depth has (plain_end keyword contextual knows rules p is ends) (ends_all rules keyword contextual p is) in
      let front : sent.Enter SOURCE_FILE ∷ inner ≡ done = (same_from_push (sent.Enter SOURCE_FILE ∷ inner) done sent.Exit sent.Exit (sym all ∙ same)).0 in
      subst (ErrorsBelow (length p.text)) front
      (errors_below pt is.table 0 1 (errors_moved p.nodes)
      (nodes_before rules (input_of contextual pt) 0 (statements_of kinds) p.nodes (all_closed kinds (closed keyword contextual knows rules p is ends)).each (nodes_are rules keyword contextual p is))
      (front_tokens pt SOURCE_FILE p.nodes depth has))

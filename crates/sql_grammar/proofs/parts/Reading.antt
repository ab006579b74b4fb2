-- The parts of a script, and all of them.
use Rattle.std.proofs.Common.{◌≡◌, ◌∙◌, ℕ, ◌+◌, ◌-◌, ◌<◌, ◌≤◌, Bool, false, true, nat_le, nat_lt, is_some, drop, List, [], ◌∷◌, ◌++◌, length, map, arith, ap, sym, subst, refl, length-append, length-drop}
use Rattle.std.specs.Prelude.{All, IsUtf8, encode_utf8_all, slice_range}
use Rattle.std.specs.Str.{chars}
use Rattle.std.proofs.lemmas.List.{append-nil, drop-append-le, drop_all}
use Rattle.std.proofs.lemmas.Bool.{and_parts, false≢true, leb-false, leb-true, ltb-true}
use Rattle.std.proofs.lemmas.Grind.{flat_map-append}
use Rattle.std.proofs.lemmas.Str.{encodes-chars}
use Rattle.squawk_keywords.specs.KeywordAnswers.{contextual_keyword_of, keyword_of}
use Rattle.squawk_keywords.specs.declared.keywords.Keywords.{Keywords}
use Rattle.squawk_output.specs.Steps.{Step, errors_in}
use Rattle.squawk_table.specs.RawTable.{IsTable, Table, table_of}
use Rattle.squawk_table.specs.Sent.{bytes_of, sent_list, text_in, texts_of}
use Rattle.squawk_table.specs.Shape.{Fits}
use Rattle.squawk_table.specs.declared.shortcuts.str_step.OwnedStep.{OwnedStep}
use Rattle.squawk_table.specs.declared.shortcuts.str_step.OwnedStep.TheVariants as sent
use Rattle.squawk_table.proofs.SourceChars.{bytes_of-texts}
use Rattle.squawk_tokens.specs.LexicalErrors.{LexicalError, shifted}
use Rattle.squawk_tokens.specs.declared.token.Token.{Token}
use Rattle.rule_grammar.specs.declared.rules.RuleGrammar.{RuleGrammar}
use Rattle.sql_lexer.specs.Lines.{EndsLine}
use Rattle.sql_lexer.specs.ScriptLexing.{Lexing, longer, script_place, tokens_left}
use Rattle.sql_lexer.specs.declared.script.places.Place.{Place}
use Rattle.sql_lexer.specs.Scripts.{place_behind, script_tokens, token_at}
use Rattle.sql_lexer.specs.Tokens.{tokens_by}
use Rattle.sql_words.specs.SqlVocabulary.{KnowsKeywords}
use Rattle.sql_grammar.specs.CutParts.{CutsInScript, CutsStatements, is_over, is_over_at}
use Rattle.sql_grammar.specs.Parses.{AreOfFile}
use Rattle.sql_grammar.specs.Parts.{moved_by, steps_of, table_by}
use Rattle.sql_grammar.specs.ReadParts.{AreBefore, HasRead, HasReadPart, IsOfStatements, IsParsedBy, IsScriptParse, NoneLeft, ReadSoFar, Reading, ReadsPart, StandsInText, at_front, script_table, text_left, tokens_from}
use Rattle.sql_grammar.specs.StrayStrings.{stray_strings}
use Rattle.sql_grammar.specs.declared.Detail.TheVariants.{Nodes}
use Rattle.sql_grammar.specs.declared.script_parts.Progress.{Progress}
use Rattle.sql_grammar.specs.declared.script_parts.Progress.TheVariants.{Front, Inside}
use Rattle.sql_grammar.specs.declared.script_parts.ScriptPart.{ScriptPart}
use Rattle.sql_grammar.proofs.parts.CutLoop.{none_at_end}
use Rattle.sql_grammar.proofs.parts.Roots.{lexical_below, sent_below, whole_sent}
use Rattle.sql_grammar.proofs.parts.Continued.{never_front}
use Rattle.sql_grammar.proofs.parts.Here.{here, here_length, here_within}
use Rattle.sql_grammar.proofs.parts.NextPart.{inner, inner_is, first_read, next_read, split}

-- ---- before a part

bytes-moved : (done : List OwnedStep) (text : List ℕ) → IsUtf8 text → texts_of (done ++ sent.Exit ∷ []) ≡ chars text → bytes_of done ≡ length text
bytes-moved done text utf8 whole =
    let none : texts_of (done ++ sent.Exit ∷ []) ≡ texts_of done = flat_map-append text_in done (sent.Exit ∷ []) ∙ append-nil (texts_of done) in
    bytes_of-texts done ∙ (ap (λ cs. length (encode_utf8_all cs)) (sym none ∙ whole) ∙ ap length (encodes-chars text utf8))

module _ (vocabulary : Keywords) (rules : RuleGrammar) (read left : List ℕ) (place : Place) (knows : KnowsKeywords vocabulary) (errors : List LexicalError) (done : List OwnedStep)
    (has : HasReadPart vocabulary rules read left place errors done) where
  sent_text : texts_of (done ++ sent.Exit ∷ []) ≡ chars has.part.text
  sent_text = ap texts_of (sym has.sent_is) ∙ whole_sent has.by (keyword_of vocabulary) (contextual_keyword_of vocabulary) has.part has.parsed

  pub part_before : 0 < length left → AreBefore (length read) errors done
  part_before some =
      let p = has.part in
      subst (λ n. AreBefore n errors done) (ap length has.text)
      (record {
        lexical = subst (All (λ error. error.start < length p.text)) has.errors_are (lexical_below has.by (keyword_of vocabulary) (contextual_keyword_of vocabulary) p has.parsed);
        sent_errors = sent_below (keyword_of vocabulary) (contextual_keyword_of vocabulary) knows.keyword has.by p has.parsed (has.ends some) done has.sent_is;
        bytes = bytes-moved done p.text has.parsed.table.utf8 sent_text;
      })

  -- ---- all of the script

  pub all_read : left ≡ [] → IsScriptParse vocabulary read errors (done ++ sent.Exit ∷ [])
  all_read none =
      let p = has.part in
      let all : script_tokens read ≡ p.tokens =
      ap script_tokens (sym (append-nil read) ∙ ap (λ xs. read ++ xs) (sym none)) ∙ (has.tokens ∙ (ap (λ xs. p.tokens ++ tokens_from place xs) none ∙ append-nil p.tokens)) in
      let same : table_by (keyword_of vocabulary) p ≡ script_table vocabulary read =
      ap (λ text. table_of (keyword_of vocabulary) text p.tokens) has.text ∙ ap (table_of (keyword_of vocabulary) read) (sym all) in
      let strays : stray_strings p.text p.tokens ≡ stray_strings read (script_tokens read) = ap (λ text. stray_strings text p.tokens) has.text ∙ ap (stray_strings read) (sym all) in
      record {
        steps = steps_of p;
        fits = subst (λ t. Fits t (steps_of p)) same has.parsed.fits;
        by_rules = (
          has.by,
          has.parsed.hidden ∙ strays,
          subst (λ t. AreOfFile (Nodes has.by) (contextual_keyword_of vocabulary) t (steps_of p)) same has.parsed.file,
        );
        whole = sent_text ∙ ap chars has.text;
        errors_are = ap (λ (t : Table). t.errors) (sym same) ∙ has.errors_are;
        sent_is = ap (λ t. sent_list t (steps_of p)) (sym same) ∙ has.sent_is;
      }

-- ---- the next part

past_end : (l : Lexing) → nat_le (length l.text) l.at ≡ false → l.at < length l.text
past_end l e = omega (arith, leb-false (length l.text) l.at e)

module _ (vocabulary : Keywords) (rules : RuleGrammar) (old : Reading) (l : Lexing) (same_text : l.text ≡ old.lexer.text) (stands : StandsInText old.begun old.lexer)
    (cut : List Token) (least : ℕ) (in_script : CutsInScript least old.is_last old.lexer l cut) (lines : old.is_last ≡ false → 0 < length old.lexer.text → EndsLine old.lexer.text) (part : ScriptPart) (start : part.start ≡ old.lexer.at)
    (of_part : part.table ≡ table_of (keyword_of vocabulary) (here old.begun old.lexer l same_text stands stands.utf8 cut in_script.part) cut)
    (table : IsTable part.table) (fits : Fits part.table part.output.steps)
    (parsed : IsParsedBy rules vocabulary (here old.begun old.lexer l same_text stands stands.utf8 cut in_script.part) cut part.table part.output.steps) (goes_on : is_over old ≡ false)
    (whole : texts_of (sent_list part.table part.output.steps) ≡ chars part.table.text) (few : (length part.output.steps ≤ 4294967295) × (errors_in part.output.steps ≤ 2147483648)) where
  abbrev part_text : List ℕ
  part_text = here old.begun old.lexer l same_text stands stands.utf8 cut in_script.part

  abbrev part_table : Table
  part_table = table_of (keyword_of vocabulary) part_text cut

  abbrev part_steps : List Step
  part_steps = part.output.steps

  is_table : IsTable part_table
  is_table = subst IsTable of_part table

  fits_table : Fits part_table part_steps
  fits_table = subst (λ t. Fits t part_steps) of_part fits

  parsed_table : IsParsedBy rules vocabulary part_text cut part_table part_steps
  parsed_table = subst (λ t. IsParsedBy rules vocabulary part_text cut t part_steps) of_part parsed

  abbrev cuts : CutsStatements in_script.part.count old.lexer l cut
  cuts = in_script.part.cuts

  abbrev next : Reading
  next = record { lexer = l; begun = old.begun; is_last = old.is_last; progress = Inside }

  -- where other texts follow, some of this one is left
  some_left : old.is_last ≡ false → l.at < length old.lexer.text
  some_left others =
      let left = in_script.ends others in
      omega (arith, ltb-true l.at (length l.text) (and_parts (nat_lt l.at (length l.text)) (is_some (script_place l.place)) left).0, ap length same_text)

  -- with no other text
  alone : (rest : List ℕ) (m : Lexing) → rest ≡ [] → tokens_left (longer rest m) ≡ tokens_left m
  alone rest m none = ap (λ xs. tokens_left (longer xs m)) none ∙ ap (λ text. tokens_left (record m { text = text })) (append-nil m.text)

  cut_with : (b : Bool) → old.is_last ≡ b → (rest : List ℕ) → (old.is_last ≡ true → rest ≡ []) → tokens_left (longer rest old.lexer) ≡ cut ++ tokens_left (longer rest l)
  cut_with true last rest none =
      alone rest old.lexer (none last) ∙ (cuts.left ∙ ap (λ ts. cut ++ ts) (sym (alone rest l (none last))))
  cut_with false others rest none = in_script.longer others (lines others (omega (arith, some_left others))) rest

  -- what is left of a text, and what stands after it
  left_with : (m : Lexing) (rest : List ℕ) → m.at ≤ length m.text → tokens_from m.place (drop m.at m.text ++ rest) ≡ tokens_left (longer rest m)
  left_with m rest le = ap (tokens_by token_at place_behind m.place 0) (sym (drop-append-le m.at m.text rest le))

  end_within : l.at ≤ length old.lexer.text
  end_within = omega (arith, cuts.at, here_within old.begun old.lexer l same_text stands stands.utf8 cut in_script.part)

  cut_left : (rest : List ℕ) → (old.is_last ≡ true → rest ≡ []) → tokens_from old.lexer.place (text_left old ++ rest) ≡ cut ++ tokens_from l.place (text_left next ++ rest)
  cut_left rest none =
      left_with old.lexer rest (omega (arith, cuts.at, end_within))
      ∙ (cut_with old.is_last refl rest none ∙ ap (λ ts. cut ++ ts) (sym (left_with l rest (omega (arith, end_within, ap length same_text)))))

  abbrev sent_inner : List OwnedStep
  sent_inner = inner vocabulary rules old l same_text stands stands.utf8 cut in_script.part part_steps is_table fits_table parsed_table some_left

  -- what is left before the part
  left_before : (rest : List ℕ) → old.lexer.at < length old.lexer.text → 0 < length (text_left old ++ rest)
  left_before rest lt = omega (arith, lt, length-append (text_left old) rest, length-drop old.lexer.at old.lexer.text)

  goes : (p : Progress) → is_over_at p old.lexer ≡ false → KnowsKeywords vocabulary → (rest read : List ℕ) (errors : List LexicalError) (done : List OwnedStep) → (old.is_last ≡ true → rest ≡ [])
      → ReadSoFar p vocabulary rules read (text_left old ++ rest) old.lexer.place errors done → length read + length part_text ≤ 4294967295
      → HasReadPart vocabulary rules (read ++ part_text) (text_left next ++ rest) l.place (errors ++ map (shifted (length read)) part_table.errors) (done ++ map (moved_by (length read)) sent_inner)
  goes Front on knows rest read errors done none has short =
      first_read vocabulary rules old l same_text stands stands.utf8 cut in_script.part part_steps is_table fits_table parsed_table some_left rest none (cut_left rest none) knows read errors done has
  goes Inside on knows rest read errors done none has short =
      next_read vocabulary rules old l same_text stands stands.utf8 cut in_script.part part_steps is_table fits_table parsed_table some_left rest none (cut_left rest none) knows read errors done has
      (past_end old.lexer on) short

  stood : (p : Progress) → is_over_at p old.lexer ≡ false → KnowsKeywords vocabulary → (rest read : List ℕ) (errors : List LexicalError) (done : List OwnedStep)
      → ReadSoFar p vocabulary rules read (text_left old ++ rest) old.lexer.place errors done → AreBefore (length read) errors done
  stood Front on knows rest read errors done has =
      subst (λ n. AreBefore n errors done) (sym (ap length has.nothing))
      (subst (λ es. AreBefore 0 es done) (sym has.none)
      (subst (AreBefore 0 []) (sym has.entered) (record { lexical = λ i d lt. absurd (omega (arith, lt)); sent_errors = tt; bytes = refl })))
  stood Inside on knows rest read errors done has = part_before vocabulary rules read (text_left old ++ rest) old.lexer.place knows errors done has (left_before rest (past_end old.lexer on))

  goes_down : (p : Progress) → is_over_at p old.lexer ≡ false → length l.text - l.at + 0 < length old.lexer.text - old.lexer.at + at_front p
  goes_down Front on = omega (arith, ap length same_text, cuts.at)
  goes_down Inside on =
      let lt = past_end old.lexer on in
      omega (arith, ap length same_text, lt, cuts.goes_on (in_script.part.some lt) lt)

  slice_is : part.table ≡ table_of (keyword_of vocabulary) (slice_range old.lexer.text old.lexer.at l.at) cut
  slice_is = of_part ∙ ap (λ n. table_of (keyword_of vocabulary) (slice_range old.lexer.text old.lexer.at n) cut) (sym cuts.at)

  statements : IsOfStatements vocabulary rules old next part
  statements = record {
    count = in_script.part.count;
    after = cuts.after;
    some = in_script.part.some;
    ends = in_script.ends;
    tokens = cut;
    cut = cut_with old.is_last refl;
    table = slice_is;
    parsed = subst (λ text. IsParsedBy rules vocabulary text cut part.table part.output.steps) (ap (λ (t : Table). t.text) (sym of_part)) parsed;
  }

  text_is : part.table.text ≡ part_text
  text_is = ap (λ (t : Table). t.text) of_part

  size : l.at ≡ part.start + length part.table.text
  size = omega (arith, cuts.at, start, ap length text_is, here_length old.begun old.lexer l same_text stands stands.utf8 cut in_script.part)

  pub reads_part : ReadsPart vocabulary rules old next part
  reads_part = record {
    same = (same_text, (refl, refl));
    goes_on = goes_down old.progress goes_on;
    inside = refl;
    place = λ others. never_front old.lexer l cut in_script.part.count cuts (cuts.goes_on (in_script.part.some (before_end others)) (before_end others));
    start = start;
    end = size;
    text = split vocabulary rules old l same_text stands stands.utf8 cut in_script.part part_steps is_table fits_table parsed_table some_left ∙ ap (λ xs. xs ++ text_left next) (sym text_is);
    statements = statements;
    fits = fits;
    whole = whole;
    short = omega (arith, size, end_within, stands.accepted.short);
    few = few;
    inner = sent_inner;
    sent_is = ap (λ t. sent_list t part_steps) of_part ∙ inner_is vocabulary rules old l same_text stands stands.utf8 cut in_script.part part_steps is_table fits_table parsed_table some_left;
    before = λ rest read errors done has. stood old.progress goes_on has.0 rest read errors done has.1;
    reads = λ rest read errors done none has short. (
      has.0,
      subst (λ (t : Table). HasReadPart vocabulary rules (read ++ t.text) (text_left next ++ rest) l.place (errors ++ map (shifted (length read)) t.errors) (done ++ map (moved_by (length read)) sent_inner)) (sym of_part)
          (goes old.progress goes_on has.0 rest read errors done none has.1 (omega (arith, short, ap length text_is))),
    );
  }
    where
      before_end : old.is_last ≡ false → old.lexer.at < length old.lexer.text
      before_end others = omega (arith, some_left others, cuts.at)

-- after the last one
module _ (vocabulary : Keywords) (rules : RuleGrammar) (r : Reading) (read : List ℕ) (errors : List LexicalError) (done : List OwnedStep) where
  pub ends_read : r.progress ≡ Inside → length r.lexer.text ≤ r.lexer.at → HasRead vocabulary rules r [] read errors done → IsScriptParse vocabulary read errors (done ++ sent.Exit ∷ [])
  ends_read inside over has =
      all_read vocabulary rules read (text_left r ++ []) r.lexer.place has.0 errors done (subst (λ p. ReadSoFar p vocabulary rules read (text_left r ++ []) r.lexer.place errors done) inside has.1)
      (append-nil (text_left r) ∙ drop_all r.lexer.at r.lexer.text over)

-- ---- no other part

pub over_inside : (p : Progress) (l : Lexing) → is_over_at p l ≡ true → p ≡ Inside
over_inside Front l e = absurd (false≢true e)
over_inside Inside l e = refl

pub over_none : (p : Progress) (b : Bool) (l : Lexing) → is_over_at p l ≡ true → NoneLeft b l
over_none Front b l e = absurd (false≢true e)
over_none Inside true l e = leb-true (length l.text) l.at e
over_none Inside false l e = none_at_end l (leb-true (length l.text) l.at e)

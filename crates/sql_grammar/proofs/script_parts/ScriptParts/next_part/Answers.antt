use Rattle.std.proofs.Common.{◌≡◌, ◌≢◌, ◌∙◌, ℕ, ◌+◌, ◌<◌, ◌≤◌, ⊎_elim, inl, inr, arith, length, false, List, ◌++◌, ap, subst, sym, sum_by, refl, rules}
use Rattle.std.specs.Prelude.{IsCharBoundary, slice_range}
use Rattle.std.specs.Str.{chars}
use Rattle.squawk_keywords.specs.KeywordAnswers.{contextual_keyword_of, keyword_of}
use Rattle.squawk_table.specs.RawTable.{Table, table_of}
use Rattle.squawk_table.specs.Sent.{sent_list, texts_of}
use Rattle.squawk_tokens.specs.AcceptedTokens.{AreAcceptedTokens}
use Rattle.squawk_tokens.specs.declared.token.Token.{Token}
use Rattle.squawk_parser.specs.declared.parser.parse_error.ParseError.TheVariants.{OutOfMemory}
use Rattle.sql_lexer.specs.Lines.{EndsLine}
use Rattle.sql_lexer.specs.ScriptLexing.{tokens_left}
use Rattle.sql_grammar.specs.CutParts.{CutsInScript, CutsInText, RefusesTokens, is_over}
use Rattle.sql_grammar.specs.Parses.{IsRefusedByRules}
use Rattle.sql_grammar.specs.ReadParts.{IsParsedBy, IsRefusedPart, NoneLeft, ReadsPart, Reading}
use Rattle.sql_grammar.specs.declared.script_parts.Progress.TheVariants.{Inside}
use Rattle.sql_grammar.specs.declared.script_parts.ScriptPart.{ScriptPart}
use Rattle.sql_grammar.proofs.parts.Here.{here_accepted, here_begins, here_ends, stands_next}
use Rattle.sql_grammar.proofs.parts.Reading.{ends_read, over_inside, over_none, reads_part}
use Rattle.sql_grammar.proofs.script_parts.ScriptParts.next_part.Goals as goal

abbrev bytes : List Token → ℕ
bytes tokens = sum_by (λ (t : Token). t.len) tokens

pub returns-then-is_over-clause-over : goal.returns-then-is_over-clause-over
returns-then-is_over-clause-over c = λ none.
    let me = c.args.self.now in
    let over = sym c.is_over.ensures ∙ c.if-is_over.true in
    record { same = refl; none = over_none me.progress me.is_last me.lexer over; inside = λ last. over_inside me.progress me.lexer over }

pub returns-then-is_over-clause-ends : goal.returns-then-is_over-clause-ends
returns-then-is_over-clause-ends c = λ last over read errors done has.
    let me = c.args.self.now in
    ends_read c.args.vocabulary.now c.args.rules.now me read errors done (over_inside me.progress me.lexer (sym c.is_over.ensures ∙ c.if-is_over.true)) over has

pub returns-clause-ends : goal.returns-clause-ends
returns-clause-ends c = λ last over read errors done has.
    let me = c.self.inside in
    ends_read c.args.vocabulary.now c.args.rules.now (record { lexer = c.in-Some.lexer; begun = me.begun; is_last = me.is_last; progress = Inside }) read errors done refl over has

pub range-text-requires-clause-start_boundary : goal.range-text-requires-clause-start_boundary
range-text-requires-clause-start_boundary c =
    let me = c.self.inside in
    let tokens = c.in-Some.tokens.items in
    let l = c.in-Some.lexer in
    let cuts : CutsInScript c.args.least me.is_last me.lexer l tokens = subst (CutsInText c.args.least me.is_last me.lexer) c.in-Some.is c.in_ok-lexer.ensures.cuts in
    let stands = c.self.invariant.stands in
    let start : IsCharBoundary me.text.now c.position-start.result =
    subst (λ text. IsCharBoundary text c.position-start.result) c.self.invariant.of_text
    (subst (IsCharBoundary me.lexer.text) (sym c.position-start.ensures.is) (here_begins me.begun me.lexer l cuts.text stands stands.utf8 tokens cuts.part)) in
    λ some. start

pub range-text-requires-clause-end_boundary : goal.range-text-requires-clause-end_boundary
range-text-requires-clause-end_boundary c =
    let me = c.self.inside in
    let tokens = c.in-Some.tokens.items in
    let l = c.in-Some.lexer in
    let cuts : CutsInScript c.args.least me.is_last me.lexer l tokens = subst (CutsInText c.args.least me.is_last me.lexer) c.in-Some.is c.in_ok-lexer.ensures.cuts in
    let stands = c.self.invariant.stands in
    subst (λ text. IsCharBoundary text c.position.result) c.self.invariant.of_text
    (subst (IsCharBoundary me.lexer.text) (sym (c.position.ensures.is ∙ cuts.part.cuts.at)) (here_ends me.begun me.lexer l cuts.text stands stands.utf8 tokens cuts.part))

pub parse_tokens-requires : goal.parse_tokens-requires
parse_tokens-requires c =
    let me = c.self.inside in
    let tokens = c.in-Some.tokens.items in
    let l = c.in-Some.lexer in
    let cuts : CutsInScript c.args.least me.is_last me.lexer l tokens = subst (CutsInText c.args.least me.is_last me.lexer) c.in-Some.is c.in_ok-lexer.ensures.cuts in
    let stands = c.self.invariant.stands in
    let here = slice_range me.lexer.text me.lexer.at (me.lexer.at + bytes tokens) in
    let text : c.range-text.result.now ≡ here =
    c.range-text.ensures.value
    ∙ (ap (λ text. slice_range text c.position-start.result c.position.result) (sym c.self.invariant.of_text)
    ∙ (ap (λ n. slice_range me.lexer.text n c.position.result) c.position-start.ensures.is
    ∙ ap (slice_range me.lexer.text me.lexer.at) (c.position.ensures.is ∙ cuts.part.cuts.at))) in
    subst (λ text. AreAcceptedTokens text tokens) (sym text) (here_accepted me.begun me.lexer l cuts.text stands stands.utf8 tokens cuts.part)

pub invariant_of-self : goal.invariant_of-self
invariant_of-self c =
    let me = c.self.inside in
    let tokens = c.in-Some.tokens.items in
    let l = c.in-Some.lexer in
    let cuts : CutsInScript c.args.least me.is_last me.lexer l tokens = subst (CutsInText c.args.least me.is_last me.lexer) c.in-Some.is c.in_ok-lexer.ensures.cuts in
    let stands = c.self.invariant.stands in
    record {
      of_text = cuts.text ∙ c.self.invariant.of_text;
      stands = stands_next me.begun me.lexer l cuts.text stands stands.utf8 tokens cuts.part;
      lines = c.self.invariant.lines;
    }

pub returns-in_err-table-clause-refused : goal.returns-in_err-table-clause-refused
returns-in_err-table-clause-refused c =
    let me = c.self.inside in
    let tokens = c.in-Some.tokens.items in
    let l = c.in-Some.lexer in
    let cuts : CutsInScript c.args.least me.is_last me.lexer l tokens = subst (CutsInText c.args.least me.is_last me.lexer) c.in-Some.is c.in_ok-lexer.ensures.cuts in
    let stands = c.self.invariant.stands in
    let here = slice_range me.lexer.text me.lexer.at (me.lexer.at + bytes tokens) in
    let text : c.range-text.result.now ≡ here =
    c.range-text.ensures.value
    ∙ (ap (λ text. slice_range text c.position-start.result c.position.result) (sym c.self.invariant.of_text)
    ∙ (ap (λ n. slice_range me.lexer.text n c.position.result) c.position-start.ensures.is
    ∙ ap (slice_range me.lexer.text me.lexer.at) (c.position.ensures.is ∙ cuts.part.cuts.at))) in
    let vocabulary = c.args.vocabulary.now in
    let reason = c.in_err-table.field-0.0 in
    let refused : reason ≢ OutOfMemory → IsRefusedPart vocabulary c.args.self.now.begun c.args.self.now.lexer.text reason = λ some.
    let why : RefusesTokens vocabulary here tokens reason = subst (λ text. RefusesTokens vocabulary text tokens reason) text (c.in_err-table.ensures.refused some) in
    let here : IsRefusedPart vocabulary me.begun me.lexer.text reason =
    record {
      before = stands.front;
      tokens = tokens;
      after = tokens_left l;
      are = stands.tokens ∙ ap (λ ts. stands.front ++ ts) cuts.part.cuts.left;
      refused = subst (λ n. IsRefusedByRules (contextual_keyword_of vocabulary) (table_of (keyword_of vocabulary) (slice_range me.lexer.text n (n + bytes tokens)) tokens) reason)
          (sym stands.bytes) why.1;
    } in
    subst (λ (r : Reading). IsRefusedPart vocabulary r.begun r.lexer.text reason) c.self.view_is here in
    search rules

pub returns-clause-reads : goal.returns-clause-reads
returns-clause-reads c =
    let me = c.self.inside in
    let tokens = c.in-Some.tokens.items in
    let l = c.in-Some.lexer in
    let cuts : CutsInScript c.args.least me.is_last me.lexer l tokens = subst (CutsInText c.args.least me.is_last me.lexer) c.in-Some.is c.in_ok-lexer.ensures.cuts in
    let stands = c.self.invariant.stands in
    let here = slice_range me.lexer.text me.lexer.at (me.lexer.at + bytes tokens) in
    let text : c.range-text.result.now ≡ here =
    c.range-text.ensures.value
    ∙ (ap (λ text. slice_range text c.position-start.result c.position.result) (sym c.self.invariant.of_text)
    ∙ (ap (λ n. slice_range me.lexer.text n c.position.result) c.position-start.ensures.is
    ∙ ap (slice_range me.lexer.text me.lexer.at) (c.position.ensures.is ∙ cuts.part.cuts.at))) in
    let old : Reading = record { lexer = me.lexer; begun = me.begun; is_last = me.is_last; progress = me.progress } in
    let on : is_over old ≡ false = subst (λ r. is_over r ≡ false) (sym c.self.view_is) (sym c.is_over.ensures ∙ c.if-is_over.false) in
    let table = c.in_ok-table.table in
    let steps = c.in_ok-table.output.steps in
    let vocabulary = c.args.vocabulary.now in
    let of_part : table ≡ table_of (keyword_of vocabulary) here tokens =
    c.in_ok-table.ensures.table ∙ ap (λ text. table_of (keyword_of vocabulary) text tokens) text in
    let parsed : IsParsedBy c.args.rules.now vocabulary here tokens table steps = subst (λ text. IsParsedBy c.args.rules.now vocabulary text tokens table steps) text c.in_ok-table.ensures.parsed in
    let whole : texts_of (sent_list table steps) ≡ chars table.text = c.in_ok-table.ensures.whole ∙ ap (λ (t : Table). chars t.text) (sym c.in_ok-table.ensures.table) in
    let new : Reading = record { lexer = l; begun = me.begun; is_last = me.is_last; progress = Inside } in
    let found : ScriptPart = record { start = c.position-start.result; table = table; output = c.in_ok-table.output } in
    let lines : me.is_last ≡ false → 0 < length me.lexer.text → EndsLine me.lexer.text = λ goes some. subst EndsLine (sym c.self.invariant.of_text) (c.self.invariant.lines goes (subst (λ text. 0 < length text) c.self.invariant.of_text some)) in
    subst (λ old. ReadsPart vocabulary c.args.rules.now old new found) c.self.view_is
    (reads_part vocabulary c.args.rules.now old l cuts.text stands tokens c.args.least cuts lines
    found c.position-start.ensures.is of_part c.in_ok-table.ensures.is_table c.in_ok-table.ensures.fits parsed on whole c.in_ok-table.ensures.few)

pub returns-clause-full : goal.returns-clause-full
returns-clause-full c =
    let me = c.self.inside in
    let tokens = c.in-Some.tokens.items in
    let l = c.in-Some.lexer in
    let cuts : CutsInScript c.args.least me.is_last me.lexer l tokens = subst (CutsInText c.args.least me.is_last me.lexer) c.in-Some.is c.in_ok-lexer.ensures.cuts in
    let size : length c.in_ok-table.table.text ≡ length c.range-text.result.now = ap (λ (t : Table). length t.text) c.in_ok-table.ensures.table in
    ⊎_elim
    (λ (more : me.lexer.at + c.args.least ≤ l.at). inl (omega (arith, more, size, c.range-text.ensures.len, c.position.ensures.is, c.position-start.ensures.is)))
    (λ (none : NoneLeft me.is_last l). inr none)
    cuts.full

use Rattle.std.proofs.Common.{rules, subst}
use Rattle.squawk_keywords.specs.KeywordAnswers.{contextual_keyword_of}
use Rattle.squawk_parser.proofs.WholeGrammars.{whole_eaten, whole_root}
use Rattle.squawk_parser.specs.Parse.{IsRefused}
use Rattle.squawk_parser.specs.State.{fresh}
use Rattle.squawk_table.specs.ParserInput.{input_of}
use Rattle.sql_grammar.specs.Files.{IsFile, Runs}
use Rattle.sql_grammar.specs.Kinds.{sql_words}
use Rattle.sql_grammar.specs.Parses.{IsRefusedParse}
use Rattle.sql_grammar.proofs.RefusedParses.{refused_parse}
use Rattle.sql_grammar.proofs.parse.parse_table.Goals as goal

pub str_steps-steps-requires : goal.str_steps-steps-requires
str_steps-steps-requires c = record {
  root = whole_root c.args.table.now (contextual_keyword_of c.args.vocabulary.now) c.in_ok-input.ensures.input c.in_ok-output.ensures.output (λ draft _ left. left.whole);
  over = c.in_ok-input.ensures.over c.in_ok-output.output.steps c.in_ok-output.ensures.output.over;
}

pub returns-clause-file : goal.returns-clause-file
returns-clause-file c =
    let parsed = c.in_ok-output.ensures.output in
    record { draft = parsed.draft; file = subst (λ input. IsFile c.args.detail input parsed.draft) c.in_ok-input.ensures.input parsed.left; is = parsed.steps }

pub returns-clause-whole : goal.returns-clause-whole
returns-clause-whole c =
    c.str_steps-steps.ensures.whole.0 (c.str_steps-steps.ensures.all.1
    (whole_eaten c.args.table.now (contextual_keyword_of c.args.vocabulary.now) c.in_ok-input.ensures.input c.in_ok-output.ensures.output (λ draft _ left. left.whole)))

pub returns-in_err-output-clause-refused : goal.returns-in_err-output-clause-refused
returns-in_err-output-clause-refused c =
    let reason = c.in_err-output.field-0.0 in
    let why : IsRefused (λ begun left. Runs c.args.detail 3 2 begun left) (fresh (input_of (contextual_keyword_of c.args.vocabulary.now) c.args.table.now) sql_words 4294967295 2147483648) reason =
    subst (λ input. IsRefused (λ begun left. Runs c.args.detail 3 2 begun left) (fresh input sql_words 4294967295 2147483648) reason) c.in_ok-input.ensures.input c.in_err-output.ensures.refused in
    let refused : IsRefusedParse c.args.detail (contextual_keyword_of c.args.vocabulary.now) c.args.table.now reason =
    refused_parse c.args.detail (contextual_keyword_of c.args.vocabulary.now) c.args.table.now sql_words reason c.len-len.ensures.table why in
    search rules

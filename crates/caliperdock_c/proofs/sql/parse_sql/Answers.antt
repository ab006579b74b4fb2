use Rattle.std.proofs.Common.{◌∙◌, ap}
use Rattle.squawk_keywords.specs.KeywordAnswers.{keyword_of}
use Rattle.squawk_table.specs.RawTable.{table_of}
use Rattle.caliperdock_c.proofs.sql.parse_sql.Goals as goal

pub returns-clause-steps : goal.returns-clause-steps
returns-clause-steps c =
    let keywords = c.in_ok-vocabulary.vocabulary in
    record {
      keywords = keywords;
      of_text = record {
        utf8 = c.utf8.text;
        known = c.in_ok-vocabulary.ensures;
        is = c.in_ok-table.ensures ∙ ap (table_of (keyword_of keywords) c.args.text.now) (c.deref.ensures.value ∙ c.requires.tokens);
      };
      of_file = c.in_ok-output.ensures.file;
    }

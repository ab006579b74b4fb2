use Rattle.std.proofs.Common.{◌≡◌, rules, subst}
use Rattle.std.specs.Str.{chars}
use Rattle.squawk_table.specs.Sent.{sent_list, texts_of}
use Rattle.caliperdock_c.proofs.SqlReasons.{steps_by_rules}
use Rattle.caliperdock_c.proofs.sql_lists.write_sql.Goals as goal

pub returns-clause-written : goal.returns-clause-written
returns-clause-written c =
    let same = c.in_ok-text.ensures.text in
    let table = c.in_ok-sql.sql.parsed.table in
    let walk = c.in_ok-sql.sql.parsed.output.steps in
    record {
      cut = record {
        table = table;
        walk = walk;
        of_text = steps_by_rules (search rules) c.in_ok-sql.ensures.steps same;
        are = search rules;
        count_is = search rules;
      };
      fits = c.in_ok-sql.ensures.fits;
      whole = subst (λ text. texts_of (sent_list table walk) ≡ chars text) same c.in_ok-sql.ensures.whole;
      tokens_are = search rules;
      token_count = search rules;
      written = c.in_ok-sent.ensures.written;
    }

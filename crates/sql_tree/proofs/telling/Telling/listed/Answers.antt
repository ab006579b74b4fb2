use Rattle.std.proofs.Common.{◌≡◌, ◌≢◌, ◌∙◌, ◌++◌, ◌+◌, ◌≤◌, ◌<◌, ◌^◌, ap, arith, length, length-append, map, refl, subst, sym}
use Rattle.std.specs.Prelude.{All, string_bytes}
use Rattle.std.proofs.lemmas.Grind.{flat_map-append}
use Rattle.std.proofs.lemmas.List.{length-map}
use Rattle.sql_grammar.specs.Parts.{moved_by}
use Rattle.sql_report.specs.Places.{column_at, line_at}
use Rattle.sql_report.specs.Statements.{HasStatements, moved_statement, statement_line, statement_lines}
use Rattle.sql_report.specs.declared.statement_list.Statement.{Statement}
use Rattle.sql_tree.specs.OnTheWay.{listed_so_far}
use Rattle.sql_tree.specs.declared.options.Listing.TheVariants.{Statements}
use Rattle.sql_tree.proofs.Lists.{drawn_listed}
use Rattle.sql_tree.proofs.telling.Telling.listed.Goals as goal

pub returns-in-Quiet-clause-lists : goal.returns-in-Quiet-clause-lists
returns-in-Quiet-clause-lists c = λ sql listing name script passed rest out done inner kind is part sent bytes before.
    let self = c.args.self.now in
    let more = string_bytes c.take_drawn-drawn.result in
    let other : self.listing ≢ Statements = λ e. let q = sym c.in-Quiet.is ∙ e in cc in
    record {
      drawn = before.drawn ++ more;
      walked = c.take_drawn-drawn.ensures.hands_out before.drawn (done ++ map (moved_by c.args.start) inner)
          (c.in_ok-part.ensures.walks before.drawn done inner kind sent bytes before.walked);
      ended = before.ended;
      counted = λ some. absurd (some c.in-Quiet.is);
      out_is = ap (λ l. l ++ more) (before.out_is ∙ drawn_listed self.listing script self.lines.names before.ended before.drawn other)
          ∙ sym (drawn_listed self.listing script self.lines.names before.ended (before.drawn ++ more) other);
    }

pub returns : goal.returns
returns c =
    let self = c.args.self.now in
    let start = c.args.start in
    let more = string_bytes c.take_drawn-drawn.result in
    let found = c.in_ok-found.found.items in
    let first = c.in_ok-part.ensures.same in
    let second = c.take_drawn-drawn.ensures.same in
    record {
      window = record { window = refl; before = refl };
      errors = refl;
      is = λ sql listing name is. record {
        sql_is = is.sql_is;
        listing_is = is.listing_is;
        name_is = is.name_is;
        names = is.names;
        listed = is.listed;
        kind_names = second.kind_names ∙ (first.kind_names ∙ is.kind_names);
        asked = second.asked ∙ (first.asked ∙ is.asked);
      };
      lists = λ sql listing name script passed rest out done inner kind is part sent bytes before.
          let ended = before.ended ++ map (moved_statement start) found in
          let other = c.in_default-listing.not-Statements in
          record {
            drawn = before.drawn ++ more;
            walked = c.take_drawn-drawn.ensures.hands_out before.drawn (done ++ map (moved_by start) inner) (c.in_ok-part.ensures.walks before.drawn done inner kind sent bytes before.walked);
            ended = ended;
            counted = λ some.
                let counted = before.counted some in (
                  subst (λ n. HasStatements (done ++ map (moved_by n) inner) (before.ended ++ map (moved_statement n) found)) bytes
                      (c.in_ok-found.ensures.part done inner before.ended kind sent counted.0),
                  omega (arith, counted.1, c.saturating_add-self.ensures, c.len.ensures, length-append before.ended (map (moved_statement start) found), length-map found (moved_statement start)),
                );
            out_is = ap (λ l. l ++ more) (before.out_is ∙ drawn_listed self.listing script self.lines.names before.ended before.drawn other)
                ∙ sym (drawn_listed self.listing script self.lines.names ended (before.drawn ++ more) other);
          };
    }

pub returns-in-Statements : goal.returns-in-Statements
returns-in-Statements c =
    let self = c.args.self.now in
    let start = c.args.start in
    let more = string_bytes c.take_drawn-drawn.result in
    let found = c.in_ok-found.found.items in
    let first = c.in_ok-part.ensures.same in
    let second = c.take_drawn-drawn.ensures.same in
    let added = c.in_ok-part-2.ensures in
    record {
      window = added.window;
      errors = refl;
      is = λ sql listing name is. record {
        sql_is = is.sql_is;
        listing_is = is.listing_is;
        name_is = is.name_is;
        names = added.names ∙ is.names;
        listed = ap string_bytes c.replace.ensures.after ∙ c.new.ensures.bytes;
        kind_names = second.kind_names ∙ (first.kind_names ∙ is.kind_names);
        asked = second.asked ∙ (first.asked ∙ is.asked);
      };
      lists = λ sql listing name script passed rest out done inner kind is part sent bytes before.
          let names = self.lines.names in
          let others = map (moved_statement start) found in
          let ended = before.ended ++ others in
          let n = length c.args.part.now.table.text in
          let window = c.args.place.now.window in
          let short = c.requires.short in
          let fit : All (λ (s : Statement). (c.args.in_window + s.start ≤ length window) × (start + s.end < 2 ^ 64)) c.deref.result.now =
          subst (All (λ (s : Statement). (c.args.in_window + s.start ≤ length window) × (start + s.end < 2 ^ 64))) (sym c.deref.ensures.value)
          (λ i d lt. let w = c.in_ok-found.ensures.within i d lt in (omega (arith, w.0, part.within), omega (arith, w.1, short))) in
          let lines : string_bytes c.replace.result ≡ statement_lines script names others =
          ap string_bytes c.replace.ensures.value
          ∙ (added.lines script passed rest part.window_of part.begins fit
          ∙ (ap (λ l. l ++ statement_lines script names (map (moved_statement start) c.deref.result.now)) is.listed
          ∙ ap (λ l. statement_lines script names (map (moved_statement start) l)) c.deref.ensures.value)) in
          let all : statement_lines script names ended ≡ statement_lines script names before.ended ++ statement_lines script names others =
          flat_map-append (λ (s : Statement). statement_line (line_at script s.start) (column_at script s.start) names s) before.ended others in
          let were : out ≡ statement_lines script names before.ended = before.out_is ∙ ap (λ l. listed_so_far l script names before.ended before.drawn) c.in-Statements.is in
          record {
            drawn = before.drawn ++ more;
            walked = c.take_drawn-drawn.ensures.hands_out before.drawn (done ++ map (moved_by start) inner) (c.in_ok-part.ensures.walks before.drawn done inner kind sent bytes before.walked);
            ended = ended;
            counted = λ some.
                let counted = before.counted some in (
                  subst (λ n. HasStatements (done ++ map (moved_by n) inner) (before.ended ++ map (moved_statement n) found)) bytes
                      (c.in_ok-found.ensures.part done inner before.ended kind sent counted.0),
                  omega (arith, counted.1, c.saturating_add-self.ensures, c.len.ensures, length-append before.ended others, length-map found (moved_statement start)),
                );
            out_is = ap (λ l. l ++ string_bytes c.replace.result) were
                ∙ (ap (λ l. statement_lines script names before.ended ++ l) lines
                ∙ (sym all
                ∙ (ap (λ names. statement_lines script names ended) (sym added.names)
                ∙ ap (λ l. listed_so_far l script c.part-in-Statements.new.self.names ended (before.drawn ++ more)) (sym c.in-Statements.is))));
          };
    }

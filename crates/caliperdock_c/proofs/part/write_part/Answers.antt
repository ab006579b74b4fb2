use Rattle.std.proofs.Common.{◌∙◌, ◌≤◌, ◌⊎◌, ⊎_elim, inl, length, ap, arith, rules, subst}
use Rattle.std.specs.Prelude.{IfSome}
use Rattle.sql_grammar.specs.ReadParts.{BeginsText, NoneLeft, ReadsPart}
use Rattle.caliperdock_c.specs.Answers.{refusal_of_parse}
use Rattle.caliperdock_c.specs.Parts.{RefusesPart, number_of_place, place_of_number}
use Rattle.caliperdock_c.specs.declared.answer.Refusal.TheVariants.{OutOfMemory}
use Rattle.caliperdock_c.proofs.PartReasons.{of_part}
use Rattle.caliperdock_c.proofs.part.write_part.Goals as goal

pub returns-in_err-part-clause-refused : goal.returns-in_err-part-clause-refused
returns-in_err-part-clause-refused c =
    let parts = c.in_ok-parts.parts in
    let grammar = c.in_ok-grammar.grammar in
    let read = c.readable.result.now in
    let reason = c.in_err-part.field-0.0 in
    let begins : BeginsText read (place_of_number c.args.place) c.args.is_last parts =
    subst (λ text. BeginsText text (place_of_number c.args.place) c.args.is_last parts) c.in_ok-text.ensures.text
    (subst (λ place. BeginsText c.in_ok-text.text.now place c.args.is_last parts) c.place_of.ensures c.in_ok-parts.ensures.begins) in
    let refused : RefusesPart c.args.text.now c.args.place c.args.is_last (refusal_of_parse reason) = (
      read,
      c.readable.ensures,
      of_part c.args.place c.args.is_last read reason grammar.vocabulary parts c.in_ok-text.ensures.utf8 grammar.keywords begins c.in_err-part.ensures.refused,
    ) in
    search rules

pub returns-in_err-found-clause-refused : goal.returns-in_err-found-clause-refused
returns-in_err-found-clause-refused c =
    let refused : RefusesPart c.args.text.now c.args.place c.args.is_last OutOfMemory = (c.readable.result.now, c.readable.ensures, c.in_ok-text.ensures.utf8) in
    search rules

pub returns-in_err-sent-clause-refused : goal.returns-in_err-sent-clause-refused
returns-in_err-sent-clause-refused c =
    let refused : RefusesPart c.args.text.now c.args.place c.args.is_last OutOfMemory = (c.readable.result.now, c.readable.ensures, c.in_ok-text.ensures.utf8) in
    search rules

pub returns-clause-written : goal.returns-clause-written
returns-clause-written c =
    let parts = c.in_ok-parts.parts in
    let grammar = c.in_ok-grammar.grammar in
    let part = c.in-Some.part in
    let new = c.next_part.new.self in
    let reads : ReadsPart grammar.vocabulary grammar.rules parts new part =
    subst (λ found. IfSome found (λ part. ReadsPart grammar.vocabulary grammar.rules parts new part)) c.in-Some.is c.in_ok-part.ensures.reads in
    let full : (18446744073709551615 ≤ length part.table.text) ⊎ NoneLeft new.is_last new.lexer =
    subst (λ found. IfSome found (λ part. (18446744073709551615 ≤ length part.table.text) ⊎ NoneLeft new.is_last new.lexer)) c.in-Some.is c.in_ok-part.ensures.full in
    record {
      read = c.readable.result.now;
      is_read = c.readable.ensures;
      old = parts;
      begins = subst (λ text. BeginsText text (place_of_number c.args.place) c.args.is_last parts) c.in_ok-text.ensures.text
          (subst (λ place. BeginsText c.in_ok-text.text.now place c.args.is_last parts) c.place_of.ensures c.in_ok-parts.ensures.begins);
      is = inl
          (record {
            keywords = grammar.vocabulary;
            known = grammar.keywords;
            rules = grammar.rules;
            new = new;
            part = part;
            is_next = reads.statements;
            none_left = ⊎_elim (λ (more : 18446744073709551615 ≤ length part.table.text). absurd (omega (arith, more, reads.short)))
                (λ (none : NoneLeft new.is_last new.lexer). none) full;
            bytes = c.position.ensures;
            place = c.number_of.ensures ∙ ap number_of_place c.place.ensures.is;
            fits = reads.fits;
            statements_are = search rules;
            statement_count = search rules;
            whole = ⊎_elim (λ yes. yes.0) (λ no. absurd (no.1 reads.whole)) c.in_ok-sent.ensures.written.whole;
            written = c.in_ok-sent.ensures.written;
          });
    }

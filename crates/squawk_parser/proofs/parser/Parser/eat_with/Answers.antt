use Rattle.std.proofs.Common.{◌∙◌, ap, refl, sym, subst, Some}
use Rattle.squawk_parser.specs.CompositeForms.{tail_of}
use Rattle.squawk_parser.specs.Eaten.{closing_steps, element_steps}
use Rattle.squawk_parser.specs.Recorded.{Completes, Puts}
use Rattle.squawk_parser.specs.State.{ahead}
use Rattle.squawk_parser.specs.declared.parser.composite.Form.TheVariants as form
use Rattle.squawk_parser.proofs.CompositeFacts.{elements-composite, is_composite, sequence-closed, sequence-no_end, tail-composite}
use Rattle.squawk_parser.proofs.Markers.{open_marker-put}
use Rattle.squawk_parser.proofs.TailOpenMarkers.{open_marker-behind_tail}
use Rattle.squawk_parser.proofs.parser.Parser.eat_with.Goals as goal

pub eat_elements-requires-clause-no_end : goal.eat_elements-requires-clause-no_end
eat_elements-requires-clause-no_end g c =
    let composite = c.in-Some-Sequence in
    let r = is_composite c.args.kind c.composite.result (form.Sequence composite.parts composite.closing) (composite.is ∙ ap Some composite.field-0-is) c.composite.ensures in
    sequence-no_end c.args.kind composite.parts (tail_of composite.closing) r

pub close-requires-clause-closed : goal.close-requires-clause-closed
close-requires-clause-closed g c =
    let composite = c.in-Some-Sequence in
    let r = is_composite c.args.kind c.composite.result (form.Sequence composite.parts composite.closing) (composite.is ∙ ap Some composite.field-0-is) c.composite.ensures in
    sequence-closed c.args.kind composite.parts (tail_of composite.closing) r

pub complete-requires-clause-open_marker : goal.complete-requires-clause-open_marker
complete-requires-clause-open_marker g c =
    let start = c.start-node.ensures in
    let there = open_marker-put c.start-node.result start.open_marker c.eat_elements.ensures in
    open_marker-behind_tail c.start-node.result there c.run.ensures.keeps c.run.ensures.open_markers c.close.ensures

pub returns-clause-eats : goal.returns-clause-eats
returns-clause-eats g c _ =
    let composite = c.in-Some-Sequence in
    let begun = c.start-node.new.self in
    let ran = c.run.new.p in
    let begins = c.start-node.ensures.begins in
    let r = is_composite c.args.kind c.composite.result (form.Sequence composite.parts composite.closing) (composite.is ∙ ap Some composite.field-0-is) c.composite.ensures in
    record {
      between = begun;
      does_so = record { sound = begins.sound; is = refl; keeps = begins.keeps; position = begins.position; records = begins.records };
      goes_on = record {
        between = c.eat_elements.new.self;
        does_so = subst (λ steps. Puts steps begun c.eat_elements.new.self) (ap (λ elements. element_steps elements (ahead begun 0)) (sym (elements-composite r))) c.eat_elements.ensures;
        goes_on = record {
          between = ran;
          does_so = record { keeps = c.run.ensures.keeps; runs = c.run.ensures.does; open_markers = c.run.ensures.open_markers };
          goes_on = record {
            between = c.close.new.self;
            does_so = subst (λ steps. Puts steps ran c.close.new.self) (ap (λ tail. closing_steps ran.words tail (ahead ran 0)) (sym (tail-composite r))) c.close.ensures;
            goes_on = subst (λ id. Completes id c.args.kind c.close.new.self c.complete.new.p) (ap (λ m. m.id) begins.is) c.complete.ensures.completes;
          };
        };
      };
    }

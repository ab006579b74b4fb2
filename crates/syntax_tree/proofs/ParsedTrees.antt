-- The tree of a text, from what its sink was sent.
use Rattle.std.proofs.Common.{◌≡◌, ◌∙◌, List, [], ◌∷◌, ◌++◌, arith, ap, sym, subst}
use Rattle.std.specs.Prelude.{IsUtf8, encode_utf8_all}
use Rattle.std.specs.Str.{chars}
use Rattle.std.proofs.lemmas.Str.{encodes-append, encodes-chars, encodes_same}
use Rattle.squawk_tokens.proofs.StandApart.{stand_apart}
use Rattle.squawk_output.specs.Draft.{Draft}
use Rattle.squawk_output.specs.OneRoot.{StandsInOneRoot}
use Rattle.squawk_output.specs.Steps.{Walk, without_errors}
use Rattle.squawk_table.specs.ParserInput.{Entry}
use Rattle.squawk_table.specs.RawTable.{IsTable, raw_tokens}
use Rattle.squawk_table.specs.Sent.{sent_list, texts_of}
use Rattle.squawk_table.specs.Shape.{Fits, no_keywords}
use Rattle.squawk_table.specs.declared.shortcuts.str_step.OwnedStep.{OwnedStep}
use Rattle.squawk_table.specs.declared.shortcuts.str_step.OwnedStep.TheVariants as step
use Rattle.squawk_table.proofs.NoEnd.{AreKeywords}
use Rattle.squawk_table.proofs.OverTable.{IsOver-keywords, length-keywords}
use Rattle.squawk_table.proofs.TableLemmas.{IsTable-table_of}
use Rattle.squawk_parser.specs.Pipeline.{Given, IsParsed, IsParsedInto, IsStopped, table_for}
use Rattle.squawk_parser.specs.declared.pipeline.Sent.{Sent}
use Rattle.squawk_tree.specs.Forest.{Forest, forest_steps}
use Rattle.syntax_tree.specs.Drafts.{Growing, StandsAfter, StandsOver}
use Rattle.syntax_tree.specs.Layout.{Laid, IsTree}
use Rattle.syntax_tree.specs.Parsed.{IsParsedTo, IsParsedTree}
use Rattle.syntax_tree.specs.Refusals.{RefusesOver, RefusesStep}
use Rattle.syntax_tree.specs.Trees.{IsOneRoot}
use Rattle.syntax_tree.specs.declared.builder.TreeRefusal.{TreeRefusal}
use Rattle.syntax_tree.proofs.Refusals.{texts_of-forest}
use Rattle.syntax_tree.proofs.SentRoots.{Answers, answers, begins, errors_sent, root_of, sends}

-- ---- the call

module _ (g : Given) (leaves : List Entry → Draft → Type 0) (law : AreKeywords g.keyword) (utf8 : IsUtf8 g.text) where
  module _ (output : Walk) (parsed : IsParsed g leaves output) (root : StandsInOneRoot (without_errors output.steps)) where
    table : IsTable (table_for g)
    table = IsTable-table_of g.keyword g.text g.tokens parsed.accepted law utf8 (stand_apart g.text g.tokens utf8 parsed.accepted)

    fits : Fits (table_for g) output.steps
    fits = record { root = root; over = IsOver-keywords g.contextual no_keywords output.steps (raw_tokens (table_for g)) parsed.parse.over }

  module _ (old new : Growing) (stood : StandsOver old (step.Error g.text 0 ∷ [])) where
    -- a refusal of the sink
    pub stopped : (answer : TreeRefusal) → IsStopped g leaves (StandsOver old) (StandsOver new) RefusesOver answer → IsParsedTo g leaves (λ all. Answers all answer)
    stopped answer s =
        let t = table_for g in
        let steps = s.output.steps in
        let at = s.stops (step.Error g.text 0 ∷ []) stood in
        let over = at.refused in
        let is : step.Error g.text 0 ∷ at.front ≡ step.Error over.source 0 ∷ over.steps = over.is in
        let source : over.source ≡ g.text = cc in
        let front : over.steps ≡ at.front = cc in
        let refused = subst (λ s. RefusesStep s at.front at.next answer) source (subst (λ l. RefusesStep over.source l at.next answer) front over.refused) in
        let holds = table s.output s.parsed s.root in
        let fit = fits s.output s.parsed s.root in
        let few = s.parsed.errors_within in
        record {
          output = s.output;
          parsed = s.parsed;
          root = s.root;
          passes = answers g.text utf8 s.parsed.accepted.short (sent_list t steps) (sends t holds steps fit) (begins t holds steps fit)
              (omega (arith, errors_sent t holds steps fit, few)) at.front at.rest at.next answer at.is refused;
        }

    module _ (sent : Sent) (into : IsParsedInto g leaves (StandsOver old) (StandsOver new) sent) where
      abbrev all : List OwnedStep
      all = sent_list (table_for g) into.output.steps

      stands : StandsAfter new all
      stands =
          let over = into.sending.stands (step.Error g.text 0 ∷ []) stood in
          let is : step.Error g.text 0 ∷ all ≡ step.Error new.source 0 ∷ over.steps = over.is in
          let steps : over.steps ≡ all = cc in
          subst (StandsAfter new) steps over.stands

      -- the builder has a tree
      pub finishes : ((steps : List OwnedStep) (forest : Forest) → StandsAfter new steps → IsOneRoot forest → forest_steps forest ≡ steps → ⊥) → ⊥
      finishes unfinished =
          let tree = root_of (table_for g) (table into.output into.parsed into.root) into.output.steps (fits into.output into.parsed into.root) in
          unfinished all tree.forest stands tree.one tree.walk

      pub parsed_tree : (laid : Laid) → laid.lexical ≡ (table_for g).errors → ((steps : List OwnedStep) → StandsAfter new steps → (forest : Forest) × IsTree laid forest × (forest_steps forest ≡ steps))
          → IsParsedTree g leaves laid
      parsed_tree laid lexical finished =
          let f = finished all stands in
          let sending = into.sending in
          let bytes : laid.text ≡ encode_utf8_all (texts_of all) = f.1.text ∙ ap encode_utf8_all (sym (texts_of-forest f.0) ∙ ap texts_of f.2) in
          let source = encodes-chars g.text utf8 in
          let same = length-keywords g.contextual no_keywords (raw_tokens (table_for g)) in
          let rest = sending.beginning.0 in
          record {
            output = into.output;
            parsed = into.parsed;
            root = into.root;
            tree = f.0;
            is = f.1;
            steps = f.2;
            lexical = lexical;
            beginning = (
              encode_utf8_all rest,
              ap (λ l. l ++ encode_utf8_all rest) bytes ∙ (sym (encodes-append (texts_of all) rest) ∙ (ap encode_utf8_all sending.beginning.1 ∙ source)),
            );
            whole = (
              λ e. sending.eaten_all.0 (sending.whole.1 (encodes_same (texts_of all) (chars g.text) (sym bytes ∙ (e ∙ sym source)))) ∙ sym same,
              λ e. bytes ∙ (ap encode_utf8_all (sending.whole.0 (sending.eaten_all.1 (e ∙ same))) ∙ source),
            );
            placed = sending.placed;
            trimmed = sending.trimmed;
          }

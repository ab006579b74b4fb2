use Rattle.std.proofs.Common.{◌≡◌, ◌∙◌}
use Rattle.squawk_parser.specs.Pipeline.{given}
use Rattle.syntax_tree.specs.Parsed.{IsParsedTo}
use Rattle.syntax_tree.proofs.ParsedTrees.{finishes, parsed_tree, stopped}
use Rattle.syntax_tree.proofs.Refusals.{begins_over}
use Rattle.syntax_tree.proofs.SentRoots.{Answers}
use Rattle.syntax_tree.specs.declared.builder.TreeRefusal.TheVariants.{OutsideOfRoot, NothingOpen, OtherText, TooLarge}
use Rattle.syntax_tree.proofs.parse.parse_accepted_tree.Given.{Over}
use Rattle.syntax_tree.proofs.parse.parse_accepted_tree.Goals as goal
use Rattle.syntax_tree.proofs.parse.parse_accepted_tree.Goals.{In-Err-Sink}

-- ---- all is sent

pub returns-in-Ok-finish_with-clause-tree : goal.returns-in-Ok-finish_with-clause-tree
returns-in-Ok-finish_with-clause-tree g c =
    parsed_tree _ _ (g.met.V.Vocabulary.keywords_are_tokens c.args.vocabulary.now) c.utf8.text _ _ (begins_over c.with_capacity-builder.result c.args.text.now c.with_capacity-builder.ensures.after c.with_capacity-builder.ensures.source)
    c.in-Ok.ensures.sent.0 c.in-Ok.ensures.sent.1 c.in-Ok-finish_with.tree (c.in-Ok-finish_with.ensures.lexical ∙ c.in-Ok.ensures.lexical) c.in-Ok-finish_with.ensures.tree

pub unreachable-requires : goal.unreachable-requires
unreachable-requires g c =
    finishes _ _ (g.met.V.Vocabulary.keywords_are_tokens c.args.vocabulary.now) c.utf8.text _ _ (begins_over c.with_capacity-builder.result c.args.text.now c.with_capacity-builder.ensures.after c.with_capacity-builder.ensures.source)
    c.in-Ok.ensures.sent.0 c.in-Ok.ensures.sent.1 c.in-Err.ensures.refused.1

-- ---- the builder refuses a step

refused : (g : Over) (c : In-Err-Sink g)
    → IsParsedTo (given (g.V.Vocabulary.keyword c.args.vocabulary.now) (g.V.Vocabulary.contextual_keyword c.args.vocabulary.now) c.args.text.now c.args.tokens.now)
    (g.G.Grammar.leaves c.args.grammar.now c.args.entry) (λ all. Answers all c.in-Err-Sink.answer)
refused g c =
    stopped _ _ (g.met.V.Vocabulary.keywords_are_tokens c.args.vocabulary.now) c.utf8.text _ _ (begins_over c.with_capacity-builder.result c.args.text.now c.with_capacity-builder.ensures.after c.with_capacity-builder.ensures.source)
    c.in-Err-Sink.answer (rw c.in-Err-Sink.field-0-is at c.in-Err-Sink.ensures.refused)

pub returns-in-TooLarge-clause-refused : goal.returns-in-TooLarge-clause-refused
returns-in-TooLarge-clause-refused g c =
    let sink = (goal.at.returns-in-TooLarge-clause-refused g c).In-Err-Sink.in-Err-Sink in
    let told = sink.answer-is in
    let arm = c.in-TooLarge.is in
    let is : sink.answer ≡ TooLarge = cc in
    let stops = refused g (goal.at.returns-in-TooLarge-clause-refused g c).In-Err-Sink in
    rw is at stops

pub unreachable-requires-in-OutsideOfRoot : goal.unreachable-requires-in-OutsideOfRoot
unreachable-requires-in-OutsideOfRoot g c =
    let sink = (goal.at.unreachable-requires-in-OutsideOfRoot g c).In-Err-Sink.in-Err-Sink in
    let told = sink.answer-is in
    let arm = c.in-OutsideOfRoot.is in
    let is : sink.answer ≡ OutsideOfRoot = cc in
    let stops = refused g (goal.at.unreachable-requires-in-OutsideOfRoot g c).In-Err-Sink in
    (rw is at stops).passes

pub unreachable-requires-in-NothingOpen : goal.unreachable-requires-in-NothingOpen
unreachable-requires-in-NothingOpen g c =
    let sink = (goal.at.unreachable-requires-in-NothingOpen g c).In-Err-Sink.in-Err-Sink in
    let told = sink.answer-is in
    let arm = c.in-NothingOpen.is in
    let is : sink.answer ≡ NothingOpen = cc in
    let stops = refused g (goal.at.unreachable-requires-in-NothingOpen g c).In-Err-Sink in
    (rw is at stops).passes

pub unreachable-requires-in-OtherText : goal.unreachable-requires-in-OtherText
unreachable-requires-in-OtherText g c =
    let sink = (goal.at.unreachable-requires-in-OtherText g c).In-Err-Sink.in-Err-Sink in
    let told = sink.answer-is in
    let arm = c.in-OtherText.is in
    let is : sink.answer ≡ OtherText = cc in
    let stops = refused g (goal.at.unreachable-requires-in-OtherText g c).In-Err-Sink in
    (rw is at stops).passes

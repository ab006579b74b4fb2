use Rattle.squawk_parser.proofs.WholeGrammars.{whole_eaten}
use Rattle.tiny_grammar.proofs.tiny.Tiny.parse.Goals as goal

pub returns-clause-whole : goal.returns-clause-whole
returns-clause-whole g c =
    whole_eaten c.args.table.now (g.V.Vocabulary.contextual_keyword c.args.vocabulary.now) c.in_ok-input.ensures.input c.in_ok-output.ensures.output (λ draft _ left. left.whole)

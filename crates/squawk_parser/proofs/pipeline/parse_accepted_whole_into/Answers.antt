use Rattle.squawk_parser.proofs.WholeGrammars.{all_sent, parsed_into, parsed_root, stopped}
use Rattle.squawk_parser.proofs.pipeline.parse_accepted_whole_into.Goals as goal

pub send-requires : goal.send-requires
send-requires g c = record {
  root = parsed_root c.in_ok-parsed.ensures.parsed.1 (g.met.G.WholeGrammar.leaves_whole c.args.grammar.now c.args.entry);
  over = c.in_ok-parsed.ensures.over;
}

pub returns-in-Ok-clause-sent : goal.returns-in-Ok-clause-sent
returns-in-Ok-clause-sent g c =
    let parsed = c.in_ok-parsed.ensures.parsed in
    parsed_into parsed.1 (g.met.G.WholeGrammar.leaves_whole c.args.grammar.now c.args.entry) parsed.0 c.in-Ok.ensures.sent

pub returns-in-Ok-clause-all : goal.returns-in-Ok-clause-all
returns-in-Ok-clause-all g c =
    let parsed = c.in_ok-parsed.ensures.parsed in
    all_sent parsed.1 (g.met.G.WholeGrammar.leaves_whole c.args.grammar.now c.args.entry) parsed.0 c.in-Ok.ensures.sent

pub returns-clause-refused : goal.returns-clause-refused
returns-clause-refused g c =
    let parsed = c.in_ok-parsed.ensures.parsed in
    stopped parsed.1 (g.met.G.WholeGrammar.leaves_whole c.args.grammar.now c.args.entry) parsed.0 c.in-Err.ensures.stopped

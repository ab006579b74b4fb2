use Rattle.std.proofs.Common.{◌≡◌, ◌≢◌, ◌∙◌, ap, arith, sym}
use Rattle.squawk_kinds.specs.Kinds.{EOF, L_PAREN}
use Rattle.squawk_table.specs.ParserInput.{kind_in}
use Rattle.squawk_parser.specs.State.{kind_at}
use Rattle.squawk_parser.proofs.Markers.{open_marker-put}
use Rattle.squawk_parser.proofs.RecordedSteps.{puts-then}
use Rattle.squawk_parser.proofs.Recovery.{ahead-error}
use Rattle.squawk_parser.proofs.SeenSteps.{ahead-still, kind_at-first}
use Rattle.list_grammar.proofs.DeepLists.{deep_puts}
use Rattle.list_grammar.proofs.deep_list.Goals as goal

pub complete-requires-clause-open_marker : goal.complete-requires-clause-open_marker
complete-requires-clause-open_marker c =
    open_marker-put c.start-node.result c.start-node.ensures.open_marker (puts-then c.error.ensures.puts (puts-then c.bump_any.ensures.puts c.up_to_close.ensures))

pub returns-clause-puts : goal.returns-clause-puts
returns-clause-puts c =
    deep_puts c.requires c.start-node.ensures.begins c.error.ensures.puts c.bump_any.ensures.puts c.up_to_close.ensures c.complete.ensures.completes

pub returns-clause-eats : goal.returns-clause-eats
returns-clause-eats c =
    let old = c.args.p.now in
    let begins = c.start-node.ensures.begins in
    let seen = ahead-error c.error.ensures.puts ∙ ahead-still begins.keeps begins.position in
    let same : kind_at c.error.new.self 0 ≡ kind_at old 0 =
    kind_at-first c.error.new.self ∙ (ap (λ seen. kind_in seen 0) seen ∙ sym (kind_at-first old)) in
    let some : kind_at c.error.new.self 0 ≢ EOF = λ end. absurd (let no : L_PAREN ≡ EOF = sym c.requires ∙ (sym same ∙ end) in cc) in
    let eats = c.bump_any.ensures.position some in
    let error = c.error.ensures.puts.keeps.forward in
    let close = c.up_to_close.ensures.keeps.forward in
    let completes = c.complete.ensures.completes.position in
    omega (arith, begins.position, eats, error, close, completes)

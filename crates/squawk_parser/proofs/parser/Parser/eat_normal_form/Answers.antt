use Rattle.std.proofs.Common.{◌≡◌, ◌∙◌, ◌≢◌, ap, sym, subst}
use Rattle.squawk_kinds.specs.Kinds.{EOF}
use Rattle.squawk_table.specs.ParserInput.{kind_in}
use Rattle.squawk_parser.specs.Recorded.{Puts}
use Rattle.squawk_parser.specs.State.{ahead}
use Rattle.squawk_parser.proofs.Markers.{open_marker-put}
use Rattle.squawk_parser.proofs.RecordedSteps.{node_puts, puts-none}
use Rattle.squawk_parser.proofs.SeenSteps.{ahead-still, bump_puts, kind_at-first, normal_form-left_out, normal_form-some, normal_form-there}
use Rattle.squawk_parser.proofs.parser.Parser.eat_normal_form.Goals as goal

pub complete-requires-clause-open_marker : goal.complete-requires-clause-open_marker
complete-requires-clause-open_marker c = open_marker-put c.start-node.result c.start-node.ensures.open_marker c.bump_any.ensures.puts

pub returns-then-is_normal_form : goal.returns-then-is_normal_form
returns-then-is_normal_form c =
    let old = c.args.self.now in
    let kind = c.current.result in
    let start = c.start-node.ensures in
    let done = c.complete.ensures in
    let there = sym c.is_normal_form.ensures ∙ c.if-is_normal_form.true in
    let some : kind ≢ EOF = normal_form-some kind there in
    let is : kind ≡ kind_in (ahead old 0) 0 = c.current.ensures ∙ kind_at-first old in
    let first : kind_in (ahead c.start-node.new.self 0) 0 ≡ kind = ap (λ seen. kind_in seen 0) (ahead-still start.begins.keeps start.begins.position) ∙ sym is in
    let token = bump_puts kind first some c.bump_any.ensures.puts in
    subst (λ steps. Puts steps old c.complete.new.p) (sym (normal_form-there (ahead old 0) kind is there))
    (node_puts start.begins token done.completes)

pub returns-else-is_normal_form : goal.returns-else-is_normal_form
returns-else-is_normal_form c =
    let old = c.args.self.now in
    let is = c.current.ensures ∙ kind_at-first old in
    subst (λ steps. Puts steps old old) (sym (normal_form-left_out (ahead old 0) c.current.result is (sym c.is_normal_form.ensures ∙ c.if-is_normal_form.false))) (puts-none old c.requires)

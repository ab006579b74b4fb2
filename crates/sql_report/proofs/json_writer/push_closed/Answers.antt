use Rattle.std.proofs.Common.{◌≡◌, [], ◌∷◌, append_assoc, arith}
use Rattle.std.specs.Prelude.{encode_utf8}
use Rattle.std.proofs.lemmas.Str.{encode_ascii}
use Rattle.squawk_tree.proofs.Written.{OnOk-same}
use Rattle.sql_report.specs.JsonLines.{node_closed}
use Rattle.sql_report.proofs.JsonLemmas.{ending_deeper}
use Rattle.sql_report.proofs.json_writer.push_closed.Goals as goal

pub returns-then-outer-eq1 : goal.returns-then-outer-eq1
returns-then-outer-eq1 c =
    let feed : encode_utf8 10 ≡ 10 ∷ [] = encode_ascii 10 (omega arith) in
    rw c.if-outer-eq1.true
    (OnOk-same c.push.result _ _ _ _ c.push.ensures.bytes (rw (feed, c.in_ok-write.ensures.bytes) (simp append_assoc)))

pub returns-else-outer-eq1 : goal.returns-else-outer-eq1
returns-else-outer-eq1 c =
    let ends = node_closed c.args.end c.args.errors.now in
    rw (ending_deeper c.args.outer ends c.if-outer-eq0.false c.if-outer-eq1.false, c.in_ok-write.ensures.bytes) (simp append_assoc)

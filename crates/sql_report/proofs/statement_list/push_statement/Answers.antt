use Rattle.std.proofs.Common.{◌≡◌, [], ◌∷◌, append_assoc, arith}
use Rattle.std.specs.Prelude.{encode_utf8}
use Rattle.std.proofs.lemmas.Str.{encode_ascii}
use Rattle.squawk_tree.proofs.Written.{OnOk-same}
use Rattle.sql_report.proofs.statement_list.push_statement.Goals as goal

pub returns-clause-line : goal.returns-clause-line
returns-clause-line c =
    let feed : encode_utf8 10 ≡ 10 ∷ [] = encode_ascii 10 (omega arith) in
    OnOk-same c.push.result _ _ _ _ c.push.ensures.bytes
    (rw (feed, c.in_ok-write_name.ensures.name, c.in_ok-write.ensures.bytes) (simp append_assoc))

use Rattle.std.proofs.Common.{◌+◌, drop, map, string_bytes, take}
use Rattle.sql_syntax.proofs.PrintedFiles.{names_more, names_split, prints_none, prints_one, stops_at}
use Rattle.sql_syntax.proofs.files.print_files.Goals as goal

pub loop-name-init : goal.loop-name-init
loop-name-init g c = prints_none _ _ (g.W.Write.contents c.args.out.now)

pub returns-in-Err-clause-refused : goal.returns-in-Err-clause-refused
returns-in-Err-clause-refused g c =
    let names = c.args.names.now in
    let i = c.loop-name.name-index in
    let split = names_split string_bytes names i c.name-item.result c.loop-name-test.true c.name-item.is c.as_str-name.result.now c.as_str-name.ensures.value in
    stops_at _ _ (map string_bytes (take i names)) (map string_bytes (drop (i + 1) names)) (record { name = c.as_str-name.result; error = c.in-Err.error })
    split c.loop-name.invariant _ c.in-Err.ensures.refused

pub loop-name-preserved : goal.loop-name-preserved
loop-name-preserved g c =
    let names = c.args.names.now in
    let i = c.loop-name.name-index in
    let more = names_more string_bytes names i c.name-item.result c.loop-name-test.true c.name-item.is c.as_str-name.result.now c.as_str-name.ensures.value in
    rw more (prints_one _ _ c.loop-name.invariant c.as_str-name.result.now _ c.in-Ok.is_file_clean c.in-Ok.ensures.printed)

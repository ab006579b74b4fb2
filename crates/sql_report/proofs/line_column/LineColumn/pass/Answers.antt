use Rattle.std.proofs.Common.{◌≡◌, ◌∙◌, ◌+◌, [], ◌∷◌, ◌++◌, ap, append_assoc, get_or, subst, sym, take}
use Rattle.std.proofs.lemmas.List.{take_more}
use Rattle.sql_report.specs.Places.{AreCountable, IsLineColumn}
use Rattle.sql_report.proofs.LineColumns.{countable_front}
use Rattle.sql_report.proofs.line_column.LineColumn.pass.Goals as goal

pub loop-byte-preserved : goal.loop-byte-preserved
loop-byte-preserved c = λ read is countable.
    let bytes = c.args.bytes.now in
    let i = c.loop-byte.byte-index in
    let byte = get_or bytes i 0 in
    let front = read ++ take i bytes in
    let whole : front ++ byte ∷ [] ≡ read ++ take (i + 1) bytes =
    append_assoc read (take i bytes) (byte ∷ []) ∙ ap (λ l. read ++ l) (sym (take_more bytes i 0 c.loop-byte-test.true)) in
    let short = subst AreCountable (sym whole) countable in
    subst (λ l. IsLineColumn l c.pass_byte.new.self) whole
    (c.pass_byte.ensures front (c.loop-byte.invariant read is (countable_front front (byte ∷ []) short)) short)

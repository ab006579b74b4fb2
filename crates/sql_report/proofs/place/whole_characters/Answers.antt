use Rattle.std.proofs.Common.{◌∙◌, ◌+◌, ap, take}
use Rattle.std.specs.List.{prefix_len}
use Rattle.std.proofs.lemmas.List.{take_rest}
use Rattle.sql_report.specs.Places.{is_continuation}
use Rattle.sql_report.proofs.place.whole_characters.Goals as goal

pub returns : goal.returns
returns c =
    ap (λ n. take (100 + n) c.args.text.now)
    (c.continuation_len.ensures.len ∙ ap (prefix_len is_continuation) (take_rest c.args.text.now 100))

use Rattle.std.proofs.Common.{rules}
use Rattle.serde_json.specs.Errors.{IsMemory}
use Rattle.squawk_document.proofs.Values.{json_value-ok, json_value-err}
use Rattle.squawk_document.proofs.value.parse.Goals as goal

pub returns-in-Ok : goal.returns-in-Ok
returns-in-Ok c = json_value-ok _ _ c.in-Ok.ensures.ok.0 c.in-Ok.ensures.ok.1

pub returns-in-Err-2 : goal.returns-in-Err-2
returns-in-Err-2 c =
    let refused : ¬ (IsMemory c.in-Err-2.field-0) = search rules in
    json_value-err _ (c.in-Err-2.ensures.err refused)

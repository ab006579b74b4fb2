use Rattle.std.proofs.Common.{◌≡◌, ◌∙◌, ◌++◌, ap, subst}
use Rattle.std.specs.Result.{IfOk}
use Rattle.std.proofs.lemmas.List.{take_all}
use Rattle.squawk_kinds.specs.EngineNames.{engine_names, names_of}
use Rattle.sql_words.specs.SqlKinds.{keyword_names, names_in}
use Rattle.sql_words.proofs.kind_names.names.Goals as goal

pub returns : goal.returns
returns c =
    subst (λ own. IfOk c.with_engine_names.result (λ all. names_of all.items ≡ engine_names ++ own))
    (ap names_of c.deref.ensures.value ∙ c.loop-row.invariant.own
    ∙ ap (λ more. keyword_names ++ more) (ap names_in (take_all c.loop-row.row-index c.nodes-nodes.result.now c.loop-row-test.false) ∙ c.nodes-nodes.ensures))
    c.with_engine_names.ensures

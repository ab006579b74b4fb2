use Rattle.std.proofs.Common.{◌∙◌, ◌++◌, ap, refl}
use Rattle.sql_grammar.specs.StringStates.{strays_from}
use Rattle.sql_grammar.specs.declared.strings.Before.TheVariants.{NoString}
use Rattle.sql_grammar.proofs.StrayStrings.{strays-all}
use Rattle.sql_grammar.proofs.strings.stray_strings.Goals as goal

pub loop-token-init : goal.loop-token-init
loop-token-init c =
    let text = c.args.text.now in
    let tokens = c.args.tokens.now in
    record { sum = refl; is = ap (λ strays. strays ++ strays_from NoString text 0 tokens) c.in_ok-strays.ensures.items ∙ strays-all text tokens }

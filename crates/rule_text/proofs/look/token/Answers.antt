use Rattle.std.proofs.Common.{ap, refl, sym, ◌≡◌, ◌∙◌}
use Rattle.rule_text.specs.declared.word.Sort.TheVariants as sorts
use Rattle.rule_text.specs.Written.{is_end, sort_at}
use Rattle.rule_text.specs.Written.OneToken.{of_class, of_kind}
use Rattle.rule_text.proofs.Looks.{token_decided}
use Rattle.rule_text.proofs.look.token.Goals as goal

pub returns-in-Kind : goal.returns-in-Kind
returns-in-Kind c =
    let there : sort_at c.args.reader.now.words.now c.args.reader.now.at ≡ sorts.Kind = sym c.sort.ensures ∙ c.in-Kind.is in
    token_decided (of_kind (c.name-name.ensures sorts.Kind there refl)) (c.one.ensures (ap is_end there))

pub returns-in-Class : goal.returns-in-Class
returns-in-Class c =
    let there : sort_at c.args.reader.now.words.now c.args.reader.now.at ≡ sorts.Class = sym c.sort.ensures ∙ c.in-Class.is in
    token_decided (of_class (c.name-name.ensures sorts.Class there refl)) (c.one-in-Class.ensures (ap is_end there))

use Rattle.std.proofs.Common.{◌∙◌, ap, encode_utf8_all, subst, sym}
use Rattle.std.proofs.lemmas.Str.{encodes-chars}
use Rattle.syntax_tree.specs.Layout.{IsTree}
use Rattle.sql_lint.proofs.FirstOf.{has_text}
use Rattle.sql_lint.proofs.nodes.says.Goals as goal

pub returns-in-Some : goal.returns-in-Some
returns-in-Some c = λ tree is.
    let first = c.in-Some.ensures tree is in
    let text = c.text.result.now in
    has_text tree c.args.node.at c.args.kind c.args.text.now c.as_bytes.result.now c.in-Some.child.at first.1
    (ap encode_utf8_all (sym (c.text.ensures tree (subst (λ l. IsTree l tree) (sym first.0) is)))
    ∙ (encodes-chars text c.text.utf8 ∙ sym c.as_bytes.ensures.value))
    c.eq_ignore_ascii_case.result c.eq_ignore_ascii_case.ensures.test

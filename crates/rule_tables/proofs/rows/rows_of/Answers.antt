use Rattle.std.proofs.Common.{◌+◌, ◌∷◌, [], ℕ, List, All, IsTrue, length, length-append, ap, arith, sym, subst, ◌∙◌}
use Rattle.std.proofs.lemmas.List.Elements.{All-push}
use Rattle.rule_grammar.specs.declared.part.Part as row
use Rattle.rule_tables.specs.Rows.{ListsSome, is_exact, row_at}
use Rattle.rule_tables.proofs.Lists.{lists_more}
use Rattle.rule_tables.proofs.UpToPart.{outer_step, row_here}
use Rattle.rule_tables.proofs.rows.rows_of.Goals as goal

pub loop-index-preserved : goal.loop-index-preserved
loop-index-preserved g c =
    let v = g.N.Names.vocabulary c.args.names.now in
    let parts = c.args.definitions.now.parts.now in
    let at = c.loop-index.invariant in
    record {
      len = ap length c.in_ok-push.ensures ∙ length-append c.loop-index.rows.items (c.row_by-row.result ∷ []) ∙ ap (λ (n : ℕ). n + 1) at.len;
      outer = outer_step parts c.loop-index.index _ c.loop-index.outer c.after-outer.result c.loop-index-test.true at.outer c.after-outer.ensures.is;
      operators = omega (arith, c.after-outer.ensures.operators at.operators);
      rows = subst (λ (items : List row.Part). ListsSome (row_at v parts) (c.loop-index.index + 1) items) (sym c.in_ok-push.ensures)
          (lists_more (row_at v parts) c.loop-index.rows.items c.loop-index.index c.row_by-row.result (sym at.len) at.rows (row_here v parts c.loop-index.index _ c.loop-index.outer c.row_by-row.result c.loop-index-test.true at.outer c.row_by-row.ensures.is));
      exact = subst (λ (items : List row.Part). All (λ one. IsTrue (is_exact one)) items) (sym c.in_ok-push.ensures) (All-push (λ (one : row.Part). IsTrue (is_exact one)) c.loop-index.rows.items c.row_by-row.result at.exact c.row_by-row.ensures.exact);
    }

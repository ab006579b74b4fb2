use Rattle.std.proofs.Common.{sym, subst}
use Rattle.squawk_tokens.specs.AcceptedTokens.{AreAcceptedTokens}
use Rattle.squawk_table.specs.TableBuilding.{Building, HasAll}
use Rattle.squawk_table.proofs.TableGrowth.{IsTable-made}
use Rattle.squawk_table.proofs.lexed_str.builder.TableBuilder.finish.Goals as goal

pub invariant_of-result : goal.invariant_of-result
invariant_of-result c =
    let inside = c.self.inside in
    let b : Building = record { text = inside.text.now; kinds = inside.kinds.items; starts = inside.starts.items; at = inside.at; read = inside.converter } in
    let keyword = c.requires.0 in
    let tokens = c.requires.1.0 in
    let all : HasAll keyword tokens b = subst (HasAll keyword tokens) (sym c.self.view_is) c.requires.1.1 in
    let told = c.into_errors.ensures in
    let accepted = subst (λ text. AreAcceptedTokens text tokens) (sym all.added.text) all.accepted in
    rw c.in_ok-push.ensures.items
    (IsTable-made keyword tokens b c.into_errors.result.items all told.errors c.self.invariant (told.apart tokens accepted all.added.read))

use Rattle.std.proofs.Common.{sym, subst}
use Rattle.squawk_tokens.specs.AcceptedTokens.{IsGoodToken}
use Rattle.squawk_table.specs.TableBuilding.{Building, HasAdded}
use Rattle.squawk_table.proofs.TableGrowth.{CanGrow-push, HasAdded-push}
use Rattle.squawk_table.proofs.lexed_str.builder.TableBuilder.push.Goals as goal

pub invariant_of-self-2 : goal.invariant_of-self-2
invariant_of-self-2 g c =
    let inside = c.self.inside in
    rw (c.in_ok-push-2.ensures.items, c.syntax_kind-kind.ensures, c.range-piece.ensures.value)
    (CanGrow-push (g.V.Vocabulary.keyword c.args.vocabulary.now) c.args.token.now inside.text.now inside.kinds.items inside.at
    (g.met.V.Vocabulary.keywords_are_tokens c.args.vocabulary.now)
    (subst (λ (b : Building). IsGoodToken b.text b.at c.args.token.now) (sym c.self.view_is) c.requires.good) c.self.invariant)

pub returns-clause-added : goal.returns-clause-added
returns-clause-added g c = λ tokens added.
    let inside = c.self.inside in
    let before : Building = record { text = inside.text.now; kinds = inside.kinds.items; starts = inside.starts.items; at = inside.at; read = inside.converter } in
    let keyword = g.V.Vocabulary.keyword c.args.vocabulary.now in
    let had : HasAdded keyword tokens before = subst (HasAdded keyword tokens) (sym c.self.view_is) added in
    rw (c.in_ok-push.ensures.items, c.in_ok-push-2.ensures.items, c.syntax_kind-kind.ensures, c.range-piece.ensures.value)
    (HasAdded-push keyword c.args.token.now tokens before c.extend_token.new.self (c.in_ok-extend_token.ensures.read tokens had.read) c.extend_token.ensures.text had)

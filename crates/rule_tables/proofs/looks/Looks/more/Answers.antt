use Rattle.std.proofs.Common.{◌≡◌, ◌∙◌, ◌+◌, ◌-◌, List, [], ◌∷◌, ◌++◌, None, Some, ap, refl, subst, sym}
use Rattle.rule_tables.specs.Strands.{AreDecidedBy, AreListed, ComesAt, IsToldBy, SeesOn}
use Rattle.rule_tables.specs.Walks.{plan_of}
use Rattle.rule_tables.specs.declared.strands.Strand.{Strand}
use Rattle.rule_tables.proofs.Beside.{listing_two, two_decided, two_told}
use Rattle.rule_tables.proofs.Listing.{strand_at}
use Rattle.rule_tables.proofs.looks.Looks.more.Goals as goal

pub returns-in-Some-clause-err : goal.returns-in-Some-clause-err
returns-in-Some-clause-err c =
    let is : c.deref.result.now ≡ c.strand_of.result ∷ c.strand_of-2.result ∷ [] =
    c.deref.ensures.value ∙ c.in_ok-push-2.ensures ∙ ap (λ (xs : List Strand). xs ++ c.strand_of-2.result ∷ []) (c.in_ok-push.ensures ∙ ap (λ (xs : List Strand). xs ++ c.strand_of.result ∷ []) c.new-strands.ensures.items) in
    let listed : AreListed (plan_of c.args.fork.now.map.now) (ComesAt (plan_of c.args.fork.now.map.now) c.args.place c.args.fork.now.part) c.deref.result.now =
    subst (AreListed (plan_of c.args.fork.now.map.now) (ComesAt (plan_of c.args.fork.now.map.now) c.args.place c.args.fork.now.part)) (sym is)
    (listing_two (plan_of c.args.fork.now.map.now) c.args.place c.args.fork.now.part c.strand_of-2.result c.strand_of.result
    (strand_at (plan_of c.args.fork.now.map.now) _ c.args.fork.now.part c.strand_of-2.result c.in_ok-mine.mine.items c.strand_of-2.ensures.row c.strand_of-2.ensures.is c.strand_of-2.ensures.places c.in_ok-mine.ensures.ok)
    (strand_at (plan_of c.args.fork.now.map.now) _ (c.args.fork.now.part + 1) c.strand_of.result c.in_ok-others.others.items c.strand_of.ensures.row c.strand_of.ensures.is c.strand_of.ensures.places c.in_ok-others.ensures.ok)) in
    let told : IsToldBy (plan_of c.args.fork.now.map.now) c.args.fork.now.parts.now (SeesOn (plan_of c.args.fork.now.map.now) c.deref.result.now) c.none.result (Some c.in-Some.open) =
    subst (IsToldBy (plan_of c.args.fork.now.map.now) c.args.fork.now.parts.now (SeesOn (plan_of c.args.fork.now.map.now) c.deref.result.now) c.none.result) c.in-Some.is c.in_ok-open.ensures.told in (
      refl,
      two_told (plan_of c.args.fork.now.map.now) c.args.place c.args.fork.now.part c.args.fork.now.parts.now c.deref.result.now listed c.none.result c.none.ensures c.requires c.in-Some.open told,
    )

pub returns-clause-ok : goal.returns-clause-ok
returns-clause-ok c settled share =
    let is : c.deref.result.now ≡ c.strand_of.result ∷ c.strand_of-2.result ∷ [] =
    c.deref.ensures.value ∙ c.in_ok-push-2.ensures ∙ ap (λ (xs : List Strand). xs ++ c.strand_of-2.result ∷ []) (c.in_ok-push.ensures ∙ ap (λ (xs : List Strand). xs ++ c.strand_of.result ∷ []) c.new-strands.ensures.items) in
    let listed : AreListed (plan_of c.args.fork.now.map.now) (ComesAt (plan_of c.args.fork.now.map.now) c.args.place c.args.fork.now.part) c.deref.result.now =
    subst (AreListed (plan_of c.args.fork.now.map.now) (ComesAt (plan_of c.args.fork.now.map.now) c.args.place c.args.fork.now.part)) (sym is)
    (listing_two (plan_of c.args.fork.now.map.now) c.args.place c.args.fork.now.part c.strand_of-2.result c.strand_of.result
    (strand_at (plan_of c.args.fork.now.map.now) _ c.args.fork.now.part c.strand_of-2.result c.in_ok-mine.mine.items c.strand_of-2.ensures.row c.strand_of-2.ensures.is c.strand_of-2.ensures.places c.in_ok-mine.ensures.ok)
    (strand_at (plan_of c.args.fork.now.map.now) _ (c.args.fork.now.part + 1) c.strand_of.result c.in_ok-others.others.items c.strand_of.ensures.row c.strand_of.ensures.is c.strand_of.ensures.places c.in_ok-others.ensures.ok)) in
    let decided : AreDecidedBy (plan_of c.args.fork.now.map.now) c.args.fork.now.parts.now (SeesOn (plan_of c.args.fork.now.map.now) c.deref.result.now) (4 - c.none.result.depth) None =
    subst (AreDecidedBy (plan_of c.args.fork.now.map.now) c.args.fork.now.parts.now (SeesOn (plan_of c.args.fork.now.map.now) c.deref.result.now) (4 - c.none.result.depth)) c.in-None.is c.in_ok-open.ensures.ok in
    two_decided (plan_of c.args.fork.now.map.now) c.args.place c.args.fork.now.part c.args.fork.now.parts.now c.deref.result.now listed c.none.result c.none.ensures decided settled share.word share.len share.such

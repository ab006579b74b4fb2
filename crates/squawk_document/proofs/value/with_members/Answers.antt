use Rattle.std.proofs.Common.{◌≡◌, ◌∙◌, Some, ap, arith, sym}
use Rattle.std.specs.Prelude.{option_map}
use Rattle.serde_json.specs.Find.{as_object}
use Rattle.serde_json.specs.View.{members_view, view}
use Rattle.squawk_document.proofs.Values.{has_members-all, has_members-other}
use Rattle.squawk_document.proofs.value.with_members.Goals as goal

pub returns-then-len-n : goal.returns-then-len-n
returns-then-len-n c =
    let entries = c.in_ok-members.members.now.entries in
    let is : Some (members_view entries) ≡ as_object (view c.args.value.now) = sym (ap (option_map (λ m. members_view m.now.entries)) c.in_ok-members.ensures.ok_part) ∙ c.as_object.ensures in
    has_members-other _ c.args.n entries is (λ same. absurd (omega (arith, c.if-len-n.true, c.len.ensures.len, same)))

pub returns : goal.returns
returns c =
    let entries = c.in_ok-members.members.now.entries in
    let is : Some (members_view entries) ≡ as_object (view c.args.value.now) = sym (ap (option_map (λ m. members_view m.now.entries)) c.in_ok-members.ensures.ok_part) ∙ c.as_object.ensures in
    has_members-all _ c.args.n entries is (omega (arith, c.len.ensures.len, c.if-len-n.false))

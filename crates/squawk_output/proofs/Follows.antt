-- One link followed.
use Rattle.std.proofs.Common.{◌≡◌, ◌∙◌, ℕ, zero, suc, ◌+◌, ◌-◌, ◌<◌, ◌≤◌, Some, None, Option, List, [], ◌∷◌, ◌++◌, length, get_or, set, drop, refl, sym, ap, subst, arith, append_assoc, true}
use Rattle.std.proofs.Math.Nat.{suc-add}
use Rattle.std.proofs.lemmas.List.{length-set, append-nil, set-get_or}
use Rattle.squawk_kinds.specs.Kinds.{TOMBSTONE}
use Rattle.squawk_output.specs.declared.event.Event.{Event}
use Rattle.squawk_output.specs.declared.event.Event.TheVariants.{Start}
use Rattle.squawk_output.specs.EventLog.{LinksLead, Log, has_link, linked_index}
use Rattle.squawk_output.specs.Chain.{LandsAt, chain, erased, forward_parent, hop, node_kind, tombstone}
use Rattle.squawk_output.specs.Pass.{Follows}
use Rattle.squawk_output.proofs.Links.{LinksLead-unlinked, is_start_at-within}

pub erased-None : (log : Log) → erased None log ≡ log
erased-None [] = refl
erased-None (x ∷ xs) = refl

chain-None : (log : Log) → chain None log ≡ []
chain-None [] = refl
chain-None (x ∷ xs) = refl

pub length-chain : (from : Option ℕ) (log : Log) → length (chain from log) ≤ length log
length-chain from [] = omega arith
length-chain None (x ∷ xs) = omega arith
length-chain (Some zero) (x ∷ xs) = omega (arith, length-chain (linked_index x) xs)
length-chain (Some (suc n)) (x ∷ xs) = omega (arith, length-chain (Some n) xs)

one_further : (n : ℕ) → 0 < n → 0 + n ≡ suc (n - 1)
one_further n h = omega arith

-- ---- the Start at an index is taken out, and the chain goes on from where its link leads

pub erased-start : (log : Log) (index kind : ℕ) (link : Option ℕ) (d : Event) → get_or log index d ≡ Start kind link → index < length log → LinksLead log
    → erased (Some index) log ≡ erased (hop index link) (set log index tombstone)
erased-start [] index kind link d is lt links = absurd (omega arith)
erased-start (x ∷ xs) zero kind None d is lt links = rw is (ap (λ ys. tombstone ∷ ys) (erased-None xs))
erased-start (x ∷ xs) zero kind (Some n) d is lt links = let h = rw is at links.0 in rw (is, one_further n h.0) refl
erased-start (x ∷ xs) (suc m) kind None d is lt links =
    ap (λ ys. x ∷ ys) (erased-start xs m kind None d is (omega arith) links.1 ∙ erased-None (set xs m tombstone))
erased-start (x ∷ xs) (suc m) kind (Some n) d is lt links = rw (suc-add m n) (ap (λ ys. x ∷ ys) (erased-start xs m kind (Some n) d is (omega arith) links.1))

pub chain-start : (log : Log) (index kind : ℕ) (link : Option ℕ) (d y : Event) → get_or log index d ≡ Start kind link → index < length log → LinksLead log
    → chain (Some index) log ≡ kind ∷ chain (hop index link) (set log index y)
chain-start [] index kind link d y is lt links = absurd (omega arith)
chain-start (x ∷ xs) zero kind None d y is lt links = rw is (ap (λ ys. kind ∷ ys) (chain-None xs))
chain-start (x ∷ xs) zero kind (Some n) d y is lt links = let h = rw is at links.0 in rw (is, one_further n h.0) refl
chain-start (x ∷ xs) (suc m) kind None d y is lt links = chain-start xs m kind None d y is (omega arith) links.1 ∙ ap (λ ys. kind ∷ ys) (chain-None (set xs m y))
chain-start (x ∷ xs) (suc m) kind (Some n) d y is lt links = rw (suc-add m n) (chain-start xs m kind (Some n) d y is (omega arith) links.1)

pub LandsAt-start : (log : Log) (index kind : ℕ) (link : Option ℕ) (d y : Event) → get_or log index d ≡ Start kind link → index < length log → LinksLead log
    → LandsAt (set log index y) (hop index link)
LandsAt-start log index kind None d y is lt links = tt
LandsAt-start [] index kind (Some n) d y is lt links = absurd (omega arith)
LandsAt-start (x ∷ xs) zero kind (Some n) d y is lt links = let h = rw is at links.0 in rw (one_further n h.0) h.1
LandsAt-start (x ∷ xs) (suc m) kind (Some n) d y is lt links = rw (suc-add m n) (LandsAt-start xs m kind (Some n) d y is (omega arith) links.1)

-- ---- the same where the Start stays

pub drop-hop : (log : Log) (index kind : ℕ) (link : Option ℕ) (d : Event) → get_or log index d ≡ Start kind link → index < length log → LinksLead log
    → drop (suc index) (erased (hop index link) log) ≡ drop (suc index) (erased (Some index) log)
drop-hop [] index kind link d is lt links = absurd (omega arith)
drop-hop (x ∷ xs) zero kind None d is lt links = rw is (sym (erased-None xs))
drop-hop (x ∷ xs) zero kind (Some n) d is lt links = let h = rw is at links.0 in rw (is, one_further n h.0) refl
drop-hop (x ∷ xs) (suc m) kind None d is lt links =
    ap (drop (suc m)) (sym (erased-None xs)) ∙ drop-hop xs m kind None d is (omega arith) links.1
drop-hop (x ∷ xs) (suc m) kind (Some n) d is lt links = rw (suc-add m n) (drop-hop xs m kind (Some n) d is (omega arith) links.1)

pub chain-hop : (log : Log) (index kind : ℕ) (link : Option ℕ) (d : Event) → get_or log index d ≡ Start kind link → index < length log → LinksLead log
    → chain (Some index) log ≡ kind ∷ chain (hop index link) log
chain-hop log index kind link d is lt links =
    chain-start log index kind link d (get_or log index d) is lt links ∙ ap (λ events. kind ∷ chain (hop index link) events) (set-get_or log index d)

pub LandsAt-hop : (log : Log) (index kind : ℕ) (link : Option ℕ) (d : Event) → get_or log index d ≡ Start kind link → index < length log → LinksLead log
    → LandsAt log (hop index link)
LandsAt-hop log index kind link d is lt links =
    subst (λ events. LandsAt events (hop index link)) (set-get_or log index d) (LandsAt-start log index kind link d (get_or log index d) is lt links)

-- ---- the loop

-- an event with a link is a Start
pub linked-start : (event : Event) → has_link event ≡ true → event ≡ Start (node_kind event) (forward_parent event)
linked-start (Start kind link) linked = refl
linked-start other linked = absurd (cc)

-- before the first link
pub Follows-begins : (log : Log) (kinds : List ℕ) (index kind : ℕ) (link : Option ℕ) (d : Event) → get_or log index d ≡ Start kind link → index < length log → LinksLead log
    → Follows log kinds (hop index link) log kinds (hop index link)
Follows-begins log kinds index kind link d is lt links = record {
  same_length = refl;
  links = links;
  lands = LandsAt-hop log index kind link d is lt links;
  leaves = refl;
  finds = refl;
}

module _ (log : Log) (kinds : List ℕ) (from : Option ℕ) where
  followed : (left : Log) (found : List ℕ) (index kind : ℕ) (link : Option ℕ) (d : Event) → get_or left index d ≡ Start kind link
      → Follows log kinds from left found (Some index)
      → Follows log kinds from (set left index tombstone) (found ++ kind ∷ []) (hop index link)
  followed left found index kind link d is follows =
      let lt : index < length left = is_start_at-within left index follows.lands in
      let here = chain-start left index kind link d tombstone is lt follows.links in
      let rest = chain (hop index link) (set left index tombstone) in
      record {
        same_length = length-set left index tombstone ∙ follows.same_length;
        links = LinksLead-unlinked left index TOMBSTONE follows.links;
        lands = LandsAt-start left index kind link d tombstone is lt follows.links;
        leaves = sym (erased-start left index kind link d is lt follows.links) ∙ follows.leaves;
        finds = append_assoc found (kind ∷ []) rest ∙ (ap (λ ys. found ++ ys) (sym here) ∙ follows.finds);
      }

  module _ (left : Log) (found : List ℕ) (at distance : ℕ) (next : Option ℕ) (some : next ≡ Some distance) (follows : Follows log kinds from left found (hop at next))
      (kind : ℕ) (link : Option ℕ) (d t : Event) (is : get_or left (at + distance) d ≡ Start kind link) (gone : t ≡ tombstone) where
    pub Follows-next : (more : List ℕ) → more ≡ found ++ kind ∷ [] → Follows log kinds from (set left (at + distance) t) more (hop (at + distance) link)
    Follows-next more pushed =
        let follows_here = rw some at follows in
        rw (gone, pushed) (followed left found (at + distance) kind link d is follows_here)

    -- less of the chain is left
    pub chain-shorter : length (chain (hop (at + distance) link) (set left (at + distance) t)) < length (chain (hop at next) left)
    chain-shorter =
        let follows_here = rw some at follows in
        let here = chain-start left (at + distance) kind link d tombstone is (is_start_at-within left (at + distance) follows_here.lands) follows_here.links in
        rw (gone, some) (omega (arith, ap length here))

  -- where no link is left, the chain is at its end
  module _ (left : Log) (found : List ℕ) (at : ℕ) where
    pub ends-events : (next : Option ℕ) → next ≡ None → Follows log kinds from left found (hop at next) → left ≡ erased from log
    ends-events next none follows = let end = rw none at follows in sym (erased-None left) ∙ end.leaves

    pub ends-kinds : (next : Option ℕ) → next ≡ None → Follows log kinds from left found (hop at next) → found ≡ kinds ++ chain from log
    ends-kinds next none follows = let end = rw none at follows in sym (append-nil found) ∙ (ap (λ ys. found ++ ys) (sym (chain-None left)) ∙ end.finds)

-- The tokens that are seen from an index on: the first of them and the others.
use Rattle.std.proofs.Common.{◌≡◌, ◌∙◌, ℕ, zero, suc, ◌+◌, ◌<◌, ◌≤◌, false, List, [], ◌∷◌, length, drop, take, arith, ap, sym, refl}
use Rattle.std.proofs.lemmas.List.{drop_all, drop-drop, length-drop, length-take}
use Rattle.squawk_parser.specs.LookAhead.{seen_from, is_joint_next}
use Rattle.squawk_table.specs.ParserInput.{Entry, kind_in, is_joint_in}

-- the first token that is seen is that of the input at the index
pub record SeenNext (input : List Entry) (limit index : ℕ) : Type 0 where
  pub entry : Entry
  pub kind : entry.kind ≡ kind_in input index
  pub is_joint : entry.is_joint ≡ is_joint_in input index
  pub seen : seen_from input limit index ≡ entry ∷ seen_from input limit (suc index)

-- before the limit there is one
pub seen_next : (input : List Entry) (limit index : ℕ) → index < limit → limit ≤ length input → SeenNext input limit index
seen_next [] limit index before within = absurd (omega arith)
seen_next (e ∷ input) zero index before within = absurd (omega arith)
seen_next (e ∷ input) (suc limit) zero before within = record { entry = e; kind = refl; is_joint = refl; seen = refl }
seen_next (e ∷ input) (suc limit) (suc index) before within =
    let next = seen_next input limit index (omega arith) (omega arith) in
    record { entry = next.entry; kind = next.kind; is_joint = next.is_joint; seen = next.seen }

-- from the limit on there is none
pub seen_from-end : (input : List Entry) (limit index : ℕ) → limit ≤ index → seen_from input limit index ≡ []
seen_from-end input limit index end = drop_all index (take limit input) (omega (arith, length-take limit input))

-- a token that another one follows is joint with it as in the input
pub is_joint_next-seen : (input : List Entry) (limit index : ℕ) → suc index < limit → limit ≤ length input
    → is_joint_next (seen_from input limit index) ≡ is_joint_in input index
is_joint_next-seen input limit index before within =
    let first = seen_next input limit index (omega arith) within in
    let second = seen_next input limit (suc index) before within in
    ap is_joint_next (first.seen ∙ ap (λ seen. first.entry ∷ seen) second.seen) ∙ first.is_joint

-- the last token is joint with none
pub is_joint_next-last : (input : List Entry) (limit index : ℕ) → limit ≤ suc index → is_joint_next (seen_from input limit index) ≡ false
is_joint_next-last input limit index last = ends (seen_from input limit index) (omega (arith, length-drop index (take limit input), length-take limit input))
  where
    ends : (seen : List Entry) → length seen ≤ 1 → is_joint_next seen ≡ false
    ends [] short = refl
    ends (e ∷ []) short = refl
    ends (e ∷ next ∷ rest) short = absurd (omega arith)

module _ (input : List Entry) (limit index i : ℕ) (seen : List Entry) (is : seen_from input limit index ≡ seen) where
  -- behind the first i tokens that are seen stand those from a later index on
  behind : is_joint_next (drop i seen) ≡ is_joint_next (seen_from input limit (index + i))
  behind = ap (λ tokens. is_joint_next (drop i tokens)) (sym is) ∙ ap is_joint_next (drop-drop i index (take limit input))

  -- so token i is joint with the next as in the input
  pub is_joint_next-drop : suc (index + i) < limit → limit ≤ length input → is_joint_next (drop i seen) ≡ is_joint_in input (index + i)
  is_joint_next-drop before within = behind ∙ is_joint_next-seen input limit (index + i) before within

  -- or none where it is the last
  pub is_joint_next-drop-last : limit ≤ suc (index + i) → is_joint_next (drop i seen) ≡ false
  is_joint_next-drop-last last = behind ∙ is_joint_next-last input limit (index + i) last

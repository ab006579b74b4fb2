-- A kind that isn't composite stands exactly where a look at the token gives it.
use Rattle.std.proofs.Common.{◌≡◌, ◌∙◌, ℕ, ◌+◌, ◌==◌, Bool, true, false, None, nat_lt, if◌then◌else◌, arith, ap, sym, refl}
use Rattle.std.specs.List.{find}
use Rattle.squawk_kinds.specs.Kinds.{EOF}
use Rattle.squawk_table.specs.ParserInput.{kind_in}
use Rattle.squawk_parser.specs.Composites.{composites, stands_as, stands_at}
use Rattle.squawk_parser.specs.State.{State, IsSound, kind_at, ahead}
use Rattle.squawk_parser.proofs.SeenTokens.{seen_next, seen_from-end}

-- the kind of the token n after the current one is that of the first token that is seen from there
pub kind_at-ahead : (s : State) (n : ℕ) → IsSound s → kind_at s n ≡ kind_in (ahead s n) 0
kind_at-ahead s n sound = cases (nat_lt (s.position + n) s.limit) refl
  where
    index : ℕ
    index = s.position + n

    cases : (b : Bool) → nat_lt index s.limit ≡ b → (if b then kind_in s.input index else EOF) ≡ kind_in (ahead s n) 0
    cases true e =
        let first = seen_next s.input s.limit index (grind (arith, e)) sound.limit in
        sym (ap (λ seen. kind_in seen 0) first.seen ∙ first.kind)
    cases false e = sym (ap (λ seen. kind_in seen 0) (seen_from-end s.input s.limit index (grind (arith, e))))

pub stands_at-plain : (s : State) (n kind : ℕ) (operator_kind : ℕ → Bool) → IsSound s → find (λ composite. composite.kind == kind) composites ≡ None
    → stands_at operator_kind kind (ahead s n) ≡ (kind_at s n == kind)
stands_at-plain s n kind operator_kind sound plain =
    ap (λ composite. stands_as operator_kind kind composite (ahead s n)) plain ∙ ap (λ first. first == kind) (sym (kind_at-ahead s n sound))

-- Trees beside each other.
use Rattle.std.proofs.Common.{◌≡◌, ◌∙◌, ℕ, suc, ◌+◌, ◌≤◌, arith, ap, sym, refl, add-zero}
use Rattle.squawk_tree.specs.Forest.{Forest, Nothing, Token, Node, Error}
use Rattle.syntax_tree.specs.Trees.{size}
use Rattle.syntax_tree.specs.Layout.{last_of, outermost}

-- trees before others
abbrev pub beside : Forest → Forest → Forest
beside Nothing more = more
beside (Token kind text others) more = Token kind text (beside others more)
beside (Node kind inner others) more = Node kind inner (beside others more)
beside (Error text pos others) more = Error text pos (beside others more)

pub size-beside : (f g : Forest) → size (beside f g) ≡ size f + size g
size-beside Nothing g = omega arith
size-beside (Token kind text others) g = omega (arith, size-beside others g)
size-beside (Node kind inner others) g = omega (arith, size-beside others g)
size-beside (Error text pos others) g = size-beside others g

pub beside_assoc : (a b c : Forest) → beside (beside a b) c ≡ beside a (beside b c)
beside_assoc Nothing b c = refl
beside_assoc (Token kind text others) b c = ap (Token kind text) (beside_assoc others b c)
beside_assoc (Node kind inner others) b c = ap (Node kind inner) (beside_assoc others b c)
beside_assoc (Error text pos others) b c = ap (Error text pos) (beside_assoc others b c)

pub last_of-beside : (f g : Forest) (at none : ℕ) → last_of (beside f g) at none ≡ last_of g (at + size f) (last_of f at none)
last_of-beside Nothing g at none = ap (λ a. last_of g a none) (sym (add-zero at))
last_of-beside (Token kind text others) g at none =
    let n : at + 1 + size others ≡ at + suc (size others) = omega arith in
    last_of-beside others g (at + 1) at ∙ ap (λ a. last_of g a (last_of others (at + 1) at)) n
last_of-beside (Node kind inner others) g at none =
    let n : at + 1 + size inner + size others ≡ at + suc (size inner + size others) = omega arith in
    last_of-beside others g (at + 1 + size inner) at ∙ ap (λ a. last_of g a (last_of others (at + 1 + size inner) at)) n
last_of-beside (Error text pos others) g at none = last_of-beside others g at none

pub last_of-none : (f : Forest) (at none : ℕ) → size f ≡ 0 → last_of f at none ≡ none
last_of-none Nothing at none is = refl
last_of-none (Token kind text others) at none is = absurd (omega (arith, is))
last_of-none (Node kind inner others) at none is = absurd (omega (arith, is))
last_of-none (Error text pos others) at none is = last_of-none others at none is

pub last_of-some : (f : Forest) (at none none' : ℕ) → 1 ≤ size f → last_of f at none ≡ last_of f at none'
last_of-some Nothing at none none' some = absurd (omega (arith, some))
last_of-some (Token kind text others) at none none' some = refl
last_of-some (Node kind inner others) at none none' some = refl
last_of-some (Error text pos others) at none none' some = last_of-some others at none none' some

pub outermost-none : (f : Forest) (at all : ℕ) → size f ≡ 0 → outermost f at all ≡ all
outermost-none Nothing at all is = refl
outermost-none (Token kind text others) at all is = absurd (omega (arith, is))
outermost-none (Node kind inner others) at all is = absurd (omega (arith, is))
outermost-none (Error text pos others) at all is = outermost-none others at all is

pub outermost-some : (f : Forest) (at all : ℕ) → 1 ≤ size f → outermost f at all ≡ at
outermost-some Nothing at all some = absurd (omega (arith, some))
outermost-some (Token kind text others) at all some = refl
outermost-some (Node kind inner others) at all some = refl
outermost-some (Error text pos others) at all some = outermost-some others at all some

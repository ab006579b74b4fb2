-- The tokens that are seen, and what acts that eat make of them.
use Rattle.std.proofs.Common.{◌≡◌, ◌≢◌, ◌∙◌, ℕ, zero, suc, ◌+◌, ◌<◌, ◌≤◌, ◌==◌, ◌&&◌, ◌||◌, Bool, true, false, List, [], ◌∷◌, length, take, drop, nat_lt, if◌then◌else◌, arith, ap, sym, refl, subst}
use Rattle.std.specs.List.{list_any}
use Rattle.std.proofs.lemmas.Bool.{ne_eqb}
use Rattle.std.proofs.lemmas.List.{drop-drop, take_all}
use Rattle.std.proofs.lemmas.List.Elements.{All-head, All-tail}
use Rattle.squawk_kinds.specs.Kinds.{EOF, UNICODE_NORMAL_FORM}
use Rattle.squawk_table.specs.ParserInput.{Entry, kind_in}
use Rattle.squawk_table.specs.Shape.{AreOneToken}
use Rattle.squawk_parser.specs.Composites.{HasNoEndKind, are_joint, normal_form, normal_forms}
use Rattle.squawk_parser.specs.Eaten.{current_as, element_steps, node, one}
use Rattle.squawk_parser.specs.Recorded.{Puts}
use Rattle.squawk_parser.specs.State.{State, IsFresh, Keeps, ahead, kind_at}
use Rattle.squawk_parser.proofs.CompositeLemmas.{kind_in-drop}

-- ---- what is seen

kind-take : (input : List Entry) (limit index : ℕ) → index < limit → kind_in (take limit input) index ≡ kind_in input index
kind-take input zero index lt = absurd (omega arith)
kind-take [] (suc limit) index lt = refl
kind-take (e ∷ input) (suc limit) zero lt = refl
kind-take (e ∷ input) (suc limit) (suc index) lt = kind-take input limit index (omega arith)

kind-take-end : (input : List Entry) (limit index : ℕ) → limit ≤ index → kind_in (take limit input) index ≡ EOF
kind-take-end input zero index le = refl
kind-take-end [] (suc limit) index le = refl
kind-take-end (e ∷ input) (suc limit) zero le = absurd (omega arith)
kind-take-end (e ∷ input) (suc limit) (suc index) le = kind-take-end input limit index (omega arith)

-- the current kind is that of the first token that is seen
pub kind_at-first : (s : State) → kind_at s 0 ≡ kind_in (ahead s 0) 0
kind_at-first s = cases (nat_lt (s.position + 0) s.limit) refl ∙ sym (kind_in-drop (take s.limit s.input) (s.position + 0))
  where
    cases : (b : Bool) → nat_lt (s.position + 0) s.limit ≡ b → (if b then kind_in s.input (s.position + 0) else EOF) ≡ kind_in (take s.limit s.input) (s.position + 0)
    cases true e = sym (kind-take s.input s.limit (s.position + 0) (grind (arith, e)))
    cases false e = sym (kind-take-end s.input s.limit (s.position + 0) (grind (arith, e)))

-- after n tokens the others are seen
pub ahead-moved : {a b : State} (n : ℕ) → Keeps a b → b.position ≡ a.position + n → ahead b 0 ≡ drop n (ahead a 0)
ahead-moved {a} {b} n keeps position =
    let start : b.position + 0 ≡ a.position + 0 + n = omega arith in
    ap (λ start. drop start (take b.limit b.input)) start
    ∙ (ap (λ limit. drop (a.position + 0 + n) (take limit b.input)) keeps.limit
    ∙ (ap (λ input. drop (a.position + 0 + n) (take a.limit input)) keeps.input
    ∙ sym (drop-drop n (a.position + 0) (take a.limit a.input))))

-- where none was eaten, all are
pub ahead-still : {a b : State} → Keeps a b → b.position ≡ a.position → ahead b 0 ≡ ahead a 0
ahead-still {a} {b} keeps position = ahead-moved 0 keeps (position ∙ (omega arith))

-- a parser at the beginning sees all of its input
pub ahead-fresh : {s : State} → IsFresh s → ahead s 0 ≡ s.input
ahead-fresh {s} fresh =
    let start : s.position + 0 ≡ 0 = omega (arith, ap (λ s. s.position) fresh) in
    let limit : s.limit ≡ length s.input = ap (λ s. s.limit) fresh in
    ap (λ start. drop start (take s.limit s.input)) start ∙ (ap (λ limit. take limit s.input) limit ∙ take_all (length s.input) s.input (omega arith))

-- ---- one token

-- a kind that isn't the end's has a token
pub seen_one : (seen : List Entry) → kind_in seen 0 ≢ EOF → AreOneToken 1 seen
seen_one [] some = absurd (some refl)
seen_one (e ∷ seen) some = record { some = omega arith; there = omega arith; touch = λ i lt. absurd (omega arith) }

pub and-left : (x y : Bool) → (x && y) ≡ true → x ≡ true
and-left true y e = refl
and-left false y e = e

pub and-right : (x y : Bool) → (x && y) ≡ true → y ≡ true
and-right true y e = e
and-right false y e = absurd (cc)

past_first : (n : ℕ) (is_joint : Bool) → ((suc n == 0) || is_joint) ≡ true → is_joint ≡ true
past_first n true e = refl
past_first n false e = let no : (suc n == 0) ≡ false = grind arith in absurd (let p = sym e ∙ ap (λ b. b || false) no in cc)

one_more : (n : ℕ) → ((suc n == 0) || false) ≡ true → ⊥
one_more n e = let no = past_first n false e in cc

-- joint kinds are one token
pub joint_one : (part : ℕ) (parts : List ℕ) (seen : List Entry) → HasNoEndKind (part ∷ parts) → are_joint (part ∷ parts) seen ≡ true
    → AreOneToken (suc (length parts)) seen
joint_one part parts [] no_end touch =
    let first : (EOF == part) ≡ true = and-left _ _ (and-left _ _ touch) in
    absurd (All-head (λ kind. kind ≢ EOF) part parts no_end (grind (arith, first)))
joint_one part [] (e ∷ seen) no_end touch = record { some = omega arith; there = omega arith; touch = λ i lt. absurd (omega arith) }
joint_one part (next ∷ parts) (e ∷ []) no_end touch =
    absurd (one_more (length parts) (and-right _ _ (and-left _ _ touch)))
joint_one part (next ∷ parts) (e ∷ f ∷ seen) no_end touch =
    let is_joint : e.is_joint ≡ true = past_first (length parts) e.is_joint (and-right (e.kind == part) _ (and-left _ (are_joint (next ∷ parts) (f ∷ seen)) touch)) in
    let others = and-right ((e.kind == part) && ((suc (length parts) == 0) || e.is_joint)) (are_joint (next ∷ parts) (f ∷ seen)) touch in
    let rest : AreOneToken (suc (length parts)) (f ∷ seen) =
    joint_one next parts (f ∷ seen) (All-tail (λ kind. kind ≢ EOF) part (next ∷ parts) no_end) others in
    record {
      some = omega arith;
      there = omega (arith, rest.there);
      touch = elim [ zero ↦ λ lt. is_joint | suc i ↦ λ lt. rest.touch i (omega arith) ];
    }

pub joint_all : (parts : List ℕ) (seen : List Entry) → 1 ≤ length parts → HasNoEndKind parts → are_joint parts seen ≡ true → AreOneToken (length parts) seen
joint_all [] seen some no_end touch = absurd (omega arith)
joint_all (part ∷ parts) seen some no_end touch = joint_one part parts seen no_end touch

-- ---- normal forms

pub if-true : {A : Type 0} (b : Bool) (x y : A) → b ≡ true → (if b then x else y) ≡ x
if-true b x y e = rw e refl

pub if-false : {A : Type 0} (b : Bool) (x y : A) → b ≡ false → (if b then x else y) ≡ y
if-false b x y e = rw e refl

-- the current token is eaten, which is of this kind
pub bump_puts : {a b : State} (kind : ℕ) → kind_in (ahead a 0) 0 ≡ kind → kind ≢ EOF → Puts (current_as (kind_in (ahead a 0) 0) (ahead a 0)) a b → Puts (one kind ∷ []) a b
bump_puts {a} {b} kind is some puts =
    let there : (kind_in (ahead a 0) 0 == EOF) ≡ false = ne_eqb (kind_in (ahead a 0) 0) EOF (λ end. some (sym is ∙ end)) in
    subst (λ steps. Puts steps a b) (if-false _ _ _ there ∙ ap (λ kind. one kind ∷ []) is) puts

-- where a keyword of a normal form stands, it makes a node
pub normal_form-there : (seen : List Entry) (kind : ℕ) → kind ≡ kind_in seen 0 → list_any (λ form. kind == form) normal_forms ≡ true
    → element_steps (normal_form ∷ []) seen ≡ node UNICODE_NORMAL_FORM (one kind ∷ [])
normal_form-there seen kind is there =
    if-true _ _ _ (ap (λ k. list_any (λ form. k == form) normal_forms) (sym is) ∙ there) ∙ ap (λ k. node UNICODE_NORMAL_FORM (one k ∷ [])) (sym is)

-- and where none stands, nothing
pub normal_form-left_out : (seen : List Entry) (kind : ℕ) → kind ≡ kind_in seen 0 → list_any (λ form. kind == form) normal_forms ≡ false
    → element_steps (normal_form ∷ []) seen ≡ []
normal_form-left_out seen kind is none = if-false _ _ _ (ap (λ k. list_any (λ form. k == form) normal_forms) (sym is) ∙ none)

-- such a keyword isn't the end
pub normal_form-some : (kind : ℕ) → list_any (λ form. kind == form) normal_forms ≡ true → kind ≢ EOF
normal_form-some kind there end = absurd (let e = sym there ∙ ap (λ k. list_any (λ form. k == form) normal_forms) end in cc)

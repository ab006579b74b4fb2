-- The next word decides: what the words from one on write as a form ends at one place.
use Rattle.std.specs.Prelude.{◌≡◌, ◌≢◌, ℕ, ◌+◌, Bool, true, false, List}
use Rattle.std.proofs.Common.{sym, subst, ap, ◌∙◌, refl}
use Rattle.rule_parts.specs.declared.Name.{Name}
use Rattle.rule_parts.specs.declared.Part.{Part}
use Rattle.rule_text.specs.declared.word.Word.{Word}
use Rattle.rule_text.specs.declared.word.Sort.{Sort}
use Rattle.rule_text.specs.Written.{Arrow, Form, Greedy, Guarding, Kinds, MoreKinds, OneKind, Separated, Written, bar, begins_item, is_sign, sort_at}
use Rattle.rule_text.specs.Written.Arrow.{arrow}
use Rattle.rule_text.specs.Written.Form.{arms, atom, item, items, sequence}
use Rattle.rule_text.specs.Written.Greedy.{greedy, not_greedy}
use Rattle.rule_text.specs.Written.Guarding.{guarded, looks, unguarded}
use Rattle.rule_text.specs.Written.Kinds.{one_kind, some_kinds}
use Rattle.rule_text.specs.Written.MoreKinds.{last_kind, next_kind}
use Rattle.rule_text.specs.Written.OneKind.{kind}
use Rattle.rule_text.specs.Written.Separated.{by_comma, by_token}
use Rattle.rule_text.specs.Written.Written.{all, alone, becomes, call, choice, class, group, guarded, is, last, list, more, next, none, once, one, operand, signed, token}
use Rattle.rule_text.proofs.LookEnds.{same_tokens}

-- a test doesn't hold and fail at one place
pub differ : (P : ℕ → Bool) {j k : ℕ} → j ≡ k → P j ≡ true → P k ≡ false → ⊥
differ P {j} {k} h t f = let bad : true ≡ false = sym t ∙ (ap P h ∙ f) in cc

pub same_arrow : {ws : List Word} {i j k : ℕ} {ps qs : List Part} → Arrow ws i j ps → Arrow ws i k qs → j ≡ k
same_arrow (arrow e f w) (arrow g h v) = refl

pub same_greedy : {ws : List Word} {i j k : ℕ} {x y : Bool} → Greedy ws i j x → Greedy ws i k y → j ≡ k
same_greedy (greedy e) (greedy f) = refl
same_greedy (greedy e) (not_greedy n) = absurd (n e)
same_greedy (not_greedy n) (greedy e) = absurd (n e)
same_greedy (not_greedy n) (not_greedy m) = refl

pub same_guarding : {ws : List Word} {i j k : ℕ} {ps qs : List Part} → Guarding ws i j ps → Guarding ws i k qs → j ≡ k
same_guarding (guarded e w) (guarded f v) = refl
same_guarding (guarded e w) (unguarded n m) = absurd (n e)
same_guarding (guarded e w) (looks f v) = cc
same_guarding (looks f v) (guarded e w) = cc
same_guarding (looks e v) (looks f w) = same_tokens v w
same_guarding (looks e v) (unguarded n m) = absurd (m e)
same_guarding (unguarded n m) (guarded e w) = absurd (n e)
same_guarding (unguarded n m) (looks e v) = absurd (m e)
same_guarding (unguarded n m) (unguarded o p) = refl

pub same_separated : {ws : List Word} {i j k : ℕ} {x y : Name} → Separated ws i j x → Separated ws i k y → j ≡ k
same_separated (by_token e w) (by_token f v) = refl
same_separated (by_token e w) (by_comma n c) = absurd (n e)
same_separated (by_comma n c) (by_token e w) = absurd (n e)
same_separated (by_comma n c) (by_comma m d) = refl

pub same_kind : {ws : List Word} {i j k : ℕ} {ps qs : List Part} → OneKind ws i j ps → OneKind ws i k qs → j ≡ k
same_kind (kind w) (kind v) = refl

pub same_more_kinds : {ws : List Word} {i k l : ℕ} {ps qs : List Part} → MoreKinds ws i k ps → MoreKinds ws i l qs → k ≡ l
same_more_kinds {ws} {i} {k} {l} (next_kind e v w) (next_kind {qs = qs} f x y) =
    same_more_kinds w (subst (λ (n : ℕ). MoreKinds ws n l qs) (sym (same_kind v x)) y)
same_more_kinds (next_kind e v w) (last_kind n) = absurd (n e)
same_more_kinds (last_kind n) (next_kind e v w) = absurd (n e)
same_more_kinds (last_kind n) (last_kind m) = refl

pub same_kinds : {ws : List Word} {i j k : ℕ} {ps qs : List Part} → Kinds ws i j ps → Kinds ws i k qs → j ≡ k
same_kinds (one_kind n v) (one_kind m w) = same_kind v w
same_kinds (one_kind n v) (some_kinds e w x f) = absurd (n e)
same_kinds (some_kinds e w x f) (one_kind n v) = absurd (n e)
same_kinds {ws} (some_kinds e v w f) (some_kinds {k = k} {qs = qs} g x y h) =
    ap (λ (n : ℕ). n + 1) (same_more_kinds w (subst (λ (n : ℕ). MoreKinds ws n k qs) (sym (same_kind v x)) y))

-- ---- forms

pub atom_begins : {ws : List Word} {floor i j : ℕ} {sort : Sort} {ps : List Part} → Written ws floor (atom sort) i j ps → begins_item sort ≡ true
atom_begins (token w) = refl
atom_begins (class w) = refl
atom_begins (call w) = refl
atom_begins (operand h) = refl
atom_begins (becomes a) = refl
atom_begins (is k) = refl
atom_begins (group v e) = refl
atom_begins (list v s e) = refl

pub begun : {ws : List Word} {floor i j : ℕ} {ps : List Part} → Written ws floor item i j ps → begins_item (sort_at ws i) ≡ false → ⊥
begun (once v e) f = let h = atom_begins v in cc
begun (signed v e g) f = let h = atom_begins v in cc

-- a word isn't of a sort at one place and of another there
pub unlike : (ws : List Word) (sort : Sort) {j k : ℕ} → j ≡ k → sort_at ws j ≢ sort → sort_at ws k ≡ sort → ⊥
unlike ws sort h n e = n (subst (λ (i : ℕ). sort_at ws i ≡ sort) (sym h) e)

pub bars : (a b : Bool) → bar a ≡ bar b → a ≡ b
bars true true e = refl
bars false false e = refl
bars true false e = cc
bars false true e = cc

-- one word is one bar
pub one_bar : (ws : List Word) (a b : Bool) {j k : ℕ} → j ≡ k → sort_at ws j ≡ bar a → sort_at ws k ≡ bar b → a ≡ b
one_bar ws a b h e f = bars a b (sym e ∙ (ap (λ (n : ℕ). sort_at ws n) h ∙ f))

-- what is written as a form ends at one place
pub same : {ws : List Word} {floor i k l : ℕ} {form : Form} {ps qs : List Part} → Written ws floor form i k ps → Written ws floor form i l qs → k ≡ l
same (token w) (token v) = refl
same (class w) (class v) = refl
same (call w) (call v) = refl
same (operand h) (operand g) = refl
same (becomes a) (becomes b) = same_arrow a b
same (is a) (is b) = same_kinds a b
same (group v e) (group w f) = ap (λ (n : ℕ). n + 1) (same v w)
same {ws} (list v s e) (list {k = k} {separator = x} w t f) =
    ap (λ (n : ℕ). n + 1) (same_separated s (subst (λ (n : ℕ). Separated ws n k x) (sym (same v w)) t))
same (once v e) (once w f) = same v w
same {ws} (once v e) (signed w f g) = absurd (differ (λ n. is_sign (sort_at ws n)) (sym (same v w)) f e)
same {ws} (signed v e g) (once w f) = absurd (differ (λ n. is_sign (sort_at ws n)) (same v w) e f)
same {ws} (signed v e g) (signed {k = k} {greedy = x} w f h) =
    same_greedy g (subst (λ (n : ℕ). Greedy ws n k x) (ap (λ (n : ℕ). n + 1) (sym (same v w))) h)
same (none e) (none f) = refl
same (none e) (more v w) = absurd (begun v e)
same (more v w) (none e) = absurd (begun v e)
same {ws} {floor} (more v w) (more {k = k} {qs = qs} x y) = same w (subst (λ (n : ℕ). Written ws floor items n k qs) (sym (same v x)) y)
same (all v) (all w) = same v w
same {ws} {floor} (guarded {of_rule = of_rule} g v) (guarded {k = k} {qs = qs} h w) =
    same v (subst (λ (n : ℕ). Written ws floor (sequence of_rule) n k qs) (sym (same_guarding g h)) w)
same (one v) (one w) = same v w
same (last n) (last m) = refl
same (last n) (next e v w) = absurd (n e)
same (next e v w) (last n) = absurd (n e)
same {ws} {floor} {form = form} (next e v w) (next {k = k} {qs = qs} f x y) =
    same w (subst (λ (n : ℕ). Written ws floor form n k qs) (sym (same v x)) y)
same (alone g v e) (alone h w f) = same v w
same {ws} (alone g v e) (choice {ordered = o} (one w) f x) = absurd (unlike ws (bar o) (same v w) (e o) f)
same {ws} (choice {ordered = o} (one v) f x) (alone g w e) = absurd (unlike ws (bar o) (sym (same v w)) (e o) f)
same {ws} {floor} (choice {j = j} {ordered = a} v e w) (choice {k = k} {qs = qs} {ordered = b} x f y) =
    let is = one_bar ws a b (same v x) e f in
    same w (subst (λ (o : Bool). Written ws floor (arms false o) j k qs) (sym is)
    (subst (λ (n : ℕ). Written ws floor (arms false b) n k qs) (sym (same v x)) y))

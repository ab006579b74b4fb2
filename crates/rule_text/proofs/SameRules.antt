-- The same of rules: what the words from one on write ends at one place.
use Rattle.std.specs.Prelude.{◌≡◌, ℕ, ◌+◌, Bool, true, false, Some, None, List}
use Rattle.std.proofs.Common.{sym, subst, ap, ◌∙◌, refl}
use Rattle.rule_parts.specs.declared.Name.{Name}
use Rattle.rule_parts.specs.declared.Part.{Part}
use Rattle.rule_text.specs.declared.body.Level.{Level}
use Rattle.rule_text.specs.declared.word.Word.{Word}
use Rattle.rule_text.specs.declared.word.Sort.{Sort}
use Rattle.rule_text.specs.declared.word.Sort.TheVariants as sorts
use Rattle.rule_text.specs.Rules.{Body, Called, Definition, Head, Member, Members, MoreOperators, Operator, RuleHead, Texts, first_level, is_level, next_level}
use Rattle.rule_text.specs.Rules.Body.{one_of, only_one, operators}
use Rattle.rule_text.specs.Rules.Called.{by_message, by_name}
use Rattle.rule_text.specs.Rules.Definition.{class_of, guard_of, rule, words_of}
use Rattle.rule_text.specs.Rules.Head.{head}
use Rattle.rule_text.specs.Rules.Member.{given, kind, other, without}
use Rattle.rule_text.specs.Rules.Members.{becomes, member, no_member}
use Rattle.rule_text.specs.Rules.MoreOperators.{no_operator, operator}
use Rattle.rule_text.specs.Rules.Operator.{prefix, tail}
use Rattle.rule_text.specs.Rules.RuleHead.{rule_head}
use Rattle.rule_text.specs.Rules.Texts.{no_text, text}
use Rattle.rule_text.specs.Written.{IsAfterBars, Written, bar, sort_at}
use Rattle.rule_text.specs.Written.Arrow.{arrow}
use Rattle.rule_text.specs.Written.Form.{arms}
use Rattle.rule_text.specs.Written.Written.{last, next, one}
use Rattle.rule_text.proofs.Reading.{word_sort}
use Rattle.rule_text.proofs.Same.{bars, differ, one_bar, same, same_arrow, unlike}

-- ---- operators

pub same_operator : {ws : List Word} {level : Level} {i j k : ℕ} {ps qs : List Part} → Operator level ws i j ps → Operator level ws i k qs → j ≡ k
same_operator (prefix n v) (prefix m w) = same v w
same_operator (prefix n v) (tail e w) = absurd (n e)
same_operator (tail e w) (prefix n v) = absurd (n e)
same_operator (tail e v) (tail f w) = same v w

pub one_level : (s : Sort) (level : Level) {a b : Level} → next_level s level ≡ Some a → next_level s level ≡ Some b → a ≡ b
one_level s level e f = cc

pub no_level : (s : Sort) (level : Level) {a : Level} → next_level s level ≡ Some a → next_level s level ≡ None → ⊥
no_level s level e f = cc

pub same_operators : {ws : List Word} {level : Level} {i j k : ℕ} {ps qs : List Part} → MoreOperators level ws i j ps → MoreOperators level ws i k qs
    → j ≡ k
same_operators (no_operator e) (no_operator f) = refl
same_operators {ws} {level} {i} (no_operator e) (operator f v w) = absurd (no_level (sort_at ws i) level f e)
same_operators {ws} {level} {i} (operator f v w) (no_operator e) = absurd (no_level (sort_at ws i) level f e)
same_operators {ws} {level} {i} (operator {next = a} e v w) (operator {j = j} {k = k} {ps = ps} {qs = qs} {next = b} f x y) =
    let is = one_level (sort_at ws i) level e f in
    let ends = same_operator v (subst (λ (l : Level). Operator l ws (i + 1) j ps) (sym is) x) in
    same_operators w (subst (λ (n : ℕ). MoreOperators a ws n k qs) (sym ends) (subst (λ (l : Level). MoreOperators l ws j k qs) (sym is) y))

-- ---- bodies

-- where neither a bar nor a level stands, operands end, and no level begins
pub no_operators : {ws : List Word} {j k : ℕ} {ps : List Part} → IsAfterBars ws j → is_level (sort_at ws j) ≡ false
    → Written ws 0 (arms true false) j k ps → is_level (sort_at ws k) ≡ true → ⊥
no_operators b l (last n) e = let bad : true ≡ false = sym e ∙ l in cc
no_operators b l (next f v w) e = b false f

-- nor after /, since operands before operators take | alone
pub no_slash : {ws : List Word} {j k : ℕ} {ps : List Part} → sort_at ws j ≡ sorts.Slash → Written ws 0 (arms true false) j k ps
    → is_level (sort_at ws k) ≡ true → ⊥
no_slash e (last n) g = let bad : true ≡ false = sym g ∙ ap is_level e in cc
no_slash e (next h x y) g = let bad = bars true false (sym e ∙ h) in cc

pub no_choice : {ws : List Word} {j k l : ℕ} {ps qs : List Part} (ordered : Bool) → sort_at ws j ≡ bar ordered → Written ws 0 (arms true ordered) j k ps
    → is_level (sort_at ws k) ≡ false → Written ws 0 (arms true false) j l qs → is_level (sort_at ws l) ≡ true → ⊥
no_choice {ws} false e v f w g = differ (λ n. is_level (sort_at ws n)) (sym (same v w)) g f
no_choice true e v f w g = no_slash e w g

pub same_body : {ws : List Word} {i j k : ℕ} {ps qs : List Part} → Body ws i j ps → Body ws i k qs → j ≡ k
same_body (only_one g v b l) (only_one h w c m) = same v w
same_body {ws} (only_one g v b l) (one_of {ordered = o} (one w) e x f) = absurd (unlike ws (bar o) (same v w) (b o) e)
same_body {ws} (one_of {ordered = o} (one v) e x f) (only_one g w b l) = absurd (unlike ws (bar o) (sym (same v w)) (b o) e)
same_body {ws} (only_one g v b l) (operators {k = k} {qs = qs} (one w) x e y) =
    absurd (no_operators b l (subst (λ (n : ℕ). Written ws 0 (arms true false) n k qs) (sym (same v w)) x) e)
same_body {ws} (operators {k = k} {qs = qs} (one v) x e y) (only_one g w b l) =
    absurd (no_operators b l (subst (λ (n : ℕ). Written ws 0 (arms true false) n k qs) (same v w) x) e)
same_body {ws} (one_of {j = j} {ordered = a} v e w f) (one_of {k = k} {qs = qs} {ordered = b} x g y h) =
    let is = one_bar ws a b (same v x) e g in
    same w (subst (λ (o : Bool). Written ws 0 (arms true o) j k qs) (sym is)
    (subst (λ (n : ℕ). Written ws 0 (arms true b) n k qs) (sym (same v x)) y))
same_body {ws} (one_of {ordered = o} v e w f) (operators {k = k} {qs = qs} x y g m) =
    absurd (no_choice o e w f (subst (λ (n : ℕ). Written ws 0 (arms true false) n k qs) (sym (same v x)) y) g)
same_body {ws} (operators {k = k} {qs = qs} x y g m) (one_of {ordered = o} v e w f) =
    absurd (no_choice o e w f (subst (λ (n : ℕ). Written ws 0 (arms true false) n k qs) (same x v) y) g)
same_body {ws} (operators v w e m) (operators {k = k} {l = l} {qs = qs} {rs = rs} x y f n) =
    let ends = same w (subst (λ (p : ℕ). Written ws 0 (arms true false) p k qs) (sym (same v x)) y) in
    same_operators m (subst (λ (p : ℕ). MoreOperators first_level ws p l rs) (sym ends) n)

-- ---- definitions

pub no_equals : {ws : List Word} {i : ℕ} {part : Part} → Member ws i part → sort_at ws i ≡ sorts.Equals → ⊥
no_equals (kind w) e = let h = word_sort w in cc
no_equals (other w) e = let h = word_sort w in cc
no_equals (given w) e = let h = word_sort w in cc
no_equals (without h) e = cc

pub same_members : {ws : List Word} {i j k : ℕ} {ps qs : List Part} → Members ws i j ps → Members ws i k qs → j ≡ k
same_members (no_member n m) (no_member o p) = refl
same_members (no_member n m) (member {part = part} v w) = absurd (n part v)
same_members (no_member n m) (becomes (arrow e f v)) = absurd (m e)
same_members (member {part = part} v w) (no_member n m) = absurd (n part v)
same_members (member v w) (member x y) = same_members w y
same_members (member v w) (becomes (arrow e f x)) = absurd (no_equals v e)
same_members (becomes (arrow e f v)) (no_member n m) = absurd (m e)
same_members (becomes (arrow e f x)) (member v w) = absurd (no_equals v e)
same_members (becomes v) (becomes w) = same_arrow v w

pub same_texts : {ws : List Word} {i j k : ℕ} {ps qs : List Part} → Texts ws i j ps → Texts ws i k qs → j ≡ k
same_texts (no_text n) (no_text m) = refl
same_texts (no_text n) (text w v) = absurd (n (word_sort w))
same_texts (text w v) (no_text n) = absurd (n (word_sort w))
same_texts (text w v) (text x y) = same_texts v y

pub same_called : {ws : List Word} {i j k : ℕ} {name other x y : Name} → Called name ws i j x → Called other ws i k y → j ≡ k
same_called (by_name n) (by_name m) = refl
same_called (by_name n) (by_message w) = absurd (n (word_sort w))
same_called (by_message w) (by_name n) = absurd (n (word_sort w))
same_called (by_message v) (by_message w) = refl

pub same_head : {ws : List Word} {i j k : ℕ} {sort : Sort} {x y : Name} → Head sort ws i j x → Head sort ws i k y → j ≡ k
same_head (head w e) (head v f) = refl

pub same_rule_head : {ws : List Word} {i j k : ℕ} {name other x y : Name} → RuleHead name ws i j x → RuleHead other ws i k y → j ≡ k
same_rule_head (rule_head w c e) (rule_head v d f) = ap (λ (n : ℕ). n + 1) (same_called c d)

pub same_definition : {ws : List Word} {i j k : ℕ} {sort : Sort} {ps qs : List Part} → Definition sort ws i j ps → Definition sort ws i k qs → j ≡ k
same_definition {ws} (class_of h v) (class_of {k = k} {ps = ps} g w) =
    same_members v (subst (λ (n : ℕ). Members ws n k ps) (sym (same_head h g)) w)
same_definition {ws} (words_of h v) (words_of {k = k} {ps = ps} g w) =
    same_texts v (subst (λ (n : ℕ). Texts ws n k ps) (sym (same_head h g)) w)
same_definition (guard_of h v) (guard_of g w) = ap (λ (n : ℕ). n + 4) (same_head h g)
same_definition {ws} (rule h v) (rule {k = k} {ps = ps} g w) = same_body v (subst (λ (n : ℕ). Body ws n k ps) (sym (same_rule_head h g)) w)

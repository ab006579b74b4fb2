-- How far words go.
use Rattle.std.specs.Prelude.{◌≡◌, ℕ, ◌-◌, ◌<◌, ◌≤◌, Bool, false, List, length}
use Rattle.std.proofs.Common.{ap, arith}
use Rattle.rule_parts.specs.declared.Name.{Name}
use Rattle.rule_parts.specs.declared.Part.{Part}
use Rattle.rule_text.specs.declared.word.Word.{Word}
use Rattle.rule_text.specs.declared.word.Sort.{Sort}
use Rattle.rule_text.specs.declared.body.Level.{Level}
use Rattle.rule_text.specs.Rules.{Body as bodies, Called, Definition as definitions, Head, Members, MoreOperators, Operator, RuleHead, Texts}
use Rattle.rule_text.specs.Rules.Called.{by_message, by_name}
use Rattle.rule_text.specs.Rules.Head.{head}
use Rattle.rule_text.specs.Rules.Members.{becomes, member, no_member}
use Rattle.rule_text.specs.Rules.MoreOperators.{no_operator, operator}
use Rattle.rule_text.specs.Rules.Operator.{prefix, tail}
use Rattle.rule_text.specs.Rules.RuleHead.{rule_head}
use Rattle.rule_text.specs.Rules.Texts.{no_text, text}
use Rattle.rule_text.specs.Written.{Arrow, Form, Greedy, Guarding, Kinds, MoreKinds, OneKind, Separated, Written as forms, is_end, sort_at}
use Rattle.rule_text.specs.Written.Arrow.{arrow}
use Rattle.rule_text.specs.Written.Form.{atom, item}
use Rattle.rule_text.specs.Written.Greedy.{greedy, not_greedy}
use Rattle.rule_text.specs.Written.Guarding.{guarded, looks, unguarded}
use Rattle.rule_text.specs.Written.Kinds.{one_kind, some_kinds}
use Rattle.rule_text.specs.Written.MoreKinds.{last_kind, next_kind}
use Rattle.rule_text.specs.Written.OneKind.{kind}
use Rattle.rule_text.specs.Written.Separated.{by_comma, by_token}
use Rattle.rule_text.proofs.LookEnds.{tokens_go}
use Rattle.rule_text.proofs.Reading.{within}

abbrev pub Goes : Form → ℕ → ℕ → Type 0
Goes (atom sort) i j = i < j
Goes item i j = i < j
Goes form i j = i ≤ j

separator_goes : {ws : List Word} {i j : ℕ} {name : Name} → Separated ws i j name → i ≤ j
separator_goes (by_comma n c) = omega arith
separator_goes (by_token e w) = omega arith

greedy_goes : {ws : List Word} {i j : ℕ} {flag : Bool} → Greedy ws i j flag → i ≤ j
greedy_goes (greedy e) = omega arith
greedy_goes (not_greedy n) = omega arith

guarding_goes : {ws : List Word} {i j : ℕ} {ps : List Part} → Guarding ws i j ps → i ≤ j
guarding_goes (unguarded n m) = omega arith
guarding_goes (guarded e w) = omega arith
guarding_goes (looks e v) = let h = tokens_go v in omega (arith, h)

arrow_goes : {ws : List Word} {i j : ℕ} {ps : List Part} → Arrow ws i j ps → i < j
arrow_goes (arrow e f w) = omega arith

kind_goes : {ws : List Word} {i j : ℕ} {ps : List Part} → OneKind ws i j ps → i < j
kind_goes (kind w) = omega arith

more_kinds_go : {ws : List Word} {i j : ℕ} {ps : List Part} → MoreKinds ws i j ps → i ≤ j
more_kinds_go (last_kind n) = omega arith
more_kinds_go (next_kind e v w) = let h = kind_goes v in let k = more_kinds_go w in omega (arith, h, k)

kinds_go : {ws : List Word} {i j : ℕ} {ps : List Part} → Kinds ws i j ps → i ≤ j
kinds_go (one_kind n v) = let h = kind_goes v in omega (arith, h)
kinds_go (some_kinds e v w f) = let h = kind_goes v in let k = more_kinds_go w in omega (arith, h, k)

pub goes : {ws : List Word} {floor i j : ℕ} {form : Form} {ps : List Part} → forms ws floor form i j ps → Goes form i j
goes (forms.token w) = omega arith
goes (forms.class w) = omega arith
goes (forms.call w) = omega arith
goes (forms.operand p) = omega arith
goes (forms.becomes a) = arrow_goes a
goes (forms.is v) = let h = kinds_go v in omega (arith, h)
goes (forms.group v f) = let h = goes v in omega (arith, h)
goes (forms.list v s f) = let h = goes v in let k = separator_goes s in omega (arith, h, k)
goes (forms.once v n) = goes v
goes (forms.signed v e g) = let h = goes v in let k = greedy_goes g in omega (arith, h, k)
goes (forms.none e) = omega arith
goes (forms.more v w) = let h = goes v in let k = goes w in omega (arith, h, k)
goes (forms.all v) = goes v
goes (forms.guarded g v) = let h = guarding_goes g in let k = goes v in omega (arith, h, k)
goes (forms.one v) = goes v
goes (forms.last n) = omega arith
goes (forms.next e v w) = let h = goes v in let k = goes w in omega (arith, h, k)
goes (forms.alone g v n) = goes v
goes (forms.choice v e w) = let h = goes v in let k = goes w in omega (arith, h, k)

-- what is left of the words
pub measured : {ws vs : List Word} {i j : ℕ} → vs ≡ ws → i < j → i < length ws → length vs - j < length ws - i
measured e at here = omega (arith, ap length e)

pub nearer : {ws vs : List Word} (i : ℕ) {j : ℕ} → vs ≡ ws → i < j → is_end (sort_at ws i) ≡ false → length vs - j < length ws - i
nearer {ws} i e far there = measured e far (within ws i there)

-- ---- rules

pub operator_goes : {ws : List Word} {level : Level} {i j : ℕ} {ps : List Part} → Operator level ws i j ps → i ≤ j
operator_goes (prefix n v) = goes v
operator_goes (tail e v) = let h = goes v in omega (arith, h)

operators_go : {ws : List Word} {level : Level} {i j : ℕ} {ps : List Part} → MoreOperators level ws i j ps → i ≤ j
operators_go (no_operator e) = omega arith
operators_go (operator e v w) = let h = operator_goes v in let k = operators_go w in omega (arith, h, k)

body_goes : {ws : List Word} {i j : ℕ} {ps : List Part} → bodies ws i j ps → i ≤ j
body_goes (bodies.only_one g v n l) = goes v
body_goes (bodies.one_of v e w l) = let h = goes v in let k = goes w in omega (arith, h, k)
body_goes (bodies.operators v w e x) = let h = goes v in let k = goes w in let l = operators_go x in omega (arith, h, k, l)

members_go : {ws : List Word} {i j : ℕ} {ps : List Part} → Members ws i j ps → i ≤ j
members_go (no_member n m) = omega arith
members_go (member v w) = let h = members_go w in omega (arith, h)
members_go (becomes v) = let h = arrow_goes v in omega (arith, h)

texts_go : {ws : List Word} {i j : ℕ} {ps : List Part} → Texts ws i j ps → i ≤ j
texts_go (no_text n) = omega arith
texts_go (text w v) = let h = texts_go v in omega (arith, h)

head_goes : {ws : List Word} {sort : Sort} {i j : ℕ} {name : Name} → Head sort ws i j name → i < j
head_goes (head w e) = omega arith

called_goes : {name : Name} {ws : List Word} {i j : ℕ} {message : Name} → Called name ws i j message → i ≤ j
called_goes (by_name n) = omega arith
called_goes (by_message w) = omega arith

rule_head_goes : {name : Name} {ws : List Word} {i j : ℕ} {message : Name} → RuleHead name ws i j message → i < j
rule_head_goes (rule_head w c e) = let h = called_goes c in omega (arith, h)

pub definition_goes : {ws : List Word} {sort : Sort} {i j : ℕ} {ps : List Part} → definitions sort ws i j ps → i < j
definition_goes (definitions.class_of h v) = let k = head_goes h in let l = members_go v in omega (arith, k, l)
definition_goes (definitions.words_of h v) = let k = head_goes h in let l = texts_go v in omega (arith, k, l)
definition_goes (definitions.guard_of h v) = let k = head_goes h in omega (arith, k)
definition_goes (definitions.rule h v) = let k = rule_head_goes h in let l = body_goes v in omega (arith, k, l)

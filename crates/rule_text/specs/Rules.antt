-- How rules and classes are written: which words give which parts.
use Rattle.std.specs.Prelude.{◌≡◌, ◌≢◌, ℕ, ◌+◌, ◌≤◌, Bool, true, false, if◌then◌else◌, Option, Some, None, List, [], ◌∷◌, ◌++◌, length}
use Rattle.rule_parts.specs.declared.Part.{Part}
use Rattle.rule_parts.specs.declared.Part.TheVariants.{Set, Words, Guard, Without, Rule, Token, Class, Call, Choice, Operators, Tail}
use Rattle.rule_parts.specs.declared.Association.{Association}
use Rattle.rule_parts.specs.declared.Association.TheVariants.{Left, Right, Neither}
use Rattle.rule_parts.specs.declared.Name.{Name}
use Rattle.rule_text.specs.declared.body.Level.{Level}
use Rattle.rule_text.specs.declared.word.Word.{Word}
use Rattle.rule_text.specs.declared.word.Sort.{Sort}
use Rattle.rule_text.specs.declared.word.Sort.TheVariants as sorts
use Rattle.rule_text.specs.Written.{Arrow, IsWord, IsAfterBars, Written, bar, begins_guard, sort_at}
use Rattle.rule_text.specs.Written.Form.{alternative, arm, arms, items}

-- whether a word begins a level of operators
abbrev pub is_level : Sort → Bool
is_level sorts.Left = true
is_level sorts.Right = true
is_level sorts.Neither = true
is_level sort = false

-- before the first level
abbrev pub first_level : Level
first_level = record { number = 0; association = Neither }

-- the level of the operator after a word: the next one, or the same after |
abbrev pub next_level : Sort → Level → Option Level
next_level sorts.Left level = Some (record { number = level.number + 1; association = Left })
next_level sorts.Right level = Some (record { number = level.number + 1; association = Right })
next_level sorts.Neither level = Some (record { number = level.number + 1; association = Neither })
next_level sorts.Or level = Some level
next_level sort level = None

abbrev pub nests_right : Association → Bool
nests_right Right = true
nests_right association = false

-- the level that operators in an operand have at least
abbrev pub floor_of : Level → ℕ
floor_of level = if nests_right level.association then level.number else level.number + 1

-- an operator: after its first operand, or in front of it
pub data Operator (level : Level) (ws : List Word) (i j : ℕ) : List Part → Type 0 where
  prefix : {ps : List Part} → sort_at ws i ≢ sorts.Operand → Written ws (floor_of level) (arm true) i j ps → Operator level ws i j ps
  tail : {ps : List Part} → sort_at ws i ≡ sorts.Operand → Written ws (floor_of level) items (i + 1) j ps
      → Operator level ws i j (Tail level.number level.association (length ps) ∷ ps)

-- operators after one of a level, each after a word that says its own
pub data MoreOperators : Level → List Word → ℕ → ℕ → List Part → Type 0 where
  no_operator : {ws : List Word} {i : ℕ} {level : Level} → next_level (sort_at ws i) level ≡ None → MoreOperators level ws i i []
  operator : {ws : List Word} {i j k : ℕ} {ps qs : List Part} {level next : Level} → next_level (sort_at ws i) level ≡ Some next → Operator next ws (i + 1) j ps
      → MoreOperators next ws j k qs → MoreOperators level ws i k (ps ++ qs)

-- what stands on the right of =: an alternative without a guard or look, some, or operands and operators from the first
-- level on
pub data Body (ws : List Word) (i : ℕ) : ℕ → List Part → Type 0 where
  only_one : {j : ℕ} {ps : List Part} → begins_guard (sort_at ws i) ≡ false → Written ws 0 (alternative true) i j ps → IsAfterBars ws j
      → is_level (sort_at ws j) ≡ false → Body ws i j ps
  one_of : {j k : ℕ} {ps qs : List Part} {ordered : Bool} → Written ws 0 (arm true) i j ps → sort_at ws j ≡ bar ordered
      → Written ws 0 (arms true ordered) j k qs → is_level (sort_at ws k) ≡ false → Body ws i k (Choice (length (ps ++ qs)) ordered ∷ ps ++ qs)
  operators : {j k l : ℕ} {ps qs rs : List Part} → Written ws 0 (arm true) i j ps → Written ws 0 (arms true false) j k qs
      → is_level (sort_at ws k) ≡ true → MoreOperators first_level ws k l rs
      → Body ws i l (Operators (length ((ps ++ qs) ++ rs)) ∷ (ps ++ qs) ++ rs)

-- the members of a class, and the kind that tokens of it get
pub data Member (ws : List Word) (i : ℕ) : Part → Type 0 where
  kind : {name : Name} → IsWord ws i sorts.Kind name → Member ws i (Token name)
  other : {name : Name} → IsWord ws i sorts.Class name → Member ws i (Class name)
  given : {name : Name} → IsWord ws i sorts.Call name → Member ws i (Call name)
  without : sort_at ws i ≡ sorts.Minus → Member ws i Without

pub data Members (ws : List Word) : ℕ → ℕ → List Part → Type 0 where
  no_member : {i : ℕ} → ((part : Part) → Member ws i part → ⊥) → sort_at ws i ≢ sorts.Equals → Members ws i i []
  member : {i j : ℕ} {ps : List Part} {part : Part} → Member ws i part → Members ws (i + 1) j ps → Members ws i j (part ∷ ps)
  becomes : {i j : ℕ} {ps : List Part} → Arrow ws i j ps → Members ws i j ps

-- the texts of a class of words
pub data Texts (ws : List Word) : ℕ → ℕ → List Part → Type 0 where
  no_text : {i : ℕ} → sort_at ws i ≢ sorts.Call → Texts ws i i []
  text : {i j : ℕ} {ps : List Part} {name : Name} → IsWord ws i sorts.Call name → Texts ws (i + 1) j ps → Texts ws i j (Token name ∷ ps)

-- what errors call a rule: its name, or a message after it
pub data Called (name : Name) (ws : List Word) (i : ℕ) : ℕ → Name → Type 0 where
  by_name : sort_at ws i ≢ sorts.Message → Called name ws i i name
  by_message : {message : Name} → IsWord ws i sorts.Message message → Called name ws i (i + 1) message

-- the first word of a line, a name of this sort and =
pub data Head (sort : Sort) (ws : List Word) (i : ℕ) : ℕ → Name → Type 0 where
  head : {name : Name} → IsWord ws (i + 1) sort name → sort_at ws (i + 2) ≡ sorts.Equals → Head sort ws i (i + 3) name

-- the name of a rule, what errors call it, and =
pub data RuleHead (name : Name) (ws : List Word) (i : ℕ) : ℕ → Name → Type 0 where
  rule_head : {j : ℕ} {message : Name} → IsWord ws i sorts.Rule name → Called name ws (i + 1) j message → sort_at ws j ≡ sorts.Equals
      → RuleHead name ws i (j + 1) message

-- (First) Next
pub record Guards (ws : List Word) (i : ℕ) (first next : Name) : Type 0 where
  pub begins : sort_at ws i ≡ sorts.OpenParen
  pub one : IsWord ws (i + 1) sorts.Class first
  pub ends : sort_at ws (i + 2) ≡ sorts.CloseParen
  pub other : IsWord ws (i + 3) sorts.Class next

-- what begins with a word of this sort: a class, a class of words, a guard or a rule
pub data Definition : Sort → List Word → ℕ → ℕ → List Part → Type 0 where
  class_of : {ws : List Word} {i j k : ℕ} {ps : List Part} {name : Name} → Head sorts.Class ws i j name → Members ws j k ps
      → Definition sorts.ClassOf ws i k (Set name (length ps) ∷ ps)
  words_of : {ws : List Word} {i j k : ℕ} {ps : List Part} {name : Name} → Head sorts.Class ws i j name → Texts ws j k ps
      → Definition sorts.WordsOf ws i k (Words name (length ps) ∷ ps)
  -- guard name = (First) Next
  guard_of : {ws : List Word} {i j : ℕ} {name first next : Name} → Head sorts.Call ws i j name → Guards ws j first next
      → Definition sorts.GuardOf ws i (j + 4) (Guard name first next ∷ [])
  rule : {ws : List Word} {i j k : ℕ} {ps : List Part} {name message : Name} → RuleHead name ws i j message → Body ws j k ps
      → Definition sorts.Rule ws i k (Rule name message (length ps) ∷ ps)

-- classes and rules, one after another, up to the end
pub data Rules (ws : List Word) : ℕ → ℕ → List Part → Type 0 where
  no_rule : {i : ℕ} → length ws ≤ i → Rules ws i i []
  one_more : {i j k : ℕ} {ps qs : List Part} → Definition (sort_at ws i) ws i j ps → Rules ws j k qs → Rules ws i k (ps ++ qs)

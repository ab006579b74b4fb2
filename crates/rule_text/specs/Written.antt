-- How what stands on the right of `=` is written: which words give which parts. The next word decides what is written.
use Rattle.std.specs.Prelude.{◌≡◌, ◌≢◌, ℕ, ◌+◌, ◌<◌, Bool, true, false, if◌then◌else◌, Option, Some, None, List, [], ◌∷◌, ◌++◌, length, slice_get}
use Rattle.std.specs.List.{list_any}
use Rattle.rule_parts.specs.declared.Part.{Part}
use Rattle.rule_parts.specs.declared.Part.TheVariants.{Token, Class, Call, Node, Becomes, Guarded, Look, Is, Kind, Choice, Arm, Optional, Repeat, Some as Once, List as Items, Operand}
use Rattle.rule_parts.specs.declared.Name.{Name}
use Rattle.rule_text.specs.declared.word.Word.{Word}
use Rattle.rule_text.specs.declared.word.Sort.{Sort}
use Rattle.rule_text.specs.declared.word.Sort.TheVariants as sorts

-- what word i is: the end after the last one
abbrev pub sort_of_word : Option Word → Sort
sort_of_word (Some word) = word.sort
sort_of_word None = sorts.End

abbrev pub sort_at : List Word → ℕ → Sort
sort_at ws i = sort_of_word (slice_get ws i)

abbrev pub is_end : Sort → Bool
is_end sorts.End = true
is_end sort = false

-- word i has this sort and name
pub record IsWord (ws : List Word) (i : ℕ) (sort : Sort) (name : Name) : Type 0 where
  pub is : slice_get ws i ≡ Some (record { sort = sort; name = name })

-- the name of the separator where the text names none
pub record IsComma (name : Name) : Type 0 where
  pub text : name.text.now ≡ 44 ∷ []
  pub at : name.at ≡ 0

-- ---- which words decide

-- those that begin an atom
abbrev pub begins_item : Sort → Bool
begins_item sorts.Kind = true
begins_item sorts.Class = true
begins_item sorts.Call = true
begins_item sorts.Operand = true
begins_item sorts.Equals = true
begins_item sorts.Tilde = true
begins_item sorts.OpenParen = true
begins_item sorts.OpenBrace = true
begins_item sort = false

-- the signs after an atom, and the parts that they put in front of so many; the third one is +
abbrev pub is_sign : Sort → Bool
is_sign sorts.Question = true
is_sign sorts.Star = true
is_sign sorts.Plus = true
is_sign sort = false

abbrev pub sign_part : Sort → ℕ → Bool → Part
sign_part sorts.Question size greedy = Optional size greedy
sign_part sorts.Star size greedy = Repeat size greedy
sign_part sort size greedy = Once size greedy

-- what separates alternatives: / where they are ordered
abbrev pub bar : Bool → Sort
bar false = sorts.Or
bar true = sorts.Slash

-- alternatives end there: no bar stands there
abbrev pub IsAfterBars : List Word → ℕ → Type 0
IsAfterBars ws i = (ordered : Bool) → sort_at ws i ≢ bar ordered

-- ---- what they write

-- whether the kind of a node is named among some parts
abbrev pub becomes_kind : Part → Bool
becomes_kind (Becomes name) = true
becomes_kind part = false

abbrev pub names_kind : List Part → Bool
names_kind ps = list_any becomes_kind ps

-- the items of an alternative: of a rule they are a node, if the kind of one is named in them
abbrev pub as_node : Bool → List Part → List Part
as_node true ps = if names_kind ps then Node (length ps) ∷ ps else ps
as_node false ps = ps

-- what some words may be
pub data Form : Type 0 where
  -- a word or a group that begins with a word of this sort; the same, and how often it may stand; these, one after another
  atom : Sort → Form
  item : Form
  items : Form
  -- items of a rule or a group; an alternative: a guard, if there is one, and these; the same as an arm; further arms, each after |, or after / if ordered
  sequence : Bool → Form
  alternative : Bool → Form
  arm : Bool → Form
  arms : Bool → Bool → Form
  -- all that stands in a group
  alternatives : Form

-- after the arguments of a list: the separator of its items
pub data Separated (ws : List Word) (i : ℕ) : ℕ → Name → Type 0 where
  by_comma : {comma : Name} → sort_at ws i ≢ sorts.Percent → IsComma comma → Separated ws i i comma
  -- % ';'
  by_token : {name : Name} → sort_at ws i ≡ sorts.Percent → IsWord ws (i + 1) sorts.Kind name → Separated ws i (i + 2) name

-- after a sign: whether it is greedy
pub data Greedy (ws : List Word) (i : ℕ) : ℕ → Bool → Type 0 where
  greedy : sort_at ws i ≡ sorts.Plus → Greedy ws i (i + 1) true
  not_greedy : sort_at ws i ≢ sorts.Plus → Greedy ws i i false

-- => KIND
pub data Arrow (ws : List Word) (i : ℕ) : ℕ → List Part → Type 0 where
  arrow : {name : Name} → sort_at ws i ≡ sorts.Equals → sort_at ws (i + 1) ≡ sorts.Greater → IsWord ws (i + 2) sorts.Kind name
      → Arrow ws i (i + 3) (Becomes name ∷ [])

-- whether a word is a token, or a class of them
abbrev pub is_token : Sort → Bool
is_token sorts.Kind = true
is_token sorts.Class = true
is_token sort = false

-- a token, or one of a class; further ones
pub data OneToken (ws : List Word) (i : ℕ) : ℕ → List Part → Type 0 where
  of_kind : {name : Name} → IsWord ws i sorts.Kind name → OneToken ws i (i + 1) (Token name ∷ [])
  of_class : {name : Name} → IsWord ws i sorts.Class name → OneToken ws i (i + 1) (Class name ∷ [])

pub data MoreTokens (ws : List Word) : ℕ → ℕ → List Part → Type 0 where
  no_token : {i : ℕ} → is_token (sort_at ws i) ≡ false → MoreTokens ws i i []
  next_token : {i j k : ℕ} {ps qs : List Part} → OneToken ws i j ps → MoreTokens ws j k qs → MoreTokens ws i k (ps ++ qs)

-- after &: tokens in parentheses
pub data Tokens (ws : List Word) (i : ℕ) : ℕ → List Part → Type 0 where
  some_tokens : {j k : ℕ} {ps qs : List Part} → sort_at ws i ≡ sorts.OpenParen → OneToken ws (i + 1) j ps → MoreTokens ws j k qs
      → sort_at ws k ≡ sorts.CloseParen → Tokens ws i (k + 1) (ps ++ qs)

-- @name, &(A B), or nothing
pub data Guarding (ws : List Word) (i : ℕ) : ℕ → List Part → Type 0 where
  unguarded : sort_at ws i ≢ sorts.At → sort_at ws i ≢ sorts.And → Guarding ws i i []
  guarded : {name : Name} → sort_at ws i ≡ sorts.At → IsWord ws (i + 1) sorts.Call name → Guarding ws i (i + 2) (Guarded name ∷ [])
  looks : {j : ℕ} {ps : List Part} → sort_at ws i ≡ sorts.And → Tokens ws (i + 1) j ps → Guarding ws i j (Look (length ps) ∷ ps)

-- whether a word begins a guard or a look
abbrev pub begins_guard : Sort → Bool
begins_guard sorts.At = true
begins_guard sorts.And = true
begins_guard sort = false

-- a kind of node; further ones, each after |
pub data OneKind (ws : List Word) (i : ℕ) : ℕ → List Part → Type 0 where
  kind : {name : Name} → IsWord ws i sorts.Kind name → OneKind ws i (i + 1) (Kind name ∷ [])

pub data MoreKinds (ws : List Word) : ℕ → ℕ → List Part → Type 0 where
  last_kind : {i : ℕ} → sort_at ws i ≢ sorts.Or → MoreKinds ws i i []
  next_kind : {i j k : ℕ} {ps qs : List Part} → sort_at ws i ≡ sorts.Or → OneKind ws (i + 1) j ps → MoreKinds ws j k qs → MoreKinds ws i k (ps ++ qs)

-- after ~: one kind, or some in parentheses
pub data Kinds (ws : List Word) (i : ℕ) : ℕ → List Part → Type 0 where
  one_kind : {j : ℕ} {ps : List Part} → sort_at ws i ≢ sorts.OpenParen → OneKind ws i j ps → Kinds ws i j ps
  some_kinds : {j k : ℕ} {ps qs : List Part} → sort_at ws i ≡ sorts.OpenParen → OneKind ws (i + 1) j ps → MoreKinds ws j k qs
      → sort_at ws k ≡ sorts.CloseParen → Kinds ws i (k + 1) (ps ++ qs)

-- The words from one up to another write these parts. Operands in them have the floor.
pub data Written (ws : List Word) (floor : ℕ) : Form → ℕ → ℕ → List Part → Type 0 where
  token : {i : ℕ} {name : Name} → IsWord ws i sorts.Kind name → Written ws floor (atom sorts.Kind) i (i + 1) (Token name ∷ [])
  class : {i : ℕ} {name : Name} → IsWord ws i sorts.Class name → Written ws floor (atom sorts.Class) i (i + 1) (Class name ∷ [])
  call : {i : ℕ} {name : Name} → IsWord ws i sorts.Call name → Written ws floor (atom sorts.Call) i (i + 1) (Call name ∷ [])
  -- in operators alone, whose levels begin at 1
  operand : {i : ℕ} → 0 < floor → Written ws floor (atom sorts.Operand) i (i + 1) (Operand floor ∷ [])
  becomes : {i j : ℕ} {ps : List Part} → Arrow ws i j ps → Written ws floor (atom sorts.Equals) i j ps
  -- ~KIND or ~( .. )
  is : {i j : ℕ} {ps : List Part} → Kinds ws (i + 1) j ps → Written ws floor (atom sorts.Tilde) i j (Is (length ps) ∷ ps)
  -- ( .. )
  group : {i j : ℕ} {ps : List Part} → Written ws floor alternatives (i + 1) j ps → sort_at ws j ≡ sorts.CloseParen
      → Written ws floor (atom sorts.OpenParen) i (j + 1) ps
  -- { .. } or { .. % ';' }
  list : {i j k : ℕ} {ps : List Part} {separator : Name} → Written ws floor alternatives (i + 1) j ps → Separated ws j k separator
      → sort_at ws k ≡ sorts.CloseBrace → Written ws floor (atom sorts.OpenBrace) i (k + 1) (Items (length ps) separator ∷ ps)
  once : {i j : ℕ} {ps : List Part} → Written ws floor (atom (sort_at ws i)) i j ps → is_sign (sort_at ws j) ≡ false → Written ws floor item i j ps
  signed : {i j k : ℕ} {ps : List Part} {greedy : Bool} → Written ws floor (atom (sort_at ws i)) i j ps → is_sign (sort_at ws j) ≡ true
      → Greedy ws (j + 1) k greedy → Written ws floor item i k (sign_part (sort_at ws j) (length ps) greedy ∷ ps)
  none : {i : ℕ} → begins_item (sort_at ws i) ≡ false → Written ws floor items i i []
  more : {i j k : ℕ} {ps qs : List Part} → Written ws floor item i j ps → Written ws floor items j k qs → Written ws floor items i k (ps ++ qs)
  all : {i j : ℕ} {ps : List Part} {of_rule : Bool} → Written ws floor items i j ps → Written ws floor (sequence of_rule) i j (as_node of_rule ps)
  guarded : {i j k : ℕ} {ps qs : List Part} {of_rule : Bool} → Guarding ws i j ps → Written ws floor (sequence of_rule) j k qs
      → Written ws floor (alternative of_rule) i k (ps ++ qs)
  one : {i j : ℕ} {ps : List Part} {of_rule : Bool} → Written ws floor (alternative of_rule) i j ps
      → Written ws floor (arm of_rule) i j (Arm (length ps) ∷ ps)
  last : {i : ℕ} {of_rule ordered : Bool} → sort_at ws i ≢ bar ordered → Written ws floor (arms of_rule ordered) i i []
  next : {i j k : ℕ} {ps qs : List Part} {of_rule ordered : Bool} → sort_at ws i ≡ bar ordered → Written ws floor (arm of_rule) (i + 1) j ps
      → Written ws floor (arms of_rule ordered) j k qs → Written ws floor (arms of_rule ordered) i k (ps ++ qs)
  -- one without a guard or look
  alone : {i j : ℕ} {ps : List Part} → begins_guard (sort_at ws i) ≡ false → Written ws floor (alternative false) i j ps → IsAfterBars ws j
      → Written ws floor alternatives i j ps
  choice : {i j k : ℕ} {ps qs : List Part} {ordered : Bool} → Written ws floor (arm false) i j ps → sort_at ws j ≡ bar ordered
      → Written ws floor (arms false ordered) j k qs → Written ws floor alternatives i k (Choice (length (ps ++ qs)) ordered ∷ ps ++ qs)

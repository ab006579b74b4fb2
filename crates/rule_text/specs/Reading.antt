-- What reading does to a reader.
use Rattle.std.specs.Prelude.{◌≡◌, ℕ, ◌+◌, ◌-◌, ◌^◌, ◌<◌, ◌≤◌, List, [], ◌∷◌, ◌++◌, length, Result, IfErr, OnOk, ⊤}
use Rattle.std.specs.List.{insert}
use Rattle.rule_parts.specs.declared.Part.{Part}
use Rattle.rule_parts.specs.declared.Part.TheVariants.{Operators}
use Rattle.rule_parts.specs.declared.Name.{Name}
use Rattle.rule_text.specs.declared.error.WordError.{WordError}
use Rattle.rule_text.specs.declared.error.WordError.TheVariants.{Expected, Memory, TooDeep}
use Rattle.rule_text.specs.declared.reader.Reader.{Reader}
use Rattle.rule_text.specs.declared.word.Word.{Word}
use Rattle.rule_text.specs.declared.word.Sort.{Sort}
use Rattle.rule_text.specs.Rules.{Definition, MoreOperators, first_level}
use Rattle.rule_text.specs.Written.{IsWord, sort_at, Written, Form}
use Rattle.rule_text.specs.Written.Form.{atom}

-- It goes over one word.
pub record Bumps (old new : Reader) : Type 0 where
  pub words : new.words.now ≡ old.words.now
  pub parts : new.parts.items ≡ old.parts.items
  pub at : new.at ≡ old.at + 1
  pub fits : new.at < 2 ^ 64
  pub ends : new.at ≤ length new.words.now

-- It goes over a word of this sort and name.
pub record Takes (sort : Sort) (name : Name) (old new : Reader) : Type 0 where
  pub bumps : Bumps old new
  pub sort_is : sort_at old.words.now old.at ≡ sort
  pub word : IsWord old.words.now old.at sort name

-- A part is added after the others, or put in front of those from one on.
pub record Adds (part : Part) (old new : Reader) : Type 0 where
  pub words : new.words.now ≡ old.words.now
  pub at : new.at ≡ old.at
  pub parts : new.parts.items ≡ old.parts.items ++ part ∷ []

pub record Wraps (start : ℕ) (part : Part) (old new : Reader) : Type 0 where
  pub words : new.words.now ≡ old.words.now
  pub at : new.at ≡ old.at
  pub parts : new.parts.items ≡ insert old.parts.items start part

-- Words are read, and parts added: those that the words write, as W says.
pub record Reads (W : List Word → ℕ → ℕ → List Part → Type 0) (old new : Reader) : Type 0 where
  pub words : new.words.now ≡ old.words.now
  pub parts : List Part
  pub added : new.parts.items ≡ old.parts.items ++ parts
  pub longer : length old.parts.items ≤ length new.parts.items
  pub ends : old.at ≤ length old.words.now → new.at ≤ length new.words.now
  pub written : W old.words.now old.at new.at parts

-- the words of a form, for the operands of one floor
abbrev pub written_as : Form → ℕ → List Word → ℕ → ℕ → List Part → Type 0
written_as form floor ws i j ps = Written ws floor form i j ps

-- the words of an atom
abbrev pub of_word : ℕ → List Word → ℕ → ℕ → List Part → Type 0
of_word floor ws i j ps = Written ws floor (atom (sort_at ws i)) i j ps

-- the words of a definition
abbrev pub of_first : List Word → ℕ → ℕ → List Part → Type 0
of_first ws i j ps = Definition (sort_at ws i) ws i j ps

-- the words of a form without the one in front
abbrev pub behind_one : (List Word → ℕ → ℕ → List Part → Type 0) → List Word → ℕ → ℕ → List Part → Type 0
behind_one W ws i j ps = W ws (i + 1) j ps

-- one word, and this part
pub data One (part : Part) (i : ℕ) : ℕ → List Part → Type 0 where
  one : One part i (i + 1) (part ∷ [])

abbrev pub only : Part → List Word → ℕ → ℕ → List Part → Type 0
only part ws i j ps = One part i j ps

-- Words are read that give something, as N says.
pub record Gives {X : Type 0} (N : List Word → ℕ → ℕ → X → Type 0) (x : X) (old new : Reader) : Type 0 where
  pub words : new.words.now ≡ old.words.now
  pub parts : new.parts.items ≡ old.parts.items
  pub ends : old.at ≤ length old.words.now → new.at ≤ length new.words.now
  pub given : N old.words.now old.at new.at x

-- No words from i on are as W says.
pub record IsMissed {X : Type 0} (W : List Word → ℕ → ℕ → X → Type 0) (ws : List Word) (i : ℕ) : Type 0 where
  pub no : (j : ℕ) (x : X) → W ws i j x → ⊥

-- the cause of an error: none for that of memory
abbrev pub Caused : Type 0 → WordError → Type 0
Caused missed (Expected what at) = missed
Caused missed (TooDeep at) = ⊤
Caused missed (Memory reason) = ⊤

-- Words are read if some from here on write parts, as W says; otherwise they are refused.
pub record Decides (W : List Word → ℕ → ℕ → List Part → Type 0) (old new : Reader) (result : Result ⊤ WordError) : Type 0 where
  pub reads : OnOk result (Reads W old new)
  pub refuses : IfErr result (Caused (IsMissed W old.words.now old.at))

-- Levels of operators are read, and operators put in front of all from one part on.
pub record Operates (start : ℕ) (old new : Reader) : Type 0 where
  pub between : Reader
  pub reads : Reads (MoreOperators first_level) old between
  pub wraps : Wraps start (Operators (length between.parts.items - start)) between new

abbrev pub IsMemory : WordError → Type 0
IsMemory (Memory reason) = ⊤
IsMemory error = ⊥

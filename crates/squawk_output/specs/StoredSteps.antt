-- The words in which an output keeps its steps: numbers of 32 bits.
use Rattle.std.specs.Prelude.{◌≡◌, ℕ, ◌+◌, ◌*◌, ◌/◌, ◌%◌, ◌<◌, ◌==◌, All, List, length, slice_index_or, if◌then◌else◌, []}
use Rattle.squawk_output.specs.Steps as plain
use Rattle.squawk_output.specs.declared.output.stored.StoredStep.{StoredStep}
use Rattle.squawk_output.specs.declared.output.stored.StoredStep.TheVariants.{Token, Enter, Exit, Error}

-- ---- a step and its word

-- a word that is no error's: from below eight bits of a tag, eight of a count, and sixteen of a kind
abbrev pub odd_word : ℕ → ℕ → ℕ → ℕ
odd_word kind count tag = 65536 * kind + 256 * count + tag

-- The word of a step. A token has tag 1, an opening 17, a closing 33; an error has twice its number.
abbrev pub packed : StoredStep → ℕ
packed (Token kind n) = odd_word kind n 1
packed (Enter kind) = odd_word kind 0 17
packed Exit = odd_word 0 0 33
packed (Error number) = 2 * number

-- the step of an odd word that is no token's
abbrev pub edge : ℕ → StoredStep
edge word = if word / 16 % 2 == 1 then Enter (word / 65536) else Exit

-- the step of a word
abbrev pub unpacked : ℕ → StoredStep
unpacked word =
    if word % 64 == 1 then Token (word / 65536) (word / 256 % 256) else (if word % 2 == 0 then Error (word / 2) else edge word)

-- a step that fits into a word: kinds have 16 bits and counts 8, and an error's number is below 2147483648
abbrev pub FitsWord : StoredStep → Type 0
FitsWord (Token kind n) = (kind < 65536) × (n < 256)
FitsWord (Enter kind) = kind < 65536
FitsWord Exit = Unit {0}
FitsWord (Error number) = number < 2147483648

-- the word of a step, and no other number with the same bits where `unpacked` reads them
abbrev pub IsWord : ℕ → Type 0
IsWord word = packed (unpacked word) ≡ word

-- each is such a word
abbrev pub AreWords : List ℕ → Type 0
AreWords words = All IsWord words

-- how many nodes a step enters
abbrev pub enters_of : StoredStep → ℕ
enters_of (Enter kind) = 1
enters_of step = 0

-- how many it leaves
abbrev pub leaves_of : StoredStep → ℕ
leaves_of Exit = 1
leaves_of step = 0

-- a step that is no error
abbrev pub IsNoError : StoredStep → Type 0
IsNoError (Error number) = ⊥
IsNoError step = Unit {0}

-- ---- texts of errors

-- the step with its text, if it is an error: the one that has its number
abbrev pub with_text : List (List ℕ) → StoredStep → plain.Step
with_text errors (Token kind n) = plain.Token kind n
with_text errors (Enter kind) = plain.Enter kind
with_text errors Exit = plain.Exit
with_text errors (Error number) = plain.Error (slice_index_or errors number [])

-- the text is there
abbrev pub HasText : List (List ℕ) → StoredStep → Type 0
HasText errors (Error number) = number < length errors
HasText errors step = Unit {0}

-- the step that a word stands for beside the texts of an output's errors
abbrev pub step_in : List (List ℕ) → ℕ → plain.Step
step_in errors word = with_text errors (unpacked word)

-- every error among the words has its text
abbrev pub HaveTexts : List (List ℕ) → List ℕ → Type 0
HaveTexts errors words = All (λ word. HasText errors (unpacked word)) words

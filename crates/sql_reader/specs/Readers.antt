-- A script that is read a text at a time.
use Rattle.std.specs.Prelude.{◌≡◌, ◌≢◌, ◌<◌, ◌≤◌, ◌⊎◌, ℕ, ◌+◌, ◌*◌, ◌-◌, ◌^◌, max, min, Option, List, [], ◌++◌, drop, length, take}
use Rattle.std.specs.Io.KnownBytes.{Consumes, IsAtEnd}
use Rattle.std.specs.Str.{IsValidUpTo, StartsWithNoChar}
use Rattle.sql_lexer.specs.declared.script.script_place.ScriptPlace.{ScriptPlace}
use Rattle.sql_reader.specs.declared.read_error.ReadError.TheVariants.{Io, NotUtf8}
use Rattle.sql_reader.specs.declared.script_reader.Input.{Input}
use Rattle.sql_reader.specs.declared.script_reader.Input.TheVariants.{Ended, Failed, Open}
use Rattle.sql_reader.specs.declared.script_text.Next.{Next}
use Rattle.sql_reader.specs.declared.script_text.Next.TheVariants.{End, Fault, More}
use Rattle.sql_reader.specs.declared.script_text.ScriptText.{ScriptText}

-- How many bytes a text has at least. The bytes of the script that are in memory: some that were read, and those that are unread.
-- How many bytes stand before them, where the script stands before the unread ones, how the input stands, and what it will give,
-- where that is known.
pub record Script : Type 0 where
  pub least : ℕ
  pub kept : List ℕ
  pub unread : List ℕ
  pub passed : ℕ
  pub place : ScriptPlace
  pub input : Input
  pub remaining : Option (List ℕ)

-- ---- reading on

-- bytes that the input gives are unread, too; all else is as before
pub record ReadsOn (old new : Script) : Type 0 where
  pub more : List ℕ
  pub unread : new.unread ≡ old.unread ++ more
  pub consumes : Consumes old.remaining new.remaining more
  pub least : new.least ≡ old.least
  pub kept : new.kept ≡ old.kept
  pub passed : new.passed ≡ old.passed
  pub place : new.place ≡ old.place
  pub stays : old.input ≢ Open → new.input ≡ old.input
  pub ended : old.input ≡ Open → new.input ≡ Ended → IsAtEnd new.remaining

-- twice as many bytes are unread, and enough for a text, or the input ends or fails
abbrev pub HasEnough : Script → Script → Type 0
HasEnough old new = (max (min (length old.unread * 2) (2 ^ 64 - 1)) old.least ≤ length new.unread) ⊎ (new.input ≢ Open)

-- how many bytes leave the memory, of those that stand before a text and so many of it that are read: 128 of them stay, or all
abbrev pub leaving : ℕ → ℕ → ℕ
leaving start count = start + count - 128

-- so many bytes that are unread are read, and the script stands at a place
pub record GoesOn (old : Script) (count : ℕ) (place : ScriptPlace) (new : Script) : Type 0 where
  pub unread : new.unread ≡ drop count old.unread
  pub kept : old.kept ++ take count old.unread ≡ take (leaving (length old.kept) count) (old.kept ++ old.unread) ++ new.kept
  pub passed : new.passed ≡ min (old.passed + leaving (length old.kept) count) (2 ^ 64 - 1)
  pub place_is : new.place ≡ place
  pub least : new.least ≡ old.least
  pub input : new.input ≡ old.input
  pub remaining : new.remaining ≡ old.remaining

-- ---- a text

-- No character begins with these bytes, whatever the input gives.
abbrev pub NoCharBegins : Input → List ℕ → Type 0
NoCharBegins input left = (0 < length left) × ((more : List ℕ) → (input ≡ Ended → more ≡ []) → StartsWithNoChar (left ++ more))

-- What comes after a text that ends at a place and leaves bytes: more, where the bytes may begin a character; the end; or a fault.
abbrev pub IsNext : Input → ℕ → List ℕ → Next → Type 0
IsNext input at left More = (input ≡ Open) × (length left < 4)
IsNext input at left End = (input ≡ Ended) × (left ≡ [])
IsNext input at left (Fault (Io kind)) = (input ≡ Failed kind) × (length left < 4)
IsNext input at left (Fault (NotUtf8 place)) = (place ≡ at) × NoCharBegins input left

-- The text is what is unread, but for bytes that are no character yet or none at all: no longer front of it is a text.
pub record IsTextOf (script : Script) (text : ScriptText) : Type 0 where
  pub left : List ℕ
  pub unread : script.unread ≡ text.text.now ++ left
  pub longest : (left ≡ []) ⊎ IsValidUpTo script.unread (length text.text.now)
  pub place : text.place ≡ script.place
  pub window : text.window.now ≡ script.kept ++ script.unread
  pub start : text.start ≡ length script.kept
  pub passed : text.passed ≡ script.passed
  pub next : IsNext script.input (min (script.passed + length script.kept + length text.text.now) (2 ^ 64 - 1)) left text.next

-- Rules that are written as text.
use Rattle.std.specs.Prelude.{◌≡◌, ℕ, Option, Some, None, List, [], ◌∷◌, drop, unwrap_or}
use Rattle.rule_parts.specs.declared.Part.{Part}
use Rattle.rule_parts.specs.declared.Part.TheVariants as part
use Rattle.rule_text.specs.Places.{place_of}
use Rattle.rule_text.specs.Read.{IsRead, Refuses}
use Rattle.rule_tables.specs.Classes.{HasClasses}
use Rattle.rule_tables.specs.Faults.{part_at_fault}
use Rattle.rule_tables.specs.Made.{Made}
use Rattle.rule_tables.specs.Refusals.{AreSound, IsRefusal}
use Rattle.rule_tables.specs.Rows.{HasRows, IsFileRule}
use Rattle.rule_tables.specs.Vocabulary.{Vocabulary}
use Rattle.rule_tables.specs.declared.read.TextError.{TextError}
use Rattle.rule_tables.specs.declared.read.TextError.TheVariants.{Read, Rules}

-- A text is rules that have no fault, and these are they.
pub record IsTextOf (v : Vocabulary) (text : List ℕ) (rules : Made) : Type 0 where
  pub parts : List Part
  pub read : IsRead text parts
  pub sound : AreSound v parts
  pub file : IsFileRule parts rules.start rules.end
  pub classes : HasClasses v parts rules.sets
  pub rows : HasRows v parts rules.rows

-- the byte of the name in a part, if it has one
abbrev pub byte_in : Part → Option ℕ
byte_in (part.Set name size) = Some name.at
byte_in (part.Words name size) = Some name.at
byte_in (part.Guard name first next) = Some name.at
byte_in (part.Rule name message size) = Some name.at
byte_in (part.Token name) = Some name.at
byte_in (part.Class name) = Some name.at
byte_in (part.Call name) = Some name.at
byte_in (part.Becomes name) = Some name.at
byte_in (part.Guarded name) = Some name.at
byte_in (part.Kind name) = Some name.at
byte_in p = None

-- the byte of the first name, or 0
abbrev pub first_byte : List Part → ℕ
first_byte [] = 0
first_byte (p ∷ ps) = unwrap_or (byte_in p) (first_byte ps)

-- A text isn't rules, or its rules are refused, at the first name in or after the part that is at fault.
abbrev pub IsTextRefusal : Vocabulary → List ℕ → TextError → Type 0
IsTextRefusal v text (Read reason) = Refuses text reason
IsTextRefusal v text (Rules reason at tokens) = (parts : List Part) × IsRead text parts × IsRefusal v parts reason × (at ≡ place_of text (first_byte (drop (part_at_fault reason) parts)))

-- Why parts are refused whose names, kinds and sizes have no fault.
use Rattle.std.proofs.Common.{List, length, inl, inr}
use Rattle.squawk_kinds.specs.declared.token_set.TokenSet.{TokenSet}
use Rattle.rule_grammar.specs.declared.part.Part as row
use Rattle.rule_parts.specs.declared.Part.{Part}
use Rattle.rule_tables.specs.Forks.{AreDecided, IsFirstOpen, plan_in}
use Rattle.rule_tables.specs.Refusals.{AreOf, IsLost, IsRefused, NotEndless}
use Rattle.rule_tables.specs.Rows.{file_row}
use Rattle.rule_tables.specs.Vocabulary.{Vocabulary}
use Rattle.rule_tables.specs.declared.error.RulesError.{RulesError}
use Rattle.rule_tables.specs.declared.error.RulesError.TheVariants.{Undecided, Unreached, TooMany, Memory}

-- a rule isn't reached
pub lost_rule : (v : Vocabulary) (parts : List Part) (rows : List row.Part) (sets : List TokenSet) → AreOf v parts rows sets → NotEndless rows
    → AreDecided (plan_in parts rows sets) parts (length rows) → (reason : RulesError) → IsLost rows (file_row parts) reason → IsRefused v parts reason
lost_rule v parts rows sets are endless decided (Unreached j) lost = inl (record { rows = rows; sets = sets; are = are; fault = (endless, decided, lost) })
lost_rule v parts rows sets are endless decided (Memory e) lost = inr tt
lost_rule v parts rows sets are endless decided reason lost = absurd lost

-- tokens don't decide
pub open_rule : (v : Vocabulary) (parts : List Part) (rows : List row.Part) (sets : List TokenSet) → AreOf v parts rows sets → NotEndless rows → (reason : RulesError) → IsFirstOpen (plan_in parts rows sets) parts reason → IsRefused v parts reason
open_rule v parts rows sets are endless (Undecided j kinds) fault = inl (record { rows = rows; sets = sets; are = are; fault = (endless, fault) })
open_rule v parts rows sets are endless TooMany fault = inl (record { rows = rows; sets = sets; are = are; fault = endless })
open_rule v parts rows sets are endless (Memory e) fault = inr tt
open_rule v parts rows sets are endless reason fault = absurd fault

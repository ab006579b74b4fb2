-- The law of parts.
use Rattle.std.proofs.Common.{◌≡◌, List, [], ◌∷◌, ◌++◌, length, map}
use Rattle.std.specs.Borrow.{Bor}
use Rattle.squawk_kinds.specs.Keywords.{Keywords}
use Rattle.squawk_table.specs.RawTable.{IsTable}
use Rattle.squawk_table.specs.Sent.{sent_list}
use Rattle.squawk_table.specs.declared.shortcuts.str_step.OwnedStep.{OwnedStep}
use Rattle.squawk_table.specs.declared.shortcuts.str_step.OwnedStep.TheVariants as sent
use Rattle.squawk_tokens.specs.LexicalErrors.{shifted}
use Rattle.rule_grammar.specs.declared.rules.RuleGrammar.{RuleGrammar}
use Rattle.sql_grammar.specs.Kinds.{SOURCE_FILE}
use Rattle.sql_grammar.specs.Parts.{AreSame, EndsWithStatement, IsParsedPart, Part, moved_by, steps_of, table_by}

-- one after the other
abbrev pub joined : Part → Part → Part
joined p q = record { text = p.text ++ q.text; tokens = p.tokens ++ q.tokens; nodes = p.nodes ++ q.nodes }

-- The parse of two texts, of which the first ends with a statement. What is sent for both is a root with what is sent in those
-- of the two; places in the second count from its start.
pub record IsWhole (rules : Bor RuleGrammar) (keyword contextual : Keywords) (p q : Part) : Type 0 where
  pub parsed : IsParsedPart rules keyword contextual (joined p q)
  pub inner : List OwnedStep
  pub first : sent_list (table_by keyword p) (steps_of p) ≡ sent.Enter SOURCE_FILE ∷ inner ++ sent.Exit ∷ []
  pub rest : List OwnedStep
  pub second : sent_list (table_by keyword q) (steps_of q) ≡ sent.Enter SOURCE_FILE ∷ rest
  pub sent : sent_list (table_by keyword (joined p q)) (steps_of (joined p q)) ≡ sent.Enter SOURCE_FILE ∷ inner ++ map (moved_by (length p.text)) rest
  pub errors : (table_by keyword (joined p q)).errors ≡ (table_by keyword p).errors ++ map (shifted (length p.text)) (table_by keyword q).errors

-- The law: parts make the whole.
abbrev pub PartsMakeWhole : Keywords → Keywords → Type 0
PartsMakeWhole keyword contextual = (r1 r2 rules : Bor RuleGrammar) (p q : Part)
    → IsParsedPart r1 keyword contextual p → EndsWithStatement keyword contextual p → IsParsedPart r2 keyword contextual q
    → AreSame r1.now rules.now → AreSame r2.now rules.now → rules.now.table.hidden.tokens.now ≡ r1.now.table.hidden.tokens.now ++ r2.now.table.hidden.tokens.now
    → IsTable (table_by keyword (joined p q)) → IsWhole rules keyword contextual p q

-- Trees of SQL have all of a text, and why there is none.
use Rattle.std.proofs.Common.{arith, Bor, ◌≡◌, Result, Err, IfErr, ap, subst}
use Rattle.squawk_output.specs.Steps.{eaten}
use Rattle.squawk_table.proofs.Over.{eaten-le}
use Rattle.squawk_parser.specs.Pipeline.{Given, input_for}
use Rattle.squawk_parser.specs.Words.{Words}
use Rattle.rule_grammar.specs.declared.rules.RuleGrammar.{RuleGrammar}
use Rattle.sql_grammar.specs.Files.{IsFile, Runs}
use Rattle.sql_grammar.specs.StrayStrings.{stray_strings}
use Rattle.sql_grammar.specs.declared.Detail.TheVariants.{Nodes}
use Rattle.syntax_tree.specs.Layout.{Laid}
use Rattle.syntax_tree.specs.Parsed.{IsParsedTree, IsTreeRefusal}
use Rattle.syntax_tree.specs.declared.parse.errors.ParseTreeError.{ParseTreeError}
use Rattle.sql_syntax.specs.SqlErrors.{RefusesSql, RefusesTree}
use Rattle.sql_syntax.specs.SqlTrees.{IsSqlTree}
use Rattle.sql_syntax.specs.declared.error.SqlError.{SqlError}
use Rattle.sql_syntax.specs.declared.error.SqlError.TheVariants.{Tree}

-- the grammar leaves no token
pub is_whole : {rules : Bor RuleGrammar} {g h : Given} {laid : Laid} → g ≡ h → rules.now.table.hidden.tokens.now ≡ stray_strings g.text g.tokens → IsParsedTree g (IsFile (Nodes rules)) laid → IsSqlTree h laid
is_whole {rules} {g} {h} {laid} same hides parsed =
    let parse = parsed.parsed.parse in
    let all = parse.left.whole.all in
    subst (λ (h : Given). IsSqlTree h laid) same (record {
      rules = rules;
      hidden = hides;
      parsed = parsed;
      whole = parsed.whole.1 (omega (arith, all, ap eaten parse.steps, eaten-le parsed.output.steps (input_for g) parse.over));
    })

-- the refusal of a tree
pub of_tree : (rules : Bor RuleGrammar) (g h : Given) (words : Words) {X : Type 0} (result : Result X SqlError) (reason : ParseTreeError) → g ≡ h
    → IsTreeRefusal g (IsFile (Nodes rules)) (Runs (Nodes rules) 3 2) words reason → result ≡ Err (Tree reason) → IfErr result (RefusesSql h)
of_tree rules g h words result reason same refused is =
    let why : RefusesTree g reason = record { rules = rules; words = words; refused = refused } in
    rw is (subst (λ (h : Given). RefusesTree h reason) same why)

-- The line of a token, of which nothing needs an escape.
use Rattle.std.proofs.Common.{◌≡◌, ◌++◌, ℕ, List, [], ◌∷◌, All, IsUtf8, chars, append_assoc, ap}
use Rattle.std.specs.Prelude.{codes}
use Rattle.std.specs.Fmt.{decimal}
use Rattle.squawk_json.proofs.PlainTexts.{json_of-chars, json_string-plain}
use Rattle.squawk_json.specs.JsonStrings.{IsPlain}
use Rattle.squawk_table.specs.declared.shortcuts.str_step.OwnedStep.TheVariants.{Token}
use Rattle.squawk_answer.specs.Lines.{step_line}

between : (number bytes : List ℕ) → number ++ codes " " ++ (34 ∷ (bytes ++ 34 ∷ [])) ++ codes "\n" ≡ number ++ (32 ∷ 34 ∷ []) ++ bytes ++ (34 ∷ 10 ∷ [])
between number bytes = simp append_assoc

pub token_line-plain : (kind : ℕ) (bytes : List ℕ) → IsUtf8 bytes → All IsPlain bytes
    → step_line (Token kind (chars bytes)) ≡ codes "token " ++ (decimal kind ++ (32 ∷ 34 ∷ []) ++ bytes ++ (34 ∷ 10 ∷ []))
token_line-plain kind bytes utf8 plain = rw (json_of-chars bytes utf8, json_string-plain bytes plain) (ap (λ line. codes "token " ++ line) (between (decimal kind) bytes))

-- What is printed of errors.
use Rattle.std.specs.Prelude.{ℕ, List, [], ◌∷◌, ◌++◌, codes, string_bytes}
use Rattle.std.specs.Fmt.{decimal}
use Rattle.rule_text.specs.Errors.{place_line, read_error_line}
use Rattle.rule_tables.specs.Faults.{part_at_fault}
use Rattle.rule_tables.specs.declared.error.RulesError.{RulesError}
use Rattle.rule_tables.specs.declared.error.RulesError.TheVariants.{Undefined, Doubled, UnknownKind, LeftRecursive, Empty, Undecided, Unreached, TooMany, Memory}
use Rattle.rule_tables.specs.declared.read.TextError.{TextError}
use Rattle.rule_tables.specs.declared.read.TextError.TheVariants.{Read, Rules}

-- what is wrong
abbrev pub message_of : RulesError → List ℕ
message_of (Undefined i) = codes "no rule has this name"
message_of (Doubled i) = codes "two rules have this name"
message_of (UnknownKind i) = codes "no kind has this name"
message_of (LeftRecursive i) = codes "it calls itself first"
message_of (Empty i) = codes "what is repeated may be empty"
message_of (Undecided i kinds) = codes "four tokens don't decide between two ways"
message_of (Unreached i) = codes "no rule leads to this one"
message_of TooMany = codes "too many rules"
message_of (Memory reason) = codes "out of memory"

-- with the part, if one is at fault
abbrev pub rules_error_line : RulesError → List ℕ
rules_error_line TooMany = message_of TooMany
rules_error_line (Memory reason) = message_of (Memory reason)
rules_error_line reason = codes "part " ++ (decimal (part_at_fault reason) ++ (codes ": " ++ message_of reason))

-- with the tokens that don't decide, if they are told
abbrev pub and_tokens : List ℕ → List ℕ → List ℕ
and_tokens message [] = message
and_tokens message (byte ∷ bytes) = message ++ (codes ": " ++ byte ∷ bytes)

-- with the place
abbrev pub text_error_line : TextError → List ℕ
text_error_line (Read reason) = read_error_line reason
text_error_line (Rules reason at tokens) = place_line at (codes ": " ++ and_tokens (message_of reason) (string_bytes tokens))

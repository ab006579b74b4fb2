-- The law of the ends of statements, state by state.
use Rattle.std.proofs.Common.{◌≡◌, ◌∙◌, ℕ, ◌+◌, ◌-◌, ◌<◌, length, zero-add, not, true, false, Bool, List, [], ◌∷◌, ◌++◌, ◌==◌, arith, ap, refl, subst, sym}
use Rattle.std.specs.Prelude.{nat_le, if◌then◌else◌}
use Rattle.std.specs.List.{position_or_len}
use Rattle.std.proofs.lemmas.Bool.{cond-false, cond-true, false≢true}
use Rattle.std.proofs.lemmas.Bool.Decides.{nat_tests}
use Rattle.sql_lexer.specs.declared.statements.Before.{Before}
use Rattle.sql_lexer.specs.declared.statements.Before.TheVariants.{Any, Name, Block}
use Rattle.sql_lexer.specs.declared.statements.Phrase.{Phrase}
use Rattle.sql_lexer.specs.declared.statements.Phrase.TheVariants.{Nothing}
use Rattle.sql_lexer.specs.declared.statements.Statement.{Statement}
use Rattle.sql_lexer.specs.declared.statements.Statement.TheVariants.{Start, Created, CreatedOr, Replaced, Plain, OfRule, OfRoutine, OfBlock, OfCopy}
use Rattle.sql_lexer.specs.declared.statements.Word.{Word}
use Rattle.sql_lexer.specs.declared.statements.Word.TheVariants.{Trivia, Semicolon, QueryEnd, CopyCommand, Command, Open, Close, Dot, As, Copy, Create, Or, Replace, Function, Procedure, Rule, Begin, Atomic, Case, End}
use Rattle.sql_lexer.specs.StatementEnds.{InBlock, InRule, LeadTo, StatementsEnd, begins_command, begins_holder, begins_name, creates_holder, first_end, is_command, is_end, is_holder, is_in_block, is_in_rule, is_named, replaces_holder, without_commands, without_trivia}
use Rattle.sql_lexer.specs.StatementEnds.InBlock.{name, expression, nothing as empty, one as one_word}
use Rattle.sql_lexer.specs.StatementEnds.InRule.{nothing, one, brackets}
use Rattle.sql_lexer.specs.Statements.{after, brackets_after, ends_with, phrase_after}

-- ---- no block

-- a statement ends with its first semicolon or query end
abbrev EndsFirst : Statement → List Word → Type 0
EndsFirst statement words = first_end statement words ≡ position_or_len is_end words

plain_ends : (words : List Word) → EndsFirst Plain words
plain_ends [] = refl
plain_ends (Semicolon ∷ words) = refl
plain_ends (QueryEnd ∷ words) = refl
plain_ends (word ∷ words) = ap (λ n. 1 + n) (plain_ends words)

copy_ends : (unclosed : ℕ) (phrase : Phrase) (words : List Word) → EndsFirst (OfCopy unclosed phrase) words
copy_ends unclosed phrase [] = refl
copy_ends unclosed phrase (Semicolon ∷ words) = refl
copy_ends unclosed phrase (QueryEnd ∷ words) = refl
copy_ends unclosed phrase (Trivia ∷ words) = ap (λ n. 1 + n) (copy_ends unclosed phrase words)
copy_ends unclosed phrase (Command ∷ words) = ap (λ n. 1 + n) (copy_ends unclosed phrase words)
copy_ends unclosed phrase (CopyCommand ∷ words) = ap (λ n. 1 + n) (copy_ends unclosed phrase words)
copy_ends unclosed phrase (word ∷ words) =
    ap (λ n. 1 + n) (copy_ends (brackets_after unclosed word) (phrase_after unclosed phrase word) words)

replaced_ends : (words : List Word) → begins_holder (without_commands words) ≡ false → EndsFirst Replaced words
replaced_ends [] e = refl
replaced_ends (Trivia ∷ words) e = ap (λ n. 1 + n) (replaced_ends words e)
replaced_ends (Command ∷ words) e = ap (λ n. 1 + n) (replaced_ends words e)
replaced_ends (CopyCommand ∷ words) e = ap (λ n. 1 + n) (replaced_ends words e)
replaced_ends (Semicolon ∷ words) e = refl
replaced_ends (QueryEnd ∷ words) e = refl
replaced_ends (Function ∷ words) e = absurd (false≢true (sym e))
replaced_ends (Procedure ∷ words) e = absurd (false≢true (sym e))
replaced_ends (Rule ∷ words) e = absurd (false≢true (sym e))
replaced_ends (word ∷ words) e = ap (λ n. 1 + n) (plain_ends words)

created_or_ends : (words : List Word) → replaces_holder (without_commands words) ≡ false → EndsFirst CreatedOr words
created_or_ends [] e = refl
created_or_ends (Trivia ∷ words) e = ap (λ n. 1 + n) (created_or_ends words e)
created_or_ends (Command ∷ words) e = ap (λ n. 1 + n) (created_or_ends words e)
created_or_ends (CopyCommand ∷ words) e = ap (λ n. 1 + n) (created_or_ends words e)
created_or_ends (Semicolon ∷ words) e = refl
created_or_ends (QueryEnd ∷ words) e = refl
created_or_ends (Replace ∷ words) e = ap (λ n. 1 + n) (replaced_ends words e)
created_or_ends (word ∷ words) e = ap (λ n. 1 + n) (plain_ends words)

created_ends : (words : List Word) → creates_holder (without_commands words) ≡ false → EndsFirst Created words
created_ends [] e = refl
created_ends (Trivia ∷ words) e = ap (λ n. 1 + n) (created_ends words e)
created_ends (Command ∷ words) e = ap (λ n. 1 + n) (created_ends words e)
created_ends (CopyCommand ∷ words) e = ap (λ n. 1 + n) (created_ends words e)
created_ends (Semicolon ∷ words) e = refl
created_ends (QueryEnd ∷ words) e = refl
created_ends (Or ∷ words) e = ap (λ n. 1 + n) (created_or_ends words e)
created_ends (Function ∷ words) e = absurd (false≢true (sym e))
created_ends (Procedure ∷ words) e = absurd (false≢true (sym e))
created_ends (Rule ∷ words) e = absurd (false≢true (sym e))
created_ends (word ∷ words) e = ap (λ n. 1 + n) (plain_ends words)

start_ends : (words : List Word) → begins_command (without_trivia words) ≡ false → is_holder (without_commands words) ≡ false → EndsFirst Start words
start_ends [] c h = refl
start_ends (Trivia ∷ words) c h = ap (λ n. 1 + n) (start_ends words c h)
start_ends (Semicolon ∷ words) c h = refl
start_ends (QueryEnd ∷ words) c h = refl
start_ends (CopyCommand ∷ words) c h = absurd (false≢true (sym c))
start_ends (Command ∷ words) c h = absurd (false≢true (sym c))
start_ends (Create ∷ words) c h = ap (λ n. 1 + n) (created_ends words h)
start_ends (Copy ∷ words) c h = ap (λ n. 1 + n) (copy_ends 0 Nothing words)
start_ends (word ∷ words) c h = ap (λ n. 1 + n) (plain_ends words)

command_ends : (words : List Word) → begins_command (without_trivia words) ≡ true → first_end Start words ≡ position_or_len is_command words
command_ends [] c = absurd (false≢true c)
command_ends (Trivia ∷ words) c = ap (λ n. 1 + n) (command_ends words c)
command_ends (CopyCommand ∷ words) c = refl
command_ends (Command ∷ words) c = refl
command_ends (word ∷ words) c = absurd (false≢true c)

-- ---- brackets of a rule

lead_on : (a b c : Statement) (words others : List Word) → LeadTo a words b → LeadTo b others c → LeadTo a (words ++ others) c
lead_on a b c [] others first second = subst (λ s. LeadTo s others c) (sym first) second
lead_on a b c (word ∷ words) others first second = (first.0, lead_on (after a word) b c words others first.1 second)

not_none : (n : ℕ) → 0 < n → (n == 0) ≡ false
not_none n some = grind (arith, nat_tests)

in_rule : (inside : Bool) (n : ℕ) (word : Word) → is_in_rule inside word ≡ true → (inside ≡ true → 0 < n) → LeadTo (OfRule n) (word ∷ []) (OfRule n)
in_rule inside n Open e held = absurd (false≢true e)
in_rule inside n Close e held = absurd (false≢true e)
in_rule inside n QueryEnd e held = absurd (false≢true e)
in_rule inside n Semicolon e held =
    let some = not_none n (held e) in (some, cond-false (n == 0) Start (OfRule n) some)
in_rule inside n word e held = (refl, refl)

closes : (n : ℕ) → LeadTo (OfRule (n + 1)) (Close ∷ []) (OfRule n)
closes n = (refl, ap OfRule (omega arith))

in_brackets : (inside : Bool) (words : List Word) → InRule inside words → (n : ℕ) → (inside ≡ true → 0 < n) → LeadTo (OfRule n) words (OfRule n)
in_brackets inside words (nothing same) n held = refl
in_brackets inside words (one same word others is are) n held =
    lead_on (OfRule n) (OfRule n) (OfRule n) (word ∷ []) others (in_rule inside n word is held) (in_brackets inside others are n held)
in_brackets inside words (brackets same inner others ins are) n held = (
  refl,
  lead_on (OfRule (n + 1)) (OfRule (n + 1)) (OfRule n) inner (Close ∷ others) (in_brackets true inner ins (n + 1) (λ e. omega arith))
      (lead_on (OfRule (n + 1)) (OfRule n) (OfRule n) (Close ∷ []) others (closes n) (in_brackets inside others are n held)),
)

-- no word ends the statement before those that follow
end_after : (a b : Statement) (words others : List Word) → LeadTo a words b → first_end a (words ++ others) ≡ length words + first_end b others
end_after a b [] others leads = ap (λ s. first_end s others) leads ∙ sym (zero-add (first_end b others))
end_after a b (word ∷ words) others leads =
    let more = end_after (after a word) b words others leads.1 in
    cond-true (not (ends_with a word)) (1 + first_end (after a word) (words ++ others)) 0 (ap not leads.0) ∙ omega (arith, more)

rule_ends : (words others : List Word) → InRule false words → first_end (OfRule 0) (words ++ Semicolon ∷ others) ≡ length words
rule_ends words others are =
    let leads = in_brackets false words are 0 (λ e. absurd (false≢true e)) in
    omega (arith, end_after (OfRule 0) (OfRule 0) words (Semicolon ∷ others) leads)

-- ---- blocks

is_free : Before → Bool
is_free Name = false
is_free before = true

-- these words of a block leave so much of it unclosed
abbrev Stays : ℕ → Before → List Word → Type 0
Stays n before words = (next : Before) × (is_free next ≡ true) × LeadTo (OfBlock (n + 1) before) words (OfBlock (n + 1) next)

stays_on : (n : ℕ) (before : Before) (words others : List Word) → Stays n before words → ((next : Before) → is_free next ≡ true → Stays n next others)
    → Stays n before (words ++ others)
stays_on n before words others first second =
    let then_on = second first.0 first.1 in
    (then_on.0, then_on.1, lead_on (OfBlock (n + 1) before) (OfBlock (n + 1) first.0) (OfBlock (n + 1) then_on.0) words others first.2 then_on.2)

one_in_block : (n : ℕ) (before : Before) (word : Word) → is_in_block false word ≡ true → is_free before ≡ true → Stays n before (word ∷ [])
unfolding is_free
one_in_block n Name word e free = absurd (false≢true free)
one_in_block n before Semicolon e free = absurd (false≢true e)
one_in_block n before QueryEnd e free = absurd (false≢true e)
one_in_block n before Case e free = absurd (false≢true e)
one_in_block n before End e free = absurd (false≢true e)
one_in_block n before Dot e free = absurd (false≢true e)
one_in_block n before As e free = absurd (false≢true e)
one_in_block n before Trivia e free = (before, free, (refl, refl))
one_in_block n before Command e free = (before, free, (refl, refl))
one_in_block n before CopyCommand e free = (before, free, (refl, refl))
one_in_block n Any Begin e free = (Block, refl, (refl, refl))
one_in_block n Block Begin e free = (Block, refl, (refl, refl))
one_in_block n Any word e free = (Any, refl, (refl, refl))
one_in_block n Block word e free = (Any, refl, (refl, refl))

semicolon_in_block : (before : Before) → is_free before ≡ true → Stays 0 before (Semicolon ∷ [])
unfolding is_free
semicolon_in_block Name free = absurd (false≢true free)
semicolon_in_block Any free = (Any, refl, (refl, refl))
semicolon_in_block Block free = (Any, refl, (refl, refl))

named : (n : ℕ) (word : Word) → is_named word ≡ true → LeadTo (OfBlock (n + 1) Name) (word ∷ []) (OfBlock (n + 1) Any)
named n Trivia e = absurd (false≢true e)
named n Semicolon e = absurd (false≢true e)
named n QueryEnd e = absurd (false≢true e)
named n CopyCommand e = absurd (false≢true e)
named n Command e = absurd (false≢true e)
named n Dot e = absurd (false≢true e)
named n word e = (refl, refl)

name_in_block : (n : ℕ) (before : Before) (sign word : Word) → begins_name sign ≡ true → is_named word ≡ true → is_free before ≡ true
    → Stays n before (sign ∷ word ∷ [])
unfolding is_free
name_in_block n Name sign word s e free = absurd (false≢true free)
name_in_block n Any Dot word s e free = (Any, refl, (refl, named n word e))
name_in_block n Any As word s e free = (Any, refl, (refl, named n word e))
name_in_block n Block Dot word s e free = (Any, refl, (refl, named n word e))
name_in_block n Block As word s e free = (Any, refl, (refl, named n word e))
name_in_block n before sign word s e free = absurd (false≢true s)

one_of : (block : Bool) (n : ℕ) (before : Before) (word : Word) → is_in_block block word ≡ true → (block ≡ true → n ≡ 0) → is_free before ≡ true
    → Stays n before (word ∷ [])
one_of block n before Semicolon e outer free = subst (λ m. Stays m before (Semicolon ∷ [])) (sym (outer e)) (semicolon_in_block before free)
one_of block n before word e outer free = one_in_block n before word e free

begins_case : (n : ℕ) (before : Before) → is_free before ≡ true → LeadTo (OfBlock (n + 1) before) (Case ∷ []) (OfBlock (n + 1 + 1) Any)
unfolding is_free
begins_case n Name free = absurd (false≢true free)
begins_case n Any free = (refl, refl)
begins_case n Block free = (refl, refl)

more_open : (n : ℕ) → nat_le (n + 1 + 1) 1 ≡ false
more_open n = grind (arith, nat_tests)

closed : (n : ℕ) → (if nat_le (n + 1 + 1) 1 then OfRoutine 0 Any else OfBlock (n + 1 + 1 - 1) Any) ≡ OfBlock (n + 1) Any
closed n =
    cond-false (nat_le (n + 1 + 1) 1) (OfRoutine 0 Any) (OfBlock (n + 1 + 1 - 1) Any) (more_open n) ∙ ap (λ m. OfBlock m Any) (omega arith)

ends_case : (n : ℕ) (before : Before) → is_free before ≡ true → LeadTo (OfBlock (n + 1 + 1) before) (End ∷ []) (OfBlock (n + 1) Any)
unfolding is_free
ends_case n Name free = absurd (false≢true free)
ends_case n Any free = (refl, closed n)
ends_case n Block free = (refl, closed n)

ends_block : (before : Before) → is_free before ≡ true → LeadTo (OfBlock 1 before) (End ∷ []) (OfRoutine 0 Any)
unfolding is_free
ends_block Name free = absurd (false≢true free)
ends_block Any free = (refl, refl)
ends_block Block free = (refl, refl)

any_free : is_free Any ≡ true
unfolding is_free
any_free = refl

in_block : (block : Bool) (words : List Word) → InBlock block words → (n : ℕ) (before : Before) → (block ≡ true → n ≡ 0) → is_free before ≡ true
    → Stays n before words
in_block block words (empty same) n before outer free = (before, free, refl)
in_block block words (one_word same word others is are) n before outer free =
    stays_on n before (word ∷ []) others (one_of block n before word is outer free) (λ next later. in_block block others are n next outer later)
in_block block words (name same sign word others begins is are) n before outer free =
    stays_on n before (sign ∷ word ∷ []) others (name_in_block n before sign word begins is free) (λ next later. in_block block others are n next outer later)
in_block block words (expression same inner others ins are) n before outer free =
    let within = in_block false inner ins (n + 1) Any (λ e. absurd (false≢true e)) any_free in
    let later = in_block block others are n Any outer any_free in (
      later.0,
      later.1,
      lead_on (OfBlock (n + 1) before) (OfBlock (n + 1 + 1) Any) (OfBlock (n + 1) later.0) (Case ∷ []) (inner ++ End ∷ others) (begins_case n before free)
          (lead_on (OfBlock (n + 1 + 1) Any) (OfBlock (n + 1 + 1) within.0) (OfBlock (n + 1) later.0) inner (End ∷ others) within.2
          (lead_on (OfBlock (n + 1 + 1) within.0) (OfBlock (n + 1) Any) (OfBlock (n + 1) later.0) (End ∷ []) others (ends_case n within.0 within.1) later.2)),
    )

over_trivia : (a b : Statement) (words : List Word) → LeadTo a (without_trivia words) b → LeadTo a words b
over_trivia a b [] leads = leads
over_trivia a b (Trivia ∷ words) leads = (refl, over_trivia a b words leads)
over_trivia a b (word ∷ words) leads = (leads.0, over_trivia (after a word) b words leads.1)

block_holds : (words inner : List Word) → without_trivia words ≡ Begin ∷ Atomic ∷ (inner ++ End ∷ []) → InBlock true inner
    → LeadTo (OfRoutine 0 Any) words (OfRoutine 0 Any)
block_holds words inner same are =
    let here = in_block true inner are 0 Any (λ e. refl) any_free in
    let leads = lead_on (OfBlock 1 Any) (OfBlock 1 here.0) (OfRoutine 0 Any) inner (End ∷ []) here.2 (ends_block here.0 here.1) in
    over_trivia (OfRoutine 0 Any) (OfRoutine 0 Any) words (subst (λ all. LeadTo (OfRoutine 0 Any) all (OfRoutine 0 Any)) (sym same) (refl, (refl, leads)))

pub statements_end : StatementsEnd
statements_end = record {
  command = command_ends;
  plain = start_ends;
  rule = rule_ends;
  block = block_holds;
}

use Rattle.std.proofs.Common.{refl, rules, subst, sym}
use Rattle.std.proofs.KnownBytes.{Appends-trans}
use Rattle.std.proofs.lemmas.Fmt.{decimal_step}
use Rattle.std.specs.Io.KnownBytes.{Appends}
use Rattle.squawk_answer.proofs.Parts.{part_first}
use Rattle.squawk_answer.proofs.print.+print_decimal.Goals as goal

pub returns-then-not-print_decimal-clause-part : goal.returns-then-not-print_decimal-clause-part
returns-then-not-print_decimal-clause-part g t c = λ _.
    part_first _ _ _ _ _ (decimal_step c.args.n (search rules) (search rules)) (c.if-not-print_decimal.ensures.part refl)

pub returns-clause-all : goal.returns-clause-all
returns-clause-all g t c = λ all.
    subst (Appends _ _) (sym (decimal_step c.args.n (search rules) (search rules))) (Appends-trans _ _ _ _ _ (c.if-not-print_decimal.ensures.all refl) (c.print_digit-2.ensures.all all))

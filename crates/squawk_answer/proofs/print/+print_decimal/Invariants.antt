use Rattle.squawk_answer.proofs.print.+print_decimal.Given as goal

abbrev pub decreases-print_decimal : goal.decreases-print_decimal
decreases-print_decimal g l = l.n

use Rattle.std.proofs.Common.{◌≡◌, ◌∙◌, ℕ, List, ◌++◌, ap, refl, sym}
use Rattle.squawk_answer.proofs.Parts.{part_first, part_second}
use Rattle.squawk_answer.proofs.print.print_line.Goals as goal

in_parts : (line words number bytes end : List ℕ) → line ≡ words ++ number → bytes ≡ words → line ++ end ≡ (bytes ++ number) ++ end
in_parts line words number bytes end split same = ap (λ l. l ++ end) (split ∙ ap (λ w. w ++ number) (sym same))

pub returns-then-not-write_all-clause-part : goal.returns-then-not-write_all-clause-part
returns-then-not-write_all-clause-part g c = λ _.
    part_first _ _ _ _ _ (in_parts _ _ _ _ _ c.parts-number.ensures c.as_bytes.ensures.value) (part_first _ _ _ _ _ refl (c.if-not-write_all.ensures.part refl))

pub returns-then-not-print_number-clause-part : goal.returns-then-not-print_number-clause-part
returns-then-not-print_number-clause-part g c = λ _.
    part_first _ _ _ _ _ (in_parts _ _ _ _ _ c.parts-number.ensures c.as_bytes.ensures.value)
    (part_second _ _ _ _ _ (c.if-not-write_all.ensures.all refl) (c.if-not-print_number.ensures.part refl))

use Rattle.std.proofs.Common.{◌≡◌, ◌∙◌, ℕ, zero, suc, ◌++◌, ap, add-one, append_assoc, arith, refl, sym}
use Rattle.std.proofs.lemmas.List.{append-nil}
use Rattle.std.specs.Prelude.{codes, string_bytes}
use Rattle.squawk_tree.specs.TreeText.{indentation}
use Rattle.squawk_tree.proofs.shown.write_indentation.Goals as goal

-- two more spaces
indentation-more : (depth : ℕ) → indentation depth ++ codes "  " ≡ indentation (suc depth)
indentation-more zero = refl
indentation-more (suc depth) = ap (λ spaces. codes "  " ++ spaces) (indentation-more depth)

pub loop-init : goal.loop-init
loop-init c = sym (append-nil (string_bytes c.args.out.now))

pub loop-preserved : goal.loop-preserved
loop-preserved c =
    c.in_ok-push_str.ensures.bytes
    ∙ (ap (λ bytes. bytes ++ codes "  ") c.loop.invariant
    ∙ (append_assoc (string_bytes c.args.out.now) (indentation c.loop.counter) (codes "  ")
    ∙ ap (λ spaces. string_bytes c.args.out.now ++ spaces) (indentation-more c.loop.counter ∙ ap indentation (sym (add-one c.loop.counter)))))

pub returns : goal.returns
returns c = let end : c.loop.counter ≡ c.args.depth = omega arith in c.loop.invariant ∙ ap (λ depth. string_bytes c.args.out.now ++ indentation depth) end

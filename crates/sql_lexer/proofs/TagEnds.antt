-- Steps to the next occurrence of a tag.
use Rattle.std.proofs.Common.{◌≡◌, ◌∙◌, ℕ, ◌+◌, ◌-◌, ◌<◌, ◌==◌, false, List, [], ◌∷◌, length, take, drop, get_or, arith, ap, sym, refl}
use Rattle.std.proofs.lemmas.List.{drop_more, take_rest}
use Rattle.std.proofs.lemmas.Bool.{ne_eqb, and_left}
use Rattle.sql_lexer.specs.Rules.{past, begins}
use Rattle.sql_lexer.specs.DollarQuotes.{first_end}
use Rattle.sql_lexer.proofs.Places.{moved}

elsewhere : (tag : List ℕ) (b : ℕ) (rest : List ℕ) → begins (b ∷ rest) tag ≡ false → first_end tag (b ∷ rest) ≡ past 1 (first_end tag rest)
elsewhere tag b rest e = rw e refl

-- another text begins here
pub tag_passes : (tag text : List ℕ) (at : ℕ) → at < length text → begins (take (length text - at) (drop at text)) tag ≡ false
    → past (at + 1) (first_end tag (drop (at + 1) text)) ≡ past at (first_end tag (drop at text))
tag_passes tag text at lt e =
    let more = drop_more text at 0 lt in
    moved at 1 (first_end tag (drop at text)) (first_end tag (drop (at + 1) text))
    (ap (first_end tag) more
    ∙ elsewhere tag (get_or text at 0) (drop (at + 1) text) (ap (λ rest. begins rest tag) (sym more) ∙ ap (λ rest. begins rest tag) (sym (take_rest text at)) ∙ e))

other_byte : (tag : List ℕ) (b : ℕ) (rest : List ℕ) → get_or tag 0 0 ≡ 36 → (b ≡ 36 → ⊥) → begins (b ∷ rest) tag ≡ false
other_byte [] b rest dollar other = absurd (omega (arith, dollar))
other_byte (t ∷ tag) b rest dollar other =
    let differs : t ≡ b → ⊥ = λ e. other (sym e ∙ dollar) in
    and_left (t == b) (begins rest tag) (ne_eqb t b differs)

-- no dollar sign is here
pub tag_needs_dollar : (tag text : List ℕ) (at : ℕ) → at < length text → get_or tag 0 0 ≡ 36 → (get_or text at 0 ≡ 36 → ⊥)
    → past (at + 1) (first_end tag (drop (at + 1) text)) ≡ past at (first_end tag (drop at text))
tag_needs_dollar tag text at lt dollar other =
    moved at 1 (first_end tag (drop at text)) (first_end tag (drop (at + 1) text))
    (ap (first_end tag) (drop_more text at 0 lt)
    ∙ elsewhere tag (get_or text at 0) (drop (at + 1) text) (other_byte tag (get_or text at 0) (drop (at + 1) text) dollar other))

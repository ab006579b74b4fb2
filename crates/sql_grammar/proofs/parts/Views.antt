-- What rules see of tokens that stand among others.
use Rattle.std.proofs.Common.{◌≡◌, ◌∙◌, ℕ, zero, suc, ◌+◌, ◌<◌, ◌≤◌, nat_lt, inl, inr, Bool, true, false, List, [], ◌∷◌, ◌++◌, length, take, drop, if◌then◌else◌, arith, ap, sym, subst, refl}
use Rattle.std.specs.Prelude.{slice_get, unwrap_or, option_map}
use Rattle.std.specs.Borrow.{Bor}
use Rattle.std.proofs.lemmas.Bool.{cases_lt, le-ltb, lt-ltb}
use Rattle.std.proofs.lemmas.List.{drop-drop}
use Rattle.squawk_kinds.specs.Kinds.{EOF}
use Rattle.squawk_parser.specs.Words.{Words}
use Rattle.squawk_table.specs.ParserInput.{Entry, kind_in}
use Rattle.rule_grammar.specs.Derivations.{Derives, Text, is_hidden}
use Rattle.rule_grammar.specs.Derivations.Span.{block}
use Rattle.rule_grammar.specs.declared.rules.RuleGrammar.{RuleGrammar}
use Rattle.sql_grammar.specs.Files.{RulesDerive}
use Rattle.sql_grammar.specs.Parts.{AreSame}
use Rattle.sql_grammar.proofs.parts.Moved.{Sees, moved}

-- ---- entries of a list

-- what is told of the entry at a place, or this
abbrev at_or : (Entry → ℕ) → List Entry → ℕ → ℕ
at_or f input i = unwrap_or (option_map f (slice_get input i)) EOF

-- of those up to a limit
within : (f : Entry → ℕ) (limit i : ℕ) (input : List Entry) → (if nat_lt i limit then at_or f input i else EOF) ≡ at_or f (take limit input) i
within f zero i input = none i
  where
    none : (i : ℕ) → (if nat_lt i 0 then at_or f input i else EOF) ≡ EOF
    none i = ap (λ b. if b then at_or f input i else EOF) (le-ltb i 0 (omega arith))
within f (suc limit) i [] = same (nat_lt i (suc limit))
  where
    same : (b : Bool) → (if b then EOF else EOF) ≡ EOF
    same true = refl
    same false = refl
within f (suc limit) zero (e ∷ input) = ap (λ b. if b then f e else EOF) (lt-ltb 0 (suc limit) (omega arith))
within f (suc limit) (suc i) (e ∷ input) = ap (λ b. if b then at_or f input i else EOF) (less i limit) ∙ within f limit i input
  where
    less : (i limit : ℕ) → nat_lt (suc i) (suc limit) ≡ nat_lt i limit
    less i limit = elim (cases_lt i limit) [
      | inl lt ↦ lt-ltb (suc i) (suc limit) (omega (arith, lt)) ∙ sym (lt-ltb i limit lt)
      | inr le ↦ le-ltb (suc i) (suc limit) (omega (arith, le)) ∙ sym (le-ltb i limit le)
    ]

later : (f : Entry → ℕ) (n i : ℕ) (input : List Entry) → at_or f input (n + i) ≡ at_or f (drop n input) i
later f zero i input = ap (at_or f input) (omega arith)
later f (suc n) i [] = refl
later f (suc n) i (e ∷ input) =
    let next : suc n + i ≡ suc (n + i) = omega arith in
    ap (at_or f (e ∷ input)) next ∙ later f n i input

-- ---- the same tokens

-- the tokens up to a limit stand in another list after so many, and there the same are hidden
pub record IsView (t u : Text) (off : ℕ) : Type 0 where
  pub tokens : drop off (take u.limit u.input) ≡ take t.limit t.input
  pub hidden : (i : ℕ) → i ≤ t.limit → is_hidden u.hidden (off + i) ≡ is_hidden t.hidden i

module _ (t u : Text) (off : ℕ) (view : IsView t u off) where
  told : (f : Entry → ℕ) (i : ℕ) → (if nat_lt (off + i + 0) u.limit then at_or f u.input (off + i + 0) else EOF) ≡ (if nat_lt (i + 0) t.limit then at_or f t.input (i + 0) else EOF)
  told f i =
      let place : off + i + 0 ≡ off + (i + 0) = omega arith in
      within f u.limit (off + i + 0) u.input
      ∙ (ap (at_or f (take u.limit u.input)) place
      ∙ (later f off (i + 0) (take u.limit u.input)
      ∙ (ap (λ es. at_or f es (i + 0)) view.tokens ∙ sym (within f t.limit (i + 0) t.input))))

  pub sees : Sees t u off
  sees = record {
    kind = λ i le.
        ap (λ b. if b then EOF else (if nat_lt (off + i + 0) u.limit then kind_in u.input (off + i + 0) else EOF)) (view.hidden i le)
        ∙ ap (λ k. if is_hidden t.hidden i then EOF else k) (told (λ e. e.kind) i);
    word = λ i le. told (λ e. e.contextual_kind) i;
    seen = λ i le.
        let place : off + i + 0 ≡ off + (i + 0) = omega arith in
        ap (λ n. drop n (take u.limit u.input)) place
        ∙ (sym (drop-drop (i + 0) off (take u.limit u.input)) ∙ ap (drop (i + 0)) view.tokens);
    hidden = view.hidden;
  }

-- ---- the same rules

abbrev text_by : List (List ℕ) → List (List ℕ) → List Bool → Words → List Entry → ℕ → Text
text_by rows sets hidden words input limit = record { rows = rows; sets = sets; hidden = hidden; words = words; input = input; limit = limit }

-- what they derive of tokens, they derive where these stand among others
pub derive_moved : (r s : Bor RuleGrammar) (words : Words) (input whole : List Entry) (from to off : ℕ) → AreSame r.now s.now
    → IsView (text_by r.now.table.rows.now r.now.table.sets.now r.now.table.hidden.tokens.now words input to)
    (text_by r.now.table.rows.now r.now.table.sets.now s.now.table.hidden.tokens.now words whole (off + to)) off
    → RulesDerive words input from to r → RulesDerive words whole (off + from) (off + to) s
derive_moved r s words input whole from to off same view derives =
    let rows = r.now.table.rows.now in
    let sets = r.now.table.sets.now in
    let hidden = r.now.table.hidden.tokens.now in
    let others = s.now.table.hidden.tokens.now in
    let t = text_by rows sets hidden words input to in
    let u = text_by rows sets others words whole (off + to) in
    let moves : Derives u (block r.now.start r.now.end) (off + from) (off + to) =
    moved rows sets words hidden others input whole to (off + to) off (sees t u off view) derives (omega arith) in
    subst (λ m. Derives (text_by s.now.table.rows.now s.now.table.sets.now others words whole (off + to)) (block s.now.start m) (off + from) (off + to)) (ap (λ (g : RuleGrammar). g.end) same)
    (subst (λ n. Derives (text_by s.now.table.rows.now s.now.table.sets.now others words whole (off + to)) (block n r.now.end) (off + from) (off + to)) (ap (λ (g : RuleGrammar). g.start) same)
    (subst (λ all. Derives (text_by s.now.table.rows.now all others words whole (off + to)) (block r.now.start r.now.end) (off + from) (off + to)) (ap (λ (g : RuleGrammar). g.table.sets.now) same)
    (subst (λ all. Derives (text_by all sets others words whole (off + to)) (block r.now.start r.now.end) (off + from) (off + to)) (ap (λ (g : RuleGrammar). g.table.rows.now) same) moves)))

-- ---- what is hidden

pub hidden-front : (front others : List Bool) (i : ℕ) → i < length front → is_hidden (front ++ others) i ≡ is_hidden front i
hidden-front [] others i lt = absurd (omega arith)
hidden-front (b ∷ front) others zero lt = refl
hidden-front (b ∷ front) others (suc i) lt = hidden-front front others i (omega arith)

pub hidden-later : (front others : List Bool) (i : ℕ) → is_hidden (front ++ others) (length front + i) ≡ is_hidden others i
hidden-later [] others i = ap (is_hidden others) (omega arith)
hidden-later (b ∷ front) others i =
    let next : length (b ∷ front) + i ≡ suc (length front + i) = omega arith in
    ap (is_hidden (b ∷ front ++ others)) next ∙ hidden-later front others i

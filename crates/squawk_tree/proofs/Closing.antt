-- What a drawing stands for behind a closing.
use Rattle.std.proofs.Common.{◌≡◌, ◌∙◌, ℕ, suc, ◌+◌, ◌-◌, List, [], ◌∷◌, ◌++◌, length, arith, ap, sym, refl, add-zero, set, get_or, subst, ◌<◌}
use Rattle.std.specs.Prelude.{Some, None}
use Rattle.std.proofs.Math.Seq.{append_snoc, get_or-append_seam, set-append_seam}
use Rattle.std.proofs.lemmas.List.{append-nil, length-append}
use Rattle.std.proofs.lemmas.List.Elements.{All-set}
use Rattle.squawk_kinds.specs.KindNames.{Names}
use Rattle.squawk_table.specs.declared.shortcuts.str_step.OwnedStep.{OwnedStep}
use Rattle.squawk_table.specs.declared.shortcuts.str_step.OwnedStep.TheVariants as step
use Rattle.squawk_tree.specs.TreeText.{bytes_left, line, text_from, tree_text}
use Rattle.squawk_tree.specs.Drawing.{Drawing, StandsAfter, lines_text, open_count, openings_in, shown_until}
use Rattle.squawk_tree.specs.SoundDrawings.{IsPart, IsSoundDrawing, closed_line, open_indices}
use Rattle.squawk_tree.specs.declared.line.Line.{Line}
use Rattle.squawk_tree.specs.declared.line.Shown.{Shown}
use Rattle.squawk_tree.specs.declared.line.Shown.TheVariants.{Node, Token, Error}
use Rattle.squawk_tree.proofs.OpenLines.{LastOpen, last_open, length-open_indices, node, open_count-append, open_indices-append, open_indices-none}

-- ---- lines without an open node

shown_until-closed : (names : Names) (texts : List ℕ) (at at' : ℕ) (shown : Shown) → openings_in shown ≡ 0 → shown_until names texts at shown ≡ shown_until names texts at' shown
shown_until-closed names texts at at' (Node kind start None) none = absurd (omega (arith, none))
shown_until-closed names texts at at' (Node kind start (Some end)) none = refl
shown_until-closed names texts at at' (Token kind start end) none = refl
shown_until-closed names texts at at' (Error text pos) none = refl

-- further steps change nothing
lines_text-closed : (names : Names) (texts : List ℕ) (further further' : List OwnedStep) (lines : List Line) → open_count lines ≡ 0
    → lines_text names texts further lines ≡ lines_text names texts further' lines
lines_text-closed names texts further further' [] none = refl
lines_text-closed names texts further further' (x ∷ lines) none =
    let rest = lines_text-closed names texts further further' lines (omega (arith, none)) in
    let shows = shown_until-closed names texts (length texts + bytes_left further (open_count lines)) (length texts + bytes_left further' (open_count lines)) x.shown (omega (arith, none)) in
    ap (λ shown. line x.depth shown ++ lines_text names texts further lines) shows
    ∙ ap (λ behind. line x.depth (shown_until names texts (length texts + bytes_left further' (open_count lines)) x.shown) ++ behind) rest

-- ---- the last open node is closed

abbrev pub closed_node : ℕ → ℕ → ℕ → ℕ → Line
closed_node depth kind start end = record { depth = depth; shown = Node kind start (Some end) }

lines_text-closing : (names : Names) (texts : List ℕ) (further : List OwnedStep) (front : List Line) (depth kind start : ℕ) (behind : List Line) → open_count behind ≡ 0
    → lines_text names texts further (front ++ closed_node depth kind start (length texts) ∷ behind) ≡ lines_text names texts (step.Exit ∷ further) (front ++ node depth kind start ∷ behind)
lines_text-closing names texts further [] depth kind start behind none =
    let ends : length texts ≡ length texts + bytes_left (step.Exit ∷ further) (open_count behind) = rw none (sym (add-zero (length texts))) in
    ap (λ at. line depth (shown_until names texts at (Node kind start None)) ++ lines_text names texts further behind) ends
    ∙ ap (λ rest. line depth (shown_until names texts (length texts + bytes_left (step.Exit ∷ further) (open_count behind)) (Node kind start None)) ++ rest) (lines_text-closed names texts further (step.Exit ∷ further) behind none)
lines_text-closing names texts further (x ∷ front) depth kind start behind none =
    let rest = lines_text-closing names texts further front depth kind start behind none in
    let count : open_count (front ++ node depth kind start ∷ behind) ≡ suc (open_count (front ++ closed_node depth kind start (length texts) ∷ behind)) =
    omega (arith, open_count-append front (node depth kind start ∷ behind), open_count-append front (closed_node depth kind start (length texts) ∷ behind)) in
    ap (λ others. line x.depth (shown_until names texts (length texts + bytes_left further (open_count (front ++ closed_node depth kind start (length texts) ∷ behind))) x.shown) ++ others) rest
    ∙ ap (λ count. line x.depth (shown_until names texts (length texts + bytes_left (step.Exit ∷ further) count) x.shown) ++ lines_text names texts (step.Exit ∷ further) (front ++ node depth kind start ∷ behind)) (sym count)

-- a text and what follows it, where a closing shows nothing
ended : (before before' behind behind' whole : List ℕ) → before' ≡ before → behind ≡ behind' → before ++ behind' ≡ whole → before' ++ behind ≡ whole
ended before before' behind behind' whole p q all = rw (p, q) all

module _ (drawing : Drawing) (sound : IsSoundDrawing drawing) where
  abbrev lines : List Line
  lines = drawing.lines

  abbrev texts : List ℕ
  texts = drawing.texts

  -- ---- a closing without a node

  pub StandsAfter-no_node : (open_lines' : List ℕ) → drawing.open_lines ≡ [] → open_lines' ≡ [] → (steps : List OwnedStep) → StandsAfter drawing steps
      → StandsAfter (record { lines = lines; open_lines = open_lines'; texts = texts }) (steps ++ step.Exit ∷ [])
  StandsAfter-no_node open_lines' nil nil' steps stands = λ names further.
      let none : open_count lines ≡ 0 = sym (length-open_indices 0 lines) ∙ ap length (sym sound.indices ∙ nil) in
      let depth : length open_lines' ≡ length drawing.open_lines - 1 = rw (nil, nil') refl in
      ended _ _ _ _ _ (lines_text-closed names texts further (step.Exit ∷ further) lines none)
      (ap (λ depth. text_from names depth (length texts) further) depth ∙ ap (λ start. text_from names (length drawing.open_lines - 1) start further) (sym (add-zero (length texts))))
      (stands names (step.Exit ∷ further))
      ∙ ap (λ all. tree_text names all) (sym (append_snoc steps step.Exit further))

  -- ---- a closing of the last open node

  module _ (others : List ℕ) (index : ℕ) (popped : drawing.open_lines ≡ others ++ index ∷ []) where
    last : LastOpen 0 lines others index
    last = last_open 0 lines others index (sym sound.indices ∙ popped)

    abbrev open_node : Line
    open_node = node last.depth last.kind last.start

    abbrev ended_node : Line
    ended_node = closed_node last.depth last.kind last.start (length texts)

    index_is : index ≡ length last.front
    index_is = omega (arith, last.at)

    pub index-below : index < length lines
    index-below = omega (arith, index_is, ap length last.is, length-append last.front (open_node ∷ last.behind))

    module _ (l l' : Line) (here : l ≡ get_or lines index l) (made : l' ≡ closed_line (length texts) l) where
      l-is : l ≡ open_node
      l-is = here ∙ (ap (λ all. get_or all index l) last.is
          ∙ (ap (λ i. get_or (last.front ++ open_node ∷ last.behind) i l) index_is ∙ get_or-append_seam last.front open_node last.behind l))

      l'-is : l' ≡ ended_node
      l'-is = made ∙ ap (closed_line (length texts)) l-is

      lines-is : set lines index l' ≡ last.front ++ ended_node ∷ last.behind
      lines-is = ap (λ all. set all index l') last.is
          ∙ (ap (λ i. set (last.front ++ open_node ∷ last.behind) i l') index_is
          ∙ (set-append_seam last.front open_node last.behind l' ∙ ap (λ x. last.front ++ x ∷ last.behind) l'-is))

      pub StandsAfter-closing : (steps : List OwnedStep) → StandsAfter drawing steps
          → StandsAfter (record { lines = set lines index l'; open_lines = others; texts = texts }) (steps ++ step.Exit ∷ [])
      StandsAfter-closing steps stands = λ names further.
          let depth : length others ≡ length drawing.open_lines - 1 = omega (arith, ap length popped, length-append others (index ∷ [])) in
          ended _ _ _ _ _
          (ap (lines_text names texts further) lines-is
          ∙ (lines_text-closing names texts further last.front last.depth last.kind last.start last.behind last.none
          ∙ sym (ap (lines_text names texts (step.Exit ∷ further)) last.is)))
          (ap (λ depth. text_from names depth (length texts) further) depth ∙ ap (λ start. text_from names (length drawing.open_lines - 1) start further) (sym (add-zero (length texts))))
          (stands names (step.Exit ∷ further))
          ∙ ap (λ all. tree_text names all) (sym (append_snoc steps step.Exit further))

      pub IsSoundDrawing-closing : IsSoundDrawing (record { lines = set lines index l'; open_lines = others; texts = texts })
      IsSoundDrawing-closing = record {
        indices = sym (ap (open_indices 0) lines-is
            ∙ (open_indices-append 0 last.front (ended_node ∷ last.behind)
            ∙ (ap (λ indices. open_indices 0 last.front ++ indices) (open_indices-none (suc (0 + length last.front)) last.behind last.none)
            ∙ (append-nil (open_indices 0 last.front) ∙ last.others))));
        parts = All-set (λ x. IsPart texts x.shown) lines index l' (subst (λ x. IsPart texts x.shown) (sym l'-is) tt) sound.parts;
      }

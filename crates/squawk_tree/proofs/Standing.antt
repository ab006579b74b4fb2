-- What a drawing with one more line stands for.
use Rattle.std.proofs.Common.{◌≡◌, ◌∙◌, ℕ, suc, ◌+◌, List, [], ◌∷◌, ◌++◌, length, arith, ap, sym, refl, append_assoc, zero-add}
use Rattle.std.specs.Prelude.{All, None, IsUtf8, encode_utf8_all}
use Rattle.std.specs.Str.{chars}
use Rattle.std.proofs.Math.Seq.{append_snoc}
use Rattle.std.proofs.lemmas.List.{append-nil, length-append}
use Rattle.std.proofs.lemmas.List.Elements.{All-head, All-tail, All-push}
use Rattle.squawk_kinds.specs.KindNames.{Names}
use Rattle.squawk_table.specs.declared.shortcuts.str_step.OwnedStep.{OwnedStep}
use Rattle.squawk_table.specs.declared.shortcuts.str_step.OwnedStep.TheVariants as step
use Rattle.squawk_tree.specs.TreeText.{bytes_in, bytes_left, nodes_open_behind, line, tree_line, text_from, token_shown, tree_text}
use Rattle.squawk_tree.specs.Drawing.{Drawing, StandsAfter, lines_text, open_count, openings_in, shown_until}
use Rattle.squawk_tree.specs.SoundDrawings.{IsPart, IsSoundDrawing, open_indices}
use Rattle.squawk_tree.specs.declared.line.Line.{Line}
use Rattle.squawk_tree.specs.declared.line.Shown.{Shown}
use Rattle.squawk_tree.specs.declared.line.Shown.TheVariants.{Node, Token, Error}
use Rattle.squawk_tree.proofs.Texts.{IsPart-end, length-encodes-chars, parts-append, shown_until-append, slice_range-end}
use Rattle.squawk_tree.proofs.OpenLines.{open_count-append, open_indices-append}

-- ---- one more line

-- a text and what follows it, where a line moves from the one to the other
moved : (before before' line line' behind behind' whole : List ℕ) → before' ≡ before ++ (line ++ []) → line ≡ line' → behind ≡ behind'
    → before ++ (line' ++ behind') ≡ whole → before' ++ behind ≡ whole
moved before before' line line' behind behind' whole p q r all = rw (p, q, r, append-nil line', append_assoc) all

-- a line at the end: it, and the texts that it adds, show what a further step did
lines_text-push : (names : Names) (texts texts' : List ℕ)
    → ((at : ℕ) (shown : Shown) → IsPart texts shown → shown_until names texts' at shown ≡ shown_until names texts at shown)
    → (further further' : List OwnedStep) (l : Line)
    → ((k : ℕ) → length texts' + bytes_left further (k + openings_in l.shown) ≡ length texts + bytes_left further' k)
    → (lines : List Line) → All (λ x. IsPart texts x.shown) lines
    → lines_text names texts' further (lines ++ l ∷ []) ≡ lines_text names texts further' lines ++ lines_text names texts' further (l ∷ [])
lines_text-push names texts texts' same further further' l left [] parts = refl
lines_text-push names texts texts' same further further' l left (x ∷ lines) parts =
    let rest = lines_text-push names texts texts' same further further' l left lines (All-tail (λ x. IsPart texts x.shown) x lines parts) in
    let part = All-head (λ x. IsPart texts x.shown) x lines parts in
    let count : open_count (lines ++ l ∷ []) ≡ open_count lines + openings_in l.shown = omega (arith, open_count-append lines (l ∷ [])) in
    let ends = ap (λ k. length texts' + bytes_left further k) count ∙ left (open_count lines) in
    let shows = ap (λ at. shown_until names texts' at x.shown) ends ∙ same (length texts + bytes_left further' (open_count lines)) x.shown part in
    ap (λ shown. line x.depth shown ++ lines_text names texts' further (lines ++ l ∷ [])) shows
    ∙ (ap (λ behind. line x.depth (shown_until names texts (length texts + bytes_left further' (open_count lines)) x.shown) ++ behind) rest
    ∙ sym (append_assoc (line x.depth (shown_until names texts (length texts + bytes_left further' (open_count lines)) x.shown)) (lines_text names texts further' lines) (lines_text names texts' further (l ∷ []))))

-- a line of the next step
record Shows (drawing : Drawing) (next : OwnedStep) (texts' open_lines' : List ℕ) (l : Line) : Type 0 where
  depth : length open_lines' ≡ nodes_open_behind (length drawing.open_lines) next
  bytes : length texts' ≡ length drawing.texts + bytes_in next
  same : (names : Names) (at : ℕ) (shown : Shown) → IsPart drawing.texts shown → shown_until names texts' at shown ≡ shown_until names drawing.texts at shown
  here : (names : Names) (further : List OwnedStep) → line l.depth (shown_until names texts' (length texts' + bytes_left further 0) l.shown) ≡ tree_line names (length drawing.open_lines) (length drawing.texts) next further
  left : (further : List OwnedStep) (k : ℕ) → length texts' + bytes_left further (k + openings_in l.shown) ≡ length drawing.texts + bytes_left (next ∷ further) k

StandsAfter-put : (drawing : Drawing) (next : OwnedStep) (texts' open_lines' : List ℕ) (l : Line) → Shows drawing next texts' open_lines' l → IsSoundDrawing drawing
    → (steps : List OwnedStep) → StandsAfter drawing steps
    → StandsAfter (record { lines = drawing.lines ++ l ∷ []; open_lines = open_lines'; texts = texts' }) (steps ++ next ∷ [])
StandsAfter-put drawing next texts' open_lines' l shows sound steps stands = λ names further.
    let push = lines_text-push names drawing.texts texts' (shows.same names) further (next ∷ further) l (shows.left further) drawing.lines sound.parts in
    let behind = ap (λ depth. text_from names depth (length texts') further) shows.depth
    ∙ ap (λ start. text_from names (nodes_open_behind (length drawing.open_lines) next) start further) shows.bytes in
    moved _ _ _ _ _ _ _ push (shows.here names further) behind (stands names (next ∷ further))
    ∙ ap (λ all. tree_text names all) (sym (append_snoc steps next further))

-- ---- each of the steps that have a line

module _ (drawing : Drawing) (sound : IsSoundDrawing drawing) where
  abbrev lines : List Line
  lines = drawing.lines

  abbrev texts : List ℕ
  texts = drawing.texts

  abbrev token_line : ℕ → List ℕ → Line
  token_line kind text = record { depth = length drawing.open_lines; shown = Token kind (length texts) (length (texts ++ text)) }

  token_shows : (kind : ℕ) (text : List ℕ) → IsUtf8 text → Shows drawing (step.Token kind (chars text)) (texts ++ text) drawing.open_lines (token_line kind text)
  token_shows kind text utf8 =
      let len = length-append texts text in
      let bytes = length-encodes-chars text utf8 in
      let ends : length (texts ++ text) ≡ length texts + length (encode_utf8_all (chars text)) = omega arith in
      record {
        depth = refl;
        bytes = ends;
        same = λ names at shown part. shown_until-append names texts text at shown part;
        here = λ names further.
            ap (λ part. line (length drawing.open_lines) (token_shown names kind (length texts) (length (texts ++ text)) (chars part))) (slice_range-end texts text)
            ∙ ap (λ end. line (length drawing.open_lines) (token_shown names kind (length texts) end (chars text))) ends;
        left = λ further k.
            let same : k + 0 ≡ k = omega arith in
            rw same (omega arith);
      }

  abbrev node_line : ℕ → Line
  node_line kind = record { depth = length drawing.open_lines; shown = Node kind (length texts) None }

  node_shows : (kind : ℕ) → Shows drawing (step.Enter kind) texts (drawing.open_lines ++ length lines ∷ []) (node_line kind)
  node_shows kind =
      let len = length-append drawing.open_lines (length lines ∷ []) in
      record {
        depth = omega arith;
        bytes = omega arith;
        same = λ names at shown part. refl;
        here = λ names further. refl;
        left = λ further k. let more : k + 1 ≡ suc k = omega arith in rw more refl;
      }

  abbrev error_line : List ℕ → ℕ → Line
  error_line text pos = record { depth = length drawing.open_lines; shown = Error text pos }

  error_shows : (text : List ℕ) (pos : ℕ) → Shows drawing (step.Error text pos) texts drawing.open_lines (error_line text pos)
  error_shows text pos = record {
    depth = refl;
    bytes = omega arith;
    same = λ names at shown part. refl;
    here = λ names further. refl;
    left = λ further k. let same : k + 0 ≡ k = omega arith in rw same refl;
  }

  -- ---- the drawing after them, where its lists are known by equations

  module _ (kind : ℕ) (text : List ℕ) (utf8 : IsUtf8 texts) (utf8' : IsUtf8 text) (lines' : List Line) (texts' : List ℕ)
      (grown : texts' ≡ texts ++ text) (put : lines' ≡ lines ++ record { depth = length drawing.open_lines; shown = Token kind (length texts) (length texts') } ∷ []) where
    pub StandsAfter-token : (steps : List OwnedStep) → StandsAfter drawing steps
        → StandsAfter (record { lines = lines'; open_lines = drawing.open_lines; texts = texts' }) (steps ++ step.Token kind (chars text) ∷ [])
    StandsAfter-token steps stands =
        rw (put, grown) (StandsAfter-put drawing (step.Token kind (chars text)) (texts ++ text) drawing.open_lines (token_line kind text) (token_shows kind text utf8') sound steps stands)

    pub IsSoundDrawing-token : IsSoundDrawing (record { lines = lines'; open_lines = drawing.open_lines; texts = texts' })
    IsSoundDrawing-token = rw (put, grown) (record {
      indices = sound.indices ∙ sym (open_indices-append 0 lines (token_line kind text ∷ []) ∙ append-nil (open_indices 0 lines));
      parts = All-push (λ x. IsPart (texts ++ text) x.shown) lines (token_line kind text) (parts-append texts text utf8 utf8' lines sound.parts) (IsPart-end texts text utf8' kind);
    })

  module _ (kind : ℕ) (lines' : List Line) (open_lines' : List ℕ)
      (put : lines' ≡ lines ++ node_line kind ∷ []) (opened : open_lines' ≡ drawing.open_lines ++ length lines ∷ []) where
    pub StandsAfter-node : (steps : List OwnedStep) → StandsAfter drawing steps
        → StandsAfter (record { lines = lines'; open_lines = open_lines'; texts = texts }) (steps ++ step.Enter kind ∷ [])
    StandsAfter-node steps stands =
        rw (put, opened) (StandsAfter-put drawing (step.Enter kind) texts (drawing.open_lines ++ length lines ∷ []) (node_line kind) (node_shows kind) sound steps stands)

    pub IsSoundDrawing-node : IsSoundDrawing (record { lines = lines'; open_lines = open_lines'; texts = texts })
    IsSoundDrawing-node = rw (put, opened) (record {
      indices = ap (λ indices. indices ++ length lines ∷ []) sound.indices
          ∙ sym (open_indices-append 0 lines (node_line kind ∷ []) ∙ ap (λ index. open_indices 0 lines ++ index ∷ []) (zero-add (length lines)));
      parts = All-push (λ x. IsPart texts x.shown) lines (node_line kind) sound.parts tt;
    })

  module _ (text : List ℕ) (pos : ℕ) (lines' : List Line) (put : lines' ≡ lines ++ error_line text pos ∷ []) where
    pub StandsAfter-error : (steps : List OwnedStep) → StandsAfter drawing steps
        → StandsAfter (record { lines = lines'; open_lines = drawing.open_lines; texts = texts }) (steps ++ step.Error text pos ∷ [])
    StandsAfter-error steps stands =
        rw put (StandsAfter-put drawing (step.Error text pos) texts drawing.open_lines (error_line text pos) (error_shows text pos) sound steps stands)

    pub IsSoundDrawing-error : IsSoundDrawing (record { lines = lines'; open_lines = drawing.open_lines; texts = texts })
    IsSoundDrawing-error = rw put (record {
      indices = sound.indices ∙ sym (open_indices-append 0 lines (error_line text pos ∷ []) ∙ append-nil (open_indices 0 lines));
      parts = All-push (λ x. IsPart texts x.shown) lines (error_line text pos) sound.parts tt;
    })

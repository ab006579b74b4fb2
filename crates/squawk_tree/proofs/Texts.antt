-- The texts of tokens, which grow at their end.
use Rattle.std.proofs.Common.{◌≡◌, ℕ, ◌-◌, ◌≤◌, List, ◌++◌, length, drop, arith, ap, refl}
use Rattle.std.specs.Prelude.{All, IsUtf8, IsCharBoundary, slice_range, encode_utf8_all}
use Rattle.std.specs.Str.{chars}
use Rattle.std.proofs.Math.Seq.{drop-append_seam}
use Rattle.std.proofs.lemmas.List.{length-append, drop-append-le, take-append-le, length-drop, take_all}
use Rattle.std.proofs.lemmas.List.Elements.{All-weaker}
use Rattle.std.proofs.lemmas.Str.{IsCharBoundary-from_drop, IsCharBoundary-at_seam, IsCharBoundary-end, IsUtf8-drop, IsUtf8-append, encodes-chars}
use Rattle.squawk_kinds.specs.KindNames.{Names}
use Rattle.squawk_tree.specs.Drawing.{shown_until}
use Rattle.squawk_tree.specs.SoundDrawings.{IsPart}
use Rattle.squawk_tree.specs.declared.line.Line.{Line}
use Rattle.squawk_tree.specs.declared.line.Shown.{Shown}
use Rattle.squawk_tree.specs.declared.line.Shown.TheVariants.{Node, Token, Error}

-- ---- parts stay

slice_range-append : (texts more : List ℕ) (start end : ℕ) → start ≤ end → end ≤ length texts → slice_range (texts ++ more) start end ≡ slice_range texts start end
slice_range-append texts more start end le within =
    let e = drop-append-le start texts more (omega arith) in
    let len = length-drop start texts in
    rw e (take-append-le (end - start) (drop start texts) more (omega arith))

IsCharBoundary-append : (texts more : List ℕ) (i : ℕ) → IsUtf8 texts → IsUtf8 more → IsCharBoundary texts i → IsCharBoundary (texts ++ more) i
IsCharBoundary-append texts more i utf8 utf8' at =
    let within : i ≤ length texts = at.0 in
    let e = drop-append-le i texts more within in
    let len = length-append texts more in
    IsCharBoundary-from_drop (texts ++ more) i (omega arith) (rw e (IsUtf8-append (drop i texts) more (IsUtf8-drop texts i utf8 at) utf8'))

IsPart-append : (texts more : List ℕ) → IsUtf8 texts → IsUtf8 more → (shown : Shown) → IsPart texts shown → IsPart (texts ++ more) shown
IsPart-append texts more utf8 utf8' (Node kind start end) part = tt
IsPart-append texts more utf8 utf8' (Token kind start end) part =
    (part.0, IsCharBoundary-append texts more start utf8 utf8' part.1, IsCharBoundary-append texts more end utf8 utf8' part.2)
IsPart-append texts more utf8 utf8' (Error text pos) part = tt

pub parts-append : (texts more : List ℕ) → IsUtf8 texts → IsUtf8 more → (lines : List Line)
    → All (λ x. IsPart texts x.shown) lines → All (λ x. IsPart (texts ++ more) x.shown) lines
parts-append texts more utf8 utf8' lines parts =
    All-weaker (λ x. IsPart texts x.shown) (λ x. IsPart (texts ++ more) x.shown) (λ x part. IsPart-append texts more utf8 utf8' x.shown part) lines parts

pub shown_until-append : (names : Names) (texts more : List ℕ) (at : ℕ) (shown : Shown) → IsPart texts shown → shown_until names (texts ++ more) at shown ≡ shown_until names texts at shown
shown_until-append names texts more at (Node kind start end) part = refl
shown_until-append names texts more at (Token kind start end) part = rw (slice_range-append texts more start end part.0 part.2.0) refl
shown_until-append names texts more at (Error text pos) part = refl

-- ---- the part at the end

pub slice_range-end : (texts more : List ℕ) → slice_range (texts ++ more) (length texts) (length (texts ++ more)) ≡ more
slice_range-end texts more =
    let len = length-append texts more in
    rw (drop-append_seam texts more) (take_all (length (texts ++ more) - length texts) more (omega arith))

pub IsPart-end : (texts more : List ℕ) → IsUtf8 more → (kind : ℕ) → IsPart (texts ++ more) (Token kind (length texts) (length (texts ++ more)))
IsPart-end texts more utf8 kind =
    let len = length-append texts more in
    (omega arith, IsCharBoundary-at_seam (texts ++ more) texts more refl utf8, IsCharBoundary-end (texts ++ more))

pub length-encodes-chars : (text : List ℕ) → IsUtf8 text → length (encode_utf8_all (chars text)) ≡ length text
length-encodes-chars text utf8 = ap length (encodes-chars text utf8)

-- Where elements stand among blocks of bytes of the text.
use Rattle.std.specs.Prelude.{◌≡◌, ℕ, ◌+◌, ◌*◌, ◌/◌, ◌<◌, ◌≤◌, List, length, map}
use Rattle.std.specs.List.{slice_index_or}
use Rattle.syntax_tree.specs.Layout.{Laid, HoldsTree}
use Rattle.syntax_tree.specs.Drafts.{Growing, IsGrowing}
use Rattle.syntax_tree.specs.declared.element.Element.{Element}

-- the bytes at which elements begin
abbrev pub starts_of : List Element → List ℕ
starts_of elements = map (λ e. e.start) elements

-- So many of a list of numbers are below another one, the first of them, and no other.
pub record AreBelow (starts : List ℕ) (byte count : ℕ) : Type 0 where
  pub within : count ≤ length starts
  pub before : (i : ℕ) → i < count → slice_index_or starts i 0 < byte
  pub behind : (i : ℕ) → count ≤ i → i < length starts → byte ≤ slice_index_or starts i 0

-- For each block of 32 bytes that ends within so many bytes, a list has the place of the first element that begins behind it. No
-- element begins behind those bytes.
pub record HasBlocks (blocks : List ℕ) (starts : List ℕ) (bytes : ℕ) : Type 0 where
  pub all : length blocks ≡ bytes / 32
  pub begun : (i : ℕ) → i < length starts → slice_index_or starts i 0 ≤ bytes
  pub below : (k : ℕ) → k < length blocks → AreBelow starts (32 * (k + 1)) (slice_index_or blocks k 0)

-- what a tree has, and a builder
pub record IsIndexed (laid : Laid) (blocks : List ℕ) : Type 0 where
  pub holds : HoldsTree laid
  pub places : HasBlocks blocks (starts_of laid.elements) (length laid.text)

pub record IsGrowingIndexed (growing : Growing) (blocks : List ℕ) : Type 0 where
  pub grows : IsGrowing growing
  pub places : HasBlocks blocks (starts_of growing.elements) growing.sent

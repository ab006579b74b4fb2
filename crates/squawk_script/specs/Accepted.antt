-- The lists of calls that are accepted.
use Rattle.std.specs.Prelude.{◌≡◌, ℕ, ◌<◌, ◌==◌, ◌&&◌, Bool, true, false, not, List, take, length, count_by, nat_lt, IsTrue, HoldsAt}
use Rattle.std.specs.List.{list_any}
use Rattle.squawk_kinds.specs.Kinds.{EOF, TOMBSTONE}
use Rattle.squawk_parser.specs.Composites.{Tail}
use Rattle.squawk_parser.specs.Composites as composites
use Rattle.squawk_parser.specs.Eaten.{tail_of_kind}
use Rattle.squawk_script.specs.declared.call.Call.{Call}
use Rattle.squawk_script.specs.declared.call.Call.TheVariants.{Start, Complete, Abandon, Precede, ExtendTo, Eat, Expect}
use Rattle.squawk_script.specs.declared.script_error.ScriptError.{ScriptError}
use Rattle.squawk_script.specs.declared.script_error.ScriptError.TheVariants.{BadCall, Unspent, OutOfMemory}

-- whether a call makes a marker: markers are numbered from 0, in the order of the calls that make them
abbrev pub makes_marker : Call → Bool
makes_marker Start = true
makes_marker (Precede node) = true
makes_marker call = false

-- the number of markers that the calls make
abbrev pub markers_of : List Call → ℕ
markers_of calls = count_by makes_marker calls

-- whether a call spends marker m: completes it, abandons it, or extends a node to it
abbrev pub spends : ℕ → Call → Bool
spends m (Complete marker kind) = marker == m
spends m (Abandon marker) = marker == m
spends m (ExtendTo node marker) = marker == m
spends m call = false

-- whether a call completes marker m, whose node has the same number
abbrev pub completes : ℕ → Call → Bool
completes m (Complete marker kind) = marker == m
completes m call = false

-- whether a call precedes node m
abbrev pub precedes : ℕ → Call → Bool
precedes m (Precede node) = node == m
precedes m call = false

-- whether marker m is open: it was made and no call has spent it
abbrev pub is_open : List Call → ℕ → Bool
is_open calls m = nat_lt m (markers_of calls) && not (list_any (spends m) calls)

-- whether node m is at hand: it is completed and no call has preceded it
abbrev pub is_at_hand : List Call → ℕ → Bool
is_at_hand calls m = list_any (completes m) calls && not (list_any (precedes m) calls)

-- whether the number of the next marker fits in 32 bits
abbrev pub has_number : List Call → Bool
has_number calls = nat_lt (markers_of calls) 4294967296

-- a kind that is eaten without a tail
abbrev pub has_no_tail : Tail → Bool
has_no_tail composites.NoTail = true
has_no_tail composites.Open = false
has_no_tail (composites.ClosedBy kind) = false

abbrev pub is_edible : ℕ → Bool
is_edible kind = not (kind == EOF) && has_no_tail (tail_of_kind kind)

-- whether a call may follow these
abbrev pub may_follow : List Call → Call → Bool
may_follow before Start = has_number before
may_follow before (Complete marker kind) = is_open before marker && not (kind == TOMBSTONE)
may_follow before (Abandon marker) = is_open before marker
may_follow before (Precede node) = is_at_hand before node && has_number before
may_follow before (ExtendTo node marker) = is_at_hand before node && (is_open before marker && nat_lt marker node)
may_follow before (Eat kind) = is_edible kind
may_follow before (Expect kind) = is_edible kind
may_follow before call = true

-- call i may follow those before it
abbrev pub IsGoodAt : List Call → ℕ → Type 0
IsGoodAt calls i = HoldsAt (λ call. IsTrue (may_follow (take i calls) call)) calls i

-- so may each call before call n
abbrev pub AreGoodBelow : List Call → ℕ → Type 0
AreGoodBelow calls n = (i : ℕ) → i < n → IsGoodAt calls i

-- The calls are accepted: each may follow those before it, and no marker is left open.
pub record IsAccepted (calls : List Call) : Type 0 where
  pub good : AreGoodBelow calls (length calls)
  pub spent : (m : ℕ) → is_open calls m ≡ false

-- call i is the first at fault
pub record IsFirstBad (calls : List Call) (i : ℕ) : Type 0 where
  pub within : i < length calls
  pub before : AreGoodBelow calls i
  pub bad : ¬ (IsGoodAt calls i)

-- no call is at fault, and marker m is the least that is left open
pub record IsFirstOpen (calls : List Call) (m : ℕ) : Type 0 where
  pub good : AreGoodBelow calls (length calls)
  pub is : IsTrue (is_open calls m)
  pub before : (k : ℕ) → k < m → is_open calls k ≡ false

-- why no script can be made of the calls; for want of memory only if they make a marker
abbrev pub Refuses : List Call → ScriptError → Type 0
Refuses calls (BadCall index) = IsFirstBad calls index
Refuses calls (Unspent marker) = IsFirstOpen calls marker
Refuses calls OutOfMemory = 0 < markers_of calls

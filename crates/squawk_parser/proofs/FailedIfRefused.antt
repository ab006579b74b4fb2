-- A parser whose log grew, or which failed since it could not grow.
use Rattle.std.proofs.Common.{◌≡◌, Option, Some, refl, subst}
use Rattle.std.specs.Prelude.{Result, Ok, Err, IsOk, IsErr, OnOk, OnErr}
use Rattle.squawk_output.specs.Draft.{Draft}
use Rattle.squawk_parser.specs.State.{State}
use Rattle.squawk_parser.specs.declared.parser.parse_error.ParseError.{ParseError}
use Rattle.squawk_parser.specs.declared.parser.parse_error.ParseError.TheVariants.{OutOfMemory}

-- What holds of the edited draft without a reason, and of the old one with this reason, holds afterwards. Of the draft a fact is known
-- beforehand.
pub failed_if_refused : {T E : Type 0} (Knows : Draft → Type 0) (P : Draft → Option ParseError → Type 0) (s : State) (edited draft : Draft) (reason : Option ParseError) (grown : Result T E)
    → Knows draft → (Knows edited → P edited s.first_reason) → P s.draft (Some OutOfMemory) → OnOk grown (draft ≡ edited) → OnErr grown (draft ≡ s.draft)
    → (IsOk grown → reason ≡ s.first_reason) → (IsErr grown → reason ≡ Some OutOfMemory) → P draft reason
failed_if_refused Knows P s edited draft reason (Ok x) knows grows stays is same ok err = rw (is, ok refl) (grows (subst Knows is knows))
failed_if_refused Knows P s edited draft reason (Err e) knows grows stays is same ok err = rw (same, err refl) stays

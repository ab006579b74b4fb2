-- Steps of which some are moved, or that come to stand in a node: what stays.
use Rattle.std.proofs.Common.{◌≡◌, ◌∙◌, ℕ, zero, suc, Some, List, [], ◌∷◌, ◌++◌, drop, arith, ap, refl, subst, sym}
use Rattle.squawk_output.specs.Steps as steps
use Rattle.squawk_output.specs.Steps.{Step, Enter, Exit, eaten, errors_in}
use Rattle.squawk_table.specs.ParserInput.{Entry}
use Rattle.squawk_table.specs.Shape.{IsOver}
use Rattle.squawk_table.proofs.Over.{IsOver-append, IsOver-exit_last, IsOver-front, IsOver-back, eaten-other}
use Rattle.squawk_parser.proofs.Balance.{depth_after, depth_after-append, depth_after-suc}
use Rattle.squawk_parser.proofs.RecordedItems.{eaten-append, steps_errors-append}
use Rattle.squawk_parser.proofs.Splits.{count_by-fails}

-- what stays of the steps of items that are moved
pub record IsMoved (old new : List Step) : Type 0 where
  pub errors : errors_in new ≡ errors_in old
  pub flat : depth_after 0 old ≡ Some 0 → depth_after 0 new ≡ Some 0
  pub over : (input : List Entry) → IsOver old input → IsOver new input
  pub eats : eaten new ≡ eaten old

pub IsMoved-same : (old new : List Step) → new ≡ old → IsMoved old new
IsMoved-same old new same = record {
  errors = ap errors_in same;
  flat = λ h. ap (depth_after 0) same ∙ h;
  over = λ input over. subst (λ xs. IsOver xs input) (sym same) over;
  eats = ap eaten same;
}

-- the depth between two parts of a walk
depth_between : (d e : ℕ) (xs ys : List Step) → depth_after d (xs ++ ys) ≡ Some e → (m : ℕ) × (depth_after d xs ≡ Some m) × (depth_after m ys ≡ Some e)
depth_between d e [] ys h = (d, refl, h)
depth_between d e (steps.Token kind n ∷ xs) ys h = depth_between d e xs ys h
depth_between d e (Enter kind ∷ xs) ys h = depth_between (suc d) e xs ys h
depth_between zero e (Exit ∷ xs) ys h = absurd (cc)
depth_between (suc d) e (Exit ∷ xs) ys h = depth_between d e xs ys h
depth_between d e (steps.Error text ∷ xs) ys h = depth_between d e xs ys h

-- a node that begins earlier
module _ (kind : ℕ) (xs ys zs : List Step) where
  flat-earlier : depth_after 0 (xs ++ (ys ++ Enter kind ∷ zs)) ≡ Some 0 → depth_after 0 (xs ++ Enter kind ∷ (ys ++ zs)) ≡ Some 0
  flat-earlier h =
      let a = depth_between 0 0 xs (ys ++ Enter kind ∷ zs) h in
      let b = depth_between a.0 0 ys (Enter kind ∷ zs) a.2 in
      depth_after-append 0 a.0 xs (Enter kind ∷ (ys ++ zs)) a.1 ∙ (depth_after-append (suc a.0) (suc b.0) ys zs (depth_after-suc a.0 b.0 ys b.1) ∙ b.2)

  over-earlier : (input : List Entry) → IsOver (xs ++ (ys ++ Enter kind ∷ zs)) input → IsOver (xs ++ Enter kind ∷ (ys ++ zs)) input
  over-earlier input over =
      let rest = drop (eaten xs) input in
      let back : IsOver (ys ++ Enter kind ∷ zs) rest = IsOver-back xs (ys ++ Enter kind ∷ zs) input over in
      IsOver-append xs (Enter kind ∷ (ys ++ zs)) input (IsOver-front xs (ys ++ Enter kind ∷ zs) input over)
      (IsOver-append ys zs rest (IsOver-front ys (Enter kind ∷ zs) rest back) (IsOver-back ys (Enter kind ∷ zs) rest back))

  pub IsMoved-earlier : IsMoved (xs ++ (ys ++ Enter kind ∷ zs)) (xs ++ Enter kind ∷ (ys ++ zs))
  IsMoved-earlier = record {
    errors = omega (
      arith,
      steps_errors-append xs (ys ++ Enter kind ∷ zs),
      steps_errors-append ys (Enter kind ∷ zs),
      count_by-fails steps.is_error (Enter kind) zs refl,
      steps_errors-append xs (Enter kind ∷ (ys ++ zs)),
      count_by-fails steps.is_error (Enter kind) (ys ++ zs) refl,
      steps_errors-append ys zs,
    );
    flat = flat-earlier;
    over = over-earlier;
    eats = omega (
      arith,
      eaten-append xs (ys ++ Enter kind ∷ zs),
      eaten-append ys (Enter kind ∷ zs),
      eaten-other (Enter kind) zs refl,
      eaten-append xs (Enter kind ∷ (ys ++ zs)),
      eaten-other (Enter kind) (ys ++ zs) refl,
      eaten-append ys zs,
    );
  }

-- steps of which the last ones come to stand in a node
module _ (kind : ℕ) (xs ys : List Step) where
  flat-around : depth_after 0 (xs ++ ys) ≡ Some 0 → depth_after 0 (xs ++ Enter kind ∷ (ys ++ Exit ∷ [])) ≡ Some 0
  flat-around h =
      let a = depth_between 0 0 xs ys h in
      depth_after-append 0 a.0 xs (Enter kind ∷ (ys ++ Exit ∷ [])) a.1 ∙ depth_after-append (suc a.0) 1 ys (Exit ∷ []) (depth_after-suc a.0 0 ys a.2)

  over-around : (input : List Entry) → IsOver (xs ++ ys) input → IsOver (xs ++ Enter kind ∷ (ys ++ Exit ∷ [])) input
  over-around input over =
      IsOver-append xs (Enter kind ∷ (ys ++ Exit ∷ [])) input (IsOver-front xs ys input over)
      (IsOver-exit_last ys (drop (eaten xs) input) (IsOver-back xs ys input over))

  pub IsMoved-around : IsMoved (xs ++ ys) (xs ++ Enter kind ∷ (ys ++ Exit ∷ []))
  IsMoved-around = record {
    errors = omega (
      arith,
      steps_errors-append xs ys,
      steps_errors-append xs (Enter kind ∷ (ys ++ Exit ∷ [])),
      count_by-fails steps.is_error (Enter kind) (ys ++ Exit ∷ []) refl,
      steps_errors-append ys (Exit ∷ []),
    );
    flat = flat-around;
    over = over-around;
    eats = omega (
      arith,
      eaten-append xs ys,
      eaten-append xs (Enter kind ∷ (ys ++ Exit ∷ [])),
      eaten-other (Enter kind) (ys ++ Exit ∷ []) refl,
      eaten-append ys (Exit ∷ []),
    );
  }

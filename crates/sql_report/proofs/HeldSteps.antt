-- A walk over steps, of which the last is held back.
use Rattle.std.proofs.Common.{◌≡◌, ◌≢◌, ◌∙◌, ℕ, ◌+◌, ◌<◌, ◌≤◌, ◌^◌, None, Some, Option, List, [], ◌∷◌, ◌++◌, drop, length, length-append, map, ◌⊎◌, inl, inr, append_assoc, arith, ap, refl, sym, subst}
use Rattle.std.specs.Prelude.{MatchOption}
use Rattle.std.proofs.lemmas.List.Sums.{sum_by-cons}
use Rattle.std.proofs.lemmas.List.{append-nil, map-append, same_from_push}
use Rattle.squawk_table.specs.Sent.{bytes_of}
use Rattle.squawk_table.specs.SinkViews.{owned_step_of}
use Rattle.squawk_table.specs.declared.shortcuts.str_step.OwnedStep.{OwnedStep}
use Rattle.squawk_table.specs.declared.shortcuts.str_step.OwnedStep.TheVariants as sent
use Rattle.squawk_table.specs.declared.shortcuts.str_step.StrStep.{StrStep}
use Rattle.squawk_tree.specs.TreeText.{bytes_in}
use Rattle.sql_grammar.specs.Parts.{moved_by}
use Rattle.sql_grammar.specs.ReadParts.{ErrorsBelow}
use Rattle.sql_report.specs.OnTheWay.{DrawsBefore, HasWalked, IsSame, asked_of}
use Rattle.sql_report.specs.declared.one_walk.Asked.TheVariants as asked
use Rattle.sql_report.specs.declared.one_walk.Walk.{Walk}

-- the one that is held
abbrev pub held_steps : Option StrStep → List OwnedStep
held_steps None = []
held_steps (Some step) = owned_step_of step ∷ []

-- ---- the front of a walk

pub walked_none : (walk : Walk) → walk.at ≡ 0 → asked_of walk.drawing ≡ walk.asked → ((rest : List OwnedStep) → DrawsBefore walk.kind_names [] rest walk.drawing 0 rest)
    → walk.kind_names ≡ map (λ pair. (pair.0, pair.1.now)) walk.names.now → HasWalked [] walk []
walked_none walk at drawing draws names = record {
  drawing = drawing;
  at = λ some. at;
  draws = λ rest. subst (λ n. DrawsBefore walk.kind_names [] rest walk.drawing n rest) (sym at) (draws rest);
  names = names;
}

-- a walk that stands where its steps end
pub walked_at : (given : List ℕ) (walk : Walk) (done : List OwnedStep) (start : ℕ) → walk.asked ≢ asked.Nothing → bytes_of done ≡ start → HasWalked given walk done
    → HasWalked given (record walk { at = start }) done
walked_at given walk done start some bytes walked =
    let at : walk.at ≡ start = walked.at some ∙ bytes in
    subst (λ n. HasWalked given (record walk { at = n }) done) at walked

-- ---- steps that are taken

moved_bytes : (start : ℕ) (step : OwnedStep) → bytes_in (moved_by start step) ≡ bytes_in step
moved_bytes start (sent.Token kind text) = refl
moved_bytes start (sent.Enter kind) = refl
moved_bytes start sent.Exit = refl
moved_bytes start (sent.Error text pos) = refl

below_rest : (n : ℕ) (step : OwnedStep) (rest : List OwnedStep) → ErrorsBelow n (step ∷ rest) → ErrorsBelow n rest
below_rest n (sent.Token kind text) rest below = below
below_rest n (sent.Enter kind) rest below = below
below_rest n sent.Exit rest below = below
below_rest n (sent.Error text pos) rest below = below.1

-- all but the last are taken
pub all_taken : (held : Option StrStep) (taken inner : List OwnedStep) (last : OwnedStep) → (held ≡ None → taken ≡ []) → taken ++ (held_steps held ++ []) ≡ inner ++ last ∷ []
    → taken ≡ inner
all_taken None taken inner last none same =
    let nothing : [] ≡ inner ++ last ∷ [] = ap (λ xs. xs ++ []) (sym (none refl)) ∙ same in
    absurd (omega (arith, ap length nothing, length-append inner (last ∷ [])))
all_taken (Some step) taken inner last none same = (same_from_push taken inner (owned_step_of step) last same).0

-- one more is taken
moved_next : (start : ℕ) (done taken : List OwnedStep) (held : OwnedStep)
    → (done ++ map (moved_by start) taken) ++ moved_by start held ∷ [] ≡ done ++ map (moved_by start) (taken ++ held ∷ [])
moved_next start done taken held =
    append_assoc done (map (moved_by start) taken) (moved_by start held ∷ []) ∙ ap (λ xs. done ++ xs) (sym (map-append (moved_by start) taken (held ∷ [])))

-- ---- the walk

-- Some steps of all are taken, then one is held, if any is, and the rest is left. Where none is held, none is taken.
pub record Holds (start : ℕ) (begun walk : Walk) (all : List OwnedStep) (held : Option StrStep) (rest : List OwnedStep) : Type 0 where
  pub same : IsSame begun walk
  pub taken : List OwnedStep
  pub split : all ≡ taken ++ (held_steps held ++ rest)
  pub none : held ≡ None → taken ≡ []
  pub room : walk.at + bytes_of (held_steps held ++ rest) < 2 ^ 64
  pub n : ℕ
  pub short : start + n ≤ 2 ^ 64
  pub within : ErrorsBelow n (held_steps held ++ rest)
  pub walks : (given : List ℕ) (done : List OwnedStep) → HasWalked given begun done → HasWalked given walk (done ++ map (moved_by start) taken)

pub holds_none : (start : ℕ) (walk : Walk) (all : List OwnedStep) (n : ℕ) → walk.at + bytes_of all < 2 ^ 64 → start + n ≤ 2 ^ 64 → ErrorsBelow n all → Holds start walk walk all None all
holds_none start walk all n room short within = record {
  same = record { asked = refl; names = refl; kind_names = refl };
  taken = [];
  split = refl;
  none = λ e. refl;
  room = room;
  n = n;
  short = short;
  within = within;
  walks = λ given done walked. subst (HasWalked given walk) (sym (append-nil done)) walked;
}

-- the first is held
pub holds_first : (start : ℕ) (begun walk : Walk) (all : List OwnedStep) (step : StrStep) (rest : List OwnedStep) → Holds start begun walk all None (owned_step_of step ∷ rest)
    → Holds start begun walk all (Some step) rest
holds_first start begun walk all step rest h = record {
  same = h.same;
  taken = h.taken;
  split = h.split;
  none = λ e. h.none refl;
  room = h.room;
  n = h.n;
  short = h.short;
  within = h.within;
  walks = h.walks;
}

-- what is held is taken, and the next is held
pub holds_next : (start : ℕ) (begun walk next : Walk) (all : List OwnedStep) (before step : StrStep) (rest : List OwnedStep) (taken : OwnedStep)
    → Holds start begun walk all (Some before) (owned_step_of step ∷ rest) → taken ≡ moved_by start (owned_step_of before) → IsSame walk next → next.at ≡ walk.at + bytes_in taken
    → ((given : List ℕ) (done : List OwnedStep) → HasWalked given walk done → HasWalked given next (done ++ taken ∷ [])) → Holds start begun next all (Some step) rest
holds_next start begun walk next all before step rest taken h is same at walks =
    let held = owned_step_of before in
    let others = owned_step_of step ∷ rest in
    let size : bytes_in taken ≡ bytes_in held = ap bytes_in is ∙ moved_bytes start held in
    record {
      same = record {
        asked = same.asked ∙ h.same.asked;
        names = same.names ∙ h.same.names;
        kind_names = same.kind_names ∙ h.same.kind_names;
      };
      taken = h.taken ++ held ∷ [];
      split = h.split ∙ sym (append_assoc h.taken (held ∷ []) others);
      none = λ e. absurd (no_none e);
      room = let room = h.room in omega (arith, room, at, size, sum_by-cons bytes_in held others);
      n = h.n;
      short = h.short;
      within = below_rest h.n held others h.within;
      walks = λ given done walked.
          subst (HasWalked given next)
          (ap (λ x. (done ++ map (moved_by start) h.taken) ++ x ∷ []) is ∙ moved_next start done h.taken held)
          (walks given (done ++ map (moved_by start) h.taken) (h.walks given done walked));
    }
  where
    no_none : {x : StrStep} → Some x ≡ None → ⊥
    no_none e = let p = e in cc

-- ---- behind the first step

module _ (first : Option StrStep) (all rest : List OwnedStep) (next : MatchOption first ((all ≡ []) × (rest ≡ [])) (λ step. all ≡ owned_step_of step ∷ rest)) where
  behind : ((all ≡ []) × (rest ≡ [])) ⊎ ((step : OwnedStep) × (all ≡ step ∷ rest))
  behind = cases first next
    where
      cases : (o : Option StrStep) → MatchOption o ((all ≡ []) × (rest ≡ [])) (λ step. all ≡ owned_step_of step ∷ rest) → ((all ≡ []) × (rest ≡ [])) ⊎ ((step : OwnedStep) × (all ≡ step ∷ rest))
      cases None e = inl e
      cases (Some step) e = inr (owned_step_of step, e)

  pub rest_is : (first : OwnedStep) (others : List OwnedStep) → all ≡ first ∷ others → rest ≡ others
  rest_is first others is = elim behind [
    | inl e ↦ absurd (omega (arith, ap length (sym e.0 ∙ is)))
    | inr e ↦ ap (drop 1) (sym e.1 ∙ is)
  ]

  pub rest_bytes : bytes_of rest ≤ bytes_of all
  rest_bytes = elim behind [
    | inl e ↦ omega (arith, ap bytes_of (e.1 ∙ sym e.0))
    | inr e ↦ omega (arith, ap bytes_of e.1, sum_by-cons bytes_in e.0 rest)
  ]

  pub rest_below : (n : ℕ) → ErrorsBelow n all → ErrorsBelow n rest
  rest_below n below = elim behind [
    | inl e ↦ subst (ErrorsBelow n) (sym e.1) tt
    | inr e ↦ below_rest n e.0 rest (subst (ErrorsBelow n) e.1 below)
  ]

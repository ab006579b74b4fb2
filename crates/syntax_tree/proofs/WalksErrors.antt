-- The errors of trees that lie at a place of a tree.
use Rattle.std.proofs.Common.{◌≡◌, ◌∙◌, ℕ, suc, ◌+◌, ◌<◌, ◌≤◌, List, [], ◌∷◌, ◌++◌, length, arith, ap, sym, append_assoc, nat_lt, eqb, true, false, get_or, All}
use Rattle.std.proofs.lemmas.Bool.{cond-true, lt-ltb, le-ltb, eq-eqb, ne_eqb}
use Rattle.std.proofs.lemmas.List.{length-append, get_or_at}
use Rattle.std.proofs.lemmas.List.Elements.{All-nil, All-cons, All-head, All-append, All-weaker}
use Rattle.squawk_table.specs.declared.shortcuts.str_step.OwnedStep.TheVariants as step
use Rattle.squawk_tree.specs.Forest.{Forest, Nothing, Token, Node, Error, forest_steps}
use Rattle.syntax_tree.specs.Trees.{size}
use Rattle.syntax_tree.specs.Layout.{Laid, errors_of}
use Rattle.syntax_tree.specs.Walks.{blank_error, error_in, has_error}
use Rattle.syntax_tree.specs.declared.tree.TreeError.{TreeError}

pub errors_later : (trees : Forest) (node at given : ℕ) → All (λ e. given ≤ e.step) (errors_of trees node at given)
errors_later Nothing node at given = All-nil (λ e. given ≤ e.step)
errors_later (Token kind text others) node at given =
    All-weaker (λ e. given + 1 ≤ e.step) (λ e. given ≤ e.step) (λ e later. omega (arith, later)) (errors_of others node (at + 1) (given + 1))
    (errors_later others node (at + 1) (given + 1))
errors_later (Node kind inner others) node at given =
    let next = given + 2 + length (forest_steps inner) in
    All-append (λ e. given ≤ e.step) (errors_of inner at (at + 1) (given + 1)) (errors_of others node (at + 1 + size inner) next)
    (All-weaker (λ e. given + 1 ≤ e.step) (λ e. given ≤ e.step) (λ e later. omega (arith, later)) (errors_of inner at (at + 1) (given + 1))
    (errors_later inner at (at + 1) (given + 1)))
    (All-weaker (λ e. next ≤ e.step) (λ e. given ≤ e.step) (λ e later. omega (arith, later)) (errors_of others node (at + 1 + size inner) next)
    (errors_later others node (at + 1 + size inner) next))
errors_later (Error text pos others) node at given =
    All-cons (λ e. given ≤ e.step) (record { msg = text; pos = pos; node = node; next = at; step = given }) (errors_of others node at (given + 1)) (omega arith)
    (All-weaker (λ e. given + 1 ≤ e.step) (λ e. given ≤ e.step) (λ e later. omega (arith, later)) (errors_of others node at (given + 1))
    (errors_later others node at (given + 1)))

-- they lie from an index on, and those behind them come later
pub record Errs (laid : Laid) (trees : Forest) (node at error given : ℕ) : Type 0 where
  pub front : List TreeError
  pub rest : List TreeError
  pub errors : laid.errors ≡ front ++ (errors_of trees node at given ++ rest)
  pub error_is : length front ≡ error
  pub later : All (λ e. given + length (forest_steps trees) ≤ e.step) rest

no_error_of : (front list : List TreeError) (laid : Laid) (error given : ℕ) → laid.errors ≡ front ++ list → length front ≡ error → All (λ e. given < e.step) list
    → has_error laid error given ≡ false
no_error_of front [] laid error given errors error_is later =
    rw (le-ltb error (length laid.errors) (omega (arith, ap length errors, length-append front [], error_is)))
no_error_of front (e ∷ list) laid error given errors error_is later =
    let below : error < length laid.errors = omega (arith, ap length errors, length-append front (e ∷ list), error_is) in
    let here : error_in laid error ≡ e =
    ap (λ l. get_or l error blank_error) errors ∙ get_or_at front e list blank_error error error_is in
    let after = All-head (λ e. given < e.step) e list later in
    cond-true (nat_lt error (length laid.errors)) (eqb (error_in laid error).step given) false (lt-ltb error (length laid.errors) below)
    ∙ ne_eqb (error_in laid error).step given (λ same. omega (arith, after, same, ap (λ e. e.step) here))

module _ (laid : Laid) (node at error given : ℕ) where
  -- none of them has come before the first of their numbers
  pub no_error : (trees : Forest) → Errs laid trees node at error given → (now : ℕ) → now < given → has_error laid error now ≡ false
  no_error trees errs now before =
      no_error_of errs.front (errors_of trees node at given ++ errs.rest) laid error now errs.errors errs.error_is
      (All-append (λ e. now < e.step) (errors_of trees node at given) errs.rest
      (All-weaker (λ e. given ≤ e.step) (λ e. now < e.step) (λ e later. omega (arith, later, before)) (errors_of trees node at given) (errors_later trees node at given))
      (All-weaker (λ e. given + length (forest_steps trees) ≤ e.step) (λ e. now < e.step) (λ e later. omega (arith, later, before)) errs.rest errs.later))

  pub errs_behind_token : (kind : ℕ) (text : List ℕ) (others : Forest) → Errs laid (Token kind text others) node at error given → Errs laid others node (at + 1) error (given + 1)
  errs_behind_token kind text others errs = record {
    front = errs.front;
    rest = errs.rest;
    errors = errs.errors;
    error_is = errs.error_is;
    later =
        All-weaker (λ e. given + suc (length (forest_steps others)) ≤ e.step) (λ e. given + 1 + length (forest_steps others) ≤ e.step)
        (λ e later. omega (arith, later)) errs.rest errs.later;
  }

  module _ (kind : ℕ) (inner others : Forest) (errs : Errs laid (Node kind inner others) node at error given) where
    abbrev within : List TreeError
    within = errors_of inner at (at + 1) (given + 1)

    abbrev next : ℕ
    next = given + 2 + length (forest_steps inner)

    abbrev behind : List TreeError
    behind = errors_of others node (at + 1 + size inner) next

    errors_are : laid.errors ≡ errs.front ++ (within ++ (behind ++ errs.rest))
    errors_are = errs.errors ∙ ap (λ l. errs.front ++ l) (append_assoc within behind errs.rest)

    later_than : (n : ℕ) → n ≤ next + length (forest_steps others) → All (λ e. n ≤ e.step) errs.rest
    later_than n few =
        All-weaker (λ e. given + length (forest_steps (Node kind inner others)) ≤ e.step) (λ e. n ≤ e.step)
        (λ e later. omega (arith, few, later, length-append (forest_steps inner) (step.Exit ∷ forest_steps others))) errs.rest errs.later

    pub errs_in_node : Errs laid inner at (at + 1) error (given + 1)
    errs_in_node = record {
      front = errs.front;
      rest = behind ++ errs.rest;
      errors = errors_are;
      error_is = errs.error_is;
      later =
          All-append (λ e. given + 1 + length (forest_steps inner) ≤ e.step) behind errs.rest
          (All-weaker (λ e. next ≤ e.step) (λ e. given + 1 + length (forest_steps inner) ≤ e.step) (λ e later. omega (arith, later)) behind
          (errors_later others node (at + 1 + size inner) next))
          (later_than (given + 1 + length (forest_steps inner)) (omega arith));
    }

    pub errs_behind_node : Errs laid others node (at + 1 + size inner) (error + length within) next
    errs_behind_node = record {
      front = errs.front ++ within;
      rest = errs.rest;
      errors = errors_are ∙ sym (append_assoc errs.front within (behind ++ errs.rest));
      error_is = omega (arith, length-append errs.front within, errs.error_is);
      later = later_than (next + length (forest_steps others)) (omega arith);
    }

  module _ (text : List ℕ) (pos : ℕ) (others : Forest) (errs : Errs laid (Error text pos others) node at error given) where
    abbrev first : TreeError
    first = record { msg = text; pos = pos; node = node; next = at; step = given }

    abbrev after : List TreeError
    after = errors_of others node at (given + 1) ++ errs.rest

    errors_below : error < length laid.errors
    errors_below = omega (arith, ap length errs.errors, length-append errs.front (first ∷ after), errs.error_is)

    pub error_here : error_in laid error ≡ first
    error_here =
        ap (λ l. get_or l error blank_error) errs.errors
        ∙ get_or_at errs.front first after blank_error error errs.error_is

    pub has_error_here : has_error laid error given ≡ true
    has_error_here =
        cond-true (nat_lt error (length laid.errors)) (eqb (error_in laid error).step given) false (lt-ltb error (length laid.errors) errors_below)
        ∙ eq-eqb (error_in laid error).step given (ap (λ e. e.step) error_here)

    pub errs_behind_error : Errs laid others node at (error + 1) (given + 1)
    errs_behind_error = record {
      front = errs.front ++ first ∷ [];
      rest = errs.rest;
      errors = errs.errors ∙ sym (append_assoc errs.front (first ∷ []) after);
      error_is = omega (arith, length-append errs.front (first ∷ []), errs.error_is);
      later =
          All-weaker (λ e. given + suc (length (forest_steps others)) ≤ e.step) (λ e. given + 1 + length (forest_steps others) ≤ e.step)
          (λ e later. omega (arith, later)) errs.rest errs.later;
    }

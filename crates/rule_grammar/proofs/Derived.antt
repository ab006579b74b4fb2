-- From part to part: what is derived by calls one after another.
use Rattle.std.specs.Prelude.{◌≡◌, ◌≢◌, ℕ, ◌+◌, ◌≤◌, Bool, true, false, Option, None, [], IsSome}
use Rattle.squawk_kinds.specs.Kinds.{EOF}
use Rattle.squawk_parser.specs.SomeSteps.{AddsSome}
use Rattle.std.proofs.Common.{arith, sym, subst, ap, inl, inr, ◌∙◌, ◌⊎◌}
use Rattle.std.proofs.Math.Dec.{eqb}
use Rattle.std.proofs.lemmas.Bool.Decides.{eqb_tells}
use Rattle.squawk_parser.specs.State.{State, Keeps, kind_at}
use Rattle.rule_grammar.specs.declared.table.Table.{Table}
use Rattle.rule_grammar.specs.Derivations.{Text, text_of, Span, Derives, Derived, EatsKind, IfClean, IsEnd, IsOnly, IsSeparated, is_silent, kind_of, next_of}
use Rattle.rule_grammar.specs.Derivations.IsEnd.{itself, before_kind}
use Rattle.rule_grammar.specs.Derivations.IsOnly.{after_silent, alone}
use Rattle.rule_grammar.specs.Derivations.Derives.{none, more, all, silent, token, composite, next}
use Rattle.rule_grammar.specs.Derivations.Span.{block, items, rows, single}
use Rattle.rule_grammar.specs.Parts.{part_at}
use Rattle.rule_grammar.specs.declared.part.Part.TheVariants.{Token}

pub some_then : {a b c : State} → AddsSome a b → AddsSome b c → AddsSome a c
some_then {a} p q = record {
  some = q.behind [] [] a p.some;
  behind = λ first opened begun h. q.behind first opened begun (p.behind first opened begun h);
}

-- a parser that goes on has the same text
pub same_text : (table : Table) {a b : State} → Keeps a b → text_of table b ≡ text_of table a
same_text table {a} {b} keeps =
    ap (λ w. record { rows = table.rows.now; sets = table.sets.now; hidden = table.hidden.tokens.now; words = w; input = b.input; limit = b.limit }) keeps.words
    ∙ (ap (λ i. record { rows = table.rows.now; sets = table.sets.now; hidden = table.hidden.tokens.now; words = a.words; input = i; limit = b.limit }) keeps.input
    ∙ ap (λ l. record { rows = table.rows.now; sets = table.sets.now; hidden = table.hidden.tokens.now; words = a.words; input = a.input; limit = l }) keeps.limit)

pub moved : (table : Table) {a b : State} {span : Span} {t u : Option ℕ} {i j : ℕ} → Keeps a b
    → Derived (text_of table b) span t u i j → Derived (text_of table a) span t u i j
moved table {a} {b} {span} {t} {u} {i} {j} keeps d = subst (λ (x : Text). Derived x span t u i j) (same_text table keeps) d

-- the tokens of a kind
pub of_kind : (table : Table) (a b : State) {k kind : ℕ} → part_at table.rows.now k ≡ Token kind → EatsKind table kind a b
    → Derives (text_of table a) (single k) a.position b.position
of_kind table a b {k} is (inl eats) = subst (λ (m : ℕ). Derives (text_of table a) (single k) a.position m) (sym eats.1) (token is eats.0)
of_kind table a b {k} is (inr eats) = subst (λ (m : ℕ). Derives (text_of table a) (single k) a.position m) (sym eats.2) (composite is eats.0 eats.1)

-- a list goes on
pub one_more : (table : Table) (a b c d e : State) {start end separator : ℕ} {goes_on : Bool} {t u v w : Option ℕ} → Keeps a c → Keeps a d
    → Derived (text_of table a) (items start end separator) t u a.position b.position
    → IfClean u v (IsSeparated table separator goes_on b c) → goes_on ≡ true
    → (kind_at c 0 ≡ separator → kind_at c 0 ≢ EOF → d.position ≡ c.position + 1)
    → Derived (text_of table d) (block start end) v w d.position e.position
    → Derived (text_of table a) (items start end separator) t w a.position e.position
one_more table a b c d e {start} {end} {separator} keeps_c keeps_d so_far seen goes_on ate took = record {
  clean = λ n. so_far.clean (seen.clean (took.clean n));
  derives = λ n.
      let separated = seen.holds (took.clean n) in
      let is = separated.1 goes_on in
      let here : kind_of (text_of table a) b.position ≡ separator = subst (λ (k : ℕ). kind_of (text_of table a) k ≡ separator) separated.0
      (subst (λ (x : Text). kind_of x c.position ≡ separator) (same_text table keeps_c) is.0) in
      let behind : d.position ≡ b.position + 1 = ate is.1 is.2 ∙ ap (λ k. k + 1) separated.0 in
      let item : Derives (text_of table a) (block start end) d.position e.position =
      subst (λ (x : Text). Derives x (block start end) d.position e.position) (same_text table keeps_d) (took.derives n) in
      next (so_far.derives (seen.clean (took.clean n))) here (subst (λ (k : ℕ). Derives (text_of table a) (block start end) k e.position) behind item);
}

is_none : {u : Option ℕ} → IsSome u → u ≡ None → ⊥
is_none is n = let bad : false ≡ true = subst IsSome n is in cc

module _ {x : Text} where
  -- one part is another
  pub as_part : {p q : Span} {t u : Option ℕ} {i j : ℕ} → Derived x p t u i j → (Derives x p i j → Derives x q i j) → Derived x q t u i j
  as_part d f = record { clean = d.clean; derives = λ n. f (d.derives n) }

  -- two parts are another
  pub both_parts : {p q r : Span} {t u v : Option ℕ} {i j k m : ℕ} → Derived x p t u i j → Derived x q u v k m
      → (Derives x p i j → Derives x q k m → Derives x r i m) → Derived x r t v i m
  both_parts d e f = record { clean = λ n. d.clean (e.clean n); derives = λ n. f (d.derives (e.clean n)) (e.derives n) }

  -- where nothing was told in between
  pub from_place : {p : Span} {t u v : Option ℕ} {i j : ℕ} → u ≡ t → Derived x p u v i j → Derived x p t v i j
  from_place {p} {t} {u} {v} {i} {j} same d = subst (λ (w : Option ℕ). Derived x p w v i j) same d

  -- nothing is told
  pub quiet : {p : Span} {t : Option ℕ} {i j : ℕ} → Derives x p i j → Derived x p t t i j
  quiet d = record { clean = λ n. n; derives = λ _. d }

  -- an error is told
  pub told : {p : Span} {t u : Option ℕ} {i j : ℕ} → IsSome u → Derived x p t u i j
  told is = record { clean = λ n. absurd (is_none is n); derives = λ n. absurd (is_none is n) }

  -- an error was told before
  pub after_error : {y : Text} {p q : Span} {t u v : Option ℕ} {i j k m : ℕ} → IsSome u → Derived y p u v i j → Derived x q t v k m
  after_error is d = record { clean = λ n. absurd (is_none is (d.clean n)); derives = λ n. absurd (is_none is (d.clean n)) }

  -- what is eaten is known
  pub known : {p : Span} {t u : Option ℕ} {fact : Type 0} {i j : ℕ} → IfClean t u fact → (fact → Derives x p i j) → Derived x p t u i j
  known d f = record { clean = d.clean; derives = λ n. f (d.holds n) }

  -- and then nothing is eaten
  pub still : {p : Span} {t u v : Option ℕ} {i j m : ℕ} → Derived x p t u i j → IfClean u v (m ≡ j) → Derived x p t v i m
  still {p} {t} {u} {v} {i} d e = record { clean = λ n. d.clean (e.clean n); derives = λ n. subst (λ (k : ℕ). Derives x p i k) (sym (e.holds n)) (d.derives (e.clean n)) }

  -- before it nothing is eaten
  pub still_before : {p : Span} {t u v : Option ℕ} {i j m : ℕ} → IfClean t u (j ≡ i) → Derived x p u v j m → Derived x p t v i m
  still_before {p} {t} {u} {v} {i} {j} {m} e d = record {
    clean = λ n. e.clean (d.clean n);
    derives = λ n. subst (λ (k : ℕ). Derives x p k m) (e.holds (d.clean n)) (d.derives n);
  }

  -- one part is all that is in some rows
  pub alone_in : {k end : ℕ} {t u : Option ℕ} {i j : ℕ} → Derived x (single k) t u i j → end ≤ next_of k (part_at x.rows k) → Derived x (block k end) t u i j
  alone_in d to = as_part d (λ one. all to (more none one))

  -- also without a part at the end that names a kind
  up_to : {start to end i j : ℕ} → IsEnd x.rows to end → Derives x (block start to) i j → Derives x (block start end) i j
  up_to itself d = d
  up_to {start} {to} {i = i} {j = j} (before_kind is) (all {k = k} le d) = at_end (eqb_tells to k)
    where
      at_end : ((eqb to k ≡ true) × (to ≡ k)) ⊎ ((eqb to k ≡ false) × (to ≢ k)) → Derives x (block start (to + 1)) i j
      at_end (inl here) =
          let n : next_of to (part_at x.rows to) ≡ to + 1 = ap (next_of to) is in
          all (omega (arith, n)) (more (subst (λ (m : ℕ). Derives x (rows start m) i j) (sym here.1) d) (silent (ap is_silent is)))
      at_end (inr later) = all (omega (arith, le, later.1)) d

  pub to_end : {k to end : ℕ} {t u : Option ℕ} {i j : ℕ} → IsEnd x.rows to end → Derived x (block k to) t u i j → Derived x (block k end) t u i j
  to_end is d = as_part d (λ e. up_to is e)

  -- also after a part that eats nothing
  pub only_in : {start end k i j : ℕ} → IsOnly x.rows start end k → Derives x (single k) i j → Derives x (block start end) i j
  only_in (alone to) d = all to (more none d)
  only_in (after_silent is to) d = all to (more (more none (silent is)) d)

-- What holds of a row by what it isn't.
use Rattle.std.proofs.Common.{◌≡◌, ℕ, false, true, List, Option, Some, refl}
use Rattle.squawk_kinds.specs.declared.token_set.TokenSet.{TokenSet}
use Rattle.rule_grammar.specs.declared.part.Part.{Part}
use Rattle.rule_grammar.specs.declared.part.Part.TheVariants.{Token, Word, Class, Name, Choice, Arm, Optional, Repeat, List as Items, Operators, Tail, Some as Once}
use Rattle.rule_tables.specs.Places.{IsUndecidedRow, Leaves, Plan, EndsWay, Exits, GoesOnIn, Returns, Enters, is_token_row, outer_of, row_eats, separates}
use Rattle.rule_tables.specs.declared.place.Place.{Place}
use Rattle.rule_tables.specs.declared.place.Place.TheVariants.{After}

pub row_eats-other : (sets : List TokenSet) (part : Part) (kind : ℕ) → ((k : ℕ) → part ≡ Token k → ⊥) → ((set : ℕ) → part ≡ Word set → ⊥) → ((set : ℕ) → part ≡ Class set → ⊥) → ((renamed set : ℕ) → part ≡ Name renamed set → ⊥)
    → row_eats sets (Some part) kind ≡ false
row_eats-other sets (Token k) kind no_token no_word no_class no_name = absurd (no_token k refl)
row_eats-other sets (Word set) kind no_token no_word no_class no_name = absurd (no_word set refl)
row_eats-other sets (Class set) kind no_token no_word no_class no_name = absurd (no_class set refl)
row_eats-other sets (Name renamed set) kind no_token no_word no_class no_name = absurd (no_name renamed set refl)
row_eats-other sets part kind no_token no_word no_class no_name = refl

pub separates-other : (part : Part) (kind : ℕ) → ((end one : ℕ) → part ≡ Items end one → ⊥) → separates (Some part) kind ≡ false
separates-other (Items end one) kind no_list = absurd (no_list end one refl)
separates-other part kind no_list = refl

-- a row that eats a token goes nowhere without
pub row_eats-token : (sets : List TokenSet) (row : Option Part) (kind : ℕ) → row_eats sets row kind ≡ true → is_token_row row ≡ true
row_eats-token sets (Some (Token k)) kind e = refl
row_eats-token sets (Some (Word set)) kind e = refl
row_eats-token sets (Some (Class set)) kind e = refl
row_eats-token sets (Some (Name renamed set)) kind e = refl
row_eats-token sets row kind e = absurd cc

pub token-no_move : (rows : List Part) (k : ℕ) (row : Option Part) (q : Place) → is_token_row row ≡ true → Enters rows k row q → ⊥
token-no_move rows k (Some (Token kind)) q e moves = moves
token-no_move rows k (Some (Word set)) q e moves = moves
token-no_move rows k (Some (Class set)) q e moves = moves
token-no_move rows k (Some (Name renamed set)) q e moves = moves
token-no_move rows k row q e moves = cc

pub leaves-other : (rows : List Part) (k : ℕ) (part : Part) → ((end : ℕ) → part ≡ Repeat end → ⊥) → ((end : ℕ) → part ≡ Once end → ⊥) → ((end one : ℕ) → part ≡ Items end one → ⊥)
    → (q : Place) → (q ≡ After k → Leaves rows k (Some part) q) × (Leaves rows k (Some part) q → q ≡ After k)
leaves-other rows k (Repeat end) no_repeat no_some no_list q = absurd (no_repeat end refl)
leaves-other rows k (Once end) no_repeat no_some no_list q = absurd (no_some end refl)
leaves-other rows k (Items end one) no_repeat no_some no_list q = absurd (no_list end one refl)
leaves-other rows k part no_repeat no_some no_list q = (λ e. e, λ e. e)

pub exits-other : (plan : Plan) (k : ℕ) (part : Part) → ((end : ℕ) → part ≡ Arm end → ⊥) → ((end level top : ℕ) → part ≡ Tail end level top → ⊥)
    → (q : Place) → (GoesOnIn plan.rows k (outer_of plan.rows k) q → Exits plan k (Some part) q) × (Exits plan k (Some part) q → GoesOnIn plan.rows k (outer_of plan.rows k) q)
exits-other plan k (Arm end) no_arm no_tail q = absurd (no_arm end refl)
exits-other plan k (Tail end level top) no_arm no_tail q = absurd (no_tail end level top refl)
exits-other plan k part no_arm no_tail q = (λ e. e, λ e. e)

pub ends-other : (plan : Plan) (k o : ℕ) (part : Part) → ((end : ℕ) → part ≡ Choice end → ⊥) → ((end : ℕ) → part ≡ Operators end → ⊥)
    → (q : Place) → (Returns plan k q → EndsWay plan k o (Some part) q) × (EndsWay plan k o (Some part) q → Returns plan k q)
ends-other plan k o (Choice end) no_choice no_operators q = absurd (no_choice end refl)
ends-other plan k o (Operators end) no_choice no_operators q = absurd (no_operators end refl)
ends-other plan k o part no_choice no_operators q = (λ e. e, λ e. e)

pub decided-other : (plan : Plan) (k : ℕ) (part : Part) → ((end : ℕ) → part ≡ Arm end → ⊥) → ((end level top : ℕ) → part ≡ Tail end level top → ⊥) → ((end : ℕ) → part ≡ Optional end → ⊥) → ((end : ℕ) → part ≡ Repeat end → ⊥)
    → ((end : ℕ) → part ≡ Once end → ⊥) → ((end one : ℕ) → part ≡ Items end one → ⊥) → IsUndecidedRow plan k (Some part) → ⊥
decided-other plan k (Arm end) no_arm no_tail no_optional no_repeat no_some no_list undecided = no_arm end refl
decided-other plan k (Tail end level top) no_arm no_tail no_optional no_repeat no_some no_list undecided = no_tail end level top refl
decided-other plan k (Optional end) no_arm no_tail no_optional no_repeat no_some no_list undecided = no_optional end refl
decided-other plan k (Repeat end) no_arm no_tail no_optional no_repeat no_some no_list undecided = no_repeat end refl
decided-other plan k (Once end) no_arm no_tail no_optional no_repeat no_some no_list undecided = no_some end refl
decided-other plan k (Items end one) no_arm no_tail no_optional no_repeat no_some no_list undecided = no_list end one refl
decided-other plan k part no_arm no_tail no_optional no_repeat no_some no_list undecided = undecided.such

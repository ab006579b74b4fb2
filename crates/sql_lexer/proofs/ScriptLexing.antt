-- A lexer goes on from one token to the next, up to the end of a statement.
use Rattle.std.proofs.Common.{◌≡◌, ◌∙◌, ℕ, ◌+◌, ◌-◌, ◌<◌, ◌≤◌, ◌&&◌, Bool, true, false, List, [], ◌∷◌, ◌++◌, length, take, drop, append_assoc, if◌then◌else◌, length-append, length-drop, arith, ap, refl, sym, subst}
use Rattle.std.specs.Prelude.{IsCharBoundary, Ok, slice_range, sum_by}
use Rattle.std.proofs.lemmas.Bool.{and_parts}
use Rattle.std.proofs.lemmas.List.{drop-append-le, append-nil, drop-drop, drop_all, take_rest}
use Rattle.std.proofs.lemmas.List.Sums.{sum_by-append, sum_by-cons}
use Rattle.std.proofs.lemmas.Str.{IsUtf8-drop}
use Rattle.squawk_tokens.specs.declared.token.Token.{Token}
use Rattle.sql_lexer.specs.declared.script.places.Place.{Place}
use Rattle.sql_lexer.specs.declared.script.places.Place.TheVariants.{Front, Sql, Data}
use Rattle.sql_lexer.specs.declared.statements.Statement.{Statement}
use Rattle.sql_lexer.specs.declared.statements.Word.{Word}
use Rattle.sql_lexer.specs.Pushes.{Pushes}
use Rattle.sql_lexer.specs.ScriptEnds.{statement_at, word_at, words_from}
use Rattle.sql_lexer.specs.Lines.{EndsLine}
use Rattle.sql_lexer.specs.ScriptLexing.{Cuts, EndsLast, IsLexing, Lexing, longer, next_statement, place_after, signs_from, signs_left, tokens_left, up_to_sign}
use Rattle.sql_lexer.specs.ScriptPlaces.{HasRoom, IsRest, may_end, reach_of, unclosed_at, waiting_at}
use Rattle.sql_lexer.specs.Scripts.{place_behind, token_at}
use Rattle.sql_lexer.specs.ScriptWords.{plain_word}
use Rattle.sql_lexer.specs.StatementEnds.{LeadTo}
use Rattle.sql_lexer.specs.Statements.{after, ends_with, goes_on, is_start}
use Rattle.sql_lexer.proofs.CutTokens.{cut_at, cut_first, cut_from, left_at}
use Rattle.sql_lexer.proofs.EndsLemmas.{after-token}
use Rattle.sql_lexer.proofs.ScriptPlaces.{most_at, script, waits_at}
use Rattle.sql_lexer.proofs.StatementSigns.{ends_at, signs-first}
use Rattle.sql_lexer.proofs.lines.Agrees.{ends_drop}
use Rattle.sql_lexer.proofs.lines.Places.{same_at}

-- ---- the loop that cuts a statement

-- how many bytes tokens have
abbrev bytes : List Token → ℕ
bytes tokens = sum_by (λ (t : Token). t.len) tokens

bytes-last : (tokens : List Token) (t : Token) → bytes (tokens ++ t ∷ []) ≡ bytes tokens + t.len
bytes-last tokens t = omega (arith, sum_by-append (λ (t : Token). t.len) tokens (t ∷ []), sum_by-cons (λ (t : Token). t.len) t [])

words-last : (text : List ℕ) (at : ℕ) (tokens : List Token) (t : Token)
    → words_from text at (tokens ++ t ∷ []) ≡ words_from text at tokens ++ plain_word t.kind (slice_range text (at + bytes tokens) (at + bytes tokens + t.len)) ∷ []
words-last text at [] t = ap (λ n. plain_word t.kind (slice_range text n (n + t.len)) ∷ []) (omega arith)
words-last text at (x ∷ tokens) t =
    let end : at + x.len + bytes tokens ≡ at + bytes (x ∷ tokens) = omega (arith, sum_by-cons (λ (t : Token). t.len) x tokens) in
    ap (λ words. plain_word x.kind (slice_range text at (at + x.len)) ∷ words) (words-last text (at + x.len) tokens t)
    ∙ ap (λ n. words_from text at (x ∷ tokens) ++ plain_word t.kind (slice_range text n (n + t.len)) ∷ []) end

leads-last : (a b : Statement) (words : List Word) (word : Word) → LeadTo a words b → ends_with b word ≡ false → LeadTo a (words ++ word ∷ []) (after b word)
leads-last a b [] word leads e = subst (λ s. (ends_with s word ≡ false) × (after s word ≡ after b word)) (sym leads) (e, refl)
leads-last a b (x ∷ words) word leads e = (leads.0, leads-last (after a x) b words word leads.1 e)

ends-last : (a b : Statement) (words : List Word) (word : Word) → LeadTo a words b → ends_with b word ≡ true → EndsLast a (words ++ word ∷ [])
ends-last a b [] word leads e = subst (λ s. ends_with s word ≡ true) (sym leads) e
ends-last a b (x ∷ []) word leads e = (leads.0, subst (λ s. ends_with s word ≡ true) (sym leads.1) e)
ends-last a b (x ∷ y ∷ words) word leads e = (leads.0, ends-last (after a x) b (y ∷ words) word leads.1 e)

-- these tokens are cut, and the statement goes on
pub record Cutting (begun now : Lexing) (cut : List Token) : Type 0 where
  pub text : now.text ≡ begun.text
  pub from : begun.at ≤ now.at
  pub left : cut ++ tokens_left now ≡ tokens_left begun
  pub signs : drop (length cut) (signs_left begun) ≡ signs_left now
  pub at : now.at ≡ begun.at + bytes cut
  pub place : now.place ≡ place_after cut begun.place (drop begun.at begun.text)
  pub leads : LeadTo (statement_at begun.place) (words_from begun.text begun.at cut) (statement_at now.place)
  pub statement : cut ++ next_statement now ≡ next_statement begun

-- where lines follow a text that ends a line, and some of it is left
abbrev pub OfLonger : Lexing → Lexing → (Lexing → Lexing → Type 0) → Type 0
OfLonger begun now P = EndsLine begun.text → now.at < length begun.text → (rest : List ℕ) → P (longer rest begun) (longer rest now)

-- tokens were added to a list, and the statement goes on
pub record HasCut (begun now : Lexing) (old tokens : List Token) : Type 0 where
  pub is : IsLexing now
  pub cut : List Token
  pub grown : tokens ≡ old ++ cut
  pub cutting : Cutting begun now cut
  pub longer : OfLonger begun now (λ begun now. Cutting begun now cut)

-- the statement is cut
pub record HasCutAll (begun now : Lexing) (old tokens : List Token) : Type 0 where
  pub is : IsLexing now
  pub text : now.text ≡ begun.text
  pub cuts : Cuts begun now old tokens
  pub longer : OfLonger begun now (λ begun now. Cuts begun now old tokens)

cuts_none : (l : Lexing) → Cutting l l []
cuts_none l = record {
  text = refl;
  from = omega arith;
  left = refl;
  signs = refl;
  at = omega arith;
  place = refl;
  leads = refl;
  statement = refl;
}

pub has_cut_none : (l : Lexing) (tokens : List Token) → IsLexing l → HasCut l l tokens tokens
has_cut_none l tokens is = record {
  is = is;
  cut = [];
  grown = sym (append-nil tokens);
  cutting = cuts_none l;
  longer = λ ends lt rest. cuts_none (longer rest l);
}

pub cut_to_end : (begun now : Lexing) (old tokens : List Token) → HasCut begun now old tokens → length now.text ≤ now.at → HasCutAll begun now old tokens
cut_to_end begun now old tokens has le =
    let cutting = has.cutting in
    let none : next_statement now ≡ [] = ap (λ rest. take (up_to_sign (signs_from now.place 0 rest)) (cut_from script now.place rest)) (drop_all now.at now.text le) in
    let all : has.cut ≡ next_statement begun = sym (append-nil has.cut) ∙ (ap (λ ts. has.cut ++ ts) (sym none) ∙ cutting.statement) in
    record {
      is = has.is;
      text = cutting.text;
      cuts = record {
        goes_on = λ lt. omega (arith, ap length cutting.text);
        tokens = has.grown ∙ ap (λ ts. old ++ ts) all;
        left = sym cutting.left ∙ ap (λ ts. ts ++ tokens_left now) all;
        signs = ap (λ ts. drop (length ts) (signs_left begun)) (sym all) ∙ cutting.signs;
        at = cutting.at ∙ ap (λ ts. begun.at + bytes ts) all;
        place = cutting.place ∙ ap (λ ts. place_after ts begun.place (drop begun.at begun.text)) all;
        ends = λ lt. absurd (omega (arith, lt, le, ap length cutting.text));
        begins = λ lt. absurd (omega (arith, lt, le, ap length cutting.text));
      };
      longer = λ ends lt. absurd (omega (arith, lt, le, ap length cutting.text));
    }

take-cond : {A : Type 0} (b : Bool) (n : ℕ) (xs : List A) → take (if b then 0 else n) xs ≡ (if b then [] else take n xs)
take-cond true n xs = refl
take-cond false n xs = refl

-- the lexer after a token
abbrev pub after_token : Lexing → Token → Place → Lexing
after_token now found next = record { text = now.text; at = now.at + found.len; place = next }

place-last : (cut : List Token) (t : Token) (place : Place) (text : List ℕ)
    → place_after (cut ++ t ∷ []) place text ≡ place_behind (place_after cut place text) (drop (bytes cut) text)
place-last [] t place text = refl
place-last (x ∷ cut) t place text =
    let size : bytes cut + x.len ≡ bytes (x ∷ cut) = omega (arith, sum_by-cons (λ (t : Token). t.len) x cut) in
    place-last cut t (place_behind place text) (drop x.len text)
    ∙ ap (place_behind (place_after (x ∷ cut) place text)) (drop-drop (bytes cut) x.len text ∙ ap (λ n. drop n text) (omega (arith, size)))

-- a token more is cut
record Moves (begun now : Lexing) (cut : List Token) (found : Token) (next : Place) : Type 0 where
  goes_on : (may_end found.kind && is_start (statement_at next)) ≡ false → Cutting begun (after_token now found next) (cut ++ found ∷ [])
  ends : (may_end found.kind && is_start (statement_at next)) ≡ true → (old : List Token) → Cuts begun (after_token now found next) old (old ++ (cut ++ found ∷ []))

moves : (begun now : Lexing) (cut : List Token) → Cutting begun now cut → now.at < length now.text → 0 < (token_at now.place (drop now.at now.text)).len
    → Moves begun now cut (token_at now.place (drop now.at now.text)) (place_behind now.place (drop now.at now.text))
moves begun now cut has lt nonempty =
    let rest = drop now.at now.text in
    let found = token_at now.place rest in
    let next = place_behind now.place rest in
    let some : 0 < length rest = omega (arith, length-drop now.at now.text, lt) in
    let later = after_token now found next in
    let first_now : tokens_left now ≡ found ∷ tokens_left later =
    cut_first script now.place rest some nonempty ∙ ap (λ ts. found ∷ cut_from script next ts) (drop-drop found.len now.at now.text) in
    let left : (cut ++ found ∷ []) ++ tokens_left later ≡ tokens_left begun =
    append_assoc cut (found ∷ []) (tokens_left later) ∙ (ap (λ ts. cut ++ ts) (sym first_now) ∙ has.left) in
    let signs_now : (b : Bool) → (may_end found.kind && is_start (statement_at next)) ≡ b → signs_left now ≡ b ∷ signs_left later =
    λ b e.
    signs-first now.place rest some nonempty
    ∙ (ap (λ ts. ends_with (statement_at now.place) (word_at now.place rest) ∷ signs_from next 0 ts) (drop-drop found.len now.at now.text)
    ∙ ap (λ ends. ends ∷ signs_left later) (ends_at now.place rest ∙ e)) in
    let first : (b : Bool) → (may_end found.kind && is_start (statement_at next)) ≡ b → next_statement now ≡ found ∷ (if b then [] else next_statement later) =
    λ b e.
    ap (λ signs. take (up_to_sign signs) (tokens_left now)) (signs_now b e)
    ∙ (ap (take (up_to_sign (b ∷ signs_left later))) first_now
    ∙ ap (λ ts. found ∷ ts) (take-cond b (up_to_sign (signs_left later)) (tokens_left later))) in
    let signs : (b : Bool) → (may_end found.kind && is_start (statement_at next)) ≡ b → drop (length (cut ++ found ∷ [])) (signs_left begun) ≡ signs_left later =
    λ b e.
    ap (λ n. drop n (signs_left begun)) (length-append cut (found ∷ []))
    ∙ (sym (drop-drop 1 (length cut) (signs_left begun))
    ∙ (ap (drop 1) has.signs ∙ ap (drop 1) (signs_now b e))) in
    let at : now.at + found.len ≡ begun.at + bytes (cut ++ found ∷ []) = omega (arith, has.at, bytes-last cut found) in
    let stands : drop now.at now.text ≡ drop (bytes cut) (drop begun.at begun.text) =
    ap (λ text. drop now.at text) has.text ∙ (ap (λ n. drop n begun.text) has.at ∙ sym (drop-drop (bytes cut) begun.at begun.text)) in
    let place : next ≡ place_after (cut ++ found ∷ []) begun.place (drop begun.at begun.text) =
    ap (λ p. place_behind p rest) has.place
    ∙ (ap (place_behind (place_after cut begun.place (drop begun.at begun.text))) stands ∙ sym (place-last cut found begun.place (drop begun.at begun.text))) in
    let len : now.at + found.len - now.at ≡ found.len = omega arith in
    let word : plain_word found.kind (slice_range begun.text (begun.at + bytes cut) (begun.at + bytes cut + found.len)) ≡ word_at now.place rest =
    ap (λ n. plain_word found.kind (slice_range begun.text n (n + found.len))) (sym has.at)
    ∙ (ap (λ text. plain_word found.kind (slice_range text now.at (now.at + found.len))) (sym has.text) ∙ ap (λ n. plain_word found.kind (take n rest)) len) in
    let words : words_from begun.text begun.at (cut ++ found ∷ []) ≡ words_from begun.text begun.at cut ++ word_at now.place rest ∷ [] =
    words-last begun.text begun.at cut found ∙ ap (λ w. words_from begun.text begun.at cut ++ w ∷ []) word in
    record {
      goes_on = λ e. record {
        text = has.text;
        from = omega (arith, has.from);
        left = left;
        signs = signs false e;
        at = at;
        place = place;
        leads = subst (λ ws. LeadTo (statement_at begun.place) ws (statement_at next)) (sym words)
            (subst (λ s. LeadTo (statement_at begun.place) (words_from begun.text begun.at cut ++ word_at now.place rest ∷ []) s) (sym (after-token now.place rest))
            (leads-last (statement_at begun.place) (statement_at now.place) (words_from begun.text begun.at cut) (word_at now.place rest) has.leads (ends_at now.place rest ∙ e)));
        statement = append_assoc cut (found ∷ []) (next_statement later) ∙ (ap (λ ts. cut ++ ts) (sym (first false e)) ∙ has.statement);
      };
      ends = λ e old.
          let all : cut ++ found ∷ [] ≡ next_statement begun = ap (λ ts. cut ++ ts) (sym (first true e)) ∙ has.statement in
          record {
            goes_on = λ l. omega (arith, has.from, nonempty);
            tokens = ap (λ ts. old ++ ts) all;
            left = sym left ∙ ap (λ ts. ts ++ tokens_left later) all;
            signs = ap (λ ts. drop (length ts) (signs_left begun)) (sym all) ∙ signs true e;
            at = at ∙ ap (λ ts. begun.at + bytes ts) all;
            place = place ∙ ap (λ ts. place_after ts begun.place (drop begun.at begun.text)) all;
            ends = λ lt.
                subst (λ ts. EndsLast (statement_at begun.place) (words_from begun.text begun.at ts)) all
                (subst (EndsLast (statement_at begun.place)) (sym words)
                (ends-last (statement_at begun.place) (statement_at now.place) (words_from begun.text begun.at cut) (word_at now.place rest) has.leads (ends_at now.place rest ∙ e)));
            begins = λ lt. (and_parts (may_end found.kind) (is_start (statement_at next)) e).1;
          };
    }

-- the same token is cut where the text goes on
same_move : (begun now : Lexing) (cut : List Token) (rest : List ℕ) → Cutting (longer rest begun) (longer rest now) cut → IsLexing now → EndsLine now.text
    → now.at < length now.text → 0 < (token_at now.place (drop now.at now.text)).len → now.at + (token_at now.place (drop now.at now.text)).len < length now.text
    → Moves (longer rest begun) (longer rest now) cut (token_at now.place (drop now.at now.text)) (place_behind now.place (drop now.at now.text))
same_move begun now cut rest has is ends lt nonempty within =
    let here = drop now.at now.text in
    let left : drop now.at (now.text ++ rest) ≡ here ++ rest = drop-append-le now.at now.text rest (omega (arith, lt)) in
    let same = same_at now.place here rest (ends_drop now.at now.text ends lt) is.reach.0 (omega (arith, within, length-drop now.at now.text)) in
    let token : token_at now.place (drop now.at (now.text ++ rest)) ≡ token_at now.place here = ap (token_at now.place) left ∙ same.token in
    let next : place_behind now.place (drop now.at (now.text ++ rest)) ≡ place_behind now.place here = ap (place_behind now.place) left ∙ same.next in
    subst (λ p. Moves (longer rest begun) (longer rest now) cut (token_at now.place here) p) next
    (subst (λ t. Moves (longer rest begun) (longer rest now) cut t (place_behind now.place (drop now.at (now.text ++ rest)))) token
    (moves (longer rest begun) (longer rest now) cut has (omega (arith, length-append now.text rest, lt)) (omega (arith, ap (λ (t : Token). t.len) token, nonempty))))

-- the token at a place is added
pub record HasMoved (begun now : Lexing) (old more : List Token) (found : Token) (next : Place) : Type 0 where
  pub some : 0 < found.len
  pub within : now.at + found.len ≤ length now.text
  pub goes_on : (may_end found.kind && is_start (statement_at next)) ≡ false → HasCut begun (after_token now found next) old more
  pub ends : (may_end found.kind && is_start (statement_at next)) ≡ true → HasCutAll begun (after_token now found next) old more

step : (begun now : Lexing) (old tokens : List Token) → HasCut begun now old tokens → now.at < length now.text
    → HasMoved begun now old (tokens ++ token_at now.place (drop now.at now.text) ∷ []) (token_at now.place (drop now.at now.text)) (place_behind now.place (drop now.at now.text))
step begun now old tokens has lt =
    let rest = drop now.at now.text in
    let found = token_at now.place rest in
    let next = place_behind now.place rest in
    let here = cut_at script now.place now.text now.at (record { utf8 = has.is.utf8; boundary = has.is.boundary; reach = has.is.reach }) lt in
    let later = after_token now found next in
    let is : IsLexing later = record {
      utf8 = has.is.utf8;
      short = has.is.short;
      boundary = here.good.boundary;
      reach = here.behind.reach;
      unclosed = omega (arith, most_at now.place rest, has.is.unclosed, here.good.nonempty);
      waits = omega (arith, waits_at now.place rest, has.is.waits, here.good.nonempty);
    } in
    let grown : tokens ++ found ∷ [] ≡ old ++ (has.cut ++ found ∷ []) = ap (λ ts. ts ++ found ∷ []) has.grown ∙ append_assoc old has.cut (found ∷ []) in
    let moved = moves begun now has.cut has.cutting lt here.good.nonempty in
    let of_longer : EndsLine begun.text → later.at < length begun.text → (others : List ℕ) → Moves (longer others begun) (longer others now) has.cut found next =
    λ ends within others.
    let same = ap length has.cutting.text in
    same_move begun now has.cut others (has.longer ends (omega (arith, within, here.good.nonempty)) others) has.is (subst EndsLine (sym has.cutting.text) ends) lt here.good.nonempty
    (omega (arith, within, same)) in
    record {
      some = here.good.nonempty;
      within = here.good.boundary.0;
      goes_on = λ e. record {
        is = is;
        cut = has.cut ++ found ∷ [];
        grown = grown;
        cutting = moved.goes_on e;
        longer = λ ends within others. (of_longer ends within others).goes_on e;
      };
      ends = λ e. record {
        is = is;
        text = has.cutting.text;
        cuts = subst (Cuts begun later old) (sym grown) (moved.ends e old);
        longer = λ ends within others. subst (Cuts (longer others begun) (longer others later) old) (sym grown) ((of_longer ends within others).ends e old);
      };
    }

pub moved : (begun now : Lexing) (old tokens more : List Token) (found : Token) (next : Place) → HasCut begun now old tokens → now.at < length now.text
    → Pushes tokens (token_at now.place (left_at now.text now.at)) more (Ok found) → next ≡ place_behind now.place (left_at now.text now.at)
    → HasMoved begun now old more found next
moved begun now old tokens more found next has lt (grown, same) goes_on =
    let rest = take_rest now.text now.at in
    let token = token_at now.place (drop now.at now.text) in
    let after = place_behind now.place (drop now.at now.text) in
    let long : found ≡ token = same ∙ ap (token_at now.place) rest in
    let grew : more ≡ tokens ++ token ∷ [] = grown ∙ ap (λ others. tokens ++ token_at now.place others ∷ []) rest in
    let later : next ≡ after = goes_on ∙ ap (place_behind now.place) rest in
    subst (λ f. HasMoved begun now old more f next) (sym long)
    (subst (λ p. HasMoved begun now old more token p) (sym later)
    (subst (λ ts. HasMoved begun now old ts token after) (sym grew) (step begun now old tokens has lt)))

-- ---- what `push_next` wants

pub rest_at : (l : Lexing) → IsLexing l → l.at < length l.text → IsRest (left_at l.text l.at)
rest_at l is lt =
    subst IsRest (sym (take_rest l.text l.at)) (record {
      some = omega (arith, length-drop l.at l.text);
      short = omega (arith, length-drop l.at l.text, is.short);
      utf8 = IsUtf8-drop l.text l.at is.utf8 is.boundary;
    })

room_in : (place : Place) (rest : List ℕ) (at : ℕ) → IsCharBoundary rest (reach_of place) → unclosed_at place ≤ at → waiting_at place ≤ 4294967295 + at → at < 4294967295
    → HasRoom place rest
room_in Front rest at reach unclosed waits short = tt
room_in (Sql statement) rest at reach unclosed waits short = omega (arith, unclosed)
room_in (Data left statement waiting) rest at reach unclosed waits short =
    record { boundary = reach; unclosed = omega (arith, unclosed); waits = omega (arith, waits) }

pub room_at : (l : Lexing) → IsLexing l → l.at < length l.text → HasRoom l.place (left_at l.text l.at)
room_at l is lt =
    subst (HasRoom l.place) (sym (take_rest l.text l.at)) (room_in l.place (drop l.at l.text) l.at is.reach is.unclosed is.waits (omega (arith, is.short)))

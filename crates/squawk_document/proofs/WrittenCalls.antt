-- Calls that are written are read back, and what is read as a call is written so.
use Rattle.std.proofs.Common.{◌≡◌, ℕ, List, [], ◌∷◌, cond, length, Ok, Err, refl, ap, sym, subst, ◌∙◌, arith}
use Rattle.std.specs.Prelude.{Result, IfErr, IfOk, MatchResult, Vec, codes}
use Rattle.std.specs.declared.alloc.Global.{Global}
use Rattle.serde_json.specs.Data.{Data}
use Rattle.squawk_script.specs.declared.call.Call.{Call}
use Rattle.squawk_script.specs.declared.call.Call.TheVariants.{Start, Complete, Abandon, Precede, ExtendTo, Eat, BumpAny, BumpRemap, Expect, Error, ErrRecover, ErrAndBump}
use Rattle.squawk_document.specs.declared.document_error.DocumentError.{DocumentError}
use Rattle.squawk_document.specs.declared.document_error.DocumentError.TheVariants.{Shape}
use Rattle.squawk_document.specs.Calls.{no_arguments, argument, call_in, call_named, calls_in, message_in}
use Rattle.squawk_document.specs.KindSets.{set_in}
use Rattle.squawk_document.specs.Values.{◌>>=◌, Gives, each, is_text, item_at, items_in, kind_number_in, string_in, u32_in, with_len}
use Rattle.squawk_document.specs.WrittenCalls.{AreCalls, AreNameAndFields, AreNoCalls, Field, IsCall, IsNoCall, IsField, OneForOne, fields_of_call, id_field, kind_field, kinds_field, message_field, name_of_call}
use Rattle.squawk_document.proofs.WrittenValues.{bound, by_number, by_text}

-- ---- what is written is read back

no_fields : {X P : Type 0} (Is : X → Data → Type 0) (ds : List Data) → OneForOne Is [] ds → (ds ≡ [] → P) → P
no_fields Is [] are go = go refl
no_fields Is (d ∷ ds) are go = absurd are

one_field : {X P : Type 0} (Is : X → Data → Type 0) (x : X) (ds : List Data) → OneForOne Is (x ∷ []) ds → ((d : Data) → ds ≡ d ∷ [] → Is x d → P) → P
one_field Is x [] are go = absurd are
one_field Is x (d ∷ []) are go = go d refl are.0
one_field Is x (d ∷ e ∷ ds) are go = absurd are.1

two_fields : {X P : Type 0} (Is : X → Data → Type 0) (x y : X) (ds : List Data) → OneForOne Is (x ∷ y ∷ []) ds
    → ((d e : Data) → ds ≡ d ∷ e ∷ [] → Is x d → Is y e → P) → P
two_fields Is x y [] are go = absurd are
two_fields Is x y (d ∷ ds) are go = one_field Is y ds are.1 (λ e is last. go d e (ap (λ ds. d ∷ ds) is) are.0 last)

-- a call of this name, where its fields stand behind it
named-ok : (call : Call) (name : Data) (ds : List Data) → OneForOne IsField (fields_of_call call) ds → call_named (name_of_call call) (name ∷ ds) ≡ Ok call
named-ok Start name ds are = no_fields IsField ds are (λ is. rw is refl)
named-ok BumpAny name ds are = no_fields IsField ds are (λ is. rw is refl)
named-ok (Abandon marker) name ds are = one_field IsField (id_field marker) ds are (λ d is reads. rw (is, reads) refl)
named-ok (Precede node) name ds are = one_field IsField (id_field node) ds are (λ d is reads. rw (is, reads) refl)
named-ok (Eat kind) name ds are = one_field IsField (kind_field kind) ds are (λ d is reads. rw (is, reads) refl)
named-ok (BumpRemap kind) name ds are = one_field IsField (kind_field kind) ds are (λ d is reads. rw (is, reads) refl)
named-ok (Expect kind) name ds are = one_field IsField (kind_field kind) ds are (λ d is reads. rw (is, reads) refl)
named-ok (Error message) name ds are = one_field IsField (message_field message) ds are (λ d is reads. rw (is, reads) refl)
named-ok (ErrAndBump message) name ds are = one_field IsField (message_field message) ds are (λ d is reads. rw (is, reads) refl)
named-ok (Complete marker kind) name ds are =
    two_fields IsField (id_field marker) (kind_field kind) ds are (λ d e is first second. rw (is, first, second) refl)
named-ok (ExtendTo node marker) name ds are =
    two_fields IsField (id_field node) (id_field marker) ds are (λ d e is first second. rw (is, first, second) refl)
named-ok (ErrRecover message recovery) name ds are =
    two_fields IsField (message_field message) (kinds_field recovery) ds are (λ d e is first second. rw (is, first, second) refl)

call-ok : (call : Call) (d : Data) → IsCall call d → call_in d ≡ Ok call
call-ok call d is = by_items (items_in d) is
  where
    by_items : (items : Result (List Data) DocumentError) → MatchResult items (AreNameAndFields call) (λ _. ⊥)
        → (items >>= λ ds. item_at ds 0 >>= string_in >>= λ name. call_named name ds) ≡ Ok call
    by_items (Ok []) are = absurd are
    by_items (Ok (name ∷ ds)) are = rw are.0 (named-ok call name ds are.1)
    by_items (Err e) are = absurd are

each-ok : (calls : List Call) (ds : List Data) → OneForOne IsCall calls ds → each call_in ds ≡ Ok calls
each-ok [] [] are = refl
each-ok [] (d ∷ ds) are = absurd are
each-ok (call ∷ calls) [] are = absurd are
each-ok (call ∷ calls) (d ∷ ds) are = rw (call-ok call d are.0, each-ok calls ds are.1) refl

calls-ok : (calls : List Call) (d : Data) → AreCalls calls d → calls_in d ≡ Ok calls
calls-ok calls d are = by_items (items_in d) are
  where
    by_items : (items : Result (List Data) DocumentError) → MatchResult items (OneForOne IsCall calls) (λ _. ⊥) → (items >>= each call_in) ≡ Ok calls
    by_items (Ok ds) are = each-ok calls ds are
    by_items (Err e) are = absurd are

-- ---- what is read is written so

-- a list that is read as one of n items
with_len-is : {P : Type 0} (n : ℕ) (ds es : List Data) → with_len n ds ≡ Ok es → (length ds ≡ n → ds ≡ es → P) → P
with_len-is n ds es reads go =
    by_number (length ds) n _ _ (Ok es) reads (λ same here. go same (let is : ds ≡ es = let p = here in cc in is)) (λ other. absurd (let p = other in cc))

len_one : (s : Data) (ds : List Data) → length (s ∷ ds) ≡ 1 → ds ≡ []
len_one s [] len = refl
len_one s (a ∷ ds) len = absurd (omega (arith, len))

len_two : {P : Type 0} (s : Data) (ds : List Data) → length (s ∷ ds) ≡ 2 → ((a : Data) → ds ≡ a ∷ [] → P) → P
len_two s [] len go = absurd (omega (arith, len))
len_two s (a ∷ []) len go = go a refl
len_two s (a ∷ b ∷ ds) len go = absurd (omega (arith, len))

len_three : {P : Type 0} (s : Data) (ds : List Data) → length (s ∷ ds) ≡ 3 → ((a b : Data) → ds ≡ a ∷ b ∷ [] → P) → P
len_three s [] len go = absurd (omega (arith, len))
len_three s (a ∷ []) len go = absurd (omega (arith, len))
len_three s (a ∷ b ∷ []) len go = go a b refl
len_three s (a ∷ b ∷ c ∷ ds) len go = absurd (omega (arith, len))

-- a name and fields are those of a call
abbrev IsWritten : List ℕ → List Data → Call → Type 0
IsWritten w ds call = (w ≡ name_of_call call) × OneForOne IsField (fields_of_call call) ds

module _ (w : List ℕ) (s : Data) (ds : List Data) (call : Call) where
  abbrev Others : Result Call DocumentError → Type 0
  Others other = other ≡ Ok call → IsWritten w ds call

  -- a call without fields, or what is read where the name is another
  none : (one : Call) {other : Result Call DocumentError} → fields_of_call one ≡ [] → Others other → Others (cond (is_text w (name_of_call one)) (no_arguments (s ∷ ds) one) other)
  none one {other = other} fields go reads =
      by_text w (name_of_call one) (no_arguments (s ∷ ds) one) other (Ok call) reads
      (λ is here. bound (with_len 1 (s ∷ ds)) (λ _. Ok one) call here (λ es fits made. with_len-is 1 (s ∷ ds) es fits (λ len same.
      let call_is : one ≡ call = let p = made in cc in
      subst (IsWritten w ds) call_is (is, (let e = len_one s ds len in rw (e, fields) tt)))))
      go

  -- a call with one field
  one : {X : Type 0} (make : X → Call) (field : X → Field) (read : Data → Result X DocumentError) (word : List ℕ) {other : Result Call DocumentError}
      → ((x : X) → name_of_call (make x) ≡ word) → ((x : X) → fields_of_call (make x) ≡ field x ∷ []) → ((x : X) (d : Data) → read d ≡ Ok x → IsField (field x) d)
      → Others other → Others (cond (is_text w word) (argument (s ∷ ds) >>= read >>= λ x. Ok (make x)) other)
  one make field read word {other = other} named fields is_field go reads =
      by_text w word (argument (s ∷ ds) >>= read >>= λ x. Ok (make x)) other (Ok call) reads
      (λ is here. bound (argument (s ∷ ds) >>= read) (λ x. Ok (make x)) call here (λ x found made.
      bound (argument (s ∷ ds)) read x found (λ a at reads_a.
      bound (with_len 2 (s ∷ ds)) (λ ds. item_at ds 1) a at (λ es fits item.
      with_len-is 2 (s ∷ ds) es fits (λ len same.
      len_two s ds len (λ b are.
      let first : b ≡ a = let p = rw (← same, are) at item in cc in
      let call_is : make x ≡ call = let p = made in cc in
      subst (IsWritten w ds) call_is (is ∙ sym (named x), (rw (are, fields x, first) (is_field x a reads_a, tt)))))))))
      go

  -- a call with two fields
  two : {X Y : Type 0} (make : X → Y → Call) (field : X → Field) (second : Y → Field) (read : Data → Result X DocumentError) (read_second : Data → Result Y DocumentError)
      (word : List ℕ) {other : Result Call DocumentError}
      → ((x : X) (y : Y) → name_of_call (make x y) ≡ word) → ((x : X) (y : Y) → fields_of_call (make x y) ≡ field x ∷ second y ∷ [])
      → ((x : X) (d : Data) → read d ≡ Ok x → IsField (field x) d) → ((y : Y) (d : Data) → read_second d ≡ Ok y → IsField (second y) d)
      → Others other
      → Others (cond (is_text w word) (with_len 3 (s ∷ ds) >>= λ ds. item_at ds 1 >>= read >>= λ x. item_at ds 2 >>= read_second >>= λ y. Ok (make x y)) other)
  two make field second read read_second word {other = other} named fields is_first is_second go reads =
      by_text w word _ other (Ok call) reads
      (λ is here. bound (with_len 3 (s ∷ ds)) _ call here (λ es fits more.
      with_len-is 3 (s ∷ ds) es fits (λ len same.
      len_three s ds len (λ a b are.
      let rest : (read a >>= λ x. read_second b >>= λ y. Ok (make x y)) ≡ Ok call = rw (← same, are) at more in
      bound (read a) _ call rest (λ x reads_a more.
      bound (read_second b) _ call more (λ y reads_b made.
      let call_is : make x y ≡ call = let p = made in cc in
      subst (IsWritten w ds) call_is (is ∙ sym (named x y), (rw (are, fields x y) (is_first x a reads_a, (is_second y b reads_b, tt))))))))))
      go

  named-is : call_named w (s ∷ ds) ≡ Ok call → IsWritten w ds call
  named-is =
      none Start refl (
      two Complete id_field kind_field u32_in kind_number_in (codes "complete") (λ _ _. refl) (λ _ _. refl) (λ _ _ is. is) (λ _ _ is. is) (
      one Abandon id_field u32_in (codes "abandon") (λ _. refl) (λ _. refl) (λ _ _ is. is) (
      one Precede id_field u32_in (codes "precede") (λ _. refl) (λ _. refl) (λ _ _ is. is) (
      two ExtendTo id_field id_field u32_in u32_in (codes "extend_to") (λ _ _. refl) (λ _ _. refl) (λ _ _ is. is) (λ _ _ is. is) (
      one Eat kind_field kind_number_in (codes "eat") (λ _. refl) (λ _. refl) (λ _ _ is. is) (
      none BumpAny refl (
      one BumpRemap kind_field kind_number_in (codes "bump_remap") (λ _. refl) (λ _. refl) (λ _ _ is. is) (
      one Expect kind_field kind_number_in (codes "expect") (λ _. refl) (λ _. refl) (λ _ _ is. is) (
      one Error message_field message_in (codes "error") (λ _. refl) (λ _. refl) (λ _ _ is. is) (
      two ErrRecover message_field kinds_field message_in (set_in 0) (codes "err_recover") (λ _ _. refl) (λ _ _. refl) (λ _ _ is. is) (λ _ _ is. is) (
      one ErrAndBump message_field message_in (codes "err_and_bump") (λ _. refl) (λ _. refl) (λ _ _ is. is) (
      λ other. absurd (let p = other in cc)))))))))))))

call-is : (d : Data) (call : Call) → call_in d ≡ Ok call → IsCall call d
call-is d call reads =
    bound (items_in d) _ call reads (λ ds are more. rw are (by_items ds more))
  where
    by_items : (ds : List Data) → (item_at ds 0 >>= string_in >>= λ name. call_named name ds) ≡ Ok call → AreNameAndFields call ds
    by_items [] more = absurd (let p = more in cc)
    by_items (name ∷ ds) more = bound (string_in name) (λ w. call_named w (name ∷ ds)) call more (λ w word more.
        let written = named-is w name ds call more in
        (word ∙ ap Ok written.0, written.1))

each-is : (ds : List Data) (calls : List Call) → each call_in ds ≡ Ok calls → OneForOne IsCall calls ds
each-is [] calls reads = let none : [] ≡ calls = let p = reads in cc in subst (λ calls. OneForOne IsCall calls []) none tt
each-is (d ∷ ds) calls reads =
    bound (call_in d) _ calls reads (λ call first more.
    bound (each call_in ds) _ calls more (λ rest last all.
    let are : call ∷ rest ≡ calls = let p = all in cc in
    subst (λ calls. OneForOne IsCall calls (d ∷ ds)) are (call-is d call first, each-is ds rest last)))

-- ---- the laws

pub call-written : (d : Data) (result : Result Call DocumentError) → Gives (λ c. c) result (call_in d) → IfOk result (λ c. IsCall c d)
call-written d (Ok call) reads = call-is d call reads
call-written d (Err e) reads = tt

pub call-unwritten : (d : Data) (result : Result Call DocumentError) → Gives (λ c. c) result (call_in d) → IfErr result (λ e. e ≡ Shape → IsNoCall d)
call-unwritten d (Ok call) reads = tt
call-unwritten d (Err e) reads = λ shape call is.
    let fails : call_in d ≡ Err Shape = rw shape at reads in
    absurd (let p = sym fails ∙ call-ok call d is in cc)

pub calls-written : (d : Data) (result : Result (Vec Call Global) DocumentError) → Gives (λ v. v.items) result (calls_in d) → IfOk result (λ v. AreCalls v.items d)
calls-written d (Ok calls) reads = bound (items_in d) _ calls.items reads (λ ds are more. rw are (each-is ds calls.items more))
calls-written d (Err e) reads = tt

pub calls-unwritten : (d : Data) (result : Result (Vec Call Global) DocumentError) → Gives (λ v. v.items) result (calls_in d) → IfErr result (λ e. e ≡ Shape → AreNoCalls d)
calls-unwritten d (Ok calls) reads = tt
calls-unwritten d (Err e) reads = λ shape calls are.
    let fails : calls_in d ≡ Err Shape = rw shape at reads in
    absurd (let p = sym fails ∙ calls-ok calls d are in cc)

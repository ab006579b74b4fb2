-- Files that are printed.
use Rattle.std.proofs.Common.{arith, drop, get_or, take, ◌≡◌, ◌∙◌, ℕ, ◌==◌, ◌&&◌, ◌+◌, ◌<◌, Bool, true, List, [], ◌∷◌, ◌++◌, Option, Some, None, Result, Ok, Err, IfErr, inl, inr, string_bytes, length, map, refl, ap, sym, subst, append_assoc}
use Rattle.std.specs.Io.KnownBytes.{Appends}
use Rattle.std.proofs.lemmas.Bool.Decides.{nat_tests}
use Rattle.std.proofs.lemmas.List.{append-nil, length-append, map-append, take-append-drop, take_more}
use Rattle.std.proofs.lemmas.List.Elements.{All-append, All-cons, All-nil}
use Rattle.std.proofs.lemmas.List.Concat.{flat_map-append}
use Rattle.sql_syntax.specs.Printed.{ArePrinted, IsPrinted, IsRefused, IsReported, IsUnwritten, Printed, RefusesFile, StopsAt, lines_of}
use Rattle.std.specs.declared.alloc.Global.{Global}
use Rattle.std.specs.declared.io.Error.{Error}
use Rattle.std.specs.declared.string.String.{String}
use Rattle.sql_syntax.specs.declared.error.FileError.{FileError}
use Rattle.sql_syntax.specs.declared.error.SqlError.{SqlError}
use Rattle.sql_syntax.specs.declared.error.SqlError.TheVariants.{Io}

-- one more name
module _ {X : Type 0} (view : X → List ℕ) (names : List X) (i : ℕ) (item : X) (below : i < length names) (is : item ≡ get_or names i item)
    (name : List ℕ) (name_is : name ≡ view item) where
  pub names_more : map view (take (i + 1) names) ≡ map view (take i names) ++ name ∷ []
  names_more =
      ap (map view) (take_more names i item below)
      ∙ (map-append view (take i names) (get_or names i item ∷ []) ∙ ap (λ n. map view (take i names) ++ n ∷ []) (ap view (sym is) ∙ sym name_is))

  pub names_split : map view names ≡ map view (take i names) ++ name ∷ map view (drop (i + 1) names)
  names_split =
      ap (map view) (sym (take-append-drop (i + 1) names))
      ∙ (map-append view (take (i + 1) names) (drop (i + 1) names)
      ∙ (ap (λ l. l ++ map view (drop (i + 1) names)) names_more ∙ append_assoc (map view (take i names)) (name ∷ []) (map view (drop (i + 1) names))))

module _ (gives : List ℕ → Result (String Global) Error → Type 0) (reports : List ℕ → List ℕ → List ℕ → Type 0) where
  no_bytes : (old : Option (List ℕ)) → Appends old old []
  no_bytes None = tt
  no_bytes (Some bytes) = sym (append-nil bytes)

  pub prints_none : (old : Option (List ℕ)) → ArePrinted gives reports [] old old true
  prints_none old = record { files = []; named = refl; reported = All-nil (IsReported gives reports); printed = no_bytes old; is_clean = refl }

  -- bytes behind bytes
  appends_both : (a b c : Option (List ℕ)) (front back : List ℕ) → Appends a b front → Appends b c back → Appends a c (front ++ back)
  appends_both None b c front back first next = tt
  appends_both (Some a) None c front back first next = elim first [ ]
  appends_both (Some a) (Some b) None front back first next = elim next [ ]
  appends_both (Some a) (Some b) (Some c) front back first next = next ∙ (ap (λ l. l ++ back) first ∙ append_assoc a front back)

  both_clean : (front back : List ℕ) → (length front == 0 && length back == 0) ≡ (length (front ++ back) == 0)
  both_clean front back = let long = length-append front back in grind (arith, nat_tests)

  -- one more
  pub prints_one : {names : List (List ℕ)} {a b : Option (List ℕ)} {clean : Bool} → ArePrinted gives reports names a b clean
      → (name : List ℕ) (c : Option (List ℕ)) (own : Bool) → IsPrinted gives reports name b c own
      → ArePrinted gives reports (names ++ name ∷ []) a c (clean && own)
  prints_one {names} {a} {b} {clean} s name c own one =
      let all : lines_of (s.files ++ one.file ∷ []) ≡ lines_of s.files ++ one.file.lines =
      flat_map-append (λ f. f.lines) s.files (one.file ∷ []) ∙ ap (λ l. lines_of s.files ++ l) (append-nil one.file.lines) in
      record {
        files = s.files ++ one.file ∷ [];
        named = map-append (λ f. f.name) s.files (one.file ∷ []) ∙ (ap (λ l. l ++ one.file.name ∷ []) s.named ∙ ap (λ n. names ++ n ∷ []) one.named);
        reported = All-append (IsReported gives reports) s.files (one.file ∷ []) s.reported (All-cons (IsReported gives reports) one.file [] one.reported (All-nil (IsReported gives reports)));
        printed = subst (Appends a c) (sym all) (appends_both a b c (lines_of s.files) one.file.lines s.printed one.printed);
        is_clean = ap (λ b. b && own) s.is_clean
            ∙ (ap (λ b. (length (lines_of s.files) == 0) && b) one.is_clean
            ∙ (both_clean (lines_of s.files) one.file.lines ∙ ap (λ l. length l == 0) (sym all)));
      }

  -- a text is refused
  pub refused : {X : Type 0} (refuses : List ℕ → SqlError → Type 0) (name : List ℕ) (out : Option (List ℕ)) (text : String Global) → gives name (Ok text)
      → (error : SqlError) → refuses (string_bytes text) error → (result : Result X SqlError) → result ≡ Err error
      → IfErr result (RefusesFile gives reports refuses name out out)
  refused refuses name out text read error reason result is =
      let why : IsRefused gives refuses name out out error = record { text = text; read = read; refused = reason; unchanged = refl } in
      rw is (inr (inl why))

  -- its lines can't be written
  pub unwritten : {X : Type 0} (refuses : List ℕ → SqlError → Type 0) (old new : Option (List ℕ)) (file : Printed) → IsReported gives reports file
      → (error : SqlError) (reason : Error) → error ≡ Io reason → (result : Result X SqlError) → result ≡ Err error
      → IfErr result (RefusesFile gives reports refuses file.name old new)
  unwritten refuses old new file reported error reason io result is =
      let why : IsUnwritten gives reports file.name error = record { reason = reason; is = io; file = file; named = refl; reported = reported } in
      rw is (inr (inr why))

  -- a file is refused
  pub stops_at : {names : List (List ℕ)} {old before new : Option (List ℕ)} {clean : Bool} (front rest : List (List ℕ)) (error : FileError)
      → names ≡ front ++ error.name.now ∷ rest → ArePrinted gives reports front old before clean
      → (refuses : List ℕ → SqlError → Type 0) → RefusesFile gives reports refuses error.name.now before new error.error
      → StopsAt gives reports refuses names old new error
  stops_at {before = before} {clean = clean} front rest error named printed refuses reason = record {
    front = front;
    rest = rest;
    named = named;
    before = before;
    clean = clean;
    printed = printed;
    reason = reason;
  }

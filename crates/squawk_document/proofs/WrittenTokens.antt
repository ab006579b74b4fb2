-- Raw tokens that are written are read back, and what is read as a raw token is written so.
use Rattle.std.proofs.Common.{◌≡◌, ℕ, List, [], ◌∷◌, Bool, cond, Option, Some, None, Ok, Err, refl, ap, sym, ◌∙◌}
use Rattle.std.specs.Prelude.{Result, IfErr, IfOk, Vec, codes, map}
use Rattle.std.specs.declared.alloc.Global.{Global}
use Rattle.serde_json.specs.Data.{Data, null, boolean, number, string, array, object}
use Rattle.serde_json.specs.View.{items_of}
use Rattle.squawk_tokens.specs.declared.token.Base.{Base}
use Rattle.squawk_tokens.specs.declared.token.Base.TheVariants.{Binary, Octal, Decimal, Hexadecimal}
use Rattle.squawk_tokens.specs.declared.token.LiteralKind.{LiteralKind}
use Rattle.squawk_tokens.specs.declared.token.LiteralKind.TheVariants.{Int, Numeric, Str, NationalStr, ByteStr, BitStr, DollarQuotedString, UnicodeEscStr, EscStr}
use Rattle.squawk_tokens.specs.declared.token.Token.{Token}
use Rattle.squawk_tokens.specs.declared.token.TokenKind.{TokenKind}
use Rattle.squawk_tokens.specs.declared.token.TokenKind.TheVariants.{Unknown, LineComment, BlockComment, Whitespace, Ident, QuotedIdent, PsqlCommand, PositionalParam, Literal, Semi, Comma, Dot, DotDot, OpenParen, CloseParen, OpenBracket, CloseBracket, OpenCurly, CloseCurly, At, Pound, Tilde, Question, Colon, Eq, Bang, Lt, Gt, Minus, And, Or, Plus, Star, Slash, Caret, Percent, Backtick, Eof}
use Rattle.squawk_document.specs.declared.document_error.DocumentError.{DocumentError}
use Rattle.squawk_document.specs.declared.document_error.DocumentError.TheVariants.{Shape}
use Rattle.squawk_document.specs.TokenShapes.{base_in, spelled_kind, kind_of_one, kind_of_three, kind_of_two, offset_in, plain_kind, quoted_literal, spelled_token, token_in, tokens_in}
use Rattle.squawk_document.specs.Values.{◌>>=◌, Gives, GivesExactly, bool_in, is_text, items_in, string_in, u32_in}
use Rattle.squawk_tokens.specs.Bases.{radix}
use Rattle.squawk_document.specs.WrittenTokens.{HasKindOf32Bits, HasLiteralOf32Bits, HasNumbersOf32Bits, IsNoToken, IsNoTokens, fields_of_kind, fields_of_literal, offset, whole, spelling_of, spelling_of_literal, written_token, written_tokens}
use Rattle.squawk_document.proofs.WrittenValues.{bool_in-is, bound, data_list-items_of, each-is, each-ok, items_in-is, number_in-is, string_in-is, by_number, by_text, u32_in-ok}

-- ---- what is written is read back

base-ok : (base : Base) → base_in (whole (radix base)) ≡ Ok base
base-ok Binary = refl
base-ok Octal = refl
base-ok Decimal = refl
base-ok Hexadecimal = refl

literal-ok : (kind : LiteralKind) → HasLiteralOf32Bits kind → spelled_kind (spelling_of_literal kind) (fields_of_literal kind) ≡ Ok (Literal kind)
literal-ok (Int empty base junk) fits = rw (base-ok base, u32_in-ok junk fits) refl
literal-ok (Numeric None junk) fits = rw (u32_in-ok junk fits.1) refl
literal-ok (Numeric (Some exponent) junk) fits = rw (u32_in-ok exponent fits.0, u32_in-ok junk fits.1) refl
literal-ok (Str terminated) fits = refl
literal-ok (NationalStr terminated) fits = refl
literal-ok (ByteStr terminated) fits = refl
literal-ok (BitStr terminated) fits = refl
literal-ok (DollarQuotedString terminated) fits = refl
literal-ok (UnicodeEscStr terminated) fits = refl
literal-ok (EscStr terminated) fits = refl

kind-ok : (kind : TokenKind) → HasKindOf32Bits kind → spelled_kind (spelling_of kind) (fields_of_kind kind) ≡ Ok kind
kind-ok (Literal kind) fits = literal-ok kind fits
kind-ok (PositionalParam junk) fits = rw (u32_in-ok junk fits) refl
kind-ok (BlockComment terminated) fits = refl
kind-ok (QuotedIdent terminated uescape) fits = refl
kind-ok (PsqlCommand ends_query) fits = refl
kind-ok Unknown fits = refl
kind-ok LineComment fits = refl
kind-ok Whitespace fits = refl
kind-ok Ident fits = refl
kind-ok Semi fits = refl
kind-ok Comma fits = refl
kind-ok Dot fits = refl
kind-ok DotDot fits = refl
kind-ok OpenParen fits = refl
kind-ok CloseParen fits = refl
kind-ok OpenBracket fits = refl
kind-ok CloseBracket fits = refl
kind-ok OpenCurly fits = refl
kind-ok CloseCurly fits = refl
kind-ok At fits = refl
kind-ok Pound fits = refl
kind-ok Tilde fits = refl
kind-ok Question fits = refl
kind-ok Colon fits = refl
kind-ok Eq fits = refl
kind-ok Bang fits = refl
kind-ok Lt fits = refl
kind-ok Gt fits = refl
kind-ok Minus fits = refl
kind-ok And fits = refl
kind-ok Or fits = refl
kind-ok Plus fits = refl
kind-ok Star fits = refl
kind-ok Slash fits = refl
kind-ok Caret fits = refl
kind-ok Percent fits = refl
kind-ok Backtick fits = refl
kind-ok Eof fits = refl

token-ok : (token : Token) → HasNumbersOf32Bits token → token_in (written_token token) ≡ Ok token
token-ok token fits = rw (data_list-items_of (fields_of_kind token.kind), u32_in-ok token.len fits.0, kind-ok token.kind fits.1) refl

-- ---- what is read is written so

-- a spelling and fields are those of a kind
abbrev IsWritten : List ℕ → List Data → TokenKind → Type 0
IsWritten w fields kind = (w ≡ spelling_of kind) × (fields ≡ fields_of_kind kind)

-- a kind without fields, or what is read where the spelling is another
plain : {w : List ℕ} {kind : TokenKind} (one : TokenKind) {other : Result TokenKind DocumentError} → fields_of_kind one ≡ []
    → (other ≡ Ok kind → IsWritten w [] kind) → cond (is_text w (spelling_of one)) (Ok one) other ≡ Ok kind → IsWritten w [] kind
plain {w = w} {kind = kind} one {other = other} none go reads =
    by_text w (spelling_of one) (Ok one) other (Ok kind) reads
    (λ is here. let same : one ≡ kind = let p = here in cc in (is ∙ ap spelling_of same, sym none ∙ ap fields_of_kind same))
    go

no_other : {X P : Type 0} {x : X} → Err Shape ≡ Ok x → P
no_other reads = absurd (let p = reads in cc)

plain-is : (w : List ℕ) (kind : TokenKind) → plain_kind w ≡ Ok kind → IsWritten w [] kind
plain-is w kind =
    plain Unknown refl (plain LineComment refl (plain Whitespace refl (plain Ident refl (plain Eof refl (
    plain Semi refl (plain Comma refl (plain Dot refl (plain DotDot refl (plain OpenParen refl (plain CloseParen refl (
    plain OpenBracket refl (plain CloseBracket refl (plain OpenCurly refl (plain CloseCurly refl (plain Colon refl (
    plain At refl (plain Pound refl (plain Tilde refl (plain Question refl (plain Eq refl (plain Bang refl (
    plain Lt refl (plain Gt refl (plain Minus refl (plain And refl (plain Or refl (plain Plus refl (plain Star refl (
    plain Slash refl (plain Caret refl (plain Percent refl (plain Backtick refl
    no_other))))))))))))))))))))))))))))))))

-- the same for the literals that say only whether they are terminated
literal : {w : List ℕ} {kind : LiteralKind} (one : LiteralKind) (terminated : Bool) {other : Result LiteralKind DocumentError}
    → fields_of_literal one ≡ boolean terminated ∷ []
    → (other ≡ Ok kind → IsWritten w (boolean terminated ∷ []) (Literal kind)) → cond (is_text w (spelling_of_literal one)) (Ok one) other ≡ Ok kind
    → IsWritten w (boolean terminated ∷ []) (Literal kind)
literal {w = w} {kind = kind} one terminated {other = other} field go reads =
    by_text w (spelling_of_literal one) (Ok one) other (Ok kind) reads
    (λ is here. let same : one ≡ kind = let p = here in cc in (is ∙ ap spelling_of_literal same, sym field ∙ ap fields_of_literal same))
    go

literal-is : (w : List ℕ) (b : Bool) (kind : LiteralKind) → quoted_literal w b ≡ Ok kind → IsWritten w (boolean b ∷ []) (Literal kind)
literal-is w b kind =
    literal (Str b) b refl (literal (NationalStr b) b refl (literal (ByteStr b) b refl (literal (BitStr b) b refl
    (literal (DollarQuotedString b) b refl (literal (UnicodeEscStr b) b refl (literal (EscStr b) b refl no_other))))))

-- a field that is true or false
flag : {X P : Type 0} (a : Data) (f : Bool → Result X DocumentError) (x : X) → (bool_in a >>= f) ≡ Ok x → ((b : Bool) → a ≡ boolean b → f b ≡ Ok x → P) → P
flag a f x reads go = bound (bool_in a) f x reads (λ b is more. go b (bool_in-is a b is) more)

-- a field that is a number
amount : {X P : Type 0} (a : Data) (f : ℕ → Result X DocumentError) (x : X) → (u32_in a >>= f) ≡ Ok x → ((n : ℕ) → a ≡ whole n → f n ≡ Ok x → P) → P
amount a f x reads go = bound (u32_in a) f x reads (λ n is more. go n (number_in-is 0 4294967295 a n is) more)

base-is : (d : Data) (base : Base) → base_in d ≡ Ok base → d ≡ whole (radix base)
base-is d base reads = amount d _ base reads (λ n is more. is ∙ ap whole (
    by_number n 2 _ _ (Ok base) more (λ two here. let same : Binary ≡ base = let p = here in cc in two ∙ ap radix same) (λ more.
    by_number n 8 _ _ (Ok base) more (λ eight here. let same : Octal ≡ base = let p = here in cc in eight ∙ ap radix same) (λ more.
    by_number n 10 _ _ (Ok base) more (λ ten here. let same : Decimal ≡ base = let p = here in cc in ten ∙ ap radix same) (λ more.
    by_number n 16 _ _ (Ok base) more (λ sixteen here. let same : Hexadecimal ≡ base = let p = here in cc in sixteen ∙ ap radix same) (λ more.
    absurd (let p = more in cc)))))))

offset-is : (d : Data) (n : Option ℕ) → offset_in d ≡ Ok n → d ≡ offset n
offset-is null n reads = let none : None ≡ n = let p = reads in cc in ap offset none
offset-is (boolean b) n reads = absurd (let p = reads in cc)
offset-is (number x) n reads = amount (number x) _ n reads (λ m is more. let some : Some m ≡ n = let p = more in cc in is ∙ ap offset some)
offset-is (string s) n reads = absurd (let p = reads in cc)
offset-is (array ds) n reads = absurd (let p = reads in cc)
offset-is (object ms) n reads = absurd (let p = reads in cc)

one-is : (w : List ℕ) (a : Data) (kind : TokenKind) → kind_of_one w a ≡ Ok kind → IsWritten w (a ∷ []) kind
one-is w a kind reads =
    by_text w (codes "block_comment") _ _ (Ok kind) reads (λ is here. flag a _ kind here (λ b field made.
    let same : BlockComment b ≡ kind = let p = made in cc in (is ∙ ap spelling_of same, ap (λ d. d ∷ []) field ∙ ap fields_of_kind same))) (λ reads.
    by_text w (codes "psql_command") _ _ (Ok kind) reads (λ is here. flag a _ kind here (λ b field made.
    let same : PsqlCommand b ≡ kind = let p = made in cc in (is ∙ ap spelling_of same, ap (λ d. d ∷ []) field ∙ ap fields_of_kind same))) (λ reads.
    by_text w (codes "positional_param") _ _ (Ok kind) reads (λ is here. amount a _ kind here (λ n field made.
    let same : PositionalParam n ≡ kind = let p = made in cc in (is ∙ ap spelling_of same, ap (λ d. d ∷ []) field ∙ ap fields_of_kind same))) (λ reads.
    flag a _ kind reads (λ b field more. bound (quoted_literal w b) _ kind more (λ l spelled made.
    let same : Literal l ≡ kind = let p = made in cc in
    let written = literal-is w b l spelled in
    (written.0 ∙ ap spelling_of same, ap (λ d. d ∷ []) field ∙ (written.1 ∙ ap fields_of_kind same)))))))

two-is : (w : List ℕ) (a b : Data) (kind : TokenKind) → kind_of_two w a b ≡ Ok kind → IsWritten w (a ∷ b ∷ []) kind
two-is w a b kind reads =
    by_text w (codes "quoted_ident") _ _ (Ok kind) reads (λ is here. flag a _ kind here (λ terminated first more. flag b _ kind more (λ uescape second made.
    let same : QuotedIdent terminated uescape ≡ kind = let p = made in cc in
    (is ∙ ap spelling_of same, (λ i. first i ∷ second i ∷ []) ∙ ap fields_of_kind same)))) (λ reads.
    by_text w (codes "numeric") _ _ (Ok kind) reads (λ is here. bound (offset_in a) _ kind here (λ exponent first more. amount b _ kind more (λ junk second made.
    let same : Literal (Numeric exponent junk) ≡ kind = let p = made in cc in
    let at = offset-is a exponent first in
    (is ∙ ap spelling_of same, (λ i. at i ∷ second i ∷ []) ∙ ap fields_of_kind same))))
    no_other)

three-is : (w : List ℕ) (a b c : Data) (kind : TokenKind) → kind_of_three w a b c ≡ Ok kind → IsWritten w (a ∷ b ∷ c ∷ []) kind
three-is w a b c kind reads =
    by_text w (codes "int") _ _ (Ok kind) reads (λ is here. flag a _ kind here (λ empty first more. bound (base_in b) _ kind more (λ base second more. amount c _ kind more (λ junk third made.
    let same : Literal (Int empty base junk) ≡ kind = let p = made in cc in
    let of = base-is b base second in
    (is ∙ ap spelling_of same, (λ i. first i ∷ of i ∷ third i ∷ []) ∙ ap fields_of_kind same)))))
    no_other

kind-is : (w : List ℕ) (fields : List Data) (kind : TokenKind) → spelled_kind w fields ≡ Ok kind → IsWritten w fields kind
kind-is w [] kind reads = plain-is w kind reads
kind-is w (a ∷ []) kind reads = one-is w a kind reads
kind-is w (a ∷ b ∷ []) kind reads = two-is w a b kind reads
kind-is w (a ∷ b ∷ c ∷ []) kind reads = three-is w a b c kind reads
kind-is w (a ∷ b ∷ c ∷ d ∷ fields) kind reads = no_other reads

spelled-is : (ds : List Data) (token : Token) → spelled_token ds ≡ Ok token → ds ≡ string (spelling_of token.kind) ∷ whole token.len ∷ fields_of_kind token.kind
spelled-is [] token reads = absurd (let p = reads in cc)
spelled-is (s ∷ []) token reads = absurd (let p = reads in cc)
spelled-is (s ∷ l ∷ fields) token reads =
    bound (string_in s) _ token reads (λ w word more. amount l _ token more (λ len is more. bound (spelled_kind w fields) _ token more (λ kind spelled made.
    let same : record { kind = kind; len = len } ≡ token = let p = made in cc in
    let written = kind-is w fields kind spelled in
    let name = string_in-is s w word ∙ ap string written.0 in
    (λ i. name i ∷ is i ∷ written.1 i) ∙ ap (λ t. string (spelling_of t.kind) ∷ whole t.len ∷ fields_of_kind t.kind) same)))

token-is : (d : Data) (token : Token) → token_in d ≡ Ok token → d ≡ written_token token
token-is d token reads =
    bound (items_in d) _ token reads (λ ds are more. items_in-is d ds are ∙ ap (λ ds. array (items_of ds)) (spelled-is ds token more))

-- ---- the laws

pub token-written : (d : Data) (result : Result Token DocumentError) → GivesExactly (λ t. t) result (token_in d) → IfOk result (λ t. d ≡ written_token t)
token-written d (Ok token) reads = token-is d token reads
token-written d (Err e) reads = tt

pub token-unwritten : (d : Data) (result : Result Token DocumentError) → GivesExactly (λ t. t) result (token_in d) → IfErr result (λ _. IsNoToken d)
token-unwritten d (Ok token) reads = tt
token-unwritten d (Err e) reads = λ token fits is. absurd (let p = sym (rw is at reads) ∙ token-ok token fits in cc)

pub tokens-written : (d : Data) (result : Result (Vec Token Global) DocumentError) → Gives (λ v. v.items) result (tokens_in d) → IfOk result (λ v. d ≡ written_tokens v.items)
tokens-written d (Ok tokens) reads =
    bound (items_in d) _ tokens.items reads (λ ds are more.
    items_in-is d ds are ∙ ap (λ ds. array (items_of ds)) (each-is token_in written_token token-is ds tokens.items more))
tokens-written d (Err e) reads = tt

pub tokens-unwritten : (d : Data) (result : Result (Vec Token Global) DocumentError) → Gives (λ v. v.items) result (tokens_in d) → IfErr result (λ e. e ≡ Shape → IsNoTokens d)
tokens-unwritten d (Ok tokens) reads = tt
tokens-unwritten d (Err e) reads = λ shape tokens fit is.
    let back : tokens_in (written_tokens tokens) ≡ Ok tokens =
    rw (data_list-items_of (map written_token tokens)) (each-ok token_in written_token HasNumbersOf32Bits token-ok tokens fit) in
    let fails : tokens_in (written_tokens tokens) ≡ Err Shape = rw (is, shape) at reads in
    absurd (let p = sym fails ∙ back in cc)

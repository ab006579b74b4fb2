-- The keywords of SELECT statements.
use Rattle.std.specs.Prelude.{ℕ, List, [], ◌∷◌, codes}
use Rattle.squawk_kinds.specs.Kinds.{DISTINCT_KW, FROM_KW, IN_KW, IS_KW, LIKE_KW, NOT_KW}

-- ---- kinds of the grammar's own

abbrev pub SELECT_KW : ℕ
SELECT_KW = 200

abbrev pub WHERE_KW : ℕ
WHERE_KW = 201

abbrev pub AND_KW : ℕ
AND_KW = 202

abbrev pub OR_KW : ℕ
OR_KW = 203

abbrev pub AS_KW : ℕ
AS_KW = 204

abbrev pub NULL_KW : ℕ
NULL_KW = 205

-- ---- the words, in the order of their bytes

abbrev pub keyword_kinds : List (List ℕ × ℕ)
keyword_kinds =
    (codes "and", AND_KW) ∷ (codes "as", AS_KW) ∷ (codes "distinct", DISTINCT_KW) ∷ (codes "from", FROM_KW) ∷ (codes "in", IN_KW) ∷
    (codes "is", IS_KW) ∷ (codes "like", LIKE_KW) ∷ (codes "not", NOT_KW) ∷ (codes "null", NULL_KW) ∷ (codes "or", OR_KW) ∷
    (codes "select", SELECT_KW) ∷ (codes "where", WHERE_KW) ∷ []

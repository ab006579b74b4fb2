-- The table's rows, as loops go over them.
use Rattle.std.proofs.Common.{◌≡◌, ◌∙◌, ℕ, ◌+◌, ◌<◌, List, [], ◌∷◌, ◌++◌, length, get_or, take, sym, ap, arith}
use Rattle.std.specs.Prelude.{map}
use Rattle.std.proofs.lemmas.List.{get_or-map, length-map, map-append, take_more}
use Rattle.squawk_kinds.specs.EngineNames.{names_of}
use Rattle.sql_words.specs.SqlKinds.{keyword_name, keyword_names, rows_in, table}
use Rattle.sql_words.specs.declared.category.Category.{Category}
use Rattle.sql_words.specs.declared.keywords.Keyword.{Keyword}
use denote.Ref.{Bor}

module _ (rows : List Keyword) (are : rows_in rows ≡ table) where
  count : length rows ≡ length table
  count = sym (length-map {B = List ℕ × ℕ × Category} rows (λ row. (row.word.now, row.kind, row.category))) ∙ ap length are

  module _ (names : List (Bor (List ℕ))) (called : map (λ name. name.now) names ≡ map (λ row. keyword_name row.0) table) where
    as_many : length names ≡ length table
    as_many = sym (length-map names (λ name. name.now)) ∙ ap length called ∙ length-map table (λ row. keyword_name row.0)

    named-at : (i : ℕ) (d : Keyword) (e : Bor (List ℕ)) (g : ℕ × List ℕ) → i < length rows → get_or keyword_names i g ≡ ((get_or rows i d).kind, (get_or names i e).now)
    named-at i d e g within =
        let row : List ℕ × ℕ × Category = ((get_or rows i d).word.now, (get_or rows i d).kind, (get_or rows i d).category) in
        let inside : i < length table = omega (arith, count) in
        let at : get_or table i row ≡ row =
        ap (λ all. get_or all i row) (sym are) ∙ get_or-map (λ one. (one.word.now, one.kind, one.category)) rows i d row within in
        let name : (get_or names i e).now ≡ keyword_name row.0 =
        sym (get_or-map (λ one. one.now) names i e e.now (omega (arith, as_many)))
        ∙ (ap (λ all. get_or all i e.now) called ∙ (get_or-map (λ one. keyword_name one.0) table i row e.now inside ∙ ap (λ one. keyword_name one.0) at)) in
        get_or-map (λ one. (one.1, keyword_name one.0)) table i row g inside
        ∙ (ap {B = ℕ × List ℕ} (λ one. (one.1, keyword_name one.0)) at ∙ ap {B = ℕ × List ℕ} (λ one. (row.1, one)) (sym name))

    -- one name more
    pub name-next : (items : List (ℕ × Bor (List ℕ))) (i : ℕ) (d : Keyword) (e : Bor (List ℕ)) → i < length rows → names_of items ≡ take i keyword_names
        → names_of (items ++ ((get_or rows i d).kind, get_or names i e) ∷ []) ≡ take (i + 1) keyword_names
    name-next items i d e within so_far =
        let named : ℕ × List ℕ = ((get_or rows i d).kind, (get_or names i e).now) in
        map-append {B = ℕ × List ℕ} (λ pair. (pair.0, pair.1.now)) items (((get_or rows i d).kind, get_or names i e) ∷ [])
        ∙ (ap (λ before. before ++ named ∷ []) so_far
        ∙ (ap (λ one. take i keyword_names ++ one ∷ []) (sym (named-at i d e named within))
        ∙ sym (take_more keyword_names i named (omega (arith, count, length-map {B = ℕ × List ℕ} table (λ row. (row.1, keyword_name row.0)))))))

-- What a vocabulary of the table's words knows.
use Rattle.std.proofs.Common.{◌≡◌, ◌∙◌, ◌&&◌, ℕ, Bool, true, false, cond, List, [], ◌∷◌, refl, ap, sym, subst}
use Rattle.std.specs.Prelude.{◌==◌, ◌||◌, map}
use Rattle.std.specs.List.{filter, list_any}
use Rattle.squawk_kinds.specs.TokenSets.{has}
use Rattle.squawk_keywords.specs.KeywordAnswers.{AnswersBy, HasClasses}
use Rattle.squawk_keywords.specs.KeywordPairs.{kind_of_word_ignoring_case}
use Rattle.squawk_keywords.specs.declared.classes.Classes.{Classes}
use Rattle.squawk_keywords.specs.declared.keywords.Keywords.{Keywords}
use Rattle.sql_words.specs.SqlKinds.{contextual_kinds, keyword_kinds, same_category}
use Rattle.sql_words.specs.SqlVocabulary.{AreClasses, KnowsKeywords}
use Rattle.sql_words.specs.declared.category.Category.{Category}

-- with these classes it knows them
pub knows : (pairs more : List (List ℕ × ℕ)) (old new : Keywords) (classes : Classes) → pairs ≡ keyword_kinds → more ≡ contextual_kinds
    → AnswersBy kind_of_word_ignoring_case pairs more old → HasClasses old classes new → AreClasses classes → KnowsKeywords new
knows pairs more old new classes are are_more made with are_classes =
    let answers : AnswersBy kind_of_word_ignoring_case keyword_kinds contextual_kinds old =
    subst (λ one. AnswersBy kind_of_word_ignoring_case keyword_kinds one old) are_more (subst (λ one. AnswersBy kind_of_word_ignoring_case one more old) are made) in
    record {
      keyword = λ text. ap (λ kind. kind text) with.keyword ∙ answers.keyword text;
      contextual_keyword = λ text. ap (λ kind. kind text) with.contextual_keyword ∙ answers.contextual_keyword text;
      all_keywords = λ kind. ap (λ set. has set kind) with.all_keywords ∙ answers.all_keywords kind;
      contextual_keywords = λ kind. ap (λ set. has set kind) with.contextual_keywords ∙ answers.contextual_keywords kind;
      classes = subst AreClasses (sym with.classes) are_classes;
    }

-- ---- categories

-- the kinds of the rows of a category
abbrev pub kinds_in : Category → List (List ℕ × ℕ × Category) → List ℕ
kinds_in category rows = map (λ row. row.1) (filter (λ row. same_category row.2 category) rows)

pub any-in : (category : Category) (rows : List (List ℕ × ℕ × Category)) (kind : ℕ)
    → list_any (λ one. one == kind) (kinds_in category rows) ≡ list_any (λ row. same_category row.2 category && (row.1 == kind)) rows
any-in category [] kind = refl
any-in category (row ∷ rows) kind = by_test (same_category row.2 category) (any-in category rows kind)
  where
    by_test : (is : Bool) → list_any (λ one. one == kind) (kinds_in category rows) ≡ list_any (λ one. same_category one.2 category && (one.1 == kind)) rows
        → list_any (λ one. one == kind) (map (λ one. one.1) (cond is (row ∷ filter (λ one. same_category one.2 category) rows) (filter (λ one. same_category one.2 category) rows)))
        ≡ ((is && (row.1 == kind)) || list_any (λ one. same_category one.2 category && (one.1 == kind)) rows)
    by_test true rest = ap (λ b. (row.1 == kind) || b) rest
    by_test false rest = rest

use Rattle.std.proofs.Common.{◌≡◌, ◌∙◌, ℕ, ◌+◌, List, [], ◌∷◌, ◌++◌, Ok, ap, drop, rules, subst, sym}
use Rattle.std.proofs.lemmas.List.{map-append}
use Rattle.std.proofs.lemmas.List.Elements.{All-push}
use Rattle.std.specs.Prelude.{map}
use Rattle.serde_json.specs.View.{view}
use Rattle.squawk_kinds.specs.Kinds.{IsKeyword}
use Rattle.squawk_keywords.specs.KeywordPairs.{AreKeywords, pairs_of}
use Rattle.squawk_document.specs.KeywordPairs.{keyword_in}
use Rattle.squawk_document.specs.Values.{each}
use Rattle.squawk_document.proofs.ReadingLemmas.{each-item, with_front, with_front-next}
use Rattle.squawk_document.proofs.vocabulary.keyword_list.Goals as goal

pub loop-item-preserved : goal.loop-item-preserved
loop-item-preserved c =
    let pairs = c.loop-item.pairs.items in
    let more : pairs_of c.push_reserved.new.self.items ≡ pairs_of pairs ++ (c.in_ok-word.word.now, c.from.result) ∷ [] =
    ap pairs_of c.push_reserved.ensures.items ∙ map-append {B = List ℕ × ℕ} (λ one. (one.0.now, one.1)) pairs ((c.in_ok-word.word, c.from.result) ∷ []) in
    record {
      read =
          ap (λ front. with_front {X = List ℕ × ℕ} front (each keyword_in (map view (drop (c.loop-item.item-index + 1) c.in_ok-items.items.now)))) more
          ∙ with_front-next (pairs_of pairs) (c.in_ok-word.word.now, c.from.result) (each keyword_in (map view (drop (c.loop-item.item-index + 1) c.in_ok-items.items.now)))
          ∙ sym (ap (with_front {X = List ℕ × ℕ} (pairs_of pairs))
          (each-item {X = List ℕ × ℕ} keyword_in c.in_ok-items.items.now c.loop-item.item-index c.item-item.result (c.in_ok-word.word.now, c.from.result) c.loop-item-test.true c.item-item.is
          (c.in_ok-word.ensures.pair ∙ ap (λ kind. Ok (c.in_ok-word.word.now, kind)) (sym c.from.ensures))))
          ∙ c.loop-item.invariant.read;
      keywords =
          subst AreKeywords (sym more)
          (All-push (λ one. IsKeyword one.1) (pairs_of pairs) (c.in_ok-word.word.now, c.from.result) c.loop-item.invariant.keywords
          (subst IsKeyword (sym c.from.ensures) c.in_ok-word.ensures.keyword));
      len = search rules;
      room = search rules;
    }

-- Pieces that stand one after another make up the parse of their text.
use Rattle.std.proofs.Common.{◌≡◌, ◌∙◌, ℕ, ◌+◌, ◌≤◌, true, Option, Some, None, List, [], ◌∷◌, ◌++◌, length, map, drop, append_assoc, arith, ap, sym, subst, refl, length-append}
use Rattle.std.specs.Prelude.{string_bytes}
use Rattle.std.proofs.lemmas.Bool.{false≢true}
use Rattle.std.proofs.lemmas.List.{append-nil, drop_all}
use Rattle.std.proofs.lemmas.Option.{none-some, same_Some}
use Rattle.squawk_keywords.specs.declared.keywords.Keywords.{Keywords}
use Rattle.squawk_table.specs.declared.shortcuts.str_step.OwnedStep.{OwnedStep}
use Rattle.squawk_table.specs.declared.shortcuts.str_step.OwnedStep.TheVariants as sent
use Rattle.squawk_tokens.specs.LexicalErrors.{LexicalError, shifted}
use Rattle.rule_grammar.specs.declared.rules.RuleGrammar.{RuleGrammar}
use Rattle.sql_lexer.specs.ScriptLexing.{Lexing, place_of}
use Rattle.sql_lexer.specs.declared.script.script_place.ScriptPlace.{ScriptPlace}
use Rattle.sql_lexer.specs.declared.script.script_place.ScriptPlace.TheVariants as script
use Rattle.sql_words.specs.SqlVocabulary.{KnowsKeywords}
use Rattle.sql_grammar.specs.Kinds.{SOURCE_FILE}
use Rattle.sql_grammar.specs.Parts.{moved_by}
use Rattle.sql_grammar.specs.ReadParts.{HasRead, IsScriptParse, ReadSoFar, begun_with, text_left}
use Rattle.sql_grammar.specs.declared.script_parts.Progress.TheVariants.{Inside}
use Rattle.sql_grammar.specs.declared.script_parts.ScriptPart.{ScriptPart}
use Rattle.sql_document.specs.Held.{IsHeld}
use Rattle.sql_document.specs.Pieces.{AreChain, AreKept, AreParts, Follows, IsDocument, IsPiece, text_of}
use Rattle.sql_document.specs.declared.piece.Piece.{Piece}
use Rattle.sql_document.proofs.Chains.{after_is, chain_text, left_after, size_of, stands}

module _ {Kept : Type 0} (keeps : ScriptPart → Kept → Type 0) (vocabulary : Keywords) (rules : RuleGrammar) (knows : KnowsKeywords vocabulary) where
  -- what is read of a script up to a place
  abbrev HasReadTo : ScriptPlace → List ℕ → List ℕ → List LexicalError → List OwnedStep → Type 0
  HasReadTo place read left errors done = ReadSoFar (begun_with place) vocabulary rules read left (place_of place) errors done

  -- what pieces add to it
  record Adds (pieces : List (Piece Kept)) (read left : List ℕ) (errors : List LexicalError) (done : List OwnedStep) : Type 0 where
    parts : List ScriptPart
    kept : AreKept keeps parts pieces
    more : List LexicalError
    steps : List OwnedStep
    are : AreParts (length read) parts more steps
    parse : IsScriptParse vocabulary (read ++ left) (errors ++ more) ((done ++ steps) ++ sent.Exit ∷ [])

  module _ (piece : Piece Kept) (next : Option ScriptPlace) (read left : List ℕ) (errors : List LexicalError) (done : List OwnedStep) (is : IsPiece keeps vocabulary rules piece next left)
      (has : HasReadTo piece.place read left errors done) (short : length (read ++ left) ≤ 4294967295) where
    abbrev now : List ℕ
    now = read ++ is.part.table.text

    abbrev errors_now : List LexicalError
    errors_now = errors ++ map (shifted (length read)) is.part.table.errors

    abbrev done_now : List OwnedStep
    done_now = done ++ map (moved_by (length read)) is.reads.inner

    all : left ≡ text_left is.old ++ is.rest
    all = is.left_is ∙ ap (λ (xs : List ℕ). xs ++ is.rest) (sym (ap (λ (l : Lexing). drop l.at l.text) is.begun))

    at_old : HasRead vocabulary rules is.old is.rest read errors done
    at_old = (
      knows,
      subst (λ p. ReadSoFar p vocabulary rules read (text_left is.old ++ is.rest) is.old.lexer.place errors done) (sym is.progress)
          (subst (λ place. ReadSoFar (begun_with piece.place) vocabulary rules read (text_left is.old ++ is.rest) place errors done) (sym (ap (λ (l : Lexing). l.place) is.begun))
          (subst (λ left. ReadSoFar (begun_with piece.place) vocabulary rules read left (place_of piece.place) errors done) all has)),
    )

    none_by : (seen : Option ℕ) → Follows vocabulary rules is.old is.new (length is.part.table.text) seen next is.rest → is.old.is_last ≡ true → is.rest ≡ []
    none_by None follows last = follows.nothing
    none_by (Some seen) follows last = absurd (false≢true (sym follows.others ∙ last))

    small : length read + length is.part.table.text ≤ 4294967295
    small = omega (arith, short, length-append read left, ap length (stands keeps vocabulary rules piece next left is), length-append (string_bytes piece.text) (left_after keeps vocabulary rules piece next left is), ap length is.text)

    at_new : HasRead vocabulary rules is.new is.rest now errors_now done_now
    at_new = is.reads.reads is.rest read errors done (none_by piece.seen is.follows) at_old small

    whole : now ++ left_after keeps vocabulary rules piece next left is ≡ read ++ left
    whole =
        append_assoc read is.part.table.text (left_after keeps vocabulary rules piece next left is)
        ∙ ap (λ xs. read ++ xs) (ap (λ xs. xs ++ left_after keeps vocabulary rules piece next left is) (sym is.text) ∙ sym (stands keeps vocabulary rules piece next left is))

    -- a piece in front of others
    then_others : (pieces : List (Piece Kept)) → Adds pieces now (left_after keeps vocabulary rules piece next left is) errors_now done_now → Adds (piece ∷ pieces) read left errors done
    then_others pieces others = record {
      parts = is.part ∷ others.parts;
      kept = (is.text, (is.kept, others.kept));
      more = map (shifted (length read)) is.part.table.errors ++ others.more;
      steps = map (moved_by (length read)) is.reads.inner ++ others.steps;
      are = (
        is.reads.inner,
        others.steps,
        others.more,
        is.reads.sent_is,
        refl,
        refl,
        subst (λ n. AreParts n others.parts others.more others.steps) (length-append read is.part.table.text) others.are,
      );
      parse = subst (λ text. IsScriptParse vocabulary text (errors ++ (map (shifted (length read)) is.part.table.errors ++ others.more)) ((done ++ (map (moved_by (length read)) is.reads.inner ++ others.steps)) ++ sent.Exit ∷ [])) whole
          (subst (λ steps. IsScriptParse vocabulary (now ++ left_after keeps vocabulary rules piece next left is) (errors ++ (map (shifted (length read)) is.part.table.errors ++ others.more)) (steps ++ sent.Exit ∷ [])) (append_assoc done (map (moved_by (length read)) is.reads.inner) others.steps)
          (subst (λ errors. IsScriptParse vocabulary (now ++ left_after keeps vocabulary rules piece next left is) errors ((done_now ++ others.steps) ++ sent.Exit ∷ [])) (append_assoc errors (map (shifted (length read)) is.part.table.errors) others.more) others.parse));
    }

  -- nothing stands after the end
  none_after : (pieces : List (Piece Kept)) (left : List ℕ) → AreChain keeps vocabulary rules None pieces None left [] → pieces ≡ []
  none_after [] left (same, is) = refl
  none_after (piece ∷ pieces) left (is, next, here, others) = absurd (none-some piece.place is)

  -- all of them, up to the end
  adds_all : (place : ScriptPlace) (pieces : List (Piece Kept)) (read left : List ℕ) (errors : List LexicalError) (done : List OwnedStep)
      → AreChain keeps vocabulary rules (Some place) pieces None left [] → HasReadTo place read left errors done → length (read ++ left) ≤ 4294967295 → Adds pieces read left errors done
  adds_all place [] read left errors done (same, is) has short = absurd (none-some place (sym same))
  adds_all place (piece ∷ pieces) read left errors done (is, next, here, others) has short =
      by_seen (λ place chain has short. adds_all place pieces text_now rest_of errors_after done_after chain has short) piece.seen here.follows
    where
      has_here : HasReadTo piece.place read left errors done
      has_here = subst (λ p. HasReadTo p read left errors done) (same_Some place piece.place is) has

      rest_of : List ℕ
      rest_of = text_left here.new ++ here.rest

      text_now : List ℕ
      text_now = read ++ here.part.table.text

      errors_after : List LexicalError
      errors_after = errors ++ map (shifted (length read)) here.part.table.errors

      done_after : List OwnedStep
      done_after = done ++ map (moved_by (length read)) here.reads.inner

      small_again : length (text_now ++ rest_of) ≤ 4294967295
      small_again = omega (arith, short, ap length (whole piece next read left errors done here has_here short))

      at_end : HasRead vocabulary rules here.new here.rest text_now errors_after done_after
      at_end = at_new piece next read left errors done here has_here short

      by_seen : ((place : ScriptPlace) → AreChain keeps vocabulary rules (Some place) pieces None rest_of [] → HasReadTo place text_now rest_of errors_after done_after → length (text_now ++ rest_of) ≤ 4294967295
          → Adds pieces text_now rest_of errors_after done_after)
          → (seen : Option ℕ) → Follows vocabulary rules here.old here.new (length here.part.table.text) seen next here.rest → Adds (piece ∷ pieces) read left errors done
      by_seen go None follows =
          let no_others : pieces ≡ [] =
          none_after pieces (drop (size_of keeps vocabulary rules piece) left) (subst (λ n. AreChain keeps vocabulary rules n pieces None (drop (size_of keeps vocabulary rules piece) left) []) follows.none others) in
          let nothing : rest_of ≡ [] = ap (λ xs. xs ++ here.rest) (drop_all here.new.lexer.at here.new.lexer.text follows.over) ∙ follows.nothing in
          let parse : IsScriptParse vocabulary text_now errors_after (done_after ++ sent.Exit ∷ []) =
          follows.parse text_now errors_after done_after (subst (λ rest. HasRead vocabulary rules here.new rest text_now errors_after done_after) follows.nothing at_end) in
          subst (λ pieces. Adds (piece ∷ pieces) read left errors done) (sym no_others)
          (then_others piece next read left errors done here has_here short []
          (record {
            parts = [];
            kept = tt;
            more = [];
            steps = [];
            are = (refl, refl);
            parse = subst (λ text. IsScriptParse vocabulary text (errors_after ++ []) ((done_after ++ []) ++ sent.Exit ∷ [])) (sym (append-nil text_now) ∙ ap (λ xs. text_now ++ xs) (sym nothing))
                (subst (λ errors. IsScriptParse vocabulary text_now errors ((done_after ++ []) ++ sent.Exit ∷ [])) (sym (append-nil errors_after))
                (subst (λ steps. IsScriptParse vocabulary text_now errors_after (steps ++ sent.Exit ∷ [])) (sym (append-nil done_after)) parse));
          }))
      by_seen go (Some seen) follows =
          then_others piece next read left errors done here has_here short pieces
          (go follows.place
          (subst (λ left. AreChain keeps vocabulary rules (Some follows.place) pieces None left []) (after_is keeps vocabulary rules piece next left here)
          (subst (λ n. AreChain keeps vocabulary rules n pieces None (drop (size_of keeps vocabulary rules piece) left) []) follows.next_is others))
          (subst (λ p. ReadSoFar p vocabulary rules text_now rest_of (place_of follows.place) errors_after done_after) (sym follows.inside)
          (subst (λ place. ReadSoFar Inside vocabulary rules text_now rest_of place errors_after done_after) (sym follows.same)
          (subst (λ p. ReadSoFar p vocabulary rules text_now rest_of here.new.lexer.place errors_after done_after) here.reads.inside at_end.1))) small_again)

  -- a chain from the front to the end of a script is a document
  pub document : (pieces : List (Piece Kept)) (text : List ℕ) → AreChain keeps vocabulary rules (Some script.Front) pieces None text [] → length text ≤ 4294967295 → IsDocument keeps text pieces
  document pieces text chain short =
      let adds = adds_all script.Front pieces [] text [] (sent.Enter SOURCE_FILE ∷ []) chain (record { front = refl; nothing = refl; none = refl; entered = refl }) short in
      record {
        vocabulary = vocabulary;
        knows = knows;
        text_is = sym (chain_text keeps vocabulary rules (Some script.Front) None pieces text [] chain ∙ append-nil (text_of pieces));
        parts = adds.parts;
        kept = adds.kept;
        errors = adds.more;
        steps = adds.steps;
        are = adds.are;
        parse = adds.parse;
      }

  -- and is held
  pub is_held : (pieces : List (Piece Kept)) (text : List ℕ) → AreChain keeps vocabulary rules (Some script.Front) pieces None text [] → length text ≤ 4294967295 → IsHeld keeps vocabulary rules pieces (length text)
  is_held pieces text chain short =
      let text_is : text ≡ text_of pieces = chain_text keeps vocabulary rules (Some script.Front) None pieces text [] chain ∙ append-nil (text_of pieces) in
      record {
        knows = knows;
        chain = subst (λ left. AreChain keeps vocabulary rules (Some script.Front) pieces None left []) text_is chain;
        len_is = ap length text_is;
        short = short;
      }

  -- a text is cut, and no old piece stands after it
  pub all_new : (pieces old : List (Piece Kept)) (end : ℕ) (text string : List ℕ) → old ≡ [] → string ≡ text
      → AreChain keeps vocabulary rules (Some script.Front) (pieces ++ drop end old) None (string ++ text_of (drop 0 old)) [] → AreChain keeps vocabulary rules (Some script.Front) pieces None text []
  all_new pieces old end text string none same chain =
      let first : AreChain keeps vocabulary rules (Some script.Front) (pieces ++ drop end []) None (string ++ []) [] =
      subst (λ old. AreChain keeps vocabulary rules (Some script.Front) (pieces ++ drop end old) None (string ++ text_of (drop 0 old)) []) none chain in
      subst (λ ps. AreChain keeps vocabulary rules (Some script.Front) ps None text []) (ap (λ ps. pieces ++ ps) (drop_all end [] (omega arith)) ∙ append-nil pieces)
      (subst (λ left. AreChain keeps vocabulary rules (Some script.Front) (pieces ++ drop end []) None left []) (append-nil string ∙ same) first)

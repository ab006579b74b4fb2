-- A part of a script is cut.
use Rattle.std.proofs.Common.{◌≡◌, ◌∙◌, ℕ, ◌+◌, ◌-◌, ◌<◌, ◌≤◌, List, ◌++◌, length, take, drop, append_assoc, arith, ap, sym, subst, length-drop, length-take, take-append-drop}
use Rattle.std.specs.Prelude.{IsCharBoundary, IsUtf8, slice_range}
use Rattle.std.proofs.lemmas.List.Sums.{sum_by-append}
use Rattle.squawk_tokens.specs.AcceptedTokens.{AreAcceptedTokens}
use Rattle.squawk_tokens.specs.declared.token.Token.{Token}
use Rattle.sql_lexer.specs.ScriptLexing.{Lexing, tokens_left}
use Rattle.sql_lexer.specs.declared.script.script_place.ScriptPlace.{ScriptPlace}
use Rattle.sql_grammar.specs.CutParts.{CutsPart, CutsStatements}
use Rattle.sql_grammar.specs.ReadParts.{StandsInText, tokens_at}
use Rattle.sql_grammar.proofs.parts.Slices.{begins_at, ends_at, part_accepted, within_text}
use Rattle.sql_grammar.proofs.parts.Tables.{bytes}

module _ (place : ScriptPlace) (old l : Lexing) (same_text : l.text ≡ old.text) (stands : StandsInText place old) (utf8 : IsUtf8 old.text) (cut : List Token) (part : CutsPart old l cut) where
  abbrev cuts : CutsStatements part.count old l cut
  cuts = part.cuts

  abbrev pub here : List ℕ
  here = slice_range old.text old.at (old.at + bytes cut)

  all_tokens : tokens_at place old.text ≡ stands.front ++ (cut ++ tokens_left l)
  all_tokens = stands.tokens ∙ ap (λ ts. stands.front ++ ts) cuts.left

  accepted_all : AreAcceptedTokens old.text (stands.front ++ (cut ++ tokens_left l))
  accepted_all = subst (AreAcceptedTokens old.text) all_tokens stands.accepted

  pub here_accepted : AreAcceptedTokens here cut
  here_accepted =
      subst (λ n. AreAcceptedTokens (slice_range old.text n (n + bytes cut)) cut) stands.bytes
      (part_accepted old.text utf8 stands.front cut (tokens_left l) accepted_all)

  pub here_begins : IsCharBoundary old.text old.at
  here_begins = subst (IsCharBoundary old.text) stands.bytes (begins_at old.text utf8 stands.front cut (tokens_left l) accepted_all)

  pub here_ends : IsCharBoundary old.text (old.at + bytes cut)
  here_ends = subst (λ n. IsCharBoundary old.text (n + bytes cut)) stands.bytes (ends_at old.text utf8 stands.front cut (tokens_left l) accepted_all)

  pub here_within : old.at + bytes cut ≤ length old.text
  here_within = omega (arith, within_text old.text utf8 stands.front cut (tokens_left l) accepted_all, stands.bytes)

  pub stands_next : StandsInText place l
  stands_next = record {
    utf8 = subst IsUtf8 (sym same_text) utf8;
    accepted = subst (λ text. AreAcceptedTokens text (tokens_at place text)) (sym same_text) stands.accepted;
    front = stands.front ++ cut;
    tokens = subst (λ text. tokens_at place text ≡ (stands.front ++ cut) ++ tokens_left l) (sym same_text)
        (all_tokens ∙ sym (append_assoc stands.front cut (tokens_left l)));
    bytes = omega (arith, sum_by-append (λ (t : Token). t.len) stands.front cut, stands.bytes, cuts.at);
    starts = λ lt.
        let within : l.at < length old.text = omega (arith, lt, ap length same_text) in
        cuts.begins (part.some (omega (arith, within, cuts.at))) within;
  }

  pub here_length : length here ≡ bytes cut
  here_length = omega (arith, length-take (old.at + bytes cut - old.at) (drop old.at old.text), length-drop old.at old.text, here_within)

  -- what stands before it, it, and the rest
  pub between : old.text ≡ take old.at old.text ++ (here ++ drop (bytes cut) (drop old.at old.text))
  between =
      let rest = drop old.at old.text in
      let size : bytes cut ≡ old.at + bytes cut - old.at = omega arith in
      sym (take-append-drop old.at old.text)
      ∙ ap (λ xs. take old.at old.text ++ xs) (sym (take-append-drop (bytes cut) rest) ∙ ap (λ n. take n rest ++ drop (bytes cut) rest) size)

-- The tokens of a script are accepted, from any place where it goes on.
use Rattle.std.proofs.Common.{◌≡◌, ℕ, zero, suc, ◌≤◌, List, length, arith, refl, subst, sym}
use Rattle.std.specs.Prelude.{IsCharBoundary, IsUtf8}
use Rattle.std.proofs.lemmas.Str.{IsCharBoundary-start}
use Rattle.squawk_tokens.specs.AcceptedTokens.{AreAcceptedTokens}
use Rattle.sql_lexer.specs.declared.script.script_place.ScriptPlace.{ScriptPlace}
use Rattle.sql_lexer.specs.declared.script.script_place.ScriptPlace.TheVariants.{Front, Inside}
use Rattle.sql_lexer.specs.ScriptLexing.{IsLexing, begun_at, place_of, tokens_left}
use Rattle.sql_lexer.specs.ScriptPlaces.{reach_of, unclosed_at, waiting_at}
use Rattle.sql_lexer.proofs.CutTokens.{IsAt, accepted_from}
use Rattle.sql_lexer.proofs.ScriptPlaces.{script}

-- no byte is passed, and nothing is unclosed
record IsAtRest (place : ScriptPlace) : Type 0 where
  reach : reach_of (place_of place) ≡ 0
  unclosed : unclosed_at (place_of place) ≡ 0

at_rest : (place : ScriptPlace) → IsAtRest place
at_rest Front = record { reach = refl; unclosed = refl }
at_rest (Inside zero) = record { reach = refl; unclosed = refl }
at_rest (Inside (suc waiting)) = record { reach = refl; unclosed = refl }

begins : (place : ScriptPlace) (text : List ℕ) → IsUtf8 text → IsAt script (place_of place) text 0
begins place text utf8 = record {
  utf8 = utf8;
  boundary = IsCharBoundary-start text utf8;
  reach = subst (IsCharBoundary text) (sym (at_rest place).reach) (IsCharBoundary-start text utf8);
}

pub script_accepted : (place : ScriptPlace) (text : List ℕ) → IsUtf8 text → length text ≤ 4294967295 → AreAcceptedTokens text (tokens_left (begun_at place text))
script_accepted place text utf8 short = accepted_from script (place_of place) text (begins place text utf8) short

pub begun-lexing : (place : ScriptPlace) (text : List ℕ) → IsUtf8 text → length text ≤ 4294967295 → waiting_at (place_of place) ≤ 4294967295 → IsLexing (begun_at place text)
begun-lexing place text utf8 short waits =
    let at = begins place text utf8 in
    let rest = at_rest place in
    record {
      utf8 = utf8;
      short = short;
      boundary = at.boundary;
      reach = at.reach;
      unclosed = omega (arith, rest.unclosed);
      waits = omega (arith, waits);
    }

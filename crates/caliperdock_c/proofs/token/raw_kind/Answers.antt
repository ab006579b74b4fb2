use Rattle.std.proofs.Common.{◌≤◌, inl, inr, None, arith, refl, sym}
use Rattle.std.proofs.lemmas.Bool.{cases_lt}
use Rattle.std.proofs.lemmas.List.{get_or_past}
use Rattle.squawk_tokens.specs.declared.token.TokenKind.TheVariants.{Unknown}
use Rattle.caliperdock_c.specs.Tokens.{kinds_numbered}
use Rattle.caliperdock_c.specs.declared.token.TheConstants.{PLAIN_KINDS}
use Rattle.caliperdock_c.proofs.PlainKinds.{in_segment}
use Rattle.caliperdock_c.proofs.token.raw_kind.Goals as goal

pub returns-in-0-to-1 : goal.returns-in-0-to-1
returns-in-0-to-1 c =
    let t = c.args.token.now in
    let kinds = kinds_numbered t in
    elim (cases_lt t.kind 2) [
      | inl first ↦ in_segment PLAIN_KINDS kinds 0 2 refl refl t.kind Unknown (omega arith) (omega arith)
      | inr past ↦
          elim (cases_lt t.kind 5) [
            | inl second ↦ in_segment PLAIN_KINDS kinds 3 2 refl refl t.kind Unknown (omega arith) (omega arith)
            | inr more ↦ in_segment PLAIN_KINDS kinds 8 28 refl refl t.kind Unknown (omega arith) (omega arith)
          ]
    ]

pub returns-in-45-to-4294967295 : goal.returns-in-45-to-4294967295
returns-in-45-to-4294967295 c =
    let t = c.args.token.now in
    let past : 45 ≤ t.kind = omega arith in
    sym (get_or_past (kinds_numbered t) t.kind None past)

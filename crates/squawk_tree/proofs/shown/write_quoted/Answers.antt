use Rattle.std.proofs.Common.{◌≡◌, ◌∙◌, ◌++◌, ◌∷◌, [], append_assoc, arith, ap, rules, subst, sym}
use Rattle.std.specs.Prelude.{IsUtf8, encode_utf8, string_bytes}
use Rattle.std.specs.List.{flat_map}
use Rattle.std.specs.Str.{chars}
use Rattle.std.proofs.lemmas.List.{append-nil, nil_from_length}
use Rattle.std.proofs.lemmas.Str.{chars-nil, chars_past_char, encode_ascii, IsUtf8-past_char}
use Rattle.squawk_tree.specs.TreeText.{escaped}
use Rattle.squawk_tree.proofs.Written.{OnOk-same}
use Rattle.squawk_tree.proofs.shown.write_quoted.Goals as goal

pub loop-c-init : goal.loop-c-init
loop-c-init c =
    let same : c.into_iter-c-iterator.result.rest.now ≡ c.args.text.now = search rules in
    record {
      utf8 = subst IsUtf8 (sym same) c.utf8.text;
      written = ap (λ left. string_bytes c.push.new.self ++ flat_map escaped (chars left)) same;
    }

pub loop-c-preserved : goal.loop-c-preserved
loop-c-preserved c =
    let rest = c.next.new.self.rest.now in
    let step : c.loop-c.c-iterator.rest.now ≡ encode_utf8 c.in-Some.c ++ rest = search rules in
    let first = chars_past_char c.loop-c.c-iterator.rest.now rest c.in-Some.c c.loop-c.invariant.utf8 step in
    record {
      utf8 = IsUtf8-past_char c.loop-c.c-iterator.rest.now rest c.in-Some.c c.loop-c.invariant.utf8 step;
      written = ap (λ bytes. bytes ++ flat_map escaped (chars rest)) c.in_ok-write_escaped.ensures
          ∙ (append_assoc (string_bytes c.loop-c.out) (escaped c.in-Some.c) (flat_map escaped (chars rest))
          ∙ (ap (λ left. string_bytes c.loop-c.out ++ flat_map escaped left) (sym first) ∙ c.loop-c.invariant.written));
    }

pub returns : goal.returns
returns c =
    let rest = c.loop-c.c-iterator.rest.now in
    let none : rest ≡ [] = nil_from_length rest c.in-None.ensures.steps.0.0 in
    let nothing : flat_map escaped (chars rest) ≡ [] = ap (λ left. flat_map escaped (chars left)) none ∙ ap (flat_map escaped) chars-nil in
    let written : string_bytes c.loop-c.out ≡ string_bytes c.push.new.self ++ flat_map escaped (chars c.args.text.now) =
    sym (append-nil (string_bytes c.loop-c.out)) ∙ (ap (λ left. string_bytes c.loop-c.out ++ left) (sym nothing) ∙ c.loop-c.invariant.written) in
    let quote : encode_utf8 34 ≡ 34 ∷ [] = encode_ascii 34 (omega arith) in
    let begun = c.in_ok-push.ensures.bytes ∙ ap (λ sign. string_bytes c.args.out.now ++ sign) quote in
    OnOk-same c.push-2.result _ _ _ _ c.push-2.ensures.bytes
    (ap (λ sign. string_bytes c.loop-c.out ++ sign) quote
    ∙ (ap (λ bytes. bytes ++ 34 ∷ []) (written ∙ ap (λ bytes. bytes ++ flat_map escaped (chars c.args.text.now)) begun)
    ∙ (append_assoc (string_bytes c.args.out.now ++ 34 ∷ []) (flat_map escaped (chars c.args.text.now)) (34 ∷ [])
    ∙ append_assoc (string_bytes c.args.out.now) (34 ∷ []) (flat_map escaped (chars c.args.text.now) ++ 34 ∷ []))))

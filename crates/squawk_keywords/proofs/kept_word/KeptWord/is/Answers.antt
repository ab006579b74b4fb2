use Rattle.std.proofs.Common.{◌∙◌, ◌==◌, ◌&&◌, ap}
use Rattle.std.specs.Str.{bytes_eq}
use Rattle.squawk_keywords.proofs.TextKeyLemmas.{is-text}
use Rattle.squawk_keywords.proofs.kept_word.KeptWord.is.Goals as goal

pub returns : goal.returns
returns c = λ text bytes key long.
    let word = c.self.inside in
    ap (λ len. (word.low == c.args.key.0) && (word.high == c.args.key.1) && (len == c.args.len)) c.from.ensures
    ∙ ap (λ len. (word.low == c.args.key.0) && (word.high == c.args.key.1) && (word.len == len)) long
    ∙ is-text word.len word.low word.high c.args.key text c.self.invariant bytes key
    ∙ ap (λ one. bytes_eq one.0 text) c.self.view_is

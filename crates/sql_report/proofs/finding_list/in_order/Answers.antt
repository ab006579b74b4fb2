use Rattle.std.proofs.Common.{◌≡◌, ℕ, refl, rules}
use Rattle.std.proofs.lemmas.Fn.{always_returns_same}
use Rattle.sql_report.specs.declared.finding_list.Finding.{Finding}
use Rattle.sql_report.proofs.finding_list.in_order.Goals as goal

abbrev place_of : Finding → ℕ
place_of finding = finding.at

pub returns : goal.returns
returns c =
    let computes = always_returns_same _ (λ a r. r ≡ place_of a.0.now) _ (λ a r q k. search rules) in
    record {
      gathered = c.args.all.items;
      tell = refl;
      same = c.in_ok-sort_by_key.ensures.permutation;
      sorted = c.in_ok-sort_by_key.ensures.sorted place_of computes;
      stable = c.in_ok-sort_by_key.ensures.stable place_of computes;
    }

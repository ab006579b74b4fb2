use Rattle.std.proofs.Common.{◌≡◌, ◌∙◌, ◌+◌, ◌-◌, ◌<◌, ◌^◌, ◌≤◌, ◌++◌, drop, length, take, ap, arith, rules, sym, length-drop, length-take}
use Rattle.std.specs.List.{copy_within}
use Rattle.sql_reader.specs.Readers.{leaving}
use Rattle.sql_reader.specs.Windows.{kept, unread}
use Rattle.sql_reader.proofs.Windows.{kept_gone, moved}
use Rattle.sql_reader.proofs.window.Window.go_on.Goals as goal

pub returns-clause-kept : goal.returns-clause-kept
returns-clause-kept c =
    let w = c.args.self.now in
    let bytes = w.bytes.items in
    let gone = c.leaving-gone.result in
    let start = w.start + c.args.count in
    let inside : start ≤ length bytes = omega (arith, c.requires, length-drop w.start bytes, w.within) in
    let stored : w.bytes.len ≡ length bytes = omega (arith, w.bytes.ok.0) in
    let len : c.len.result ≡ length bytes = omega (arith, c.len.ensures, stored) in
    let front : length (kept w) ≡ w.start = omega (arith, length-take w.start bytes, w.within) in
    let fits : start < 2 ^ 64 = search rules in
    let gone_is : gone ≡ leaving (length (kept w)) c.args.count = omega (arith, c.leaving-gone.ensures fits, front) in
    let within : gone ≤ start = omega (arith, gone_is, front) in
    let left : c.truncate.new.self.items ≡ drop gone bytes =
    c.truncate.ensures.items
    ∙ (ap (take (c.len.result - gone)) c.copy_within.ensures.items
    ∙ (ap (λ n. take (n - gone) (copy_within bytes gone w.bytes.len 0)) len
    ∙ (ap (λ n. take (length bytes - gone) (copy_within bytes gone n 0)) stored ∙ moved bytes gone (omega (arith, within, inside))))) in
    kept_gone bytes w.start c.args.count gone within
    ∙ (ap (λ n. take n (kept w ++ unread w) ++ take (start - gone) (drop gone bytes)) gone_is
    ∙ ap (λ xs. take (leaving (length (kept w)) c.args.count) (kept w ++ unread w) ++ take (start - gone) xs) (sym left))

use Rattle.std.proofs.Common.{◌≡◌, ◌≢◌, ◌++◌, ◌∷◌, [], true, false, arith}
use Rattle.squawk_kinds.specs.Kinds.{IDENT, INT_NUMBER, L_PAREN, R_PAREN}
use Rattle.squawk_parser.specs.State.{kind_at}
use Rattle.squawk_parser.proofs.RecordedSteps.{node_puts, puts-none, puts-then}
use Rattle.list_grammar.specs.Trees.{with_commas}
use Rattle.list_grammar.proofs.Reading.{ReadsSome-none}
use Rattle.list_grammar.proofs.Separators.{next_eats}
use Rattle.list_grammar.proofs.Written.{ends_at, item_deep, item_list, item_none, item_token, items_none, items_some, list_reads, next_reads, some_more}
use Rattle.list_grammar.proofs.+lists.Goals as goal

pub items-returns-then-is_end-clause-puts : goal.items-returns-then-is_end-clause-puts
items-returns-then-is_end-clause-puts t c = (_, puts-none c.args.p.now c.requires)

pub items-loop-p-preserved : goal.items-loop-p-preserved
items-loop-p-preserved t c =
    let before = c.loop-p.invariant in
    let next = c.next_item.ensures in
    let going : ends_at (kind_at c.loop-p.p 0) ≡ false = grind arith in
    record { steps = before.steps ++ next.puts.0; puts = puts-then before.puts next.puts.1; reads = some_more going next.reads before.reads }

pub items-returns-clause-puts : goal.items-returns-clause-puts
items-returns-clause-puts t c = (_, puts-then c.item.ensures.puts.1 c.loop-p.invariant.puts)

pub list-returns-clause-puts : goal.list-returns-clause-puts
list-returns-clause-puts t c =
    let inside = puts-then c.bump_any.ensures.puts (puts-then c.items.ensures.puts.1 c.expect.ensures.puts) in
    (_, node_puts c.start-node.ensures.begins inside c.complete.ensures.completes)

pub next_item-returns-clause-puts : goal.next_item-returns-clause-puts
next_item-returns-clause-puts t c = (_, puts-then c.expect.ensures.puts c.item.ensures.puts.1)

pub next_item-returns-clause-eats : goal.next_item-returns-clause-eats
next_item-returns-clause-eats t c =
    let comma = c.expect.ensures in
    let item = c.item.ensures in
    next_eats c.item.new.p c.requires.end c.requires.closed comma.puts item.eats item.puts.1.keeps.forward c.expect.result comma.at comma.eats

pub item-returns-in-IDENT-clause-reads : goal.item-returns-in-IDENT-clause-reads
item-returns-in-IDENT-clause-reads t c =
    let other : kind_at c.args.p.now 0 ≢ L_PAREN = grind arith in
    item_token other c.bump_any.ensures.puts

pub item-returns-in-L_PAREN-clause-reads : goal.item-returns-in-L_PAREN-clause-reads
item-returns-in-L_PAREN-clause-reads t c =
    let is : kind_at c.args.p.now 0 ≡ L_PAREN = grind arith in
    item_list is c.list.ensures.reads (omega arith)

pub item-returns-in-L_PAREN-2-clause-reads : goal.item-returns-in-L_PAREN-2-clause-reads
item-returns-in-L_PAREN-2-clause-reads t c =
    let is : kind_at c.args.p.now 0 ≡ L_PAREN = grind arith in
    let no_depth : c.args.depth ≡ 0 = grind arith in
    item_deep no_depth is

pub item-returns-in_default-clause-reads : goal.item-returns-in_default-clause-reads
item-returns-in_default-clause-reads t c =
    let no_name : kind_at c.args.p.now 0 ≢ IDENT = grind arith in
    let no_number : kind_at c.args.p.now 0 ≢ INT_NUMBER = grind arith in
    let no_list : kind_at c.args.p.now 0 ≢ L_PAREN = grind arith in
    item_none no_name no_number no_list

pub list-returns-clause-reads : goal.list-returns-clause-reads
list-returns-clause-reads t c =
    list_reads c.start-node.ensures.begins c.bump_any.ensures.puts c.items.ensures.reads c.expect.ensures.puts c.complete.ensures.completes

pub items-returns-then-is_end-clause-reads : goal.items-returns-then-is_end-clause-reads
items-returns-then-is_end-clause-reads t c =
    let end : ends_at (kind_at c.args.p.now 0) ≡ true = grind arith in
    items_none c.requires end

pub items-loop-p-init : goal.items-loop-p-init
items-loop-p-init t c =
    let sound = c.item.ensures.puts.1.keeps.sound in
    record { steps = []; puts = puts-none c.item.new.p sound; reads = ReadsSome-none c.args.depth with_commas (λ rest. R_PAREN ∷ rest) c.item.new.p sound }

pub items-returns-clause-reads : goal.items-returns-clause-reads
items-returns-clause-reads t c =
    let going : ends_at (kind_at c.args.p.now 0) ≡ false = grind arith in
    let end : ends_at (kind_at c.loop-p.p 0) ≡ true = grind arith in
    items_some going c.item.ensures.reads c.loop-p.invariant.reads end

pub next_item-returns-clause-reads : goal.next_item-returns-clause-reads
next_item-returns-clause-reads t c = next_reads c.expect.ensures.puts c.item.ensures.reads

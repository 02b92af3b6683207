use Rattle.std.proofs.Common.{◌∙◌, rules}
use Rattle.utility_trees.proofs.Differing.{one_more, one_seen, some_repeat}
use Rattle.utility_trees.proofs.repeated.is_seen_twice.Goals as goal

pub returns-then-not-is_new : goal.returns-then-not-is_new
returns-then-not-is_new c =
    let more = one_more (λ k. k.now) c.args.keys.now c.loop-key.key-index c.key-item.result c.loop-key-test.true c.key-item.is c.loop-key.seen.keys c.loop-key.invariant.seen
    c.loop-key.invariant.differ c.in_ok-is_new.is_new (search (rules, c.in_ok-is_new.ensures.added)) in
    some_repeat c.args.keys.now _ (more ∙ search rules)

pub loop-key-preserved : goal.loop-key-preserved
loop-key-preserved c =
    let more = one_more (λ k. k.now) c.args.keys.now c.loop-key.key-index c.key-item.result c.loop-key-test.true c.key-item.is c.loop-key.seen.keys c.loop-key.invariant.seen
    c.loop-key.invariant.differ c.in_ok-is_new.is_new (search (rules, c.in_ok-is_new.ensures.added)) in
    record { seen = one_seen (λ k. k.now) c.args.keys.now c.loop-key.key-index _ c.loop-key-test.true c.key-item.is c.loop-key.seen.keys c.insert_full.new.self.keys c.loop-key.invariant.seen _ c.in_ok-is_new.is_new c.in_ok-is_new.ensures.keys c.in_ok-is_new.ensures.added c.if-not-is_new.false; differ = more ∙ search rules }

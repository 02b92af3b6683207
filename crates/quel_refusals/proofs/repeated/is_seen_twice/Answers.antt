use Rattle.std.proofs.Common.{sym, ◌∙◌, rules}
use Rattle.quel_refusals.proofs.Twice.{one_more, one_seen, some_repeat}
use Rattle.quel_refusals.proofs.repeated.is_seen_twice.Goals as goal

pub returns-then-not-is_new : goal.returns-then-not-is_new
returns-then-not-is_new c =
    let more = one_more (λ n. n.now) c.args.names.now c.loop-name.name-index c.name-item.result c.loop-name-test.true c.name-item.is c.loop-name.seen.keys c.loop-name.invariant.seen
    c.loop-name.invariant.differ c.in_ok-is_new.is_new (search (rules, c.in_ok-is_new.ensures.added)) in
    sym (some_repeat (λ n. n.now) c.args.names.now _ (more ∙ search rules))

pub loop-name-preserved : goal.loop-name-preserved
loop-name-preserved c =
    let more = one_more (λ n. n.now) c.args.names.now c.loop-name.name-index c.name-item.result c.loop-name-test.true c.name-item.is c.loop-name.seen.keys c.loop-name.invariant.seen
    c.loop-name.invariant.differ c.in_ok-is_new.is_new (search (rules, c.in_ok-is_new.ensures.added)) in
    record { seen = one_seen c.args.names.now c.loop-name.name-index c.name-item.result c.loop-name-test.true c.name-item.is c.loop-name.seen.keys c.insert_full.new.self.keys c.loop-name.invariant.seen _ c.in_ok-is_new.is_new c.in_ok-is_new.ensures.keys c.in_ok-is_new.ensures.added c.if-not-is_new.false; differ = more ∙ search rules }

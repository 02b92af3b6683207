use Rattle.std.proofs.Common.{◌≡◌, ◌++◌, ◌+◌, ◌*◌, ◌<◌, ◌≤◌, length, true, arith, sym, length-append}
use Rattle.frame_codec.specs.Frames.{has_length}
use Rattle.frame_codec.proofs.Headers.{none_is_part, no_kind_is_bad, no_high_is_part, no_low_is_part, Begins, header_is_long, header_is_part, header_is_whole, length_short, part_shorter, long_within}
use Rattle.frame_codec.proofs.fronts.front_of.Goals as goal

pub returns-in_default-clause-front : goal.returns-in_default-clause-front
returns-in_default-clause-front c = sym (none_is_part (c.args.first.now ++ c.args.then.now) (cc))

pub returns-then-not-is_kind-clause-front : goal.returns-then-not-is_kind-clause-front
returns-then-not-is_kind-clause-front c = sym (no_kind_is_bad (c.args.first.now ++ c.args.then.now) c.in-Some.kind (cc) (cc))

pub returns-in_default-byte_at-clause-front : goal.returns-in_default-byte_at-clause-front
returns-in_default-byte_at-clause-front c = sym (no_high_is_part (c.args.first.now ++ c.args.then.now) c.in-Some.kind (cc) (cc) (cc))

pub returns-in_default-byte_at-2-clause-front : goal.returns-in_default-byte_at-2-clause-front
returns-in_default-byte_at-2-clause-front c = sym (no_low_is_part (c.args.first.now ++ c.args.then.now) c.in-Some.kind (cc) (cc) (cc))

pub returns-then-not-has_length-clause-front : goal.returns-then-not-has_length-clause-front
returns-then-not-has_length-clause-front c =
    let b : Begins (c.args.first.now ++ c.args.then.now) c.in-Some.kind c.in-Some-byte_at.high c.in-Some-byte_at-2.low =
    record { kind_there = cc; high_there = cc; low_there = cc; kind_is = cc } in
    sym (header_is_long (c.args.first.now ++ c.args.then.now) c.in-Some.kind c.in-Some-byte_at.high c.in-Some-byte_at-2.low b (cc))

pub returns-then-not-has_length-clause-sizes : goal.returns-then-not-has_length-clause-sizes
returns-then-not-has_length-clause-sizes c =
    let b : Begins (c.args.first.now ++ c.args.then.now) c.in-Some.kind c.in-Some-byte_at.high c.in-Some-byte_at-2.low =
    record { kind_there = cc; high_there = cc; low_there = cc; kind_is = cc } in
    let long = header_is_long (c.args.first.now ++ c.args.then.now) c.in-Some.kind c.in-Some-byte_at.high c.in-Some-byte_at-2.low b (cc) in
    let l = length-append c.args.first.now c.args.then.now in
    let w = long_within (c.args.first.now ++ c.args.then.now) long in
    omega arith

pub returns-then-first-then-clause-front : goal.returns-then-first-then-clause-front
returns-then-first-then-clause-front c =
    let b : Begins (c.args.first.now ++ c.args.then.now) c.in-Some.kind c.in-Some-byte_at.high c.in-Some-byte_at-2.low =
    record { kind_there = cc; high_there = cc; low_there = cc; kind_is = cc } in
    let l = length-append c.args.first.now c.args.then.now in
    let lt : length (c.args.first.now ++ c.args.then.now) < 3 + (256 * c.in-Some-byte_at.high + c.in-Some-byte_at-2.low) = omega arith in
    sym (header_is_part (c.args.first.now ++ c.args.then.now) c.in-Some.kind c.in-Some-byte_at.high c.in-Some-byte_at-2.low b (cc) lt)

pub returns-clause-front : goal.returns-clause-front
returns-clause-front c =
    let b : Begins (c.args.first.now ++ c.args.then.now) c.in-Some.kind c.in-Some-byte_at.high c.in-Some-byte_at-2.low =
    record { kind_there = cc; high_there = cc; low_there = cc; kind_is = cc } in
    let l = length-append c.args.first.now c.args.then.now in
    let le : 3 + (256 * c.in-Some-byte_at.high + c.in-Some-byte_at-2.low) ≤ length (c.args.first.now ++ c.args.then.now) = omega arith in
    sym (header_is_whole (c.args.first.now ++ c.args.then.now) c.in-Some.kind c.in-Some-byte_at.high c.in-Some-byte_at-2.low b (cc) le)

pub returns-clause-sizes : goal.returns-clause-sizes
returns-clause-sizes c =
    let h : has_length c.in-Some.kind (256 * c.in-Some-byte_at.high + c.in-Some-byte_at-2.low) ≡ true = cc in
    (omega arith, length_short c.in-Some.kind (256 * c.in-Some-byte_at.high + c.in-Some-byte_at-2.low) h)

pub returns-clause-outgrows : goal.returns-clause-outgrows
returns-clause-outgrows c = λ p.
    part_shorter c.args.first.now c.args.then.now c.in-Some.kind (256 * c.in-Some-byte_at.high + c.in-Some-byte_at-2.low) p (sym (returns-clause-front c))

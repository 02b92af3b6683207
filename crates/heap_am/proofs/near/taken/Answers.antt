use Rattle.std.proofs.Common.{◌≡◌, ◌+◌, ◌<◌, ◌≤◌, sym, ap, subst, [], ◌∷◌, ◌++◌, get_or, arith}
use Rattle.std.specs.List.{AllByRecursion}
use Rattle.heap_am.specs.Near.{IsRising}
use Rattle.heap_am.proofs.Rising.{rising_more, below_greater, below_more}
use Rattle.heap_am.proofs.near.taken.Goals as goal
use Rattle.heap_am.proofs.near.taken.Goals.{then-least-number+then-number-used+in_ok-push, else-least-number}

pub near-preserved : goal.near-preserved
near-preserved c =
    elim c.if-least-number.branch [
      | then-least-number+then-number-used+in_ok-push w ↦
          let number = get_or c.args.near.now c.near.number-index 0 in
          let items : c.if-least-number.numbers.items ≡ c.near.numbers.items ++ number ∷ [] = cc (w.numbers-is, w.in_ok-push.ensures.items) in
          let le : c.near.least ≤ number = omega (arith, w.if-least-number.true) in
          let lt : number < c.args.used = omega (arith, w.if-number-used.true) in
          let next : c.if-least-number.least ≡ number + 1 = omega (arith, w.least-is) in
          record {
            rising = subst (IsRising 0 c.args.used) (sym items)
                (rising_more 0 c.args.used number c.near.numbers.items c.near.invariant.rising (below_greater c.near.least number c.near.numbers.items c.near.invariant.below le) (omega arith) lt);
            below = subst (AllByRecursion (λ k. k < c.if-least-number.least)) (sym items)
                (below_more c.near.least number c.if-least-number.least c.near.numbers.items c.near.invariant.below le next);
          }
      | else-least-number w ↦
          let items : c.if-least-number.numbers.items ≡ c.near.numbers.items = ap (λ n. n.items) w.numbers-is in
          record {
            rising = subst (IsRising 0 c.args.used) (sym items) c.near.invariant.rising;
            below = subst (λ least. AllByRecursion (λ k. k < least) c.if-least-number.numbers.items) (sym w.least-is)
                (subst (AllByRecursion (λ k. k < c.near.least)) (sym items) c.near.invariant.below);
          }
    ]

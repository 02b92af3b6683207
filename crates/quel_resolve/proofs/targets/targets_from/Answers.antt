use Rattle.std.proofs.Common.{sym, subst, ◌∙◌, [], arith}
use Rattle.std.proofs.lemmas.List.{take_all}
use Rattle.quel_resolve.specs.Targets.{Puts}
use Rattle.quel_resolve.proofs.Putting.{counts_one_more, puts_nothing, puts_one_more}
use Rattle.quel_resolve.proofs.targets.targets_from.Goals as goal

pub loop-item-init : goal.loop-item-init
loop-item-init g c =
    let k = c.args.known in
    record {
      known = λ db h. subst (λ ts. Puts db k.vars.now k.infos.now k.inner_vars.now k.inner_infos.now 0 [] [] ts) (sym c.new-targets.ensures.items) (puts_nothing db _ _ _ _ 0 []);
      counted = λ few. omega arith;
      kept = cc;
      stays = λ s h. h;
      asked = λ b was. was;
      faults = cc;
    }

pub loop-item-preserved : goal.loop-item-preserved
loop-item-preserved g c = record {
  known = λ db h.
      puts_one_more db _ _ _ _ c.args.items.now c.loop-item.item-index c.item-item.result c.loop-item.slot _ _ _ c.loop-item-test.true c.item-item.is c.loop-item.invariant.counted
      (c.loop-item.invariant.known db h) (c.in_ok-push_item.ensures.known db (c.loop-item.invariant.stays _ h));
  counted = counts_one_more c.args.items.now c.loop-item.item-index c.item-item.result c.loop-item.slot c.slot_behind_item-slot.result c.loop-item-test.true c.item-item.is c.loop-item.invariant.counted
      c.slot_behind_item-slot.ensures;
  kept = c.in_ok-push_item.ensures.kept ∙ c.loop-item.invariant.kept;
  stays = λ s h. c.in_ok-push_item.ensures.stays s (c.loop-item.invariant.stays s h);
  asked = λ b was. c.in_ok-push_item.ensures.asked b (c.loop-item.invariant.asked b was);
  faults = c.in_ok-push_item.ensures.cause.caused ∙ c.loop-item.invariant.faults;
}

pub returns-clause-known : goal.returns-clause-known
returns-clause-known g c = λ db h.
    let k = c.args.known in
    subst (λ is. Puts db k.vars.now k.infos.now k.inner_vars.now k.inner_infos.now 0 is [] c.loop-item.targets.items) (take_all c.loop-item.item-index c.args.items.now c.loop-item-test.false)
    (c.loop-item.invariant.known db h)

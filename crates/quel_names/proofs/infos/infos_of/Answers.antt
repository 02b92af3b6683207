use Rattle.std.proofs.Common.{sym, ap, map, Some, ◌∙◌}
use Rattle.quel_meaning.specs.Scope.{ranged}
use Rattle.quel_names.proofs.Overs.{one_more, not_each, all_taken}
use Rattle.quel_names.specs.Asking.{scope_of}
use Rattle.quel_names.proofs.infos.infos_of.Goals as goal

pub returns-in-None-clause-known : goal.returns-in-None-clause-known
returns-in-None-clause-known g c = λ db user h.
    not_each db user c.args.ranges.now c.args.vars.now c.loop-var.var-index c.var-item.result c.loop-var-test.true c.var-item.is
    (sym c.in-None.is ∙ c.in_ok-info.ensures.known db (c.loop-var.invariant.stays db h))

pub loop-var-preserved : goal.loop-var-preserved
loop-var-preserved g c = record {
  known = λ db user h.
      one_more db user c.args.ranges.now c.args.vars.now c.loop-var.infos.items c.loop-var.var-index c.var-item.result c.in-Some.info (c.loop-var.invariant.known db user h) c.loop-var-test.true c.var-item.is
      (sym c.in-Some.is ∙ c.in_ok-info.ensures.known db (c.loop-var.invariant.stays db h))
      ∙ ap (map (λ i. Some i)) (sym c.in_ok-push-in-Some.ensures.behind);
  kept = c.in_ok-info.ensures.kept ∙ c.loop-var.invariant.kept;
  stays = λ s h. c.in_ok-info.ensures.stays s (c.loop-var.invariant.stays s h);
  asked = λ b was. c.in_ok-info.ensures.asked b (c.loop-var.invariant.asked b was);
  faults = c.in_ok-info.ensures.cause.caused ∙ c.loop-var.invariant.faults;
}

pub returns-clause-known : goal.returns-clause-known
returns-clause-known g c = λ db user h.
    ap (map (ranged (scope_of db user c.args.ranges.now))) (sym (all_taken c.args.vars.now c.loop-var.var-index c.loop-var-test.false c.loop-var.auto.var-index-end)) ∙ c.loop-var.invariant.known db user h

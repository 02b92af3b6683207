use Rattle.std.proofs.Common.{sym, ap, ◌∙◌, [], ◌∷◌, ◌++◌, length, subst, arith}
use Rattle.std.proofs.lemmas.List.{length-append}
use Rattle.calculus.specs.declared.probe.Probe.{Probe}
use Rattle.calculus.specs.Stored.{rows_at}
use Rattle.base_trait.specs.Scans.{Gave, first_place}
use Rattle.ovqp.proofs.ByScan.{one_more, all_given, too_many}
use Rattle.ovqp.proofs.scanned.put_scanned.Goals as goal

pub returns-in-None-clause-known : goal.returns-in-None-clause-known
returns-in-None-clause-known g c = λ db e.
    let probe : Probe = c.args.probe.now in
    let met = subst (λ o. Gave probe (g.B.Base.left c.loop-call.base c.args.key.now c.loop-call.at) (g.B.Base.left c.loop-call.base c.args.key.now c.scan.new.at) o)
    c.in-None.is (c.in_ok-row.ensures.known db (c.loop-call.invariant.kept ∙ e)) in
    all_given probe c.loop-call.rows.items (g.B.Base.left c.loop-call.base c.args.key.now c.loop-call.at) (g.B.Base.left c.args.base.now c.args.key.now first_place) (rows_at db c.args.key.now)
    c.requires.any met
    (ap (λ left. c.loop-call.rows.items ++ left c.args.key.now c.loop-call.at) c.loop-call.invariant.same ∙ c.loop-call.invariant.so_far db e)
    (g.B.Base.scanned c.args.base.now db c.args.key.now e)

pub loop-call-preserved : goal.loop-call-preserved
loop-call-preserved g c = record {
  kept = c.in_ok-row.ensures.kept ∙ c.loop-call.invariant.kept;
  stays = λ s e. c.in_ok-row.ensures.stays s (c.loop-call.invariant.stays s e);
  same = c.in_ok-row.ensures.same ∙ c.loop-call.invariant.same;
  asked = λ b was. c.in_ok-row.ensures.asked b (c.loop-call.invariant.asked b was);
  faults = c.in_ok-row.ensures.cause.caused ∙ c.loop-call.invariant.faults;
  counted = omega (arith, ap length c.in_ok-push-in-Some.ensures.behind, length-append c.loop-call.rows.items (c.in-Some.row ∷ []), c.loop-call.invariant.counted);
  so_far = λ db e.
      let probe : Probe = c.args.probe.now in
      let met = subst (λ o. Gave probe (g.B.Base.left c.loop-call.base c.args.key.now c.loop-call.at) (g.B.Base.left c.loop-call.base c.args.key.now c.scan.new.at) o)
      c.in-Some.is (c.in_ok-row.ensures.known db (c.loop-call.invariant.kept ∙ e)) in
      (λ i. c.in_ok-push-in-Some.ensures.behind i ++ sym c.loop-call.invariant.same i c.args.key.now c.scan.new.at)
      ∙ one_more probe c.loop-call.rows.items (g.B.Base.left c.loop-call.base c.args.key.now c.loop-call.at) (g.B.Base.left c.loop-call.base c.args.key.now c.scan.new.at)
      (g.B.Base.left c.args.base.now c.args.key.now first_place) c.in-Some.row c.requires.any met
      (ap (λ left. c.loop-call.rows.items ++ left c.args.key.now c.loop-call.at) c.loop-call.invariant.same ∙ c.loop-call.invariant.so_far db e);
}

pub returns-clause-cause : goal.returns-clause-cause
returns-clause-cause g c = record {
  later = omega (arith, c.loop-call.invariant.faults);
  caused = (
    too_many (g.B.Base.database c.args.base.now) (g.B.Base.left c.args.base.now) c.args.key.now c.loop-call.at c.loop-call.rows.items
        (λ db e. g.B.Base.lawful c.args.base.now db (g.B.Base.own c.args.base.now db e)) (λ db. g.B.Base.scanned c.args.base.now db c.args.key.now) c.loop-call.invariant.so_far (omega arith),
    c.loop-call.invariant.faults,
  );
}

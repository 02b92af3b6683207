use Rattle.std.proofs.Common.{◌≡◌, refl, subst, ◌∙◌, arith, rules, Err, None, Some}
use Rattle.base_trait.specs.Scans.{Gave, first_place}
use Rattle.calculus.specs.declared.probe.Probe.{Probe}
use Rattle.ovqp.specs.Given.{given_fault}
use Rattle.ovqp.proofs.Assigning.{read_none, read_more, read_all, too_many, row_lacks, scan_fails}
use Rattle.ovqp.proofs.scanning.put_scanned.Goals as goal

pub loop-call-init : goal.loop-call-init
loop-call-init g c = record {
  kept = refl;
  stays = λ s e. e;
  same = refl;
  asked = λ b was. was;
  faults = refl;
  so_far = λ db e q is. read_none q (g.B.Base.left c.args.base.now c.args.rel.now first_place) c.args.given.now.items c.requires.empty;
}

pub returns-in-None-clause-known : goal.returns-in-None-clause-known
returns-in-None-clause-known g c = λ db e q is.
    let probe : Probe = c.args.probe.now in
    let met = subst (λ o. Gave probe (g.B.Base.left c.loop-call.base c.args.rel.now c.loop-call.at) (g.B.Base.left c.loop-call.base c.args.rel.now c.scan.new.at) o)
    c.in-None.is (c.in_ok-row.ensures.known db (c.loop-call.invariant.kept ∙ e)) in
    let here = subst (λ left. Gave probe (left c.args.rel.now c.loop-call.at) (left c.args.rel.now c.scan.new.at) None) c.loop-call.invariant.same met in
    read_all probe q (g.B.Base.left c.args.base.now c.args.rel.now first_place) (g.B.Base.left c.args.base.now c.args.rel.now c.loop-call.at) c.loop-call.call c.loop-call.given.items
    c.requires.any here (c.loop-call.invariant.so_far db e q is)

pub loop-call-preserved : goal.loop-call-preserved
loop-call-preserved g c = record {
  kept = c.in_ok-row.ensures.kept ∙ c.loop-call.invariant.kept;
  stays = λ s e. c.in_ok-row.ensures.stays s (c.loop-call.invariant.stays s e);
  same = c.in_ok-row.ensures.same ∙ c.loop-call.invariant.same;
  asked = λ b was. c.in_ok-row.ensures.asked b (c.loop-call.invariant.asked b was);
  faults = c.in_ok-row.ensures.cause.caused ∙ c.loop-call.invariant.faults;
  so_far = λ db e q is.
      let probe : Probe = c.args.probe.now in
      let met = subst (λ o. Gave probe (g.B.Base.left c.loop-call.base c.args.rel.now c.loop-call.at) (g.B.Base.left c.loop-call.base c.args.rel.now c.scan.new.at) o)
      c.in-Some.is (c.in_ok-row.ensures.known db (c.loop-call.invariant.kept ∙ e)) in
      let here = subst (λ left. Gave probe (left c.args.rel.now c.loop-call.at) (left c.args.rel.now c.scan.new.at) (Some c.in-Some.row)) c.loop-call.invariant.same met in
      read_more probe q (g.B.Base.left c.args.base.now c.args.rel.now first_place) (g.B.Base.left c.args.base.now c.args.rel.now c.loop-call.at)
      (g.B.Base.left c.args.base.now c.args.rel.now c.scan.new.at) c.loop-call.call c.in-Some.row c.loop-call.given.items c.give_of.new.given.items
      c.requires.any here (c.loop-call.invariant.so_far db e q is) (c.in_ok-give_of-in-Some.ensures.given q is.asks is.gives);
}

pub returns-in_err-give_of-in-Some-clause-cause : goal.returns-in_err-give_of-in-Some-clause-cause
returns-in_err-give_of-in-Some-clause-cause g c = λ q is.
    let probe : Probe = c.args.probe.now in
    let fault = c.in_err-give_of-in-Some.field-0.0 in
    let given : c.from_residual-in_err-give_of-in-Some.result ≡ Err (given_fault fault) = search rules in
    scan_fails q c.args.rel.now (g.B.Base.database c.args.base.now) (g.B.Base.faults c.args.base.now) (g.B.Base.faults c.scan.new.self) fault
    c.from_residual-in_err-give_of-in-Some.result given (c.in_ok-row.ensures.cause.caused ∙ c.loop-call.invariant.faults)
    (λ db e.
    let met = subst (λ o. Gave probe (g.B.Base.left c.loop-call.base c.args.rel.now c.loop-call.at) (g.B.Base.left c.loop-call.base c.args.rel.now c.scan.new.at) o)
    c.in-Some.is (c.in_ok-row.ensures.known db (c.loop-call.invariant.kept ∙ e)) in
    let here = subst (λ left. Gave probe (left c.args.rel.now c.loop-call.at) (left c.args.rel.now c.scan.new.at) (Some c.in-Some.row)) c.loop-call.invariant.same met in
    row_lacks probe db c.args.rel.now q (g.B.Base.left c.args.base.now c.args.rel.now first_place) (g.B.Base.left c.args.base.now c.args.rel.now c.loop-call.at)
    (g.B.Base.left c.args.base.now c.args.rel.now c.scan.new.at) c.loop-call.call c.loop-call.given.items c.in-Some.row fault
    c.requires.any here (c.loop-call.invariant.so_far db e q is) (g.B.Base.scanned c.args.base.now db c.args.rel.now e)
    (c.in_err-give_of-in-Some.ensures.cause q is.asks is.gives))

pub returns-clause-cause : goal.returns-clause-cause
returns-clause-cause g c = λ q is. record {
  later = omega (arith, c.loop-call.invariant.faults);
  caused = (
    too_many (g.B.Base.database c.args.base.now) c.args.rel.now (λ db e. g.B.Base.lawful c.args.base.now db (g.B.Base.own c.args.base.now db e))
        (λ db e. (
          g.B.Base.left c.args.base.now c.args.rel.now first_place,
          g.B.Base.left c.args.base.now c.args.rel.now c.loop-call.at,
          c.loop-call.call,
          c.loop-call.given.items,
          q,
          c.loop-call.invariant.so_far db e q is,
          g.B.Base.scanned c.args.base.now db c.args.rel.now e,
          omega arith,
        )),
    c.loop-call.invariant.faults,
  );
}

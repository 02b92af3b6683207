use Rattle.std.proofs.Common.{◌≡◌, sym, ◌∙◌, ◌∷◌, [], not, Some, None, true, false, subst, length, arith}
use Rattle.calculus.specs.declared.probe.Probe.{Probe}
use Rattle.calculus.specs.Rows.{Row}
use Rattle.calculus.specs.Stored.{rows_at}
use Rattle.calculus.specs.Term.{holds, no_aggs}
use Rattle.base_trait.specs.Scans.{Gave, first_place, next_meeting}
use Rattle.utilities.proofs.Breaking.{found, passed, ended, one_fewer, of_all, too_many}
use Rattle.utilities.proofs.meeting.some_row_fails.Goals as goal

pub returns-then-branch-clause-known : goal.returns-then-branch-clause-known
returns-then-branch-clause-known g c = λ db e.
    let probe : Probe = c.args.probe.now in
    let left = g.B.Base.left c.args.base.now c.args.key.now in
    let gave = subst (λ o. Gave probe (g.B.Base.left c.loop-call.base c.args.key.now c.loop-call.place) (g.B.Base.left c.loop-call.base c.args.key.now c.scan.new.at) o)
    c.in-Some.is (c.in_ok-row.ensures.known db (c.loop-call.invariant.kept ∙ e)) in
    let met = subst (λ given. next_meeting probe (given c.args.key.now c.loop-call.place) ≡ Some (c.in-Some.row, given c.args.key.now c.scan.new.at)) c.loop-call.invariant.same gave in
    of_all (λ (row : Row). not (holds no_aggs c.args.qual.now (row ∷ []))) (rows_at db c.args.key.now) (left first_place) true (g.B.Base.scanned c.args.base.now db c.args.key.now e)
    (c.loop-call.invariant.so_far db e
    ∙ found (λ (row : Row). not (holds no_aggs c.args.qual.now (row ∷ []))) probe (left c.loop-call.place) (left c.scan.new.at) c.in-Some.row c.requires.any met
    (sym c.in_ok-fails-in-Some.ensures.fails ∙ c.if-branch.true))

pub returns-in-None-clause-known : goal.returns-in-None-clause-known
returns-in-None-clause-known g c = λ db e.
    let probe : Probe = c.args.probe.now in
    let left = g.B.Base.left c.args.base.now c.args.key.now in
    let gave = subst (λ o. Gave probe (g.B.Base.left c.loop-call.base c.args.key.now c.loop-call.place) (g.B.Base.left c.loop-call.base c.args.key.now c.scan.new.at) o)
    c.in-None.is (c.in_ok-row.ensures.known db (c.loop-call.invariant.kept ∙ e)) in
    let met = subst (λ given. next_meeting probe (given c.args.key.now c.loop-call.place) ≡ None) c.loop-call.invariant.same gave in
    of_all (λ (row : Row). not (holds no_aggs c.args.qual.now (row ∷ []))) (rows_at db c.args.key.now) (left first_place) false (g.B.Base.scanned c.args.base.now db c.args.key.now e)
    (c.loop-call.invariant.so_far db e ∙ ended (λ (row : Row). not (holds no_aggs c.args.qual.now (row ∷ []))) probe (left c.loop-call.place) c.requires.any met)

pub loop-call-preserved : goal.loop-call-preserved
loop-call-preserved g c = record {
  kept = c.in_ok-row.ensures.kept ∙ c.loop-call.invariant.kept;
  stays = λ s e. c.in_ok-row.ensures.stays s (c.loop-call.invariant.stays s e);
  asked = λ b was. c.in_ok-row.ensures.asked b (c.loop-call.invariant.asked b was);
  same = c.in_ok-row.ensures.same ∙ c.loop-call.invariant.same;
  later = c.in_ok-row.ensures.cause.caused ∙ c.loop-call.invariant.later;
  none = c.in_ok-fails-in-Some.ensures.none;
  counted = λ db e.
      let probe : Probe = c.args.probe.now in
      let left = g.B.Base.left c.args.base.now c.args.key.now in
      let gave = subst (λ o. Gave probe (g.B.Base.left c.loop-call.base c.args.key.now c.loop-call.place) (g.B.Base.left c.loop-call.base c.args.key.now c.scan.new.at) o)
      c.in-Some.is (c.in_ok-row.ensures.known db (c.loop-call.invariant.kept ∙ e)) in
      let met = subst (λ given. next_meeting probe (given c.args.key.now c.loop-call.place) ≡ Some (c.in-Some.row, given c.args.key.now c.scan.new.at)) c.loop-call.invariant.same gave in
      one_fewer probe (left c.loop-call.place) (left c.scan.new.at) c.in-Some.row c.loop-call.call (length (left first_place)) c.requires.any met (c.loop-call.invariant.counted db e);
  so_far = λ db e.
      let probe : Probe = c.args.probe.now in
      let left = g.B.Base.left c.args.base.now c.args.key.now in
      let gave = subst (λ o. Gave probe (g.B.Base.left c.loop-call.base c.args.key.now c.loop-call.place) (g.B.Base.left c.loop-call.base c.args.key.now c.scan.new.at) o)
      c.in-Some.is (c.in_ok-row.ensures.known db (c.loop-call.invariant.kept ∙ e)) in
      let met = subst (λ given. next_meeting probe (given c.args.key.now c.loop-call.place) ≡ Some (c.in-Some.row, given c.args.key.now c.scan.new.at)) c.loop-call.invariant.same gave in
      c.loop-call.invariant.so_far db e
      ∙ passed (λ (row : Row). not (holds no_aggs c.args.qual.now (row ∷ []))) probe (left c.loop-call.place) (left c.scan.new.at) c.in-Some.row c.requires.any met
      (sym c.in_ok-fails-in-Some.ensures.fails ∙ c.if-branch.false);
}

pub returns-clause-cause : goal.returns-clause-cause
returns-clause-cause g c = record {
  later = omega (arith, c.loop-call.invariant.later);
  caused = (
    too_many (g.B.Base.database c.args.base.now) (g.B.Base.left c.args.base.now) c.args.key.now c.loop-call.place c.loop-call.call
        (λ db e. g.B.Base.lawful c.args.base.now db (g.B.Base.own c.args.base.now db e)) (λ db. g.B.Base.scanned c.args.base.now db c.args.key.now) c.loop-call.invariant.counted (omega (arith, c.loop-call-test.false)),
    c.loop-call.invariant.later,
  );
}

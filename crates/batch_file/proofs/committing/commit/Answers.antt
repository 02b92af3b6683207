use Rattle.std.proofs.Common.{◌≡◌, ◌+◌, ℕ, length, take, refl, ◌∙◌, ap, subst, arith}
use Rattle.std.proofs.lemmas.List.{take_more, take_all}
use Rattle.disk_model.specs.Disk.{LeavesOnly}
use Rattle.disk_model.specs.History.{CameSo}
use Rattle.batch_file.specs.Order.{Completes, Applies}
use Rattle.batch_file.specs.Layout.{Entries}
use Rattle.batch_file.specs.Redone.{kept, laid}
use Rattle.batch_file.specs.OnDisk.{BeforeOrAfter}
use Rattle.batch_file.proofs.Calling.{Gathers, gathers_none, gathers_more, commits}
use Rattle.batch_file.proofs.Collecting.{all_places, collecting_starts, collects}
use Rattle.batch_file.proofs.Outside.{apart_joins, still_shut, gives_up, then_run, then_laid}
use Rattle.batch_file.proofs.committing.commit.Goals as goal

pub loop-a-init : goal.loop-a-init
loop-a-init g c = record {
  known = λ known. collecting_starts g.D.Disk.seen g.D.Disk.touched g.D.Disk.clock g.D.Disk.left_since c.args.disk.now c.begin-batch.result (c.begin-batch.ensures.held (g.D.Disk.seen c.args.disk.now)) (c.begin-batch.ensures.none (g.D.Disk.seen c.args.disk.now)) (λ m left. g.met.D.Disk.only_now c.args.disk.now m known left);
  none = λ e. refl;
  size = c.begin-batch.ensures.count;
  made = gathers_none _ c.begin-batch.result c.begin-batch.ensures.held c.begin-batch.ensures.none;
  faults = refl;
}

pub add-requires-clause-shut : goal.add-requires-clause-shut
add-requires-clause-shut g c = λ known.
    still_shut g.D.Disk.seen g.D.Disk.touched g.D.Disk.clock g.D.Disk.left_since c.args.disk.now c.loop-a.disk (c.requires.shut known) (c.loop-a.invariant.known known).apart.change

pub finish-requires-clause-shut : goal.finish-requires-clause-shut
finish-requires-clause-shut g c = λ known.
    still_shut g.D.Disk.seen g.D.Disk.touched g.D.Disk.clock g.D.Disk.left_since c.args.disk.now c.loop-a.disk (c.requires.shut known) (c.loop-a.invariant.known known).apart.change

pub returns-in_err-add-clause-crash : goal.returns-in_err-add-clause-crash
returns-in_err-add-clause-crash g c = λ known.
    gives_up g.D.Disk.seen g.D.Disk.touched g.D.Disk.clock g.D.Disk.left_since c.args.disk.now c.add.new.disk c.args.changes.now (c.requires.shut known)
    (apart_joins g.D.Disk.seen g.D.Disk.touched g.D.Disk.clock g.D.Disk.left_since c.args.disk.now c.loop-a.disk c.add.new.disk (c.loop-a.invariant.known known).apart (c.add.ensures.change known) (c.add.ensures.crash known))

pub loop-a-preserved : goal.loop-a-preserved
loop-a-preserved g c = record {
  known = λ known. collects g.D.Disk.seen g.D.Disk.touched g.D.Disk.clock g.D.Disk.left_since (take c.loop-a.a-index c.args.changes.now) (take (c.loop-a.a-index + 1) c.args.changes.now) c.args.disk.now c.loop-a.disk c.add.new.disk c.loop-a.batch c.add.new.self _ _
      (c.loop-a.invariant.known known) (c.add.ensures.change known) (c.add.ensures.crash known) (c.in_ok-add.ensures.held known) (c.in_ok-add.ensures.added known) (take_more c.args.changes.now c.loop-a.a-index _ c.loop-a-test.true);
  none = λ e. absurd (omega arith);
  size = c.in_ok-add.ensures.count ∙ ap (λ (n : ℕ). n + 1) c.loop-a.invariant.size;
  made = gathers_more _ _ _ c.loop-a.batch c.add.new.self (take c.loop-a.a-index c.args.changes.now) (take (c.loop-a.a-index + 1) c.args.changes.now) _ c.loop-a.invariant.made c.in_ok-add.ensures.made (take_more c.args.changes.now c.loop-a.a-index _ c.loop-a-test.true);
  faults = c.in_ok-add.ensures.cause.answered ∙ c.loop-a.invariant.faults;
}

pub returns-in_err-finish-clause-crash : goal.returns-in_err-finish-clause-crash
returns-in_err-finish-clause-crash g c = λ known.
    let whole : take c.loop-a.a-index c.args.changes.now ≡ c.args.changes.now = take_all c.loop-a.a-index c.args.changes.now (omega arith) in
    let listed = (c.loop-a.invariant.known known).listed ∙ whole in
    then_run g.D.Disk.seen g.D.Disk.touched g.D.Disk.clock g.D.Disk.left_since c.args.disk.now c.loop-a.disk c.args.changes.now (c.requires.shut known) (all_places c.args.changes.now c.requires.places) (c.loop-a.invariant.known known).apart c.finish.new.disk
    (subst (λ (l : Entries). LeavesOnly g.D.Disk.clock g.D.Disk.left_since c.loop-a.disk c.finish.new.disk (BeforeOrAfter (g.D.Disk.seen c.loop-a.disk) (g.D.Disk.touched c.loop-a.disk) l)) listed (c.finish.ensures.crash known))

pub returns-clause-crash : goal.returns-clause-crash
returns-clause-crash g c = λ known.
    let whole : take c.loop-a.a-index c.args.changes.now ≡ c.args.changes.now = take_all c.loop-a.a-index c.args.changes.now (omega arith) in
    let listed = (c.loop-a.invariant.known known).listed ∙ whole in
    then_run g.D.Disk.seen g.D.Disk.touched g.D.Disk.clock g.D.Disk.left_since c.args.disk.now c.loop-a.disk c.args.changes.now (c.requires.shut known) (all_places c.args.changes.now c.requires.places) (c.loop-a.invariant.known known).apart c.finish.new.disk
    (subst (λ (l : Entries). LeavesOnly g.D.Disk.clock g.D.Disk.left_since c.loop-a.disk c.finish.new.disk (BeforeOrAfter (g.D.Disk.seen c.loop-a.disk) (g.D.Disk.touched c.loop-a.disk) l)) listed (c.finish.ensures.crash known))

pub returns-clause-laid : goal.returns-clause-laid
returns-clause-laid g c = λ known.
    let whole : take c.loop-a.a-index c.args.changes.now ≡ c.args.changes.now = take_all c.loop-a.a-index c.args.changes.now (omega arith) in
    let listed = (c.loop-a.invariant.known known).listed ∙ whole in
    then_laid g.D.Disk.seen g.D.Disk.touched g.D.Disk.clock g.D.Disk.left_since c.args.disk.now c.loop-a.disk c.args.changes.now (c.requires.shut known) (all_places c.args.changes.now c.requires.places) (c.loop-a.invariant.known known).apart c.finish.new.disk
    (c.in_ok-finish.ensures.laid known ∙ ap (λ (l : Entries). kept (laid l (g.D.Disk.seen c.loop-a.disk))) listed)

pub returns-clause-made : goal.returns-clause-made
returns-clause-made g c = λ some.
    let size : c.loop-a.batch.count ≡ length c.args.changes.now = omega (arith, c.loop-a.invariant.size) in
    let whole : take c.loop-a.a-index c.args.changes.now ≡ c.args.changes.now = take_all c.loop-a.a-index c.args.changes.now (omega arith) in
    commits _ _ _ c.loop-a.batch c.args.changes.now (length c.args.changes.now)
    (subst (λ (l : Entries). CameSo (g.D.Disk.history c.args.disk.now) (g.D.Disk.history c.loop-a.disk) (Gathers c.loop-a.batch l)) whole c.loop-a.invariant.made)
    (subst (λ (n : ℕ). CameSo (g.D.Disk.history c.loop-a.disk) (g.D.Disk.history c.finish.new.disk) (Applies (Completes c.loop-a.batch) n)) size (c.in_ok-finish.ensures.made (omega (arith, size, some))))

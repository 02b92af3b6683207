use Rattle.std.proofs.Common.{◌/◌, ◌∙◌, ap, subst}
use Rattle.disk_model.specs.Disk.{LeavesOnly}
use Rattle.batch_file.specs.Layout.{Entries}
use Rattle.batch_file.specs.Redone.{kept, laid}
use Rattle.batch_file.specs.OnDisk.{BeforeOrAfter}
use Rattle.batch_file.specs.Staged.{staged, completed}
use Rattle.batch_file.proofs.Form.{named}
use Rattle.batch_file.proofs.Calling.{finishes}
use Rattle.batch_file.proofs.Finishing.{nothing_run}
use Rattle.batch_file.proofs.Adding.{due_rest, all_staged, all_whole}
use Rattle.batch_file.proofs.Outside.{apart_starts, addresses_written, still_shut, gives_up, then_run, then_laid}
use Rattle.batch_file.proofs.stage.Batch.finish.Goals as goal

pub returns-then-self-eq0-clause-crash : goal.returns-then-self-eq0-clause-crash
returns-then-self-eq0-clause-crash g c = λ known.
    nothing_run g.D.Disk.seen g.D.Disk.touched g.D.Disk.clock g.D.Disk.left_since c.args.disk.now (staged (g.D.Disk.seen c.args.disk.now) c.args.self) (λ m left. g.met.D.Disk.only_now c.args.disk.now m known left)

pub returns-in_err-write_if-clause-crash : goal.returns-in_err-write_if-clause-crash
returns-in_err-write_if-clause-crash g c = λ known.
    let one = addresses_written g.D.Disk.seen g.D.Disk.touched g.D.Disk.clock g.D.Disk.left_since c.args.disk.now c.args.disk.now c.write_if.new.disk (c.args.self.count / 128)
    (apart_starts g.D.Disk.seen g.D.Disk.touched g.D.Disk.clock g.D.Disk.left_since c.args.disk.now (λ m left. g.met.D.Disk.only_now c.args.disk.now m known left)) (c.write_if.ensures.change known) (c.write_if.ensures.time known) in
    gives_up g.D.Disk.seen g.D.Disk.touched g.D.Disk.clock g.D.Disk.left_since c.args.disk.now c.write_if.new.disk (staged (g.D.Disk.seen c.args.disk.now) c.args.self) (c.requires.shut known) one

pub apply_batch-requires-clause-shut : goal.apply_batch-requires-clause-shut
apply_batch-requires-clause-shut g c = λ known.
    let one = addresses_written g.D.Disk.seen g.D.Disk.touched g.D.Disk.clock g.D.Disk.left_since c.args.disk.now c.args.disk.now c.write_if.new.disk (c.args.self.count / 128)
    (apart_starts g.D.Disk.seen g.D.Disk.touched g.D.Disk.clock g.D.Disk.left_since c.args.disk.now (λ m left. g.met.D.Disk.only_now c.args.disk.now m known left)) (c.write_if.ensures.change known) (c.write_if.ensures.time known) in
    still_shut g.D.Disk.seen g.D.Disk.touched g.D.Disk.clock g.D.Disk.left_since c.args.disk.now c.write_if.new.disk (c.requires.shut known) one.change

pub apply_batch-requires-clause-whole : goal.apply_batch-requires-clause-whole
apply_batch-requires-clause-whole g c = λ known.
    all_whole (g.D.Disk.seen c.args.disk.now) (g.D.Disk.seen c.write_if.new.disk) c.args.self (c.write_if.ensures.change known).elsewhere (λ rest. c.in_ok-write_if.ensures.written known (due_rest c.args.self.count rest)) (c.requires.held known)

pub returns-in_err-apply_batch-clause-crash : goal.returns-in_err-apply_batch-clause-crash
returns-in_err-apply_batch-clause-crash g c = λ known.
    let one = addresses_written g.D.Disk.seen g.D.Disk.touched g.D.Disk.clock g.D.Disk.left_since c.args.disk.now c.args.disk.now c.write_if.new.disk (c.args.self.count / 128)
    (apart_starts g.D.Disk.seen g.D.Disk.touched g.D.Disk.clock g.D.Disk.left_since c.args.disk.now (λ m left. g.met.D.Disk.only_now c.args.disk.now m known left)) (c.write_if.ensures.change known) (c.write_if.ensures.time known) in
    let listed = all_staged (g.D.Disk.seen c.args.disk.now) (g.D.Disk.seen c.write_if.new.disk) c.args.self (c.write_if.ensures.change known).elsewhere (λ rest. c.in_ok-write_if.ensures.written known (due_rest c.args.self.count rest)) in
    let cs = staged (g.D.Disk.seen c.args.disk.now) c.args.self in
    let places = named (completed (g.D.Disk.seen c.args.disk.now) c.args.self) c.args.self.count (c.requires.held known).addresses in
    then_run g.D.Disk.seen g.D.Disk.touched g.D.Disk.clock g.D.Disk.left_since c.args.disk.now c.write_if.new.disk cs (c.requires.shut known) places one c.apply_batch.new.disk
    (subst (λ (l : Entries). LeavesOnly g.D.Disk.clock g.D.Disk.left_since c.write_if.new.disk c.apply_batch.new.disk (BeforeOrAfter (g.D.Disk.seen c.write_if.new.disk) (g.D.Disk.touched c.write_if.new.disk) l)) listed (c.apply_batch.ensures.crash known))

pub returns-clause-crash : goal.returns-clause-crash
returns-clause-crash g c = λ known.
    let one = addresses_written g.D.Disk.seen g.D.Disk.touched g.D.Disk.clock g.D.Disk.left_since c.args.disk.now c.args.disk.now c.write_if.new.disk (c.args.self.count / 128)
    (apart_starts g.D.Disk.seen g.D.Disk.touched g.D.Disk.clock g.D.Disk.left_since c.args.disk.now (λ m left. g.met.D.Disk.only_now c.args.disk.now m known left)) (c.write_if.ensures.change known) (c.write_if.ensures.time known) in
    let listed = all_staged (g.D.Disk.seen c.args.disk.now) (g.D.Disk.seen c.write_if.new.disk) c.args.self (c.write_if.ensures.change known).elsewhere (λ rest. c.in_ok-write_if.ensures.written known (due_rest c.args.self.count rest)) in
    let cs = staged (g.D.Disk.seen c.args.disk.now) c.args.self in
    let places = named (completed (g.D.Disk.seen c.args.disk.now) c.args.self) c.args.self.count (c.requires.held known).addresses in
    then_run g.D.Disk.seen g.D.Disk.touched g.D.Disk.clock g.D.Disk.left_since c.args.disk.now c.write_if.new.disk cs (c.requires.shut known) places one c.apply_batch.new.disk
    (subst (λ (l : Entries). LeavesOnly g.D.Disk.clock g.D.Disk.left_since c.write_if.new.disk c.apply_batch.new.disk (BeforeOrAfter (g.D.Disk.seen c.write_if.new.disk) (g.D.Disk.touched c.write_if.new.disk) l)) listed (c.apply_batch.ensures.crash known))

pub returns-clause-laid : goal.returns-clause-laid
returns-clause-laid g c = λ known.
    let one = addresses_written g.D.Disk.seen g.D.Disk.touched g.D.Disk.clock g.D.Disk.left_since c.args.disk.now c.args.disk.now c.write_if.new.disk (c.args.self.count / 128)
    (apart_starts g.D.Disk.seen g.D.Disk.touched g.D.Disk.clock g.D.Disk.left_since c.args.disk.now (λ m left. g.met.D.Disk.only_now c.args.disk.now m known left)) (c.write_if.ensures.change known) (c.write_if.ensures.time known) in
    let listed = all_staged (g.D.Disk.seen c.args.disk.now) (g.D.Disk.seen c.write_if.new.disk) c.args.self (c.write_if.ensures.change known).elsewhere (λ rest. c.in_ok-write_if.ensures.written known (due_rest c.args.self.count rest)) in
    let cs = staged (g.D.Disk.seen c.args.disk.now) c.args.self in
    let places = named (completed (g.D.Disk.seen c.args.disk.now) c.args.self) c.args.self.count (c.requires.held known).addresses in
    then_laid g.D.Disk.seen g.D.Disk.touched g.D.Disk.clock g.D.Disk.left_since c.args.disk.now c.write_if.new.disk cs (c.requires.shut known) places one c.apply_batch.new.disk
    (c.in_ok-apply_batch.ensures.laid known ∙ ap (λ (l : Entries). kept (laid l (g.D.Disk.seen c.write_if.new.disk))) listed)

pub returns-clause-made : goal.returns-clause-made
returns-clause-made g c = λ some. finishes _ _ _ c.args.self _ (due_rest c.args.self.count) c.in_ok-write_if.ensures.made c.in_ok-apply_batch.ensures.made

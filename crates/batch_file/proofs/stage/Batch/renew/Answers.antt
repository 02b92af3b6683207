use Rattle.batch_file.proofs.Adding.{staged_renewed, holds_renewed}
use Rattle.batch_file.proofs.Outside.{apart_starts, image_written, still_shut}
use Rattle.batch_file.proofs.stage.Batch.renew.Goals as goal

pub returns-in_err-write-clause-crash : goal.returns-in_err-write-clause-crash
returns-in_err-write-clause-crash g c = λ known.
    let one = image_written g.D.Disk.seen g.D.Disk.touched g.D.Disk.clock g.D.Disk.left_since c.args.disk.now c.args.disk.now c.write.new.self c.args.i
    (apart_starts g.D.Disk.seen g.D.Disk.touched g.D.Disk.clock g.D.Disk.left_since c.args.disk.now (λ m left. g.met.D.Disk.only_now c.args.disk.now m known left)) (c.write.ensures.change known) (c.write.ensures.time known) in
    one.run

pub returns-in_err-write-clause-shut : goal.returns-in_err-write-clause-shut
returns-in_err-write-clause-shut g c = λ known.
    let one = image_written g.D.Disk.seen g.D.Disk.touched g.D.Disk.clock g.D.Disk.left_since c.args.disk.now c.args.disk.now c.write.new.self c.args.i
    (apart_starts g.D.Disk.seen g.D.Disk.touched g.D.Disk.clock g.D.Disk.left_since c.args.disk.now (λ m left. g.met.D.Disk.only_now c.args.disk.now m known left)) (c.write.ensures.change known) (c.write.ensures.time known) in
    still_shut g.D.Disk.seen g.D.Disk.touched g.D.Disk.clock g.D.Disk.left_since c.args.disk.now c.write.new.self (c.requires.shut known) one.change

pub returns-clause-crash : goal.returns-clause-crash
returns-clause-crash g c = λ known.
    let one = image_written g.D.Disk.seen g.D.Disk.touched g.D.Disk.clock g.D.Disk.left_since c.args.disk.now c.args.disk.now c.write.new.self c.args.i
    (apart_starts g.D.Disk.seen g.D.Disk.touched g.D.Disk.clock g.D.Disk.left_since c.args.disk.now (λ m left. g.met.D.Disk.only_now c.args.disk.now m known left)) (c.write.ensures.change known) (c.write.ensures.time known) in
    one.run

pub returns-clause-shut : goal.returns-clause-shut
returns-clause-shut g c = λ known.
    let one = image_written g.D.Disk.seen g.D.Disk.touched g.D.Disk.clock g.D.Disk.left_since c.args.disk.now c.args.disk.now c.write.new.self c.args.i
    (apart_starts g.D.Disk.seen g.D.Disk.touched g.D.Disk.clock g.D.Disk.left_since c.args.disk.now (λ m left. g.met.D.Disk.only_now c.args.disk.now m known left)) (c.write.ensures.change known) (c.write.ensures.time known) in
    still_shut g.D.Disk.seen g.D.Disk.touched g.D.Disk.clock g.D.Disk.left_since c.args.disk.now c.write.new.self (c.requires.shut known) one.change

pub returns-clause-renewed : goal.returns-clause-renewed
returns-clause-renewed g c = λ known.
    staged_renewed (g.D.Disk.seen c.args.disk.now) (g.D.Disk.seen c.write.new.self) c.args.self.now c.args.i c.args.page.now (c.write.ensures.change known).elsewhere (c.in_ok-write.ensures.written known) c.requires.there

pub returns-clause-held : goal.returns-clause-held
returns-clause-held g c = λ known.
    holds_renewed (g.D.Disk.seen c.args.disk.now) (g.D.Disk.seen c.write.new.self) c.args.self.now c.args.i c.args.page.now (c.write.ensures.change known).elsewhere (c.in_ok-write.ensures.written known) (c.requires.held known)

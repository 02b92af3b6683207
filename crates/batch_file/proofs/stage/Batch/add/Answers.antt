use Rattle.std.proofs.Common.{◌+◌, ◌/◌, ◌∙◌, refl, arith}
use Rattle.batch_file.specs.Layout.{addr}
use Rattle.batch_file.specs.declared.stage.Batch.{Batch}
use Rattle.batch_file.proofs.Adding.{files_differ, due_full, is_next, staged_more, holds_more}
use Rattle.batch_file.proofs.Calling.{came_then, adds}
use Rattle.batch_file.proofs.Outside.{apart_starts, image_written, addresses_written, still_shut}
use Rattle.batch_file.proofs.stage.Batch.add.Goals as goal

pub returns-in_err-write-clause-crash : goal.returns-in_err-write-clause-crash
returns-in_err-write-clause-crash g c = λ known.
    let one = image_written g.D.Disk.seen g.D.Disk.touched g.D.Disk.clock g.D.Disk.left_since c.args.disk.now c.args.disk.now c.write.new.self c.args.self.now.count
    (apart_starts g.D.Disk.seen g.D.Disk.touched g.D.Disk.clock g.D.Disk.left_since c.args.disk.now (λ m left. g.met.D.Disk.only_now c.args.disk.now m known left)) (c.write.ensures.change known) (c.write.ensures.time known) in
    one.run

pub returns-in_err-write-clause-shut : goal.returns-in_err-write-clause-shut
returns-in_err-write-clause-shut g c = λ known.
    let one = image_written g.D.Disk.seen g.D.Disk.touched g.D.Disk.clock g.D.Disk.left_since c.args.disk.now c.args.disk.now c.write.new.self c.args.self.now.count
    (apart_starts g.D.Disk.seen g.D.Disk.touched g.D.Disk.clock g.D.Disk.left_since c.args.disk.now (λ m left. g.met.D.Disk.only_now c.args.disk.now m known left)) (c.write.ensures.change known) (c.write.ensures.time known) in
    still_shut g.D.Disk.seen g.D.Disk.touched g.D.Disk.clock g.D.Disk.left_since c.args.disk.now c.write.new.self (c.requires.shut known) one.change

pub returns-in_err-write_if-clause-crash : goal.returns-in_err-write_if-clause-crash
returns-in_err-write_if-clause-crash g c = λ known.
    let one = image_written g.D.Disk.seen g.D.Disk.touched g.D.Disk.clock g.D.Disk.left_since c.args.disk.now c.args.disk.now c.write.new.self c.args.self.now.count
    (apart_starts g.D.Disk.seen g.D.Disk.touched g.D.Disk.clock g.D.Disk.left_since c.args.disk.now (λ m left. g.met.D.Disk.only_now c.args.disk.now m known left)) (c.write.ensures.change known) (c.write.ensures.time known) in
    let two = addresses_written g.D.Disk.seen g.D.Disk.touched g.D.Disk.clock g.D.Disk.left_since c.args.disk.now c.write.new.self c.write_if.new.disk (c.args.self.now.count / 128)
    one (c.write_if.ensures.change known) (c.write_if.ensures.time known) in
    two.run

pub returns-in_err-write_if-clause-shut : goal.returns-in_err-write_if-clause-shut
returns-in_err-write_if-clause-shut g c = λ known.
    let one = image_written g.D.Disk.seen g.D.Disk.touched g.D.Disk.clock g.D.Disk.left_since c.args.disk.now c.args.disk.now c.write.new.self c.args.self.now.count
    (apart_starts g.D.Disk.seen g.D.Disk.touched g.D.Disk.clock g.D.Disk.left_since c.args.disk.now (λ m left. g.met.D.Disk.only_now c.args.disk.now m known left)) (c.write.ensures.change known) (c.write.ensures.time known) in
    let two = addresses_written g.D.Disk.seen g.D.Disk.touched g.D.Disk.clock g.D.Disk.left_since c.args.disk.now c.write.new.self c.write_if.new.disk (c.args.self.now.count / 128)
    one (c.write_if.ensures.change known) (c.write_if.ensures.time known) in
    still_shut g.D.Disk.seen g.D.Disk.touched g.D.Disk.clock g.D.Disk.left_since c.args.disk.now c.write_if.new.disk (c.requires.shut known) two.change

pub returns-clause-crash : goal.returns-clause-crash
returns-clause-crash g c = λ known.
    let one = image_written g.D.Disk.seen g.D.Disk.touched g.D.Disk.clock g.D.Disk.left_since c.args.disk.now c.args.disk.now c.write.new.self c.args.self.now.count
    (apart_starts g.D.Disk.seen g.D.Disk.touched g.D.Disk.clock g.D.Disk.left_since c.args.disk.now (λ m left. g.met.D.Disk.only_now c.args.disk.now m known left)) (c.write.ensures.change known) (c.write.ensures.time known) in
    let two = addresses_written g.D.Disk.seen g.D.Disk.touched g.D.Disk.clock g.D.Disk.left_since c.args.disk.now c.write.new.self c.write_if.new.disk (c.args.self.now.count / 128)
    one (c.write_if.ensures.change known) (c.write_if.ensures.time known) in
    two.run

pub returns-clause-shut : goal.returns-clause-shut
returns-clause-shut g c = λ known.
    let one = image_written g.D.Disk.seen g.D.Disk.touched g.D.Disk.clock g.D.Disk.left_since c.args.disk.now c.args.disk.now c.write.new.self c.args.self.now.count
    (apart_starts g.D.Disk.seen g.D.Disk.touched g.D.Disk.clock g.D.Disk.left_since c.args.disk.now (λ m left. g.met.D.Disk.only_now c.args.disk.now m known left)) (c.write.ensures.change known) (c.write.ensures.time known) in
    let two = addresses_written g.D.Disk.seen g.D.Disk.touched g.D.Disk.clock g.D.Disk.left_since c.args.disk.now c.write.new.self c.write_if.new.disk (c.args.self.now.count / 128)
    one (c.write_if.ensures.change known) (c.write_if.ensures.time known) in
    still_shut g.D.Disk.seen g.D.Disk.touched g.D.Disk.clock g.D.Disk.left_since c.args.disk.now c.write_if.new.disk (c.requires.shut known) two.change

pub returns-clause-added : goal.returns-clause-added
returns-clause-added g c = λ known.
    let batch = c.args.self.now in
    let more : Batch = record { count = batch.count + 1; addresses = c.put_address.new.page } in
    let next = is_next (g.D.Disk.seen c.args.disk.now) (g.D.Disk.seen c.write_if.new.disk) batch more c.args.a c.args.page.now refl c.put_address.ensures.there c.put_address.ensures.others
    (λ b off_image off_page. (c.write_if.ensures.change known).elsewhere b off_page ∙ (c.write.ensures.change known).elsewhere b off_image)
    ((c.write_if.ensures.change known).elsewhere (addr 4 batch.count) (files_differ 4 3 batch.count (batch.count / 128) (omega arith)) ∙ c.in_ok-write.ensures.written known)
    (λ full. c.in_ok-write_if.ensures.written known (due_full batch.count full)) in
    staged_more (g.D.Disk.seen c.args.disk.now) (g.D.Disk.seen c.write_if.new.disk) batch more c.args.a c.args.page.now refl next

pub returns-clause-held : goal.returns-clause-held
returns-clause-held g c = λ known.
    let batch = c.args.self.now in
    let more : Batch = record { count = batch.count + 1; addresses = c.put_address.new.page } in
    let next = is_next (g.D.Disk.seen c.args.disk.now) (g.D.Disk.seen c.write_if.new.disk) batch more c.args.a c.args.page.now refl c.put_address.ensures.there c.put_address.ensures.others
    (λ b off_image off_page. (c.write_if.ensures.change known).elsewhere b off_page ∙ (c.write.ensures.change known).elsewhere b off_image)
    ((c.write_if.ensures.change known).elsewhere (addr 4 batch.count) (files_differ 4 3 batch.count (batch.count / 128) (omega arith)) ∙ c.in_ok-write.ensures.written known)
    (λ full. c.in_ok-write_if.ensures.written known (due_full batch.count full)) in
    holds_more (g.D.Disk.seen c.args.disk.now) (g.D.Disk.seen c.write_if.new.disk) batch more c.args.a c.args.page.now refl next (c.requires.held known) c.requires.place

pub returns-clause-made : goal.returns-clause-made
returns-clause-made g c =
    let batch = c.args.self.now in
    let more : Batch = record { count = batch.count + 1; addresses = c.put_address.new.page } in (
      _,
      came_then _ _ _ _ _ c.in_ok-write.ensures.noted c.in_ok-write_if.ensures.made,
      adds batch more c.args.a c.args.page.now refl _ (due_full batch.count) c.put_address.ensures.there c.put_address.ensures.others c.requires.place,
    )

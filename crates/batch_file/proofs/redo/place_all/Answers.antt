use Rattle.std.proofs.Common.{rules, ◌≡◌, ◌+◌, ◌∙◌, inl, arith}
use Rattle.batch_file.specs.declared.fault.RestoreFault.TheVariants.{Disk}
use Rattle.batch_file.proofs.Calling.{places_more}
use Rattle.batch_file.proofs.Placing.{buffered_now, buffered_then, lawful_now, has_now, step_run, step_done}
use Rattle.batch_file.proofs.redo.place_all.Goals as goal

pub next_entry-requires : goal.next_entry-requires
next_entry-requires g c = λ known.
    buffered_now g.D.Disk.seen g.D.Disk.touched g.D.Disk.clock g.D.Disk.left_since c.args.count c.loop-k.k c.args.disk.now c.loop-k.disk (c.requires known) (c.loop-k.invariant.known known) c.loop-k.k c.loop-k.buffer (c.loop-k.invariant.buffered known)

pub returns-in_err-a-clause-whole : goal.returns-in_err-a-clause-whole
returns-in_err-a-clause-whole g c = λ known.
    let so_far = c.loop-k.invariant.known known in
    let lawful = lawful_now g.D.Disk.seen g.D.Disk.touched g.D.Disk.clock g.D.Disk.left_since c.args.count c.loop-k.k c.args.disk.now c.loop-k.disk (omega arith) (c.requires known) so_far in
    let has = has_now g.D.Disk.seen g.D.Disk.touched g.D.Disk.clock g.D.Disk.left_since c.args.count c.loop-k.k c.args.disk.now c.loop-k.disk (omega arith) (c.requires known) so_far in
    let fault : c.in_err-a.field-0.0 ≡ Disk = c.in_err-a.ensures.whole known lawful has in
    inl (search (rules, fault))

pub returns-in_err-write-clause-crash : goal.returns-in_err-write-clause-crash
returns-in_err-write-clause-crash g c = λ known.
    step_run g.D.Disk.seen g.D.Disk.touched g.D.Disk.clock g.D.Disk.left_since c.args.count c.loop-k.k c.args.disk.now c.loop-k.disk (omega arith) (c.requires known) (c.loop-k.invariant.known known)
    c.next_entry.new.disk c.write.new.self _ _ (c.next_entry.ensures.same known) (c.in_ok-a.ensures.entry known) (c.write.ensures.change known) (c.write.ensures.time known)

pub loop-k-preserved : goal.loop-k-preserved
loop-k-preserved g c = record {
  known = λ known. step_done g.D.Disk.seen g.D.Disk.touched g.D.Disk.clock g.D.Disk.left_since c.args.count c.loop-k.k c.args.disk.now c.loop-k.disk (omega arith) (c.requires known) (c.loop-k.invariant.known known)
      c.next_entry.new.disk c.write.new.self _ _ (c.next_entry.ensures.same known) (c.in_ok-a.ensures.entry known) (c.write.ensures.change known) (c.write.ensures.time known)
      (c.in_ok-write.ensures.written known);
  buffered = λ known. buffered_then g.D.Disk.seen g.D.Disk.touched g.D.Disk.clock g.D.Disk.left_since c.args.count c.loop-k.k c.args.disk.now c.loop-k.disk (c.requires known) (c.loop-k.invariant.known known) (c.loop-k.k + 1) c.next_entry.new.buffer (c.in_ok-a.ensures.buffered known);
  made = places_more _ _ _ _ c.loop-k.k _ _ c.loop-k.invariant.made c.next_entry.ensures.unwritten c.in_ok-write.ensures.noted c.in_ok-a.ensures.place;
  faults = c.in_ok-write.ensures.cause.answered ∙ c.in_ok-a.ensures.cause.answered (λ e. absurd (cc e)) ∙ c.loop-k.invariant.faults;
}

use Rattle.std.proofs.Common.{◌≡◌, rules, true, false}
use Rattle.net_core.specs.declared.fault.WorkFault.TheVariants as faults
use Rattle.monitor.specs.Faults.{IsOfReading}
use Rattle.monitor.proofs.Counting.{line_reads, line_unshelved, shelf_failed, shelf_no_memory, shelf_ok, shelf_same, shelf_unused}
use Rattle.monitor.proofs.Ended.{asked_as, asked_err, asked_then}
use Rattle.monitor.proofs.Erring.{handed_on, if_err}
use Rattle.monitor.proofs.Filling.{may_end_so, may_read_on, read_end, read_line_on}
use Rattle.monitor.proofs.Lined.{source_as, source_err, source_then}
use Rattle.monitor.proofs.reader.Reader.read_on.Goals as goal

-- ---- no line was read

pub returns-in_err-fill-clause-source : goal.returns-in_err-fill-clause-source
returns-in_err-fill-clause-source g c =
    let f = c.in_err-fill.field-0.0 in
    let r = c.from_residual.result in
    source_err f r (handed_on r f c.from_residual.ensures.1) c.in_err-fill.ensures.source

pub returns-in_err-fill-clause-shelf : goal.returns-in_err-fill-clause-shelf
returns-in_err-fill-clause-shelf g c =
    let f = c.in_err-fill.field-0.0 in
    let r = c.from_residual.result in
    shelf_unused (g.H.Shelf.faults c.args.shelf.now) f r (handed_on r f c.from_residual.ensures.1) (line_unshelved (g.H.Shelf.faults c.args.shelf.now) f c.in_err-fill.ensures.inside)

pub returns-in_err-fill-clause-inside : goal.returns-in_err-fill-clause-inside
returns-in_err-fill-clause-inside g c =
    let f = c.in_err-fill.field-0.0 in
    let r = c.from_residual.result in
    if_err r f (λ x. IsOfReading x) (handed_on r f c.from_residual.ensures.1) (line_reads f c.in_err-fill.ensures.inside)

pub returns-then-not-branch-clause-did : goal.returns-then-not-branch-clause-did
returns-then-not-branch-clause-did g c = λ known script shelf there.
    let none : c.in_ok-fill.field-0 ≡ false = search rules in
    read_end c.args.self.now c.fill.new.self known script c.in_ok-fill.field-0 (g.S.Source.left c.fill.new.source) c.args.out.now.items none (c.in_ok-fill.ensures.did known script there) c.requires

pub returns-then-not-branch-clause-may : goal.returns-then-not-branch-clause-may
returns-then-not-branch-clause-may g c = λ known shelf.
    let none : c.in_ok-fill.field-0 ≡ false = search rules in
    may_end_so c.args.self.now c.fill.new.self known c.in_ok-fill.field-0 c.args.out.now.items none (c.in_ok-fill.ensures.may known) c.requires

pub returns-then-not-branch-clause-source : goal.returns-then-not-branch-clause-source
returns-then-not-branch-clause-source g c = source_as _ _ c.in_ok-fill.ensures.source

pub returns-then-not-branch-clause-shelf : goal.returns-then-not-branch-clause-shelf
returns-then-not-branch-clause-shelf g c = shelf_same _ _

-- ---- a line was read

pub returns-in-Ok-clause-did : goal.returns-in-Ok-clause-did
returns-in-Ok-clause-did g c = λ known script shelf there.
    let some : c.in_ok-fill.field-0 ≡ true = search rules in
    read_line_on c.args.self.now c.fill.new.self c.run.new.self known script c.in_ok-fill.field-0 (g.S.Source.left c.fill.new.source) c.args.out.now.items c.run.new.out.items c.in-Ok.event some (c.in_ok-fill.ensures.did known script there) c.requires
    (c.in-Ok.ensures.did known shelf)

pub returns-in-Ok-clause-may : goal.returns-in-Ok-clause-may
returns-in-Ok-clause-may g c = λ known shelf.
    let some : c.in_ok-fill.field-0 ≡ true = search rules in
    may_read_on c.args.self.now c.fill.new.self c.run.new.self known c.in_ok-fill.field-0 c.args.out.now.items c.run.new.out.items c.in-Ok.event some (c.in_ok-fill.ensures.may known) c.requires (c.in-Ok.ensures.did known shelf)

pub returns-in-Ok-clause-source : goal.returns-in-Ok-clause-source
returns-in-Ok-clause-source g c = source_as _ _ c.in_ok-fill.ensures.source

pub returns-in-Ok-clause-shelf : goal.returns-in-Ok-clause-shelf
returns-in-Ok-clause-shelf g c = shelf_ok _ _ c.in-Ok.ensures.cause

pub returns-in-Err-Failed-clause-source : goal.returns-in-Err-Failed-clause-source
returns-in-Err-Failed-clause-source g c = source_then _ faults.Shelf tt c.in_ok-fill.ensures.source

pub returns-in-Err-Failed-clause-shelf : goal.returns-in-Err-Failed-clause-shelf
returns-in-Err-Failed-clause-shelf g c = shelf_failed (rw c.in-Err-Failed.field-0-is at c.in-Err-Failed.ensures.cause)

pub returns-in-Err-OutOfMemory-clause-source : goal.returns-in-Err-OutOfMemory-clause-source
returns-in-Err-OutOfMemory-clause-source g c = source_then _ faults.OutOfMemory tt c.in_ok-fill.ensures.source

pub returns-in-Err-OutOfMemory-clause-shelf : goal.returns-in-Err-OutOfMemory-clause-shelf
returns-in-Err-OutOfMemory-clause-shelf g c = shelf_no_memory (rw c.in-Err-OutOfMemory.field-0-is at c.in-Err-OutOfMemory.ensures.cause)

-- ---- whether the source was asked

pub returns-in_err-fill-clause-ends : goal.returns-in_err-fill-clause-ends
returns-in_err-fill-clause-ends g c =
    let f = c.in_err-fill.field-0.0 in
    let r = c.from_residual.result in
    asked_err f r (handed_on r f c.from_residual.ensures.1) c.in_err-fill.ensures.ends

pub returns-then-not-branch-clause-ends : goal.returns-then-not-branch-clause-ends
returns-then-not-branch-clause-ends g c = asked_as _ _ c.in_ok-fill.ensures.ends

pub returns-in-Ok-clause-ends : goal.returns-in-Ok-clause-ends
returns-in-Ok-clause-ends g c = asked_as _ _ c.in_ok-fill.ensures.ends

pub returns-in-Err-Failed-clause-ends : goal.returns-in-Err-Failed-clause-ends
returns-in-Err-Failed-clause-ends g c = asked_then _ faults.Shelf tt c.in_ok-fill.ensures.ends

pub returns-in-Err-OutOfMemory-clause-ends : goal.returns-in-Err-OutOfMemory-clause-ends
returns-in-Err-OutOfMemory-clause-ends g c = asked_then _ faults.OutOfMemory tt c.in_ok-fill.ensures.ends

use Rattle.std.proofs.Common.{◌≡◌, ◌+◌, subst, rules, ℕ, None, false, length}
use Rattle.std.specs.Prelude.{◌==◌}
use Rattle.std.specs.declared.option.Option.{Option}
use Rattle.net_core.specs.declared.fault.WorkFault.TheVariants as faults
use Rattle.monitor.specs.Faults.{IsLater}
use Rattle.monitor.specs.Lines.{IsByte}
use Rattle.monitor.proofs.Erring.{handed_on, if_err}
use Rattle.monitor.proofs.Ended.{end_failed, end_faulty, end_reached, end_whole}
use Rattle.monitor.proofs.Lined.{first_byte, line_as, line_begun, line_ends, line_failed, line_grown, line_on, line_whole, none_ends, one_last, one_whole}
use Rattle.monitor.proofs.lines.read_line.Goals as goal

pub bytes-init : goal.bytes-init
bytes-init g c = (line_begun c.new-line.result.items c.args.heard.now (g.S.Source.left c.args.source.now) (g.S.Source.given c.args.source.now) (g.S.Source.faults c.args.source.now) c.new-line.ensures.items, λ e. e)

pub bytes-preserved : goal.bytes-preserved
bytes-preserved g c =
    let other : (c.in-Some.byte == 10) ≡ false = search rules in
    let more : c.read_byte.new.heard ≡ c.bytes.heard + 1 = rw c.in-Some.is at c.in_ok-byte.ensures.counts in
    (line_grown c.bytes.line.items c.put_byte.new.line.items c.in-Some.byte c.in_ok-byte.field-0 c.in-Some.is c.bytes.invariant.0 c.in_ok-byte.ensures.byte c.in_ok-byte.ensures.source more other c.in_ok-put_byte.ensures, λ e. c.in_ok-byte.ensures.stays (c.bytes.invariant.1 e))

pub returns-in_err-byte-clause-source : goal.returns-in_err-byte-clause-source
returns-in_err-byte-clause-source g c =
    let f = c.in_err-byte.field-0.0 in
    let r = c.from_residual.result in
    line_failed c.bytes.line.items f r (handed_on r f c.from_residual.ensures.1) c.bytes.invariant.0 c.in_err-byte.ensures.source

pub returns-in_err-byte-clause-ends : goal.returns-in_err-byte-clause-ends
returns-in_err-byte-clause-ends g c =
    let f = c.in_err-byte.field-0.0 in
    let r = c.from_residual.result in
    end_failed f r (handed_on r f c.from_residual.ensures.1) c.bytes.invariant.1 c.in_err-byte.ensures.going

pub returns-in_err-put_byte-clause-source : goal.returns-in_err-put_byte-clause-source
returns-in_err-put_byte-clause-source g c =
    let r = c.from_residual-in_err-put_byte.result in
    line_on c.bytes.line.items c.in_ok-byte.field-0 r (if_err r faults.OutOfMemory (λ f. IsLater f) (handed_on r faults.OutOfMemory c.from_residual-in_err-put_byte.ensures.1) tt) c.bytes.invariant.0 c.in_ok-byte.ensures.source

pub returns-in_err-put_byte-clause-ends : goal.returns-in_err-put_byte-clause-ends
returns-in_err-put_byte-clause-ends g c =
    let r = c.from_residual-in_err-put_byte.result in
    end_faulty faults.OutOfMemory r (handed_on r faults.OutOfMemory c.from_residual-in_err-put_byte.ensures.1) tt

pub returns-then-byte-eq10-clause-ends : goal.returns-then-byte-eq10-clause-ends
returns-then-byte-eq10-clause-ends g c = end_whole c.bytes.line.items c.in_ok-byte.field-0 c.in-Some.byte _ c.in-Some.is c.if-byte-eq10.true c.bytes.invariant.0.script c.in_ok-byte.ensures.byte (λ e. c.in_ok-byte.ensures.stays (c.bytes.invariant.1 e))

pub returns-then-byte-eq10-clause-source : goal.returns-then-byte-eq10-clause-source
returns-then-byte-eq10-clause-source g c = line_as c.bytes.line.items c.in_ok-byte.field-0 _ c.bytes.invariant.0 c.in_ok-byte.ensures.source

pub returns-then-byte-eq10-clause-line : goal.returns-then-byte-eq10-clause-line
returns-then-byte-eq10-clause-line g c = λ script known.
    let was = c.bytes.invariant.0.script script known in
    line_whole script c.bytes.line.items was.0 c.put_byte.new.line.items c.in-Some.byte (g.S.Source.left c.read_byte.new.source) c.bytes.invariant.0.plain was.2
    (first_byte was.0 c.in_ok-byte.field-0 c.in-Some.byte _ c.in-Some.is (c.in_ok-byte.ensures.byte was.0 was.1)) c.if-byte-eq10.true c.in_ok-put_byte.ensures

pub returns-then-byte-eq10-clause-one : goal.returns-then-byte-eq10-clause-one
returns-then-byte-eq10-clause-one g c = one_whole c.bytes.line.items c.put_byte.new.line.items c.in-Some.byte c.bytes.invariant.0.plain c.if-byte-eq10.true c.in_ok-put_byte.ensures

pub returns-then-is_empty-clause-source : goal.returns-then-is_empty-clause-source
returns-then-is_empty-clause-source g c = line_as c.bytes.line.items c.in_ok-byte.field-0 _ c.bytes.invariant.0 c.in_ok-byte.ensures.source

pub returns-then-is_empty-clause-line : goal.returns-then-is_empty-clause-line
returns-then-is_empty-clause-line g c = λ script known.
    let was = c.bytes.invariant.0.script script known in
    let none : c.in_ok-byte.field-0 ≡ None = search rules in
    let empty : length c.bytes.line.items ≡ 0 = search rules in
    none_ends script c.bytes.line.items was.0 (g.S.Source.left c.read_byte.new.source) was.2
    (subst (λ (o : Option ℕ). IsByte was.0 o (g.S.Source.left c.read_byte.new.source)) none (c.in_ok-byte.ensures.byte was.0 was.1)) empty

pub returns-clause-source : goal.returns-clause-source
returns-clause-source g c = line_as c.bytes.line.items c.in_ok-byte.field-0 _ c.bytes.invariant.0 c.in_ok-byte.ensures.source

pub returns-clause-line : goal.returns-clause-line
returns-clause-line g c = λ script known.
    let was = c.bytes.invariant.0.script script known in
    let none : c.in_ok-byte.field-0 ≡ None = search rules in
    let some : length c.bytes.line.items ≡ 0 → ⊥ = search rules in
    line_ends script c.bytes.line.items was.0 (g.S.Source.left c.read_byte.new.source) c.bytes.invariant.0.plain was.2
    (subst (λ (o : Option ℕ). IsByte was.0 o (g.S.Source.left c.read_byte.new.source)) none (c.in_ok-byte.ensures.byte was.0 was.1)) some

pub returns-clause-one : goal.returns-clause-one
returns-clause-one g c =
    let some : length c.bytes.line.items ≡ 0 → ⊥ = search rules in
    one_last c.bytes.line.items c.bytes.invariant.0.plain some

pub returns-then-is_empty-clause-ends : goal.returns-then-is_empty-clause-ends
returns-then-is_empty-clause-ends g c =
    let none : c.in_ok-byte.field-0 ≡ None = search rules in
    end_reached _ (rw none at c.in_ok-byte.ensures.over)

pub returns-clause-ends : goal.returns-clause-ends
returns-clause-ends g c =
    let none : c.in_ok-byte.field-0 ≡ None = search rules in
    end_reached _ (rw none at c.in_ok-byte.ensures.over)

use Rattle.std.proofs.Common.{◌≡◌, subst, rules, [], Some, None, true, false}
use Rattle.net_core.specs.declared.fault.WorkFault.TheVariants as faults
use Rattle.quel_meaning.specs.Monitor.{parts_of}
use Rattle.quel_network.specs.Sorts.{Monitor}
use Rattle.monitor.specs.Faults.{IsLater}
use Rattle.net_core.specs.Reads.{ReadsScript}
use Rattle.network_meaning.specs.LocalSteps.{Mode.reading}
use Rattle.monitor.specs.Files.{IsNext}
use Rattle.monitor.specs.Lines.{IsLine, IsOneLine}
use Rattle.monitor.specs.Reading.{Fills, MayFill}
use Rattle.monitor.proofs.Ended.{asked_nothing, asked_script, end_behind, end_err, no_line_open}
use Rattle.monitor.proofs.Erring.{handed_on, if_err}
use Rattle.monitor.proofs.Filling.{line_of_file, line_of_script, may_at_hand, may_end, may_of_file, may_of_script, no_line}
use Rattle.monitor.proofs.Lined.{source_as, source_behind, source_err, source_same, source_unread}
use Rattle.monitor.proofs.reader.Reader.fill.Goals as goal

-- ---- a part of the present line is left

pub returns-then-not-is_empty-clause-may : goal.returns-then-not-is_empty-clause-may
returns-then-not-is_empty-clause-may g c = λ known.
    let some : c.args.self.now.parts ≡ [] → ⊥ = search rules in
    may_at_hand c.args.self.now known some

pub returns-then-not-is_empty-clause-source : goal.returns-then-not-is_empty-clause-source
returns-then-not-is_empty-clause-source g c = source_same c.args.heard.now _ _ _ _

-- ---- an open file has a line

pub returns-in_err-line-clause-source : goal.returns-in_err-line-clause-source
returns-in_err-line-clause-source g c =
    let r = c.from_residual.result in
    source_unread c.args.heard.now _ _ _ r (if_err r faults.OutOfMemory (λ f. IsLater f) (handed_on r faults.OutOfMemory c.from_residual.ensures.1) tt)

pub returns-in_err-self-inside-clause-source : goal.returns-in_err-self-inside-clause-source
returns-in_err-self-inside-clause-source g c =
    let r = c.from_residual-in_err-self-inside.result in
    source_unread c.args.heard.now _ _ _ r (if_err r faults.OutOfMemory (λ f. IsLater f) (handed_on r faults.OutOfMemory c.from_residual-in_err-self-inside.ensures.1) tt)

pub returns-in-Some-clause-did : goal.returns-in-Some-clause-did
returns-in-Some-clause-did g c = λ known script there.
    let inside : Monitor = record { buffer = c.self.inside.buffer; included = c.self.inside.included; parts = c.self.inside.parts; files = c.self.inside.files } in
    let none : c.self.inside.parts ≡ [] = search rules in
    let next : IsNext c.self.inside.files (Some c.in-Some.line.items) c.next_line.new.self = rw c.in-Some.is at c.in_ok-line.ensures in
    let are : c.in_ok-self-inside.field-0 ≡ parts_of c.in-Some.line.items = search rules in
    subst (λ (m : Monitor). Fills m known script true (record inside { parts = c.in_ok-self-inside.field-0; files = c.next_line.new.self }) (g.S.Source.left c.args.source.now)) c.self.view_is
    (line_of_file inside known script c.in-Some.line.items c.next_line.new.self c.in_ok-self-inside.field-0 (g.S.Source.left c.args.source.now) none next are there)

pub returns-in-Some-clause-may : goal.returns-in-Some-clause-may
returns-in-Some-clause-may g c = λ known.
    let inside : Monitor = record { buffer = c.self.inside.buffer; included = c.self.inside.included; parts = c.self.inside.parts; files = c.self.inside.files } in
    let none : c.self.inside.parts ≡ [] = search rules in
    let next : IsNext c.self.inside.files (Some c.in-Some.line.items) c.next_line.new.self = rw c.in-Some.is at c.in_ok-line.ensures in
    let are : c.in_ok-self-inside.field-0 ≡ parts_of c.in-Some.line.items = search rules in
    subst (λ (m : Monitor). MayFill m known true (record inside { parts = c.in_ok-self-inside.field-0; files = c.next_line.new.self })) c.self.view_is
    (may_of_file inside known c.in-Some.line.items c.next_line.new.self c.in_ok-self-inside.field-0 none next are)

pub returns-in-Some-clause-source : goal.returns-in-Some-clause-source
returns-in-Some-clause-source g c = source_same c.args.heard.now _ _ _ _

-- ---- the script

pub returns-in_err-line-2-clause-source : goal.returns-in_err-line-2-clause-source
returns-in_err-line-2-clause-source g c =
    let f = c.in_err-line-2.field-0.0 in
    let r = c.from_residual-in_err-line-2.result in
    source_err f r (handed_on r f c.from_residual-in_err-line-2.ensures.1) c.in_err-line-2.ensures.source

pub returns-in_err-self-inside-in-Some-2-clause-source : goal.returns-in_err-self-inside-in-Some-2-clause-source
returns-in_err-self-inside-in-Some-2-clause-source g c =
    let r = c.from_residual-in_err-self-inside-in-Some-2.result in
    source_behind _ r (if_err r faults.OutOfMemory (λ f. IsLater f) (handed_on r faults.OutOfMemory c.from_residual-in_err-self-inside-in-Some-2.ensures.1) tt) c.in_ok-line-2.ensures.source

pub returns-in_ok-self-inside-in-Some-2-clause-did :
    goal.returns-in_ok-self-inside-in-Some-2-clause-did
returns-in_ok-self-inside-in-Some-2-clause-did g c = λ known script there.
    let inside : Monitor = record { buffer = c.self.inside.buffer; included = c.self.inside.included; parts = c.self.inside.parts; files = c.self.inside.files } in
    let none : c.self.inside.parts ≡ [] = search rules in
    let no : c.in_ok-line.field-0 ≡ None = search rules in
    let next : IsNext c.self.inside.files None c.next_line.new.self = rw no at c.in_ok-line.ensures in
    let line : IsLine script (Some c.in-Some-2.line.items) (g.S.Source.left c.read_line.new.source) = rw c.in-Some-2.is at c.in_ok-line-2.ensures.line script there in
    let are : c.in_ok-self-inside-in-Some-2.field-0 ≡ parts_of c.in-Some-2.line.items = search rules in
    subst (λ (m : Monitor). Fills m known script true (record inside { parts = c.in_ok-self-inside-in-Some-2.field-0; files = c.next_line.new.self }) (g.S.Source.left c.read_line.new.source)) c.self.view_is
    (line_of_script inside known script c.in-Some-2.line.items c.next_line.new.self c.in_ok-self-inside-in-Some-2.field-0 (g.S.Source.left c.read_line.new.source) none next line are)

pub returns-in_ok-self-inside-in-Some-2-clause-may :
    goal.returns-in_ok-self-inside-in-Some-2-clause-may
returns-in_ok-self-inside-in-Some-2-clause-may g c = λ known.
    let inside : Monitor = record { buffer = c.self.inside.buffer; included = c.self.inside.included; parts = c.self.inside.parts; files = c.self.inside.files } in
    let none : c.self.inside.parts ≡ [] = search rules in
    let no : c.in_ok-line.field-0 ≡ None = search rules in
    let next : IsNext c.self.inside.files None c.next_line.new.self = rw no at c.in_ok-line.ensures in
    let one : IsOneLine c.in-Some-2.line.items = rw c.in-Some-2.is at c.in_ok-line-2.ensures.one in
    let are : c.in_ok-self-inside-in-Some-2.field-0 ≡ parts_of c.in-Some-2.line.items = search rules in
    subst (λ (m : Monitor). MayFill m known true (record inside { parts = c.in_ok-self-inside-in-Some-2.field-0; files = c.next_line.new.self })) c.self.view_is
    (may_of_script inside known c.in-Some-2.line.items c.next_line.new.self c.in_ok-self-inside-in-Some-2.field-0 none next one are)

pub returns-in_ok-self-inside-in-Some-2-clause-source :
    goal.returns-in_ok-self-inside-in-Some-2-clause-source
returns-in_ok-self-inside-in-Some-2-clause-source g c = source_as _ _ c.in_ok-line-2.ensures.source

pub returns-in-None-clause-did : goal.returns-in-None-clause-did
returns-in-None-clause-did g c = λ known script there.
    let inside : Monitor = record { buffer = c.self.inside.buffer; included = c.self.inside.included; parts = c.self.inside.parts; files = c.self.inside.files } in
    let none : c.self.inside.parts ≡ [] = search rules in
    let no : c.in_ok-line.field-0 ≡ None = search rules in
    let next : IsNext c.self.inside.files None c.next_line.new.self = rw no at c.in_ok-line.ensures in
    let line : IsLine script None (g.S.Source.left c.read_line.new.source) = rw c.in-None.is at c.in_ok-line-2.ensures.line script there in
    subst (λ (m : Monitor). Fills m known script false (record inside { files = c.next_line.new.self }) (g.S.Source.left c.read_line.new.source)) c.self.view_is
    (no_line inside known script c.next_line.new.self (g.S.Source.left c.read_line.new.source) none next line)

pub returns-in-None-clause-may : goal.returns-in-None-clause-may
returns-in-None-clause-may g c = λ known.
    let inside : Monitor = record { buffer = c.self.inside.buffer; included = c.self.inside.included; parts = c.self.inside.parts; files = c.self.inside.files } in
    let none : c.self.inside.parts ≡ [] = search rules in
    let no : c.in_ok-line.field-0 ≡ None = search rules in
    let next : IsNext c.self.inside.files None c.next_line.new.self = rw no at c.in_ok-line.ensures in
    subst (λ (m : Monitor). MayFill m known false (record inside { files = c.next_line.new.self })) c.self.view_is (may_end inside known c.next_line.new.self none next)

pub returns-in-None-clause-source : goal.returns-in-None-clause-source
returns-in-None-clause-source g c = source_as _ _ c.in_ok-line-2.ensures.source

-- ---- whether the source was asked

pub returns-then-not-is_empty-clause-ends : goal.returns-then-not-is_empty-clause-ends
returns-then-not-is_empty-clause-ends g c = asked_nothing c.args.self.now c.args.heard.now _ _ _ tt

pub returns-in_err-line-clause-ends : goal.returns-in_err-line-clause-ends
returns-in_err-line-clause-ends g c =
    let r = c.from_residual.result in
    asked_nothing c.args.self.now c.args.heard.now _ _ r (if_err r faults.OutOfMemory (λ f. IsLater f) (handed_on r faults.OutOfMemory c.from_residual.ensures.1) tt)

pub returns-in_err-self-inside-clause-ends : goal.returns-in_err-self-inside-clause-ends
returns-in_err-self-inside-clause-ends g c =
    let r = c.from_residual-in_err-self-inside.result in
    asked_nothing c.args.self.now c.args.heard.now _ _ r (if_err r faults.OutOfMemory (λ f. IsLater f) (handed_on r faults.OutOfMemory c.from_residual-in_err-self-inside.ensures.1) tt)

pub returns-in-Some-clause-ends : goal.returns-in-Some-clause-ends
returns-in-Some-clause-ends g c = asked_nothing c.args.self.now c.args.heard.now _ _ _ tt

pub returns-in_err-line-2-clause-ends : goal.returns-in_err-line-2-clause-ends
returns-in_err-line-2-clause-ends g c =
    let none : c.self.inside.parts ≡ [] = search rules in
    let no : c.in_ok-line.field-0 ≡ None = search rules in
    let next : IsNext c.self.inside.files None c.next_line.new.self = rw no at c.in_ok-line.ensures in
    let script = subst (λ (m : Monitor). ReadsScript (reading m)) c.self.view_is (none, no_line_open c.self.inside.files next.0) in
    let f = c.in_err-line-2.field-0.0 in
    let r = c.from_residual-in_err-line-2.result in
    asked_script c.args.self.now r script (end_err f r (handed_on r f c.from_residual-in_err-line-2.ensures.1) c.in_err-line-2.ensures.ends)

pub returns-in_err-self-inside-in-Some-2-clause-ends : goal.returns-in_err-self-inside-in-Some-2-clause-ends
returns-in_err-self-inside-in-Some-2-clause-ends g c =
    let none : c.self.inside.parts ≡ [] = search rules in
    let no : c.in_ok-line.field-0 ≡ None = search rules in
    let next : IsNext c.self.inside.files None c.next_line.new.self = rw no at c.in_ok-line.ensures in
    let script = subst (λ (m : Monitor). ReadsScript (reading m)) c.self.view_is (none, no_line_open c.self.inside.files next.0) in
    let r = c.from_residual-in_err-self-inside-in-Some-2.result in
    asked_script c.args.self.now r script (end_behind _ r (if_err r faults.OutOfMemory (λ f. IsLater f) (handed_on r faults.OutOfMemory c.from_residual-in_err-self-inside-in-Some-2.ensures.1) tt) c.in_ok-line-2.ensures.ends)

pub returns-in_ok-self-inside-in-Some-2-clause-ends : goal.returns-in_ok-self-inside-in-Some-2-clause-ends
returns-in_ok-self-inside-in-Some-2-clause-ends g c =
    let none : c.self.inside.parts ≡ [] = search rules in
    let no : c.in_ok-line.field-0 ≡ None = search rules in
    let next : IsNext c.self.inside.files None c.next_line.new.self = rw no at c.in_ok-line.ensures in
    let script = subst (λ (m : Monitor). ReadsScript (reading m)) c.self.view_is (none, no_line_open c.self.inside.files next.0) in
    asked_script c.args.self.now _ script (end_behind _ _ tt c.in_ok-line-2.ensures.ends)

pub returns-in-None-clause-ends : goal.returns-in-None-clause-ends
returns-in-None-clause-ends g c =
    let none : c.self.inside.parts ≡ [] = search rules in
    let no : c.in_ok-line.field-0 ≡ None = search rules in
    let next : IsNext c.self.inside.files None c.next_line.new.self = rw no at c.in_ok-line.ensures in
    let script = subst (λ (m : Monitor). ReadsScript (reading m)) c.self.view_is (none, no_line_open c.self.inside.files next.0) in
    asked_script c.args.self.now _ script (end_behind _ _ tt c.in_ok-line-2.ensures.ends)

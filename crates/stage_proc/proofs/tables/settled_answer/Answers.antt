use Rattle.std.proofs.Common.{◌≡◌, false, ◌∙◌, subst}
use Rattle.calculus.specs.Answer.{answer}
use Rattle.calculus.specs.Assignments.{assigned}
use Rattle.calculus.specs.Table.{tabled}
use Rattle.calculus.specs.Targets.{rows_given}
use Rattle.calculus.specs.VariableRows.{rows_of}
use Rattle.calculus.specs.Who.{Unrestricted}
use Rattle.ovqp.specs.Causes.{HasCause as HasAnswerCause}
use Rattle.stage_proc.proofs.Tabling.{if_ok, on_ok, answer_by_tables, lacks_by_tables, settled_cause}
use Rattle.stage_proc.proofs.tables.settled_answer.Goals as goal

pub returns-clause-known : goal.returns-clause-known
returns-clause-known g c = λ db e.
    let tables = c.in_ok-tables.tables.items in
    if_ok (λ set. set ≡ rows_given (tabled tables) c.args.q.now (assigned (rows_of db Unrestricted) c.args.q.now)) (λ set. set ≡ answer db Unrestricted c.args.q.now)
    (λ set is. answer_by_tables db c.args.q.now tables set (c.in_ok-tables.ensures.rows db e) is)
    c.answer_by.result (c.answer_by.ensures.rows db (c.settle.ensures.kept ∙ e))

pub returns-clause-none_lacks : goal.returns-clause-none_lacks
returns-clause-none_lacks g c = λ db e.
    let tables = c.in_ok-tables.tables.items in
    on_ok (lacks_by_tables db c.args.q.now tables false (c.in_ok-tables.ensures.lacks db e))
    c.answer_by.result (c.answer_by.ensures.none_lacks db (c.settle.ensures.kept ∙ e))

pub returns-clause-cause : goal.returns-clause-cause
returns-clause-cause g c =
    settled_cause c.args.q.now c.in_ok-tables.tables.items (g.B.Base.database c.args.base.now) (g.B.Base.faults c.args.base.now) (g.B.Base.faults c.settle.new.base) (g.B.Base.faults c.answer_by.new.base) c.answer_by.result
    c.in_ok-tables.ensures.values c.in_ok-tables.ensures.truth c.in_ok-tables.ensures.lacks c.in_ok-tables.ensures.cause.caused
    (subst (λ known. HasAnswerCause (tabled c.in_ok-tables.tables.items) c.args.q.now known (g.B.Base.faults c.settle.new.base) (g.B.Base.faults c.answer_by.new.base) c.answer_by.result) c.settle.ensures.kept c.answer_by.ensures.cause)

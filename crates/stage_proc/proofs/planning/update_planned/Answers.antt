use Rattle.std.proofs.Common.{◌∙◌}
use Rattle.stage_proc.proofs.Outcomes.{stopped_later}
use Rattle.stage_proc.proofs.Planned.{makes_new, update_answered, update_lawful}
use Rattle.stage_proc.proofs.planning.update_planned.Goals as goal

pub paired-requires : goal.paired-requires
paired-requires g c = λ db e. update_answered db c.args.u.now (c.requires db e)

pub returns-clause-known : goal.returns-clause-known
returns-clause-known g c = λ db e.
    let new = makes_new db c.args.u.now (c.requires db e) in
    update_lawful db c.args.u.now (g.B.Base.lawful c.args.base.now db (g.B.Base.own c.args.base.now db e)) (c.requires db e) c.changed_by.result
    (c.changed_by.ensures.known db (c.paired.ensures.kept ∙ e) new (c.in_ok-pairs.ensures.known db e))

pub returns-clause-cause : goal.returns-clause-cause
returns-clause-cause g c =
    stopped_later (g.B.Base.database c.args.base.now) (g.B.Base.database c.paired.new.base) _ _ _ c.changed_by.result c.paired.ensures.kept c.in_ok-pairs.ensures.cause.caused c.changed_by.ensures.cause

use Rattle.std.proofs.Common.{ap, ◌∙◌}
use Rattle.stage_proc.specs.Given.{wanted}
use Rattle.stage_proc.proofs.Meaning.{wanted_meant}
use Rattle.stage_proc.proofs.attributes.new_kinds.Goals as goal

pub returns-clause-wanted : goal.returns-clause-wanted
returns-clause-wanted g c = λ db e.
    c.in_ok-kinds.ensures.wanted ∙ ap (λ kinds. wanted kinds c.args.u.now) (c.in_ok-attributes.ensures.known db (g.B.Base.own c.args.base.now db e)) ∙ wanted_meant db c.args.u.now

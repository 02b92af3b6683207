use Rattle.std.proofs.Common.{ap, ◌∙◌, map}
use Rattle.calculus.specs.Stored.{attrs_in}
use Rattle.ovqp.proofs.Known.{known_attrs}
use Rattle.ovqp.proofs.kinds.kinds_at.Goals as goal

pub returns-clause-known : goal.returns-clause-known
returns-clause-known g c = λ db h.
    c.in_ok-kinds.ensures ∙ ap (λ o. map (λ a. a.kind) (attrs_in o)) (c.in_ok-info.ensures.known db h)
    ∙ ap (map (λ a. a.kind)) (known_attrs db (g.B.Base.lawful c.args.base.now db h) c.args.key.now)

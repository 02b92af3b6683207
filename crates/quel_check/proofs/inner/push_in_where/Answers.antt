use Rattle.std.proofs.Common.{sym, ap, ◌∙◌, map}
use Rattle.quel_meaning.specs.WrittenParts.{aggregates_in_qual, where_of}
use Rattle.quel_check.proofs.InnerForms.{in_true, stays}
use Rattle.quel_check.proofs.inner.push_in_where.Goals as goal

pub returns-in-None : goal.returns-in-None
returns-in-None c =
    stays (map (λ g. g.now) c.args.found.now.items) (aggregates_in_qual (where_of c.args.s.now)) (ap aggregates_in_qual (sym c.in-None.ensures) ∙ in_true)

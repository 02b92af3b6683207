use Rattle.std.proofs.Common.{ap, ◌∙◌}
use Rattle.std.specs.Prelude.{filter}
use Rattle.calculus.specs.Rows.{set_of}
use Rattle.copy_util.specs.Rules.{keeps_all}
use Rattle.copy_util.proofs.appending.lasting_rows.Goals as goal

pub returns-in_ok-kept-in-Ok-clause-known : goal.returns-in_ok-kept-in-Ok-clause-known
returns-in_ok-kept-in-Ok-clause-known g c = λ db e.
    c.of_rows.ensures
    ∙ ap set_of (c.in_ok-kept-in-Ok.ensures ∙ ap (λ rules. filter (keeps_all rules) c.args.rows.items) (c.deref.ensures.value ∙ c.in-Ok.ensures.known db (g.B.Base.own c.args.base.now db e)))

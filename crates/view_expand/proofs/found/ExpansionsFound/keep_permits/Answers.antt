use Rattle.std.proofs.Common.{sym, ap, ◌∙◌}
use Rattle.calculus.specs.Database.{permits_on}
use Rattle.view_expand.proofs.found.ExpansionsFound.keep_permits.Goals as goal

pub returns-in-Ok : goal.returns-in-Ok
returns-in-Ok c = record {
  found = λ db who all is. c.put_permits.ensures.found db who all (is ∙ ap (permits_on db) (sym c.in-Ok.ensures));
}

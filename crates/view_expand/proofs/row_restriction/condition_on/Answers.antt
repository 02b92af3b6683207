use Rattle.std.proofs.Common.{◌≡◌, ap, ◌∙◌}
use Rattle.calculus.specs.Database.{permits_on}
use Rattle.calculus.specs.Who.{asker_of, as_user}
use Rattle.view_expand.specs.Asking.{right_of}
use Rattle.view_expand.specs.Covering.{covering_conditions, one_of}
use Rattle.view_expand.proofs.row_restriction.condition_on.Goals as goal

pub returns-in-Ok-clause-known : goal.returns-in-Ok-clause-known
returns-in-Ok-clause-known g c = λ db h.
    let is : c.in-Some.permits.now ≡ permits_on db c.args.key.now = c.in-Some.ensures db (as_user c.args.user.now) (c.requires.found db h) in
    c.in-Ok.ensures.one ∙ ap (λ ps. one_of (covering_conditions ps (asker_of c.args.user.now) (right_of c.args.right) c.args.attrs.now)) is

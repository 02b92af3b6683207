use Rattle.std.proofs.Common.{◌≡◌, ◌∙◌, subst, is_some, List}
use Rattle.std.specs.Prelude.{IfOk}
use Rattle.std.specs.List.{list_all}
use Rattle.calculus.specs.declared.query.RelKey.{RelKey}
use Rattle.calculus.specs.Stored.{range_at}
use Rattle.view_sizes.proofs.Counting.{vars_is}
use Rattle.change_check.proofs.views.vars_are_there.Goals as goal

pub returns-clause-known : goal.returns-clause-known
returns-clause-known g c = λ db h.
    subst (λ (ks : List RelKey). IfOk c.are_ranges.result (λ there. there ≡ list_all (λ key. is_some (range_at db key)) ks)) (c.items.ensures ∙ vars_is c.args.query.now)
    (c.are_ranges.ensures.known db h)

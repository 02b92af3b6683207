use Rattle.std.proofs.Common.{sym, ap, ◌∙◌, subst, rules}
use Rattle.std.proofs.lemmas.Fn.{always_returns_same}
use Rattle.calculus.specs.Groups.{GroupsAscend}
use Rattle.calculus.specs.Table.{in_groups}
use Rattle.calculus.specs.Value.{row_cmp}
use Rattle.calculus.proofs.InGroups.{found_at, found_none}
use Rattle.calculus.proofs.groups.Groups.get.Goals as goal

pub returns-in-Ok : goal.returns-in-Ok
returns-in-Ok c empty =
    let at = c.in-Ok.ensures.position (λ g. row_cmp g.0 c.args.common.now) (always_returns_same _ _ _ (λ a r f' k. (search rules, search rules))) in
    sym (found_at empty c.args.common.now c.items-groups.result.now (subst GroupsAscend (sym c.items-groups.ensures) c.self.invariant) c.in-Ok.place c.in-Ok.ensures.bound c.index-groups-place.result (at c.index-groups-place.result))
    ∙ ap (λ gs. in_groups empty gs c.args.common.now) (c.items-groups.ensures ∙ c.self.view_is)

pub returns-in-Err : goal.returns-in-Err
returns-in-Err c empty =
    sym (found_none empty c.args.common.now c.items-groups.result.now (subst GroupsAscend (sym c.items-groups.ensures) c.self.invariant) c.in-Err.field-0
    (c.in-Err.ensures.position (λ g. row_cmp g.0 c.args.common.now) (always_returns_same _ _ _ (λ a r f' k. (search rules, search rules)))))
    ∙ ap (λ gs. in_groups empty gs c.args.common.now) (c.items-groups.ensures ∙ c.self.view_is)

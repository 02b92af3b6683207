use Rattle.std.proofs.Common.{sym, ap, subst, ◌∙◌}
use Rattle.std.proofs.lemmas.Result.{IfOk-weaker}
use Rattle.calculus.specs.Groups.{GroupsAscend}
use Rattle.aggregates.specs.Runs.{groups_of}
use Rattle.aggregates.proofs.InRuns.{groups_ascend, found_sorted}
use Rattle.aggregates.proofs.grouping.grouped.Goals as goal

pub returns-clause-ascend : goal.returns-clause-ascend
returns-clause-ascend c =
    IfOk-weaker c.groups_of-groups.result _ _
    (λ groups is. subst GroupsAscend (sym (is ∙ ap (groups_of c.args.op c.args.none.now) c.deref.ensures.value))
    (groups_ascend c.args.op c.args.none.now c.sort.new.members.items c.in_ok-sort.ensures.rises)) c.groups_of-groups.ensures

pub returns-clause-found : goal.returns-clause-found
returns-clause-found c = λ empty e link.
    IfOk-weaker c.groups_of-groups.result _ _
    (λ groups is. found_sorted c.args.op c.args.none.now empty c.args.members.items c.sort.new.members.items groups.items link e
    c.in_ok-sort.ensures.rises (c.in_ok-sort.ensures.same link) (is ∙ ap (groups_of c.args.op c.args.none.now) c.deref.ensures.value)) c.groups_of-groups.ensures

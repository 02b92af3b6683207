use Rattle.aggregates.specs.Runs.{groups_of}
use Rattle.aggregates.proofs.InRuns.{smaller_rest, one_group, no_groups, groups_begin}
use Rattle.aggregates.proofs.grouping.groups_of.Goals as goal

pub runs-init : goal.runs-init
runs-init c = groups_begin c.args.op c.args.none.now c.args.members.now c.new-groups.result.items c.new-groups.ensures.items

pub runs-smaller : goal.runs-smaller
runs-smaller c =
    smaller_rest c.runs.rest.now c.in-Some.first.now c.in-Some.field-0-1.now c.leading-many.result c.split_at.result.1.now
    c.in-Some.ensures.cases.0 c.leading-many.ensures.many c.split_at.ensures.back_len

pub runs-preserved : goal.runs-preserved
runs-preserved c =
    one_group c.args.op c.args.none.now c.runs.rest.now c.in-Some.first.now c.in-Some.field-0-1.now c.leading-many.result c.split_at.result.0.now c.split_at.result.1.now
    c.runs.groups.items c.put_folded.new.groups.items (groups_of c.args.op c.args.none.now c.args.members.now)
    c.in-Some.ensures.cases.0 c.leading-many.ensures.many c.split_at.ensures.front c.split_at.ensures.back c.runs.invariant c.in_ok-put_folded.ensures

pub returns : goal.returns
returns c =
    no_groups c.args.op c.args.none.now c.runs.rest.now c.runs.groups.items (groups_of c.args.op c.args.none.now c.args.members.now)
    c.in_default.ensures.cases c.runs.invariant

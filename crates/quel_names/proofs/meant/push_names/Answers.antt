use Rattle.std.proofs.Common.{sym, ap, ◌∙◌, ◌++◌, flat_map, map, take, get_or}
use Rattle.std.proofs.lemmas.List.{take_all, take_more, flat_map_more}
use Rattle.quel_check.specs.Seen.{seen}
use Rattle.quel_names.specs.Roles.{meant_by}
use Rattle.quel_names.proofs.meant.push_names.Goals as goal

pub loop-name-preserved : goal.loop-name-preserved
loop-name-preserved c =
    c.in_ok-push_meant.ensures ∙ (λ i. c.loop-name.invariant i ++ meant_by c.args.role.now (c.name-item.is i))
    ∙ flat_map_more (meant_by c.args.role.now) (map seen c.args.mentions.now.items) (take c.loop-name.name-index c.args.names.now) (get_or c.args.names.now c.loop-name.name-index c.name-item.result)
    ∙ ap (λ ys. map seen c.args.mentions.now.items ++ flat_map (meant_by c.args.role.now) ys) (sym (take_more c.args.names.now c.loop-name.name-index c.name-item.result c.loop-name-test.true))

pub returns : goal.returns
returns c =
    c.loop-name.invariant
    ∙ ap (λ ys. map seen c.args.mentions.now.items ++ flat_map (meant_by c.args.role.now) ys) (take_all c.loop-name.name-index c.args.names.now c.loop-name-test.false)

use Rattle.std.proofs.Common.{sym, ap, ◌∙◌, ◌++◌, flat_map, map, take, get_or}
use Rattle.std.proofs.lemmas.List.{take_all, take_more, flat_map_more}
use Rattle.quel_check.specs.Seen.{seen}
use Rattle.quel_names.specs.Roles.{meant_by}
use Rattle.quel_names.proofs.meant.push_attrs.Goals as goal

pub loop-attr-preserved : goal.loop-attr-preserved
loop-attr-preserved c =
    c.in_ok-push_meant.ensures ∙ (λ i. c.loop-attr.invariant i ++ meant_by c.args.role.now (c.attr-item.is i).name)
    ∙ flat_map_more (λ a. meant_by c.args.role.now a.name) (map seen c.args.mentions.now.items) (take c.loop-attr.attr-index c.args.attrs.now) (get_or c.args.attrs.now c.loop-attr.attr-index c.attr-item.result)
    ∙ ap (λ ys. map seen c.args.mentions.now.items ++ flat_map (λ a. meant_by c.args.role.now a.name) ys) (sym (take_more c.args.attrs.now c.loop-attr.attr-index c.attr-item.result c.loop-attr-test.true))

pub returns : goal.returns
returns c =
    c.loop-attr.invariant
    ∙ ap (λ ys. map seen c.args.mentions.now.items ++ flat_map (λ a. meant_by c.args.role.now a.name) ys) (take_all c.loop-attr.attr-index c.args.attrs.now c.loop-attr-test.false)

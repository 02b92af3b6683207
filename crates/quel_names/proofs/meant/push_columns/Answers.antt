use Rattle.std.proofs.Common.{sym, ap, ◌∙◌, ◌++◌, flat_map, map, take, get_or}
use Rattle.std.proofs.lemmas.List.{take_all, take_more, flat_map_more}
use Rattle.quel_check.specs.Seen.{seen}
use Rattle.quel_names.specs.Roles.{meant_by}
use Rattle.quel_names.proofs.meant.push_columns.Goals as goal

pub loop-column-preserved : goal.loop-column-preserved
loop-column-preserved c =
    c.in_ok-push_meant.ensures ∙ (λ i. c.loop-column.invariant i ++ meant_by c.args.role.now (c.column-item.is i).0)
    ∙ flat_map_more (λ p. meant_by c.args.role.now p.0) (map seen c.args.mentions.now.items) (take c.loop-column.column-index c.args.columns.now) (get_or c.args.columns.now c.loop-column.column-index c.column-item.result)
    ∙ ap (λ ys. map seen c.args.mentions.now.items ++ flat_map (λ p. meant_by c.args.role.now p.0) ys) (sym (take_more c.args.columns.now c.loop-column.column-index c.column-item.result c.loop-column-test.true))

pub returns : goal.returns
returns c =
    c.loop-column.invariant
    ∙ ap (λ ys. map seen c.args.mentions.now.items ++ flat_map (λ p. meant_by c.args.role.now p.0) ys) (take_all c.loop-column.column-index c.args.columns.now c.loop-column-test.false)

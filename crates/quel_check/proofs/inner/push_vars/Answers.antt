use Rattle.std.proofs.Common.{sym, ap, ◌∙◌, ◌++◌, flat_map, map, take, get_or}
use Rattle.std.proofs.lemmas.List.{take_all, map_more, flat_map_more}
use Rattle.quel_check.specs.Seen.{seen, vars_seen}
use Rattle.quel_check.proofs.inner.push_vars.Goals as goal

pub loop-mention-preserved : goal.loop-mention-preserved
loop-mention-preserved c =
    c.in_ok-push_var.ensures ∙ (λ i. c.loop-mention.invariant i ++ vars_seen (seen (c.mention-item.is i)))
    ∙ flat_map_more vars_seen (map (λ n. n.now) c.args.names.now.items) (map seen (take c.loop-mention.mention-index c.args.mentions.now)) (seen (get_or c.args.mentions.now c.loop-mention.mention-index c.mention-item.result))
    ∙ ap (λ ys. map (λ n. n.now) c.args.names.now.items ++ flat_map vars_seen ys) (sym (map_more seen c.args.mentions.now c.loop-mention.mention-index c.mention-item.result c.loop-mention-test.true))

pub returns : goal.returns
returns c =
    c.loop-mention.invariant
    ∙ ap (λ ys. map (λ n. n.now) c.args.names.now.items ++ flat_map vars_seen (map seen ys)) (take_all c.loop-mention.mention-index c.args.mentions.now c.loop-mention-test.false)

use Rattle.cut_rules.proofs.Trees.{put_means}
use Rattle.cut_rules.proofs.cutting.cut_permits.Goals as goal

pub returns-clause-means : goal.returns-clause-means
returns-clause-means g c = λ db h shelf.
    put_means db (g.B.Base.lawful c.args.base.now db (g.B.Base.own c.args.base.now db h)) shelf c.args.user.now c.args.tree (c.requires db h) c.expanded_tree-made.result (c.expanded_tree-made.ensures.known db h)

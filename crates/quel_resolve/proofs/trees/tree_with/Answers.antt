use Rattle.quel_resolve.proofs.trees.tree_with.Goals as goal

pub returns-in-Ok-clause-known : goal.returns-in-Ok-clause-known
returns-in-Ok-clause-known g c = λ db h q names w a r. c.tree_over.ensures.known db (c.in-Ok.ensures.stays _ h) q names w a r (c.in-Ok.ensures.known db h)

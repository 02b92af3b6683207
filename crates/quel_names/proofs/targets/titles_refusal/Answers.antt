use Rattle.quel_names.proofs.targets.titles_refusal.Goals as goal

pub returns-clause-known : goal.returns-clause-known
returns-clause-known g c = λ db h. c.refusal_of.ensures.known db _ h c.titles.ensures

use Rattle.quel_meaning.specs.FitQueries.{kept_or_viewed}
use Rattle.cut_rules.proofs.Fitting.{asked_reads, asked_few}
use Rattle.cut_rules.proofs.cutting.put_asked.Goals as goal

pub expanded-requires-clause-fit : goal.expanded-requires-clause-fit
expanded-requires-clause-fit g c = λ db h. asked_reads (kept_or_viewed db) db c.args.asked.now (c.requires.fit db h)

pub expanded-requires-clause-few : goal.expanded-requires-clause-few
expanded-requires-clause-few g c = λ db h. asked_few (kept_or_viewed db) db c.args.asked.now (c.requires.fit db h)

use Rattle.std.proofs.Common.{rules, tests, map, vec_items}
use Rattle.std.proofs.lemmas.Iterator.{YieldsList-from_slice, YieldsList-from_zip}
use Rattle.std.proofs.lemmas.Iterator.Search.{all_from_yields_List}
use Rattle.calculus.specs.Kinds.{comparable, kind_of}
use Rattle.quel_refusals.proofs.aggregates.pairs_fit.Goals as goal

pub returns : goal.returns
returns c =
    all_from_yields_List (λ p. comparable (kind_of p.0 (map vec_items c.args.inner.now)) (kind_of p.1 (map vec_items c.args.vars.now))) c.all.new.self _ c.all.result c.all.ensures.ran
    (YieldsList-from_zip (YieldsList-from_slice c.args.by.now cc) (YieldsList-from_slice c.args.link.now cc)) (λ x b q k. search (rules, tests))

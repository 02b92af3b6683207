use Rattle.std.proofs.Common.{rules, tests, ◌∙◌, nat_eq}
use Rattle.std.proofs.lemmas.Iterator.{YieldsList-from_slice}
use Rattle.std.proofs.lemmas.Iterator.Consumers.{YieldsList-from_enumerate}
use Rattle.std.proofs.lemmas.Iterator.Search.{all_from_yields_List}
use Rattle.tree_check.proofs.SourceParts.{slots_placed}
use Rattle.tree_check.proofs.slots.slots_count_up.Goals as goal

pub returns : goal.returns
returns c =
    all_from_yields_List (λ p. nat_eq p.1.now.slot p.0) c.all.new.self _ c.all.result c.all.ensures.ran
    (YieldsList-from_enumerate (YieldsList-from_slice c.args.aggregates.now cc) cc) (λ x b q k. search (rules, tests))
    ∙ slots_placed (λ g. g.now) 0 c.args.aggregates.now

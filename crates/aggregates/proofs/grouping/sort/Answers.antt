use Rattle.std.proofs.Common.{◌∙◌, sym, rules, None}
use Rattle.std.specs.Prelude.{filter}
use Rattle.std.proofs.lemmas.List.Sorted.{answers_always}
use Rattle.aggregates.proofs.Order.{before, before_ranks, rises_from_sort, tied}
use Rattle.aggregates.proofs.grouping.sort.Goals as goal

pub returns-clause-rises : goal.returns-clause-rises
returns-clause-rises c =
    rises_from_sort c.sort_by.new.self.items (c.in_ok-sort_by.ensures.sorted before before_ranks (answers_always _ _ _ (λ f a r g h. search rules)))

pub returns-clause-same : goal.returns-clause-same
returns-clause-same c = λ by.
    (λ i. filter (λ m. sym (tied (by, None) m) i) c.sort_by.new.self.items)
    ∙ c.sort_by.ensures.stable before before_ranks (answers_always _ _ _ (λ f a r g h. search rules)) (by, None)
    ∙ (λ i. filter (λ m. tied (by, None) m i) c.args.members.now.items)

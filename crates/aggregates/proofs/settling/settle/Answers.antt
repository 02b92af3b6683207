use Rattle.std.proofs.Common.{◌∙◌, ap, subst, map}
use Rattle.std.specs.List.{list_all}
use Rattle.std.proofs.lemmas.Result.{IfOk-weaker}
use Rattle.quel_meaning.specs.FitQueries.{kept_alone, source_fits}
use Rattle.aggregates.specs.Settled.{AllStand}
use Rattle.aggregates.proofs.Placed.{all_mapped, targets_settled, qual_settled, values_settled, truth_settled, rows_settled, lacks_settled}
use Rattle.aggregates.proofs.settling.settle.Goals as goal

pub tables_of-tables-requires : goal.tables_of-tables-requires
tables_of-tables-requires g c = λ db h.
    all_mapped (λ g. source_fits (kept_alone db) db g.source) (λ g. g.now) c.deref.result.now
    ∙ ap (list_all (λ g. source_fits (kept_alone db) db g.source)) (ap (map (λ g. g.now)) c.deref.ensures.value ∙ c.in_ok-aggs.ensures)
    ∙ c.requires.fit db h

pub returns-clause-targets : goal.returns-clause-targets
returns-clause-targets g c = λ db h.
    IfOk-weaker c.tables_of-tables.result _ _
    (λ tables stand. targets_settled db c.args.q.now tables.items (c.requires.numbered db h)
    (subst (AllStand db tables.items) (ap (map (λ g. g.now)) c.deref.ensures.value ∙ c.in_ok-aggs.ensures) stand)) (c.tables_of-tables.ensures.known db h)

pub returns-clause-qual : goal.returns-clause-qual
returns-clause-qual g c = λ db h.
    IfOk-weaker c.tables_of-tables.result _ _
    (λ tables stand. qual_settled db c.args.q.now tables.items (c.requires.numbered db h)
    (subst (AllStand db tables.items) (ap (map (λ g. g.now)) c.deref.ensures.value ∙ c.in_ok-aggs.ensures) stand)) (c.tables_of-tables.ensures.known db h)

pub returns-clause-rows : goal.returns-clause-rows
returns-clause-rows g c = λ db h.
    IfOk-weaker c.tables_of-tables.result _ _
    (λ tables stand es. rows_settled db c.args.q.now tables.items (c.requires.numbered db h)
    (subst (AllStand db tables.items) (ap (map (λ g. g.now)) c.deref.ensures.value ∙ c.in_ok-aggs.ensures) stand) es) (c.tables_of-tables.ensures.known db h)

pub returns-clause-lacks : goal.returns-clause-lacks
returns-clause-lacks g c = λ db h.
    IfOk-weaker c.tables_of-tables.result _ _
    (λ tables stand es. lacks_settled db c.args.q.now tables.items (c.requires.numbered db h)
    (subst (AllStand db tables.items) (ap (map (λ g. g.now)) c.deref.ensures.value ∙ c.in_ok-aggs.ensures) stand) es) (c.tables_of-tables.ensures.known db h)

pub returns-clause-values : goal.returns-clause-values
returns-clause-values g c = λ db h.
    IfOk-weaker c.tables_of-tables.result _ _
    (λ tables stand e. values_settled db c.args.q.now tables.items (c.requires.numbered db h)
    (subst (AllStand db tables.items) (ap (map (λ g. g.now)) c.deref.ensures.value ∙ c.in_ok-aggs.ensures) stand) e) (c.tables_of-tables.ensures.known db h)

pub returns-clause-truth : goal.returns-clause-truth
returns-clause-truth g c = λ db h.
    IfOk-weaker c.tables_of-tables.result _ _
    (λ tables stand e. truth_settled db c.args.q.now tables.items (c.requires.numbered db h)
    (subst (AllStand db tables.items) (ap (map (λ g. g.now)) c.deref.ensures.value ∙ c.in_ok-aggs.ensures) stand) e) (c.tables_of-tables.ensures.known db h)

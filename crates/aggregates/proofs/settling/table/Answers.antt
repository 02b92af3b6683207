use Rattle.std.proofs.Common.{◌∙◌}
use Rattle.aggregates.proofs.Standing.{stands}
use Rattle.aggregates.proofs.settling.table.Goals as goal

pub returns-in_ok-table_of-in-Ok-clause-known : goal.returns-in_ok-table_of-in-Ok-clause-known
returns-in_ok-table_of-in-Ok-clause-known g c = λ db h.
    stands db c.args.agg.now c.in_ok-table_of-in-Ok.field-0 c.in-Ok.none c.in_ok-rows.rows
    (c.in-Ok.ensures.known db (c.in_ok-rows.ensures.kept ∙ h)) (c.in_ok-rows.ensures.known db h) c.in_ok-table_of-in-Ok.ensures.found

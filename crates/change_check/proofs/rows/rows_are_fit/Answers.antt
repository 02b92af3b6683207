use Rattle.std.proofs.Common.{sym, ◌∙◌}
use Rattle.change_check.proofs.BySchema.{so_on_true, stand_by_schema}
use Rattle.change_check.proofs.Kept.{none_there, one_there, attrs_there}
use Rattle.change_check.proofs.RowsFit.{no_relation}
use Rattle.change_check.proofs.rows.rows_are_fit.Goals as goal

pub returns-in-None-clause-known : goal.returns-in-None-clause-known
returns-in-None-clause-known g c = λ db e.
    no_relation db c.args.rel.now c.args.remove.now c.args.add.now (none_there db c.args.rel.now _ (c.in_ok-info.ensures.known db (g.B.Base.own c.args.base.now db e)) c.in-None.is)

pub returns-in-Some-clause-known : goal.returns-in-Some-clause-known
returns-in-Some-clause-known g c = λ db e.
    let there = one_there db c.args.rel.now _ _ (c.in_ok-info.ensures.known db (g.B.Base.own c.args.base.now db e)) c.in-Some.is in
    let attrs = attrs_there db c.args.rel.now _ _ (c.in_ok-info.ensures.known db (g.B.Base.own c.args.base.now db e)) c.in-Some.is in
    c.rows_have_parts.ensures.known db (c.relation.ensures.kept ∙ e) there (attrs ∙ sym c.items.ensures)

pub returns-in-Some-clause-by_schema : goal.returns-in-Some-clause-by_schema
returns-in-Some-clause-by_schema g c = λ s e.
    let there = one_there s c.args.rel.now _ _ (c.in_ok-info.ensures.known s e) c.in-Some.is in
    let attrs = attrs_there s c.args.rel.now _ _ (c.in_ok-info.ensures.known s e) c.in-Some.is in
    so_on_true c.rows_have_parts.result (stand_by_schema s c.args.rel.now _ c.args.remove.now c.args.add.now there (attrs ∙ sym c.items.ensures)) c.rows_have_parts.ensures.stand

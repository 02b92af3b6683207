use Rattle.std.proofs.lemmas.Result.{IfOk-weaker}
use Rattle.std.proofs.Common.{◌∙◌, sym}
use Rattle.catalog_read.proofs.Tried.{columns_fail, parts_fail, trees_decide}
use Rattle.catalog_read.proofs.standing.stand.Goals as goal

pub returns-then-not-all_columns_stand : goal.returns-then-not-all_columns_stand
returns-then-not-all_columns_stand c = columns_fail c.args.rows.now c.items.result.now c.items.ensures (sym c.if-not-all_columns_stand.true ∙ c.all_columns_stand.ensures)

pub returns-then-not-all_parts_stand : goal.returns-then-not-all_parts_stand
returns-then-not-all_parts_stand c =
    parts_fail c.args.rows.now c.items.result.now c.items-2.result.now c.items.ensures c.items-2.ensures
    (sym c.if-not-all_columns_stand.false ∙ c.all_columns_stand.ensures) (sym c.if-not-all_parts_stand.true ∙ c.all_parts_stand.ensures)

pub returns : goal.returns
returns c =
    IfOk-weaker c.trees_are_whole.result _ _
    (λ w e. trees_decide c.args.rows.now c.items.result.now c.items-2.result.now c.items-3.result.now w c.items.ensures c.items-2.ensures c.items-3.ensures
    (sym c.if-not-all_columns_stand.false ∙ c.all_columns_stand.ensures) (sym c.if-not-all_parts_stand.false ∙ c.all_parts_stand.ensures) e) c.trees_are_whole.ensures

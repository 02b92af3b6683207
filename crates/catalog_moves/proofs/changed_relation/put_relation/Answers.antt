use Rattle.std.proofs.Common.{subst, [], ◌∷◌, OnOk}
use Rattle.calculus.specs.declared.schema.RelInfo.{RelInfo}
use Rattle.catalog_moves.specs.Moves.{AreRows, entry_with}
use Rattle.catalog_moves.proofs.changed_relation.put_relation.Goals as goal

pub returns-clause-rows : goal.returns-clause-rows
returns-clause-rows c none r at =
    subst (λ (i : RelInfo). OnOk c.put_only.result (AreRows (record { entries = entry_with c.args.file 0 1 c.args.used i ∷ []; columns = []; parts = [] }) c.put_only.new.rows)) (c.in_ok-info.ensures.known r at) (c.put_only.ensures none)

use Rattle.std.proofs.Common.{subst, [], ◌∷◌, OnOk}
use Rattle.calculus.specs.declared.schema.RelInfo.{RelInfo}
use Rattle.catalog_moves.specs.Moves.{AreRows, entry_with}
use Rattle.catalog_moves.proofs.made_rows.put_indexed.Goals as goal

pub returns : goal.returns
returns c none =
    subst (λ (i : RelInfo). OnOk c.put_only.result (AreRows (record { entries = entry_with c.args.file c.args.below 0 0 i ∷ []; columns = []; parts = [] }) c.put_only.new.rows)) c.in_ok-info.ensures (c.put_only.ensures none)

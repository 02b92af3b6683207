use Rattle.std.proofs.Common.{sym, ◌∙◌, subst, OnOk, Option, None, Some, [], ◌∷◌, map}
use Rattle.calculus.specs.declared.schema.RelInfo.{RelInfo}
use Rattle.stored_database.specs.Entries.{entry_bytes}
use Rattle.catalog_moves.specs.Moves.{Came, entry_with}
use Rattle.catalog_moves.proofs.going.put_index.Goals as goal

pub returns-in-Some-clause-came : goal.returns-in-Some-clause-came
returns-in-Some-clause-came c =
    let p = c.args.place.now in
    subst (λ (o : Option RelInfo). OnOk c.put_entry.result (Came c.args.rows.now.items c.put_entry.new.rows.items (map entry_bytes (elim o [ None ↦ [] | Some info ↦ entry_with p.file p.base 0 0 info ∷ [] ]))))
    (sym (sym c.in_ok-info.ensures.known ∙ c.in-Some.is)) c.put_entry.ensures

pub returns-in-Some-clause-same : goal.returns-in-Some-clause-same
returns-in-Some-clause-same c = c.in_ok-info.ensures.same

pub returns-in-None-clause-same : goal.returns-in-None-clause-same
returns-in-None-clause-same c = c.in_ok-info.ensures.same

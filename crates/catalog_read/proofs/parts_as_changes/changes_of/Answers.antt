use Rattle.std.proofs.Common.{◌≡◌, Result, Ok, Err, IfOk, OnOk}
use Rattle.std.proofs.lemmas.Result.{IfOk-at_ok}
use Rattle.catalog_read.proofs.Starts.{pushed}
use Rattle.catalog_read.proofs.parts_as_changes.changes_of.Goals as goal

-- what two calls ensure where both succeeded
both_held : {A B E : Type 0} (P Q : Type 0) (a : Result A E) (b : Result B E) (both : Result (A × B) E) → IfOk both (λ pair. a ≡ Ok pair.0) → IfOk both (λ pair. b ≡ Ok pair.1) → OnOk a P → OnOk b Q → OnOk both (P × Q)
both_held P Q a b (Ok x) first second p q = (IfOk-at_ok (λ _. P) first p, IfOk-at_ok (λ _. Q) second q)
both_held P Q a b (Err x) first second p q = tt

pub returns-in-Ok : goal.returns-in-Ok
returns-in-Ok c =
    let last = both_held _ _ c.push_all-rules.result c.push_all-permits.result c.both.result c.both.ensures.first c.both.ensures.second c.push_all-rules.ensures c.push_all-permits.ensures in
    let more = both_held _ _ c.push_all-views.result c.both.result c.both-2.result c.both-2.ensures.first c.both-2.ensures.second c.push_all-views.ensures last in
    let rest = both_held _ _ c.push_all-indexes.result c.both-2.result c.both-3.result c.both-3.ensures.first c.both-3.ensures.second c.push_all-indexes.ensures more in
    let behind = IfOk-at_ok _ c.in-Ok.ensures.second rest in
    pushed c.args.parts c.new-changes.result.items c.push_all-relations.new.changes.items c.push_all-indexes.new.changes.items c.push_all-views.new.changes.items c.push_all-rules.new.changes.items c.push_all-permits.new.changes.items
    c.new-changes.ensures.items (IfOk-at_ok _ c.in-Ok.ensures.first c.push_all-relations.ensures) behind.0 behind.1.0 behind.1.1.0 behind.1.1.1

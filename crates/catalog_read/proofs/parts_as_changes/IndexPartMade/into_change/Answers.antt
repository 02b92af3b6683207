use Rattle.std.proofs.Common.{◌≡◌}
use Rattle.std.proofs.lemmas.Result.{IfOk-at_ok}
use Rattle.calculus.specs.declared.change.DbChange.TheVariants as change
use Rattle.catalog_read.proofs.parts_as_changes.IndexPartMade.into_change.Goals as goal

pub returns-in-Ok : goal.returns-in-Ok
returns-in-Ok c =
    let info = c.args.self.info in
    let name : c.in-Ok.name ≡ info.key.name = IfOk-at_ok (λ x. x ≡ info.key.name) c.in-Ok.ensures.first c.copy.ensures in
    let keys : c.in-Ok.keys ≡ info.keys = IfOk-at_ok (λ x. x ≡ info.keys) c.in-Ok.ensures.second c.copy-2.ensures in
    λ i. change.Index c.args.self.base (name i) (keys i)

use Rattle.calculus.specs.Rows.{Ascends}
use Rattle.plain_base.proofs.Outcomes.{either}
use Rattle.plain_base.proofs.RowLists.{Ascends-with_rows, Ascends-without}
use Rattle.plain_base.proofs.under_keys.Stored.change_rows.Goals as goal

pub invariant_of-self : goal.invariant_of-self
invariant_of-self c =
    either c.change.result Ascends _ _ _ c.change.ensures.ok c.change.ensures.err
    (Ascends-with_rows c.args.add.now _ (Ascends-without c.args.remove.now _ c.self.invariant)) c.self.invariant

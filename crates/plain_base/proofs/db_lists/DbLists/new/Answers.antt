use Rattle.plain_base.proofs.Empty.{empty}
use Rattle.plain_base.proofs.db_lists.DbLists.new.Goals as goal

pub invariant_of-result : goal.invariant_of-result
invariant_of-result c =
    simp (c.new.ensures.items, c.new-2.ensures.items, c.new-3.ensures.items, c.new-4.ensures.items, c.new-5.ensures.items)
    (empty c.args.dba c.bytes-name.ensures.name)

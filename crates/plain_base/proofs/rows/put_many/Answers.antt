use Rattle.std.proofs.Common.{◌≡◌, ◌∙◌, ◌++◌, List}
use Rattle.calculus.specs.Rows.{Row}
use Rattle.calculus.proofs.Made.{dedup-set_of}
use Rattle.plain_base.proofs.RowLists.{set_of-joined, where_done}
use Rattle.plain_base.proofs.rows.put_many.Goals as goal

pub returns : goal.returns
returns c =
    let joined : c.append.new.self.items ≡ c.args.rows.now.items ++ c.args.new.items =
    where_done c.append.result (List Row) _ _ c.args.rows.now.items (c.append.ensures.succeeds c.requires.room) c.append.ensures.items in
    dedup-set_of c.append.new.self.items _ _ c.sort_unstable.ensures.permutation c.sort_unstable.ensures.sorted c.dedup.ensures.filtered
    ∙ rw joined (set_of-joined _ _ c.requires.ascend)

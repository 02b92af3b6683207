use Rattle.std.proofs.Common.{sym, rules}
use Rattle.std.specs.declared.cmp.Ordering.TheVariants.{Less, Equal}
use Rattle.plain_base.proofs.Between.{compares, there_at}
use Rattle.plain_base.proofs.near.has_at.Goals as goal

pub has_behind-requires-clause-less : goal.has_behind-requires-clause-less
has_behind-requires-clause-less c = (
  search rules,
  compares c.args.rows.now c.args.place c.index-rows-place.result c.args.row.now Less (search rules) (search rules) (search rules),
)

pub returns-in-Equal : goal.returns-in-Equal
returns-in-Equal c =
    sym (there_at c.args.rows.now c.args.row.now c.args.place (search rules)
    (compares c.args.rows.now c.args.place c.index-rows-place.result c.args.row.now Equal (search rules) (search rules) (search rules)))

use Rattle.std.proofs.Common.{sym, ◌+◌, rules}
use Rattle.std.specs.declared.cmp.Ordering.TheVariants.{Equal, Greater}
use Rattle.plain_base.proofs.Between.{compares, absent_between, there_at}
use Rattle.plain_base.proofs.near.has_behind.Goals as goal

pub returns-in-Equal : goal.returns-in-Equal
returns-in-Equal c =
    sym (there_at c.args.rows.now c.args.row.now (c.args.place + 1) (search rules)
    (compares c.args.rows.now (c.args.place + 1) c.index-rows-place.result c.args.row.now Equal (search rules) (search rules) (search rules)))

pub returns-in-Greater : goal.returns-in-Greater
returns-in-Greater c =
    sym (absent_between c.args.rows.now c.args.row.now c.args.place c.requires.ascend c.requires.less (search rules)
    (compares c.args.rows.now (c.args.place + 1) c.index-rows-place.result c.args.row.now Greater (search rules) (search rules) (search rules)))

use Rattle.plain_base.specs.Shown.{database_of}
use Rattle.catalog_read.proofs.Known.{left_after, fewer_after, stuck_after}
use Rattle.catalog_read.proofs.applying.apply_round.Goals as goal

pub returns-clause-left : goal.returns-clause-left
returns-clause-left c =
    left_after (database_of c.args.plain.now) (database_of c.apply_some.new.plain) c.args.changes.items c.in_ok-left.left.items c.args.plain.now.is c.in_ok-left.ensures

pub returns-clause-stuck : goal.returns-clause-stuck
returns-clause-stuck c =
    stuck_after (database_of c.args.plain.now) (database_of c.apply_some.new.plain) c.args.changes.items c.in_ok-left.left.items c.args.plain.now.is c.in_ok-left.ensures

pub returns-clause-fewer : goal.returns-clause-fewer
returns-clause-fewer c = fewer_after (database_of c.args.plain.now) (database_of c.apply_some.new.plain) c.args.changes.items c.in_ok-left.left.items c.in_ok-left.ensures

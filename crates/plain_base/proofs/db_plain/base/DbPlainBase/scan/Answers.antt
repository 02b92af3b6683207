use Rattle.plain_base.specs.Shown.{database_of}
use Rattle.plain_base.proofs.Fitting.{scan_fits}
use Rattle.plain_base.proofs.db_plain.base.DbPlainBase.scan.Goals as goal

pub returns-clause-fits : goal.returns-clause-fits
returns-clause-fits c = λ s known there.
    scan_fits (database_of c.next_kept_row.new.self) (database_of c.args.self.now) s c.args.key.now c.args.probe.now c.args.at.now c.next_kept_row.new.at c.in_ok-next_kept_row.field-0
    c.next_kept_row.ensures.same c.args.self.now.is c.in_ok-next_kept_row.ensures.known known there

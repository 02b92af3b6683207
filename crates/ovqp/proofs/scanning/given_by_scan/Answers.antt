use Rattle.std.proofs.Common.{◌∙◌}
use Rattle.base_trait.specs.Scans.{first_place}
use Rattle.ovqp.proofs.Assigning.{all_rows, all_there}
use Rattle.ovqp.proofs.scanning.given_by_scan.Goals as goal

pub returns-clause-rows : goal.returns-clause-rows
returns-clause-rows g c = λ db e q is.
    c.of_rows.ensures
    ∙ all_rows db c.args.rel.now q (g.B.Base.left c.args.base.now c.args.rel.now first_place) c.put_scanned.new.given.items
    (g.B.Base.scanned c.args.base.now db c.args.rel.now e) (c.in_ok-put_scanned.ensures.known db e q is)

pub returns-clause-none_lacks : goal.returns-clause-none_lacks
returns-clause-none_lacks g c = λ db e q is.
    all_there db c.args.rel.now q (g.B.Base.left c.args.base.now c.args.rel.now first_place) c.put_scanned.new.given.items
    (g.B.Base.scanned c.args.base.now db c.args.rel.now e) (c.in_ok-put_scanned.ensures.known db e q is)

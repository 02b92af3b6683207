use Rattle.db_disk.proofs.Making.{ready_after}
use Rattle.db_disk.proofs.Calls.{prepares}
use Rattle.db_disk.proofs.create.prepare.Goals as goal

pub returns-in_err-write_catalogue-clause-crash : goal.returns-in_err-write_catalogue-clause-crash
returns-in_err-write_catalogue-clause-crash g c = λ known s dba h. c.write_catalogue.ensures.crash known s dba (c.write_heads.ensures.crash known s dba h)

pub returns-in_err-write_catalogue-2-clause-crash : goal.returns-in_err-write_catalogue-2-clause-crash
returns-in_err-write_catalogue-2-clause-crash g c = λ known s dba h.
    c.write_catalogue-2.ensures.crash known s dba (c.write_catalogue.ensures.crash known s dba (c.write_heads.ensures.crash known s dba h))

pub returns-in_err-write_catalogue-3-clause-crash : goal.returns-in_err-write_catalogue-3-clause-crash
returns-in_err-write_catalogue-3-clause-crash g c = λ known s dba h.
    c.write_catalogue-3.ensures.crash known s dba (c.write_catalogue-2.ensures.crash known s dba (c.write_catalogue.ensures.crash known s dba (c.write_heads.ensures.crash known s dba h)))

pub returns-in_err-settle-clause-crash : goal.returns-in_err-settle-clause-crash
returns-in_err-settle-clause-crash g c = λ known s dba h.
    c.settle.ensures.crash known s dba (c.write_catalogue-3.ensures.crash known s dba (c.write_catalogue-2.ensures.crash known s dba (c.write_catalogue.ensures.crash known s dba (c.write_heads.ensures.crash known s dba h))))

pub returns-clause-crash : goal.returns-clause-crash
returns-clause-crash g c = λ known s dba h.
    c.settle.ensures.crash known s dba (c.write_catalogue-3.ensures.crash known s dba (c.write_catalogue-2.ensures.crash known s dba (c.write_catalogue.ensures.crash known s dba (c.write_heads.ensures.crash known s dba h))))

pub returns-clause-made : goal.returns-clause-made
returns-clause-made g c =
    prepares _ _ _ _ _ _ _ c.in_ok-write_heads.ensures.made c.in_ok-write_catalogue.ensures.made c.in_ok-write_catalogue-2.ensures.made c.in_ok-write_catalogue-3.ensures.made c.in_ok-settle.ensures.noted

pub returns-clause-ready : goal.returns-clause-ready
returns-clause-ready g c = λ known.
    ready_after c.args.dba.now _ _ _ _ _ (c.in_ok-write_heads.ensures.shut known) (c.in_ok-write_heads.ensures.header known) (c.write_catalogue.ensures.elsewhere known) (c.in_ok-write_catalogue.ensures.fresh known)
    (c.write_catalogue-2.ensures.elsewhere known) (c.in_ok-write_catalogue-2.ensures.fresh known) (c.write_catalogue-3.ensures.elsewhere known) (c.in_ok-write_catalogue-3.ensures.fresh known) (c.settle.ensures.same known)

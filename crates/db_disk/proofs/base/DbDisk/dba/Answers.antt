use Rattle.std.proofs.Common.{refl, ◌∙◌}
use Rattle.calculus.specs.Schema.{schema_of}
use Rattle.db_disk.proofs.Asking.{schema_answer, dba_alike}
use Rattle.db_disk.proofs.Causes.{want_caused}
use Rattle.db_disk.proofs.Knowing.{same_schema, still_known, there_open}
use Rattle.db_disk.proofs.Reading.{same_files, still_there}
use Rattle.db_disk.proofs.base.DbDisk.dba.Goals as goal

pub invariant_of-self : goal.invariant_of-self
invariant_of-self g c = record {
  ready = c.open.new.self.ready;
  opened = λ x is. there_open c.open.new.self.catalog _ c.in_ok-open.ensures.there c.open.new.self.opened;
  knows = λ known. still_known _ _ c.open.new.self.catalog c.dba.new.catalog refl (c.open.new.self.knows known) c.dba.ensures.same;
}

pub returns-clause-known : goal.returns-clause-known
returns-clause-known g c = λ db is.
    schema_answer (λ name. name) (λ db. db.dba) db (dba_alike) c.dba.result
    (c.dba.ensures.known (schema_of db) (same_schema c.open.new.self.catalog c.dba.new.catalog c.dba.ensures.same ∙ c.in_ok-open.ensures.schema db is))

pub returns-clause-fixed : goal.returns-clause-fixed
returns-clause-fixed g c = still_there c.open.new.self.catalog c.dba.new.catalog c.dba.result (same_schema c.open.new.self.catalog c.dba.new.catalog c.dba.ensures.same) c.in_ok-open.ensures.there

pub returns-clause-cause : goal.returns-clause-cause
returns-clause-cause g c = want_caused _ _ _ c.dba.result c.in_ok-open.ensures.cause.caused c.dba.ensures.want

pub returns-clause-kept : goal.returns-clause-kept
returns-clause-kept g c = c.open.ensures.kept

pub returns-in_err-open-clause-kept : goal.returns-in_err-open-clause-kept
returns-in_err-open-clause-kept g c = c.open.ensures.kept

pub returns-in_err-open-clause-keeps : goal.returns-in_err-open-clause-keeps
returns-in_err-open-clause-keeps g c = c.open.ensures.keeps

pub returns-clause-still : goal.returns-clause-still
returns-clause-still g c = c.open.ensures.still

pub returns-in_err-open-clause-still : goal.returns-in_err-open-clause-still
returns-in_err-open-clause-still g c = c.open.ensures.still

pub returns-clause-reads : goal.returns-clause-reads
returns-clause-reads g c = c.open.ensures.reads

pub returns-in_err-open-clause-reads : goal.returns-in_err-open-clause-reads
returns-in_err-open-clause-reads g c = c.open.ensures.reads

pub returns-clause-crash : goal.returns-clause-crash
returns-clause-crash g c = c.open.ensures.crash

pub returns-in_err-open-clause-crash : goal.returns-in_err-open-clause-crash
returns-in_err-open-clause-crash g c = c.open.ensures.crash

pub returns-clause-stays : goal.returns-clause-stays
returns-clause-stays g c = c.open.ensures.stays

pub returns-in_err-open-clause-stays : goal.returns-in_err-open-clause-stays
returns-in_err-open-clause-stays g c = c.open.ensures.stays

pub returns-clause-files_stay : goal.returns-clause-files_stay
returns-clause-files_stay g c = λ s is. same_files c.open.new.self.catalog c.dba.new.catalog c.dba.ensures.same ∙ c.open.ensures.files_stay s is

pub returns-in_err-open-clause-files_stay : goal.returns-in_err-open-clause-files_stay
returns-in_err-open-clause-files_stay g c = c.open.ensures.files_stay

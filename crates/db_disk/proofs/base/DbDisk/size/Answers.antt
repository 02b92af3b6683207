use Rattle.std.proofs.Common.{◌≡◌, refl, length, IfOk, sym, ◌∙◌, ◌+◌, ap}
use Rattle.db_disk.proofs.Causes.{want_caused}
use Rattle.db_disk.proofs.Knowing.{from_rows, still_known, there_is_open, same_schema}
use Rattle.db_disk.proofs.Reading.{given_ok, same_files, same_rows, some_schema, still_there}
use Rattle.catalog.proofs.Rises.{rises_as}
use Rattle.stored_database.specs.Printed.{Files}
use Rattle.db_disk.proofs.base.DbDisk.size.Goals as goal

pub invariant_of-self : goal.invariant_of-self
invariant_of-self g c = record {
  ready = c.filled.new.self.ready;
  opened = λ x is. there_is_open c.filled.new.self.catalog _ c.in_ok-filled.ensures.there c.filled.new.self.opened;
  knows = λ known. still_known _ _ c.filled.new.self.catalog c.size.new.catalog refl (c.filled.new.self.knows known) c.size.ensures.same;
}

pub returns-clause-known : goal.returns-clause-known
returns-clause-known g c = λ db is. from_rows c.filled.new.self.catalog c.args.key.now db (λ rows. IfOk c.size.result (λ n. n ≡ length rows)) c.in_ok-filled.ensures.there (c.in_ok-filled.ensures.rows db is) c.size.ensures.known

pub returns-clause-fixed : goal.returns-clause-fixed
returns-clause-fixed g c =
    still_there c.filled.new.self.catalog c.size.new.catalog c.size.result (same_schema c.filled.new.self.catalog c.size.new.catalog c.size.ensures.same) (some_schema c.filled.new.self.catalog c.in_ok-filled.ensures.there)

pub returns-clause-in_memory : goal.returns-clause-in_memory
returns-clause-in_memory g c = given_ok c.size.result _ (same_rows c.filled.new.self.catalog c.size.new.catalog c.args.key.now c.size.ensures.same ∙ c.in_ok-filled.ensures.in_memory)

pub returns-clause-reads : goal.returns-clause-reads
returns-clause-reads g c = λ s knows.
    rises_as _ _ _ _ (ap (λ (f : Files). f.used c.args.key.now) (sym (same_files c.filled.new.self.catalog c.size.new.catalog c.size.ensures.same))) (c.filled.ensures.reads s knows)

pub returns-clause-opening_reads : goal.returns-clause-opening_reads
returns-clause-opening_reads g c = λ known all by.
    rises_as _ _ _ _ (ap (λ (f : Files). all + f.used c.args.key.now) (sym (same_files c.filled.new.self.catalog c.size.new.catalog c.size.ensures.same))) (c.filled.ensures.opening_reads known all by)

pub returns-clause-cause : goal.returns-clause-cause
returns-clause-cause g c = want_caused _ _ _ c.size.result c.in_ok-filled.ensures.cause.caused c.size.ensures.want

pub returns-clause-kept : goal.returns-clause-kept
returns-clause-kept g c = c.filled.ensures.kept

pub returns-in_err-filled-clause-kept : goal.returns-in_err-filled-clause-kept
returns-in_err-filled-clause-kept g c = c.filled.ensures.kept

pub returns-in_err-filled-clause-keeps : goal.returns-in_err-filled-clause-keeps
returns-in_err-filled-clause-keeps g c = c.filled.ensures.keeps

pub returns-clause-again : goal.returns-clause-again
returns-clause-again g c = c.filled.ensures.again

pub returns-in_err-filled-clause-again : goal.returns-in_err-filled-clause-again
returns-in_err-filled-clause-again g c = c.filled.ensures.again

pub returns-in_err-filled-clause-reads : goal.returns-in_err-filled-clause-reads
returns-in_err-filled-clause-reads g c = c.filled.ensures.reads

pub returns-in_err-filled-clause-opening_reads : goal.returns-in_err-filled-clause-opening_reads
returns-in_err-filled-clause-opening_reads g c = c.filled.ensures.opening_reads

pub returns-clause-quiet : goal.returns-clause-quiet
returns-clause-quiet g c = c.filled.ensures.quiet

pub returns-in_err-filled-clause-quiet : goal.returns-in_err-filled-clause-quiet
returns-in_err-filled-clause-quiet g c = c.filled.ensures.quiet

pub returns-clause-crash : goal.returns-clause-crash
returns-clause-crash g c = c.filled.ensures.crash

pub returns-in_err-filled-clause-crash : goal.returns-in_err-filled-clause-crash
returns-in_err-filled-clause-crash g c = c.filled.ensures.crash

pub returns-clause-stays : goal.returns-clause-stays
returns-clause-stays g c = c.filled.ensures.stays

pub returns-in_err-filled-clause-stays : goal.returns-in_err-filled-clause-stays
returns-in_err-filled-clause-stays g c = c.filled.ensures.stays

pub returns-clause-files_stay : goal.returns-clause-files_stay
returns-clause-files_stay g c = λ s is. same_files c.filled.new.self.catalog c.size.new.catalog c.size.ensures.same ∙ c.filled.ensures.files_stay s is

pub returns-in_err-filled-clause-files_stay : goal.returns-in_err-filled-clause-files_stay
returns-in_err-filled-clause-files_stay g c = c.filled.ensures.files_stay

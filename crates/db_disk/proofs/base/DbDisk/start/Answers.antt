use Rattle.std.proofs.Common.{◌≡◌, ap, subst, sym, ◌∙◌, true, false}
use Rattle.std.proofs.lemmas.Option.{none-some, same_Some}
use Rattle.disk_model.specs.Disk.{Image}
use Rattle.db_disk.specs.Held.{has_head, headless_page}
use Rattle.db_disk.specs.Load.{as_base}
use Rattle.db_disk.specs.Reads.{files_in}
use Rattle.db_disk.proofs.Changes.{cause_after}
use Rattle.db_disk.proofs.Opens.{refused_first}
use Rattle.db_disk.proofs.Reading.{opens_not, opens_then}
use Rattle.catalog.specs.Damage.{ShowsNone}
use Rattle.db_disk.proofs.base.DbDisk.start.Goals as goal

pub returns-in-Ok-clause-no_head : goal.returns-in-Ok-clause-no_head
returns-in-Ok-clause-no_head g c = λ known m page is e.
    subst (λ (x : Image). has_head x ≡ false) (same_Some _ m (sym (c.in-Ok.ensures.pages known) ∙ is)) (c.loaded.ensures.no_head known page e)

pub returns-in-Ok-clause-headless : goal.returns-in-Ok-clause-headless
returns-in-Ok-clause-headless g c = λ known m is none off.
    c.loaded.ensures.headless known (c.restored.ensures.schema ∙ none)
    (subst (λ (x : Image). has_head x ≡ false) (same_Some m _ (sym is ∙ c.in-Ok.ensures.pages known)) off)

pub returns-in-Err-clause-headless : goal.returns-in-Err-clause-headless
returns-in-Err-clause-headless g c = λ known m is none off. refused_first _ m c.in-Err.fault is (λ file page e. c.restored.ensures.damaged known file page (c.in-Err.is ∙ e))

pub returns-in-Ok-clause-reads : goal.returns-in-Ok-clause-reads
returns-in-Ok-clause-reads g c = λ known all by.
    opens_then _ _ all _ _ _ by (c.in-Ok.ensures.pages known) (c.restored.ensures.reads known by.shut) (λ k has. c.loaded.ensures.reads known k has)

pub returns-in-Err-clause-reads : goal.returns-in-Err-clause-reads
returns-in-Err-clause-reads g c = λ known all by. opens_not _ all _ _ by (c.restored.ensures.reads known by.shut)

pub returns-in-Ok-clause-there : goal.returns-in-Ok-clause-there
returns-in-Ok-clause-there g c = c.loaded.ensures.there

pub returns-in-Ok-clause-kept : goal.returns-in-Ok-clause-kept
returns-in-Ok-clause-kept g c = c.loaded.ensures.kept ∙ c.restored.ensures.kept

pub returns-in-Ok-clause-keeps : goal.returns-in-Ok-clause-keeps
returns-in-Ok-clause-keeps g c = λ s is. c.loaded.ensures.keeps s (c.restored.ensures.schema ∙ is)

pub returns-in-Err-clause-kept : goal.returns-in-Err-clause-kept
returns-in-Err-clause-kept g c = c.restored.ensures.kept

pub returns-in-Err-clause-keeps : goal.returns-in-Err-clause-keeps
returns-in-Err-clause-keeps g c = λ s is. c.restored.ensures.schema ∙ is

pub returns-in-Err-clause-crash : goal.returns-in-Err-clause-crash
returns-in-Err-clause-crash g c = c.restored.ensures.crash

pub returns-in-Ok-clause-stays : goal.returns-in-Ok-clause-stays
returns-in-Ok-clause-stays g c = λ is. ((λ known. (c.loaded.ensures.only_reads known).clock_same ∙ ap g.D.Disk.clock (c.restored.ensures.still is)), c.loaded.ensures.opened)

pub returns-in-Err-clause-stays : goal.returns-in-Err-clause-stays
returns-in-Err-clause-stays g c = λ is. ((λ known. ap g.D.Disk.clock (c.restored.ensures.still is)), c.restored.ensures.stays is)

pub returns-in-Ok-clause-at_head : goal.returns-in-Ok-clause-at_head
returns-in-Ok-clause-at_head g c = λ known m page is e.
    subst (λ (x : Image). page ≡ headless_page x) (same_Some _ m (sym (c.in-Ok.ensures.pages known) ∙ is)) (c.loaded.ensures.at_head known page e)

pub returns-in-Ok-clause-at_batch : goal.returns-in-Ok-clause-at_batch
returns-in-Ok-clause-at_batch g c = λ known none file page is. absurd (none-some _ (sym none ∙ c.in-Ok.ensures.pages known))

pub returns-in-Err-clause-at_batch : goal.returns-in-Err-clause-at_batch
returns-in-Err-clause-at_batch g c = λ known none file page is. c.restored.ensures.at_batch known file page (c.in-Err.is ∙ is)

pub returns-in-Ok-clause-files_stay : goal.returns-in-Ok-clause-files_stay
returns-in-Ok-clause-files_stay g c = λ s is. ap files_in (c.loaded.ensures.catalog s (c.restored.ensures.schema ∙ is) ∙ c.restored.ensures.catalog)

pub returns-in-Err-clause-files_stay : goal.returns-in-Err-clause-files_stay
returns-in-Err-clause-files_stay g c = λ s is. ap files_in c.restored.ensures.catalog

pub returns-in-Ok-clause-cause : goal.returns-in-Ok-clause-cause
returns-in-Ok-clause-cause g c = cause_after _ _ _ _ _ (as_base c.loaded.result) c.restored.ensures.kept c.in-Ok.ensures.cause.caused c.loaded.ensures.cause

pub returns-in-Ok-clause-at_catalog : goal.returns-in-Ok-clause-at_catalog
returns-in-Ok-clause-at_catalog g c = λ known m is head file page e.
    subst (λ (x : Image). ShowsNone x (record { file = file; page = page })) (same_Some _ m (sym (c.in-Ok.ensures.pages known) ∙ is))
    (c.loaded.ensures.at_catalog known (subst (λ (x : Image). has_head x ≡ true) (same_Some m _ (sym is ∙ c.in-Ok.ensures.pages known)) head) file page e)

pub returns-in-Err-clause-at_catalog : goal.returns-in-Err-clause-at_catalog
returns-in-Err-clause-at_catalog g c = λ known m is head file page e. absurd (none-some m (sym (c.restored.ensures.damaged known file page (c.in-Err.is ∙ e)) ∙ is))

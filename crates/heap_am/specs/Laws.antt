-- What holds of the pages of each heap.
use Rattle.std.specs.Prelude.{◌≡◌, ◌-◌, ◌≤◌, Option, Some, if◌then◌else◌}
use Rattle.std.proofs.Common.{refl, sym, ◌∙◌}
use Rattle.std.proofs.Math.Nat.{sub-le, le_trans}
use Rattle.std.proofs.lemmas.Option.{none-some}
use Rattle.disk_model.specs.Disk.{Image}
use Rattle.disk_model.specs.declared.disk.Addr.{Addr}
use Rattle.base_trait.specs.Scans.{first_place}
use Rattle.am_traits.specs.Placed.{Placed}
use Rattle.calculus.specs.declared.schema.RelFile.{RelFile}
use Rattle.page_chain.specs.Pages.{page_at}
use Rattle.page_chain.specs.Rows.{placed_on, reader}
use Rattle.heap_am.specs.Heap.{heap_rows, HeapFault, is_last, pages_ahead}

-- where pages are at fault there are no rows
pub no_rows_at_fault : (file : RelFile) (m : Image) (rows : Placed) (a : Addr) → heap_rows file m ≡ Some rows → HeapFault file m a → ⊥
no_rows_at_fault file m rows a e h = none-some rows (sym h.none ∙ e)

-- only the pages of the file count
pub own_pages : (file : RelFile) (m n : Image) → ((b : Addr) → b.file ≡ file.file → m b ≡ n b) → heap_rows file m ≡ heap_rows file n
unfolding heap_rows
own_pages file m n same = λ i. placed_on (reader file.domains) file.used (λ page. same (page_at file.file page) refl i)

-- a whole scan reads each page once at most
pub whole_scan : (file : RelFile) (last : Option Addr) → pages_ahead file last first_place ≤ file.used
whole_scan file last = le_trans (sub-le (file.used - 0) (if is_last last (page_at file.file 0) then 1 else 0)) (sub-le file.used 0)

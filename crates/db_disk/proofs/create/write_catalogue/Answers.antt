use Rattle.std.proofs.Common.{refl}
use Rattle.db_disk.proofs.Calls.{clears}
use Rattle.db_disk.proofs.create.write_catalogue.Goals as goal

pub returns-clause-made : goal.returns-clause-made
returns-clause-made g c = clears _ _ _ _ c.in_ok-write_beside.ensures.noted record { bytes = _; there = refl; is_page = c.fresh_page.ensures.page; no_slots = c.fresh_page.ensures.slots; no_next = c.fresh_page.ensures.next }

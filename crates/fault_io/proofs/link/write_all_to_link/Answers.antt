use Rattle.std.proofs.Common.{◌∙◌}
use Rattle.fault_io.proofs.Writes.{goes_on}
use Rattle.fault_io.proofs.link.write_all_to_link.Goals as goal

pub loop-rest-preserved : goal.loop-rest-preserved
loop-rest-preserved g c = record {
  sent = rw c.split_at.ensures.back (goes_on _ _ _ _ _ _ c.loop-rest.invariant.sent c.in_ok-taken.ensures.bytes);
  faults = c.in_ok-taken.ensures.no_fault ∙ c.loop-rest.invariant.faults;
  stalls = c.in_ok-taken.ensures.no_stall ∙ c.loop-rest.invariant.stalls;
  left = c.in_ok-taken.ensures.left ∙ c.loop-rest.invariant.left;
}

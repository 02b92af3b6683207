use Rattle.std.proofs.Common.{◌≡◌, length}
use Rattle.fault_io.proofs.Writes.{Sent}
use Rattle.fault_io.proofs.link.write_all_to_link.Given as goal

abbrev pub invariant-loop-rest : goal.invariant-loop-rest
invariant-loop-rest g l = record {
  sent : Sent (g.L.Link.written l.fn.link) (g.L.Link.written l.link) l.bytes l.rest;
  faults : g.L.Link.faults l.link ≡ g.L.Link.faults l.fn.link;
  stalls : g.L.Link.stalls l.link ≡ g.L.Link.stalls l.fn.link;
  left : g.L.Link.left l.link ≡ g.L.Link.left l.fn.link;
}

abbrev pub decreases-loop-rest : goal.decreases-loop-rest
decreases-loop-rest g l = length l.rest

use Rattle.std.proofs.Common.{◌≡◌, ℕ, ◌-◌, ◌^◌, List, length}
use Rattle.frame_codec.specs.declared.frame.Frame.{Frame}
use Rattle.net_core.specs.Incoming.{Holds, IsHeld}
use Rattle.net_core.proofs.Pieces.{SoFar}
use Rattle.net_core.proofs.incoming.Incoming.next_right.Given as goal

abbrev pub invariant-frames : goal.invariant-frames
invariant-frames g l = record {
  held : IsHeld l.self;
  so_far : (taken : List Frame) (bytes : List ℕ) → Holds taken bytes l.fn.self → SoFar taken bytes (g.L.Link.left l.fn.link) (g.L.Link.left l.link) l.self;
  size : length l.buf ≡ 4096;
  faults : g.L.Link.faults l.link ≡ g.L.Link.faults l.fn.link;
  stalls : g.L.Link.stalls l.link ≡ g.L.Link.stalls l.fn.link;
  written : g.L.Link.written l.link ≡ g.L.Link.written l.fn.link;
}

abbrev pub decreases-frames : goal.decreases-frames
decreases-frames g l = 2 ^ 64 - l.self.read

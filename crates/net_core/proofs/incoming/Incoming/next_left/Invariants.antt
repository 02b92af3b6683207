use Rattle.std.proofs.Common.{◌≡◌, ℕ, ◌-◌, ◌^◌, List, length}
use Rattle.frame_codec.specs.declared.frame.Frame.{Frame}
use Rattle.net_core.specs.Incoming.{Holds, IsHeld}
use Rattle.net_core.proofs.Pieces.{SoFar}
use Rattle.net_core.proofs.incoming.Incoming.next_left.Given as goal

abbrev pub invariant-frames : goal.invariant-frames
invariant-frames g l = record {
  held : IsHeld l.self;
  so_far : (taken : List Frame) (bytes : List ℕ) → Holds taken bytes l.fn.self → SoFar taken bytes (g.I.Source.left l.fn.source) (g.I.Source.left l.source) l.self;
  size : length l.buf ≡ 4096;
  faults : g.I.Source.faults l.source ≡ g.I.Source.faults l.fn.source;
}

abbrev pub decreases-frames : goal.decreases-frames
decreases-frames g l = 2 ^ 64 - l.self.read

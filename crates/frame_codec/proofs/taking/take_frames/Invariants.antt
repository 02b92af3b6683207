use Rattle.std.proofs.Common.{◌≡◌, ◌+◌, ◌-◌, ◌≤◌, drop, length}
use Rattle.frame_codec.specs.Reading.{behind_frames, read}
use Rattle.frame_codec.proofs.taking.take_frames.Given as goal

abbrev pub invariant-each : goal.invariant-each
invariant-each l = record {
  begun : l.begin ≤ l.from;
  within : l.from ≤ length l.piece;
  counted : l.place + l.begin ≡ l.at + l.from;
  same : behind_frames l.frames.items (read l.place (drop l.from l.piece)) ≡ behind_frames l.fn.frames.items (read l.at (drop l.begin l.piece));
}

abbrev pub decreases-each : goal.decreases-each
decreases-each l = length l.piece - l.from

use Rattle.std.proofs.Common.{◌≡◌, ◌+◌, ◌≤◌, length}
use Rattle.calculus.specs.Constant.{constant_text}
use Rattle.calculus.proofs.Constants.{kept_with}
use Rattle.calculus.proofs.kinds.constant_length.Given as goal

abbrev pub invariant-bytes : goal.invariant-bytes
invariant-bytes l = record {
  counted : kept_with l.read l.kept (constant_text l.rest) ≡ length (constant_text l.written);
  within : l.read + length l.rest ≤ length l.written;
  below : l.kept ≤ l.read;
}

abbrev pub decreases-bytes : goal.decreases-bytes
decreases-bytes l = length l.rest

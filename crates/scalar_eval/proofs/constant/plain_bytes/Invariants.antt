use Rattle.std.proofs.Common.{◌≡◌, ◌++◌, length}
use Rattle.calculus.specs.Constant.{unescaped, plain_bytes}
use Rattle.scalar_eval.proofs.constant.plain_bytes.Given as goal

abbrev pub invariant-bytes : goal.invariant-bytes
invariant-bytes l = l.bytes.items ++ plain_bytes (unescaped l.rest) ≡ plain_bytes (unescaped l.written)

abbrev pub decreases-bytes : goal.decreases-bytes
decreases-bytes l = length l.rest

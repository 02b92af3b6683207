use Rattle.calculus.proofs.Constants.{chars_short}
use Rattle.calculus.proofs.kinds.+kind_of.Goals as goal

pub constant_kind-requires : goal.constant_kind-requires
constant_kind-requires t c = rw c.bytes.ensures.bytes (chars_short _ c.bytes.ensures.chars)

-- A session that didn't begin, for want of memory.
use Rattle.std.proofs.Common.{inl, refl, ℕ, false, [], Err, arith}
use Rattle.calculus.specs.Who.{Asker}
use Rattle.net_core.specs.declared.fault.WorkFault.TheVariants as faults
use Rattle.net_core.specs.Known.{Outside}
use Rattle.net_session.proofs.Serving.{ran_none}
use Rattle.net_session.proofs.Whole.{session_done}
use Rattle.net_session.specs.Made.{first_of}
use Rattle.net_session.specs.Session.{SessionDone}

-- it leaves all as it was
pub not_begun : (asker : Asker) (number : ℕ) (o : Outside) → SessionDone asker number o o (Err faults.OutOfMemory)
not_begun asker number o = session_done asker number o o [] 0 false (omega arith, inl refl) (Err faults.OutOfMemory) (ran_none asker number (first_of o))

-- What statements work on, and what one leaves.
use Rattle.calculus.specs.declared.reply.Reply.{Reply}
use Rattle.calculus.specs.Database.{Db}
use Rattle.quel_meaning.specs.Ranges.{Ranges}
use Rattle.fault_io.specs.Files.{Files}

-- a database, a shelf, and the range variables
pub record State : Type 0 where
  pub db : Db
  pub shelf : Files
  pub ranges : Ranges

-- what stands after a statement, and its reply, whose refusal has the line 0
pub record Outcome : Type 0 where
  pub state : State
  pub reply : Reply

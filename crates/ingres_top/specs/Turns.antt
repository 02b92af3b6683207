-- A session of `try`, by the steps of the four stages.
use Rattle.std.specs.Prelude.{◌≡◌, ℕ, List, Option, Result, Some}
use Rattle.calculus.specs.Who.{asker_of}
use Rattle.fault_io.specs.Files.{Files}
use Rattle.ingres_top.specs.Status.{status_of}
use Rattle.ingres_top.specs.Top.{empty_db}
use Rattle.net_core.specs.declared.fault.WorkFault.{WorkFault}
use Rattle.net_core.specs.Known.{Outside}
use Rattle.net_session.specs.Runs.{RanBy}
use Rattle.quel_network.specs.Sorts.{User}

-- what is known of the files, of what is left of the script and of what was written
pub record Told : Type 0 where
  pub files : Option Files
  pub script : Option (List ℕ)
  pub output : Option (List ℕ)

-- these steps have led from what was told before to what is told after, with this status: at the start the database of this user was empty; the turns of the number 0 were made up to a step behind which all stages have ended, and left this database, files and output; or up to one that failed; or memory was wanting before the first of them or behind the last
pub record TriedBy (user : List ℕ) (before after : Told) (status : ℕ) : Type 0 where
  pub old : Outside
  pub new : Outside
  pub empty : old.database ≡ Some (empty_db user)
  pub began : before ≡ record { files = old.files; script = old.script; output = old.output }
  pub left : after ≡ record { files = new.files; script = new.script; output = new.output }
  pub result : Result (Unit {0}) WorkFault
  pub ended : status ≡ status_of result
  pub ran : (who : User) → who.asker ≡ asker_of user → RanBy who 0 old new result

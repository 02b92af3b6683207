-- What a session comes to, as a whole.
use Rattle.std.specs.Prelude.{◌≡◌, ◌↔◌, ◌+◌, ◌<◌, ◌≤◌, ℕ, false, List, Some, Result, OnOk, IsErrOf, drop, length}
use Rattle.std.specs.declared.option.Option.{Option}
use Rattle.calculus.specs.Who.{Asker}
use Rattle.fault_io.specs.Known.{GrewBy, IsFront}
use Rattle.net_core.specs.Causes.{IsCaused}
use Rattle.net_core.specs.declared.fault.WorkFault.{WorkFault}
use Rattle.net_core.specs.declared.fault.WorkFault.TheVariants as faults
use Rattle.net_core.specs.Known.{KeepsDatabase, Later, Outside, known}
use Rattle.net_core.specs.Spares.{CountsOnly}
use Rattle.network_meaning.specs.Calls.{Knows}
use Rattle.network_meaning.specs.LocalSteps.{Room}
use Rattle.quel_meaning.specs.Session.{output}
use Rattle.quel_network.specs.Sorts.{User, quel_sorts}
use Rattle.net_session.specs.Runs.{RanBy}
use Rattle.session_laws.specs.Heard.{AllDone, BrokenOff, IsBrokenOff, IsPartly, within}

-- what was read is the bytes that were heard, and behind them a piece of at most 4,096; no line that lies wholly in the first ended the session, and at least what these lines print was written
pub record KeptUp (user : User) (r : Room quel_sorts) (script' out out' : Option (List ℕ)) : Type 0 where
  pub heard : ℕ
  pub piece : ℕ
  pub small : piece ≤ 4096
  pub read : script' ≡ Some (drop (heard + piece) r.script)
  pub goes_on : (within heard user r).quit ≡ false
  pub printed : GrewBy out out' (λ bytes. IsFront (output (within heard user r)) bytes)

-- what a session of this asker, by the turns of a number, has done from the first outside to the second
pub record SessionDone (asker : Asker) (number : ℕ) (old new : Outside) (result : Result (Unit {0}) WorkFault) : Type 0 where
  -- where the room is known
  pub done : (user : User) → user.asker ≡ asker → (r : Room quel_sorts) → Knows (known old) r → OnOk result (AllDone user r (known old) (known new))
  pub partly : (user : User) → user.asker ≡ asker → (r : Room quel_sorts) → Knows (known old) r → IsPartly user r old.output new.output
  pub keeps_up : (user : User) → user.asker ≡ asker → (r : Room quel_sorts) → Knows (known old) r → KeptUp user r new.script old.output new.output
  pub broken_off : (user : User) → user.asker ≡ asker → (r : Room quel_sorts) → Knows (known old) r → IsErrOf result faults.Source → IsBrokenOff user r new.script old.output new.output new.files
  pub cut_off : (user : User) → user.asker ≡ asker → (r : Room quel_sorts) → Knows (known old) r → IsErrOf result faults.TooLong → BrokenOff user r 16777217 16777216 new.script old.output new.output new.files
  pub lawful : (user : User) → user.asker ≡ asker → (r : Room quel_sorts) → Knows (known old) r → IsErrOf result faults.Unlawful → ⊥
  -- whatever is known: how the steps went, the causes of faults, and the counts
  pub turns : (user : User) → user.asker ≡ asker → RanBy user number old new result
  pub cause : IsCaused 0 old new result
  pub counts : CountsOnly old new result
  pub later : Later old new
  pub database : OnOk result (KeepsDatabase old new)
  -- how much of the script was read
  pub too_long : (script rest : List ℕ) → old.script ≡ Some script → new.script ≡ Some rest → IsErrOf result faults.TooLong ↔ (16777216 + length rest < length script)
  pub past : IsErrOf result faults.TooLong → (script : List ℕ) → old.script ≡ Some script → new.script ≡ Some (drop 16777217 script)

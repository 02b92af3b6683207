-- When the source is asked, and its end.
use Rattle.std.specs.Prelude.{◌≡◌, ◌⊎◌, ℕ, Bool, true, false, List, Result, IsErrOf, IsOk}
use Rattle.std.specs.declared.option.Option.{Option}
use Rattle.net_core.specs.declared.fault.WorkFault.{WorkFault}
use Rattle.net_core.specs.declared.fault.WorkFault.TheVariants as faults
use Rattle.net_core.specs.Reads.{ReadsScript, ReadsWhole}
use Rattle.network_meaning.specs.LocalSteps.{Mode.reading}
use Rattle.quel_network.specs.Sorts.{Monitor}

-- with an answer a source that had ended has ended, and whole lines were read, or it has ended now; and it fails only where it hadn't ended
pub record EndSeen {T : Type 0} (left left' : Option (List ℕ)) (ended ended' : Bool) (result : Result T WorkFault) : Type 0 where
  pub stays : IsOk result → ended ≡ true → ended' ≡ true
  pub whole : IsOk result → ReadsWhole left left' ⊎ (ended' ≡ true)
  pub going : IsErrOf result faults.Source → ended ≡ false

-- nothing of the script was read, and the source didn't fail
abbrev pub Unasked : {T : Type 0} → ℕ → ℕ → Option (List ℕ) → Option (List ℕ) → Result T WorkFault → Type 0
Unasked heard heard' left left' result = (heard' ≡ heard) × (left' ≡ left) × (IsErrOf result faults.Source → ⊥)

-- only where the next line is the script's was the source asked, and its end was seen
pub record SourceAsked {T : Type 0} (m : Monitor) (heard heard' : ℕ) (left left' : Option (List ℕ)) (ended ended' : Bool) (result : Result T WorkFault) : Type 0 where
  pub ends : EndSeen left left' ended ended' result
  pub asks : ReadsScript (reading m) ⊎ Unasked heard heard' left left' result

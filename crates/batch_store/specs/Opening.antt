-- Which calls open a store.
use Rattle.std.specs.Prelude.{◌≡◌, List, ◌∷◌}
use Rattle.disk_model.specs.declared.calls.Call.{Call}
use Rattle.disk_model.specs.declared.calls.Call.TheVariants.{Sync}
use Rattle.batch_file.specs.declared.fault.Restored.{Restored}
use Rattle.batch_file.specs.Order.{Restores}

-- what an opening did that restored so much: a sync, and behind it what the restore did
abbrev pub Reopens : Restored → List Call → Type 0
Reopens done calls = (rest : List Call) × (calls ≡ Sync ∷ rest) × Restores done rest

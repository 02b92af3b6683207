-- What is known of the writes, cuts and syncs that a disk had.
use Rattle.std.specs.Prelude.{◌≡◌, List, ◌++◌, Option, Some, None}
use Rattle.disk_model.specs.declared.calls.Call.{Call}

-- where a disk's calls are known, these came behind those of before
abbrev pub Came : Option (List Call) → Option (List Call) → List Call → Type 0
Came None new more = Unit {0}
Came (Some old) new more = new ≡ Some (old ++ more)

-- calls of which P holds came behind those of before, where they are known
abbrev pub CameSo : Option (List Call) → Option (List Call) → (List Call → Type 0) → Type 0
CameSo old new P = (more : List Call) × Came old new more × P more

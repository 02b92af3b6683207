use Rattle.reading_laws.proofs.Resolved.{resolved_shallow}
use Rattle.reading_laws.proofs.shallow.what_is_asked_for_is_as_shallow.Goals as goal

pub returns : goal.returns
returns c = record { asked = resolved_shallow }

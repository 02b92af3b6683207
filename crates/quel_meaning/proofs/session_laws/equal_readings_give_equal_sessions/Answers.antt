use Rattle.quel_meaning.proofs.Agreement.{same_sessions, same_reading}
use Rattle.quel_meaning.proofs.Grammatical.{same_grammatical}
use Rattle.quel_meaning.proofs.session_laws.equal_readings_give_equal_sessions.Goals as goal

pub returns : goal.returns
returns c = record { settings = same_sessions; readings = same_reading; grammatical = same_grammatical }

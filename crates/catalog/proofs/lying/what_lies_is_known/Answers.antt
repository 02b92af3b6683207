use Rattle.catalog.proofs.LiesKnown.{known_of}
use Rattle.catalog.proofs.lying.what_lies_is_known.Goals as goal

pub returns : goal.returns
returns c = λ known m db lies stands owners named. known_of known m db lies stands owners named

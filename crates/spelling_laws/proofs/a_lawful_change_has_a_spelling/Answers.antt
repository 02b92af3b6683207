use Rattle.spelling_laws.proofs.Changes.{lawful_spelled}
use Rattle.spelling_laws.proofs.a_lawful_change_has_a_spelling.Goals as goal

pub returns : goal.returns
returns c db made d lawful = lawful_spelled db made d lawful

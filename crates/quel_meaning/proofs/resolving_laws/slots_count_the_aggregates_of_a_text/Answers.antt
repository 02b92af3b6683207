use Rattle.quel_meaning.proofs.Slots.{slots_are, as_many}
use Rattle.quel_meaning.proofs.resolving_laws.slots_count_the_aggregates_of_a_text.Goals as goal

pub returns : goal.returns
returns c = record { slots = slots_are; number = as_many }

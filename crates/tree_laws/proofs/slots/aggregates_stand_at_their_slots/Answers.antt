use Rattle.tree_laws.proofs.Slotted.{slotted}
use Rattle.tree_laws.proofs.slots.aggregates_stand_at_their_slots.Goals as goal

pub returns : goal.returns
returns c db who expansions q h = slotted db who expansions q h

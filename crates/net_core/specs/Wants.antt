-- What a stage of the program wants, as the network has it.
use Rattle.std.specs.Prelude.{◌≡◌, ◌⊎◌, Bool, true, false}
use Rattle.network_meaning.specs.LocalSteps.{Want as Wish}
use Rattle.network_meaning.specs.LocalSteps.{Want.take_left, Want.take_right, Want.give_left, Want.give_right, Want.work, Want.none}
use Rattle.network_meaning.specs.Network.{LocalState, want}
use Rattle.quel_network.specs.Sorts.{quel_sorts}
use Rattle.net_core.specs.declared.stage.Want.{Want}
use Rattle.net_core.specs.declared.stage.Want.TheVariants.{TakeLeft, TakeRight, GiveLeft, GiveRight, Work, Ended}
use Rattle.net_core.specs.declared.steps.Moved.{Moved}
use Rattle.net_core.specs.declared.steps.Moved.TheVariants.{Stepped, Blocked}

-- what is wanted, as the network has it
abbrev pub wish : Want → Wish
wish TakeLeft = take_left
wish TakeRight = take_right
wish GiveLeft = give_left
wish GiveRight = give_right
wish Work = work
wish Ended = none

-- it is to take
abbrev pub IsToTake : LocalState quel_sorts → Type 0
IsToTake s = (want s ≡ take_left) ⊎ (want s ≡ take_right)

-- it is to give
abbrev pub IsToGive : LocalState quel_sorts → Type 0
IsToGive s = (want s ≡ give_left) ⊎ (want s ≡ give_right)

-- it is to work
abbrev pub IsToWork : LocalState quel_sorts → Type 0
IsToWork s = want s ≡ work

-- it has ended, with nothing to give
abbrev pub HasEnded : LocalState quel_sorts → Type 0
HasEnded s = want s ≡ none

-- a step was blocked
abbrev pub was_blocked : Moved → Bool
was_blocked Stepped = false
was_blocked Blocked = true

-- What comes to stage 1 is lawful: a row stands behind its head.
use Rattle.std.specs.Prelude.{◌≡◌, true, List, [], ◌∷◌, None, ⊤}
use Rattle.std.specs.declared.option.Option.{Option}
use Rattle.network_meaning.specs.Sorts.{Sorts, Message, Message.text, Message.cargo, Message.said, Message.end, Message.quit}
use Rattle.network_meaning.specs.Language.{Language}
use Rattle.network_meaning.specs.LocalSteps.{is_due, open_after}
use Rattle.network_meaning.specs.MessageNetwork.{MessageNetwork}
use Rattle.network_meaning.specs.Held.{held, begun}

-- each of these messages is due, from a table that is begun or none: a row stands behind the head of its table and fits it
abbrev pub Due : {S : Sorts} → Language S → Option S.Head → List (Message S) → Type 0
Due L o [] = ⊤
Due L o (said s ∷ ms) = (is_due L o s ≡ true) × Due L (open_after o s) ms
Due L o (end ∷ ms) = Due L None ms
Due L o (text t ∷ ms) = Due L o ms
Due L o (cargo x ∷ ms) = Due L o ms
Due L o (quit ∷ ms) = Due L o ms

-- what stage 1 is to print and what is on its way to it is due, from the table that it has begun
abbrev pub IsDue : {S : Sorts} → Language S → MessageNetwork S → Type 0
IsDue L v = Due L (begun v.one) (held L v)

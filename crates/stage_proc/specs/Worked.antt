-- What the query processor has done, where nothing is known but the database.
use Rattle.std.specs.Prelude.{◌≡◌, Option, Some}
use Rattle.calculus.specs.Database.{Db}
use Rattle.network_meaning.specs.Lawful.{FitWork}
use Rattle.network_meaning.specs.LocalSteps.{Act, Room as NetworkRoom, Works}
use Rattle.network_meaning.specs.Network.{LocalState, done_act}
use Rattle.network_meaning.specs.WorkShape.{WorkShape}
use Rattle.quel_network.specs.Quel.{quel}
use Rattle.quel_network.specs.Sorts.{User, quel_sorts}

-- it has done an act that has the shape of such a piece of work; where the database is known the tree is fit for it, and the act is the network's in each room with this database, which stays as it is
pub record HasWorked (user : User) (s s' : LocalState quel_sorts) (known : Option Db) : Type 0 where
  pub act : Act quel_sorts
  pub is : s' ≡ done_act (quel user) s act s.got_left s.got_right
  pub shape : WorkShape (quel user) s.mode act
  pub fit : (db : Db) → known ≡ Some db → FitWork (quel user) s.mode db
  pub exact : (room : NetworkRoom quel_sorts) → known ≡ Some room.db → Works (quel user) s.mode room act room

-- what it works on isn't fit for a database that is known
abbrev pub MayNotBeWorkedOn : User → LocalState quel_sorts → Option Db → Type 0
MayNotBeWorkedOn user s known = (db : Db) → known ≡ Some db → FitWork (quel user) s.mode db → ⊥

-- Which image of a batch stands for an address.
use Rattle.std.specs.Prelude.{◌≡◌, ℕ, suc, ◌<◌, ◌&&◌, nat_eq, Bool, true, false, [], ◌∷◌, Option, Some, None}
use Rattle.std.specs.HashMap as hash
use Rattle.std.specs.HashMap.{HashMap}
use Rattle.disk_model.specs.Disk.{is_at}
use Rattle.disk_model.specs.declared.disk.Addr.{Addr}
use Rattle.batch_file.specs.declared.stage.Batch.{Batch}
use Rattle.batch_file.specs.Layout.{Entries}
use Rattle.batch_file.specs.Staged.{size_of}

-- one further where it is there among the others, else 0 where the first is it
abbrev pub from_first : Bool → Option ℕ → Option ℕ
from_first first (Some i) = Some (suc i)
from_first true None = Some 0
from_first false None = None

-- the number of the last entry that is to stand at an address
abbrev pub last_for : Entries → Addr → Option ℕ
last_for [] a = None
last_for (c ∷ cs) a = from_first (is_at a c.0) (last_for cs a)

module _ {S : Type 0} (numbers : HashMap (ℕ × ℕ) ℕ S) where
  -- the number that is noted for an address
  abbrev pub number_of : Addr → Option ℕ
  number_of a = hash.get (λ x y. nat_eq x.0 y.0 && nat_eq x.1 y.1) numbers (a.file, a.page)

  -- each number that is noted is one of an image of the batch
  abbrev pub AreBelow : Batch → Type 0
  AreBelow batch = (a : Addr) (i : ℕ) → number_of a ≡ Some i → i < size_of batch

  -- what is noted for an address is the number of the last entry that is to stand there, and none where there is none
  abbrev pub AreNumbered : Entries → Type 0
  AreNumbered cs = (a : Addr) → number_of a ≡ last_for cs a

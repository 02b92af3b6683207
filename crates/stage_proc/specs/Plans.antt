-- What is said of what is made of an update.
use Rattle.std.specs.Prelude.{◌≡◌, ℕ, true, List, Result, Ok, Err, All, IsTrue, IsFalse, ⊤}
use Rattle.calculus.specs.declared.change.Pair.{Pair}
use Rattle.calculus.specs.declared.request.Asked.{Asked}
use Rattle.calculus.specs.declared.request.Update.{Update}
use Rattle.calculus.specs.Database.{Db}
use Rattle.calculus.specs.Pairs.{pairs}
use Rattle.calculus.specs.Replacement.{update_lacks, values_fit}
use Rattle.calculus.specs.Who.{Unrestricted}
use Rattle.quel_meaning.specs.Fit.{update_fits}
use Rattle.quel_meaning.specs.FitQueries.{kept_alone}
use Rattle.quel_meaning.specs.SpelledTree.{update_is_spelled}
use Rattle.stage_proc.specs.declared.stopped.Stopped.{Stopped}
use Rattle.stage_proc.specs.declared.stopped.Stopped.TheVariants.{No, Base, OutOfMemory}
use Rattle.stage_proc.specs.TableCauses.{CanBeAnswered}

-- this of what is made, this of the number that refuses; nothing of a fault of the database, nor of want of memory
abbrev pub Plans : {T : Type 0} → (T → Type 0) → (ℕ → Type 0) → Result T Stopped → Type 0
Plans made refused (Ok x) = made x
Plans made refused (Err (No number)) = refused number
Plans made refused (Err (Base fault)) = ⊤
Plans made refused (Err OutOfMemory) = ⊤

-- these are the update's pairs unrestricted; no target lacks a value, and all values fit
pub record ArePairs (db : Db) (u : Update) (ps : List Pair) : Type 0 where
  pub are : ps ≡ pairs db Unrestricted u
  pub values : IsFalse (update_lacks db Unrestricted u)
  pub fit : IsTrue (values_fit db Unrestricted u)

-- the queries can be answered
abbrev pub AreDoable : Db → List Asked → Type 0
AreDoable db asked = All (λ a. CanBeAnswered db a.query) asked

-- the update fits over base relations and catalogues alone, and what it makes and its constants are spelled
pub record IsDoableUpdate (db : Db) (u : Update) : Type 0 where
  pub spelled : update_is_spelled u ≡ true
  pub fits : update_fits (kept_alone db) db u ≡ true

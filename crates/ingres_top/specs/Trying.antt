-- What a run of `try` has done to the objects of the outside.
use Rattle.std.specs.Prelude.{◌≡◌, ℕ, Bool, List, Result, Some}
use Rattle.std.specs.declared.option.Option.{Option}
use Rattle.calculus.specs.Who.{asker_of}
use Rattle.fault_io.specs.Causes.{Rose}
use Rattle.fault_io.specs.Files.{Files}
use Rattle.ingres_top.specs.declared.top.World.{World}
use Rattle.ingres_top.specs.Top.{empty_db}
use Rattle.net_core.specs.declared.fault.WorkFault.{WorkFault}
use Rattle.net_core.specs.Known.{Outside}
use Rattle.net_session.specs.Session.{SessionDone}

-- what the objects of the outside tell: the files, what is left of the script, what was written, and their counts
pub record Objects : Type 0 where
  pub files : Option Files
  pub shelf_faults : ℕ
  pub script : Option (List ℕ)
  pub given : ℕ
  pub source_faults : ℕ
  pub source_ended : Bool
  pub output : Option (List ℕ)
  pub sink_faults : ℕ
  pub sink_stalls : ℕ

-- what those of a world tell
abbrev pub objects : {S K H : Type 0} → (H → Option Files) → (H → ℕ) → (S → Option (List ℕ)) → (S → ℕ) → (S → ℕ) → (S → Bool) → (K → Option (List ℕ)) → (K → ℕ) → (K → ℕ) → World S K H → Objects
objects files shelf_faults left given source_faults source_ended written sink_faults stalls world = record {
  files = files world.shelf;
  shelf_faults = shelf_faults world.shelf;
  script = left world.source;
  given = given world.source;
  source_faults = source_faults world.source;
  source_ended = source_ended world.source;
  output = written world.sink;
  sink_faults = sink_faults world.sink;
  sink_stalls = stalls world.sink;
}

-- what those of an outside tell
abbrev pub objects_of : Outside → Objects
objects_of o = record {
  files = o.files;
  shelf_faults = o.shelf_faults;
  script = o.script;
  given = o.given;
  source_faults = o.source_faults;
  source_ended = o.source_ended;
  output = o.output;
  sink_faults = o.sink_faults;
  sink_stalls = o.sink_stalls;
}

-- a session of this user by the turns of the number 0, from an empty database whose administrator the user is, and which never fails, has led from what the objects told before to what they tell after
pub record TryDone (user : List ℕ) (before after : Objects) (result : Result (Unit {0}) WorkFault) : Type 0 where
  pub old : Outside
  pub new : Outside
  pub empty : old.database ≡ Some (empty_db user)
  pub sound : Rose old.base_faults new.base_faults → ⊥
  pub began : objects_of old ≡ before
  pub left : objects_of new ≡ after
  pub session : SessionDone (asker_of user) 0 old new result

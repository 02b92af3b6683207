-- What a step comes to that takes a frame, gives one, or works.
use Rattle.std.specs.Prelude.{◌≡◌, ◌⊎◌, ℕ, ◌+◌, List, [], ◌∷◌, ◌++◌, length, Result, Ok, Err, ⊤}
use Rattle.std.specs.declared.option.Option.{Option}
use Rattle.std.specs.Io.KnownBytes.{Appends}
use Rattle.calculus.specs.Database.{Db}
use Rattle.fault_io.specs.Known.{GrewBy, IsFront}
use Rattle.frame_codec.specs.declared.frame.Frame.{Frame}
use Rattle.frame_codec.specs.Frames.{frame_bytes}
use Rattle.frame_codec.specs.Reading.{Reading, behind_frames, read}
use Rattle.net_core.specs.Causes.{MayCome, MayNotTake, MayNotWork}
use Rattle.net_core.specs.Crashes.{HandsOver, QuietWithout}
use Rattle.net_core.specs.declared.fault.WorkFault.TheVariants as work
use Rattle.net_core.specs.declared.steps.Moved.{Moved}
use Rattle.net_core.specs.declared.steps.Moved.TheVariants.{Stepped, Blocked}
use Rattle.net_core.specs.Spares.{SparesBy}
use Rattle.net_core.specs.Known.{FailedWork, Outside, known}
use Rattle.network_meaning.specs.Calls.{Given, Taken, WorkDone}
use Rattle.network_meaning.specs.Network.{LocalState}
use Rattle.quel_network.specs.Quel.{quel}
use Rattle.quel_network.specs.Sorts.{User, quel_sorts}
use Rattle.net_core.specs.declared.loop_fault.LoopFault.{LoopFault}
use Rattle.net_core.specs.declared.loop_fault.LoopFault.TheVariants as fault
use Rattle.net_core.specs.declared.incoming.Incoming.{Incoming}
use Rattle.net_core.specs.LoopFaults.{IsPlain}
use Rattle.net_core.specs.Incoming.{Holds, Inlet, IsBroken, IsRefused, IsTold, IsUntold, NoFrame, inlet}
use Rattle.net_core.specs.Sides.{Faltered, HasRead, IsNeeded, Outlet, OutletLater, SameCounts}

-- ---- to take

-- a stage took this frame, or refused it, or no memory was left; the frame begins at this place
abbrev pub TookFrame : (User → Type 0) → LocalState quel_sorts → Frame → LocalState quel_sorts → ℕ → Result Moved LoopFault → Type 0
TookFrame serves s frame s' at (Ok Stepped) = (user : User) → serves user → Taken (quel user) s frame s'
TookFrame serves s frame s' at (Err (fault.BadFrame place)) = (place ≡ at) × ((user : User) → serves user → MayNotTake (quel user) s frame)
TookFrame serves s frame s' at (Err fault.OutOfMemory) = ⊤
TookFrame serves s frame s' at _ = ⊥

-- a stage at this state took no frame, by this fault, where a failed read answers that one; from the right a frame that tells a status is answered by that status
abbrev pub TakeFailed : (User → Type 0) → LocalState quel_sorts → Inlet → LoopFault → LoopFault → Type 0
TakeFailed serves s i failed (fault.BadFrame at) = (IsBroken i at ⊎ IsRefused serves s i at) × (failed ≡ fault.Right → IsUntold i)
TakeFailed serves s i failed (fault.Told status) = (failed ≡ fault.Right) × IsTold i status
TakeFailed serves s i failed fault.LeftRead = failed ≡ fault.LeftRead
TakeFailed serves s i failed fault.Right = failed ≡ fault.Right
TakeFailed serves s i failed fault.EndedEarly = NoFrame i failed fault.EndedEarly
TakeFailed serves s i failed fault.Spent = NoFrame i failed fault.Spent
TakeFailed serves s i failed fault.OutOfMemory = ⊤
TakeFailed serves s i failed _ = ⊥

-- the next frame was taken, from the right none that tells a status; or what is behind these frames is unread and none was
abbrev pub Took : (User → Type 0) → LocalState quel_sorts → LocalState quel_sorts → List Frame → List ℕ → Option (List ℕ) → LoopFault → Incoming → Result Moved LoopFault → Type 0
Took serves s s' taken all left failed i' (Ok Stepped) = (frame : Frame) × Holds (taken ++ frame ∷ []) all i' × ((user : User) → serves user → Taken (quel user) s frame s') × (failed ≡ fault.Right → IsPlain frame)
Took serves s s' taken all left failed i' (Ok Blocked) = ⊥
Took serves s s' taken all left failed i' (Err f) = (unread : Reading) × (behind_frames taken unread ≡ read 0 all) × TakeFailed serves s (inlet taken all left unread) failed f

-- a stage was to take a frame: what was read for it behind these bytes, and what it came to
pub record TakeDone (serves : User → Type 0) (s s' : LocalState quel_sorts) (taken : List Frame) (bytes : List ℕ) (known known' : Option (List ℕ)) (failed : LoopFault) (i' : Incoming) (result : Result Moved LoopFault) : Type 0 where
  pub more : List ℕ
  pub heard : HasRead known more known'
  pub needed : IsNeeded (length taken) bytes → IsNeeded (length taken + 1) (bytes ++ more)
  pub took : Took serves s s' taken (bytes ++ more) known' failed i' result

-- ---- to give

-- a stage gave a frame, and a front of its bytes was written before writing failed or took nothing
pub record GavePart (s s' : LocalState quel_sorts) (o o' : Outlet) : Type 0 where
  pub frame : Frame
  pub given : Given s frame s'
  pub front : GrewBy o.written o'.written (λ more. IsFront more (frame_bytes frame))
  pub faltered : Faltered o o'
  pub later : OutletLater o o'

-- a stage gave a frame, and all its bytes were written; or writing failed, which answers that fault, or no memory was left and nothing was written
abbrev pub Gave : LocalState quel_sorts → LocalState quel_sorts → Outlet → Outlet → LoopFault → Result Moved LoopFault → Type 0
Gave s s' o o' failed (Ok Stepped) = (frame : Frame) × Given s frame s' × Appends o.written o'.written (frame_bytes frame) × SameCounts o o'
Gave s s' o o' failed (Ok Blocked) = ⊥
Gave s s' o o' failed (Err f) = ((f ≡ fault.OutOfMemory) × (o' ≡ o)) ⊎ ((f ≡ failed) × GavePart s s' o o')

-- ---- to work

-- a stage has worked, and this is known of the schema then; or its work came to no end; or what it is to work on isn't fit, and that place is answered
abbrev pub Worked : (User → Type 0) → ℕ → LocalState quel_sorts → LocalState quel_sorts → Outside → Outside → Option Db → ℕ → Result Moved LoopFault → Type 0
Worked serves heard s s' o o' schema last (Ok Stepped) = ((user : User) → serves user → WorkDone (quel user) s s' (known o) (known o')) × QuietWithout s o o' × HandsOver s s' schema o'.database
Worked serves heard s s' o o' schema last (Err (fault.Work f)) = (f ≡ work.Unlawful → ⊥) × MayCome heard o o' f × ((user : User) → serves user → FailedWork (quel user) s.mode o o') × SparesBy o o' f
Worked serves heard s s' o o' schema last (Err (fault.BadFrame at)) = (at ≡ last) × ((user : User) → serves user → MayNotWork (quel user) s.mode o) × ((user : User) → serves user → FailedWork (quel user) s.mode o o') × (o'.database ≡ o.database)
Worked serves heard s s' o o' schema last _ = ⊥

-- A stage at one of its pipes.
use Rattle.std.specs.Prelude.{◌≡◌, ◌<◌, ◌≤◌, ℕ, List, [], ◌∷◌, ◌++◌, length}
use Rattle.frame_codec.specs.declared.frame.Frame.{Frame}
use Rattle.net_core.specs.declared.steps.Moved.{Moved}
use Rattle.net_core.specs.declared.steps.Moved.TheVariants.{Stepped, Blocked}
use Rattle.network_meaning.specs.Calls.{Given, Taken}
use Rattle.network_meaning.specs.Language.{Language}
use Rattle.network_meaning.specs.Network.{LocalState}
use Rattle.quel_network.specs.Sorts.{quel_sorts}

-- the first frame of the pipe was taken, or the pipe was empty
abbrev pub TookFrom : Language quel_sorts → Moved → LocalState quel_sorts → List Frame → LocalState quel_sorts → List Frame → Type 0
TookFrom L Stepped s pipe s' pipe' = (frame : Frame) × (pipe ≡ frame ∷ pipe') × Taken L s frame s'
TookFrom L Blocked s pipe s' pipe' = (pipe ≡ []) × (s' ≡ s) × (pipe' ≡ pipe)

-- a frame was given to the pipe, or the pipe was full
abbrev pub GaveTo : Moved → ℕ → LocalState quel_sorts → List Frame → LocalState quel_sorts → List Frame → Type 0
GaveTo Stepped capacity s pipe s' pipe' = (frame : Frame) × (length pipe < capacity) × (pipe' ≡ pipe ++ frame ∷ []) × Given s frame s'
GaveTo Blocked capacity s pipe s' pipe' = (capacity ≤ length pipe) × (s' ≡ s) × (pipe' ≡ pipe)

-- a step was blocked exactly where this pipe was empty
abbrev pub WasEmpty : Moved → List Frame → Type 0
WasEmpty Stepped pipe = pipe ≡ [] → ⊥
WasEmpty Blocked pipe = pipe ≡ []

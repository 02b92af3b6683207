-- What is found in a list of calls, and what a crash that fills pages makes of it.
use Rattle.std.specs.Prelude.{ℕ, Bool, true, false, List, [], ◌∷◌, Option, Some, None}
use Rattle.disk_model.specs.declared.calls.Call.{Call}
use Rattle.disk_model.specs.declared.calls.Call.TheVariants.{Write, FailedWrite, Cut, FailedCut, Sync, FailedSync, Fill}
use Rattle.disk_model.specs.Calls.{page_of}

-- the page that was found, or that there is none, or what was there before
abbrev pub said : Option Bool → List ℕ → Option (List ℕ) → Option (List ℕ)
said (Some true) page before = Some page
said (Some false) page before = None
said None page before = before

-- no sync that succeeded
abbrev pub IsQuietCall : Call → Type 0
IsQuietCall (Write a page) = Unit {0}
IsQuietCall (FailedWrite a) = Unit {0}
IsQuietCall (Cut file) = Unit {0}
IsQuietCall (FailedCut file) = Unit {0}
IsQuietCall Sync = ⊥
IsQuietCall FailedSync = Unit {0}
IsQuietCall (Fill file byte) = Unit {0}

-- no sync that succeeded is among them
abbrev pub IsQuiet : List Call → Type 0
IsQuiet [] = Unit {0}
IsQuiet (c ∷ cs) = IsQuietCall c × IsQuiet cs

-- an entry that fills with one byte what this one touches
abbrev pub filled_call : ℕ → Call → Call
filled_call byte (Write a page) = Write a (page_of byte)
filled_call byte (FailedWrite a) = Write a (page_of byte)
filled_call byte (Cut file) = Fill file byte
filled_call byte (FailedCut file) = Fill file byte
filled_call byte Sync = Sync
filled_call byte FailedSync = FailedSync
filled_call byte (Fill file old) = Fill file byte

-- What was read of the script.
use Rattle.std.specs.Prelude.{◌≡◌, ◌⊎◌, ◌+◌, ◌-◌, ◌^◌, ◌≤◌, ◌++◌, [], ◌∷◌, ℕ, true, false, List, length, Some, Result, Ok, Err, ⊤}
use Rattle.std.specs.List.{list_all}
use Rattle.std.specs.declared.option.Option.{Option}
use Rattle.net_core.specs.Causes.{most_script}
use Rattle.net_core.specs.declared.fault.WorkFault.{WorkFault}
use Rattle.net_core.specs.declared.fault.WorkFault.TheVariants as faults
use Rattle.net_core.specs.Known.{Outside}
use Rattle.network_meaning.specs.LocalSteps.{Mode, Mode.reading}
use Rattle.quel_meaning.specs.Lines.{is_no_newline}
use Rattle.quel_meaning.specs.OpenFiles.{OpenFiles}
use Rattle.quel_network.specs.Sorts.{quel_sorts}

-- what was read, and counted, is a front of the first line: bytes of which none is a newline, and behind them at most one byte
abbrev pub ReadsOfLine : ℕ → ℕ → List ℕ → Option (List ℕ) → Type 0
ReadsOfLine heard heard' script left = (front : List ℕ) × (last : List ℕ) × (rest : List ℕ) × (left ≡ Some rest) × (script ≡ front ++ last ++ rest) × (heard' ≡ heard + length (front ++ last)) × (list_all is_no_newline front ≡ true) × (length last ≤ 1)

-- what was read has no newline
abbrev pub ReadsNoLine : List ℕ → Option (List ℕ) → Type 0
ReadsNoLine script left = (front : List ℕ) × (rest : List ℕ) × (left ≡ Some rest) × (script ≡ front ++ rest) × (list_all is_no_newline front ≡ true)

-- the source has given as many bytes more as were read, whether the script is known or not, or its count stands at its last value
abbrev pub CountsHeard : ℕ → ℕ → ℕ → ℕ → Type 0
CountsHeard heard heard' given given' = (n : ℕ) × (heard' ≡ heard + n) × ((given' ≡ given + n) ⊎ (2 ^ 64 - 1 ≤ given'))

-- no open file has a line left
abbrev pub NoLineOpen : OpenFiles → Type 0
NoLineOpen [] = ⊤
NoLineOpen ([] ∷ files) = NoLineOpen files
NoLineOpen ((line ∷ lines) ∷ files) = ⊥

-- the monitor reads, and neither has an open file a line left nor is anything left of the present line: so its next line is the script's
abbrev pub ReadsScript : Mode quel_sorts → Type 0
ReadsScript (reading m) = (m.parts ≡ []) × NoLineOpen m.files
ReadsScript _ = ⊥

-- nothing of the script was read, and the source didn't fail
pub record ReadsNothing (heard heard' : ℕ) (before after : Outside) (failed : Type 0) : Type 0 where
  pub unread : heard' ≡ heard
  pub script : after.script ≡ before.script
  pub fine : failed → ⊥

-- whole lines: none, or bytes of which the last is a newline
abbrev pub IsWhole : List ℕ → Type 0
IsWhole bytes = (bytes ≡ []) ⊎ ((front : List ℕ) × (bytes ≡ front ++ 10 ∷ []))

-- what was read of a script that is known is whole lines
abbrev pub ReadsWhole : Option (List ℕ) → Option (List ℕ) → Type 0
ReadsWhole before after = (script : List ℕ) → before ≡ Some script → (bytes : List ℕ) × (rest : List ℕ) × (after ≡ Some rest) × (script ≡ bytes ++ rest) × IsWhole bytes

-- where the step came to its end, a source that had ended has ended, and whole lines were read, or it has ended now; and the source fails only where it hadn't ended
pub record SeesEnd (before after : Outside) (failed done : Type 0) : Type 0 where
  pub stays : done → before.source_ended ≡ true → after.source_ended ≡ true
  pub whole : done → ReadsWhole before.script after.script ⊎ (after.source_ended ≡ true)
  pub going : failed → before.source_ended ≡ false

-- what one step reads at this mode: of a script that is known a front of its first line, and no whole line where the source failed; the source counts what it gives; only where the monitor reads the script itself is it asked; and its end is seen
pub record ReadsOn (mode : Mode quel_sorts) (heard heard' : ℕ) (before after : Outside) (failed done : Type 0) : Type 0 where
  pub line : (script : List ℕ) → before.script ≡ Some script → ReadsOfLine heard heard' script after.script
  pub broken : failed → (script : List ℕ) → before.script ≡ Some script → ReadsNoLine script after.script
  pub given : CountsHeard heard heard' before.given after.given
  pub asks : ReadsScript mode ⊎ ReadsNothing heard heard' before after failed
  pub over : SeesEnd before after failed done

-- so many bytes may have been read where this fault comes: one more than a script may have where it is too long, and else at most so many
abbrev pub EndsWithin : ℕ → WorkFault → Type 0
EndsWithin heard faults.TooLong = heard ≡ most_script + 1
EndsWithin heard _ = heard ≤ most_script

-- the same of an answer or a fault
abbrev pub IsWithin : {T : Type 0} → ℕ → Result T WorkFault → Type 0
IsWithin heard (Ok x) = heard ≤ most_script
IsWithin heard (Err fault) = EndsWithin heard fault

-- where no more was read before than a script may have, it is too long exactly where more was read now, by one byte
abbrev pub Within : {T : Type 0} → ℕ → ℕ → Result T WorkFault → Type 0
Within heard heard' result = heard ≤ most_script → IsWithin heard' result

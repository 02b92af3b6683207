-- The next line of a source, and what reading it does to the source.
use Rattle.std.specs.Prelude.{◌≡◌, ◌+◌, ◌<◌, ◌≤◌, ◌++◌, ℕ, true, List, [], ◌∷◌, length, Some, None, Result, Ok, Err, IsErrOf}
use Rattle.std.specs.List.{list_all}
use Rattle.std.specs.declared.option.Option.{Option}
use Rattle.fault_io.specs.Causes.{Rose}
use Rattle.net_core.specs.Causes.{most_script}
use Rattle.net_core.specs.declared.fault.WorkFault.{WorkFault}
use Rattle.net_core.specs.declared.fault.WorkFault.TheVariants as faults
use Rattle.net_core.specs.Reads.{CountsHeard, ReadsNoLine, ReadsOfLine, Within}
use Rattle.quel_meaning.specs.Lines.{is_no_newline, lines_of}

-- this is the first byte, and the others are left; where there is none nothing is left
abbrev pub IsByte : List ℕ → Option ℕ → Option (List ℕ) → Type 0
IsByte script None left = (script ≡ []) × (left ≡ Some [])
IsByte script (Some byte) left = (rest : List ℕ) × (left ≡ Some rest) × (script ≡ byte ∷ rest)

-- so many bytes are a byte, or none
abbrev pub byte_count : Option ℕ → ℕ
byte_count None = 0
byte_count (Some byte) = 1

-- this is the first line, and the others are left; where there is none nothing is left
abbrev pub IsLine : List ℕ → Option (List ℕ) → Option (List ℕ) → Type 0
IsLine script None left = (script ≡ []) × (left ≡ Some [])
IsLine script (Some line) left = (rest : List ℕ) × (left ≡ Some rest) × (lines_of script ≡ line ∷ lines_of rest)

-- the text is one line
abbrev pub IsOneLine : List ℕ → Type 0
IsOneLine text = lines_of text ≡ text ∷ []

-- what a fault says of a source of which so many bytes were read: its count rose with its own, and stayed with any other; more is there than a script may have where it is too long
abbrev pub SourceSays : ℕ → Option (List ℕ) → ℕ → ℕ → WorkFault → Type 0
SourceSays heard left before now faults.Source = Rose before now
SourceSays heard left before now faults.TooLong = (now ≡ before) × ((script : List ℕ) → left ≡ Some script → most_script < heard + length script)
SourceSays heard left before now _ = now ≡ before

-- the count stayed with an answer
abbrev pub SourceAnswers : {T : Type 0} → ℕ → Option (List ℕ) → ℕ → ℕ → Result T WorkFault → Type 0
SourceAnswers heard left before now (Ok x) = now ≡ before
SourceAnswers heard left before now (Err fault) = SourceSays heard left before now fault

-- what was read of a source: of a script that is known a front of its first line, and no whole line where the source failed; the source counts what it gives; at most one byte more was read than a script may have, and that where it is too long; and what an answer or a fault says of the count of its faults, which never falls
pub record SourceRead {T : Type 0} (heard heard' : ℕ) (left left' : Option (List ℕ)) (given given' before now : ℕ) (result : Result T WorkFault) : Type 0 where
  pub line : (script : List ℕ) → left ≡ Some script → ReadsOfLine heard heard' script left'
  pub broken : IsErrOf result faults.Source → (script : List ℕ) → left ≡ Some script → ReadsNoLine script left'
  pub counted : CountsHeard heard heard' given given'
  pub within : Within heard heard' result
  pub later : before ≤ now
  pub says : SourceAnswers heard left before now result

-- these bytes of a source were read and counted, of which none is a newline, and no call failed
pub record HasLine (line : List ℕ) (heard heard' : ℕ) (left left' : Option (List ℕ)) (given given' before now : ℕ) : Type 0 where
  pub plain : list_all is_no_newline line ≡ true
  pub script : (script : List ℕ) → left ≡ Some script → (rest : List ℕ) × (left' ≡ Some rest) × (script ≡ line ++ rest)
  pub many : heard' ≡ heard + length line
  pub counted : CountsHeard heard heard' given given'
  pub within : heard ≤ most_script → heard' ≤ most_script
  pub same : now ≡ before

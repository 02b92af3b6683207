-- Which line is read next.
use Rattle.std.proofs.Common.{◌≡◌, refl, sym, ap, subst, ◌∙◌, ℕ, Bool, true, false, List, [], ◌∷◌, Some, None}
use Rattle.std.specs.declared.option.Option.{Option}
use Rattle.fault_io.specs.Files.{Files}
use Rattle.quel_meaning.specs.Lines.{lines_of}
use Rattle.quel_meaning.specs.Monitor.{Part, parts_of}
use Rattle.quel_meaning.specs.OpenFiles.{OpenFiles}
use Rattle.quel_meaning.proofs.LineLaws.{joined_again}
use Rattle.quel_network.specs.Reading.{read, read_line, read_on, read_parts, read_script, standing}
use Rattle.quel_network.specs.Sorts.{Monitor}
use Rattle.network_meaning.specs.Sorts.{Read}
use Rattle.monitor.specs.Files.{IsNext, next_line}
use Rattle.monitor.specs.declared.event.Event.{Event as Came}
use Rattle.monitor.specs.declared.event.Event.TheVariants as came
use Rattle.monitor.specs.Lines.{IsLine, IsOneLine}
use Rattle.monitor.specs.Reading.{Fills, HasRead, MayFill, MayRead, reads_rest, was_read}
use Rattle.monitor.proofs.Lined.{nothing_left}

rest_on : (m : Monitor) (parts : List Part) (script : List ℕ) (shelf : Files) → (parts ≡ [] → ⊥) → read_on m script shelf parts ≡ read_parts (standing m m.files shelf) script parts
rest_on m [] script shelf some = absurd (some refl)
rest_on m (part ∷ parts) script shelf some = refl

-- the present line isn't at its end
pub rest_at_hand : (m : Monitor) (shelf : Files) (script : List ℕ) (left : Option (List ℕ)) → (m.parts ≡ [] → ⊥) → left ≡ Some script → Fills m shelf script true m left
unfolding read
rest_at_hand m shelf script left some told = (script, told, rest_on m m.parts script shelf some)

file_on : (m : Monitor) (script : List ℕ) (shelf : Files) (files later : OpenFiles) (line : List ℕ) → next_line files ≡ Some (line, later) → read_line m script shelf files ≡ read_parts (standing m later shelf) script (parts_of line)
file_on m script shelf [] later line e = absurd (cc e)
file_on m script shelf ([] ∷ files) later line e = file_on m script shelf files later line e
file_on m script shelf ((l ∷ lines) ∷ files) later line e =
    let same : ◌≡◌ {A = List ℕ × OpenFiles} (l, lines ∷ files) (line, later) = cc e in
    ap (λ (x : List ℕ × OpenFiles). read_parts (standing m x.1 shelf) script (parts_of x.0)) same

-- it is, and an open file has a line
pub line_of_file : (m : Monitor) (shelf : Files) (script line : List ℕ) (later : OpenFiles) (parts : List Part) (left : Option (List ℕ)) → m.parts ≡ [] → IsNext m.files (Some line) later → parts ≡ parts_of line → left ≡ Some script
    → Fills m shelf script true (record m { parts = parts; files = later }) left
unfolding read
line_of_file m shelf script line later parts left none next are told =
    (script, told, ap (λ (ps : List Part). read_on m script shelf ps) none ∙ file_on m script shelf m.files later line next ∙ ap (λ (ps : List Part). read_parts (standing m later shelf) script ps) (sym are))

script_on : (m : Monitor) (script : List ℕ) (shelf : Files) (files : OpenFiles) → next_line files ≡ None → read_line m script shelf files ≡ read_script m shelf (lines_of script)
script_on m script shelf [] e = refl
script_on m script shelf ([] ∷ files) e = script_on m script shelf files e
script_on m script shelf ((l ∷ lines) ∷ files) e = absurd (cc e)

-- it is, no open file has a line, and the script has one
pub line_of_script : (m : Monitor) (shelf : Files) (script line : List ℕ) (later : OpenFiles) (parts : List Part) (left : Option (List ℕ)) → m.parts ≡ [] → IsNext m.files None later → IsLine script (Some line) left → parts ≡ parts_of line
    → Fills m shelf script true (record m { parts = parts; files = later }) left
unfolding read
line_of_script m shelf script line later parts left none next is are = (
  is.0,
  is.1,
  ap (λ (ps : List Part). read_on m script shelf ps) none
      ∙ script_on m script shelf m.files next.0
      ∙ ap (λ (ls : List (List ℕ)). read_script m shelf ls) is.2
      ∙ ap (λ (rest : List ℕ). read_parts (standing m [] shelf) rest (parts_of line)) (joined_again is.0)
      ∙ ap (λ (fs : OpenFiles). read_parts (standing m fs shelf) is.0 (parts_of line)) (sym next.1)
      ∙ ap (λ (ps : List Part). read_parts (standing m later shelf) is.0 ps) (sym are),
)

-- it is, and nothing is left
pub no_line : (m : Monitor) (shelf : Files) (script : List ℕ) (later : OpenFiles) (left : Option (List ℕ)) → m.parts ≡ [] → IsNext m.files None later → IsLine script None left
    → Fills m shelf script false (record m { files = later }) left
unfolding read
no_line m shelf script later left none next is = (
  [],
  is.1,
  ap (λ (ps : List Part). read_on m script shelf ps) none
      ∙ script_on m script shelf m.files next.0
      ∙ ap (λ (ls : List (List ℕ)). read_script m shelf ls) (ap lines_of is.0 ∙ nothing_left)
      ∙ nothing m shelf later m.parts none next.1,
)
  where
    nothing : (m : Monitor) (shelf : Files) (later : OpenFiles) (parts : List Part) → parts ≡ [] → later ≡ [] → read_script m shelf [] ≡ record { monitor = record { buffer = m.buffer; included = m.included; parts = parts; files = later }; script = []; shelf = shelf; bytes = []; event = Rattle.network_meaning.specs.Sorts.Event.leaves }
    nothing m shelf later parts e f = rw (e, f) refl

-- ---- the same of some script

pub may_at_hand : (m : Monitor) (shelf : Files) → (m.parts ≡ [] → ⊥) → MayFill m shelf true m
may_at_hand m shelf some = ([], Some [], rest_at_hand m shelf [] (Some []) some refl)

pub may_of_file : (m : Monitor) (shelf : Files) (line : List ℕ) (later : OpenFiles) (parts : List Part) → m.parts ≡ [] → IsNext m.files (Some line) later → parts ≡ parts_of line → MayFill m shelf true (record m { parts = parts; files = later })
may_of_file m shelf line later parts none next are = ([], Some [], line_of_file m shelf [] line later parts (Some []) none next are refl)

-- the line is a script by itself
by_itself : (line : List ℕ) → IsOneLine line → IsLine line (Some line) (Some [])
by_itself line one = ([], refl, one ∙ ap (λ (ls : List (List ℕ)). line ∷ ls) (sym nothing_left))

pub may_of_script : (m : Monitor) (shelf : Files) (line : List ℕ) (later : OpenFiles) (parts : List Part) → m.parts ≡ [] → IsNext m.files None later → IsOneLine line → parts ≡ parts_of line → MayFill m shelf true (record m { parts = parts; files = later })
may_of_script m shelf line later parts none next one are = (line, Some [], line_of_script m shelf line line later parts (Some []) none next (by_itself line one) are)

pub may_end : (m : Monitor) (shelf : Files) (later : OpenFiles) → m.parts ≡ [] → IsNext m.files None later → MayFill m shelf false (record m { files = later })
may_end m shelf later none next = ([], Some [], no_line m shelf [] later (Some []) none next (refl, refl))

-- ---- behind it

-- the script has ended
pub read_end : (old mid : Monitor) (shelf : Files) (script : List ℕ) (some : Bool) (left : Option (List ℕ)) (bytes : List ℕ) → some ≡ false → Fills old shelf script some mid left → bytes ≡ [] → HasRead old shelf script came.Leaves mid bytes left
read_end old mid shelf script some left bytes none fills nothing =
    let h = subst (λ (b : Bool). Fills old shelf script b mid left) none fills in
    (h.0, h.1, h.2 ∙ ap (λ (bs : List ℕ). was_read came.Leaves mid shelf bs h.0) (sym nothing))

-- the rest of the line was read
pub read_line_on : (old mid new : Monitor) (shelf : Files) (script : List ℕ) (some : Bool) (left : Option (List ℕ)) (bytes bytes' : List ℕ) (event : Came) → some ≡ true → Fills old shelf script some mid left → bytes ≡ []
    → ((s : List ℕ) → reads_rest mid shelf bytes s ≡ was_read event new shelf bytes' s) → HasRead old shelf script event new bytes' left
read_line_on old mid new shelf script some left bytes bytes' event there fills nothing did =
    let h = subst (λ (b : Bool). Fills old shelf script b mid left) there fills in
    (h.0, h.1, h.2 ∙ ap (λ (bs : List ℕ). reads_rest mid shelf bs h.0) (sym nothing) ∙ did h.0)

pub may_end_so : (old mid : Monitor) (shelf : Files) (some : Bool) (bytes : List ℕ) → some ≡ false → MayFill old shelf some mid → bytes ≡ [] → MayRead old shelf came.Leaves mid bytes
may_end_so old mid shelf some bytes none may nothing = (may.0, may.1, read_end old mid shelf may.0 some may.1 bytes none may.2 nothing)

pub may_read_on : (old mid new : Monitor) (shelf : Files) (some : Bool) (bytes bytes' : List ℕ) (event : Came) → some ≡ true → MayFill old shelf some mid → bytes ≡ [] → ((s : List ℕ) → reads_rest mid shelf bytes s ≡ was_read event new shelf bytes' s)
    → MayRead old shelf event new bytes'
may_read_on old mid new shelf some bytes bytes' event there may nothing did = (may.0, may.1, read_line_on old mid new shelf may.0 some may.1 bytes bytes' event there may.2 nothing did)

-- Reading comes to an end: each read leaves less to be read.
use Rattle.std.specs.Prelude.{◌≡◌, ◌⊎◌, ◌≤◌, ◌<◌, ◌+◌, ◌-◌, ◌*◌, ◌==◌, ◌&&◌, ℕ, suc, Bool, true, false, nat_le, nat_lt, if◌then◌else◌, List, [], ◌∷◌, length, take, drop, Option, Some, None}
use Rattle.std.specs.List.{concat}
use Rattle.std.proofs.Common.{inl, inr, refl, sym, ap, subst, ◌∙◌, arith, length-append}
use Rattle.std.proofs.lemmas.Bool.{and_parts, leb-true, cases_Bool}
use Rattle.fault_io.specs.Files.{Files, fetched}
use Rattle.network_meaning.specs.Sorts.{Read, Event.leaves}
use Rattle.quel_meaning.proofs.LineLaws.{joined_again}
use Rattle.quel_meaning.specs.Buffer.{with_piece}
use Rattle.quel_meaning.specs.Lines.{onto_first, lines_of}
use Rattle.quel_meaning.specs.Monitor.{Command, Go, Print, Reset, Append, Quit, Include, Write, Unknown, Part, Piece, Order, Quoting, names_file, quoting_after, begins_command, onto_piece, before_parts, without_front, word_length, command_of, parts_at, parts_from, parts_of}
use Rattle.quel_meaning.specs.OpenFiles.{OpenFiles}
use Rattle.quel_meaning.specs.Running.{most_included}
use Rattle.quel_meaning.specs.Session.{greatest_depth}
use Rattle.quel_network.specs.Sorts.{Monitor, quel_sorts}
use Rattle.quel_network.specs.Reading.{Standing, opens, includes, ordered, read_parts, standing, read_script, read_line, read_on, read}
use Rattle.quel_network.specs.Work.{lines_size, files_size, still_included, reading_size, reads_left}
use Rattle.quel_network.specs.Orders.{within_itself, suc_through}

-- ---- a line has no more parts than bytes

chosen_few : (command : Command) (t : Bool) (parts : List Part) → length (Order command ∷ (if t then [] else parts)) ≤ suc (length parts)
chosen_few command true parts = omega arith
chosen_few command false parts = omega arith

before_few : (bytes : List ℕ) (parts : List Part) → length (before_parts bytes parts) ≤ suc (length parts)
before_few [] parts = omega arith
before_few (b ∷ bytes) parts = omega arith

front_few : (n : ℕ) (parts : List Part) → length (without_front n parts) ≤ length parts
front_few n [] = omega arith
front_few n (Piece bytes ∷ parts) = before_few (drop n bytes) parts
front_few n (Order command ∷ parts) = omega arith

onto_few : (b : ℕ) (parts : List Part) → length (onto_piece b parts) ≤ suc (length parts)
onto_few b [] = omega arith
onto_few b (Piece bytes ∷ parts) = omega arith
onto_few b (Order command ∷ parts) = omega arith

at_few : (t : Bool) (b : ℕ) (bytes : List ℕ) (parts : List Part) → length (parts_at t b bytes parts) ≤ suc (length parts)
at_few true b bytes parts =
    let command = command_of (take (word_length bytes) bytes) (drop (word_length bytes) bytes) in
    let rest = without_front (word_length bytes) parts in
    suc_through _ _ _ (chosen_few command (names_file command) rest) (front_few (word_length bytes) parts)
at_few false b bytes parts = onto_few b parts

parts_few : (quoting : Quoting) (bytes : List ℕ) → length (parts_from quoting bytes) ≤ length bytes
unfolding parts_from
parts_few quoting [] = omega arith
parts_few quoting (b ∷ bytes) =
    suc_through _ _ _ (at_few (begins_command quoting b) b bytes (parts_from (quoting_after quoting b) bytes)) (parts_few (quoting_after quoting b) bytes)

-- ---- lines of a text

onto_size : (b : ℕ) (lines : List (List ℕ)) → lines_size (onto_first b lines) ≤ 2 + lines_size lines
onto_size b [] = omega arith
onto_size b (line ∷ lines) = omega arith

chosen_size : (b : ℕ) (t : Bool) (lines : List (List ℕ)) → lines_size (if t then (b ∷ []) ∷ lines else onto_first b lines) ≤ 2 + lines_size lines
chosen_size b true lines = omega arith
chosen_size b false lines = onto_size b lines

two_more : (k m n : ℕ) → k ≤ 2 + m → m ≤ 2 * n → k ≤ 2 * suc n
two_more k m n h g = omega arith

-- each byte of a text may be a line by itself
lines_few : (text : List ℕ) → lines_size (lines_of text) ≤ 2 * length text
unfolding lines_of
lines_few [] = omega arith
lines_few (b ∷ text) = two_more _ (lines_size (lines_of text)) _ (chosen_size b (b == 10) (lines_of text)) (lines_few text)

-- the first line, where there is one, has a byte
abbrev FirstFull : List (List ℕ) → Type 0
FirstFull [] = Unit {0}
FirstFull (line ∷ lines) = 0 < length line

chosen_full : (b : ℕ) (t : Bool) (lines : List (List ℕ)) → FirstFull (if t then (b ∷ []) ∷ lines else onto_first b lines)
chosen_full b true lines = omega arith
chosen_full b false [] = omega arith
chosen_full b false (line ∷ lines) = omega arith

first_full : (text : List ℕ) → FirstFull (lines_of text)
unfolding lines_of
first_full [] = tt
first_full (b ∷ text) = chosen_full b (b == 10) (lines_of text)

-- a text is its first line and the others
first_and_rest : (text line : List ℕ) (lines : List (List ℕ)) → lines_of text ≡ line ∷ lines → length text ≡ length line + length (concat lines)
first_and_rest text line lines e =
    ap (λ (bytes : List ℕ). length bytes) (sym (joined_again text) ∙ ap (λ (ls : List (List ℕ)). concat ls) e) ∙ length-append line (concat lines)

-- ---- a command opens no more than may still be included

-- what is left of open files and of what may be included
abbrev files_left : Standing → ℕ
files_left s = files_size s.files + 2 * still_included s.included

opened_few : (k f n included most : ℕ) → k ≤ 2 * n → included + n ≤ most → (k + f) + 2 * (most - (included + n)) ≤ f + 2 * (most - included)
opened_few k f n included most h g = omega arith

opens_few : (s : Standing) (bytes : List ℕ) → files_left (opens s bytes) ≤ files_left s
opens_few s bytes =
    elim (cases_Bool (nat_lt (length s.files) greatest_depth && nat_le (s.included + length bytes) most_included)) [
      | inl e ↦ (let room : s.included + length bytes ≤ most_included = leb-true _ _ (and_parts (nat_lt (length s.files) greatest_depth) (nat_le (s.included + length bytes) most_included) e).1 in
          rw (e, opens) (opened_few (lines_size (lines_of bytes)) (files_size s.files) (length bytes) s.included most_included (lines_few bytes) room))
      | inr e ↦ rw (e, opens) (within_itself (files_left s))
    ]

includes_few : (s : Standing) (bytes : Option (List ℕ)) → files_left (includes s bytes) ≤ files_left s
includes_few s None = within_itself _
includes_few s (Some bytes) = opens_few s bytes

include_few : (s : Standing) (file : List ℕ) → files_left (ordered s (Include file)) ≤ files_left s
unfolding ordered
include_few s [] = within_itself _
include_few s (b ∷ bs) = includes_few s (fetched s.shelf (b ∷ bs))

write_few : (s : Standing) (file : List ℕ) → files_left (ordered s (Write file)) ≤ files_left s
unfolding ordered
write_few s [] = within_itself _
write_few s (b ∷ bs) = within_itself _

-- ---- the parts of a line

-- one, where there is a part
abbrev some_part : List Part → ℕ
some_part [] = 0
some_part (part ∷ parts) = 1

later_fall : (g k a f n c : ℕ) → g + k ≤ a + (f + (n + c)) → g + 1 ≤ a + (f + (suc n + c))
later_fall g k a f n c h = omega arith

part_falls : (a f n c : ℕ) → (a + (f + (n + c))) + 1 ≤ a + (f + (suc n + c))
part_falls a f n c = omega arith

rest_falls : (a f' c' f c n : ℕ) → f' + c' ≤ f + c → (a + (f' + (0 + c'))) + 1 ≤ a + (f + (suc n + c))
rest_falls a f' c' f c n h = omega arith

none_falls : (n : ℕ) → n + 0 ≤ n
none_falls n = omega arith

-- how often is read behind what was read
abbrev left_of : Read quel_sorts → ℕ
left_of got = reads_left got.monitor got.script

-- the parts that are read are left no more
parts_fall : (s : Standing) (script : List ℕ) (parts : List Part) → left_of (read_parts s script parts) + some_part parts ≤ reading_size (length script) s.files (length parts) s.included
unfolding read_parts ordered
parts_fall s script [] = none_falls _
parts_fall s script (Piece bytes ∷ parts) =
    later_fall _ (some_part parts) (2 * length script) (files_size s.files) (length parts) (2 * still_included s.included) (parts_fall (record s { buffer = with_piece s.buffer bytes }) script parts)
parts_fall s script (Order Go ∷ parts) = part_falls (2 * length script) (files_size s.files) (length parts) (2 * still_included s.included)
parts_fall s script (Order Quit ∷ parts) = part_falls (2 * length script) (files_size s.files) (length parts) (2 * still_included s.included)
parts_fall s script (Order Print ∷ parts) =
    later_fall _ (some_part parts) (2 * length script) (files_size s.files) (length parts) (2 * still_included s.included) (parts_fall (ordered s Print) script parts)
parts_fall s script (Order Reset ∷ parts) =
    later_fall _ (some_part parts) (2 * length script) (files_size s.files) (length parts) (2 * still_included s.included) (parts_fall (ordered s Reset) script parts)
parts_fall s script (Order Append ∷ parts) =
    later_fall _ (some_part parts) (2 * length script) (files_size s.files) (length parts) (2 * still_included s.included) (parts_fall (ordered s Append) script parts)
parts_fall s script (Order (Include file) ∷ parts) =
    let s' = ordered s (Include file) in
    rest_falls (2 * length script) (files_size s'.files) (2 * still_included s'.included) (files_size s.files) (2 * still_included s.included) (length parts) (include_few s file)
parts_fall s script (Order (Write file) ∷ parts) =
    let s' = ordered s (Write file) in
    rest_falls (2 * length script) (files_size s'.files) (2 * still_included s'.included) (files_size s.files) (2 * still_included s.included) (length parts) (write_few s file)
parts_fall s script (Order Unknown ∷ parts) =
    later_fall _ (some_part parts) (2 * length script) (files_size s.files) (length parts) (2 * still_included s.included) (parts_fall (ordered s Unknown) script parts)

-- ---- lines

-- the monitor leaves, or fewer reads are left
abbrev Falls : Read quel_sorts → ℕ → Type 0
Falls got n = (got.event ≡ leaves) ⊎ (left_of got < n)

falls_through : (got : Read quel_sorts) (n k : ℕ) → n ≤ k → Falls got n → Falls got k
falls_through got n k h (inl e) = inl e
falls_through got n k h (inr less) = inr (omega (arith, h, less))

script_line : (g k a n r p c : ℕ) → g + k ≤ 2 * r + (0 + (p + c)) → p ≤ n → 0 < n → a ≡ n + r → g < 2 * a + (0 + (0 + c))
script_line g k a n r p c h few full e = omega (arith, e)

script_falls : (m : Monitor) (shelf : Files) (script : List ℕ) (lines : List (List ℕ)) → lines_of script ≡ lines → Falls (read_script m shelf lines) (reading_size (length script) [] 0 m.included)
script_falls m shelf script [] e = inl refl
script_falls m shelf script (line ∷ lines) e =
    inr (script_line _ (some_part (parts_of line)) (length script) (length line) (length (concat lines)) (length (parts_of line)) (2 * still_included m.included)
    (parts_fall (standing m [] shelf) (concat lines) (parts_of line)) (parts_few _ line) (subst (λ ls. FirstFull ls) e (first_full script)) (first_and_rest script line lines e))

file_line : (g k a n l f p c : ℕ) → g + k ≤ a + ((l + f) + (p + c)) → p ≤ n → g < a + (((suc n + l) + f) + (0 + c))
file_line g k a n l f p c h few = omega arith

empty_file : (a f c : ℕ) → a + (f + (0 + c)) ≤ a + ((0 + f) + (0 + c))
empty_file a f c = omega arith

line_falls : (m : Monitor) (script : List ℕ) (shelf : Files) (files : OpenFiles) → Falls (read_line m script shelf files) (reading_size (length script) files 0 m.included)
line_falls m script shelf [] = script_falls m shelf script (lines_of script) refl
line_falls m script shelf ([] ∷ files) =
    falls_through (read_line m script shelf files) _ _ (empty_file (2 * length script) (files_size files) (2 * still_included m.included)) (line_falls m script shelf files)
line_falls m script shelf ((line ∷ lines) ∷ files) =
    inr (file_line _ (some_part (parts_of line)) (2 * length script) (length line) (lines_size lines) (files_size files) (length (parts_of line)) (2 * still_included m.included)
    (parts_fall (standing m (lines ∷ files) shelf) script (parts_of line)) (parts_few _ line))

one_less : (g n : ℕ) → g + 1 ≤ n → g < n
one_less g n h = omega arith

on_falls : (m : Monitor) (script : List ℕ) (shelf : Files) (parts : List Part) → Falls (read_on m script shelf parts) (reading_size (length script) m.files (length parts) m.included)
on_falls m script shelf [] = line_falls m script shelf m.files
on_falls m script shelf (part ∷ parts) = inr (one_less _ _ (parts_fall (standing m m.files shelf) script (part ∷ parts)))

-- each read leaves less to be read, unless the monitor leaves
pub read_falls : (m : Monitor) (script : List ℕ) (shelf : Files) → let got = read m script shelf in (got.event ≡ leaves) ⊎ (reads_left got.monitor got.script < reads_left m script)
unfolding read
read_falls m script shelf = on_falls m script shelf m.parts

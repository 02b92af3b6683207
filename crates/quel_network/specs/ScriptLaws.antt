-- What is left of a script, by what the monitor reads next: the laws.
use Rattle.std.proofs.Common.{◌≡◌, ◌≤◌, ◌<◌, refl, sym, ap, ◌∙◌, ℕ, zero, suc, ◌+◌, ◌-◌, ◌&&◌, nat_lt, nat_le, Bool, true, false, List, [], ◌∷◌, ◌++◌, length, Option, Some, None, append-nil, length-append, arith}
use Rattle.std.proofs.lemmas.Bool.{ltb-true, ltb-false, leb-true}
use Rattle.std.specs.List.{concat}
use Rattle.calculus.specs.Database.{Db}
use Rattle.fault_io.specs.Files.{Files, fetched}
use Rattle.network_meaning.specs.Sorts.{Event.goes_on, Event.sends, Event.leaves, Read}
use Rattle.network_meaning.specs.Language.{after_event, statements_after_event}
use Rattle.quel_meaning.specs.Batch.{batch_of}
use Rattle.quel_meaning.specs.Buffer.{with_piece, buffer_after}
use Rattle.quel_meaning.specs.Happening.{Setting, Event, Kept, After, behind, quiet, refused, and_then, over}
use Rattle.quel_meaning.specs.Lines.{lines_of}
use Rattle.quel_meaning.specs.Monitor.{Go, Print, Reset, Append, Quit, Include, Write, Unknown, Plain, Part, Piece, Order, parts_of}
use Rattle.quel_meaning.specs.OpenFiles.{OpenFiles, included_in, after_files}
use Rattle.quel_meaning.specs.Printed.{refusal_bytes}
use Rattle.quel_meaning.specs.Ranges.{Ranges}
use Rattle.quel_meaning.specs.Running.{Deeper, most_included, after_include, after_file, carried_out, after_command, after_part, after_batch, after_line, files_within}
use Rattle.quel_meaning.specs.Session.{greatest_depth, printed}
use Rattle.quel_meaning.proofs.Agreement.{nothing_more}
use Rattle.quel_meaning.proofs.LeftOpen.{then_both, next_line, end_of_file, file_first, too_deep}
use Rattle.quel_network.specs.BatchLaws.{with_state, batch_rest}
use Rattle.quel_network.specs.EventLaws.{Trace, trace, trace_behind, trace_append, wrote_twice}
use Rattle.quel_network.specs.PartLaws.{lines_cut, other_lines}
use Rattle.quel_network.specs.Quel.{quel, setting_for}
use Rattle.quel_network.specs.Reading.{Standing, says, refuses, opens, includes, ordered, comes_to, standing, read_parts, read_script, read_line, read_on, read}
use Rattle.quel_network.specs.Session.{kept_at, up_to_file, open_files, after_batch_at, after_parts, after_script_at}
use Rattle.quel_network.specs.Sorts.{User, Monitor, first_monitor, quel_sorts}

-- what is known of the rest of a script by what the monitor read
abbrev pub trace_by : User → Db → Ranges → Read quel_sorts → Trace
trace_by user db ranges got = (after_event (quel user) db ranges got got.event, statements_after_event (quel user) db ranges got got.event)

-- what is kept where the monitor stands so
abbrev pub kept_in : Db → Ranges → Standing → Kept
kept_in db ranges s = record { state = record { db = db; shelf = s.shelf; ranges = ranges }; buffer = s.buffer; included = s.included; quit = false }

-- the files that are open, the script as the outermost
abbrev pub all_files : Standing → List ℕ → OpenFiles
all_files s script = s.files ++ lines_of script ∷ []

-- what is known where the monitor stands so and these parts are left of the line
abbrev pub trace_from : User → Db → Ranges → List ℕ → Standing → List Part → Trace
trace_from user db ranges script s parts = trace_behind s.bytes (trace (after_parts (setting_for user) (kept_in db ranges s) parts (all_files s script)).events)

-- what is known where the monitor stood so, then this was done, and nothing is left of the line
abbrev pub trace_after : User → List ℕ → Standing → After → Trace
trace_after user script s a = trace_behind s.bytes (trace (and_then a (λ k. after_files (setting_for user) k (all_files s script))).events)

at_end : (user : User) (db : Db) (ranges : Ranges) (script : List ℕ) (s : Standing)
    → trace_after user script s (quiet (kept_in db ranges s)) ≡ trace_by user db ranges (comes_to s script [] goes_on)
unfolding quel after_script_at over
at_end user db ranges script s = refl

-- ---- the buffer is sent

at_go : (user : User) (db : Db) (ranges : Ranges) (script : List ℕ) (s : Standing) (parts : List Part)
    → trace_from user db ranges script s (Order Go ∷ up_to_file parts) ≡ trace_by user db ranges (comes_to (record s { buffer = buffer_after Go s.buffer }) script parts (sends s.buffer.text))
unfolding quel over after_part after_command carried_out buffer_after after_batch_at after_script_at
at_go user db ranges script s parts =
    let setting = setting_for user in
    let files = all_files s script in
    let kept : Kept = record { state = record { db = db; shelf = s.shelf; ranges = ranges }; buffer = record { text = s.buffer.text; ran = true }; included = s.included; quit = false } in
    let batch = batch_of setting.reading s.buffer.text in
    let alone = after_batch setting batch (kept_at first_monitor db s.shelf ranges) in
    let rest = after_parts setting (with_state kept alone.kept.state) (up_to_file parts) files in
    ap (λ (a : After). trace_behind s.bytes (trace a.events)) (
    then_both (after_batch setting batch kept) (λ k. over (after_part setting (included_in setting files)) k (up_to_file parts)) (λ k. after_files setting k files)
    ∙ ap (λ (a : After). and_then a (λ k. after_parts setting k (up_to_file parts) files)) (batch_rest setting batch kept (kept_at first_monitor db s.shelf ranges))
    )
    ∙ ap (λ (t : Trace). trace_behind s.bytes t) (trace_append alone.events rest.events)

-- ---- the session ends

-- the same, where the session was ended
abbrev pub ended : Kept → Kept
ended kept = record kept { quit = true }

pub still_parts : (setting : Setting) (deeper : Deeper) (kept : Kept) (parts : List Part) → over (after_part setting deeper) (ended kept) parts ≡ quiet (ended kept)
unfolding over after_part
still_parts setting deeper kept [] = refl
still_parts setting deeper kept (part ∷ parts) = still_parts setting deeper kept parts

pub still_files : (setting : Setting) (kept : Kept) (files : OpenFiles) → after_files setting (ended kept) files ≡ quiet (ended kept)
unfolding after_files
still_files setting kept [] = refl
still_files setting kept (lines ∷ files) =
    ap (λ (a : After). and_then a (λ k. after_files setting k files)) (nothing_more setting (included_in setting (lines ∷ files)) (ended kept) refl lines)
    ∙ still_files setting kept files

at_quit : (user : User) (db : Db) (ranges : Ranges) (script : List ℕ) (s : Standing) (parts left : List Part)
    → trace_from user db ranges script s (Order Quit ∷ parts) ≡ trace_by user db ranges (comes_to s script left leaves)
unfolding over after_part after_command carried_out buffer_after printed
at_quit user db ranges script s parts left =
    let setting = setting_for user in
    let files = all_files s script in
    let kept = kept_in db ranges s in
    ap (trace_after user script s) (still_parts setting (included_in setting files) kept parts)
    ∙ ap (λ (a : After). trace_behind s.bytes (trace a.events)) (still_files setting kept files)
    ∙ ap (λ (bytes : List ℕ). (bytes, [])) (append-nil s.bytes)

-- ---- a file is named

one_part : (setting : Setting) (kept : Kept) (part : Part) (files : OpenFiles)
    → after_parts setting kept (part ∷ []) files ≡ and_then (after_part setting (included_in setting files) kept part) (λ k. after_files setting k files)
unfolding over
one_part setting kept part files =
    let done = after_part setting (included_in setting files) kept part in
    ap (λ (events : List Event). behind events (after_files setting done.kept files)) (append-nil done.events)

-- what is told from the one standing where this was done is what is told from the other
abbrev ComesTo : User → Db → Ranges → List ℕ → Standing → After → Standing → Type 0
ComesTo user db ranges script s a t = trace_after user script s a ≡ trace_after user script t (quiet (kept_in db ranges t))

comes_refused : (user : User) (db : Db) (ranges : Ranges) (script : List ℕ) (s : Standing) (code : ℕ)
    → ComesTo user db ranges script s (refused (kept_in db ranges s) code 0) (refuses s code)
unfolding printed
comes_refused user db ranges script s code =
    wrote_twice s.bytes (refusal_bytes (record { code = code; line = 0; row = 0 })) (trace (after_files (setting_for user) (kept_in db ranges s) (all_files s script)).events)

where_not : (within : Bool) (kept : Kept) (next : After) → within ≡ false → elim within [ true ↦ next | false ↦ refused kept 3 0 ] ≡ refused kept 3 0
where_not true kept next e = absurd (cc e)
where_not false kept next e = refl

pub too_large : (setting : Setting) (depth : ℕ) (kept : Kept) (bytes : List ℕ) → nat_le (kept.included + length bytes) most_included ≡ false
    → after_include (files_within depth setting) kept bytes ≡ refused kept 3 0
unfolding files_within
too_large setting zero kept bytes e = refl
too_large setting (suc depth) kept bytes e = where_not (nat_le (kept.included + length bytes) most_included) kept _ e

pub one_more : (files : OpenFiles) (lines : List (List ℕ)) → length (files ++ lines ∷ []) ≡ suc (length files)
one_more files lines = let sum = length-append files (lines ∷ []) in omega (arith, sum)

comes_included : (user : User) (db : Db) (ranges : Ranges) (script : List ℕ) (s : Standing) (bytes : List ℕ)
    → ComesTo user db ranges script s (after_include (included_in (setting_for user) (all_files s script)) (kept_in db ranges s) bytes) (opens s bytes)
comes_included user db ranges script s bytes = by_room (nat_lt (length s.files) greatest_depth) refl (nat_le (s.included + length bytes) most_included) refl
  where
    setting : Setting
    setting = setting_for user

    kept : Kept
    kept = kept_in db ranges s

    more : length (all_files s script) ≡ suc (length s.files)
    more = one_more s.files (lines_of script)

    by_room : (few : Bool) → nat_lt (length s.files) greatest_depth ≡ few → (within : Bool) → nat_le (s.included + length bytes) most_included ≡ within
        → ComesTo user db ranges script s (after_include (included_in setting (all_files s script)) kept bytes)
        (elim (few && within) [ true ↦ record s { included = s.included + length bytes; files = lines_of bytes ∷ s.files } | false ↦ refuses s 3 ])
    by_room true few true within =
        let below : length s.files < 8 = ltb-true (length s.files) greatest_depth few in
        ap (λ (a : After). trace_behind s.bytes (trace a.events))
        (file_first setting kept bytes (all_files s script) (omega (arith, more, below)) (leb-true (s.included + length bytes) most_included within))
    by_room true few false within =
        ap (trace_after user script s) (too_large setting (suc greatest_depth - length (all_files s script)) kept bytes within) ∙ comes_refused user db ranges script s 3
    by_room false many within e =
        let above : 8 ≤ length s.files = ltb-false (length s.files) greatest_depth many in
        ap (trace_after user script s) (too_deep setting kept bytes (all_files s script) (omega (arith, more, above))) ∙ comes_refused user db ranges script s 3

comes_found : (user : User) (db : Db) (ranges : Ranges) (script : List ℕ) (s : Standing) (file : Option (List ℕ))
    → ComesTo user db ranges script s (after_file (included_in (setting_for user) (all_files s script)) (kept_in db ranges s) file) (includes s file)
comes_found user db ranges script s None = comes_refused user db ranges script s 32
comes_found user db ranges script s (Some bytes) = comes_included user db ranges script s bytes

comes_include : (user : User) (db : Db) (ranges : Ranges) (script : List ℕ) (s : Standing) (file : List ℕ)
    → ComesTo user db ranges script s (after_part (setting_for user) (included_in (setting_for user) (all_files s script)) (kept_in db ranges s) (Order (Include file))) (ordered s (Include file))
unfolding after_part after_command carried_out buffer_after ordered
comes_include user db ranges script s [] = comes_refused user db ranges script s 2
comes_include user db ranges script s (b ∷ bs) = comes_found user db ranges script s (fetched s.shelf (b ∷ bs))

comes_write : (user : User) (db : Db) (ranges : Ranges) (script : List ℕ) (s : Standing) (file : List ℕ)
    → ComesTo user db ranges script s (after_part (setting_for user) (included_in (setting_for user) (all_files s script)) (kept_in db ranges s) (Order (Write file))) (ordered s (Write file))
unfolding after_part after_command carried_out buffer_after ordered
comes_write user db ranges script s [] = comes_refused user db ranges script s 2
comes_write user db ranges script s (b ∷ bs) = refl

at_file : (user : User) (db : Db) (ranges : Ranges) (script : List ℕ) (s t : Standing) (part : Part)
    → ComesTo user db ranges script s (after_part (setting_for user) (included_in (setting_for user) (all_files s script)) (kept_in db ranges s) part) t
    → trace_from user db ranges script s (part ∷ []) ≡ trace_by user db ranges (comes_to t script [] goes_on)
at_file user db ranges script s t part h =
    ap (λ (a : After). trace_behind s.bytes (trace a.events)) (one_part (setting_for user) (kept_in db ranges s) part (all_files s script))
    ∙ h ∙ at_end user db ranges script t

-- ---- the parts of a line

at_says : (user : User) (db : Db) (ranges : Ranges) (script : List ℕ) (s : Standing) (bytes : List ℕ) (parts : List Part)
    → trace_behind s.bytes (trace_behind bytes (trace (after_parts (setting_for user) (kept_in db ranges s) parts (all_files s script)).events)) ≡ trace_from user db ranges script (says s bytes) parts
at_says user db ranges script s bytes parts = wrote_twice s.bytes bytes (trace (after_parts (setting_for user) (kept_in db ranges s) parts (all_files s script)).events)

-- the parts that are left of a line run, and then the lines that are left
pub parts_trace : (user : User) (db : Db) (ranges : Ranges) (script : List ℕ) (s : Standing) (parts : List Part)
    → trace_from user db ranges script s (up_to_file parts) ≡ trace_by user db ranges (read_parts s script parts)
unfolding over after_part after_command carried_out buffer_after printed ordered read_parts
parts_trace user db ranges script s [] = at_end user db ranges script s
parts_trace user db ranges script s (Piece bytes ∷ parts) = parts_trace user db ranges script (record s { buffer = with_piece s.buffer bytes }) parts
parts_trace user db ranges script s (Order Go ∷ parts) = at_go user db ranges script s parts
parts_trace user db ranges script s (Order Quit ∷ parts) = at_quit user db ranges script s (up_to_file parts) parts
parts_trace user db ranges script s (Order Print ∷ parts) =
    at_says user db ranges script s s.buffer.text (up_to_file parts) ∙ parts_trace user db ranges script (ordered s Print) parts
parts_trace user db ranges script s (Order Reset ∷ parts) = parts_trace user db ranges script (ordered s Reset) parts
parts_trace user db ranges script s (Order Append ∷ parts) = parts_trace user db ranges script (ordered s Append) parts
parts_trace user db ranges script s (Order (Include file) ∷ parts) =
    at_file user db ranges script s (ordered s (Include file)) (Order (Include file)) (comes_include user db ranges script s file)
parts_trace user db ranges script s (Order (Write file) ∷ parts) =
    at_file user db ranges script s (ordered s (Write file)) (Order (Write file)) (comes_write user db ranges script s file)
parts_trace user db ranges script s (Order Unknown ∷ parts) =
    at_says user db ranges script s (refusal_bytes (record { code = 2; line = 0; row = 0 })) (up_to_file parts) ∙ parts_trace user db ranges script (ordered s Unknown) parts

-- ---- lines

-- a line runs, and then the lines that are left
line_trace : (user : User) (db : Db) (ranges : Ranges) (m : Monitor) (script : List ℕ) (shelf : Files) (line : List ℕ) (lines : List (List ℕ)) (files : OpenFiles)
    → trace (after_files (setting_for user) (kept_at m db shelf ranges) ((line ∷ lines) ∷ (files ++ lines_of script ∷ []))).events
    ≡ trace_by user db ranges (read_parts (standing m (lines ∷ files) shelf) script (parts_of line))
unfolding after_line
line_trace user db ranges m script shelf line lines files =
    let setting = setting_for user in
    let kept = kept_at m db shelf ranges in
    ap (λ (a : After). trace a.events) (next_line setting kept line lines (files ++ lines_of script ∷ []))
    ∙ ap (λ (parts : List Part). trace (after_parts setting kept parts (lines ∷ (files ++ lines_of script ∷ []))).events) (sym (lines_cut Plain line))
    ∙ parts_trace user db ranges script (standing m (lines ∷ files) shelf) (parts_of line)

script_line_trace : (user : User) (db : Db) (ranges : Ranges) (m : Monitor) (script : List ℕ) (shelf : Files) (lines : List (List ℕ)) → lines_of script ≡ lines
    → trace (after_files (setting_for user) (kept_at m db shelf ranges) (lines ∷ [])).events ≡ trace_by user db ranges (read_script m shelf lines)
unfolding after_files after_line printed
script_line_trace user db ranges m script shelf [] e =
    ap (λ (a : After). trace a.events) (end_of_file (setting_for user) (kept_at m db shelf ranges) [])
script_line_trace user db ranges m script shelf (line ∷ lines) e =
    let setting = setting_for user in
    let kept = kept_at m db shelf ranges in
    ap (λ (a : After). trace a.events) (next_line setting kept line lines [])
    ∙ ap (λ (parts : List Part). trace (after_parts setting kept parts (lines ∷ [])).events) (sym (lines_cut Plain line))
    ∙ ap (λ (others : List (List ℕ)). trace (after_parts setting kept (up_to_file (parts_of line)) (others ∷ [])).events) (sym (other_lines script line lines e))
    ∙ parts_trace user db ranges (concat lines) (standing m [] shelf) (parts_of line)

lines_trace : (user : User) (db : Db) (ranges : Ranges) (m : Monitor) (script : List ℕ) (shelf : Files) (files : OpenFiles)
    → trace (after_files (setting_for user) (kept_at m db shelf ranges) (files ++ lines_of script ∷ [])).events ≡ trace_by user db ranges (read_line m script shelf files)
lines_trace user db ranges m script shelf [] = script_line_trace user db ranges m script shelf (lines_of script) refl
lines_trace user db ranges m script shelf ([] ∷ files) =
    ap (λ (a : After). trace a.events) (end_of_file (setting_for user) (kept_at m db shelf ranges) (files ++ lines_of script ∷ []))
    ∙ lines_trace user db ranges m script shelf files
lines_trace user db ranges m script shelf ((line ∷ lines) ∷ files) = line_trace user db ranges m script shelf line lines files

left_trace : (user : User) (db : Db) (ranges : Ranges) (m : Monitor) (script : List ℕ) (shelf : Files) (parts : List Part)
    → trace (after_parts (setting_for user) (kept_at m db shelf ranges) (up_to_file parts) (open_files m script)).events ≡ trace_by user db ranges (read_on m script shelf parts)
unfolding over
left_trace user db ranges m script shelf [] = lines_trace user db ranges m script shelf m.files
left_trace user db ranges m script shelf (part ∷ parts) = parts_trace user db ranges script (standing m m.files shelf) (part ∷ parts)

-- what is left of a script, by what the monitor reads next
pub script_trace : (user : User) (db : Db) (ranges : Ranges) (m : Monitor) (script : List ℕ) (shelf : Files)
    → trace (after_script_at (setting_for user) db shelf ranges m script).events ≡ trace_by user db ranges (read m script shelf)
unfolding after_script_at read
script_trace user db ranges m script shelf = left_trace user db ranges m script shelf m.parts

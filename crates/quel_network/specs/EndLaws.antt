-- Where what is left of a script ends, by what the monitor reads next: the laws.
use Rattle.std.proofs.Common.{◌≡◌, ◌≤◌, ◌<◌, refl, sym, ap, subst, ◌∙◌, ℕ, suc, ◌+◌, ◌-◌, ◌&&◌, nat_lt, nat_le, Bool, true, false, List, [], ◌∷◌, ◌++◌, length, Option, Some, None, arith}
use Rattle.std.proofs.lemmas.Bool.{ltb-true, ltb-false, leb-true}
use Rattle.std.specs.List.{concat}
use Rattle.calculus.specs.Database.{Db}
use Rattle.fault_io.specs.Files.{Files, fetched}
use Rattle.network_meaning.specs.Sorts.{Event.goes_on, Event.sends, Event.leaves, Read, SessionEnd}
use Rattle.network_meaning.specs.Language.{EndsAfter, HasStopped}
use Rattle.quel_meaning.specs.Batch.{batch_of}
use Rattle.quel_meaning.specs.Buffer.{with_piece, buffer_after}
use Rattle.quel_meaning.specs.Happening.{Setting, Kept, After, quiet, and_then, over}
use Rattle.quel_meaning.specs.Lines.{lines_of}
use Rattle.quel_meaning.specs.Monitor.{Go, Print, Reset, Append, Quit, Include, Write, Unknown, Plain, Part, Piece, Order, parts_of}
use Rattle.quel_meaning.specs.OpenFiles.{OpenFiles, included_in, after_files}
use Rattle.quel_meaning.specs.Printed.{refusal_bytes}
use Rattle.quel_meaning.specs.Ranges.{Ranges}
use Rattle.quel_meaning.specs.Running.{most_included, after_include, after_file, carried_out, after_command, after_part, after_batch, after_line}
use Rattle.quel_meaning.specs.Session.{greatest_depth}
use Rattle.quel_meaning.proofs.LeftOpen.{then_both, next_line, end_of_file, file_first, too_deep}
use Rattle.quel_network.specs.BatchLaws.{batch_rest}
use Rattle.quel_network.specs.PartLaws.{lines_cut, other_lines}
use Rattle.quel_network.specs.Quel.{quel, setting_for}
use Rattle.quel_network.specs.Reading.{Standing, refuses, opens, includes, ordered, comes_to, standing, read_parts, read_script, read_line, read_on, read}
use Rattle.quel_network.specs.ScriptLaws.{all_files, ended, kept_in, one_more, still_files, still_parts, too_large}
use Rattle.quel_network.specs.Session.{end_of, kept_at, up_to_file, open_files, after_batch_at, after_parts, after_script_at}
use Rattle.quel_network.specs.Sorts.{User, Monitor, first_monitor, quel_sorts}

-- what the monitor read leads to the end that this leaves
abbrev pub EndsBy : User → Db → Ranges → Read quel_sorts → After → Type 0
EndsBy user db ranges got a = EndsAfter (quel user) db ranges got got.event (end_of a)

ends_as : (user : User) (db : Db) (ranges : Ranges) (got : Read quel_sorts) (a b : After) → a ≡ b → EndsBy user db ranges got b → EndsBy user db ranges got a
ends_as user db ranges got a b e h = subst (λ (x : After). EndsBy user db ranges got x) (sym e) h

-- ---- the buffer is sent

go_ends : (user : User) (db : Db) (ranges : Ranges) (script : List ℕ) (s : Standing) (parts : List Part)
    → EndsBy user db ranges (comes_to (record s { buffer = buffer_after Go s.buffer }) script parts (sends s.buffer.text)) (after_parts (setting_for user) (kept_in db ranges s) (Order Go ∷ up_to_file parts) (all_files s script))
unfolding quel over after_part after_command carried_out buffer_after after_batch_at after_script_at
go_ends user db ranges script s parts =
    let setting = setting_for user in
    let files = all_files s script in
    let kept : Kept = record { state = record { db = db; shelf = s.shelf; ranges = ranges }; buffer = record { text = s.buffer.text; ran = true }; included = s.included; quit = false } in
    let batch = batch_of setting.reading s.buffer.text in
    sym (ap end_of (
    then_both (after_batch setting batch kept) (λ k. over (after_part setting (included_in setting files)) k (up_to_file parts)) (λ k. after_files setting k files)
    ∙ ap (λ (a : After). and_then a (λ k. after_parts setting k (up_to_file parts) files)) (batch_rest setting batch kept (kept_at first_monitor db s.shelf ranges))
    ))

-- ---- the session ends

-- where a command ended it
quit_ends : (user : User) (db : Db) (ranges : Ranges) (script : List ℕ) (s : Standing) (parts left : List Part)
    → EndsBy user db ranges (comes_to s script left leaves) (after_parts (setting_for user) (kept_in db ranges s) (Order Quit ∷ parts) (all_files s script))
unfolding over after_part after_command carried_out buffer_after
quit_ends user db ranges script s parts left =
    let setting = setting_for user in
    let files = all_files s script in
    let kept = kept_in db ranges s in
    let stays : end_of (after_parts setting kept (Order Quit ∷ parts) files) ≡ end_of (quiet (ended kept)) =
    ap (λ (a : After). end_of (after_files setting a.kept files)) (still_parts setting (included_in setting files) kept parts)
    ∙ ap end_of (still_files setting kept files) in
    subst (λ (e : SessionEnd quel_sorts). HasStopped (quel user) db s.shelf script e) (sym stays) (record { database = refl; files = refl; read = λ e. absurd (cc e) })

-- ---- a file is named

-- from the one standing, where this was done, the session ends as from the other
abbrev EndComes : User → Db → Ranges → List ℕ → Standing → After → Standing → Type 0
EndComes user db ranges script s a t = end_of (after_files (setting_for user) (kept_in db ranges t) (all_files t script)) ≡ end_of (after_files (setting_for user) a.kept (all_files s script))

included_ends : (user : User) (db : Db) (ranges : Ranges) (script : List ℕ) (s : Standing) (bytes : List ℕ)
    → EndComes user db ranges script s (after_include (included_in (setting_for user) (all_files s script)) (kept_in db ranges s) bytes) (opens s bytes)
included_ends user db ranges script s bytes = by_room (nat_lt (length s.files) greatest_depth) refl (nat_le (s.included + length bytes) most_included) refl
  where
    setting : Setting
    setting = setting_for user

    kept : Kept
    kept = kept_in db ranges s

    more : length (all_files s script) ≡ suc (length s.files)
    more = one_more s.files (lines_of script)

    by_room : (few : Bool) → nat_lt (length s.files) greatest_depth ≡ few → (within : Bool) → nat_le (s.included + length bytes) most_included ≡ within
        → EndComes user db ranges script s (after_include (included_in setting (all_files s script)) kept bytes)
        (elim (few && within) [ true ↦ record s { included = s.included + length bytes; files = lines_of bytes ∷ s.files } | false ↦ refuses s 3 ])
    by_room true few true within =
        let below : length s.files < 8 = ltb-true (length s.files) greatest_depth few in
        sym (ap end_of (file_first setting kept bytes (all_files s script) (omega (arith, more, below)) (leb-true (s.included + length bytes) most_included within)))
    by_room true few false within =
        sym (ap (λ (a : After). end_of (after_files setting a.kept (all_files s script))) (too_large setting (suc greatest_depth - length (all_files s script)) kept bytes within))
    by_room false many within e =
        let above : 8 ≤ length s.files = ltb-false (length s.files) greatest_depth many in
        sym (ap (λ (a : After). end_of (after_files setting a.kept (all_files s script))) (too_deep setting kept bytes (all_files s script) (omega (arith, more, above))))

found_ends : (user : User) (db : Db) (ranges : Ranges) (script : List ℕ) (s : Standing) (file : Option (List ℕ))
    → EndComes user db ranges script s (after_file (included_in (setting_for user) (all_files s script)) (kept_in db ranges s) file) (includes s file)
found_ends user db ranges script s None = refl
found_ends user db ranges script s (Some bytes) = included_ends user db ranges script s bytes

include_ends : (user : User) (db : Db) (ranges : Ranges) (script : List ℕ) (s : Standing) (file : List ℕ)
    → EndComes user db ranges script s (after_part (setting_for user) (included_in (setting_for user) (all_files s script)) (kept_in db ranges s) (Order (Include file))) (ordered s (Include file))
unfolding after_part after_command carried_out buffer_after ordered
include_ends user db ranges script s [] = refl
include_ends user db ranges script s (b ∷ bs) = found_ends user db ranges script s (fetched s.shelf (b ∷ bs))

write_ends : (user : User) (db : Db) (ranges : Ranges) (script : List ℕ) (s : Standing) (file : List ℕ)
    → EndComes user db ranges script s (after_part (setting_for user) (included_in (setting_for user) (all_files s script)) (kept_in db ranges s) (Order (Write file))) (ordered s (Write file))
unfolding after_part after_command carried_out buffer_after ordered
write_ends user db ranges script s [] = refl
write_ends user db ranges script s (b ∷ bs) = refl

-- ---- the parts of a line

-- the parts that are left of a line run, and then the lines that are left
parts_end : (user : User) (db : Db) (ranges : Ranges) (script : List ℕ) (s : Standing) (parts : List Part)
    → EndsBy user db ranges (read_parts s script parts) (after_parts (setting_for user) (kept_in db ranges s) (up_to_file parts) (all_files s script))
unfolding quel after_script_at over after_part after_command carried_out buffer_after ordered read_parts
parts_end user db ranges script s [] = refl
parts_end user db ranges script s (Piece bytes ∷ parts) = parts_end user db ranges script (record s { buffer = with_piece s.buffer bytes }) parts
parts_end user db ranges script s (Order Go ∷ parts) = go_ends user db ranges script s parts
parts_end user db ranges script s (Order Quit ∷ parts) = quit_ends user db ranges script s (up_to_file parts) parts
parts_end user db ranges script s (Order Print ∷ parts) = parts_end user db ranges script (ordered s Print) parts
parts_end user db ranges script s (Order Reset ∷ parts) = parts_end user db ranges script (ordered s Reset) parts
parts_end user db ranges script s (Order Append ∷ parts) = parts_end user db ranges script (ordered s Append) parts
parts_end user db ranges script s (Order (Include file) ∷ parts) = include_ends user db ranges script s file
parts_end user db ranges script s (Order (Write file) ∷ parts) = write_ends user db ranges script s file
parts_end user db ranges script s (Order Unknown ∷ parts) = parts_end user db ranges script (ordered s Unknown) parts

-- ---- lines

-- a line runs, and then the lines that are left
line_ends : (user : User) (db : Db) (ranges : Ranges) (m : Monitor) (script : List ℕ) (shelf : Files) (line : List ℕ) (lines : List (List ℕ)) (files : OpenFiles)
    → EndsBy user db ranges (read_parts (standing m (lines ∷ files) shelf) script (parts_of line)) (after_files (setting_for user) (kept_at m db shelf ranges) ((line ∷ lines) ∷ (files ++ lines_of script ∷ [])))
unfolding after_line
line_ends user db ranges m script shelf line lines files =
    let setting = setting_for user in
    let kept = kept_at m db shelf ranges in
    ends_as user db ranges (read_parts (standing m (lines ∷ files) shelf) script (parts_of line)) _ _
    (next_line setting kept line lines (files ++ lines_of script ∷ [])
    ∙ ap (λ (parts : List Part). after_parts setting kept parts (lines ∷ (files ++ lines_of script ∷ []))) (sym (lines_cut Plain line)))
    (parts_end user db ranges script (standing m (lines ∷ files) shelf) (parts_of line))

script_line_ends : (user : User) (db : Db) (ranges : Ranges) (m : Monitor) (script : List ℕ) (shelf : Files) (lines : List (List ℕ)) → lines_of script ≡ lines
    → EndsBy user db ranges (read_script m shelf lines) (after_files (setting_for user) (kept_at m db shelf ranges) (lines ∷ []))
unfolding quel after_files after_line
script_line_ends user db ranges m script shelf [] e =
    ends_as user db ranges (read_script m shelf []) _ _ (end_of_file (setting_for user) (kept_at m db shelf ranges) []) (record { database = refl; files = refl; read = λ q. refl })
script_line_ends user db ranges m script shelf (line ∷ lines) e =
    let setting = setting_for user in
    let kept = kept_at m db shelf ranges in
    ends_as user db ranges (read_script m shelf (line ∷ lines)) _ _
    (next_line setting kept line lines []
    ∙ ap (λ (parts : List Part). after_parts setting kept parts (lines ∷ [])) (sym (lines_cut Plain line))
    ∙ ap (λ (others : List (List ℕ)). after_parts setting kept (up_to_file (parts_of line)) (others ∷ [])) (sym (other_lines script line lines e)))
    (parts_end user db ranges (concat lines) (standing m [] shelf) (parts_of line))

lines_end : (user : User) (db : Db) (ranges : Ranges) (m : Monitor) (script : List ℕ) (shelf : Files) (files : OpenFiles)
    → EndsBy user db ranges (read_line m script shelf files) (after_files (setting_for user) (kept_at m db shelf ranges) (files ++ lines_of script ∷ []))
lines_end user db ranges m script shelf [] = script_line_ends user db ranges m script shelf (lines_of script) refl
lines_end user db ranges m script shelf ([] ∷ files) =
    ends_as user db ranges (read_line m script shelf files) _ _ (end_of_file (setting_for user) (kept_at m db shelf ranges) (files ++ lines_of script ∷ [])) (lines_end user db ranges m script shelf files)
lines_end user db ranges m script shelf ((line ∷ lines) ∷ files) = line_ends user db ranges m script shelf line lines files

left_ends : (user : User) (db : Db) (ranges : Ranges) (m : Monitor) (script : List ℕ) (shelf : Files) (parts : List Part)
    → EndsBy user db ranges (read_on m script shelf parts) (after_parts (setting_for user) (kept_at m db shelf ranges) (up_to_file parts) (open_files m script))
unfolding over
left_ends user db ranges m script shelf [] = lines_end user db ranges m script shelf m.files
left_ends user db ranges m script shelf (part ∷ parts) = parts_end user db ranges script (standing m m.files shelf) (part ∷ parts)

-- where a session ends, by what the monitor reads next
pub ends_law : (user : User) (db : Db) (shelf : Files) (ranges : Ranges) (m : Monitor) (script : List ℕ)
    → (let got = (quel user).read m script shelf in EndsAfter (quel user) db ranges got got.event ((quel user).script_end db shelf ranges m script))
unfolding quel after_script_at read
ends_law user db shelf ranges m script = left_ends user db ranges m script shelf m.parts

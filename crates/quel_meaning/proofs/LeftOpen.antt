-- A script, step by step, while files are open.
use Rattle.std.proofs.Common.{◌≡◌, refl, ap, ◌∙◌, ℕ, suc, ◌≤◌, Bool, true, false, List, [], ◌∷◌, ◌++◌, length, append_assoc, append-nil, Some, arith}
use Rattle.std.proofs.lemmas.Bool.{le-leb}
use Rattle.std.specs.Prelude.{◌+◌, ◌-◌, if◌then◌else◌, nat_le}
use Rattle.std.specs.List.{list_all}
use Rattle.quel_meaning.specs.Lines.{lines_of}
use Rattle.quel_meaning.specs.Monitor.{Command, Part, Piece, Order, Plain, has_no_command, quoting_behind, is_command_letter, word_length, command_of, names_file, before_parts, order_before, parts_of}
use Rattle.quel_meaning.specs.Buffer.{with_piece}
use Rattle.quel_meaning.specs.Happening.{Setting, Event, Kept, After, quiet, refused, and_then, over}
use Rattle.quel_meaning.specs.Running.{Deeper, most_included, after_include, after_command, after_open_part, after_part, after_line, after_lines, files_within}
use Rattle.quel_meaning.specs.Session.{files_of}
use Rattle.quel_meaning.specs.OpenFiles.{OpenFiles, included_in, after_files, after_rest}
use Rattle.quel_meaning.proofs.Cutting.{only_text, first_command}

-- ---- steps

then_nothing : (a : After) → and_then a quiet ≡ a
then_nothing a = ap (λ (x : List Event). record { kept = a.kept; events = x }) (append-nil a.events)

pub then_both : (a : After) (f g : Kept → After) → and_then (and_then a f) g ≡ and_then a (λ k. and_then (f k) g)
then_both a f g =
    let second = f a.kept in
    let third = g second.kept in
    ap (λ (x : List Event). record { kept = third.kept; events = x }) (append_assoc a.events second.events third.events)

-- ---- lines

pub only_the_script : (setting : Setting) (kept : Kept) (lines : List (List ℕ)) → after_files setting kept (lines ∷ []) ≡ after_lines setting (files_of setting) kept lines
unfolding after_files
only_the_script setting kept lines = then_nothing (after_lines setting (files_of setting) kept lines)

pub next_line : (setting : Setting) (kept : Kept) (line : List ℕ) (lines : List (List ℕ)) (files : OpenFiles)
    → after_files setting kept ((line ∷ lines) ∷ files) ≡ after_rest setting kept line (lines ∷ files)
unfolding after_files after_lines over
next_line setting kept line lines files =
    let deeper = included_in setting (lines ∷ files) in
    then_both (after_line setting deeper kept line) (λ k. over (after_line setting deeper) k lines) (λ k. after_files setting k files)

pub end_of_file : (setting : Setting) (kept : Kept) (files : OpenFiles) → after_files setting kept ([] ∷ files) ≡ after_files setting kept files
unfolding after_files after_lines over
end_of_file setting kept files = refl

-- ---- parts of a line

-- what is kept where a piece was taken
abbrev taking : Kept → List ℕ → Kept
taking kept piece = record kept { buffer = with_piece kept.buffer piece }

not_ended : (ended : Bool) (kept : Kept) (next : After) → ended ≡ false → elim ended [ true ↦ quiet kept | false ↦ next ] ≡ next
not_ended true kept next e = absurd (cc e)
not_ended false kept next e = refl

open_part : (setting : Setting) (deeper : Deeper) (kept : Kept) (part : Part) → kept.quit ≡ false → after_part setting deeper kept part ≡ after_open_part setting deeper kept part
unfolding after_part
open_part setting deeper kept part e = not_ended kept.quit kept (after_open_part setting deeper kept part) e

piece_first : (setting : Setting) (deeper : Deeper) (kept : Kept) (piece : List ℕ) (parts : List Part) → kept.quit ≡ false
    → over (after_part setting deeper) kept (before_parts piece parts) ≡ over (after_part setting deeper) (taking kept piece) parts
unfolding over with_piece
piece_first setting deeper kept [] parts e = refl
piece_first setting deeper kept (b ∷ bs) parts e =
    ap (λ (a : After). and_then a (λ k. over (after_part setting deeper) k parts)) (open_part setting deeper kept (Piece (b ∷ bs)) e)

piece_line : (setting : Setting) (deeper : Deeper) (kept : Kept) (piece : List ℕ) → has_no_command Plain piece ≡ true → kept.quit ≡ false
    → after_line setting deeper kept piece ≡ quiet (taking kept piece)
unfolding after_line over
piece_line setting deeper kept piece free e =
    ap (over (after_part setting deeper) kept) (only_text piece free) ∙ piece_first setting deeper kept piece [] e

-- a rest of a line without a command is a piece
pub only_piece : (setting : Setting) (kept : Kept) (piece : List ℕ) (files : OpenFiles) → has_no_command Plain piece ≡ true → kept.quit ≡ false
    → after_rest setting kept piece files ≡ after_files setting (taking kept piece) files
only_piece setting kept piece files free e =
    ap (λ (a : After). and_then a (λ k. after_files setting k files)) (piece_line setting (included_in setting files) kept piece free e)

order_first : (setting : Setting) (deeper : Deeper) (kept : Kept) (command : Command) (parts : List Part) → kept.quit ≡ false
    → over (after_part setting deeper) kept (Order command ∷ parts) ≡ and_then (after_command setting deeper kept command) (λ k. over (after_part setting deeper) k parts)
unfolding over
order_first setting deeper kept command parts e =
    ap (λ (a : After). and_then a (λ k. over (after_part setting deeper) k parts)) (open_part setting deeper kept (Order command) e)

-- a line up to its first command, and the parts behind it
command_line : (setting : Setting) (deeper : Deeper) (kept : Kept) (piece word rest : List ℕ) → has_no_command Plain piece ≡ true → quoting_behind Plain piece ≡ Plain
    → list_all is_command_letter word ≡ true → word_length rest ≡ 0 → kept.quit ≡ false
    → after_line setting deeper kept (piece ++ (92 ∷ (word ++ rest)))
    ≡ and_then (after_command setting deeper (taking kept piece) (command_of word rest)) (λ k. over (after_part setting deeper) k (if names_file (command_of word rest) then [] else parts_of rest))
unfolding after_line
command_line setting deeper kept piece word rest free closed letters none e =
    ap (over (after_part setting deeper) kept) (first_command piece word rest free closed letters none)
    ∙ piece_first setting deeper kept piece (order_before (command_of word rest) (parts_of rest)) e
    ∙ order_first setting deeper (taking kept piece) (command_of word rest) (if names_file (command_of word rest) then [] else parts_of rest) e

-- behind a command that names no file the rest of the line runs
pub plain_command : (setting : Setting) (kept : Kept) (piece word rest : List ℕ) (files : OpenFiles) → has_no_command Plain piece ≡ true → quoting_behind Plain piece ≡ Plain
    → list_all is_command_letter word ≡ true → word_length rest ≡ 0 → kept.quit ≡ false → names_file (command_of word rest) ≡ false
    → after_rest setting kept (piece ++ (92 ∷ (word ++ rest))) files
    ≡ and_then (after_command setting (included_in setting files) (taking kept piece) (command_of word rest)) (λ k. after_rest setting k rest files)
unfolding after_line
plain_command setting kept piece word rest files free closed letters none e named =
    let deeper = included_in setting files in
    let done = after_command setting deeper (taking kept piece) (command_of word rest) in
    let cut = command_line setting deeper kept piece word rest free closed letters none e in
    let parts : (if names_file (command_of word rest) then [] else parts_of rest) ≡ parts_of rest = ap (λ (b : Bool). if b then [] else parts_of rest) named in
    ap (λ (a : After). and_then a (λ k. after_files setting k files)) (cut ∙ ap (λ (ps : List Part). and_then done (λ k. over (after_part setting deeper) k ps)) parts)
    ∙ then_both done (λ k. over (after_part setting deeper) k (parts_of rest)) (λ k. after_files setting k files)

-- behind a command that names a file nothing is left of the line
pub file_command : (setting : Setting) (kept : Kept) (piece word rest : List ℕ) (files : OpenFiles) → has_no_command Plain piece ≡ true → quoting_behind Plain piece ≡ Plain
    → list_all is_command_letter word ≡ true → word_length rest ≡ 0 → kept.quit ≡ false → names_file (command_of word rest) ≡ true
    → after_rest setting kept (piece ++ (92 ∷ (word ++ rest))) files
    ≡ and_then (after_command setting (included_in setting files) (taking kept piece) (command_of word rest)) (λ k. after_files setting k files)
unfolding over
file_command setting kept piece word rest files free closed letters none e named =
    let deeper = included_in setting files in
    let done = after_command setting deeper (taking kept piece) (command_of word rest) in
    let cut = command_line setting deeper kept piece word rest free closed letters none e in
    let parts : (if names_file (command_of word rest) then [] else parts_of rest) ≡ [] = ap (λ (b : Bool). if b then [] else parts_of rest) named in
    ap (λ (a : After). and_then a (λ k. after_files setting k files))
    (cut ∙ ap (λ (ps : List Part). and_then done (λ k. over (after_part setting deeper) k ps)) parts ∙ then_nothing done)

-- ---- files

deeper_by_one : (setting : Setting) (n m : ℕ) → n ≡ suc m → files_within n setting ≡ Some (λ kept bytes. after_lines setting (files_within m setting) kept (lines_of bytes))
unfolding files_within
deeper_by_one setting n m e = rw e refl

where_within : (within : Bool) (kept : Kept) (next : After) → within ≡ true → elim within [ true ↦ next | false ↦ refused kept 3 0 ] ≡ next
where_within true kept next e = refl
where_within false kept next e = absurd (cc e)

included_file : (deeper : Kept → List ℕ → After) (kept : Kept) (bytes : List ℕ) → kept.included + length bytes ≤ most_included
    → after_include (Some deeper) kept bytes ≡ deeper (record kept { included = kept.included + length bytes }) bytes
included_file deeper kept bytes within =
    where_within (nat_le (kept.included + length bytes) most_included) kept (deeper (record kept { included = kept.included + length bytes }) bytes)
    (le-leb (kept.included + length bytes) most_included within)

-- a file that is included is read before what is left
pub file_first : (setting : Setting) (kept : Kept) (bytes : List ℕ) (files : OpenFiles) → length files ≤ 8 → kept.included + length bytes ≤ most_included
    → and_then (after_include (included_in setting files) kept bytes) (λ k. after_files setting k files)
    ≡ after_files setting (record kept { included = kept.included + length bytes }) (lines_of bytes ∷ files)
unfolding after_files
file_first setting kept bytes files few within =
    ap (λ (d : Deeper). and_then (after_include d kept bytes) (λ k. after_files setting k files))
    (deeper_by_one setting (9 - length files) (8 - length files) (omega (arith, few)))
    ∙ ap (λ (a : After). and_then a (λ k. after_files setting k files))
    (included_file (λ kept bytes. after_lines setting (files_within (8 - length files) setting) kept (lines_of bytes)) kept bytes within)
    ∙ ap (λ (n : ℕ). and_then (after_lines setting (files_within n setting) (record kept { included = kept.included + length bytes }) (lines_of bytes)) (λ k. after_files setting k files))
    (let same : 8 - length files ≡ 9 - suc (length files) = omega arith in same)

-- where nine files are open none is included
pub too_deep : (setting : Setting) (kept : Kept) (bytes : List ℕ) (files : OpenFiles) → 9 ≤ length files → after_include (included_in setting files) kept bytes ≡ refused kept 3 0
unfolding files_within
too_deep setting kept bytes files many =
    let none : 9 - length files ≡ 0 = omega (arith, many) in
    ap (λ (n : ℕ). after_include (files_within n setting) kept bytes) none

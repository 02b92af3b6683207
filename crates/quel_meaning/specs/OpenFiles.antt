-- What is left of a script, while files are open that it includes.
use Rattle.std.specs.Prelude.{ℕ, suc, ◌-◌, List, [], ◌∷◌, length}
use Rattle.quel_meaning.specs.Happening.{Setting, Kept, After, quiet, and_then}
use Rattle.quel_meaning.specs.Running.{Deeper, files_within, after_line, after_lines}
use Rattle.quel_meaning.specs.Session.{greatest_depth}

-- the lines that are left of each open file, the innermost first; the last is the script
abbrev pub OpenFiles : Type 0
OpenFiles = List (List (List ℕ))

-- how a file is read that is included while these are open
abbrev pub included_in : Setting → OpenFiles → Deeper
included_in setting files = files_within (suc greatest_depth - length files) setting

-- the lines that are left run, those of the innermost file first
unfoldable pub after_files : Setting → Kept → OpenFiles → After
after_files setting kept [] = quiet kept
after_files setting kept (lines ∷ files) =
    and_then (after_lines setting (included_in setting (lines ∷ files)) kept lines) (λ k. after_files setting k files)

-- the rest of a line of the innermost file runs, and then the lines that are left
abbrev pub after_rest : Setting → Kept → List ℕ → OpenFiles → After
after_rest setting kept rest files = and_then (after_line setting (included_in setting files) kept rest) (λ k. after_files setting k files)

-- The work of this language: how often a script is read at most, how many statements a batch has, and how many frames a tree or a change.
use Rattle.std.specs.Prelude.{ℕ, suc, ◌+◌, ◌-◌, ◌*◌, List, [], ◌∷◌, length}
use Rattle.network_meaning.specs.WorkLeft.{Work}
use Rattle.quel_meaning.specs.OpenFiles.{OpenFiles}
use Rattle.quel_meaning.specs.Running.{most_included}
use Rattle.quel_tree.specs.Message.{most_tree_levels}
use Rattle.quel_network.specs.Counting.{counted}
use Rattle.quel_network.specs.Quel.{quel}
use Rattle.quel_network.specs.Sorts.{User, Monitor, Batch}
use Rattle.quel_network.specs.TreeBounds.{checked_bounded, change_bounded}

-- how many bytes are left of a batch
abbrev pub bytes_left : Batch → ℕ
bytes_left b = length b.text - b.from

-- how many lines there are, and how many bytes they have
abbrev pub lines_size : List (List ℕ) → ℕ
lines_size [] = 0
lines_size (line ∷ lines) = suc (length line) + lines_size lines

-- the same of the lines that are left of open files
abbrev pub files_size : OpenFiles → ℕ
files_size [] = 0
files_size (lines ∷ files) = lines_size lines + files_size files

-- how many bytes may still be included
abbrev pub still_included : ℕ → ℕ
still_included included = most_included - included

-- the size of what is to be read: the bytes of the script and those that may still be included, both twice, since each may be a line by itself, the open files, and what is left of the line
abbrev pub reading_size : ℕ → OpenFiles → ℕ → ℕ → ℕ
reading_size script files parts included = 2 * script + (files_size files + (parts + 2 * still_included included))

-- how often is read at most
abbrev pub reads_left : Monitor → List ℕ → ℕ
reads_left m script = reading_size (length script) m.files (length m.parts) m.included

-- how many frames a tree that suits a database or a lawful change has at most
unfoldable pub most_frames : ℕ
most_frames = suc ((checked_bounded most_tree_levels).most + (change_bounded most_tree_levels).most)

-- the work of this language
unfoldable pub quel_work : (user : User) → Work (quel user)
quel_work user = counted (quel user) most_frames bytes_left reads_left

-- The parts of a line up to a command that names a file, and the lines behind the first: the laws.
use Rattle.std.proofs.Common.{◌≡◌, refl, ap, ℕ, Bool, true, false, List, [], ◌∷◌, take, drop, subst}
use Rattle.std.specs.Prelude.{◌==◌, if◌then◌else◌}
use Rattle.std.specs.List.{concat}
use Rattle.quel_meaning.specs.Lines.{onto_first, lines_of}
use Rattle.quel_meaning.specs.Monitor.{Command, Part, Piece, Order, Quoting, quoting_after, begins_command, names_file, onto_piece, before_parts, without_front, command_of, word_length, parts_at, parts_from}
use Rattle.quel_meaning.proofs.LineLaws.{joined_again}
use Rattle.quel_network.specs.Session.{up_to_file}

-- ---- parts

-- nothing stands behind a command that names a file
abbrev pub IsCut : List Part → Type 0
IsCut parts = up_to_file parts ≡ parts

-- what is behind the first
abbrev pub behind_first : {A : Type 0} → List A → List A
behind_first [] = []
behind_first (x ∷ xs) = xs

cut_order : (command : Command) (names : Bool) (parts : List Part) → IsCut parts
    → Order command ∷ (if names then [] else up_to_file (if names then [] else parts)) ≡ Order command ∷ (if names then [] else parts)
cut_order command true parts h = refl
cut_order command false parts h = ap (λ (x : List Part). Order command ∷ x) h

cut_piece : (b : ℕ) (parts : List Part) → IsCut parts → IsCut (onto_piece b parts)
cut_piece b [] h = refl
cut_piece b (Piece bytes ∷ parts) h = ap (λ (x : List Part). Piece (b ∷ bytes) ∷ behind_first x) h
cut_piece b (Order command ∷ parts) h = ap (λ (x : List Part). Piece (b ∷ []) ∷ x) h

cut_before : (bytes : List ℕ) (parts : List Part) → IsCut parts → IsCut (before_parts bytes parts)
cut_before [] parts h = h
cut_before (b ∷ bytes) parts h = ap (λ (x : List Part). Piece (b ∷ bytes) ∷ x) h

cut_without : (n : ℕ) (parts : List Part) → IsCut parts → IsCut (without_front n parts)
cut_without n [] h = refl
cut_without n (Piece bytes ∷ parts) h = cut_before (drop n bytes) parts (ap (λ (x : List Part). behind_first x) h)
cut_without n (Order command ∷ parts) h = h

cut_at : (begins : Bool) (b : ℕ) (bytes : List ℕ) (parts : List Part) → IsCut parts → IsCut (parts_at begins b bytes parts)
cut_at true b bytes parts h =
    let command = command_of (take (word_length bytes) bytes) (drop (word_length bytes) bytes) in
    cut_order command (names_file command) (without_front (word_length bytes) parts) (cut_without (word_length bytes) parts h)
cut_at false b bytes parts h = cut_piece b parts h

-- so it is in what a line is cut into
pub lines_cut : (quoting : Quoting) (bytes : List ℕ) → IsCut (parts_from quoting bytes)
unfolding parts_from
lines_cut quoting [] = refl
lines_cut quoting (b ∷ bytes) = cut_at (begins_command quoting b) b bytes (parts_from (quoting_after quoting b) bytes) (lines_cut (quoting_after quoting b) bytes)

-- ---- lines

-- the lines are those of their bytes
abbrev pub AreLines : List (List ℕ) → Type 0
AreLines lines = lines_of (concat lines) ≡ lines

lines_onto : (b : ℕ) (lines : List (List ℕ)) → AreLines (behind_first lines) → AreLines (behind_first (onto_first b lines))
unfolding lines_of
lines_onto b [] h = refl
lines_onto b (line ∷ lines) h = h

lines_before : (newline : Bool) (b : ℕ) (lines : List (List ℕ)) → AreLines lines → AreLines (behind_first lines)
    → AreLines (behind_first (if newline then (b ∷ []) ∷ lines else onto_first b lines))
lines_before true b lines all h = all
lines_before false b lines all h = lines_onto b lines h

lines_behind : (text : List ℕ) → AreLines (behind_first (lines_of text))
unfolding lines_of
lines_behind [] = refl
lines_behind (b ∷ text) = lines_before (b == 10) b (lines_of text) (ap lines_of (joined_again text)) (lines_behind text)

-- the lines behind the first are those of their bytes
pub other_lines : (text line : List ℕ) (lines : List (List ℕ)) → lines_of text ≡ line ∷ lines → AreLines lines
other_lines text line lines e = subst (λ (x : List (List ℕ)). AreLines (behind_first x)) e (lines_behind text)

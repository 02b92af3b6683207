-- How a line is cut at its first command.
use Rattle.std.proofs.Common.{◌≡◌, refl, sym, ap, ◌∙◌, ℕ, zero, suc, Bool, true, false, List, [], ◌∷◌, ◌++◌, length, append-nil, arith}
use Rattle.std.proofs.Math.Seq.{take-append_seam, drop-append_seam}
use Rattle.std.proofs.lemmas.Bool.{eqb-true}
use Rattle.std.specs.Prelude.{◌==◌, ◌&&◌, if◌then◌else◌, not}
use Rattle.std.specs.List.{list_all}
use Rattle.quel_meaning.specs.Monitor.{Command, Part, Piece, Order, Quoting, Plain, quoting_after, begins_command, has_no_command, quoting_behind, is_command_letter, onto_piece, before_parts, without_front, order_before, word_length, command_at, parts_at, parts_from, parts_of, command_of, names_file}

both : (a b : Bool) → (a && b) ≡ true → (a ≡ true) × (b ≡ true)
both true b e = (refl, e)
both false b e = absurd cc

unequal : (b : Bool) → not b ≡ true → b ≡ false
unequal true e = absurd cc
unequal false e = refl

-- bytes in front of the first piece, one by one
fronted : List ℕ → List Part → List Part
fronted [] parts = parts
fronted (b ∷ bs) parts = onto_piece b (fronted bs parts)

fronted_order : (bytes : List ℕ) (c : Command) (parts : List Part) → fronted bytes (Order c ∷ parts) ≡ before_parts bytes (Order c ∷ parts)
unfolding fronted
fronted_order [] c parts = refl
fronted_order (b ∷ []) c parts = refl
fronted_order (b ∷ d ∷ bs) c parts = ap (onto_piece b) (fronted_order (d ∷ bs) c parts)

fronted_none : (bytes : List ℕ) → fronted bytes [] ≡ before_parts bytes []
unfolding fronted
fronted_none [] = refl
fronted_none (b ∷ []) = refl
fronted_none (b ∷ d ∷ bs) = ap (onto_piece b) (fronted_none (d ∷ bs))

-- bytes in which no command begins are in front of what is behind them
passed : (q : Quoting) (bytes rest : List ℕ) → has_no_command q bytes ≡ true → parts_from q (bytes ++ rest) ≡ fronted bytes (parts_from (quoting_behind q bytes) rest)
unfolding parts_from fronted
passed q [] rest e = refl
passed q (b ∷ bs) rest e =
    let parts = both (not (begins_command q b)) (has_no_command (quoting_after q b) bs) e in
    rw (unequal (begins_command q b) parts.0, passed (quoting_after q b) bs rest parts.1) refl

-- a line without a command is a piece
pub only_text : (line : List ℕ) → has_no_command Plain line ≡ true → parts_of line ≡ before_parts line []
unfolding parts_from
only_text line e = ap parts_of (sym (append-nil line)) ∙ passed Plain line [] e ∙ fronted_none line

-- ---- letters

letter_is_no : (n b : ℕ) → is_command_letter n ≡ false → is_command_letter b ≡ true → (b == n) ≡ false
letter_is_no n b other it = by_case (b == n) refl
  where
    by_case : (t : Bool) → (b == n) ≡ t → t ≡ false
    by_case false e = refl
    by_case true e = absurd (cc (sym it ∙ ap is_command_letter (eqb-true b n e) ∙ other))

letters_pass : (word : List ℕ) → list_all is_command_letter word ≡ true → (has_no_command Plain word ≡ true) × (quoting_behind Plain word ≡ Plain)
letters_pass [] e = (refl, refl)
letters_pass (b ∷ bs) e =
    let parts = both (is_command_letter b) (list_all is_command_letter bs) e in
    let later = letters_pass bs parts.1 in
    rw (letter_is_no 92 b refl parts.0, letter_is_no 34 b refl parts.0) later

-- ---- the first piece

-- no first piece without a byte
is_neat : List Part → Bool
is_neat [] = true
is_neat (Order c ∷ parts) = true
is_neat (Piece [] ∷ parts) = false
is_neat (Piece (b ∷ bs) ∷ parts) = true

neat_front : (b : ℕ) (parts : List Part) → is_neat (onto_piece b parts) ≡ true
unfolding is_neat
neat_front b [] = refl
neat_front b (Order c ∷ parts) = refl
neat_front b (Piece bytes ∷ parts) = refl

neat_at : (t : Bool) (b : ℕ) (bytes : List ℕ) (parts : List Part) → is_neat (parts_at t b bytes parts) ≡ true
unfolding is_neat
neat_at true b bytes parts = refl
neat_at false b bytes parts = neat_front b parts

neat : (q : Quoting) (bytes : List ℕ) → is_neat (parts_from q bytes) ≡ true
unfolding is_neat parts_from
neat q [] = refl
neat q (b ∷ bs) = neat_at (begins_command q b) b bs (parts_from (quoting_after q b) bs)

without_nothing : (parts : List Part) → is_neat parts ≡ true → without_front 0 parts ≡ parts
unfolding is_neat
without_nothing [] e = refl
without_nothing (Order c ∷ parts) e = refl
without_nothing (Piece [] ∷ parts) e = absurd (cc e)
without_nothing (Piece (b ∷ bs) ∷ parts) e = refl

without_one : (n b : ℕ) (parts : List Part) → without_front (suc n) (onto_piece b parts) ≡ without_front n parts
without_one zero b [] = refl
without_one (suc n) b [] = refl
without_one zero b (Order c ∷ parts) = refl
without_one (suc n) b (Order c ∷ parts) = refl
without_one n b (Piece bytes ∷ parts) = refl

without_word : (word : List ℕ) (parts : List Part) → is_neat parts ≡ true → without_front (length word) (fronted word parts) ≡ parts
unfolding fronted
without_word [] parts e = without_nothing parts e
without_word (b ∷ bs) parts e = without_one (length bs) b (fronted bs parts) ∙ without_word bs parts e

-- ---- the first command

word_counted : (word behind : List ℕ) → list_all is_command_letter word ≡ true → word_length behind ≡ 0 → word_length (word ++ behind) ≡ length word
word_counted [] behind e none = none
word_counted (b ∷ bs) behind e none =
    let parts = both (is_command_letter b) (list_all is_command_letter bs) e in
    rw (parts.0, word_counted bs behind parts.1 none) (omega arith)

at_word : (word behind : List ℕ) → list_all is_command_letter word ≡ true → word_length behind ≡ 0
    → command_at (word ++ behind) (parts_of (word ++ behind)) ≡ order_before (command_of word behind) (parts_of behind)
at_word word behind e none =
    let pass = letters_pass word e in
    let counted = word_counted word behind e none in
    let cut : parts_of (word ++ behind) ≡ fronted word (parts_of behind) = passed Plain word behind pass.0 ∙ ap (λ (q : Quoting). fronted word (parts_from q behind)) pass.1 in
    rw (counted, cut, take-append_seam word behind, drop-append_seam word behind, without_word word (parts_of behind) (neat Plain behind)) refl

-- a line is cut at its first command: the bytes before it, the command, and the parts of what is behind its word
pub first_command : (piece word behind : List ℕ) → has_no_command Plain piece ≡ true → quoting_behind Plain piece ≡ Plain → list_all is_command_letter word ≡ true → word_length behind ≡ 0
    → parts_of (piece ++ 92 ∷ (word ++ behind)) ≡ before_parts piece (order_before (command_of word behind) (parts_of behind))
unfolding parts_from
first_command piece word behind free closed letters none =
    passed Plain piece (92 ∷ (word ++ behind)) free
    ∙ ap (λ (q : Quoting). fronted piece (parts_from q (92 ∷ (word ++ behind)))) closed
    ∙ ap (fronted piece) (at_word word behind letters none)
    ∙ fronted_order piece (command_of word behind) (if names_file (command_of word behind) then [] else parts_of behind)

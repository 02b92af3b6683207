-- A line is walked from its left: the bytes before its first command, the command's word, and what is behind it.
use Rattle.std.proofs.Common.{◌≡◌, refl, sym, ap, ◌∙◌, ℕ, ◌<◌, zero, suc, Bool, true, false, List, [], ◌∷◌, ◌++◌, length, take, drop, arith, get_or, subst, append-nil, append_assoc, length-drop, drop-cons}
use Rattle.std.specs.Prelude.{◌&&◌, not, cond, ◌+◌}
use Rattle.std.specs.List.{list_all, prefix_len}
use Rattle.quel_meaning.specs.Monitor.{Command, Part, Order, Quoting, Plain, quoting_after, begins_command, has_no_command, quoting_behind, is_command_letter, before_parts, order_before, names_file, word_length, parts_from, parts_of, command_of}
use Rattle.quel_meaning.proofs.Cutting.{first_command, only_text}

not_and : (b : Bool) (t : Bool) → b ≡ false → t ≡ true → (not b && t) ≡ true
not_and b t e f = rw (e, f) refl

both : (a b : Bool) → (a && b) ≡ true → (a ≡ true) × (b ≡ true)
both true b e = (refl, e)
both false b e = absurd cc

-- a byte that begins no command, behind bytes in which none begins
pub free_more : (q : Quoting) (bytes : List ℕ) (b : ℕ) → has_no_command q bytes ≡ true → begins_command (quoting_behind q bytes) b ≡ false → has_no_command q (bytes ++ b ∷ []) ≡ true
free_more q [] b free none = not_and _ true none refl
free_more q (c ∷ bs) b free none =
    let parts = both (not (begins_command q c)) (has_no_command (quoting_after q c) bs) free in
    rw (parts.0) (free_more (quoting_after q c) bs b parts.1 none)

-- what is open behind one more byte
pub behind_more : (q : Quoting) (bytes : List ℕ) (b : ℕ) → quoting_behind q (bytes ++ b ∷ []) ≡ quoting_after (quoting_behind q bytes) b
behind_more q [] b = refl
behind_more q (c ∷ bs) b = behind_more (quoting_after q c) bs b

-- ---- the word of a command

one_more : (n : ℕ) → 1 + n ≡ suc n
one_more n = omega arith

letters_on : (p : ℕ → Bool) (b : ℕ) (bs : List ℕ) (t : Bool) → p b ≡ t → list_all p (take (prefix_len p bs) bs) ≡ true → list_all p (take (cond t (1 + prefix_len p bs) 0) (b ∷ bs)) ≡ true
letters_on p b bs true e all = rw (one_more (prefix_len p bs), e, all) refl
letters_on p b bs false e all = refl

-- the word's bytes are letters
pub all_letters : (p : ℕ → Bool) (bs : List ℕ) → list_all p (take (prefix_len p bs) bs) ≡ true
all_letters p [] = refl
all_letters p (b ∷ bs) = letters_on p b bs (p b) refl (all_letters p bs)

none_on : (p : ℕ → Bool) (b : ℕ) (bs : List ℕ) (t : Bool) → p b ≡ t → prefix_len p (drop (prefix_len p bs) bs) ≡ 0 → prefix_len p (drop (cond t (1 + prefix_len p bs) 0) (b ∷ bs)) ≡ 0
none_on p b bs true e none = rw (one_more (prefix_len p bs)) none
none_on p b bs false e none = rw e refl

-- no letter stands behind the word
pub none_behind : (p : ℕ → Bool) (bs : List ℕ) → prefix_len p (drop (prefix_len p bs) bs) ≡ 0
none_behind p [] = refl
none_behind p (b ∷ bs) = none_on p b bs (p b) refl (none_behind p bs)

joined : (n : ℕ) (bs : List ℕ) → take n bs ++ drop n bs ≡ bs
joined zero bs = refl
joined (suc n) [] = refl
joined (suc n) (b ∷ bs) = ap (λ (l : List ℕ). b ∷ l) (joined n bs)

-- ---- the front of a line

-- a command's word and what is behind it
abbrev pub order_of : List ℕ → List Part
order_of bytes = order_before (command_of (take (word_length bytes) bytes) (drop (word_length bytes) bytes)) (parts_of (drop (word_length bytes) bytes))

-- a line is the piece before its first command, the command, and what is behind it
pub cut_at : (line piece later : List ℕ) (b : ℕ) → line ≡ piece ++ b ∷ later → b ≡ 92 → has_no_command Plain piece ≡ true → quoting_behind Plain piece ≡ Plain
    → parts_of line ≡ before_parts piece (order_of later)
cut_at line piece later b e is free closed =
    e' ∙ first_command piece (take (word_length later) later) (drop (word_length later) later) free closed (all_letters is_command_letter later) (none_behind is_command_letter later)
  where
    e' : parts_of line ≡ parts_of (piece ++ 92 ∷ (take (word_length later) later ++ drop (word_length later) later))
    e' = rw (e, is, joined (word_length later) later) refl

-- a piece in front of nothing, and then parts
pub piece_before : (piece : List ℕ) (parts : List Part) → before_parts piece [] ++ parts ≡ before_parts piece parts
piece_before [] parts = refl
piece_before (b ∷ bs) parts = refl

-- ---- the steps of the walk, where old parts became new ones

-- nothing is left
pub walked : (parts : List Part) (rest line : List ℕ) → rest ≡ [] → parts ++ parts_of rest ≡ parts_of line → parts ≡ parts_of line
unfolding parts_from
walked parts rest line e kept = let k : parts ++ [] ≡ parts_of line = rw e at kept in sym (append-nil parts) ∙ k

-- no command is left: the whole rest was a piece
pub ended : (old new : List Part) (line piece behind : List ℕ) (n : ℕ) → new ≡ old ++ before_parts piece [] → piece ≡ take n line → behind ≡ drop n line → behind ≡ []
    → has_no_command Plain (take n line) ≡ true → new ++ parts_of behind ≡ old ++ parts_of line
unfolding parts_from
ended old new line piece behind n added front back none free =
    let all : piece ≡ line = sym (append-nil piece) ∙ ap (λ (l : List ℕ). piece ++ l) (sym none ∙ back) ∙ ap (λ (l : List ℕ). l ++ drop n line) front ∙ joined n line in
    let free_line : has_no_command Plain line ≡ true = subst (λ (l : List ℕ). has_no_command Plain l ≡ true) (sym front ∙ all) free in
    ap (λ (l : List ℕ). new ++ parts_of l) none ∙ append-nil new ∙ added ∙ ap (λ (l : List ℕ). old ++ before_parts l []) all ∙ ap (λ (l : List Part). old ++ l) (sym (only_text line free_line))

-- a piece was added, and a command is next
pub fronted : (old new : List Part) (line piece behind later : List ℕ) (b n : ℕ) → new ≡ old ++ before_parts piece [] → piece ≡ take n line → behind ≡ drop n line → behind ≡ b ∷ later
    → has_no_command Plain (take n line) ≡ true → (n < length line → quoting_behind Plain (take n line) ≡ Plain) → (n < length line → get_or line n 0 ≡ 92)
    → new ++ order_of later ≡ old ++ parts_of line
fronted old new line piece behind later b n added front back next free closed command =
    let whole : drop n line ≡ b ∷ later = sym back ∙ next in
    let lt : n < length line = omega (arith, length-drop n line, ap length whole) in
    let is : b ≡ 92 = cc (command lt, drop-cons line n 0 lt) in
    let parted : line ≡ piece ++ b ∷ later = sym (joined n line) ∙ ap (λ (l : List ℕ). l ++ drop n line) (sym front) ∙ ap (λ (l : List ℕ). piece ++ l) whole in
    let free_piece : has_no_command Plain piece ≡ true = subst (λ (l : List ℕ). has_no_command Plain l ≡ true) (sym front) free in
    let closed_piece : quoting_behind Plain piece ≡ Plain = subst (λ (l : List ℕ). quoting_behind Plain l ≡ Plain) (sym front) (closed lt) in
    ap (λ (l : List Part). l ++ order_of later) added ∙ append_assoc old (before_parts piece []) (order_of later)
    ∙ ap (λ (l : List Part). old ++ l) (piece_before piece (order_of later) ∙ sym (cut_at line piece later b parted is free_piece closed_piece))

-- a command was added that takes the rest of the line
pub last_order : (old new : List Part) (command : Command) (line word behind : List ℕ) (n : ℕ) → new ≡ old ++ Order command ∷ [] → command ≡ command_of word behind → n ≡ word_length line
    → word ≡ take n line → behind ≡ drop n line → names_file command ≡ true → new ++ parts_of [] ≡ old ++ order_of line
unfolding parts_from
last_order old new command line word behind n added is counted front back last =
    let same : command ≡ command_of (take (word_length line) line) (drop (word_length line) line) = cc in
    append-nil new ∙ added ∙ ap (λ (l : List Part). old ++ l) (sym (order_last command (parts_of behind) last) ∙ ap (λ (c : Command). order_before c (parts_of behind)) same ∙ ap (λ (l : List ℕ). order_before (command_of (take (word_length line) line) (drop (word_length line) line)) (parts_of l)) (back ∙ ap (λ (k : ℕ). drop k line) counted))
  where
    order_last : (c : Command) (parts : List Part) → names_file c ≡ true → order_before c parts ≡ Order c ∷ []
    order_last c parts e = rw e refl

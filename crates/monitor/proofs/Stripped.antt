-- What dropping the white space at the end leaves.
use Rattle.std.proofs.Common.{◌≡◌, refl, sym, ap, ℕ, true, false, List, [], ◌∷◌, ◌++◌}
use Rattle.quel_grammar.specs.Lexer.{is_white}
use Rattle.quel_meaning.specs.Monitor.{before_stripped, stripped_at_end}

white_at_end : (bs : List ℕ) (b : ℕ) → is_white b ≡ true → stripped_at_end (bs ++ b ∷ []) ≡ stripped_at_end bs
white_at_end [] b h = rw h refl
white_at_end (c ∷ bs) b h = ap (before_stripped c) (white_at_end bs b h)

byte_at_end : (bs : List ℕ) (b : ℕ) → is_white b ≡ false → stripped_at_end (bs ++ b ∷ []) ≡ bs ++ b ∷ []
byte_at_end [] b h = rw h refl
byte_at_end (c ∷ []) b h = ap (before_stripped c) (byte_at_end [] b h)
byte_at_end (c ∷ d ∷ bs) b h = ap (before_stripped c) (byte_at_end (d ∷ bs) b h)

-- without white space at the end the same is left
pub stripped_front : (bs front : List ℕ) (b : ℕ) → bs ≡ front ++ b ∷ [] → is_white b ≡ true → stripped_at_end bs ≡ stripped_at_end front
stripped_front bs front b e h = rw e (white_at_end front b h)

-- where the last byte is no white space, all is left
pub stripped_whole : (bs front : List ℕ) (b : ℕ) → bs ≡ front ++ b ∷ [] → is_white b ≡ false → bs ≡ stripped_at_end bs
stripped_whole bs front b e h = rw e (sym (byte_at_end front b h))

-- Look-ups in a table: through a view, and what is at the front of a text.
use Rattle.std.proofs.Common.{◌≡◌, ℕ, ◌≤◌, ◌<◌, Bool, true, false, cond, List, [], ◌∷◌, Option, Some, refl, ap, map, length, length-append, arith, drop, nat_eq}
use Rattle.std.specs.Prelude.{option_map, IfSome, nat_lt, ◌&&◌}
use Rattle.std.specs.List.{find, list_all, starts_with}
use Rattle.std.proofs.lemmas.Slice.Eq.{starts_is}
use Rattle.std.proofs.lemmas.Bool.Decides.{Decides-eqb, nat_tests}
use Rattle.quel_grammar.specs.declared.token.Fixed.{Fixed}
use Rattle.quel_grammar.specs.Words.{symbols, symbol_at}

chosen : {A B C : Type 0} (f : B → C) (v : A → B) (a : A) (b : Bool) (o : Option A) (q : Option B) → option_map (λ x. f (v x)) o ≡ option_map f q → option_map (λ x. f (v x)) (cond b (Some a) o) ≡ option_map f (cond b (Some (v a)) q)
chosen f v a true o q e = refl
chosen f v a false o q e = e

-- what is found in the table is found in what is seen of it
pub seen : {A B C : Type 0} (f : B → C) (p : B → Bool) (v : A → B) (xs : List A) → option_map (λ x. f (v x)) (find (λ x. p (v x)) xs) ≡ option_map f (find p (map v xs))
seen f p v [] = refl
seen f p v (x ∷ xs) = chosen f v x (p (v x)) _ _ (seen f p v xs)

-- the spelling of a table's entry has a byte
abbrev has_byte : List ℕ × Fixed → Bool
has_byte e = nat_lt 0 (length e.0)

-- a front is no longer than the text
fits : (text front : List ℕ) → starts_with nat_eq text front ≡ true → length front ≤ length text
fits text front e = omega (arith, ap length ((starts_is Decides-eqb text front (starts_with nat_eq text front) refl).0 e), length-append front (drop (length front) text))

-- a mark and the length of its spelling, as they are read from an entry
abbrev measured : List ℕ × Fixed → Fixed × ℕ
measured e = (e.1, length e.0)

abbrev Within : List ℕ → Option (List ℕ × Fixed) → Type 0
Within text o = IfSome (option_map measured o) (λ s. (0 < s.1) × (s.1 ≤ length text))

both : (a b : Bool) → (a && b) ≡ true → (a ≡ true) × (b ≡ true)
both true true e = (refl, refl)
both true false e = absurd cc
both false b e = absurd cc

one : (text : List ℕ) (e : List ℕ × Fixed) (b : Bool) (o : Option (List ℕ × Fixed)) → starts_with nat_eq text e.0 ≡ b → has_byte e ≡ true → Within text o → Within text (cond b (Some e) o)
one text e true o starts has w = (grind (arith, nat_tests), fits text e.0 starts)
one text e false o starts has w = w

front_within : (text : List ℕ) (table : List (List ℕ × Fixed)) → list_all has_byte table ≡ true → Within text (find (λ e. starts_with nat_eq text e.0) table)
front_within text [] all = tt
front_within text (e ∷ es) all =
    let parts = both (has_byte e) (list_all has_byte es) all in
    one text e (starts_with nat_eq text e.0) _ refl parts.0 (front_within text es parts.1)

-- a symbol at the front has a byte, and is no longer than the text
pub symbol_within : (text : List ℕ) → IfSome (symbol_at text) (λ s. (0 < s.1) × (s.1 ≤ length text))
unfolding symbol_at
symbol_within text = front_within text symbols refl

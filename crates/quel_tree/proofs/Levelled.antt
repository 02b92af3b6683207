-- How many levels a spelling asks for, by those that its parts ask for.
use Rattle.std.proofs.Common.{◌≡◌, ℕ, zero, suc, ◌+◌, ◌≤◌, max, List, [], ◌∷◌, ◌++◌, length, refl, sym, ap, ◌∙◌, arith}
use Rattle.tree_words.specs.Codec.{Codec}
use Rattle.tree_words.specs.Words.{both, items, list}
use Rattle.quel_tree.specs.Levels.{HasLevels}

-- a value whose spelling knows no levels
pub fixed : {A : Type 0} (c : Codec A) (a : A) (n : ℕ) → c.Fits a → HasLevels (λ _. c) a 0 n
fixed c a n f = record { enough = omega arith; fits = λ m h. f; same = λ m h. refl }

-- a value that is made of another one, and may ask for some levels by itself
pub made : {A B : Type 0} {inner : ℕ → Codec B} {part : B} {levels n : ℕ} (codec : ℕ → Codec A) (whole : A) (put : List ℕ → List ℕ) (least : ℕ)
    → HasLevels inner part levels n → least ≤ levels
    → ((m : ℕ) → least ≤ m → (inner m).Fits part → (codec m).Fits whole) → ((m : ℕ) → (codec m).write whole ≡ put ((inner m).write part))
    → HasLevels codec whole levels n
made {n = n} codec whole put least has some fits writes = record {
  enough = has.enough;
  fits = λ m h. fits m (omega arith) (has.fits m h);
  same = λ m h. writes m ∙ (ap put (has.same m h) ∙ sym (writes n));
}

above : (P : ℕ → Type 0) (levels : ℕ) → ((m : ℕ) → levels ≤ m → P (suc m)) → (m : ℕ) → 1 + levels ≤ m → P m
above P levels p zero h = absurd (omega arith)
above P levels p (suc m) h = p m (omega arith)

raised : {A : Type 0} {levels n : ℕ} (codec : ℕ → Codec A) (a : A) → HasLevels (λ m. codec (suc m)) a levels n → HasLevels codec a (1 + levels) (suc n)
raised {levels = levels} {n = n} codec a has = record {
  enough = omega (arith, has.enough);
  fits = above (λ m. (codec m).Fits a) levels has.fits;
  same = above (λ m. (codec m).write a ≡ (codec (suc n)).write a) levels has.same;
}

-- a value that is made of another one, which has one level less
pub around : {A B : Type 0} {inner : ℕ → Codec B} {part : B} {levels n : ℕ} (codec : ℕ → Codec A) (whole : A) (put : List ℕ → List ℕ) (least : ℕ)
    → HasLevels inner part levels n → least ≤ levels
    → ((m : ℕ) → least ≤ m → (inner m).Fits part → (codec (suc m)).Fits whole) → ((m : ℕ) → (codec (suc m)).write whole ≡ put ((inner m).write part))
    → HasLevels codec whole (1 + levels) (suc n)
around codec whole put least has some fits writes = raised codec whole (made (λ m. codec (suc m)) whole put least has some fits writes)

-- ---- pairs

pub pair : {A B : Type 0} {c : ℕ → Codec A} {d : ℕ → Codec B} {a : A} {b : B} {k l n : ℕ} → HasLevels c a k n → HasLevels d b l n → HasLevels (λ m. both (c m) (d m)) (a, b) (max k l) n
pair {c = c} {d = d} {a = a} {b = b} {n = n} first second = record {
  enough = omega (arith, first.enough, second.enough);
  fits = λ m h. (first.fits m (omega arith), second.fits m (omega arith));
  same = λ m h. ap (λ bs. bs ++ (d m).write b) (first.same m (omega arith)) ∙ ap (λ bs. (c n).write a ++ bs) (second.same m (omega arith));
}

-- a pair whose first value knows no levels
pub behind : {A B : Type 0} {d : ℕ → Codec B} {b : B} {l n : ℕ} (c : Codec A) (a : A) → c.Fits a → HasLevels d b l n → HasLevels (λ m. both c (d m)) (a, b) l n
behind {d = d} {b = b} c a f has = made (λ m. both c (d m)) (a, b) (λ bs. c.write a ++ bs) 0 has (omega arith) (λ m h g. (f, g)) (λ m. refl)

-- a pair whose second value knows no levels
pub before : {A B : Type 0} {c : ℕ → Codec A} {a : A} {k n : ℕ} (d : Codec B) (b : B) → HasLevels c a k n → d.Fits b → HasLevels (λ m. both (c m) d) (a, b) k n
before {c = c} {a = a} d b has f = made (λ m. both (c m) d) (a, b) (λ bs. bs ++ d.write b) 0 has (omega arith) (λ m h g. (g, f)) (λ m. refl)

-- ---- lists

pub no_items : {A : Type 0} (c : ℕ → Codec A) (n : ℕ) → HasLevels (λ m. items (c m) 0) [] 0 n
no_items c n = record { enough = omega arith; fits = λ m h. tt; same = λ m h. refl }

pub one_more : {A : Type 0} (c : ℕ → Codec A) (x : A) (xs : List A) {k l n : ℕ} → HasLevels c x k n → HasLevels (λ m. items (c m) (length xs)) xs l n
    → HasLevels (λ m. items (c m) (length (x ∷ xs))) (x ∷ xs) (max k l) n
one_more c x xs first rest = made (λ m. items (c m) (length (x ∷ xs))) (x ∷ xs) (λ bs. bs) 0 (pair first rest) (omega arith) (λ m h f. f) (λ m. refl)

pub counted : {A : Type 0} (count : Codec ℕ) (c : ℕ → Codec A) (xs : List A) {l n : ℕ} → count.Fits (length xs) → HasLevels (λ m. items (c m) (length xs)) xs l n
    → HasLevels (λ m. list count (c m)) xs l n
unfolding list
counted count c xs f has = made (λ m. list count (c m)) xs (λ bs. count.write (length xs) ++ bs) 0 has (omega arith) (λ m h g. (f, g)) (λ m. refl)

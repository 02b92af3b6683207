-- Tests that pass together, values that are read, and numbers and names that are read again.
use Rattle.std.proofs.Common.{◌≡◌, refl, sym, ap, ◌∙◌, ℕ, zero, suc, ◌-◌, ◌^◌, ◌<◌, ◌≤◌, ◌==◌, ◌&&◌, nat_lt, Bool, true, false, List, [], ◌∷◌, ◌++◌, length, take, drop, replicate, Option, Some, None, arith, length-append}
use Rattle.std.specs.Prelude.{bytes_eq, if◌then◌else◌}
use Rattle.std.specs.List.{list_all}
use Rattle.std.proofs.lemmas.Bool.Decides.{nat_tests}
use Rattle.std.proofs.lemmas.Option.{same_Some}
use Rattle.std.proofs.lemmas.Slice.Eq.{bytes_eq-Decides}
use Rattle.byteorder.specs.Endian.{little_from, little_bytes}
use Rattle.byteorder.specs.Numbers.{little_number-reads_back}
use Rattle.calculus.specs.Name.{is_name, is_name_byte, starts_name}
use Rattle.calculus.specs.Text.{trimmed, before_trimmed, is_blank}
use Rattle.page_chain.specs.Lists.{◌>>=◌, when}
use Rattle.stored_database.specs.Names.{name_of, name_bytes, is_number32, bytes32}

-- two tests that pass together
pub both : (a b : Bool) → (a && b) ≡ true → (a ≡ true) × (b ≡ true)
both true true h = (refl, refl)
both true false h = cc
both false b h = cc

-- they pass together
pub together : (a b : Bool) → a ≡ true → b ≡ true → (a && b) ≡ true
together a b e f = λ i. e i && f i

-- what was read where a test passes
pub when_some : {A : Type 0} (test : Bool) (x y : A) → when test x ≡ Some y → (test ≡ true) × (x ≡ y)
when_some true x y h = (refl, same_Some x y h)
when_some false x y h = cc

-- something was read first
pub bind_some : {A B : Type 0} (o : Option A) (f : A → Option B) (y : B) → (o >>= f) ≡ Some y → (x : A) × (o ≡ Some x) × (f x ≡ Some y)
bind_some None f y h = cc
bind_some (Some x) f y h = (x, refl, h)

-- what is read where a test passes and it has these bytes
pub strictly : {A : Type 0} (o : Option A) (test : A → Bool) (spell : A → List ℕ) (bytes : List ℕ) (y : A)
    → (o >>= (λ x. when (test x && bytes_eq bytes (spell x)) x)) ≡ Some y → (test y ≡ true) × (bytes ≡ spell y)
strictly {A} o test spell bytes y h =
    let s = bind_some o (λ x. when (test x && bytes_eq bytes (spell x)) x) y h in
    let w = when_some (test s.0 && bytes_eq bytes (spell s.0)) s.0 y s.2 in
    let t = both (test s.0) (bytes_eq bytes (spell s.0)) w.0 in
    (ap test (sym w.1) ∙ t.0, (bytes_eq-Decides bytes (spell s.0)).0 t.1 ∙ ap spell w.1)

-- and it is read from its bytes
pub read_again : {A : Type 0} (o : Option A) (test : A → Bool) (spell : A → List ℕ) (bytes : List ℕ) (y : A) → o ≡ Some y → test y ≡ true → bytes ≡ spell y
    → (o >>= (λ x. when (test x && bytes_eq bytes (spell x)) x)) ≡ Some y
read_again {A} o test spell bytes y h t e =
    ap (λ o. o >>= (λ x. when (test x && bytes_eq bytes (spell x)) x)) h
    ∙ ap (λ b. when b y) (together (test y) (bytes_eq bytes (spell y)) t ((bytes_eq-Decides bytes (spell y)).1 e))

-- numbers that the test calls the same are the same
pub same_number : (m n : ℕ) → (m == n) ≡ true → m ≡ n
same_number m n h = grind (arith, nat_tests)

-- and it calls a number the same as itself
pub number_itself : (n : ℕ) → (n == n) ≡ true
number_itself n = grind (arith, nat_tests)

-- ---- fronts

-- the front of so many items
pub take_front : {A : Type 0} (n : ℕ) (xs ys : List A) → length xs ≡ n → take n (xs ++ ys) ≡ xs
take_front {A} n xs ys h = ap (λ n. take n (xs ++ ys)) (sym h) ∙ go xs
  where
    go : (xs : List A) → take (length xs) (xs ++ ys) ≡ xs
    go [] = refl
    go (x ∷ xs) = ap (λ l. x ∷ l) (go xs)

-- what is behind it
pub drop_front : {A : Type 0} (n : ℕ) (xs ys : List A) → length xs ≡ n → drop n (xs ++ ys) ≡ ys
drop_front {A} n xs ys h = ap (λ n. drop n (xs ++ ys)) (sym h) ∙ go xs
  where
    go : (xs : List A) → drop (length xs) (xs ++ ys) ≡ ys
    go [] = refl
    go (x ∷ xs) = go xs

-- ---- numbers

less_of : (n m : ℕ) → nat_lt n m ≡ true → n < m
less_of n m h = grind (arith, nat_tests)

-- a number of four bytes is read from them
pub number_again : (n : ℕ) (rest : List ℕ) → is_number32 n ≡ true → little_from 0 4 (bytes32 n ++ rest) ≡ n
number_again n rest h = little_number-reads_back 4 n rest (less_of n (256 ^ 4) h)

-- and one of two
pub number16_again : (n : ℕ) (rest : List ℕ) → nat_lt n 65536 ≡ true → little_from 0 2 (little_bytes 2 n ++ rest) ≡ n
number16_again n rest h = little_number-reads_back 2 n rest (less_of n (256 ^ 2) h)

-- ---- names

not_blank : (b : ℕ) → is_name_byte b ≡ true → is_blank b ≡ false
not_blank b h = go (b == 32) refl
  where
    go : (t : Bool) → (b == 32) ≡ t → t ≡ false
    go false e = refl
    go true e = let is : b ≡ 32 = grind (arith, nat_tests) in cc (ap is_name_byte (sym is) ∙ h)

blanks_trimmed : (k : ℕ) → trimmed (replicate k 32) ≡ []
blanks_trimmed zero = refl
blanks_trimmed (suc k) = ap (before_trimmed 32) (blanks_trimmed k)

kept_before : (b : ℕ) (n : List ℕ) → is_name_byte b ≡ true → before_trimmed b n ≡ b ∷ n
kept_before b [] h = ap (λ t. if t then [] else b ∷ []) (not_blank b h)
kept_before b (c ∷ n) h = refl

name_trimmed : (n : List ℕ) (k : ℕ) → list_all is_name_byte n ≡ true → trimmed (n ++ replicate k 32) ≡ n
name_trimmed [] k h = blanks_trimmed k
name_trimmed (b ∷ n) k h =
    let t = both (is_name_byte b) (list_all is_name_byte n) h in
    ap (before_trimmed b) (name_trimmed n k t.1) ∙ kept_before b n t.0

name_parts : (n : List ℕ) → is_name n ≡ true → (length n ≤ 12) × (list_all is_name_byte n ≡ true)
unfolding is_name
name_parts n h = go (starts_name n) refl h
  where
    go : (s : Bool) → starts_name n ≡ s → is_name n ≡ true → (length n ≤ 12) × (list_all is_name_byte n ≡ true)
    go s e h = grind (arith, nat_tests)

-- a name is read from its bytes
pub name_again : (n : List ℕ) → is_name n ≡ true → name_of (name_bytes n) ≡ Some n
unfolding name_of name_bytes
name_again n h =
    let is = name_trimmed n (12 - length n) (name_parts n h).1 in
    ap (λ t. when (is_name t) t) is ∙ ap (λ b. when b n) h

length_replicate : (n : ℕ) → length {A = ℕ} (replicate n 32) ≡ n
length_replicate zero = refl
length_replicate (suc n) = ap suc (length_replicate n)

-- it has twelve of them
pub length_name : (n : List ℕ) → is_name n ≡ true → length (name_bytes n) ≡ 12
unfolding name_bytes
length_name n h = let le = (name_parts n h).0 in omega (arith, length-append n (replicate (12 - length n) 32), length_replicate (12 - length n))

-- An item that is put in its place among those that are there.
use Rattle.std.proofs.Common.{◌≡◌, refl, sym, ap, ◌∙◌, ℕ, suc, nat_eq, Bool, true, false, cond, IsTrue, List, [], ◌∷◌, map, filter, length}
use Rattle.std.specs.List.{list_all, AllByRecursion}
use Rattle.std.specs.Ordering.{is_eq, nat_cmp, ordering_then}
use Rattle.std.specs.FinMap.{nat_cmp-IsAntisymmetric}
use Rattle.std.specs.declared.cmp.Ordering.{Ordering}
use Rattle.std.specs.declared.cmp.Ordering.TheVariants.{Less, Equal, Greater}
use Rattle.std.proofs.lemmas.Bool.Decides.{Decides-eqb}
use Rattle.calculus.specs.declared.query.RelKey.{RelKey}
use Rattle.calculus.specs.Keys.{same_key, key_cmp, numbered_cmp}
use Rattle.calculus.specs.Lists.{has_number, insert_by}
use Rattle.quel_meaning.proofs.InOrder.{insert_as, insert-cons}
use Rattle.plan_laws.proofs.Kept.{both, count}
use Rattle.plan_laws.proofs.Planned.{neither}
use Rattle.plan_laws.proofs.NewNumbers.{of_key}
use Rattle.plan_laws.proofs.NewIndexes.{key_exact, other_way}

-- what each passes then, it passes
pub insert_passes : {X : Type 0} (cmp : X → X → Ordering) (test : X → Bool) (x : X) (xs : List X) → IsTrue (list_all test (insert_by cmp x xs)) → IsTrue (test x)
insert_passes cmp test x [] t = (both (test x) true t).0
insert_passes {X} cmp test x (y ∷ ys) t = go (cmp x y) (ap (list_all test) (sym (insert-cons cmp x y ys (cmp x y) refl)) ∙ t) (insert_passes cmp test x ys)
  where
    go : (o : Ordering) → IsTrue (list_all test (insert_as o x y ys (insert_by cmp x ys))) → (IsTrue (list_all test (insert_by cmp x ys)) → IsTrue (test x)) → IsTrue (test x)
    go Less t later = (both (test x) (list_all test (y ∷ ys)) t).0
    go Equal t later = (both (test x) (list_all test ys) t).0
    go Greater t later = later (both (test y) (list_all test (insert_by cmp x ys)) t).1

-- there is one more, where it is equal to none
pub length_insert : {X : Type 0} (cmp : X → X → Ordering) (x : X) (xs : List X) → AllByRecursion (λ y. is_eq (cmp x y) ≡ false) xs → length (insert_by cmp x xs) ≡ suc (length xs)
length_insert cmp x [] h = refl
length_insert {X} cmp x (y ∷ ys) h = ap length (insert-cons cmp x y ys (cmp x y) refl) ∙ go (cmp x y) h.0 (length_insert cmp x ys h.1)
  where
    go : (o : Ordering) → is_eq o ≡ false → length (insert_by cmp x ys) ≡ suc (length ys) → length (insert_as o x y ys (insert_by cmp x ys)) ≡ suc (suc (length ys))
    go Less e later = refl
    go Equal e later = cc e
    go Greater e later = ap suc later

-- one more passes a test that it passes
pub count_insert : {X : Type 0} (cmp : X → X → Ordering) (test : X → Bool) (x : X) (xs : List X) → AllByRecursion (λ y. is_eq (cmp x y) ≡ false) xs → test x ≡ true
    → count test (insert_by cmp x xs) ≡ suc (count test xs)
count_insert cmp test x [] h e = ap (λ b. length (cond b (x ∷ []) [])) e
count_insert {X} cmp test x (y ∷ ys) h e = ap (count test) (insert-cons cmp x y ys (cmp x y) refl) ∙ go (cmp x y) h.0 (count_insert cmp test x ys h.1 e)
  where
    kept : (b : Bool) → count test (insert_by cmp x ys) ≡ suc (count test ys) → length (cond b (y ∷ filter test (insert_by cmp x ys)) (filter test (insert_by cmp x ys))) ≡ suc (length (cond b (y ∷ filter test ys) (filter test ys)))
    kept true later = ap suc later
    kept false later = later

    go : (o : Ordering) → is_eq o ≡ false → count test (insert_by cmp x ys) ≡ suc (count test ys) → count test (insert_as o x y ys (insert_by cmp x ys)) ≡ suc (count test (y ∷ ys))
    go Less f later = ap (λ b. length (cond b (x ∷ filter test (y ∷ ys)) (filter test (y ∷ ys)))) e
    go Equal f later = cc f
    go Greater f later = kept (test y) later

-- ---- what is equal to none

equal : (o : Ordering) → is_eq o ≡ true → o ≡ Equal
equal Less h = cc h
equal Equal h = refl
equal Greater h = cc h

-- another key isn't equal
pub never_equal : (a b : RelKey) → same_key a b ≡ false → is_eq (key_cmp a b) ≡ false
never_equal a b h = go (is_eq (key_cmp a b)) refl
  where
    go : (t : Bool) → is_eq (key_cmp a b) ≡ t → t ≡ false
    go true e = let same : same_key a b ≡ true = key_exact a b (equal (key_cmp a b) e) in cc (sym same ∙ h)
    go false e = refl

both_tied : (o p : Ordering) → ordering_then o p ≡ Equal → (o ≡ Equal) × (p ≡ Equal)
both_tied Less p h = cc h
both_tied Equal p h = (refl, h)
both_tied Greater p h = cc h

one_apart : {X : Type 0} (number : X → ℕ) (rel : RelKey) (x : X) (p : RelKey × X) → same_key p.0 rel ≡ false → is_eq (numbered_cmp number (rel, x) p) ≡ false
one_apart {X} number rel x p h = go (is_eq (numbered_cmp number (rel, x) p)) refl
  where
    go : (t : Bool) → is_eq (numbered_cmp number (rel, x) p) ≡ t → t ≡ false
    go true e =
        let tied = both_tied (key_cmp rel p.0) (nat_cmp (number x) (number p.1)) (equal (numbered_cmp number (rel, x) p) e) in
        let same : same_key rel p.0 ≡ true = key_exact rel p.0 tied.0 in
        let other : same_key rel p.0 ≡ false = other_way p.0 rel h in
        cc (sym same ∙ other)
    go false e = refl

one_numbered : {X : Type 0} (number : X → ℕ) (rel : RelKey) (x : X) (p : RelKey × X) → nat_eq (number p.1) (number x) ≡ false → is_eq (numbered_cmp number (rel, x) p) ≡ false
one_numbered {X} number rel x p h = go (is_eq (numbered_cmp number (rel, x) p)) refl
  where
    go : (t : Bool) → is_eq (numbered_cmp number (rel, x) p) ≡ t → t ≡ false
    go true e =
        let tied = both_tied (key_cmp rel p.0) (nat_cmp (number x) (number p.1)) (equal (numbered_cmp number (rel, x) p) e) in
        let one : number p.1 ≡ number x = sym (nat_cmp-IsAntisymmetric (number x) (number p.1) tied.1) in
        let same : nat_eq (number p.1) (number x) ≡ true = (Decides-eqb (number p.1) (number x)).1 one in
        cc (sym same ∙ h)
    go false e = refl

-- one whose number is none of its key's isn't equal
pub number_unequal : {X : Type 0} (number : X → ℕ) (rel : RelKey) (x : X) (ps : List (RelKey × X)) → has_number (map number (map (λ p. p.1) (filter (of_key rel) ps))) (number x) ≡ false
    → AllByRecursion (λ p. is_eq (numbered_cmp number (rel, x) p) ≡ false) ps
number_unequal number rel x [] h = tt
number_unequal {X} number rel x (p ∷ ps) h = go (same_key p.0 rel) refl h (number_unequal number rel x ps)
  where
    rest : List (RelKey × X)
    rest = filter (of_key rel) ps

    go : (b : Bool) → same_key p.0 rel ≡ b → has_number (map number (map (λ p. p.1) (cond b (p ∷ rest) rest))) (number x) ≡ false
        → (has_number (map number (map (λ p. p.1) rest)) (number x) ≡ false → AllByRecursion (λ p. is_eq (numbered_cmp number (rel, x) p) ≡ false) ps)
        → AllByRecursion (λ p. is_eq (numbered_cmp number (rel, x) p) ≡ false) (p ∷ ps)
    go true e h later = let parts = neither (nat_eq (number p.1) (number x)) (has_number (map number (map (λ p. p.1) rest)) (number x)) h in (one_numbered number rel x p parts.0, later parts.1)
    go false e h later = (one_apart number rel x p e, later h)

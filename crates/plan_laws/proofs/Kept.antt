-- Tests that pass for each item of a list, once items are taken out or one is put in.
use Rattle.std.proofs.Common.{◌≡◌, refl, ap, ◌∙◌, ℕ, suc, ◌+◌, ◌≤◌, Bool, true, false, ◌&&◌, cond, IsTrue, List, [], ◌∷◌, filter, length, arith}
use Rattle.std.specs.List.{list_all}
use Rattle.std.specs.declared.cmp.Ordering.{Ordering}
use Rattle.std.specs.declared.cmp.Ordering.TheVariants.{Less, Equal, Greater}
use Rattle.calculus.specs.Lists.{insert_by}
use Rattle.quel_meaning.proofs.InOrder.{insert_as, insert-cons}

pub both : (a b : Bool) → IsTrue (a && b) → IsTrue a × IsTrue b
both true true t = (refl, refl)
both true false t = cc
both false b t = cc

pub each : (a b : Bool) → IsTrue a → IsTrue b → IsTrue (a && b)
each a b s t = λ i. s i && t i

-- ---- filtered

pub all_filter : {X : Type 0} (test kept : X → Bool) (xs : List X) → IsTrue (list_all test xs) → IsTrue (list_all test (filter kept xs))
all_filter test kept [] t = refl
all_filter {X} test kept (x ∷ xs) t = go (kept x) (both (test x) (list_all test xs) t) (all_filter test kept xs (both (test x) (list_all test xs) t).1)
  where
    go : (b : Bool) → IsTrue (test x) × IsTrue (list_all test xs) → IsTrue (list_all test (filter kept xs)) → IsTrue (list_all test (cond b (x ∷ filter kept xs) (filter kept xs)))
    go true parts later = each (test x) (list_all test (filter kept xs)) parts.0 later
    go false parts later = later

-- fewer of them pass another test
pub filter_fewer : {X : Type 0} (test kept : X → Bool) (xs : List X) → length (filter test (filter kept xs)) ≤ length (filter test xs)
filter_fewer test kept [] = omega arith
filter_fewer {X} test kept (x ∷ xs) = go (kept x) (test x) refl (filter_fewer test kept xs)
  where
    go : (b c : Bool) → test x ≡ c → length (filter test (filter kept xs)) ≤ length (filter test xs)
        → length (filter test (cond b (x ∷ filter kept xs) (filter kept xs))) ≤ length (cond (test x) (x ∷ filter test xs) (filter test xs))
    go true true e later = rw e (omega (arith, later))
    go true false e later = rw e later
    go false true e later = rw e (omega (arith, later))
    go false false e later = rw e later

-- ---- put in

pub all_insert : {X : Type 0} (cmp : X → X → Ordering) (test : X → Bool) (x : X) (xs : List X) → IsTrue (test x) → IsTrue (list_all test xs) → IsTrue (list_all test (insert_by cmp x xs))
all_insert cmp test x [] s t = each (test x) true s refl
all_insert {X} cmp test x (y ∷ ys) s t =
    ap (list_all test) (insert-cons cmp x y ys (cmp x y) refl) ∙ go (cmp x y) (both (test y) (list_all test ys) t) (all_insert cmp test x ys s (both (test y) (list_all test ys) t).1)
  where
    go : (o : Ordering) → IsTrue (test y) × IsTrue (list_all test ys) → IsTrue (list_all test (insert_by cmp x ys)) → IsTrue (list_all test (insert_as o x y ys (insert_by cmp x ys)))
    go Less parts later = each (test x) (test y && list_all test ys) s (each (test y) (list_all test ys) parts.0 parts.1)
    go Equal parts later = each (test x) (list_all test ys) s parts.1
    go Greater parts later = each (test y) (list_all test (insert_by cmp x ys)) parts.0 later

-- how many of them pass a test
abbrev pub count : {X : Type 0} → (X → Bool) → List X → ℕ
count test xs = length (filter test xs)

count-cons : {X : Type 0} (test : X → Bool) (x : X) (xs : List X) (b : Bool) → test x ≡ b → count test (x ∷ xs) ≡ length (cond b (x ∷ filter test xs) (filter test xs))
count-cons test x xs b e = ap (λ b. length (cond b (x ∷ filter test xs) (filter test xs))) e

count_more : {X : Type 0} (test : X → Bool) (x : X) (xs : List X) → count test (x ∷ xs) ≤ suc (count test xs)
count_more {X} test x xs = go (test x) refl
  where
    go : (b : Bool) → test x ≡ b → count test (x ∷ xs) ≤ suc (count test xs)
    go true e = omega (arith, count-cons test x xs true e)
    go false e = omega (arith, count-cons test x xs false e)

count_no_less : {X : Type 0} (test : X → Bool) (x : X) (xs : List X) → count test xs ≤ count test (x ∷ xs)
count_no_less {X} test x xs = go (test x) refl
  where
    go : (b : Bool) → test x ≡ b → count test xs ≤ count test (x ∷ xs)
    go true e = omega (arith, count-cons test x xs true e)
    go false e = omega (arith, count-cons test x xs false e)

count_both : {X : Type 0} (test : X → Bool) (y : X) (more ys : List X) (n : ℕ) → count test more ≤ n + count test ys → count test (y ∷ more) ≤ n + count test (y ∷ ys)
count_both {X} test y more ys n h = go (test y) refl
  where
    go : (b : Bool) → test y ≡ b → count test (y ∷ more) ≤ n + count test (y ∷ ys)
    go true e = omega (arith, h, count-cons test y more true e, count-cons test y ys true e)
    go false e = omega (arith, h, count-cons test y more false e, count-cons test y ys false e)

-- at most one more of them passes a test
pub insert_one_more : {X : Type 0} (cmp : X → X → Ordering) (test : X → Bool) (x : X) (xs : List X) → count test (insert_by cmp x xs) ≤ 1 + count test xs
insert_one_more cmp test x [] = omega (arith, count_more test x [])
insert_one_more {X} cmp test x (y ∷ ys) =
    let step : count test (insert_by cmp x (y ∷ ys)) ≡ count test (insert_as (cmp x y) x y ys (insert_by cmp x ys)) = ap (count test) (insert-cons cmp x y ys (cmp x y) refl) in
    let bound = go (insert_one_more cmp test x ys) (cmp x y) in
    omega (arith, step, bound)
  where
    go : count test (insert_by cmp x ys) ≤ 1 + count test ys → (o : Ordering) → count test (insert_as o x y ys (insert_by cmp x ys)) ≤ 1 + count test (y ∷ ys)
    go later Less = omega (arith, count_more test x (y ∷ ys))
    go later Equal = omega (arith, count_more test x ys, count_no_less test y ys)
    go later Greater = count_both test y (insert_by cmp x ys) ys 1 later

-- none more, where the one that is put in doesn't pass it
pub insert_none_more : {X : Type 0} (cmp : X → X → Ordering) (test : X → Bool) (x : X) (xs : List X) → test x ≡ false → count test (insert_by cmp x xs) ≤ count test xs
insert_none_more cmp test x [] e = omega (arith, count-cons test x [] false e)
insert_none_more {X} cmp test x (y ∷ ys) e =
    let step : count test (insert_by cmp x (y ∷ ys)) ≡ count test (insert_as (cmp x y) x y ys (insert_by cmp x ys)) = ap (count test) (insert-cons cmp x y ys (cmp x y) refl) in
    let bound = go (insert_none_more cmp test x ys e) (cmp x y) in
    omega (arith, step, bound)
  where
    go : count test (insert_by cmp x ys) ≤ count test ys → (o : Ordering) → count test (insert_as o x y ys (insert_by cmp x ys)) ≤ count test (y ∷ ys)
    go later Less = omega (arith, count-cons test x (y ∷ ys) false e)
    go later Equal = omega (arith, count-cons test x ys false e, count_no_less test y ys)
    go later Greater = let bound = count_both test y (insert_by cmp x ys) ys 0 (omega (arith, later)) in omega (arith, bound)

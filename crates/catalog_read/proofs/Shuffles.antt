-- Lists with the same items in another order.
use Rattle.std.proofs.Common.{◌≡◌, refl, sym, ap, ◌∙◌, subst, suc, Bool, true, false, cond, List, [], ◌∷◌, ◌++◌, map, filter, length, append-nil}
use Rattle.std.specs.List.{AllByRecursion}
use Rattle.plan_laws.proofs.Kept.{count}
use Rattle.catalog_read.specs.Applying.{Shuffled, nothing, beside, swapped, twice}

pub same : {X : Type 0} (xs : List X) → Shuffled xs xs
same [] = nothing
same (x ∷ xs) = beside x (same xs)

pub back : {X : Type 0} (xs ys : List X) → Shuffled xs ys → Shuffled ys xs
back xs ys nothing = nothing
back xs ys (beside x s) = beside x (back _ _ s)
back xs ys (swapped x y zs) = swapped y x zs
back xs ys (twice s t) = twice (back _ _ t) (back _ _ s)

-- behind the same items
pub behind_same : {X : Type 0} (zs xs ys : List X) → Shuffled xs ys → Shuffled (zs ++ xs) (zs ++ ys)
behind_same [] xs ys s = s
behind_same (z ∷ zs) xs ys s = beside z (behind_same zs xs ys s)

-- before the same items
pub before_same : {X : Type 0} (zs xs ys : List X) → Shuffled xs ys → Shuffled (xs ++ zs) (ys ++ zs)
before_same zs xs ys nothing = same zs
before_same zs xs ys (beside x s) = beside x (before_same zs _ _ s)
before_same zs xs ys (swapped x y more) = swapped x y (more ++ zs)
before_same zs xs ys (twice s t) = twice (before_same zs _ _ s) (before_same zs _ _ t)

-- two lists behind each other
pub both_shuffled : {X : Type 0} (vs ws xs ys : List X) → Shuffled vs ws → Shuffled xs ys → Shuffled (vs ++ xs) (ws ++ ys)
both_shuffled vs ws xs ys s t = twice (before_same xs vs ws s) (behind_same ws xs ys t)

-- an item in the middle comes first
pub to_front : {X : Type 0} (xs : List X) (x : X) (ys : List X) → Shuffled (xs ++ x ∷ ys) (x ∷ (xs ++ ys))
to_front [] x ys = same (x ∷ ys)
to_front (z ∷ xs) x ys = twice (beside z (to_front xs x ys)) (swapped z x (xs ++ ys))

-- the one list may come first or the other
pub turned : {X : Type 0} (xs ys : List X) → Shuffled (xs ++ ys) (ys ++ xs)
turned [] ys = subst (Shuffled ys) (sym (append-nil ys)) (same ys)
turned (x ∷ xs) ys = twice (beside x (turned xs ys)) (back (ys ++ x ∷ xs) (x ∷ (ys ++ xs)) (to_front ys x xs))

-- mapped
pub mapped : {X Y : Type 0} (f : X → Y) (xs ys : List X) → Shuffled xs ys → Shuffled (map f xs) (map f ys)
mapped f xs ys nothing = nothing
mapped f xs ys (beside x s) = beside (f x) (mapped f _ _ s)
mapped f xs ys (swapped x y more) = swapped (f x) (f y) (map f more)
mapped f xs ys (twice s t) = twice (mapped f _ _ s) (mapped f _ _ t)

pub length_same : {X : Type 0} (xs ys : List X) → Shuffled xs ys → length xs ≡ length ys
length_same xs ys nothing = refl
length_same xs ys (beside x s) = ap suc (length_same _ _ s)
length_same xs ys (swapped x y more) = refl
length_same xs ys (twice s t) = length_same _ _ s ∙ length_same _ _ t

-- what holds of all holds of all in another order
pub all_shuffled : {X : Type 0} (P : X → Type 0) (xs ys : List X) → Shuffled xs ys → AllByRecursion P xs → AllByRecursion P ys
all_shuffled P xs ys nothing h = tt
all_shuffled P xs ys (beside x s) h = (h.0, all_shuffled P _ _ s h.1)
all_shuffled P xs ys (swapped x y more) h = (h.1.0, (h.0, h.1.1))
all_shuffled P xs ys (twice s t) h = all_shuffled P _ _ t (all_shuffled P _ _ s h)

-- as many pass a test
pub count_same : {X : Type 0} (test : X → Bool) (xs ys : List X) → Shuffled xs ys → count test xs ≡ count test ys
count_same test xs ys nothing = refl
count_same {X} test xs ys (beside x {xs = vs} {ys = ws} s) = go (test x) (count_same test _ _ s)
  where
    go : (b : Bool) → length (filter test vs) ≡ length (filter test ws) → length (cond b (x ∷ filter test vs) (filter test vs)) ≡ length (cond b (x ∷ filter test ws) (filter test ws))
    go true e = ap suc e
    go false e = e
count_same {X} test xs ys (swapped x y more) = go (test x) (test y)
  where
    rest : List X
    rest = filter test more

    go : (b c : Bool) → length (cond b (x ∷ cond c (y ∷ rest) rest) (cond c (y ∷ rest) rest)) ≡ length (cond c (y ∷ cond b (x ∷ rest) rest) (cond b (x ∷ rest) rest))
    go true true = refl
    go true false = refl
    go false true = refl
    go false false = refl
count_same test xs ys (twice s t) = count_same test _ _ s ∙ count_same test _ _ t

-- ---- pairs of items

-- each item stands so to each behind it
abbrev pub Pairwise : {X : Type 0} → (X → X → Type 0) → List X → Type 0
Pairwise R [] = Unit {0}
Pairwise R (x ∷ xs) = AllByRecursion (R x) xs × Pairwise R xs

-- so they stand in any order, where it can be turned round
pub pairwise_shuffled : {X : Type 0} (R : X → X → Type 0) → ((x y : X) → R x y → R y x) → (xs ys : List X) → Shuffled xs ys → Pairwise R xs → Pairwise R ys
pairwise_shuffled R turn xs ys nothing h = tt
pairwise_shuffled R turn xs ys (beside x s) h = (all_shuffled (R x) _ _ s h.0, pairwise_shuffled R turn _ _ s h.1)
pairwise_shuffled R turn xs ys (swapped x y more) h = ((turn x y h.0.0, h.1.0), (h.0.1, h.1.1))
pairwise_shuffled R turn xs ys (twice s t) h = pairwise_shuffled R turn _ _ t (pairwise_shuffled R turn _ _ s h)

-- Lists without some of their items.
use Rattle.std.proofs.Common.{◌≡◌, ◌⊎◌, inl, inr, refl, sym, ap, ◌∙◌, subst, ◌≤◌, Bool, true, false, ◌||◌, not, cond, IsTrue, List, [], ◌∷◌, ◌++◌, map, filter, length, arith}
use Rattle.std.specs.List.{list_all, list_any, AllByRecursion}
use Rattle.std.specs.List.Sorted.{IsStrictlySortedBy}
use Rattle.std.specs.declared.cmp.Ordering.{Ordering}
use Rattle.std.specs.declared.cmp.Ordering.TheVariants.{Less}
use Rattle.std.proofs.lemmas.Map.Keys.{sorted_head, sorted_tail}
use Rattle.calculus.specs.Lists.{differ_by}
use Rattle.plan_laws.proofs.Kept.{both, each}

-- the first list is the second without some of its items
abbrev pub IsPart : {X : Type 0} → List X → List X → Type 0
IsPart [] ys = Unit {0}
IsPart (x ∷ xs) [] = ⊥
IsPart (x ∷ xs) (y ∷ ys) = ((x ≡ y) × IsPart xs ys) ⊎ IsPart (x ∷ xs) ys

part_skip : {X : Type 0} (xs ys : List X) (y : X) → IsPart xs ys → IsPart xs (y ∷ ys)
part_skip [] ys y h = tt
part_skip (x ∷ xs) ys y h = inr h

pub part_filter : {X : Type 0} (kept : X → Bool) (xs : List X) → IsPart (filter kept xs) xs
part_filter kept [] = tt
part_filter {X} kept (x ∷ xs) = go (kept x) (part_filter kept xs)
  where
    go : (b : Bool) → IsPart (filter kept xs) xs → IsPart (cond b (x ∷ filter kept xs) (filter kept xs)) (x ∷ xs)
    go true h = inl (refl, h)
    go false h = part_skip (filter kept xs) xs x h

pub part_map : {X Y : Type 0} (f : X → Y) (xs ys : List X) → IsPart xs ys → IsPart (map f xs) (map f ys)
part_map f [] ys h = tt
part_map f (x ∷ xs) [] h = absurd h
part_map f (x ∷ xs) (y ∷ ys) (inl h) = inl (ap f h.0, part_map f xs ys h.1)
part_map f (x ∷ xs) (y ∷ ys) (inr h) = inr (part_map f (x ∷ xs) ys h)

part_behind : {X : Type 0} (xs front ys : List X) → IsPart xs ys → IsPart xs (front ++ ys)
part_behind xs [] ys h = h
part_behind xs (y ∷ front) ys h = part_skip xs (front ++ ys) y (part_behind xs front ys h)

pub part_append : {X : Type 0} (xs ys : List X) (us vs : List X) → IsPart xs ys → IsPart us vs → IsPart (xs ++ us) (ys ++ vs)
part_append [] ys us vs h k = part_behind us ys vs k
part_append (x ∷ xs) [] us vs h k = absurd h
part_append (x ∷ xs) (y ∷ ys) us vs (inl h) k = inl (h.0, part_append xs ys us vs h.1 k)
part_append (x ∷ xs) (y ∷ ys) us vs (inr h) k = inr (part_append (x ∷ xs) ys us vs h k)

-- ---- what holds of the whole holds of a part

pub part_all : {X : Type 0} (test : X → Bool) (xs ys : List X) → IsPart xs ys → IsTrue (list_all test ys) → IsTrue (list_all test xs)
part_all test [] ys h t = refl
part_all test (x ∷ xs) [] h t = absurd h
part_all test (x ∷ xs) (y ∷ ys) (inl h) t =
    let parts = both (test y) (list_all test ys) t in
    each (test x) (list_all test xs) (ap test h.0 ∙ parts.0) (part_all test xs ys h.1 parts.1)
part_all test (x ∷ xs) (y ∷ ys) (inr h) t = part_all test (x ∷ xs) ys h (both (test y) (list_all test ys) t).1

pub part_each : {X : Type 0} (P : X → Type 0) (xs ys : List X) → IsPart xs ys → AllByRecursion P ys → AllByRecursion P xs
part_each P [] ys h t = tt
part_each P (x ∷ xs) [] h t = absurd h
part_each P (x ∷ xs) (y ∷ ys) (inl h) t = (subst P (sym h.0) t.0, part_each P xs ys h.1 t.1)
part_each P (x ∷ xs) (y ∷ ys) (inr h) t = part_each P (x ∷ xs) ys h t.1

pub part_shorter : {X : Type 0} (xs ys : List X) → IsPart xs ys → length xs ≤ length ys
part_shorter [] ys h = omega arith
part_shorter (x ∷ xs) [] h = absurd h
part_shorter (x ∷ xs) (y ∷ ys) (inl h) = let less = part_shorter xs ys h.1 in omega (arith, less)
part_shorter (x ∷ xs) (y ∷ ys) (inr h) = let less = part_shorter (x ∷ xs) ys h in omega (arith, less)

part_none : {X : Type 0} (test : X → Bool) (xs ys : List X) → IsPart xs ys → IsTrue (not (list_any test ys)) → IsTrue (not (list_any test xs))
part_none test [] ys h t = refl
part_none test (x ∷ xs) [] h t = absurd h
part_none test (x ∷ xs) (y ∷ ys) (inl h) t =
    let parts = apart (test y) (list_any test ys) t in
    joined (test x) (list_any test xs) (ap (λ y. not (test y)) h.0 ∙ parts.0) (part_none test xs ys h.1 parts.1)
  where
    apart : (a b : Bool) → IsTrue (not (a || b)) → IsTrue (not a) × IsTrue (not b)
    apart true b t = cc t
    apart false b t = (refl, t)

    joined : (a b : Bool) → IsTrue (not a) → IsTrue (not b) → IsTrue (not (a || b))
    joined true b s t = cc s
    joined false b s t = t
part_none test (x ∷ xs) (y ∷ ys) (inr h) t = part_none test (x ∷ xs) ys h (later (test y) (list_any test ys) t)
  where
    later : (a b : Bool) → IsTrue (not (a || b)) → IsTrue (not b)
    later true b t = cc t
    later false b t = t

pub part_differs : {X : Type 0} (same : X → X → Bool) (xs ys : List X) → IsPart xs ys → IsTrue (differ_by same ys) → IsTrue (differ_by same xs)
part_differs same [] ys h t = refl
part_differs same (x ∷ xs) [] h t = absurd h
part_differs same (x ∷ xs) (y ∷ ys) (inl h) t =
    let parts = both (not (list_any (same y) ys)) (differ_by same ys) t in
    each (not (list_any (same x) xs)) (differ_by same xs) (part_none (same x) xs ys h.1 (subst (λ y. IsTrue (not (list_any (same y) ys))) (sym h.0) parts.0)) (part_differs same xs ys h.1 parts.1)
part_differs same (x ∷ xs) (y ∷ ys) (inr h) t = part_differs same (x ∷ xs) ys h (both (not (list_any (same y) ys)) (differ_by same ys) t).1

sorted-cons : {X : Type 0} (cmp : X → X → Ordering) (x : X) (xs : List X) → AllByRecursion (λ y. cmp x y ≡ Less) xs → IsStrictlySortedBy cmp xs → IsStrictlySortedBy cmp (x ∷ xs)
unfolding IsStrictlySortedBy
sorted-cons cmp x xs h s = (h, s)

sorted-nil : {X : Type 0} (cmp : X → X → Ordering) → IsStrictlySortedBy cmp []
unfolding IsStrictlySortedBy
sorted-nil cmp = tt

pub part_sorted : {X : Type 0} (cmp : X → X → Ordering) (xs ys : List X) → IsPart xs ys → IsStrictlySortedBy cmp ys → IsStrictlySortedBy cmp xs
part_sorted cmp [] ys h s = sorted-nil cmp
part_sorted cmp (x ∷ xs) [] h s = absurd h
part_sorted cmp (x ∷ xs) (y ∷ ys) (inl h) s =
    sorted-cons cmp x xs (part_each (λ z. cmp x z ≡ Less) xs ys h.1 (subst (λ y. AllByRecursion (λ z. cmp y z ≡ Less) ys) (sym h.0) (sorted_head cmp y ys s)))
    (part_sorted cmp xs ys h.1 (sorted_tail cmp y ys s))
part_sorted cmp (x ∷ xs) (y ∷ ys) (inr h) s = part_sorted cmp (x ∷ xs) ys h (sorted_tail cmp y ys s)

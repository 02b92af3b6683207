-- What holds of each item of a list that is made of another one, and how long it is.
use Rattle.std.specs.Prelude.{◌≡◌, suc, ◌*◌, ◌≤◌, Bool, true, false, cond, not, List, [], ◌∷◌, length, filter, filter_map, flat_map, Option, Some, None, IfSome}
use Rattle.std.specs.List.{cons_option}
use Rattle.std.specs.declared.cmp.Ordering.{Ordering}
use Rattle.std.specs.declared.cmp.Ordering.TheVariants.{Less, Equal, Greater}
use Rattle.std.proofs.Common.{refl, sym, subst, arith}
use Rattle.std.proofs.Math.ListN.{length-append}
use Rattle.calculus.specs.Lists.{insert_by, is_any}
use Rattle.calculus.specs.Rows.{Row, put, set_of}
use Rattle.calculus.specs.Value.{row_cmp}
use Rattle.calculus.proofs.Sets.{put-cons}
use Rattle.quel_meaning.proofs.Each.{Each}
use Rattle.quel_meaning.proofs.InOrder.{insert_as, insert-cons}

pub no_items : {X : Type 0} (xs : List X) → not (is_any xs) ≡ true → length xs ≤ 0
no_items [] h = omega arith
no_items (x ∷ xs) h = absurd (cc h)

-- ---- what gives some items

pub in_filter_map : {X Y : Type 0} (P : X → Type 0) (Q : Y → Type 0) (f : X → Option Y) → ((x : X) → P x → IfSome (f x) Q) → (xs : List X) → Each P xs → Each Q (filter_map f xs)
in_filter_map P Q f g [] h = tt
in_filter_map {X} {Y} P Q f g (x ∷ xs) h = go (f x) (g x h.0) (in_filter_map P Q f g xs h.1)
  where
    go : (o : Option Y) → IfSome o Q → Each Q (filter_map f xs) → Each Q (cons_option o (filter_map f xs))
    go None q later = later
    go (Some y) q later = (q, later)

pub filter_map_short : {X Y : Type 0} (f : X → Option Y) (xs : List X) → length (filter_map f xs) ≤ length xs
filter_map_short f [] = omega arith
filter_map_short {X} {Y} f (x ∷ xs) = go (f x) (filter_map_short f xs)
  where
    go : (o : Option Y) → length (filter_map f xs) ≤ length xs → length (cons_option o (filter_map f xs)) ≤ suc (length xs)
    go None h = omega (arith, h)
    go (Some y) h = omega (arith, h)

pub filter_short : {X : Type 0} (p : X → Bool) (xs : List X) → length (filter p xs) ≤ length xs
filter_short p [] = omega arith
filter_short p (x ∷ xs) = go (p x) (filter_short p xs)
  where
    go : (b : Bool) → length (filter p xs) ≤ length xs → length (cond b (x ∷ filter p xs) (filter p xs)) ≤ suc (length xs)
    go true h = omega (arith, h)
    go false h = omega (arith, h)

pub flat_map_short : {X Y : Type 0} (f : X → List Y) (xs : List X) → Each (λ x. length (f x) ≤ 49) xs → length (flat_map f xs) ≤ 49 * length xs
flat_map_short f [] h = omega arith
flat_map_short f (x ∷ xs) h =
    let one = h.0 in
    let later = flat_map_short f xs h.1 in
    let joined = length-append (f x) (flat_map f xs) in
    omega (arith, one, later, joined)

-- ---- sorting in

pub in_insert : {X : Type 0} (P : X → Type 0) (cmp : X → X → Ordering) (x : X) (ys : List X) → P x → Each P ys → Each P (insert_by cmp x ys)
in_insert P cmp x [] p h = (p, tt)
in_insert {X} P cmp x (y ∷ ys) p h = subst (Each P) (sym (insert-cons cmp x y ys (cmp x y) refl)) (go (cmp x y) (in_insert P cmp x ys p h.1))
  where
    go : (o : Ordering) → Each P (insert_by cmp x ys) → Each P (insert_as o x y ys (insert_by cmp x ys))
    go Less later = (p, h)
    go Equal later = (p, h.1)
    go Greater later = (h.0, later)

pub insert_short : {X : Type 0} (cmp : X → X → Ordering) (x : X) (ys : List X) → length (insert_by cmp x ys) ≤ suc (length ys)
insert_short cmp x [] = omega arith
insert_short {X} cmp x (y ∷ ys) =
    subst (λ (zs : List X). length zs ≤ suc (suc (length ys))) (sym (insert-cons cmp x y ys (cmp x y) refl)) (go (cmp x y) (insert_short cmp x ys))
  where
    go : (o : Ordering) → length (insert_by cmp x ys) ≤ suc (length ys) → length (insert_as o x y ys (insert_by cmp x ys)) ≤ suc (suc (length ys))
    go Less h = omega arith
    go Equal h = omega arith
    go Greater h = omega (arith, h)

-- ---- sets

-- the row put in front of others, by its order to the first of them, where `more` is the rest with the row put in
abbrev put_as : Ordering → Row → Row → List Row → List Row → List Row
put_as Less row first rest more = row ∷ first ∷ rest
put_as Equal row first rest more = first ∷ rest
put_as Greater row first rest more = first ∷ more

in_put : (P : Row → Type 0) (row : Row) (rows : List Row) → P row → Each P rows → Each P (put row rows)
in_put P row [] p h = (p, tt)
in_put P row (first ∷ rest) p h = subst (Each P) (sym (put-cons row first rest (row_cmp row first) refl)) (go (row_cmp row first) (in_put P row rest p h.1))
  where
    go : (o : Ordering) → Each P (put row rest) → Each P (put_as o row first rest (put row rest))
    go Less later = (p, h)
    go Equal later = h
    go Greater later = (h.0, later)

pub in_set : (P : Row → Type 0) (rows : List Row) → Each P rows → Each P (set_of rows)
in_set P [] h = tt
in_set P (row ∷ rows) h = in_put P row (set_of rows) h.0 (in_set P rows h.1)

put_short : (row : Row) (rows : List Row) → length (put row rows) ≤ suc (length rows)
put_short row [] = omega arith
put_short row (first ∷ rest) =
    subst (λ (rows : List Row). length rows ≤ suc (suc (length rest))) (sym (put-cons row first rest (row_cmp row first) refl)) (go (row_cmp row first) (put_short row rest))
  where
    go : (o : Ordering) → length (put row rest) ≤ suc (length rest) → length (put_as o row first rest (put row rest)) ≤ suc (suc (length rest))
    go Less h = omega arith
    go Equal h = omega arith
    go Greater h = omega (arith, h)

pub set_short : (rows : List Row) → length (set_of rows) ≤ length rows
set_short [] = omega arith
set_short (row ∷ rows) = let one = put_short row (set_of rows) in let later = set_short rows in omega (arith, one, later)

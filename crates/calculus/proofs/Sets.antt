-- What the set of some rows holds, and that two sets with the same rows are one.
use Rattle.std.proofs.Common.{◌≡◌, refl, sym, ap, ◌∙◌, subst, Bool, true, false, ◌||◌, List, [], ◌∷◌, ◌++◌}
use Rattle.std.proofs.lemmas.Cmp.{eq_by_cmp_equiv, tied_itself}
use Rattle.std.proofs.lemmas.List.Folds.{list_any-append}
use Rattle.std.proofs.lemmas.Map.Keys.{sorted_head, sorted_tail}
use Rattle.std.specs.List.{AllByRecursion}
use Rattle.std.specs.List.Sorted.{IsStrictlySortedBy}
use Rattle.std.specs.Ordering.{eq_by_cmp, is_eq, ordering_reverse}
use Rattle.std.specs.declared.cmp.Ordering.{Ordering}
use Rattle.std.specs.declared.cmp.Ordering.TheVariants.{Less, Equal, Greater}
use Rattle.calculus.specs.Orders.{row_total, row_exact}
use Rattle.calculus.specs.Rows.{Row, Ascends, has, put, set_of}
use Rattle.calculus.specs.Value.{row_cmp}

-- the two rows are the same
abbrev same : Row → Row → Bool
same = eq_by_cmp row_cmp

pub same_exact : (q r : Row) → same q r ≡ true → q ≡ r
same_exact q r h = row_exact q r (equal (row_cmp q r) h)
  where
    equal : (o : Ordering) → is_eq o ≡ true → o ≡ Equal
    equal Less h = cc h
    equal Equal h = refl
    equal Greater h = cc h

same_itself : (q : Row) → same q q ≡ true
same_itself q = (eq_by_cmp_equiv row_total).refl q

-- every row of the list is greater
abbrev Above : Row → List Row → Type 0
Above row rows = AllByRecursion (λ other. row_cmp row other ≡ Less) rows

-- ---- a row that is put

abbrev put_by : Ordering → Row → Row → List Row → List Row → List Row
put_by Less row first rest more = row ∷ first ∷ rest
put_by Equal row first rest more = first ∷ rest
put_by Greater row first rest more = first ∷ more

pub put-cons : (row first : Row) (rest : List Row) (o : Ordering) → row_cmp row first ≡ o → put row (first ∷ rest) ≡ put_by o row first rest (put row rest)
put-cons row first rest Less e = rw (e, put) refl
put-cons row first rest Equal e = rw (e, put) refl
put-cons row first rest Greater e = rw (e, put) refl

or_same : (b c : Bool) → (b || c) ≡ (b || (b || c))
or_same true c = refl
or_same false c = refl

or_swap : (a b c : Bool) → (a || (b || c)) ≡ (b || (a || c))
or_swap true true c = refl
or_swap true false c = refl
or_swap false b c = refl

has-put_by : (row first : Row) (rest more : List Row) (q : Row) (o : Ordering) → row_cmp row first ≡ o → has more q ≡ (same q row || has rest q)
    → has (put_by o row first rest more) q ≡ (same q row || (same q first || has rest q))
has-put_by row first rest more q Less e ih = refl
has-put_by row first rest more q Equal e ih =
    let one : row ≡ first = row_exact row first e in
    rw one (or_same (same q first) (has rest q))
has-put_by row first rest more q Greater e ih = ap (λ b. same q first || b) ih ∙ or_swap (same q first) (same q row) (has rest q)

-- it is there, and so are those that were
pub has-put : (row : Row) (rows : List Row) (q : Row) → has (put row rows) q ≡ (same q row || has rows q)
has-put row [] q = refl
has-put row (first ∷ rest) q =
    ap (λ rows. has rows q) (put-cons row first rest (row_cmp row first) refl)
    ∙ has-put_by row first rest (put row rest) q (row_cmp row first) refl (has-put row rest q)

pub has-set_of : (rows : List Row) (q : Row) → has (set_of rows) q ≡ has rows q
has-set_of [] q = refl
has-set_of (row ∷ rows) q = has-put row (set_of rows) q ∙ ap (λ b. same q row || b) (has-set_of rows q)

-- ---- sets ascend

above_put : (least row : Row) (rows : List Row) → row_cmp least row ≡ Less → Above least rows → Above least (put row rows)
above_put least row [] below h = (below, tt)
above_put least row (first ∷ rest) below h =
    subst (Above least) (sym (put-cons row first rest (row_cmp row first) refl)) (go (above_put least row rest below h.1) (row_cmp row first))
  where
    go : Above least (put row rest) → (o : Ordering) → Above least (put_by o row first rest (put row rest))
    go more Less = (below, h)
    go more Equal = h
    go more Greater = (h.0, more)

above_later : (row first : Row) (rest : List Row) → row_cmp row first ≡ Less → Above first rest → Above row rest
above_later row first [] below h = tt
above_later row first (next ∷ rest) below h = (row_total.trans row first next below h.0, above_later row first rest below h.1)

less_from_greater : (row other : Row) → row_cmp row other ≡ Greater → row_cmp other row ≡ Less
less_from_greater row other e = row_total.antisymm other row ∙ ap ordering_reverse e

pub Ascends-cons : (row : Row) (rows : List Row) → Above row rows → Ascends rows → Ascends (row ∷ rows)
unfolding IsStrictlySortedBy
Ascends-cons row rows above h = (above, h)

pub Ascends-nil : Ascends []
unfolding IsStrictlySortedBy
Ascends-nil = tt

pub Ascends-put : (row : Row) (rows : List Row) → Ascends rows → Ascends (put row rows)
Ascends-put row [] h = Ascends-cons row [] tt h
Ascends-put row (first ∷ rest) h =
    subst Ascends (sym (put-cons row first rest (row_cmp row first) refl))
    (go (Ascends-put row rest (sorted_tail row_cmp first rest h)) (row_cmp row first) refl)
  where
    above : Above first rest
    above = sorted_head row_cmp first rest h

    go : Ascends (put row rest) → (o : Ordering) → row_cmp row first ≡ o → Ascends (put_by o row first rest (put row rest))
    go more Less e = Ascends-cons row (first ∷ rest) (e, above_later row first rest e above) h
    go more Equal e = h
    go more Greater e = Ascends-cons first (put row rest) (above_put first row rest (less_from_greater row first e) above) more

pub Ascends-set_of : (rows : List Row) → Ascends (set_of rows)
Ascends-set_of [] = Ascends-nil
Ascends-set_of (row ∷ rows) = Ascends-put row (set_of rows) (Ascends-set_of rows)

-- ---- two sets with the same rows are one

above_has : (least : Row) (rows : List Row) (q : Row) → Above least rows → has rows q ≡ true → row_cmp least q ≡ Less
above_has least [] q h there = cc there
above_has least (first ∷ rest) q h there = go (above_has least rest q h.1) (same q first) refl there
  where
    go : (has rest q ≡ true → row_cmp least q ≡ Less) → (b : Bool) → same q first ≡ b → (b || has rest q) ≡ true → row_cmp least q ≡ Less
    go more true e there = rw (same_exact q first e) h.0
    go more false e there = more there

above_itself : (row : Row) (rows : List Row) → Above row rows → has rows row ≡ false
above_itself row rows h = go (has rows row) refl
  where
    go : (b : Bool) → has rows row ≡ b → b ≡ false
    go true e = cc (sym (above_has row rows row h e) ∙ tied_itself row_total row)
    go false e = refl

first_same : (x y : Row) (xs ys : List Row) → Above x xs → Above y ys → has (y ∷ ys) x ≡ true → has (x ∷ xs) y ≡ true → x ≡ y
first_same x y xs ys above_x above_y x_there y_there = go (same x y) refl (same y x) refl
  where
    rest : (b c : Bool) → (b || c) ≡ true → b ≡ false → c ≡ true
    rest true c h e = cc e
    rest false c h e = h

    go : (b : Bool) → same x y ≡ b → (c : Bool) → same y x ≡ c → x ≡ y
    go true e c f = same_exact x y e
    go false e true f = sym (same_exact y x f)
    go false e false f =
        let y_below : row_cmp y x ≡ Less = above_has y ys x above_y (rest (same x y) (has ys x) x_there e) in
        let x_below : row_cmp x y ≡ Less = above_has x xs y above_x (rest (same y x) (has xs y) y_there f) in
        cc (sym x_below ∙ row_total.antisymm x y ∙ ap ordering_reverse y_below)

pub same_set : (xs ys : List Row) → Ascends xs → Ascends ys → ((q : Row) → has xs q ≡ has ys q) → xs ≡ ys
same_set [] [] a b h = refl
same_set [] (y ∷ ys) a b h = cc (h y ∙ ap (λ b. b || has ys y) (same_itself y))
same_set (x ∷ xs) [] a b h = cc (sym (h x) ∙ ap (λ b. b || has xs x) (same_itself x))
same_set (x ∷ xs) (y ∷ ys) a b h =
    let one : x ≡ y = first_same x y xs ys above_x above_y (sym (h x) ∙ itself x xs) (h y ∙ itself y ys) in
    subst (λ z. x ∷ xs ≡ z ∷ ys) one
    (ap (λ rows. x ∷ rows) (same_set xs ys (sorted_tail row_cmp x xs a) (sorted_tail row_cmp y ys b)
    (others (subst (λ z. Above z ys) (sym one) above_y) (subst (λ z. (q : Row) → has (x ∷ xs) q ≡ has (z ∷ ys) q) (sym one) h))))
  where
    above_x : Above x xs
    above_x = sorted_head row_cmp x xs a

    above_y : Above y ys
    above_y = sorted_head row_cmp y ys b

    itself : (z : Row) (zs : List Row) → has (z ∷ zs) z ≡ true
    itself z zs = ap (λ b. b || has zs z) (same_itself z)

    drop_first : (b : Bool) (c d : Bool) → (b || c) ≡ (b || d) → b ≡ false → c ≡ d
    drop_first true c d h e = cc e
    drop_first false c d h e = h

    others : Above x ys → ((q : Row) → has (x ∷ xs) q ≡ has (x ∷ ys) q) → (q : Row) → has xs q ≡ has ys q
    others above all q = go (same q x) refl
      where
        go : (b : Bool) → same q x ≡ b → has xs q ≡ has ys q
        go true e = rw (same_exact q x e) (above_itself x xs above_x ∙ sym (above_itself x ys above))
        go false e = drop_first (same q x) (has xs q) (has ys q) (all q) e

-- ---- rows that are put one by one

or_turn : (a b : Bool) → (a || (b || false)) ≡ (b || a)
or_turn true true = refl
or_turn true false = refl
or_turn false true = refl
or_turn false false = refl

pub set_of-push : (rows : List Row) (row : Row) → set_of (rows ++ row ∷ []) ≡ put row (set_of rows)
set_of-push rows row =
    same_set (set_of (rows ++ row ∷ [])) (put row (set_of rows)) (Ascends-set_of (rows ++ row ∷ [])) (Ascends-put row (set_of rows) (Ascends-set_of rows))
    (λ q. has-set_of (rows ++ row ∷ []) q ∙ list_any-append (same q) rows (row ∷ []) ∙ or_turn (has rows q) (same q row)
    ∙ ap (λ b. same q row || b) (sym (has-set_of rows q)) ∙ sym (has-put row (set_of rows) q))

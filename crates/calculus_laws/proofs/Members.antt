-- What stands in lists that are filtered, mapped and chosen from.
use Rattle.std.proofs.Common.{◌≡◌, ◌⊎◌, inl, inr, refl, sym, ap, ◌∙◌, subst, Bool, true, false, ◌||◌, List, [], ◌∷◌, ◌++◌, map, cond, Option, Some, None}
use Rattle.std.specs.List.{filter, filter_map, cons_option, flat_map, list_any}
use Rattle.std.proofs.lemmas.Cmp.{eq_by_cmp_equiv}
use Rattle.calculus.specs.Orders.{row_total}
use Rattle.calculus.specs.Value.{row_cmp}
use Rattle.calculus.specs.Rows.{Row, has, set_of}
use Rattle.calculus.specs.Term.{Env}
use Rattle.calculus.specs.Assignments.{choices}
use Rattle.std.specs.Ordering.{eq_by_cmp}
use Rattle.calculus.proofs.Sets.{same_exact, has-set_of}

-- the item is one of these
abbrev pub In : {X : Type 0} → X → List X → Type 0
In x [] = ⊥
In x (y ∷ ys) = (y ≡ x) ⊎ In x ys

-- each of the first is one of the second
abbrev pub Within : {X : Type 0} → List X → List X → Type 0
Within {X} xs ys = (x : X) → In x xs → In x ys

-- ---- items that pass a test

pub any-In : {X : Type 0} (p : X → Bool) (xs : List X) → list_any p xs ≡ true → (x : X) × In x xs × (p x ≡ true)
any-In p [] h = cc h
any-In {X} p (first ∷ xs) h = go (λ k. let (x, inside, e) = any-In p xs k in (x, inr inside, e)) (p first) refl h
  where
    go : (list_any p xs ≡ true → (x : X) × In x (first ∷ xs) × (p x ≡ true)) → (b : Bool) → p first ≡ b → (b || list_any p xs) ≡ true
        → (x : X) × In x (first ∷ xs) × (p x ≡ true)
    go later true e h = (first, inl refl, e)
    go later false e h = later h

or_true : (b : Bool) → (b || true) ≡ true
or_true true = refl
or_true false = refl

pub In-any : {X : Type 0} (p : X → Bool) (xs : List X) (x : X) → In x xs → p x ≡ true → list_any p xs ≡ true
In-any p [] x h k = absurd h
In-any p (first ∷ xs) x (inl same) k = ap (λ b. b || list_any p xs) (ap p same ∙ k)
In-any p (first ∷ xs) x (inr h) k = ap (λ b. p first || b) (In-any p xs x h k) ∙ or_true (p first)

-- ---- rows that a set has

pub has-In : (rows : List Row) (row : Row) → has rows row ≡ true → In row rows
has-In rows row h = let (other, inside, same) = any-In (eq_by_cmp row_cmp row) rows h in subst (λ r. In r rows) (sym (same_exact row other same)) inside

pub In-has : (rows : List Row) (row : Row) → In row rows → has rows row ≡ true
In-has rows row h = In-any (eq_by_cmp row_cmp row) rows row h ((eq_by_cmp_equiv row_total).refl row)

pub set_of-In : (rows : List Row) (row : Row) → has (set_of rows) row ≡ true → In row rows
set_of-In rows row h = has-In rows row (sym (has-set_of rows row) ∙ h)

pub In-set_of : (rows : List Row) (row : Row) → In row rows → has (set_of rows) row ≡ true
In-set_of rows row h = has-set_of rows row ∙ In-has rows row h

-- ---- filters

pub In-filter : {X : Type 0} (p : X → Bool) (xs : List X) (x : X) → In x xs → p x ≡ true → In x (filter p xs)
In-filter p [] x h k = absurd h
In-filter p (y ∷ ys) x (inl e) k = rw (ap p e ∙ k) (inl e)
In-filter p (y ∷ ys) x (inr h) k = go (p y) (In-filter p ys x h k)
  where
    go : (b : Bool) → In x (filter p ys) → In x (cond b (y ∷ filter p ys) (filter p ys))
    go true later = inr later
    go false later = later

pub filter-In : {X : Type 0} (p : X → Bool) (xs : List X) (x : X) → In x (filter p xs) → In x xs × (p x ≡ true)
filter-In p [] x h = absurd h
filter-In p (y ∷ ys) x h = go (λ k. let (inside, e) = filter-In p ys x k in (inr inside, e)) (p y) refl h
  where
    here : (In x (filter p ys) → In x (y ∷ ys) × (p x ≡ true)) → p y ≡ true → In x (y ∷ filter p ys) → In x (y ∷ ys) × (p x ≡ true)
    here later e (inl same) = (inl same, ap p (sym same) ∙ e)
    here later e (inr k) = later k

    go : (In x (filter p ys) → In x (y ∷ ys) × (p x ≡ true)) → (b : Bool) → p y ≡ b → In x (cond b (y ∷ filter p ys) (filter p ys)) → In x (y ∷ ys) × (p x ≡ true)
    go later true e k = here later e k
    go later false e k = later k

-- ---- items that a function gives

pub In-filter_map : {X Y : Type 0} (f : X → Option Y) (xs : List X) (x : X) (y : Y) → In x xs → f x ≡ Some y → In y (filter_map f xs)
In-filter_map f [] x y h k = absurd h
In-filter_map f (first ∷ xs) x y (inl e) k = rw (ap f e ∙ k) (inl refl)
In-filter_map {X} {Y} f (first ∷ xs) x y (inr h) k = go (f first) (In-filter_map f xs x y h k)
  where
    go : (o : Option Y) → In y (filter_map f xs) → In y (cons_option o (filter_map f xs))
    go None later = later
    go (Some z) later = inr later

pub filter_map-In : {X Y : Type 0} (f : X → Option Y) (xs : List X) (y : Y) → In y (filter_map f xs) → (x : X) × In x xs × (f x ≡ Some y)
filter_map-In f [] y h = absurd h
filter_map-In {X} {Y} f (first ∷ xs) y h = go (λ k. let (x, inside, e) = filter_map-In f xs y k in (x, inr inside, e)) (f first) refl h
  where
    here : (In y (filter_map f xs) → (x : X) × In x (first ∷ xs) × (f x ≡ Some y)) → (z : Y) → f first ≡ Some z → In y (z ∷ filter_map f xs)
        → (x : X) × In x (first ∷ xs) × (f x ≡ Some y)
    here later z e (inl same) = (first, inl refl, e ∙ ap Some same)
    here later z e (inr k) = later k

    go : (In y (filter_map f xs) → (x : X) × In x (first ∷ xs) × (f x ≡ Some y)) → (o : Option Y) → f first ≡ o → In y (cons_option o (filter_map f xs))
        → (x : X) × In x (first ∷ xs) × (f x ≡ Some y)
    go later None e k = later k
    go later (Some z) e k = here later z e k

-- ---- choices of one row from each list

-- the assignment has one row of each list
abbrev pub Chosen : List (List Row) → Env → Type 0
Chosen [] [] = Unit {0}
Chosen [] (row ∷ e) = ⊥
Chosen (rows ∷ more) [] = ⊥
Chosen (rows ∷ more) (row ∷ e) = In row rows × Chosen more e

pub In-append_left : {X : Type 0} (xs ys : List X) (x : X) → In x xs → In x (xs ++ ys)
In-append_left [] ys x h = absurd h
In-append_left (z ∷ xs) ys x (inl e) = inl e
In-append_left (z ∷ xs) ys x (inr h) = inr (In-append_left xs ys x h)

pub In-append_right : {X : Type 0} (xs ys : List X) (x : X) → In x ys → In x (xs ++ ys)
In-append_right [] ys x h = h
In-append_right (z ∷ xs) ys x h = inr (In-append_right xs ys x h)

pub append-In : {X : Type 0} (xs ys : List X) (x : X) → In x (xs ++ ys) → In x xs ⊎ In x ys
append-In [] ys x h = inr h
append-In (z ∷ xs) ys x (inl e) = inl (inl e)
append-In (z ∷ xs) ys x (inr h) = elim (append-In xs ys x h) [ inl k ↦ inl (inr k) | inr k ↦ inr k ]

In-before : (row : Row) (es : List Env) (e : Env) → In e es → In (row ∷ e) (map (λ e. row ∷ e) es)
In-before row [] e h = absurd h
In-before row (first ∷ es) e (inl same) = inl (ap (λ e. row ∷ e) same)
In-before row (first ∷ es) e (inr h) = inr (In-before row es e h)

before-In : (row : Row) (es : List Env) (e : Env) → In e (map (λ e. row ∷ e) es) → (rest : Env) × In rest es × (row ∷ rest ≡ e)
before-In row [] e h = absurd h
before-In row (first ∷ es) e (inl same) = (first, inl refl, same)
before-In row (first ∷ es) e (inr h) = let (rest, inside, same) = before-In row es e h in (rest, inr inside, same)

In-each : (rows : List Row) (es : List Env) (row : Row) (e : Env) → In row rows → In e es → In (row ∷ e) (flat_map (λ row. map (λ e. row ∷ e) es) rows)
In-each [] es row e h k = absurd h
In-each (first ∷ rows) es row e (inl same) k =
    In-append_left (map (λ e. first ∷ e) es) (flat_map (λ row. map (λ e. row ∷ e) es) rows) (row ∷ e)
    (subst (λ z. In (z ∷ e) (map (λ e. first ∷ e) es)) same (In-before first es e k))
In-each (first ∷ rows) es row e (inr h) k =
    In-append_right (map (λ e. first ∷ e) es) (flat_map (λ row. map (λ e. row ∷ e) es) rows) (row ∷ e) (In-each rows es row e h k)

each-In : (rows : List Row) (es : List Env) (e : Env) → In e (flat_map (λ row. map (λ e. row ∷ e) es) rows)
    → (row : Row) × (rest : Env) × In row rows × In rest es × (row ∷ rest ≡ e)
each-In [] es e h = absurd h
each-In (first ∷ rows) es e h =
    elim (append-In (map (λ e. first ∷ e) es) (flat_map (λ row. map (λ e. row ∷ e) es) rows) e h) [
      | inl k ↦ let (rest, inside, same) = before-In first es e k in (first, rest, inl refl, inside, same)
      | inr k ↦ let (row, rest, there, inside, same) = each-In rows es e k in (row, rest, inr there, inside, same)
    ]

pub choices-Chosen : (lists : List (List Row)) (e : Env) → In e (choices lists) → Chosen lists e
choices-Chosen [] [] h = tt
choices-Chosen [] (row ∷ e) (inl same) = cc same
choices-Chosen [] (row ∷ e) (inr h) = h
choices-Chosen (rows ∷ more) e h =
    let (row, rest, there, inside, same) = each-In rows (choices more) e h in
    subst (Chosen (rows ∷ more)) same (there, choices-Chosen more rest inside)

pub Chosen-choices : (lists : List (List Row)) (e : Env) → Chosen lists e → In e (choices lists)
Chosen-choices [] [] h = inl refl
Chosen-choices [] (row ∷ e) h = absurd h
Chosen-choices (rows ∷ more) [] h = absurd h
Chosen-choices (rows ∷ more) (row ∷ e) h = In-each rows (choices more) row e h.0 (Chosen-choices more e h.1)

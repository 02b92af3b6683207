-- Where rows lie beside those that belong to something.
use Rattle.std.proofs.Common.{◌≡◌, refl, sym, ap, ap₂, subst, ◌∙◌, ℕ, zero, suc, ◌<◌, ◌≤◌, ◌==◌, ◌&&◌, nat_lt, Bool, true, false, cond, List, [], ◌∷◌, map, filter, find, length, take, drop, get_or, Option, Some, None, option_map, option_copied, slice_get, Bor, ⊎_elim, arith}
use Rattle.std.specs.Cmp.{IsTotalOrder}
use Rattle.std.specs.List.Sorted.{IsStrictlySortedBy, IsPartitionPoint, IsPartitionedBy}
use Rattle.std.specs.Ordering.{nat_cmp, is_eq, is_lt, ordering_then}
use Rattle.std.specs.declared.cmp.Ordering.{Ordering}
use Rattle.std.specs.declared.cmp.Ordering.TheVariants.{Less, Equal, Greater}
use Rattle.std.proofs.lemmas.Bool.{cases_lt}
use Rattle.catalog_read.specs.Rows.{Splits, entry_side, column_side, part_side}
use Rattle.catalog_read.proofs.Sorted.{rising}
use Rattle.stored_database.proofs.Reading.{same_number}
use Rattle.std.proofs.lemmas.Bool.Decides.{nat_tests}
use Rattle.stored_database.specs.Columns.{Column}
use Rattle.stored_database.specs.Entries.{Entry}
use Rattle.stored_database.specs.Parts.{Part}
use Rattle.stored_database.specs.Trees.{is_part_of}
use Rattle.catalog_read.specs.declared.rows.TreeKey.{TreeKey}

-- ---- runs of rows

module _ {A : Type 0} {cmp : A → A → Ordering} (order : IsTotalOrder cmp) {X : Type 0} (f : X → A) (side : A → Ordering) (splits : Splits cmp side) where
  is_less : (o : Ordering) → is_lt o ≡ true → o ≡ Less
  is_less Less h = refl
  is_less Equal h = cc
  is_less Greater h = cc

  is_equal : (o : Ordering) → is_eq o ≡ true → o ≡ Equal
  is_equal Less h = cc
  is_equal Equal h = refl
  is_equal Greater h = cc

  -- those in front are those on this side
  pub parted_front : (xs : List X) → IsStrictlySortedBy cmp (map f xs) → IsPartitionedBy (λ x. is_lt (side (f x))) xs
  parted_front xs up i j d le high h =
      ⊎_elim (λ low. ap is_lt (splits.below (f (get_or xs i d)) (f (get_or xs j d)) (rising order f xs up i j d low high) (is_less (side (f (get_or xs j d))) h)))
      (λ ge. subst (λ n. is_lt (side (f (get_or xs n d))) ≡ true) (omega (arith, le, ge)) h) (cases_lt i j)

  -- where none is on this side, those in front are those at it
  pub parted_run : (xs : List X) → IsStrictlySortedBy cmp (map f xs) → ((k : ℕ) (d : X) → k < length xs → is_lt (side (f (get_or xs k d))) ≡ false) → IsPartitionedBy (λ x. is_eq (side (f x))) xs
  parted_run xs up none i j d le high h = ⊎_elim (λ low. go low (side (f (get_or xs i d))) refl) (λ ge. subst (λ n. is_eq (side (f (get_or xs n d))) ≡ true) (omega (arith, le, ge)) h) (cases_lt i j)
    where
      go : i < j → (o : Ordering) → side (f (get_or xs i d)) ≡ o → is_eq (side (f (get_or xs i d))) ≡ true
      go low Less e = cc (none i d (omega (arith, le, high)), ap is_lt e)
      go low Equal e = ap is_eq e
      go low Greater e = cc (splits.above (f (get_or xs i d)) (f (get_or xs j d)) (rising order f xs up i j d low high) e, is_equal (side (f (get_or xs j d))) h)

module _ {A X : Type 0} (f : X → A) where
  -- what is behind ascends
  pub sorted_behind : (cmp : A → A → Ordering) (xs : List X) (n : ℕ) → IsStrictlySortedBy cmp (map f xs) → IsStrictlySortedBy cmp (map f (drop n xs))
  unfolding IsStrictlySortedBy
  sorted_behind cmp xs zero up = up
  sorted_behind cmp [] (suc n) up = tt
  sorted_behind cmp (x ∷ xs) (suc n) up = sorted_behind cmp xs n up.1

  -- what holds of each from a place on holds of each behind
  pub each_behind : (P : A → Type 0) (xs : List X) (n : ℕ) → ((k : ℕ) (d : X) → n ≤ k → k < length xs → P (f (get_or xs k d))) → (k : ℕ) (d : X) → k < length (drop n xs) → P (f (get_or (drop n xs) k d))
  each_behind P xs zero h k d low = h k d (omega arith) low
  each_behind P [] (suc n) h k d low = absurd (omega (arith, low))
  each_behind P (x ∷ xs) (suc n) h k d low = each_behind P xs n (λ k d le high. h (suc k) d (omega (arith, le)) (omega (arith, high))) k d low

  -- those in front that don't pass are left out
  pub passed_over : (test : A → Bool) (xs : List X) (n : ℕ) → ((k : ℕ) (d : X) → k < n → test (f (get_or xs k d)) ≡ false) → n ≤ length xs → filter test (map f xs) ≡ filter test (map f (drop n xs))
  passed_over test xs zero h le = refl
  passed_over test [] (suc n) h le = absurd (omega (arith, le))
  passed_over test (x ∷ xs) (suc n) h le =
      ap (λ b. cond b (f x ∷ filter test (map f xs)) (filter test (map f xs))) (h 0 x (omega arith))
      ∙ passed_over test xs n (λ k d low. h (suc k) d (omega (arith, low))) (omega (arith, le))

  none_passes : (test : A → Bool) (xs : List X) → ((k : ℕ) (d : X) → k < length xs → test (f (get_or xs k d)) ≡ false) → filter test (map f xs) ≡ []
  none_passes test [] h = refl
  none_passes test (x ∷ xs) h =
      ap (λ b. cond b (f x ∷ filter test (map f xs)) (filter test (map f xs))) (h 0 x (omega arith)) ∙ none_passes test xs (λ k d low. h (suc k) d (omega (arith, low)))

  -- those in front pass, and no others
  pub front_passes : (test : A → Bool) (xs : List X) (n : ℕ) → ((k : ℕ) (d : X) → k < n → test (f (get_or xs k d)) ≡ true) → ((k : ℕ) (d : X) → n ≤ k → k < length xs → test (f (get_or xs k d)) ≡ false)
      → n ≤ length xs → map f (take n xs) ≡ filter test (map f xs)
  front_passes test xs zero h none le = sym (none_passes test xs (λ k d low. none k d (omega arith) low))
  front_passes test [] (suc n) h none le = absurd (omega (arith, le))
  front_passes test (x ∷ xs) (suc n) h none le =
      ap (λ l. f x ∷ l) (front_passes test xs n (λ k d low. h (suc k) d (omega (arith, low))) (λ k d le low. none (suc k) d (omega (arith, le)) (omega (arith, low))) (omega (arith, le)))
      ∙ sym (ap (λ b. cond b (f x ∷ filter test (map f xs)) (filter test (map f xs))) (h 0 x (omega arith)))

-- one that is on this side is not at it
pub not_at : (o : Ordering) → is_lt o ≡ true → is_eq o ≡ false
not_at Less h = refl
not_at Equal h = cc
not_at Greater h = refl

-- ---- the first that passes

-- it is found
pub first_found : {A : Type 0} (test : A → Bool) (xs : List A) (x : A) (ys : List A) → x ∷ ys ≡ filter test xs → Some x ≡ find test xs
first_found test [] x ys h = cc h
first_found {A} test (z ∷ zs) x ys h = go (test z) h (first_found test zs x ys)
  where
    go : (b : Bool) → x ∷ ys ≡ cond b (z ∷ filter test zs) (filter test zs) → (x ∷ ys ≡ filter test zs → Some x ≡ find test zs) → Some x ≡ cond b (Some z) (find test zs)
    go true h later = cc h
    go false h later = later h

-- and none where none passes
pub none_found : {A : Type 0} (test : A → Bool) (xs : List A) → [] ≡ filter test xs → None ≡ find test xs
none_found test [] h = refl
none_found {A} test (z ∷ zs) h = go (test z) h (none_found test zs)
  where
    go : (b : Bool) → [] ≡ cond b (z ∷ filter test zs) (filter test zs) → ([] ≡ filter test zs → None ≡ find test zs) → None ≡ cond b (Some z) (find test zs)
    go true h later = cc h
    go false h later = later h

-- the first of a run is the first that passes
pub first_of : {X A : Type 0} (g : X → A) (test : A → Bool) (ys : List A) (run : List X) (o : Option (Bor X)) → option_copied o ≡ slice_get run 0 → map g run ≡ filter test ys → option_map (λ e. g e.now) o ≡ find test ys
first_of {X} {A} g test ys run o e same = seen o ∙ ap (option_map g) e ∙ go run same
  where
    seen : (o : Option (Bor X)) → option_map (λ e. g e.now) o ≡ option_map g (option_copied o)
    seen None = refl
    seen (Some e) = refl

    go : (run : List X) → map g run ≡ filter test ys → option_map g (slice_get run 0) ≡ find test ys
    go [] same = none_found test ys same
    go (x ∷ xs) same = first_found test ys (g x) (map g xs) same

-- ---- numbers that are equal

less_of : (m n : ℕ) → nat_lt m n ≡ true → m < n
less_of m n h = grind (arith, nat_tests)

pub nat_tied : (m n : ℕ) → is_eq (nat_cmp m n) ≡ (m == n)
nat_tied m n = go (nat_lt m n) (m == n) refl refl
  where
    go : (b c : Bool) → nat_lt m n ≡ b → (m == n) ≡ c → is_eq (cond b Less (cond c Equal Greater)) ≡ c
    go true true e f = absurd (omega (arith, less_of m n e, same_number m n f))
    go true false e f = refl
    go false true e f = refl
    go false false e f = refl

pub then_tied : (o p : Ordering) → is_eq (ordering_then o p) ≡ (is_eq o && is_eq p)
then_tied Less p = refl
then_tied Equal p = refl
then_tied Greater p = refl

-- those that pass one test are those that pass another that says the same
pub filter_alike : {A : Type 0} (p q : A → Bool) → ((a : A) → p a ≡ q a) → (xs : List A) → filter p xs ≡ filter q xs
filter_alike p q same xs = λ i. filter (λ a. same a i) xs

-- an entry lies at its file
pub at_entry : (file : ℕ) (e : Entry) → is_eq (entry_side file e) ≡ (e.file == file)
at_entry file e = nat_tied e.file file

-- an attribute at that of what it belongs to
pub at_column : (file : ℕ) (c : Column) → is_eq (column_side file c) ≡ (c.file == file)
at_column file c = nat_tied c.file file

-- and a part at its tree
pub at_part : (t : TreeKey) (p : Part) → is_eq (part_side t p) ≡ is_part_of t.file t.sort t.number p
at_part t p =
    then_tied (nat_cmp p.file t.file) (ordering_then (nat_cmp p.sort t.sort) (nat_cmp p.number t.number))
    ∙ ap₂ (λ a b. a && b) (nat_tied p.file t.file) (then_tied (nat_cmp p.sort t.sort) (nat_cmp p.number t.number) ∙ ap₂ (λ a b. a && b) (nat_tied p.sort t.sort) (nat_tied p.number t.number))

-- ---- the run

module _ {A : Type 0} {cmp : A → A → Ordering} (order : IsTotalOrder cmp) {X : Type 0} (f : X → A) (side : A → Ordering) (splits : Splits cmp side) where
  -- what two searches find: behind those on this side, those at it
  pub run_is : (xs : List X) → IsStrictlySortedBy cmp (map f xs)
      → (n : ℕ) → n ≤ length xs → IsPartitionPoint (λ x. is_lt (side (f x)) ≡ true) (λ x. is_lt (side (f x)) ≡ false) xs n
      → (behind : List X) → behind ≡ drop n xs
      → (m : ℕ) → m ≤ length behind → (IsPartitionedBy (λ x. is_eq (side (f x))) behind → IsPartitionPoint (λ x. is_eq (side (f x)) ≡ true) (λ x. is_eq (side (f x)) ≡ false) behind m)
      → (run : List X) → run ≡ take m behind → map f run ≡ filter (λ a. is_eq (side a)) (map f xs)
  run_is xs up n le point behind is m lim next run e =
      let test : A → Bool = λ a. is_eq (side a) in
      let up2 : IsStrictlySortedBy cmp (map f behind) = subst (λ l. IsStrictlySortedBy cmp (map f l)) (sym is) (sorted_behind f cmp xs n up) in
      let none : (k : ℕ) (d : X) → k < length behind → is_lt (side (f (get_or behind k d))) ≡ false =
      subst (λ l. (k : ℕ) (d : X) → k < length l → is_lt (side (f (get_or l k d))) ≡ false) (sym is) (each_behind f (λ a. is_lt (side a) ≡ false) xs n point.1) in
      let at = next (parted_run order f side splits behind up2 none) in
      ap (map f) e
      ∙ front_passes f test behind m (λ k d low. at.0 k d (omega arith) low) at.1 lim
      ∙ ap (λ l. filter test (map f l)) is
      ∙ sym (passed_over f test xs n (λ k d low. not_at (side (f (get_or xs k d))) (point.0 k d (omega arith) low)) le)

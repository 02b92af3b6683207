-- Trees that are whole, one by one.
use Rattle.std.proofs.Common.{◌≡◌, refl, sym, ap, ap₂, subst, ◌∙◌, true≢false, inl, inr, ℕ, zero, suc, ◌≤◌, ◌==◌, ◌&&◌, Bool, true, false, cond, List, [], ◌∷◌, ◌++◌, map, filter, length, drop, is_some, arith}
use Rattle.std.specs.List.{AllByRecursion, list_all}
use Rattle.std.specs.List.Sorted.{IsStrictlySortedBy}
use Rattle.std.specs.Ordering.{is_eq, is_lt}
use Rattle.std.specs.declared.cmp.Ordering.{Ordering}
use Rattle.std.specs.declared.cmp.Ordering.TheVariants.{Less, Equal, Greater}
use Rattle.std.proofs.lemmas.List.{length-map}
use Rattle.std.proofs.lemmas.List.Folds.{list_all-append}
use Rattle.std.proofs.lemmas.Bool.{and_from}
use Rattle.stored_database.specs.Parts.{Part, part_cmp}
use Rattle.stored_database.specs.Trees.{is_part_of, joined, tree_at, parts_are_whole}
use Rattle.stored_database.proofs.Groups.{filter_append, filter_fail}
use Rattle.stored_database.proofs.Members.{IsIn, of_all, all_of, filter_in, in_filter}
use Rattle.stored_database.proofs.Reading.{both, same_number, number_itself}
use Rattle.catalog_rows.specs.Shown.{part_in}
use Rattle.catalog_rows.specs.declared.part_rows.PartRow.{PartRow}
use Rattle.catalog_read.specs.Rows.{Splits, part_side}
use Rattle.catalog_read.specs.Splitting.{parts_split, key_of_part}
use Rattle.catalog_read.specs.declared.rows.TreeKey.{TreeKey}
use Rattle.catalog_read.proofs.Sides.{at_part, filter_alike, sorted_behind}

-- ---- a run in front

module _ {A : Type 0} {cmp : A → A → Ordering} (side : A → Ordering) (splits : Splits cmp side) where
  -- none behind one that is at it is on this side
  never_less : (x : A) (ys : List A) → side x ≡ Equal → AllByRecursion (λ y. cmp x y ≡ Less) ys → AllByRecursion (λ a. is_lt (side a) ≡ false) ys
  never_less x [] e all = tt
  never_less x (y ∷ ys) e all = (go (side y) refl, never_less x ys e all.1)
    where
      go : (o : Ordering) → side y ≡ o → is_lt (side y) ≡ false
      go Less f = cc (splits.below x y all.0 f, e)
      go Equal f = ap is_lt f
      go Greater f = ap is_lt f

  -- all behind one that is on the other side are there
  none_behind : (x : A) (ys : List A) → side x ≡ Greater → AllByRecursion (λ y. cmp x y ≡ Less) ys → AllByRecursion (λ a. is_eq (side a) ≡ false) ys
  none_behind x [] e all = tt
  none_behind x (y ∷ ys) e all = (ap is_eq (splits.above x y all.0 e), none_behind x ys e all.1)

  beyond : (o : Ordering) → is_lt o ≡ false → is_eq o ≡ false → o ≡ Greater
  beyond Less h k = cc h
  beyond Equal h k = cc k
  beyond Greater h k = refl

  -- those at it are in front, and no others are
  run_front : {X : Type 0} (f : X → A) (xs : List X) → IsStrictlySortedBy cmp (map f xs) → AllByRecursion (λ a. is_lt (side a) ≡ false) (map f xs)
      → (n : ℕ) → n ≡ length (filter (λ a. is_eq (side a)) (map f xs))
      → (map f xs ≡ filter (λ a. is_eq (side a)) (map f xs) ++ map f (drop n xs)) × AllByRecursion (λ a. is_eq (side a) ≡ false) (map f (drop n xs))
  unfolding IsStrictlySortedBy
  run_front f [] up none zero e = (refl, tt)
  run_front f [] up none (suc n) e = absurd (omega (arith, e))
  run_front {X} f (x ∷ xs) up none n e = go (is_eq (side (f x))) refl n (e ∙ refl) (run_front f xs up.1 none.1)
    where
      others : List A
      others = filter (λ a. is_eq (side a)) (map f xs)

      go : (b : Bool) → is_eq (side (f x)) ≡ b → (n : ℕ) → n ≡ length (cond b (f x ∷ others) others)
          → ((m : ℕ) → m ≡ length others → (map f xs ≡ others ++ map f (drop m xs)) × AllByRecursion (λ a. is_eq (side a) ≡ false) (map f (drop m xs)))
          → (f x ∷ map f xs ≡ cond b (f x ∷ others) others ++ map f (drop n (x ∷ xs))) × AllByRecursion (λ a. is_eq (side a) ≡ false) (map f (drop n (x ∷ xs)))
      go true h zero e later = absurd (omega (arith, e))
      go true h (suc m) e later = (let l = later m (omega (arith, e)) in (ap (λ l. f x ∷ l) l.0, l.1))
      go false h n e later =
          let all = none_behind (f x) (map f xs) (beyond (side (f x)) none.0 h) up.0 in
          let empty : others ≡ [] = filter_fail (λ a. is_eq (side a)) (map f xs) all in
          let zero_of : 0 ≡ n = sym (e ∙ ap length empty) in
          subst (λ n. (f x ∷ map f xs ≡ others ++ map f (drop n (x ∷ xs))) × AllByRecursion (λ a. is_eq (side a) ≡ false) (map f (drop n (x ∷ xs)))) zero_of
          (ap (λ l. l ++ (f x ∷ map f xs)) (sym empty), (h, all))

-- ---- lists that are tested

all_alike : {A : Type 0} (p q : A → Bool) (xs : List A) → ((x : A) → IsIn x xs → p x ≡ q x) → list_all p xs ≡ list_all q xs
all_alike p q [] same = refl
all_alike p q (x ∷ xs) same = ap₂ (λ a b. a && b) (same x (inl refl)) (all_alike p q xs (λ y at. same y (inr at)))

all_one : {A : Type 0} (b : Bool) (x : A) (xs : List A) → IsIn x xs → list_all (λ y. b) xs ≡ b
all_one {A} true x xs at = passing xs
  where
    passing : (xs : List A) → list_all (λ y. true) xs ≡ true
    passing [] = refl
    passing (y ∷ ys) = passing ys
all_one false x [] at = absurd at
all_one false x (y ∷ ys) at = refl

fewer : {A : Type 0} (test : A → Bool) (xs : List A) → length (filter test xs) ≤ length xs
fewer test [] = omega arith
fewer {A} test (x ∷ xs) = go (test x) (fewer test xs)
  where
    go : (b : Bool) → length (filter test xs) ≤ length xs → length (cond b (x ∷ filter test xs) (filter test xs)) ≤ suc (length xs)
    go true h = omega (arith, h)
    go false h = omega (arith, h)

-- ---- parts of one tree

-- the part is of the same tree
abbrev same_tree : Part → Part → Bool
same_tree p = is_part_of p.file p.sort p.number

-- what names its tree is the same
tree_is : (p q : Part) → same_tree p q ≡ true → (q.file ≡ p.file) × (q.sort ≡ p.sort) × (q.number ≡ p.number)
tree_is p q h =
    let a = both (q.file == p.file) ((q.sort == p.sort) && (q.number == p.number)) h in
    let b = both (q.sort == p.sort) (q.number == p.number) a.1 in
    (same_number q.file p.file a.0, same_number q.sort p.sort b.0, same_number q.number p.number b.1)

-- the tests of two parts of one tree are the same
tests_alike : (p q : Part) → same_tree p q ≡ true → same_tree q ≡ same_tree p
tests_alike p q h = let t = tree_is p q h in λ i. is_part_of (t.0 i) (t.1 i) (t.2 i)

itself : (p : Part) → same_tree p p ≡ true
itself p = and_from (p.file == p.file) ((p.sort == p.sort) && (p.number == p.number)) (number_itself p.file) (and_from (p.sort == p.sort) (p.number == p.number) (number_itself p.sort) (number_itself p.number))

-- a part of another tree has none of its parts
apart : (x p q : Part) → same_tree x p ≡ true → same_tree x q ≡ false → same_tree q p ≡ false
apart x p q h k = go (same_tree q p) refl
  where
    go : (b : Bool) → same_tree q p ≡ b → b ≡ false
    go true e = (let one : same_tree p q ≡ same_tree x q = ap (λ (f : Part → Bool). f q) (tests_alike x p h) in
        let other : same_tree p q ≡ same_tree q q = ap (λ (f : Part → Bool). f q) (tests_alike q p e) in absurd (true≢false (sym (itself q) ∙ sym other ∙ one ∙ k)))
    go false e = refl

-- the first tree and those behind it
pub whole_step : (all run rest : List Part) (x : Part) → all ≡ run ++ rest → IsIn x run → run ≡ filter (same_tree x) all → AllByRecursion (λ q. same_tree x q ≡ false) rest
    → parts_are_whole all ≡ (is_some (joined run) && parts_are_whole rest)
whole_step all run rest x is at of none =
    ap (list_all whole) is
    ∙ list_all-append whole run rest
    ∙ ap₂ (λ a b. a && b) (all_alike whole (λ p. is_some (joined run)) run first ∙ all_one (is_some (joined run)) x run at) (all_alike whole (λ p. is_some (tree_at rest p.file p.sort p.number)) rest later)
  where
    whole : Part → Bool
    whole p = is_some (tree_at all p.file p.sort p.number)

    in_run : (p : Part) → IsIn p run → same_tree x p ≡ true
    in_run p k = (filter_in (same_tree x) all p (subst (IsIn p) of k)).1

    first : (p : Part) → IsIn p run → whole p ≡ is_some (joined run)
    first p k = (λ i. is_some (joined (filter (tests_alike x p (in_run p k) i) all))) ∙ ap (λ l. is_some (joined l)) (sym of)

    later : (q : Part) → IsIn q rest → whole q ≡ is_some (tree_at rest q.file q.sort q.number)
    later q k =
        let others : AllByRecursion (λ p. same_tree q p ≡ false) run = all_of (λ p. same_tree q p ≡ false) run (λ p l. apart x p q (in_run p l) (of_all (λ q. same_tree x q ≡ false) rest q none k)) in
        ap (λ l. is_some (joined l))
        (ap (filter (same_tree q)) is ∙ filter_append (same_tree q) run rest ∙ ap (λ l. l ++ filter (same_tree q) rest) (filter_fail (same_tree q) run others))

-- ---- the first tree of rows

-- it is no longer than they are
pub tree_fits : (t : TreeKey) (xs run : List PartRow) → map part_in run ≡ filter (λ s. is_eq (part_side t s)) (map part_in xs) → length run ≤ length xs
tree_fits t xs run of =
    let test : Part → Bool = λ s. is_eq (part_side t s) in
    omega (arith, length-map run part_in, length-map xs part_in, ap length of, fewer test (map part_in xs))

-- What is known once the first tree is taken off.
pub record Goes (xs run behind : List PartRow) : Type 0 where
  pub some : 1 ≤ length run
  pub sorted : IsStrictlySortedBy part_cmp (map part_in behind)
  pub whole : parts_are_whole (map part_in xs) ≡ (is_some (joined (map part_in run)) && parts_are_whole (map part_in behind))

equal_of : (o : Ordering) → is_eq o ≡ true → o ≡ Equal
equal_of Less h = cc h
equal_of Equal h = refl
equal_of Greater h = cc h

goes_from : (x : PartRow) (more run behind : List PartRow) → IsStrictlySortedBy part_cmp (map part_in (x ∷ more))
    → map part_in run ≡ filter (λ s. is_eq (part_side (key_of_part (part_in x)) s)) (map part_in (x ∷ more)) → behind ≡ drop (length run) (x ∷ more) → Goes (x ∷ more) run behind
unfolding IsStrictlySortedBy
goes_from x more run behind up of back =
    let t : TreeKey = key_of_part (part_in x) in
    let all : List Part = map part_in (x ∷ more) in
    let test : Part → Bool = λ s. is_eq (part_side t s) in
    let self : test (part_in x) ≡ true = at_part t (part_in x) ∙ itself (part_in x) in
    let at : part_side t (part_in x) ≡ Equal = equal_of (part_side t (part_in x)) self in
    let none : AllByRecursion (λ a. is_lt (part_side t a) ≡ false) all = (ap is_lt at, never_less (part_side t) (parts_split t) (part_in x) (map part_in more) at up.0) in
    let many : length run ≡ length (filter test all) = sym (length-map run part_in) ∙ ap length of in
    let split = run_front (part_side t) (parts_split t) part_in (x ∷ more) up none (length run) many in
    let there : IsIn (part_in x) (map part_in run) = subst (IsIn (part_in x)) (sym of) (in_filter test all (part_in x) (inl refl) self) in
    let alike : (a : Part) → test a ≡ same_tree (part_in x) a = at_part t in
    let apart_all : AllByRecursion (λ q. same_tree (part_in x) q ≡ false) (map part_in behind) =
    subst (λ l. AllByRecursion (λ q. same_tree (part_in x) q ≡ false) (map part_in l)) (sym back)
    (all_of (λ q. same_tree (part_in x) q ≡ false) (map part_in (drop (length run) (x ∷ more))) (λ q k. sym (alike q) ∙ of_all (λ a. test a ≡ false) (map part_in (drop (length run) (x ∷ more))) q split.1 k)) in
    record {
      some = long run there;
      sorted = subst (λ l. IsStrictlySortedBy part_cmp (map part_in l)) (sym back) (sorted_behind part_in part_cmp (x ∷ more) (length run) up);
      whole = whole_step all (map part_in run) (map part_in behind) (part_in x) (split.0 ∙ (λ i. sym of i ++ map part_in (sym back i))) there (of ∙ filter_alike test (same_tree (part_in x)) alike all) apart_all;
    }
  where
    long : (run : List PartRow) → IsIn (part_in x) (map part_in run) → 1 ≤ length run
    long [] at = absurd at
    long (y ∷ ys) at = omega arith

-- the first tree is taken off
pub tree_goes : (t : TreeKey) (xs run behind : List PartRow) (x : PartRow) (more : List PartRow) → xs ≡ x ∷ more → t ≡ key_of_part (part_in x) → IsStrictlySortedBy part_cmp (map part_in xs)
    → map part_in run ≡ filter (λ s. is_eq (part_side t s)) (map part_in xs) → behind ≡ drop (length run) xs → Goes xs run behind
tree_goes t xs run behind x more is key up of back =
    subst (λ l. Goes l run behind) (sym is)
    (goes_from x more run behind (subst (λ l. IsStrictlySortedBy part_cmp (map part_in l)) is up) (of ∙ (λ i. filter (λ s. is_eq (part_side (key i) s)) (map part_in (is i)))) (back ∙ ap (drop (length run)) is))

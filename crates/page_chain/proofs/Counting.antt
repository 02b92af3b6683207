-- How many rows go, where no two are the same and each that is to go is there.
use Rattle.std.proofs.Common.{◌≡◌, refl, sym, ap, ap₂, subst, ◌∙◌, cond, ℕ, ◌+◌, ◌<◌, ◌≤◌, Bool, true, false, not, ◌&&◌, ◌||◌, bytes_eq, List, [], ◌∷◌, ◌++◌, filter, length, arith}
use Rattle.std.proofs.lemmas.Bool.{and_parts, true≢false}
use Rattle.std.proofs.lemmas.List.{length-append}
use Rattle.std.proofs.lemmas.List.Elements.{filter-append}
use Rattle.std.proofs.lemmas.List.Filters.{length-filter_both}
use Rattle.std.proofs.lemmas.Slice.Eq.{bytes_eq-Decides}
use Rattle.std.specs.List.{list_any, list_all}
use Rattle.page_chain.specs.Lying.{Lying, bytes_of, is_among, staying, all_differ, lying}
use Rattle.page_chain.specs.Pages.{Pages}
use Rattle.page_chain.specs.Renewed.{AllLie}

-- ---- bytes that are the same

pub same_bytes : (a b : List ℕ) → bytes_eq a b ≡ true → a ≡ b
same_bytes a b e = (bytes_eq-Decides a b).0 e

pub bytes_same : (a b : List ℕ) → a ≡ b → bytes_eq a b ≡ true
bytes_same a b e = (bytes_eq-Decides a b).1 e

pub not_true : (t : Bool) → (t ≡ true → ⊥) → t ≡ false
not_true true n = absurd (n refl)
not_true false n = refl

not_false : (t : Bool) → not t ≡ true → t ≡ false
not_false true e = absurd (cc e)
not_false false e = refl

-- either way round
pub bytes_turned : (a b : List ℕ) → bytes_eq a b ≡ bytes_eq b a
bytes_turned a b = go (bytes_eq b a) refl
  where
    go : (t : Bool) → bytes_eq b a ≡ t → bytes_eq a b ≡ t
    go true e = bytes_same a b (sym (same_bytes b a e))
    go false e = not_true (bytes_eq a b) (λ s. true≢false (sym (bytes_same b a (sym (same_bytes a b s))) ∙ e))

-- ---- counts

-- how many pass
abbrev count : {A : Type 0} → (A → Bool) → List A → ℕ
count p xs = length (filter p xs)

count_step : {A : Type 0} (p : A → Bool) (x : A) (xs : List A) (t : Bool) → length (cond t (x ∷ filter p xs) (filter p xs)) ≡ cond t 1 0 + count p xs
count_step p x xs true = omega arith
count_step p x xs false = omega arith

count_true : {A : Type 0} (p : A → Bool) (x : A) (xs : List A) → p x ≡ true → count p (x ∷ xs) ≡ 1 + count p xs
count_true p x xs e = count_step p x xs (p x) ∙ ap (λ t. cond t 1 0 + count p xs) e

count_false : {A : Type 0} (p : A → Bool) (x : A) (xs : List A) → p x ≡ false → count p (x ∷ xs) ≡ 0 + count p xs
count_false p x xs e = count_step p x xs (p x) ∙ ap (λ t. cond t 1 0 + count p xs) e

-- of a test that is one of two which never both pass
count_either : {A : Type 0} (p q : A → Bool) (xs : List A) → ((x : A) → p x ≡ true → q x ≡ false) → count (λ x. p x || q x) xs ≡ count p xs + count q xs
count_either p q [] apart = refl
count_either {A} p q (x ∷ xs) apart =
    let either = count_step (λ x. p x || q x) x xs (p x || q x) in
    let one = count_step p x xs (p x) in
    let two = count_step q x xs (q x) in
    let rest = count_either p q xs apart in
    let split = go (p x) (q x) (apart x) in
    omega (arith, either, one, two, rest, split)
  where
    go : (a b : Bool) → (a ≡ true → b ≡ false) → cond (a || b) 1 0 ≡ cond a 1 0 + cond b 1 0
    go true true apart = absurd (cc (apart refl))
    go true false apart = refl
    go false true apart = refl
    go false false apart = refl

-- none is this row
none_is : (row : List ℕ) (rows : List (List ℕ)) → list_any (bytes_eq row) rows ≡ false → count (λ r. bytes_eq r row) rows ≡ 0
none_is row [] e = refl
none_is row (x ∷ rows) e = go (bytes_eq row x) (list_any (bytes_eq row) rows) refl refl e (λ others. none_is row rows others)
  where
    go : (a b : Bool) → bytes_eq row x ≡ a → list_any (bytes_eq row) rows ≡ b → (bytes_eq row x || list_any (bytes_eq row) rows) ≡ false
        → (list_any (bytes_eq row) rows ≡ false → count (λ r. bytes_eq r row) rows ≡ 0) → count (λ r. bytes_eq r row) (x ∷ rows) ≡ 0
    go true b ea eb e rest = absurd (true≢false (sym (ap (λ t. t || list_any (bytes_eq row) rows) ea) ∙ e))
    go false true ea eb e rest = absurd (true≢false (sym (ap₂ (λ s t. s || t) ea eb) ∙ e))
    go false false ea eb e rest = ap (λ t. length (cond t (x ∷ filter (λ r. bytes_eq r row) rows) (filter (λ r. bytes_eq r row) rows))) (bytes_turned x row ∙ ea) ∙ rest eb

-- exactly one is this row, where no two are the same and it is among them
one_is : (row : List ℕ) (rows : List (List ℕ)) → all_differ rows ≡ true → is_among rows row ≡ true → count (λ r. bytes_eq r row) rows ≡ 1
one_is row [] differ e = absurd (cc e)
one_is row (x ∷ rows) differ e = let both = and_parts (not (list_any (bytes_eq x) rows)) (all_differ rows) differ in go both.0 (bytes_eq row x) refl (λ there. one_is row rows both.1 there)
  where
    counted : (t : Bool) → bytes_eq row x ≡ t → count (λ r. bytes_eq r row) (x ∷ rows) ≡ cond t 1 0 + count (λ r. bytes_eq r row) rows
    counted t e = count_step (λ r. bytes_eq r row) x rows (bytes_eq x row) ∙ ap (λ t. cond t 1 0 + count (λ r. bytes_eq r row) rows) (bytes_turned x row ∙ e)

    go : not (list_any (bytes_eq x) rows) ≡ true → (t : Bool) → bytes_eq row x ≡ t → (is_among rows row ≡ true → count (λ r. bytes_eq r row) rows ≡ 1) → count (λ r. bytes_eq r row) (x ∷ rows) ≡ 1
    go none true is rest =
        let same = same_bytes row x is in
        omega (arith, counted true is, none_is row rows (subst (λ y. list_any (bytes_eq y) rows ≡ false) (sym same) (not_false (list_any (bytes_eq x) rows) none)))
    go none false is rest = omega (arith, counted false is, rest (sym (ap (λ t. t || is_among rows row) is) ∙ e))

-- where no two rows are the same, and each of these differs and is among them, so many of them are
pub as_many : (going rows : List (List ℕ)) → all_differ rows ≡ true → all_differ going ≡ true → list_all (is_among rows) going ≡ true
    → count (is_among going) rows ≡ length going
as_many [] rows differ once there = none rows
  where
    none : (rows : List (List ℕ)) → count (λ r. false) rows ≡ 0
    none [] = refl
    none (x ∷ rows) = none rows
as_many (row ∷ going) rows differ once there =
    let first = and_parts (not (list_any (bytes_eq row) going)) (all_differ going) once in
    let are = and_parts (is_among rows row) (list_all (is_among rows) going) there in
    let split = count_either (λ r. bytes_eq r row) (is_among going) rows (λ r e. subst (λ x. is_among going x ≡ false) (sym (same_bytes r row e)) (not_false (is_among going row) first.0)) in
    omega (arith, split, one_is row rows differ are.0, as_many going rows differ first.1 are.1)

-- none is among none
none_among : (rows : List (List ℕ)) → count (λ r. false) rows ≡ 0
none_among [] = refl
none_among (x ∷ rows) = none_among rows

-- at most one is this row, where no two are the same
one_at_most : (row : List ℕ) (rows : List (List ℕ)) → all_differ rows ≡ true → count (λ r. bytes_eq r row) rows ≤ 1
one_at_most row rows differ = go (is_among rows row) refl
  where
    go : (t : Bool) → is_among rows row ≡ t → count (λ r. bytes_eq r row) rows ≤ 1
    go true is = let one = one_is row rows differ is in omega (arith, one)
    go false is = let none = none_is row rows is in omega (arith, none)

-- where one is this row, it is among them
one_there : (row : List ℕ) (rows : List (List ℕ)) → 0 < count (λ r. bytes_eq r row) rows → is_among rows row ≡ true
one_there row rows some = go (is_among rows row) refl
  where
    go : (t : Bool) → is_among rows row ≡ t → is_among rows row ≡ true
    go true is = is
    go false is = let none = none_is row rows is in absurd (omega (arith, none, some))

-- those that are this row or among the others
either_among : (row : List ℕ) (going rows : List (List ℕ)) → not (list_any (bytes_eq row) going) ≡ true → count (is_among (row ∷ going)) rows ≡ count (λ r. bytes_eq r row) rows + count (is_among going) rows
either_among row going rows once =
    count_either (λ r. bytes_eq r row) (is_among going) rows (λ r e. subst (λ x. is_among going x ≡ false) (sym (same_bytes r row e)) (not_false (list_any (bytes_eq row) going) once))

-- of rows of which no two are the same at most as many are among these as these are
at_most_as_many : (going rows : List (List ℕ)) → all_differ rows ≡ true → all_differ going ≡ true → count (is_among going) rows ≤ length going
at_most_as_many [] rows differ once = let none : count (is_among []) rows ≡ 0 = none_among rows in omega (arith, none)
at_most_as_many (row ∷ going) rows differ once =
    let first = and_parts (not (list_any (bytes_eq row) going)) (all_differ going) once in
    let split = either_among row going rows first.0 in
    omega (arith, split, one_at_most row rows differ, at_most_as_many going rows differ first.1)

-- where as many are among these as these are, each of these is there
pub each_there : (going rows : List (List ℕ)) → all_differ rows ≡ true → all_differ going ≡ true → length going ≤ count (is_among going) rows → list_all (is_among rows) going ≡ true
each_there [] rows differ once enough = refl
each_there (row ∷ going) rows differ once enough =
    let first = and_parts (not (list_any (bytes_eq row) going)) (all_differ going) once in
    let split = either_among row going rows first.0 in
    let here = one_there row rows (omega (arith, enough, split, at_most_as_many going rows differ first.1)) in
    let rest = each_there going rows differ first.1 (omega (arith, enough, split, one_at_most row rows differ)) in
    (λ i. here i && rest i)

-- ---- of rows that lie on pages

-- the rows that go are as many as their bytes
count_bytes : (p : List ℕ → Bool) (rows : Lying) → count (λ r. p r.1) rows ≡ count p (bytes_of rows)
count_bytes p [] = refl
count_bytes p (r ∷ rows) =
    count_step (λ r. p r.1) r rows (p r.1) ∙ (let rest = count_bytes p rows in let other = count_step p r.1 (bytes_of rows) (p r.1) in omega (arith, rest, other))

-- so many go
pub gone_count : (gone : ℕ) (going : List (List ℕ)) (rows : Lying) → gone + length (staying going rows) ≡ length rows → gone ≡ count (λ r. is_among going r.1) rows
gone_count gone going rows e =
    let both = length-filter_both (λ r. is_among going r.1) (λ r. not (is_among going r.1)) (λ r. refl) rows in
    omega (arith, both, e)

-- where none goes all stay
none_goes : (going : List (List ℕ)) (rows : Lying) → count (λ r. is_among going r.1) rows ≡ 0 → staying going rows ≡ rows
none_goes going [] e = refl
none_goes going (r ∷ rows) e = go (is_among going r.1) refl (λ none. none_goes going rows none)
  where
    go : (t : Bool) → is_among going r.1 ≡ t → (count (λ r. is_among going r.1) rows ≡ 0 → staying going rows ≡ rows) → staying going (r ∷ rows) ≡ r ∷ rows
    go true is rest = absurd (let one = count_true (λ r. is_among going r.1) r rows is in omega (arith, one, e))
    go false is rest =
        ap (λ t. cond (not t) (r ∷ staying going rows) (staying going rows)) is
        ∙ ap (λ l. r ∷ l) (rest (let one = count_false (λ r. is_among going r.1) r rows is in omega (arith, one, e)))

-- of all rows of a chain as many go as are listed
pub all_go : (pages : Pages) (numbers : List ℕ) (going : List (List ℕ)) → AllLie pages numbers going → count (λ r. is_among going r.1) (lying pages numbers) ≡ length going
all_go pages numbers going lie =
    count_bytes (is_among going) (lying pages numbers) ∙ as_many going (bytes_of (lying pages numbers)) lie.rows_differ lie.listed_once lie.are_there

-- where as many went from the first rows as are to go, none goes from the others, and that many they were
pub record NoneLeft (gone : ℕ) (going : List (List ℕ)) (rest : Lying) : Type 0 where
  pub number : gone ≡ length going
  pub stay : staying going rest ≡ rest

pub none_left : (gone : ℕ) (going : List (List ℕ)) (first rest : Lying) → gone + length (staying going first) ≡ length first → length going ≤ gone
    → count (λ r. is_among going r.1) (first ++ rest) ≡ length going → NoneLeft gone going rest
none_left gone going first rest went enough all =
    let here = gone_count gone going first went in
    let sum = ap length (filter-append (λ r. is_among going r.1) first rest) ∙ length-append (filter (λ r. is_among going r.1) first) (filter (λ r. is_among going r.1) rest) in
    record {
      number = omega (arith, here, sum, all, enough);
      stay = none_goes going rest (omega (arith, here, sum, all, enough));
    }

-- where as many rows that lie on pages are among those that are to go as these are, each of these lies there
pub all_counted : (going : List (List ℕ)) (rows : Lying) → all_differ (bytes_of rows) ≡ true → all_differ going ≡ true → length going ≤ count (λ r. is_among going r.1) rows → list_all (is_among (bytes_of rows)) going ≡ true
all_counted going rows differ once enough = let bytes = count_bytes (is_among going) rows in each_there going (bytes_of rows) differ once (omega (arith, bytes, enough))

-- where as many went from the first rows as are to go, all that are to go were there
pub all_there : (gone : ℕ) (going : List (List ℕ)) (first rest : Lying) → gone + length (staying going first) ≡ length first → length going ≤ gone → all_differ (bytes_of (first ++ rest)) ≡ true → all_differ going ≡ true
    → list_all (is_among (bytes_of (first ++ rest))) going ≡ true
all_there gone going first rest went enough differ once =
    let here = gone_count gone going first went in
    let sum = ap length (filter-append (λ r. is_among going r.1) first rest) ∙ length-append (filter (λ r. is_among going r.1) first) (filter (λ r. is_among going r.1) rest) in
    all_counted going (first ++ rest) differ once (omega (arith, here, sum, enough))

-- where nothing is to go all stay
pub all_stay : (rows : Lying) → staying [] rows ≡ rows
all_stay [] = refl
all_stay (r ∷ rows) = ap (λ l. r ∷ l) (all_stay rows)

-- where all that are to go are among the first rows, no fewer went from these and others
pub less_go : (gone : ℕ) (going : List (List ℕ)) (first rest : Lying) → gone + length (staying going (first ++ rest)) ≡ length (first ++ rest) → gone < length going
    → count (λ r. is_among going r.1) first ≡ length going → ⊥
less_go gone going first rest went less all =
    let here = gone_count gone going (first ++ rest) went in
    let sum = ap length (filter-append (λ r. is_among going r.1) first rest) ∙ length-append (filter (λ r. is_among going r.1) first) (filter (λ r. is_among going r.1) rest) in
    omega (arith, here, sum, less, all)

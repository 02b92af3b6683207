-- The level that a view of a query would have.
use Rattle.std.proofs.Common.{◌≡◌, refl, sym, ap, ◌∙◌, ℕ, zero, suc, ◌≤◌, max, nat_lt, Bool, true, not, IsTrue, List, [], ◌∷◌, Option, Some, None, map, arith}
use Rattle.std.specs.Prelude.{is_some, option_map}
use Rattle.std.specs.List.{list_all, AllByRecursion}
use Rattle.std.proofs.lemmas.Bool.Decides.{nat_tests}
use Rattle.calculus.specs.declared.query.RelKey.{RelKey}
use Rattle.calculus.specs.declared.query.Query.{Query}
use Rattle.calculus.specs.Database.{Db}
use Rattle.calculus.specs.Limits.{greatest_level}
use Rattle.calculus.specs.Stored.{Range, Kept, Viewed, range_at}
use Rattle.calculus.specs.QueryParts.{vars_of}
use Rattle.calculus.specs.Sizes.{greater_level, greatest_of, level_above, range_level, level_within, level_of, query_level}
use Rattle.quel_meaning.specs.Passing.{is_too_high}
use Rattle.plan_laws.proofs.ViewMade.{there_above}
use Rattle.plan_laws.proofs.Kept.{both, each}
use Rattle.plan_laws.proofs.Changed.{each_maps}
use Rattle.plan_laws.proofs.Staying.{map_same}

-- ---- levels that are there

both_there : (l g : Option ℕ) → is_some (option_map suc (greater_level l g)) ≡ true → (is_some l ≡ true) × (is_some (option_map suc g) ≡ true)
both_there None g h = cc h
both_there (Some i) None h = cc h
both_there (Some i) (Some j) h = (refl, refl)

pub there_below : (f : RelKey → Option ℕ) (keys : List RelKey) → is_some (level_above (map f keys)) ≡ true → IsTrue (list_all (λ key. is_some (f key)) keys)
there_below f [] h = refl
there_below f (key ∷ keys) h = let parts = both_there (f key) (greatest_of (map f keys)) h in each (is_some (f key)) (list_all (λ key. is_some (f key)) keys) parts.0 (there_below f keys parts.1)

-- ---- how great they are

one_less : (g : Option ℕ) (m : ℕ) → option_map suc g ≡ Some m → (j : ℕ) × (m ≡ suc j) × (g ≡ Some j)
one_less None m h = cc h
one_less (Some j) m h = (j, cc h, refl)

-- the level is there and at most this
abbrev IsAtMost : ℕ → Option ℕ → Type 0
IsAtMost bound l = (i : ℕ) × (i ≤ bound) × (l ≡ Some i)

both_at_most : (l g : Option ℕ) (j : ℕ) → greater_level l g ≡ Some j → IsAtMost j l × IsAtMost j g
both_at_most None g j h = cc h
both_at_most (Some i) None j h = cc h
both_at_most (Some i) (Some k) j h =
    let e : max i k ≡ j = cc h in
    ((i, omega (arith, e), refl), (k, omega (arith, e), refl))

each_at_most : (f : RelKey → Option ℕ) (keys : List RelKey) (j : ℕ) → greatest_of (map f keys) ≡ Some j → AllByRecursion (λ key. IsAtMost j (f key)) keys
each_at_most f [] j h = tt
each_at_most f (key ∷ keys) j h =
    let parts = both_at_most (f key) (greatest_of (map f keys)) j h in
    let later = parts.1 in (
      parts.0,
      each_maps (λ k. IsAtMost later.0 (f k)) (λ k. IsAtMost j (f k)) keys (each_at_most f keys later.0 later.2) (λ k at. (at.0, omega (arith, at.1, later.1), at.2)),
    )

as_test : (test : RelKey → Bool) (keys : List RelKey) → AllByRecursion (λ key. test key ≡ true) keys → IsTrue (list_all test keys)
as_test test [] h = refl
as_test test (key ∷ keys) h = each (test key) (list_all test keys) h.0 (as_test test keys h.1)

-- what has a level of at most so many has one within so many
lower : (db : Db) (n : ℕ) (key : RelKey) (i : ℕ) → level_within (suc n) db key ≡ Some i → i ≤ n → is_some (level_within n db key) ≡ true
lower db zero key i h low = go (range_at db key) h
  where
    go : (r : Option Range) → range_level (λ view. level_above (map (level_within zero db) (vars_of view.query))) r ≡ Some i → is_some (range_level (λ view. None) r) ≡ true
    go None e = cc e
    go (Some (Kept relation)) e = refl
    go (Some (Viewed view)) e = let top = one_less (greatest_of (map (level_within zero db) (vars_of view.query))) i e in absurd (omega (arith, top.1, low))
lower db (suc n) key i h low = go (lower db n) (range_at db key) h
  where
    go : ((k : RelKey) (j : ℕ) → level_within (suc n) db k ≡ Some j → j ≤ n → is_some (level_within n db k) ≡ true)
        → (r : Option Range) → range_level (λ view. level_above (map (level_within (suc n) db) (vars_of view.query))) r ≡ Some i
        → is_some (range_level (λ view. level_above (map (level_within n db) (vars_of view.query))) r) ≡ true
    go ih None e = cc e
    go ih (Some (Kept relation)) e = refl
    go ih (Some (Viewed view)) e =
        let top = one_less (greatest_of (map (level_within (suc n) db) (vars_of view.query))) i e in
        there_above (level_within n db) (vars_of view.query) (as_test (λ k. is_some (level_within n db k)) (vars_of view.query)
        (each_maps (λ k. IsAtMost top.0 (level_within (suc n) db k)) (λ k. is_some (level_within n db k) ≡ true) (vars_of view.query)
        (each_at_most (level_within (suc n) db) (vars_of view.query) top.0 top.2) (λ k at. ih k at.0 at.2 (omega (arith, at.1, top.1, low)))))

-- a level within so many is at most so many, and the same within one more
greatest_bound : (f : RelKey → Option ℕ) (n : ℕ) (keys : List RelKey) (j : ℕ) → ((key : RelKey) (i : ℕ) → f key ≡ Some i → i ≤ n) → greatest_of (map f keys) ≡ Some j → j ≤ n
greatest_bound f n [] j low h = let none : 0 ≡ j = cc h in omega (arith, none)
greatest_bound f n (key ∷ keys) j low h = go (λ b k. greatest_bound f n keys b low k) (f key) refl (greatest_of (map f keys)) refl h
  where
    go : ((b : ℕ) → greatest_of (map f keys) ≡ Some b → b ≤ n) → (l : Option ℕ) → f key ≡ l → (g : Option ℕ) → greatest_of (map f keys) ≡ g → greater_level l g ≡ Some j → j ≤ n
    go ih None e g k h = cc h
    go ih (Some a) e None k h = cc h
    go ih (Some a) e (Some b) k h =
        let own = low key a e in
        let later = ih b k in
        let m : max a b ≡ j = cc h in
        omega (arith, own, later, m)

bound : (db : Db) (n : ℕ) (key : RelKey) (i : ℕ) → level_within n db key ≡ Some i → i ≤ n
bound db zero key i h = go (range_at db key) h
  where
    go : (r : Option Range) → range_level (λ view. None) r ≡ Some i → i ≤ 0
    go None e = cc e
    go (Some (Kept relation)) e = let none : 0 ≡ i = cc e in omega (arith, none)
    go (Some (Viewed view)) e = cc e
bound db (suc n) key i h = go (bound db n) (range_at db key) h
  where
    go : ((k : RelKey) (j : ℕ) → level_within n db k ≡ Some j → j ≤ n) → (r : Option Range) → range_level (λ view. level_above (map (level_within n db) (vars_of view.query))) r ≡ Some i → i ≤ suc n
    go ih None e = cc e
    go ih (Some (Kept relation)) e = let none : 0 ≡ i = cc e in omega (arith, none)
    go ih (Some (Viewed view)) e =
        let top = one_less (greatest_of (map (level_within n db) (vars_of view.query))) i e in
        let below = greatest_bound (level_within n db) n (vars_of view.query) top.0 ih top.2 in
        omega (arith, below, top.1)

each_level : (test : RelKey → Bool) (keys : List RelKey) → IsTrue (list_all test keys) → AllByRecursion (λ key. test key ≡ true) keys
each_level test [] t = tt
each_level test (key ∷ keys) t = let parts = both (test key) (list_all test keys) t in (parts.0, each_level test keys parts.1)

within_more : (db : Db) (n : ℕ) (key : RelKey) → is_some (level_within n db key) ≡ true → level_within n db key ≡ level_within (suc n) db key
within_more db zero key there = go (range_at db key) there
  where
    go : (r : Option Range) → is_some (range_level (λ view. None) r) ≡ true → range_level (λ view. None) r ≡ range_level (λ view. level_above (map (level_within zero db) (vars_of view.query))) r
    go None h = refl
    go (Some (Kept relation)) h = refl
    go (Some (Viewed view)) h = cc h
within_more db (suc n) key there = go (within_more db n) (range_at db key) there
  where
    go : ((k : RelKey) → is_some (level_within n db k) ≡ true → level_within n db k ≡ level_within (suc n) db k) → (r : Option Range) → is_some (range_level (λ view. level_above (map (level_within n db) (vars_of view.query))) r) ≡ true
        → range_level (λ view. level_above (map (level_within n db) (vars_of view.query))) r ≡ range_level (λ view. level_above (map (level_within (suc n) db) (vars_of view.query))) r
    go ih None h = refl
    go ih (Some (Kept relation)) h = refl
    go ih (Some (Viewed view)) h =
        ap level_above (map_same (λ key. is_some (level_within n db key) ≡ true) (level_within n db) (level_within (suc n) db) (vars_of view.query)
        (each_level (λ key. is_some (level_within n db key)) (vars_of view.query) (there_below (level_within n db) (vars_of view.query) h)) ih)

-- ---- the level of a query

-- a view of it isn't too high exactly where what it names is below the greatest level
pub below_the_greatest : (db : Db) (q : Query) → IsTrue (not (is_too_high (query_level db q))) → IsTrue (list_all (λ key. is_some (level_within 15 db key)) (vars_of q))
unfolding query_level level_of
below_the_greatest db q t = go (greatest_of (map (level_within greatest_level db) (vars_of q))) refl t
  where
    go : (g : Option ℕ) → greatest_of (map (level_within greatest_level db) (vars_of q)) ≡ g → IsTrue (not (is_too_high (option_map suc g))) → IsTrue (list_all (λ key. is_some (level_within 15 db key)) (vars_of q))
    go None e t = cc t
    go (Some j) e t =
        let low = not_high j t in
        as_test (λ k. is_some (level_within 15 db k)) (vars_of q)
        (each_maps (λ k. IsAtMost j (level_within greatest_level db k)) (λ k. is_some (level_within 15 db k) ≡ true) (vars_of q)
        (each_at_most (level_within greatest_level db) (vars_of q) j e) (λ k at. lower db 15 k at.0 at.2 (omega (arith, at.1, low))))
      where
        not_high : (j : ℕ) → IsTrue (not (nat_lt greatest_level (suc j))) → j ≤ 15
        not_high j t = grind (arith, nat_tests, t)

pub not_too_high : (db : Db) (q : Query) → IsTrue (list_all (λ key. is_some (level_within 15 db key)) (vars_of q)) → IsTrue (not (is_too_high (query_level db q)))
unfolding query_level level_of
not_too_high db q t =
    ap (λ ls. not (is_too_high (level_above ls))) (sym (map_same (λ key. is_some (level_within 15 db key) ≡ true) (level_within 15 db) (level_within greatest_level db) (vars_of q)
    (each_level (λ key. is_some (level_within 15 db key)) (vars_of q) t) (λ key there. within_more db 15 key there)))
    ∙ go (greatest_of (map (level_within 15 db) (vars_of q))) refl (there_above (level_within 15 db) (vars_of q) t)
  where
    small : (j : ℕ) → j ≤ 15 → IsTrue (not (nat_lt greatest_level (suc j)))
    small j low = grind (arith, nat_tests, low)

    go : (g : Option ℕ) → greatest_of (map (level_within 15 db) (vars_of q)) ≡ g → is_some (option_map suc g) ≡ true → IsTrue (not (is_too_high (option_map suc g)))
    go None e there = cc there
    go (Some j) e there = small j (greatest_bound (level_within 15 db) 15 (vars_of q) j (bound db 15) e)

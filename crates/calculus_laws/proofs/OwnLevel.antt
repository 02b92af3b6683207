-- What has a level has no more rows through more levels than its own.
use Rattle.std.proofs.Common.{◌≡◌, refl, sym, ap, ◌∙◌, ℕ, zero, suc, ◌<◌, ◌≤◌, max, true, ◌⊎◌, inl, inr, List, [], ◌∷◌, map, Option, Some, None, is_some, option_map, arith}
use Rattle.std.proofs.lemmas.Bool.{cases_lt}
use Rattle.std.specs.List.{AllByRecursion}
use Rattle.calculus.specs.declared.query.RelKey.{RelKey}
use Rattle.calculus.specs.Limits.{greatest_level}
use Rattle.calculus.specs.Who.{Who}
use Rattle.calculus.specs.Database.{Db, Relation, View}
use Rattle.calculus.specs.Stored.{Kept, Viewed, range_at}
use Rattle.calculus.specs.QueryParts.{vars_of}
use Rattle.calculus.specs.Sizes.{greater_level, greatest_of, level_above, level_within, level_of}
use Rattle.calculus.specs.VariableRows.{rows_within, rows_of}
use Rattle.calculus_laws.proofs.Enough.{all_there, enough, more_levels, all_map}
use Rattle.calculus_laws.proofs.Through.{said_at, level_said, each_said}

-- ---- where there is a level, there is one through more levels

there_both : (l g : Option ℕ) → is_some l ≡ true → is_some (option_map suc g) ≡ true → is_some (option_map suc (greater_level l g)) ≡ true
there_both None g h k = cc h
there_both (Some i) None h k = cc k
there_both (Some i) (Some j) h k = refl

there_above : (f : RelKey → Option ℕ) (keys : List RelKey) → AllByRecursion (λ key. is_some (f key) ≡ true) keys → is_some (level_above (map f keys)) ≡ true
there_above f [] h = refl
there_above f (key ∷ keys) h = there_both (f key) (greatest_of (map f keys)) h.0 (there_above f keys h.1)

-- there is a level of this key through any more levels
abbrev StaysThere : Db → ℕ → RelKey → Option ℕ → Type 0
StaysThere db m key level = is_some level ≡ true → (n : ℕ) → m ≤ n → is_some (level_within n db key) ≡ true

kept_there : (db : Db) (key : RelKey) (relation : Relation) → range_at db key ≡ Some (Kept relation) → (n : ℕ) → is_some (level_within n db key) ≡ true
kept_there db key relation e n = ap is_some (said_at level_said n db key (Some (Kept relation)) e)

view_there : (db : Db) (m : ℕ) (level : RelKey → Option ℕ) → ((key : RelKey) → StaysThere db m key (level key)) → (key : RelKey) (view : View)
    → range_at db key ≡ Some (Viewed view) → StaysThere db (suc m) key (level_above (map level (vars_of view.query)))
view_there db m level below key view e there zero h = absurd (omega (arith, h))
view_there db m level below key view e there (suc n) h =
    ap is_some (said_at level_said (suc n) db key (Some (Viewed view)) e)
    ∙ there_above (level_within n db) (vars_of view.query)
    (all_map (λ k. is_some (level k) ≡ true) (λ k. is_some (level_within n db k) ≡ true) (λ k one. below k one n (omega (arith, h))) (vars_of view.query)
    (all_there level (vars_of view.query) there))

more_there : (db : Db) (m : ℕ) (key : RelKey) → StaysThere db m key (level_within m db key)
more_there db =
    each_said level_said db (StaysThere db) (record {
      nothing = λ m f key e there. cc there;
      kept = λ m f key relation e there n h. kept_there db key relation e n;
      view_past = λ key view e there. cc there;
      view_above = view_there db;
    })

-- ---- what a view names has smaller levels

-- the level is there and at most this
abbrev IsAtMost : ℕ → Option ℕ → Type 0
IsAtMost bound l = (i : ℕ) × (i ≤ bound) × (l ≡ Some i)

both_at_most : (l g : Option ℕ) (j : ℕ) → greater_level l g ≡ Some j → IsAtMost j l × IsAtMost j g
both_at_most None g j h = cc h
both_at_most (Some i) None j h = cc h
both_at_most (Some i) (Some k) j h =
    let e : max i k ≡ j = cc h in
    ((i, omega (arith, e), refl), (k, omega (arith, e), refl))

each_at_most : (f : RelKey → Option ℕ) (keys : List RelKey) (j : ℕ) → greatest_of (map f keys) ≡ Some j → AllByRecursion (λ key. IsAtMost j (f key)) keys
each_at_most f [] j h = tt
each_at_most f (key ∷ keys) j h =
    let parts = both_at_most (f key) (greatest_of (map f keys)) j h in
    let later = parts.1 in (
      parts.0,
      all_map (λ k. IsAtMost later.0 (f k)) (λ k. IsAtMost j (f k)) (λ k at. (at.0, omega (arith, at.1, later.1), at.2)) keys
          (each_at_most f keys later.0 later.2),
    )

one_less : (g : Option ℕ) (m : ℕ) → option_map suc g ≡ Some m → (j : ℕ) × (m ≡ suc j) × (g ≡ Some j)
one_less None m h = cc h
one_less (Some j) m h = (j, cc h, refl)

-- ---- the own level of what has one

view_own : (f g : RelKey → Option ℕ) (keys : List RelKey) (m : ℕ) → level_above (map f keys) ≡ Some (suc m)
    → ((key : RelKey) (i : ℕ) → i ≤ m → f key ≡ Some i → is_some (g key) ≡ true) → is_some (level_above (map g keys)) ≡ true
view_own f g keys m h more =
    let top = one_less (greatest_of (map f keys)) (suc m) h in
    there_above g keys
    (all_map (λ k. IsAtMost top.0 (f k)) (λ k. is_some (g k) ≡ true) (λ k at. more k at.0 (omega (arith, at.1, top.1)) at.2) keys
    (each_at_most f keys top.0 top.2))

-- the level of this key is enough for it to have one
abbrev IsOwn : Db → RelKey → Option ℕ → Type 0
IsOwn db key level = (m : ℕ) → level ≡ Some m → is_some (level_within m db key) ≡ true

view_is_own : (db : Db) (level : RelKey → Option ℕ) → ((key : RelKey) → IsOwn db key (level key)) → (key : RelKey) (view : View) → range_at db key ≡ Some (Viewed view)
    → IsOwn db key (level_above (map level (vars_of view.query)))
view_is_own db level below key view e zero h = let top = one_less (greatest_of (map level (vars_of view.query))) 0 h in absurd (omega (arith, top.1))
view_is_own db level below key view e (suc m) h =
    ap is_some (said_at level_said (suc m) db key (Some (Viewed view)) e)
    ∙ view_own level (level_within m db) (vars_of view.query) m h (λ k i low at. more_there db i k (below k i at) m low)

own : (db : Db) (n : ℕ) (key : RelKey) → IsOwn db key (level_within n db key)
own db =
    each_said level_said db (λ n. IsOwn db) (record {
      nothing = λ n f key e m h. cc h;
      kept = λ n f key relation e m h. kept_there db key relation e m;
      view_past = λ key view e m h. cc h;
      view_above = λ n level below key view e. view_is_own db level below key view e;
    })

own_there : (db : Db) (key : RelKey) (level : ℕ) → level_of db key ≡ Some level → is_some (level_within level db key) ≡ true
unfolding level_of
own_there db key level h = own db greatest_level key level h

greatest_rows : (db : Db) (who : Who) (key : RelKey) (m : ℕ) → m ≤ greatest_level → is_some (level_within m db key) ≡ true
    → (attrs : List ℕ) → rows_of db who key attrs ≡ rows_within m db who key attrs
unfolding rows_of
greatest_rows db who key m h there attrs = enough db who m key there greatest_level h attrs

pub own_level : (db : Db) (who : Who) (key : RelKey) (level : ℕ) → level_of db key ≡ Some level
    → (n : ℕ) → level ≤ n → (attrs : List ℕ) → rows_within n db who key attrs ≡ rows_of db who key attrs
own_level db who key level e n h attrs = go (cases_lt greatest_level level)
  where
    go : (greatest_level < level) ⊎ (level ≤ greatest_level) → rows_within n db who key attrs ≡ rows_of db who key attrs
    go (inl above) = more_levels db who key (ap is_some e) n (omega (arith, above, h)) attrs
    go (inr within) =
        enough db who level key (own_there db key level e) n h attrs ∙ sym (greatest_rows db who key level within (own_there db key level e) attrs)

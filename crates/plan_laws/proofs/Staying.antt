-- Two databases in which what stands under some keys is alike, and views under them name only such keys. Levels, sizes and kinds of what stands under these keys are the same in both.
use Rattle.std.proofs.Common.{◌≡◌, refl, ap, ◌∙◌, ℕ, zero, suc, ◌+◌, Bool, true, false, ◌&&◌, cond, List, [], ◌∷◌, Option, Some, None, map, filter}
use Rattle.std.specs.Prelude.{is_some, fold, sum_by}
use Rattle.std.specs.List.{list_all, AllByRecursion, enumerate_from}
use Rattle.calculus.specs.declared.query.RelKey.{RelKey}
use Rattle.calculus.specs.declared.query.Query.{Query}
use Rattle.calculus.specs.Database.{Db, View, is_relation}
use Rattle.calculus.specs.Limits.{greatest_level}
use Rattle.calculus.specs.Lists.{is_any}
use Rattle.calculus.specs.Stored.{Range, Kept, Viewed, range_at, info_at, attrs_at, kinds_at}
use Rattle.calculus.specs.QueryParts.{vars_of, targets_of, qual_of}
use Rattle.calculus.specs.Used.{used_in_query, used_vars}
use Rattle.calculus.specs.Sizes.{Measure, Known, measures, term_size, qual_size, range_level, level_above, level_within, level_of, range_measure, query_measure, measure_within, measure_of, plain_measure}
use Rattle.plan_laws.proofs.Alike.{AlikeRange, range_attrs_same, range_there_same}

-- under each of these keys the two have the like, and views there name such keys alone
pub record Staying (P : RelKey → Type 0) (db later : Db) : Type 0 where
  pub ranges : (key : RelKey) → P key → AlikeRange (range_at db key) (range_at later key)
  pub relations : (key : RelKey) → P key → is_relation db key ≡ is_relation later key
  pub closed : (key : RelKey) (view : View) → P key → range_at db key ≡ Some (Viewed view) → AllByRecursion P (vars_of view.query)

-- ---- lists

pub map_same : {X Y : Type 0} (P : X → Type 0) (f g : X → Y) (xs : List X) → AllByRecursion P xs → ((x : X) → P x → f x ≡ g x) → map f xs ≡ map g xs
map_same P f g [] h e = refl
map_same P f g (x ∷ xs) h e = λ i. e x h.0 i ∷ map_same P f g xs h.1 e i

pub all_same : {X : Type 0} (P : X → Type 0) (f g : X → Bool) (xs : List X) → AllByRecursion P xs → ((x : X) → P x → f x ≡ g x) → list_all f xs ≡ list_all g xs
all_same P f g [] h e = refl
all_same P f g (x ∷ xs) h e = λ i. e x h.0 i && all_same P f g xs h.1 e i

added_same : {X : Type 0} (P : X → Type 0) (f g : X → ℕ) (n : ℕ) (xs : List X) → AllByRecursion P xs → ((x : X) → P x → f x ≡ g x) → fold (λ a x. a + f x) n xs ≡ fold (λ a x. a + g x) n xs
added_same P f g n [] h e = refl
added_same P f g n (x ∷ xs) h e = ap (λ m. fold (λ a x. a + f x) (n + m) xs) (e x h.0) ∙ added_same P f g (n + g x) xs h.1 e

sum_same : {X : Type 0} (P : X → Type 0) (f g : X → ℕ) (xs : List X) → AllByRecursion P xs → ((x : X) → P x → f x ≡ g x) → sum_by f xs ≡ sum_by g xs
sum_same P f g xs h e = added_same P f g 0 xs h e

numbered : {X : Type 0} (P : X → Type 0) (n : ℕ) (xs : List X) → AllByRecursion P xs → AllByRecursion (λ p. P p.1) (enumerate_from n xs)
numbered P n [] h = tt
numbered P n (x ∷ xs) h = (h.0, numbered P (n + 1) xs h.1)

each_filter : {X : Type 0} (P : X → Type 0) (kept : X → Bool) (xs : List X) → AllByRecursion P xs → AllByRecursion P (filter kept xs)
each_filter P kept [] h = tt
each_filter {X} P kept (x ∷ xs) h = go (kept x) (each_filter P kept xs h.1)
  where
    go : (b : Bool) → AllByRecursion P (filter kept xs) → AllByRecursion P (cond b (x ∷ filter kept xs) (filter kept xs))
    go true later = (h.0, later)
    go false later = later

-- ---- levels

range_level_by : (f g : View → Option ℕ) (r s : Option Range) → ((view : View) → r ≡ Some (Viewed view) → f view ≡ g view) → AlikeRange r s → range_level f r ≡ range_level g s
range_level_by f g None None h a = refl
range_level_by f g None (Some s) h a = absurd a
range_level_by f g (Some r) None h a = absurd a
range_level_by f g (Some (Kept r)) (Some (Kept s)) h a = refl
range_level_by f g (Some (Kept r)) (Some (Viewed w)) h a = absurd a
range_level_by f g (Some (Viewed v)) (Some (Kept s)) h a = absurd a
range_level_by f g (Some (Viewed v)) (Some (Viewed w)) h a = h v refl ∙ ap g a

pub level_stays : (P : RelKey → Type 0) (db later : Db) → Staying P db later → (n : ℕ) (key : RelKey) → P key → level_within n db key ≡ level_within n later key
level_stays P db later stay zero key p = range_level_by (λ view. None) (λ view. None) (range_at db key) (range_at later key) (λ view e. refl) (stay.ranges key p)
level_stays P db later stay (suc n) key p =
    range_level_by (λ view. level_above (map (level_within n db) (vars_of view.query))) (λ view. level_above (map (level_within n later) (vars_of view.query))) (range_at db key) (range_at later key)
    (λ view e. ap level_above (map_same P (level_within n db) (level_within n later) (vars_of view.query) (stay.closed key view p e) (λ key p. level_stays P db later stay n key p))) (stay.ranges key p)

pub level_stays_same : (P : RelKey → Type 0) (db later : Db) → Staying P db later → (key : RelKey) → P key → level_of db key ≡ level_of later key
unfolding level_of
level_stays_same P db later stay key p = level_stays P db later stay greatest_level key p

-- ---- sizes

query_measure_same : (P : RelKey → Type 0) (known other : Known) (q : Query) → AllByRecursion P (vars_of q) → ((key : RelKey) → P key → known key ≡ other key) → query_measure known q ≡ query_measure other q
query_measure_same P known other q h e = λ i. record {
  variables = sum_same (λ p. P p.1) (λ p. (known p.1).variables) (λ p. (other p.1).variables) (used_vars q) used (λ p h. ap (λ m. m.variables) (e p.1 h)) i;
  attrs = map (λ t. term_size (same i) t.term) (targets_of q);
  qual = qual_size (same i) (qual_of q) + sum_same (λ p. P p.1) (λ p. (known p.1).qual) (λ p. (other p.1).qual) (used_vars q) used (λ p h. ap (λ m. m.qual) (e p.1 h)) i;
}
  where
    same : measures known q ≡ measures other q
    same = map_same P known other (vars_of q) h e

    used : AllByRecursion (λ p. P p.1) (used_vars q)
    used = each_filter (λ p. P p.1) (λ p. is_any (used_in_query p.0 q)) (enumerate_from 0 (vars_of q)) (numbered P 0 (vars_of q) h)

range_measure_by : (f g : View → Measure) (r s : Option Range) → ((view : View) → r ≡ Some (Viewed view) → f view ≡ g view) → AlikeRange r s → range_measure f r ≡ range_measure g s
range_measure_by f g None None h a = refl
range_measure_by f g None (Some s) h a = absurd a
range_measure_by f g (Some r) None h a = absurd a
range_measure_by f g (Some (Kept r)) (Some (Kept s)) h a = refl
range_measure_by f g (Some (Kept r)) (Some (Viewed w)) h a = absurd a
range_measure_by f g (Some (Viewed v)) (Some (Kept s)) h a = absurd a
range_measure_by f g (Some (Viewed v)) (Some (Viewed w)) h a = h v refl ∙ ap g a

measure_stays : (P : RelKey → Type 0) (db later : Db) → Staying P db later → (n : ℕ) (key : RelKey) → P key → measure_within n db key ≡ measure_within n later key
measure_stays P db later stay zero key p = range_measure_by (λ view. plain_measure) (λ view. plain_measure) (range_at db key) (range_at later key) (λ view e. refl) (stay.ranges key p)
measure_stays P db later stay (suc n) key p =
    range_measure_by (λ view. query_measure (measure_within n db) view.query) (λ view. query_measure (measure_within n later) view.query) (range_at db key) (range_at later key)
    (λ view e. query_measure_same P (measure_within n db) (measure_within n later) view.query (stay.closed key view p e) (λ key p. measure_stays P db later stay n key p)) (stay.ranges key p)

-- the measure of a query whose variables range over such keys
pub query_stays : (P : RelKey → Type 0) (db later : Db) → Staying P db later → (q : Query) → AllByRecursion P (vars_of q) → query_measure (measure_of db) q ≡ query_measure (measure_of later) q
unfolding measure_of
query_stays P db later stay q h = query_measure_same P (measure_of db) (measure_of later) q h (λ key p. measure_stays P db later stay greatest_level key p)

-- ---- attributes and kinds

pub attrs_stay : (P : RelKey → Type 0) (db later : Db) → Staying P db later → (key : RelKey) → P key → attrs_at db key ≡ attrs_at later key
unfolding info_at
attrs_stay P db later stay key p = range_attrs_same (range_at db key) (range_at later key) (stay.ranges key p)

pub kinds_stay : (P : RelKey → Type 0) (db later : Db) → Staying P db later → (key : RelKey) → P key → kinds_at db key ≡ kinds_at later key
kinds_stay P db later stay key p = ap (map (λ a. a.kind)) (attrs_stay P db later stay key p)

pub there_stays : (P : RelKey → Type 0) (db later : Db) → Staying P db later → (key : RelKey) → P key → is_some (range_at db key) ≡ is_some (range_at later key)
there_stays P db later stay key p = range_there_same (range_at db key) (range_at later key) (stay.ranges key p)

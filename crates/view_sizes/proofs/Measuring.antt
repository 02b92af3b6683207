-- What numbers that stop at the greatest of 64 bits say of sizes.
use Rattle.std.proofs.Common.{◌≡◌, refl, sym, ap, ◌∙◌, ℕ, zero, suc, ◌+◌, ◌-◌, ◌^◌, ◌<◌, ◌≤◌, min, arith, Bool, true, false, cond, List, [], ◌∷◌, map, length, take, get_or, sum, nat_le, ◌&&◌, Option, Some, None, unwrap_or, slice_get}
use Rattle.std.specs.List.{filter, sum_by, enumerate_from}
use Rattle.std.specs.Option.{option_map}
use Rattle.std.proofs.lemmas.List.Sums.{sum_by-cons}
use Rattle.std.proofs.lemmas.Option.{slice_get-map}
use Rattle.calculus.specs.declared.query.QTerm.{QTerm, Int, Chars, Attr, Agg'}
use Rattle.calculus.specs.declared.query.QQual.{QQual, True, Cmp, Like}
use Rattle.calculus.specs.Tree.{neg, abs, operation, concat, both, either, negated}
use Rattle.calculus.specs.declared.query.RelKey.{RelKey}
use Rattle.calculus.specs.declared.query.Query.{Query}
use Rattle.calculus.specs.declared.query.Target.{Target}
use Rattle.calculus.specs.Catalogue.{catalogue_at}
use Rattle.calculus.specs.Database.{Db, Relation, View, relation_at, view_at}
use Rattle.calculus.specs.Lists.{is_any}
use Rattle.calculus.specs.IsDatabase.{IsDatabase}
use Rattle.calculus.specs.declared.query.QAgg.{QAgg}
use Rattle.calculus.specs.QueryParts.{vars_of, targets_of, qual_of, query_aggregates}
use Rattle.calculus.specs.Sizes.{Measure, Measures, Known, attr_size, term_size, qual_size, measures, query_measure, range_measure, measure_within, measure_of, plain_measure, variables, expanded_variables, query_size, source_variables}
use Rattle.calculus.specs.Stored.{Range, Kept, Viewed, range_at}
use Rattle.calculus.specs.Used.{used_in_query, used_vars}
use Rattle.base_trait.specs.Known.{query_at}
use Rattle.view_sizes.proofs.Counting.{counted, one_first, one_more}
use Rattle.view_sizes.proofs.Viewed.{as_its_query}
use Rattle.view_sizes.proofs.Stopped.{stopped_le}
use Rattle.view_sizes.specs.declared.sizes.Measure.{Measure as Held}
use Rattle.view_sizes.specs.Measured.{held, stopped, stopped_measure}

-- one variable more
pub count_more : {X : Type 0} (p : ℕ → Bool) (f : X → ℕ) (xs : List X) (i : ℕ) (x : X) (place count more now : ℕ) → i < length xs → x ≡ get_or xs i x
    → i + 1 ≤ 256 → place ≡ min i 255 → count ≡ min (counted p f 0 (take i xs)) (2 ^ 64 - 1) → more ≡ cond (p place) (f x) 0
    → now ≡ min (count + more) (2 ^ 64 - 1) → now ≡ min (counted p f 0 (take (i + 1) xs)) (2 ^ 64 - 1)
count_more p f xs i x place count more now h e few at c m n =
    n ∙ go (p i) (m ∙ ap (λ k. cond (p k) (f x) 0) here) ∙ ap (λ k. min k (2 ^ 64 - 1)) (sym (one_more p f xs i x h e))
  where
    here : place ≡ i
    here = omega arith

    go : (b : Bool) → more ≡ cond b (f x) 0 → min (count + more) (2 ^ 64 - 1) ≡ min (counted p f 0 (take i xs) + cond b (f x) 0) (2 ^ 64 - 1)
    go true k = omega arith
    go false k = omega arith

-- ---- what is counted

-- numbers that are stopped first count the same, stopped
counted_stopped : {X : Type 0} (p : ℕ → Bool) (f : X → ℕ) (k : ℕ) (xs : List X) → min (counted p (λ x. stopped (f x)) k xs) (2 ^ 64 - 1) ≡ min (counted p f k xs) (2 ^ 64 - 1)
counted_stopped p f k [] = refl
counted_stopped p f k (x ∷ xs) =
    ap stopped (one_first p (λ x. stopped (f x)) k x xs) ∙ go (p k) (counted_stopped p f (k + 1) xs) ∙ sym (ap stopped (one_first p f k x xs))
  where
    go : (b : Bool) → min (counted p (λ x. stopped (f x)) (k + 1) xs) (2 ^ 64 - 1) ≡ min (counted p f (k + 1) xs) (2 ^ 64 - 1)
        → min (cond b (stopped (f x)) 0 + counted p (λ x. stopped (f x)) (k + 1) xs) (2 ^ 64 - 1) ≡ min (cond b (f x) 0 + counted p f (k + 1) xs) (2 ^ 64 - 1)
    go true ih = omega arith
    go false ih = omega arith

-- what is counted of items that are made of others
counted_map : {X Y : Type 0} (p : ℕ → Bool) (f : Y → ℕ) (g : X → Y) (k : ℕ) (xs : List X) → counted p f k (map g xs) ≡ counted p (λ x. f (g x)) k xs
counted_map p f g k [] = refl
counted_map p f g k (x ∷ xs) =
    one_first p f k (g x) (map g xs) ∙ ap (λ n. cond (p k) (f (g x)) 0 + n) (counted_map p f g (k + 1) xs) ∙ sym (one_first p (λ x. f (g x)) k x xs)

-- ---- sizes

attr_stopped : (vars : Measures) (var attr : ℕ) → stopped (attr_size (map stopped_measure vars) var attr) ≡ stopped (attr_size vars var attr)
attr_stopped vars var attr = ap (λ o. stopped (in_measure o)) (slice_get-map stopped_measure vars var) ∙ go (slice_get vars var)
  where
    attr_of : Option Measure → Option ℕ
    attr_of None = None
    attr_of (Some m) = slice_get m.attrs attr

    in_measure : Option Measure → ℕ
    in_measure o = unwrap_or (attr_of o) 1

    of_attr : (o : Option ℕ) → stopped (unwrap_or (option_map stopped o) 1) ≡ stopped (unwrap_or o 1)
    of_attr None = refl
    of_attr (Some n) = omega arith

    go : (o : Option Measure) → stopped (in_measure (option_map stopped_measure o)) ≡ stopped (in_measure o)
    go None = refl
    go (Some m) = ap (λ o. stopped (unwrap_or o 1)) (slice_get-map stopped m.attrs attr) ∙ of_attr (slice_get m.attrs attr)

one_stopped : (a b : ℕ) → stopped a ≡ stopped b → stopped (1 + a) ≡ stopped (1 + b)
one_stopped a b h = omega arith

two_stopped : (a b c d : ℕ) → stopped a ≡ stopped b → stopped c ≡ stopped d → stopped (1 + (a + c)) ≡ stopped (1 + (b + d))
two_stopped a b c d h k = omega arith

term_stopped : (vars : Measures) (t : QTerm) → stopped (term_size (map stopped_measure vars) t) ≡ stopped (term_size vars t)
unfolding term_size
term_stopped vars (Int n) = refl
term_stopped vars (Chars bytes) = refl
term_stopped vars (Attr var attr) = attr_stopped vars var attr
term_stopped vars (neg t) = one_stopped _ _ (term_stopped vars t)
term_stopped vars (abs t) = one_stopped _ _ (term_stopped vars t)
term_stopped vars (operation op t u) = two_stopped _ _ _ _ (term_stopped vars t) (term_stopped vars u)
term_stopped vars (concat t u) = two_stopped _ _ _ _ (term_stopped vars t) (term_stopped vars u)
term_stopped vars (Agg' mark row) = refl

qual_stopped : (vars : Measures) (q : QQual) → stopped (qual_size (map stopped_measure vars) q) ≡ stopped (qual_size vars q)
unfolding qual_size
qual_stopped vars True = refl
qual_stopped vars (Cmp op t u) = two_stopped _ _ _ _ (term_stopped vars t) (term_stopped vars u)
qual_stopped vars (Like t pattern same) = two_stopped _ _ 1 1 (term_stopped vars t) refl
qual_stopped vars (both p q) = two_stopped _ _ _ _ (qual_stopped vars p) (qual_stopped vars q)
qual_stopped vars (either p q) = two_stopped _ _ _ _ (qual_stopped vars p) (qual_stopped vars q)
qual_stopped vars (negated p) = one_stopped _ _ (qual_stopped vars p)

-- ---- a whole measure

quals_alike : (known : Known) (q : Query) (ms : List Held) → map held ms ≡ map (λ key. stopped_measure (known key)) (vars_of q) → map held ms ≡ map stopped_measure (measures known q)
quals_alike known q ms h = h ∙ twice (vars_of q)
  where
    twice : (keys : List RelKey) → map (λ key. stopped_measure (known key)) keys ≡ map stopped_measure (map known keys)
    twice [] = refl
    twice (k ∷ keys) = ap (λ ms. stopped_measure (known k) ∷ ms) (twice keys)

-- what is counted of measures that are held is what is counted of those that are known
used_alike : (p : ℕ → Bool) (f : Measure → ℕ) (known : Known) (q : Query) (ms : List Held) → ((m : Measure) → f (stopped_measure m) ≡ stopped (f m))
    → map held ms ≡ map (λ key. stopped_measure (known key)) (vars_of q) → stopped (counted p (λ m. f (held m)) 0 ms) ≡ stopped (counted p (λ key. f (known key)) 0 (vars_of q))
used_alike p f known q ms e h =
    ap stopped (sym (counted_map p f held 0 ms) ∙ ap (counted p f 0) h ∙ counted_map p f (λ key. stopped_measure (known key)) 0 (vars_of q) ∙ same (vars_of q) 0)
    ∙ counted_stopped p (λ key. f (known key)) 0 (vars_of q)
  where
    same : (keys : List RelKey) (k : ℕ) → counted p (λ key. f (stopped_measure (known key))) k keys ≡ counted p (λ key. stopped (f (known key))) k keys
    same [] k = refl
    same (key ∷ keys) k =
        one_first p (λ key. f (stopped_measure (known key))) k key keys
        ∙ (λ i. cond (p k) (e (known key) i) 0 + same keys (k + 1) i) ∙ sym (one_first p (λ key. stopped (f (known key))) k key keys)

sizes_alike : (vars : Measures) (ts : List Target) → map (λ (t : Target). stopped (term_size (map stopped_measure vars) t.term)) ts ≡ map stopped (map (λ (t : Target). term_size vars t.term) ts)
sizes_alike vars [] = refl
sizes_alike vars (t ∷ ts) = λ i. term_stopped vars t.term i ∷ sizes_alike vars ts i

both_stopped : (a b c d : ℕ) → stopped a ≡ stopped b → stopped c ≡ stopped d → stopped (stopped a + stopped c) ≡ stopped (b + d)
both_stopped a b c d h k = omega arith

-- a query is measured by what is held of its variables
pub measured_so : (known : Known) (q : Query) (ms : List Held) (m : Held) (targets : List Target) (qual : QQual) (own below : ℕ) → targets ≡ targets_of q → qual ≡ qual_of q
    → map held ms ≡ map (λ key. stopped_measure (known key)) (vars_of q)
    → m.variables ≡ stopped (counted (λ v. is_any (used_in_query v q)) (λ (m : Held). m.variables) 0 ms)
    → m.attrs.items ≡ map (λ (t : Target). stopped (term_size (map held ms) t.term)) targets
    → own ≡ stopped (qual_size (map held ms) qual) → below ≡ stopped (counted (λ v. is_any (used_in_query v q)) (λ (m : Held). m.qual) 0 ms) → m.qual ≡ stopped (own + below)
    → held m ≡ stopped_measure (query_measure known q)
measured_so known q ms m targets qual own below et eq h v a o b s = λ i. record { variables = vs i; attrs = ats i; qual = qs i }
  where
    alike : map held ms ≡ map stopped_measure (measures known q)
    alike = quals_alike known q ms h

    used : ℕ → Bool
    used v = is_any (used_in_query v q)

    vs : m.variables ≡ stopped (query_measure known q).variables
    vs = v ∙ used_alike used (λ m. m.variables) known q ms (λ m. refl) h

    ats : m.attrs.items ≡ map stopped (query_measure known q).attrs
    ats = a ∙ (λ i. map (λ (t : Target). stopped (term_size (alike i) t.term)) (et i)) ∙ sizes_alike (measures known q) (targets_of q)

    of_qual : stopped (qual_size (map held ms) qual) ≡ stopped (qual_size (measures known q) (qual_of q))
    of_qual = (λ i. stopped (qual_size (alike i) (eq i))) ∙ qual_stopped (measures known q) (qual_of q)

    qs : m.qual ≡ stopped (query_measure known q).qual
    qs =
        s ∙ (λ i. stopped (o i + b i))
        ∙ both_stopped (qual_size (map held ms) qual) (qual_size (measures known q) (qual_of q)) (counted used (λ (m : Held). m.qual) 0 ms) (counted used (λ key. (known key).qual) 0 (vars_of q)) of_qual
        (used_alike used (λ m. m.qual) known q ms (λ m. refl) h)

-- ---- where no view stands

-- through no levels of views each is as where rows are kept
pub none_through : (db : Db) (key : RelKey) → plain_measure ≡ measure_within 0 db key
none_through db key = go (range_at db key)
  where
    go : (o : Option Range) → plain_measure ≡ range_measure (λ view. plain_measure) o
    go None = refl
    go (Some (Kept relation)) = refl
    go (Some (Viewed view)) = refl

pub plain_known : (n : ℕ) (db : Db) (key : RelKey) → query_at db key ≡ None → measure_within n db key ≡ plain_measure
unfolding range_at
plain_known zero db key h = sym (none_through db key)
plain_known (suc n) db key h = go (relation_at db key) (view_at db key) h
  where
    kept : (c : Option Relation) → range_measure (λ view. query_measure (measure_within n db) view.query) (option_map Kept c) ≡ plain_measure
    kept None = refl
    kept (Some r) = refl

    go : (r : Option Relation) (v : Option View) → option_map (λ v. v.query) v ≡ None
        → range_measure (λ view. query_measure (measure_within n db) view.query) (elim r as (λ x. Option Range) [ Some relation ↦ Some (Kept relation) | None ↦ elim v as (λ x. Option Range) [ Some view ↦ Some (Viewed view) | None ↦ option_map Kept (catalogue_at db key) ] ]) ≡ plain_measure
    go (Some r) v h = refl
    go None (Some v) h = absurd (cc h)
    go None None h = kept (catalogue_at db key)

-- ---- how many

ones : {X : Type 0} (ys : List X) → sum_by (λ y. 1) ys ≡ length ys
ones [] = refl
ones (y ∷ ys) = sum_by-cons (λ y. 1) y ys ∙ ap (λ n. 1 + n) (ones ys) ∙ (let next : 1 + length ys ≡ suc (length ys) = omega arith in next)

pub count_is : {X : Type 0} (p : ℕ → Bool) (xs : List X) → counted p (λ x. 1) 0 xs ≡ length (filter (λ e. p e.0) (enumerate_from 0 xs))
count_is p xs = ones (filter (λ e. p e.0) (enumerate_from 0 xs))

-- ---- in a base

as_long : (ms : List Held) → length (map held ms) ≡ length ms
as_long [] = refl
as_long (m ∷ ms) = ap suc (as_long ms)

as_many : (f : RelKey → Measure) (keys : List RelKey) → length (map f keys) ≡ length keys
as_many f [] = refl
as_many f (key ∷ keys) = ap suc (as_many f keys)

-- so many are held as variables are listed
pub few_held : (known : Known) (q : Query) (ms : List Held) → map held ms ≡ map (λ key. stopped_measure (known key)) (vars_of q) → length (vars_of q) ≤ 256 → length ms ≤ 256
few_held known q ms h few =
    let same : length ms ≡ length (vars_of q) = sym (as_long ms) ∙ ap length h ∙ as_many (λ key. stopped_measure (known key)) (vars_of q) in
    omega arith

-- where a view stands, what is known through some levels is what its query gives through one less
pub measured_through : (levels : ℕ) (db : Db) → IsDatabase db → (key : RelKey) (q : Query) → 0 < levels → Some q ≡ query_at db key → (m : Held)
    → held m ≡ stopped_measure (query_measure (measure_within (levels - 1) db) q) → held m ≡ stopped_measure (measure_within levels db key)
measured_through levels db is key q h e m k =
    let more : suc (levels - 1) ≡ levels = omega arith in
    k ∙ ap stopped_measure (sym (as_its_query (levels - 1) db is key q (sym e)) ∙ ap (λ k. measure_within k db key) more)

-- ---- limits

sum_stopped : (ns : List ℕ) → stopped (sum (map stopped ns)) ≡ stopped (sum ns)
sum_stopped [] = refl
sum_stopped (n ∷ ns) = ap stopped (sum_by-cons (λ n. n) (stopped n) (map stopped ns)) ∙ one_of_more n (sum (map stopped ns)) (sum ns) (sum_stopped ns) ∙ sym (ap stopped (sum_by-cons (λ n. n) n ns))
  where
    one_of_more : (n a b : ℕ) → stopped a ≡ stopped b → stopped (stopped n + a) ≡ stopped (n + b)
    one_of_more n a b h = omega arith

none_more : (n : ℕ) → n + 0 ≡ n
none_more n = omega arith

within : (v w a b q r : ℕ) → v ≡ stopped w → stopped a ≡ stopped b → q ≡ stopped r → (nat_le v 50 && nat_le (stopped (a + q)) 1000) ≡ (nat_le w 50 && nat_le (b + r) 1000)
within v w a b q r e f g =
    (λ i. nat_le (e i) 50 && nat_le (same i) 1000) ∙ (λ i. stopped_le w 50 (omega arith) i && stopped_le (b + r) 1000 (omega arith) i)
  where
    same : stopped (a + q) ≡ stopped (b + r)
    same = omega arith

-- what is held of a query tells whether it is within the limits of a view
pub measured_within : (db : Db) (q : Query) (m : Held) → query_aggregates q ≡ [] → held m ≡ stopped_measure (query_measure (measure_within 16 db) q)
    → (nat_le m.variables 50 && nat_le (stopped (sum m.attrs.items + m.qual)) 1000) ≡ (nat_le (expanded_variables db q) 50 && nat_le (query_size db q) 1000)
unfolding expanded_variables query_size measure_of
measured_within db q m none h = go
  where
    known : Measure
    known = query_measure (measure_within 16 db) q

    expanded : known.variables ≡ known.variables + sum_by (λ (g : QAgg). source_variables (measure_within 16 db) g.source) (query_aggregates q)
    expanded = sym (none_more known.variables) ∙ ap (λ gs. known.variables + sum_by (λ (g : QAgg). source_variables (measure_within 16 db) g.source) gs) (sym none)

    go : (nat_le m.variables 50 && nat_le (stopped (sum m.attrs.items + m.qual)) 1000)
        ≡ (nat_le (known.variables + sum_by (λ (g : QAgg). source_variables (measure_within 16 db) g.source) (query_aggregates q)) 50 && nat_le (sum known.attrs + known.qual) 1000)
    go =
        within m.variables known.variables (sum m.attrs.items) (sum known.attrs) m.qual known.qual (ap (λ (m : Measure). m.variables) h)
        (ap (λ (m : Measure). stopped (sum m.attrs)) h ∙ sum_stopped known.attrs) (ap (λ (m : Measure). m.qual) h)
        ∙ ap (λ n. nat_le n 50 && nat_le (sum known.attrs + known.qual) 1000) expanded

-- where no aggregate stands, the variables of a query are those that it uses
pub variables_used : (q : Query) → query_aggregates q ≡ [] → length (used_vars q) ≡ variables q
unfolding variables
variables_used q h = sym (none_more (length (used_vars q))) ∙ ap (λ (gs : List QAgg). length (used_vars q) + length gs) (sym h)

-- the size of what is held is that of the query, stopped
pub size_held : (db : Db) (q : Query) (m : Held) → held m ≡ stopped_measure (query_measure (measure_within 16 db) q) → stopped (sum m.attrs.items + m.qual) ≡ stopped (query_size db q)
unfolding query_size measure_of
size_held db q m h =
    both_ways (sum m.attrs.items) (sum known.attrs) m.qual known.qual (ap (λ (m : Measure). stopped (sum m.attrs)) h ∙ sum_stopped known.attrs) (ap (λ (m : Measure). m.qual) h)
  where
    known : Measure
    known = query_measure (measure_within 16 db) q

    both_ways : (a b q r : ℕ) → stopped a ≡ stopped b → q ≡ stopped r → stopped (a + q) ≡ stopped (b + r)
    both_ways a b q r f g = omega arith

-- What is known of views once the views in them are expanded.
use Rattle.std.proofs.Common.{◌≡◌, refl, sym, ap, ◌∙◌, ℕ, suc, ◌≤◌, nat_le, Bool, true, false, not, ◌||◌, ◌&&◌, cond, List, [], ◌∷◌, ◌++◌, map, length, Option, Some, None, is_some}
use Rattle.std.specs.List.{find, list_any}
use Rattle.std.specs.Option.{option_map, option_or}
use Rattle.std.proofs.lemmas.Bool.{leb-true}
use Rattle.std.proofs.lemmas.List.Folds.{find-append, list_any-append}
use Rattle.std.proofs.lemmas.List.{map-append}
use Rattle.calculus.specs.declared.query.RelKey.{RelKey}
use Rattle.calculus.specs.declared.query.Query.{Query}
use Rattle.calculus.specs.declared.schema.RelInfo.{RelInfo}
use Rattle.calculus.specs.Keys.{same_key}
use Rattle.calculus.specs.Lists.{differ_by}
use Rattle.calculus.specs.Limits.{most_expanded_variables}
use Rattle.calculus.specs.Database.{Db, Relation, View, is_relation, relation_at, view_at}
use Rattle.calculus.specs.Catalogue.{catalogue_at}
use Rattle.calculus.specs.IsDatabase.{IsDatabase}
use Rattle.calculus.specs.QueryParts.{vars_of}
use Rattle.calculus.specs.Sizes.{query_measure, range_measure, measure_within}
use Rattle.calculus.specs.Stored.{Range, Kept, Viewed, range_at}
use Rattle.base_trait.specs.Known.{query_at}
use Rattle.quel_meaning.proofs.Keys.{same_keys, keys_same}
use Rattle.quel_meaning.proofs.DatabaseFacts.{found_passes}

find_mapped : {X Y : Type 0} (p : Y → Bool) (f : X → Y) (xs : List X) → find p (map f xs) ≡ option_map f (find (λ x. p (f x)) xs)
find_mapped p f [] = refl
find_mapped p f (x ∷ xs) = go (p (f x)) (find_mapped p f xs)
  where
    go : (b : Bool) → find p (map f xs) ≡ option_map f (find (λ x. p (f x)) xs)
        → cond b (Some (f x)) (find p (map f xs)) ≡ option_map f (cond b (Some x) (find (λ x. p (f x)) xs))
    go true e = refl
    go false e = e

-- ---- no relation stands under a view's key

found_any : (key : RelKey) (is : List RelInfo) (j : RelInfo) → find (λ i. same_key i.key key) is ≡ Some j → list_any (same_key key) (map (λ (i : RelInfo). i.key) is) ≡ true
found_any key [] j h = absurd (cc h)
found_any key (i ∷ is) j h = go (same_key i.key key) refl h (found_any key is j)
  where
    in_front : (b c : Bool) → b ≡ true → (b || c) ≡ true
    in_front true c e = refl
    in_front false c e = absurd (cc e)

    behind : (b c : Bool) → c ≡ true → (b || c) ≡ true
    behind true c e = refl
    behind false c e = e

    go : (b : Bool) → same_key i.key key ≡ b → cond b (Some i) (find (λ i. same_key i.key key) is) ≡ Some j
        → (find (λ i. same_key i.key key) is ≡ Some j → list_any (same_key key) (map (λ (i : RelInfo). i.key) is) ≡ true)
        → (same_key key i.key || list_any (same_key key) (map (λ (i : RelInfo). i.key) is)) ≡ true
    go true e h later = in_front _ _ (keys_same key i.key (sym (same_keys i.key key e)))
    go false e h later = behind (same_key key i.key) _ (later h)

apart : (key : RelKey) (front more : List RelInfo) (i j : RelInfo) → differ_by same_key (map (λ (i : RelInfo). i.key) (front ++ more)) ≡ true
    → find (λ i. same_key i.key key) front ≡ Some i → find (λ i. same_key i.key key) more ≡ Some j → ⊥
apart key [] more i j d e f = absurd (cc e)
apart key (x ∷ front) more i j d e f =
    go (apart key front more i j) (same_key x.key key) refl e (list_any (same_key x.key) (map (λ (i : RelInfo). i.key) (front ++ more))) refl d
  where
    behind : (b c : Bool) → c ≡ true → (b || c) ≡ true
    behind true c e = refl
    behind false c e = e

    go : (differ_by same_key (map (λ (i : RelInfo). i.key) (front ++ more)) ≡ true → find (λ i. same_key i.key key) front ≡ Some i → find (λ i. same_key i.key key) more ≡ Some j → ⊥)
        → (b : Bool) → same_key x.key key ≡ b → cond b (Some x) (find (λ i. same_key i.key key) front) ≡ Some i
        → (a : Bool) → list_any (same_key x.key) (map (λ (i : RelInfo). i.key) (front ++ more)) ≡ a → (not a && differ_by same_key (map (λ (i : RelInfo). i.key) (front ++ more))) ≡ true → ⊥
    go later b s e true k d = cc d
    go later false s e false k d = later d e f
    go later true s e false k d =
        let there : list_any (same_key x.key) (map (λ (i : RelInfo). i.key) (front ++ more)) ≡ true =
        ap (list_any (same_key x.key)) (map-append (λ (i : RelInfo). i.key) front more)
        ∙ list_any-append (same_key x.key) (map (λ (i : RelInfo). i.key) front) (map (λ (i : RelInfo). i.key) more)
        ∙ behind _ _ (ap (λ k. list_any (same_key k) (map (λ (i : RelInfo). i.key) more)) (same_keys x.key key s) ∙ found_any key more j f) in
        let no = sym there ∙ k in cc no

no_relation : (db : Db) → IsDatabase db → (key : RelKey) (view : View) → view_at db key ≡ Some view → relation_at db key ≡ None
no_relation db is key view e = go (relation_at db key) refl
  where
    go : (o : Option Relation) → relation_at db key ≡ o → o ≡ None
    go None h = refl
    go (Some r) h = absurd (apart key (map (λ r. r.info) db.relations) (map (λ v. v.info) db.views ++ map (λ x. x.info) db.indexes) r.info view.info is.keys_differ
        (find_mapped (λ i. same_key i.key key) (λ r. r.info) db.relations ∙ ap (option_map (λ (r : Relation). r.info)) h)
        (find-append (λ i. same_key i.key key) (map (λ v. v.info) db.views) (map (λ x. x.info) db.indexes)
        ∙ ap (λ o. option_or o (find (λ (i : RelInfo). same_key i.key key) (map (λ x. x.info) db.indexes)))
        (find_mapped (λ i. same_key i.key key) (λ v. v.info) db.views ∙ ap (option_map (λ (v : View). v.info)) e)))

-- ---- measures

record IsView (db : Db) (key : RelKey) (q : Query) : Type 0 where
  view : View
  there : view_at db key ≡ Some view
  is : view.query ≡ q

of_query : (db : Db) (key : RelKey) (q : Query) → query_at db key ≡ Some q → IsView db key q
of_query db key q h = go (view_at db key) refl h
  where
    go : (o : Option View) → view_at db key ≡ o → option_map (λ v. v.query) o ≡ Some q → IsView db key q
    go None e h = absurd (cc h)
    go (Some v) e h = record { view = v; there = e; is = cc h }

-- where a view stands no relation does
pub no_base_relation : (db : Db) → IsDatabase db → (key : RelKey) (q : Query) → query_at db key ≡ Some q → is_relation db key ≡ false
no_base_relation db is key q h = let v = of_query db key q h in ap is_some (no_relation db is key v.view v.there)

-- where a view stands, its query is measured with one level less
pub as_its_query : (n : ℕ) (db : Db) → IsDatabase db → (key : RelKey) (q : Query) → query_at db key ≡ Some q → measure_within (suc n) db key ≡ query_measure (measure_within n db) q
unfolding range_at
as_its_query n db is key q h =
    let v = of_query db key q h in
    ap (λ (r : Option Relation). range_measure (λ view. query_measure (measure_within n db) view.query) (elim r as (λ x. Option Range) [ Some relation ↦ Some (Kept relation) | None ↦ elim (view_at db key) as (λ x. Option Range) [ Some view ↦ Some (Viewed view) | None ↦ option_map Kept (catalogue_at db key) ] ])) (no_relation db is key v.view v.there)
    ∙ ap (λ (o : Option View). range_measure (λ view. query_measure (measure_within n db) view.query) (elim o as (λ x. Option Range) [ Some view ↦ Some (Viewed view) | None ↦ option_map Kept (catalogue_at db key) ])) v.there
    ∙ ap (query_measure (measure_within n db)) v.is

-- a view's query lists few variables
pub lists_few : (db : Db) → IsDatabase db → (key : RelKey) (q : Query) → query_at db key ≡ Some q → length (vars_of q) ≤ most_expanded_variables
lists_few db is key q h =
    let v = of_query db key q h in
    let few = found_passes (λ (v : View). same_key v.info.key key) (λ (v : View). nat_le (length (vars_of v.query)) most_expanded_variables) db.views v.view is.few_listed_variables v.there in
    leb-true _ _ (ap (λ p. nat_le (length (vars_of p)) most_expanded_variables) (sym v.is) ∙ few)

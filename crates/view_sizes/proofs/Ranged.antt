-- What a variable may range over, and its level.
use Rattle.std.proofs.Common.{◌≡◌, refl, sym, ap, ◌∙◌, ℕ, zero, suc, ◌-◌, ◌<◌, arith, Bool, true, false, not, ◌&&◌, List, [], ◌∷◌, map, Option, Some, None, is_some}
use Rattle.std.specs.List.{list_all}
use Rattle.std.specs.Option.{option_map}
use Rattle.calculus.specs.declared.query.RelKey.{RelKey}
use Rattle.calculus.specs.declared.query.Query.{Query}
use Rattle.calculus.specs.declared.schema.RelInfo.{RelInfo}
use Rattle.calculus.specs.Database.{Db, Relation, View, is_relation, relation_at, view_at}
use Rattle.calculus.specs.Catalogue.{catalogue_at}
use Rattle.calculus.specs.IsDatabase.{IsDatabase}
use Rattle.calculus.specs.QueryParts.{vars_of}
use Rattle.calculus.specs.Sizes.{level_within, level_above, greatest_of, greater_level, range_level, query_level}
use Rattle.calculus.specs.Stored.{Range, Kept, Viewed, range_at, range_info, info_at}
use Rattle.calculus.specs.Structures.{is_index}
use Rattle.base_trait.specs.Known.{known_at, query_at}
use Rattle.quel_names.specs.Ranging.{but_index}
use Rattle.quel_names.proofs.Known.{ranged_if}
use Rattle.quel_meaning.specs.Passing.{is_too_high}
use Rattle.plan_laws.proofs.Levels.{below_the_greatest, not_too_high}
use Rattle.view_sizes.specs.Standing.{is_ranged}

but_one : (o : Option RelInfo) → is_ranged o ≡ is_some (but_index o)
but_one None = refl
but_one (Some info) = go (is_index info.spec)
  where
    go : (b : Bool) → not b ≡ is_some (elim b as (λ b. Option RelInfo) [ true ↦ None | false ↦ Some info ])
    go true = refl
    go false = refl

-- a variable may range over what is known and no index
pub range_known : (db : Db) → IsDatabase db → (key : RelKey) → is_ranged (known_at db key) ≡ is_some (range_at db key)
unfolding info_at
range_known db is key = but_one (known_at db key) ∙ ap is_some (ranged_if db is key) ∙ go (range_at db key)
  where
    go : (o : Option Range) → is_some (option_map range_info o) ≡ is_some o
    go None = refl
    go (Some r) = refl

-- ---- levels

-- a view has none of 0
pub no_level : (db : Db) (key : RelKey) (q : Query) → is_relation db key ≡ false → query_at db key ≡ Some q → is_some (level_within 0 db key) ≡ false
unfolding range_at
no_level db key q h e = go (relation_at db key) (view_at db key) h e
  where
    go : (r : Option Relation) (v : Option View) → is_some r ≡ false → option_map (λ v. v.query) v ≡ Some q
        → is_some (range_level (λ view. None) (elim r as (λ x. Option Range) [ Some relation ↦ Some (Kept relation) | None ↦ elim v as (λ x. Option Range) [ Some view ↦ Some (Viewed view) | None ↦ option_map Kept (catalogue_at db key) ] ])) ≡ false
    go (Some r) v h e = absurd (cc h)
    go None None h e = absurd (cc e)
    go None (Some v) h e = refl

each_has : (f : RelKey → Option ℕ) (keys : List RelKey) → is_some (greatest_of (map f keys)) ≡ list_all (λ k. is_some (f k)) keys
each_has f [] = refl
each_has f (key ∷ keys) = go (f key) (greatest_of (map f keys)) ∙ ap (λ b. is_some (f key) && b) (each_has f keys)
  where
    go : (l g : Option ℕ) → is_some (greater_level l g) ≡ (is_some l && is_some g)
    go None g = refl
    go (Some k) None = refl
    go (Some k) (Some l) = refl

above_has : (f : RelKey → Option ℕ) (keys : List RelKey) → is_some (level_above (map f keys)) ≡ list_all (λ k. is_some (f k)) keys
above_has f keys = go (greatest_of (map f keys)) ∙ each_has f keys
  where
    go : (g : Option ℕ) → is_some (option_map suc g) ≡ is_some g
    go None = refl
    go (Some n) = refl

-- a view has a level where all that it names have one that is less
view_level : (n : ℕ) (db : Db) (key : RelKey) (q : Query) → is_relation db key ≡ false → query_at db key ≡ Some q
    → is_some (level_within (suc n) db key) ≡ list_all (λ k. is_some (level_within n db k)) (vars_of q)
unfolding range_at
view_level n db key q h e = go (relation_at db key) (view_at db key) h e
  where
    go : (r : Option Relation) (v : Option View) → is_some r ≡ false → option_map (λ v. v.query) v ≡ Some q
        → is_some (range_level (λ view. level_above (map (level_within n db) (vars_of view.query))) (elim r as (λ x. Option Range) [ Some relation ↦ Some (Kept relation) | None ↦ elim v as (λ x. Option Range) [ Some view ↦ Some (Viewed view) | None ↦ option_map Kept (catalogue_at db key) ] ]))
        ≡ list_all (λ k. is_some (level_within n db k)) (vars_of q)
    go (Some r) v h e = absurd (cc h)
    go None None h e = absurd (cc e)
    go None (Some v) h e = let same : v.query ≡ q = cc e in above_has (level_within n db) (vars_of v.query) ∙ ap (λ p. list_all (λ k. is_some (level_within n db k)) (vars_of p)) same

pub level_through : (levels : ℕ) (db : Db) (key : RelKey) (q : Query) → 0 < levels → is_relation db key ≡ false → query_at db key ≡ Some q
    → list_all (λ k. is_some (level_within (levels - 1) db k)) (vars_of q) ≡ is_some (level_within levels db key)
level_through levels db key q h r e =
    let more : suc (levels - 1) ≡ levels = omega arith in
    sym (view_level (levels - 1) db key q r e) ∙ ap (λ k. is_some (level_within k db key)) more

-- what is no view has a level where a variable may range over it
pub plain_level : (n : ℕ) (db : Db) (key : RelKey) → query_at db key ≡ None → is_some (range_at db key) ≡ is_some (level_within n db key)
unfolding range_at
plain_level zero db key h = go (relation_at db key) (view_at db key) (catalogue_at db key) h
  where
    go : (r : Option Relation) (v : Option View) (c : Option Relation) → option_map (λ v. v.query) v ≡ None
        → is_some (elim r as (λ x. Option Range) [ Some relation ↦ Some (Kept relation) | None ↦ elim v as (λ x. Option Range) [ Some view ↦ Some (Viewed view) | None ↦ option_map Kept c ] ])
        ≡ is_some (range_level (λ view. None) (elim r as (λ x. Option Range) [ Some relation ↦ Some (Kept relation) | None ↦ elim v as (λ x. Option Range) [ Some view ↦ Some (Viewed view) | None ↦ option_map Kept c ] ]))
    go (Some r) v c h = refl
    go None (Some v) c h = absurd (cc h)
    go None None None h = refl
    go None None (Some c) h = refl
plain_level (suc n) db key h = go (relation_at db key) (view_at db key) (catalogue_at db key) h
  where
    go : (r : Option Relation) (v : Option View) (c : Option Relation) → option_map (λ v. v.query) v ≡ None
        → is_some (elim r as (λ x. Option Range) [ Some relation ↦ Some (Kept relation) | None ↦ elim v as (λ x. Option Range) [ Some view ↦ Some (Viewed view) | None ↦ option_map Kept c ] ])
        ≡ is_some (range_level (λ view. level_above (map (level_within n db) (vars_of view.query))) (elim r as (λ x. Option Range) [ Some relation ↦ Some (Kept relation) | None ↦ elim v as (λ x. Option Range) [ Some view ↦ Some (Viewed view) | None ↦ option_map Kept c ] ]))
    go (Some r) v c h = refl
    go None (Some v) c h = absurd (cc h)
    go None None None h = refl
    go None None (Some c) h = refl

-- the level of a view that is made is no greater than the greatest where all that it names have one that is less
pub levels_within : (db : Db) (q : Query) → list_all (λ key. is_some (level_within 15 db key)) (vars_of q) ≡ not (is_too_high (query_level db q))
levels_within db q = go (list_all (λ key. is_some (level_within 15 db key)) (vars_of q)) refl (not (is_too_high (query_level db q))) refl
  where
    go : (a : Bool) → list_all (λ key. is_some (level_within 15 db key)) (vars_of q) ≡ a → (b : Bool) → not (is_too_high (query_level db q)) ≡ b → a ≡ b
    go true e true f = refl
    go false e false f = refl
    go true e false f = let no = sym (not_too_high db q e) ∙ f in absurd (cc no)
    go false e true f = let no = sym (below_the_greatest db q f) ∙ e in absurd (cc no)

-- what is the opposite has it as its opposite
pub turned : (a b : Bool) → a ≡ not b → not a ≡ b
turned a true h = ap not h
turned a false h = ap not h

-- What refuses views, permits and rules.
use Rattle.std.proofs.Common.{◌≡◌, refl, sym, ap, ◌∙◌, ℕ, suc, ◌<◌, ◌≤◌, ◌-◌, ◌^◌, min, arith, Bool, true, false, ◌||◌, ◌&&◌, List, [], map, length, nat_le, nat_lt}
use Rattle.std.proofs.lemmas.Bool.{lt-ltb, le-ltb, leb-true, leb-false, ltb-false}
use Rattle.std.specs.List.{flat_map}
use Rattle.std.proofs.lemmas.List.{length-map}
use Rattle.calculus.specs.declared.query.Query.{Query}
use Rattle.calculus.specs.Database.{Db}
use Rattle.calculus.specs.declared.query.QQual.{QQual}
use Rattle.calculus.specs.declared.query.Target.{Target}
use Rattle.calculus.specs.QueryParts.{vars_of, targets_of, qual_of, term_aggregates, query_aggregates}
use Rattle.calculus.specs.Storable.{row_qual_is_small}
use Rattle.calculus.specs.Sizes.{qual_size, query_size, query_level}
use Rattle.calculus.specs.TreeLevels.{query_levels}
use Rattle.quel_meaning.specs.Passing.{has_too_many, is_full, is_too_high, is_too_large, listed_variables}
use Rattle.quel_meaning.specs.Planned.{greatest, is_past_limit}
use Rattle.quel_meaning.proofs.KindFacts.{none_behind}
use Rattle.view_sizes.proofs.DepthForms.{qual_alone}
use Rattle.view_sizes.specs.Sized.{qual_depth}

-- ---- numbers of permits and rules

lt_next : (k g : ℕ) → nat_le k g ≡ nat_lt k (suc g)
lt_next k g = go (nat_le k g) refl
  where
    go : (b : Bool) → nat_le k g ≡ b → b ≡ nat_lt k (suc g)
    go true e = let less : k ≤ g = leb-true k g e in sym (lt-ltb _ _ (omega (arith, less)))
    go false e = let more : g < k = leb-false k g e in sym (le-ltb _ _ (omega (arith, more)))

-- there may be no more than these
pub past_limit : {X : Type 0} (f : X → ℕ) (xs : List X) → (nat_le 100 (length xs) || nat_le 4294967295 (greatest (map f xs))) ≡ is_past_limit 100 (map f xs)
past_limit f xs = λ i. nat_le 100 (sym (length-map xs f) i) || lt_next 4294967295 (greatest (map f xs)) i

-- ---- views

-- a view is too large by its size, its level or its depth
pub large_by : (db : Db) (q : Query) (a b c : Bool) → nat_lt 1000 (query_size db q) ≡ a → is_too_high (query_level db q) ≡ b → nat_lt 3000 (query_levels q) ≡ c → (a || (b || c)) ≡ is_too_large db q
unfolding is_too_large
large_by db q a b c e f g = λ i. sym e i || (sym f i || sym g i)

-- by its size
pub by_size : (db : Db) (q : Query) (n : ℕ) → n ≡ min (query_size db q) (2 ^ 64 - 1) → 1000 < n → true ≡ is_too_large db q
by_size db q n e more = large_by db q true (is_too_high (query_level db q)) (nat_lt 3000 (query_levels q)) (lt-ltb _ _ (omega arith)) refl refl

-- else by its level
pub by_level : (db : Db) (q : Query) (n : ℕ) (high : Bool) → n ≡ min (query_size db q) (2 ^ 64 - 1) → n ≤ 1000 → high ≡ is_too_high (query_level db q) → high ≡ true → true ≡ is_too_large db q
by_level db q n high e less f t = large_by db q false true (nat_lt 3000 (query_levels q)) (le-ltb _ _ (omega arith)) (sym f ∙ t) refl

-- else by its depth
pub by_depth : (db : Db) (q : Query) (n : ℕ) (high deep : Bool) → n ≡ min (query_size db q) (2 ^ 64 - 1) → n ≤ 1000 → high ≡ is_too_high (query_level db q) → high ≡ false
    → deep ≡ nat_lt 3000 (query_levels q) → deep ≡ is_too_large db q
by_depth db q n high deep e less f t d = d ∙ large_by db q false false (nat_lt 3000 (query_levels q)) (le-ltb _ _ (omega arith)) (sym f ∙ t) refl

-- where a query lists no more variables than it may, each place is a byte
pub few_listed : (db : Db) (q : Query) → (has_too_many db q || is_full db) ≡ false → length (vars_of q) ≤ 256
unfolding has_too_many
few_listed db q h =
    let few : listed_variables q ≤ 10 = ltb-false 10 (listed_variables q) (neither _ _ (neither _ _ h)) in
    omega (arith, few)
  where
    neither : (a b : Bool) → (a || b) ≡ false → a ≡ false
    neither true b h = h
    neither false b h = refl

-- three causes of one number, one behind the other
pub three : (a b c d : Bool) → (a || b) ≡ d → (d || c) ≡ (a || (b || c))
three true b c d h = ap (λ x. x || c) (sym h)
three false b c d h = ap (λ x. x || c) (sym h)

-- ---- qualifications over a row

-- the qualification of a query without aggregates is as small as it may be by its size and its depth
pub small_of : (q : Query) (r : Bool) (p : QQual) → p ≡ qual_of q → query_aggregates q ≡ [] → r ≡ (nat_le (qual_size [] p) 1000 && nat_le (qual_depth p) 3000) → r ≡ row_qual_is_small (qual_of q)
small_of q r p e none h =
    h ∙ ap (λ p. nat_le (qual_size [] p) 1000 && nat_le (qual_depth p) 3000) e
    ∙ ap (λ n. nat_le (qual_size [] (qual_of q)) 1000 && nat_le n 3000) (qual_alone (qual_of q) (none_behind (flat_map (λ (t : Target). term_aggregates t.term) (targets_of q)) _ none))

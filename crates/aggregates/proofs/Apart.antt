-- The different ones among values, by the set of the rows that have one of them each.
use Rattle.std.proofs.Common.{◌≡◌, refl, sym, ap, ◌∙◌, ◌-◌, List, [], ◌∷◌, map, length, slice_get, Some, ℕ, suc, arith}
use Rattle.std.specs.List.{flat_map}
use Rattle.std.specs.Ordering.{ordering_then}
use Rattle.std.specs.declared.cmp.Ordering.{Ordering}
use Rattle.std.specs.declared.cmp.Ordering.TheVariants.{Less, Equal, Greater}
use Rattle.calculus.specs.declared.value.Value.{Value}
use Rattle.calculus.specs.Aggregate.{different, last_or}
use Rattle.calculus.specs.Lists.{insert_by}
use Rattle.calculus.specs.Orders.{value_exact}
use Rattle.calculus.specs.Rows.{put, set_of}
use Rattle.calculus.specs.Value.{value_cmp}
use Rattle.aggregates.specs.Sums.{alone}

put_alone : (v : Value) (ds : List Value) → put (alone v) (map alone ds) ≡ map alone (insert_by value_cmp v ds)
put_alone v [] = refl
put_alone v (d ∷ ds) = go (put_alone v ds) (value_cmp v d) refl
  where
    go : put (alone v) (map alone ds) ≡ map alone (insert_by value_cmp v ds) → (o : Ordering) → value_cmp v d ≡ o
        → elim (ordering_then o Equal) [ Less ↦ alone v ∷ alone d ∷ map alone ds | Equal ↦ alone d ∷ map alone ds | Greater ↦ alone d ∷ put (alone v) (map alone ds) ]
        ≡ map alone (elim o [ Less ↦ v ∷ d ∷ ds | Equal ↦ v ∷ ds | Greater ↦ d ∷ insert_by value_cmp v ds ])
    go later Less e = refl
    go later Equal e = ap (λ x. alone x ∷ map alone ds) (sym (value_exact v d e))
    go later Greater e = ap (λ rows. alone d ∷ rows) later

pub set_alone : (vs : List Value) → set_of (map alone vs) ≡ map alone (different vs)
set_alone [] = refl
set_alone (v ∷ vs) = ap (put (alone v)) (set_alone vs) ∙ put_alone v (different vs)

pub values_alone : (vs : List Value) → flat_map (λ row. row) (map alone vs) ≡ vs
values_alone [] = refl
values_alone (v ∷ vs) = ap (λ ws. v ∷ ws) (values_alone vs)

-- the last of the values
pub last_is : (none : Value) (vs : List Value) (v : Value) → Some v ≡ slice_get vs (length vs - 1) → v ≡ last_or none vs
last_is none [] v h = absurd (cc h)
last_is none (w ∷ []) v h = some_same h
  where
    some_same : {X : Type 0} {x y : X} → Some x ≡ Some y → x ≡ y
    some_same h = cc h
last_is none (w ∷ u ∷ vs) v h = last_is w (u ∷ vs) v (h ∙ ap (slice_get (w ∷ u ∷ vs)) (two (length vs)) ∙ ap (slice_get (u ∷ vs)) (one (length vs)))
  where
    two : (n : ℕ) → suc (suc n) - 1 ≡ suc n
    two n = omega arith

    one : (n : ℕ) → n ≡ suc n - 1
    one n = omega arith

-- What a binary search finds among groups.
use Rattle.std.proofs.Common.{◌≡◌, refl, ap, ◌∙◌, subst, ℕ, zero, suc, ◌+◌, ◌<◌, true, false, List, [], ◌∷◌, length, map, slice_index_or, Some, Err, ⊎_elim, rules, arith}
use Rattle.std.specs.List.Sorted.{IsSortedBy, IsBinarySearchResult}
use Rattle.std.specs.Ordering.{ordering_reverse, is_eq, is_lt}
use Rattle.std.specs.declared.cmp.Ordering.TheVariants.{Less, Equal}
use Rattle.std.proofs.lemmas.Bool.{cases_lt}
use Rattle.std.proofs.lemmas.List.{get_or-map, length-map}
use Rattle.std.proofs.lemmas.List.Sorted.{searchable_from_sorted}
use Rattle.std.proofs.lemmas.Map.Keys.{sorted_tail, Less-from_sorted}
use Rattle.calculus.specs.declared.value.Value.{Value}
use Rattle.calculus.specs.Groups.{Group, GroupsAscend}
use Rattle.calculus.specs.Orders.{row_total, row_exact}
use Rattle.calculus.specs.Rows.{Row}
use Rattle.calculus.specs.Table.{in_groups}
use Rattle.calculus.specs.Value.{row_cmp}

-- a group is before each one behind it
rising : (gs : List Group) → GroupsAscend gs → (i j : ℕ) (d : Group) → i < j → j < length gs
    → row_cmp (slice_index_or gs i d).0 (slice_index_or gs j d).0 ≡ Less
rising gs h i j d low high =
    let first = get_or-map (λ g. g.0) gs i d d.0 (omega (arith, low, high)) in
    let second = get_or-map (λ g. g.0) gs j d d.0 high in
    let less = Less-from_sorted row_cmp (map (λ g. g.0) gs) i j d.0 h low (omega (arith, high, length-map gs (λ g. g.0))) in
    subst (λ k. row_cmp (slice_index_or gs i d).0 k ≡ Less) second
    (subst (λ k. row_cmp k (slice_index_or (map (λ g. g.0) gs) j d.0) ≡ Less) first less)

searchable : (gs : List Group) → GroupsAscend gs → IsSortedBy (λ a b. is_lt (row_cmp a.0 b.0)) gs
searchable gs h k d low high =
    ap is_lt (row_total.antisymm (slice_index_or gs (k + 1) d).0 (slice_index_or gs k d).0
    ∙ ap ordering_reverse (rising gs h k (k + 1) d (search rules) high))

passed : (empty : Value) (g : Group) (gs : List Group) (link : Row) → is_eq (row_cmp g.0 link) ≡ false → in_groups empty (g ∷ gs) link ≡ in_groups empty gs link
passed empty g gs link e = ap (λ u. elim u [ true ↦ g.1 | false ↦ in_groups empty gs link ]) e

-- the group at which the search ended is the first with these values
pub found_at : (empty : Value) (link : Row) (gs : List Group) → GroupsAscend gs → (i : ℕ) → i < length gs → (d : Group)
    → row_cmp (slice_index_or gs i d).0 link ≡ Equal → in_groups empty gs link ≡ (slice_index_or gs i d).1
found_at empty link [] h i within d e = absurd (omega (arith, within))
found_at empty link (g ∷ gs) h zero within d e =
    ap (λ u. elim u [ true ↦ g.1 | false ↦ in_groups empty gs link ]) (ap is_eq e)
found_at empty link (g ∷ gs) h (suc i) within d e =
    let one : (slice_index_or gs i d).0 ≡ link = row_exact (slice_index_or gs i d).0 link e in
    let less : row_cmp g.0 link ≡ Less = subst (λ k. row_cmp g.0 k ≡ Less) one (rising (g ∷ gs) h 0 (suc i) d (search rules) within) in
    passed empty g gs link (ap is_eq less)
    ∙ found_at empty link gs (sorted_tail row_cmp g.0 (map (λ g. g.0) gs) h) i (search rules) d e

none_at : (empty : Value) (link : Row) (gs : List Group) → ((k : ℕ) (d : Group) → k < length gs → is_eq (row_cmp (slice_index_or gs k d).0 link) ≡ false)
    → in_groups empty gs link ≡ Some empty
none_at empty link [] h = refl
none_at empty link (g ∷ gs) h =
    passed empty g gs link (h 0 g (search rules)) ∙ none_at empty link gs (λ k d low. h (suc k) d (search rules))

-- where the search ended between groups, none has these values
pub found_none : (empty : Value) (link : Row) (gs : List Group) → GroupsAscend gs → (i : ℕ)
    → IsBinarySearchResult (λ g. row_cmp g.0 link) gs (Err i) → in_groups empty gs link ≡ Some empty
found_none empty link gs h i at = none_at empty link gs other
  where
    other : (k : ℕ) (d : Group) → k < length gs → is_eq (row_cmp (slice_index_or gs k d).0 link) ≡ false
    other k d within =
        let parts = at (searchable_from_sorted row_total (λ g. g.0) gs link (searchable gs h)) in
        ⊎_elim (λ low. ap is_eq (parts.0 k d (search rules) low)) (λ high. ap is_eq (parts.1 k d high within)) (cases_lt k i)

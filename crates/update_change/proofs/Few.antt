-- The rows that go and those that come, how many stand then, and the rows that stand where there were none.
use Rattle.std.proofs.Common.{◌≡◌, ap, ◌∙◌, sym, subst, refl, ℕ, ◌+◌, ◌-◌, ◌≤◌, ◌<◌, nat_lt, true, false, not, List, [], ◌∷◌, filter, length, arith}
use Rattle.std.proofs.lemmas.Bool.{ltb-true, ltb-false}
use Rattle.std.proofs.lemmas.List.Kept.{IsStrictlySortedBy-filter}
use Rattle.calculus.specs.declared.change.Pair.{Pair}
use Rattle.calculus.specs.Limits.{most_rows}
use Rattle.calculus.specs.Value.{row_cmp}
use Rattle.calculus.specs.Rows.{Row, Ascends, has, set_of, put}
use Rattle.calculus.specs.Replacement.{old_rows, new_rows, with_rows, without_rows, after}
use Rattle.calculus.proofs.Sets.{Ascends-set_of}
use Rattle.base_trait.specs.Scans.{IsScan}
use Rattle.update_change.proofs.Joined.{set_of-kept}
use Rattle.update_change.proofs.MovedRows.{go_is, come_is, left_is}

-- what a scan gives once is a set
pub ascends_scanned : (set rows : List Row) → IsScan set rows → Ascends set
ascends_scanned set rows scan = subst Ascends scan.all (Ascends-set_of rows)

-- the old rows that are there and not new are those that go
pub go_all : (rows old new remove : List Row) (ps : List Pair) → Ascends rows → old ≡ set_of (old_rows ps) → new ≡ set_of (new_rows ps)
    → remove ≡ set_of (filter (has rows) (without_rows new old)) → remove ≡ without_rows (after rows ps) rows
go_all rows old new remove ps h old_is new_is removed =
    removed ∙ (λ i. set_of (filter (has rows) (without_rows (new_is i) (old_is i))))
    ∙ set_of-kept (has rows) going (IsStrictlySortedBy-filter row_cmp (λ row. not (has (set_of (new_rows ps)) row)) (set_of (old_rows ps)) (Ascends-set_of (old_rows ps)))
    ∙ go_is rows ps h
  where
    going : List Row
    going = without_rows (set_of (new_rows ps)) (set_of (old_rows ps))

-- the new rows that aren't there are those that come
pub come_all : (rows new add : List Row) (ps : List Pair) → Ascends rows → new ≡ set_of (new_rows ps) → add ≡ set_of (without_rows rows new)
    → add ≡ without_rows rows (after rows ps)
come_all rows new add ps h new_is added =
    added ∙ ap (λ new. set_of (without_rows rows new)) new_is
    ∙ set_of-kept (λ row. not (has rows row)) (set_of (new_rows ps)) (Ascends-set_of (new_rows ps)) ∙ come_is rows ps h

-- ---- how many rows stand

-- the rows before and those that come, without those that go, are as many as stand after
stand_after : (rows remove add : List Row) (ps : List Pair) → Ascends rows → remove ≡ without_rows (after rows ps) rows → add ≡ without_rows rows (after rows ps)
    → length rows + length add - length remove ≡ length (after rows ps)
stand_after rows remove add ps h go come = omega (arith, left_is rows ps h, ap length go, ap length come)

-- more than a relation may have were counted: so many stand after
pub too_many_after : (rows remove add : List Row) (ps : List Pair) (left : ℕ) → Ascends rows → remove ≡ without_rows (after rows ps) rows → add ≡ without_rows rows (after rows ps)
    → left ≡ length rows + length add - length remove → nat_lt most_rows left ≡ true → (left ≡ length (after rows ps)) × (most_rows < left)
too_many_after rows remove add ps left h go come counted many = (counted ∙ stand_after rows remove add ps h go come, ltb-true most_rows left many)

-- no more were counted: no more stand after
pub few_after : (rows remove add : List Row) (ps : List Pair) (left : ℕ) → Ascends rows → remove ≡ without_rows (after rows ps) rows → add ≡ without_rows rows (after rows ps)
    → left ≡ length rows + length add - length remove → nat_lt most_rows left ≡ false → length (after rows ps) ≤ most_rows
few_after rows remove add ps left h go come counted few = subst (λ n. n ≤ most_rows) (counted ∙ stand_after rows remove add ps h go come) (ltb-false most_rows left few)

-- ---- where there were no rows

with_none : (rows : List Row) → with_rows rows [] ≡ set_of rows
with_none [] = refl
with_none (row ∷ rows) = ap (put row) (with_none rows)

-- where there were no rows, the set of the new ones stands
pub all_new : (ps : List Pair) → set_of (new_rows ps) ≡ after [] ps
unfolding after
all_new ps = sym (with_none (new_rows ps))

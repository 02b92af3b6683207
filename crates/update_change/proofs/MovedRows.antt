-- Which rows go and which come, and how many stand then.
use Rattle.std.proofs.Common.{◌≡◌, refl, sym, ap, ◌∙◌, ◌+◌, Bool, true, false, not, ◌&&◌, ◌||◌, List, filter, length, arith}
use Rattle.std.proofs.lemmas.List.Filters.{length-filter_both}
use Rattle.std.proofs.lemmas.List.Kept.{IsStrictlySortedBy-filter}
use Rattle.calculus.specs.declared.change.Pair.{Pair}
use Rattle.calculus.specs.declared.change.Change.{Change}
use Rattle.calculus.specs.Value.{row_cmp}
use Rattle.calculus.specs.Rows.{Row, Ascends, has, set_of}
use Rattle.calculus.specs.Replacement.{old_rows, new_rows, without_rows, after}
use Rattle.calculus.proofs.Sets.{same_set, has-set_of, Ascends-set_of}
use Rattle.update_change.specs.Moves.{IsChange}
use Rattle.update_change.proofs.After.{Ascends-after, has-after, has-filter}

-- those that are there, old and not new are those that don't stand after
pub go_is : (rows : List Row) (ps : List Pair) → Ascends rows
    → filter (has rows) (without_rows (set_of (new_rows ps)) (set_of (old_rows ps))) ≡ without_rows (after rows ps) rows
go_is rows ps h =
    same_set (filter (has rows) going) (without_rows (after rows ps) rows)
    (IsStrictlySortedBy-filter row_cmp (has rows) going (IsStrictlySortedBy-filter row_cmp stale (set_of (old_rows ps)) (Ascends-set_of (old_rows ps))))
    (IsStrictlySortedBy-filter row_cmp (λ row. not (has (after rows ps) row)) rows h)
    (λ q. has-filter (has rows) going q ∙ ap (λ b. b && has rows q) (has-filter stale (set_of (old_rows ps)) q)
    ∙ (λ i. (has-set_of (old_rows ps) q i && not (has-set_of (new_rows ps) q i)) && has rows q)
    ∙ turned (has rows q) (has (old_rows ps) q) (has (new_rows ps) q) ∙ ap (λ b. has rows q && not b) (sym (has-after rows ps q))
    ∙ sym (has-filter (λ row. not (has (after rows ps) row)) rows q))
  where
    stale : Row → Bool
    stale row = not (has (set_of (new_rows ps)) row)

    going : List Row
    going = without_rows (set_of (new_rows ps)) (set_of (old_rows ps))

    turned : (there old new : Bool) → ((old && not new) && there) ≡ (there && not (new || (there && not old)))
    turned true true true = refl
    turned true true false = refl
    turned true false true = refl
    turned true false false = refl
    turned false true true = refl
    turned false true false = refl
    turned false false new = refl

-- the new rows that are not there are those that stand after alone
pub come_is : (rows : List Row) (ps : List Pair) → Ascends rows → without_rows rows (set_of (new_rows ps)) ≡ without_rows rows (after rows ps)
come_is rows ps h =
    same_set (without_rows rows (set_of (new_rows ps))) (without_rows rows (after rows ps))
    (IsStrictlySortedBy-filter row_cmp fresh (set_of (new_rows ps)) (Ascends-set_of (new_rows ps)))
    (IsStrictlySortedBy-filter row_cmp fresh (after rows ps) (Ascends-after rows ps h))
    (λ q. has-filter fresh (set_of (new_rows ps)) q
    ∙ ap (λ b. b && not (has rows q)) (has-set_of (new_rows ps) q) ∙ turned (has rows q) (has (old_rows ps) q) (has (new_rows ps) q)
    ∙ ap (λ b. b && not (has rows q)) (sym (has-after rows ps q)) ∙ sym (has-filter fresh (after rows ps) q))
  where
    fresh : Row → Bool
    fresh row = not (has rows row)

    turned : (there old new : Bool) → (new && not there) ≡ ((new || (there && not old)) && not there)
    turned true true true = refl
    turned true true false = refl
    turned true false true = refl
    turned true false false = refl
    turned false old true = refl
    turned false old false = refl

-- two sets have as many rows that are in the other
both_have : (rows others : List Row) → Ascends rows → Ascends others → filter (has others) rows ≡ filter (has rows) others
both_have rows others h k =
    same_set (filter (has others) rows) (filter (has rows) others) (IsStrictlySortedBy-filter row_cmp (has others) rows h)
    (IsStrictlySortedBy-filter row_cmp (has rows) others k)
    (λ q. has-filter (has others) rows q ∙ turned (has rows q) (has others q) ∙ sym (has-filter (has rows) others q))
  where
    turned : (a b : Bool) → (a && b) ≡ (b && a)
    turned true true = refl
    turned true false = refl
    turned false true = refl
    turned false false = refl

pub left_is : (rows : List Row) (ps : List Pair) → Ascends rows
    → length rows + length (without_rows rows (after rows ps)) ≡ length (after rows ps) + length (without_rows (after rows ps) rows)
left_is rows ps h =
    let mine = length-filter_both (has (after rows ps)) (λ row. not (has (after rows ps) row)) (λ row. refl) rows in
    let theirs = length-filter_both (has rows) (λ row. not (has rows row)) (λ row. refl) (after rows ps) in
    omega (arith, mine, theirs, ap length (both_have rows (after rows ps) h (Ascends-after rows ps h)))

-- the rows that were chosen make the change
pub IsChange-made : (rows old new : List Row) (ps : List Pair) (change : Change) → Ascends rows → old ≡ set_of (old_rows ps) → new ≡ set_of (new_rows ps)
    → change.remove ≡ filter (has rows) (without_rows new old) → change.add ≡ without_rows rows new → IsChange rows ps change
IsChange-made rows old new ps change h old_is new_is removed added =
    let go = removed ∙ (λ i. filter (has rows) (without_rows (new_is i) (old_is i))) ∙ go_is rows ps h in
    let come = added ∙ ap (without_rows rows) new_is ∙ come_is rows ps h in
    record {
      go = go;
      come = come;
      left = ap (λ rows_that_come. length rows + length rows_that_come) come ∙ left_is rows ps h
          ∙ ap (λ rows_that_go. length (after rows ps) + length rows_that_go) (sym go);
    }

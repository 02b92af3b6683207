-- Rows that differ, told by the number of rows in their set.
use Rattle.std.proofs.Common.{◌≡◌, refl, ap, ◌∙◌, ℕ, suc, ◌<◌, ◌≤◌, nat_eq, Bool, true, false, ◌&&◌, not, List, [], ◌∷◌, length, arith}
use Rattle.std.specs.Ordering.{eq_by_cmp, is_eq}
use Rattle.std.specs.declared.cmp.Ordering.{Ordering}
use Rattle.std.specs.declared.cmp.Ordering.TheVariants.{Less, Equal, Greater}
use Rattle.std.proofs.lemmas.Bool.Decides.{nat_tests}
use Rattle.calculus.specs.Rows.{Row, has, put, set_of}
use Rattle.calculus.specs.Value.{row_cmp}
use Rattle.calculus.specs.Change.{rows_differ}
use Rattle.calculus.proofs.Sets.{has-set_of, Ascends-set_of}
use Rattle.calculus.proofs.Placing.{put-there}
use Rattle.plan_laws.proofs.Planned.{neither}
use Rattle.plan_laws.proofs.RowsChanged.{put_as, put_is}

-- a row that is new makes one more
one_more : (row : Row) (rows : List Row) → has rows row ≡ false → length (put row rows) ≡ suc (length rows)
one_more row [] h = refl
one_more row (first ∷ rest) h =
    let parts = neither (eq_by_cmp row_cmp row first) (has rest row) h in
    ap length (put_is row first rest (row_cmp row first) refl) ∙ go (row_cmp row first) parts.0 (one_more row rest parts.1)
  where
    go : (o : Ordering) → is_eq o ≡ false → length (put row rest) ≡ suc (length rest) → length (put_as o row first rest (put row rest)) ≡ suc (suc (length rest))
    go Less e later = refl
    go Equal e later = cc e
    go Greater e later = ap suc later

-- one that is there makes none
none_more : (row : Row) (rows : List Row) → has rows row ≡ true → length (set_of (row ∷ rows)) ≡ length (set_of rows)
none_more row rows h = ap length (put-there row (set_of rows) (Ascends-set_of rows) (has-set_of rows row ∙ h))

new_more : (row : Row) (rows : List Row) → has rows row ≡ false → length (set_of (row ∷ rows)) ≡ suc (length (set_of rows))
new_more row rows h = one_more row (set_of rows) (has-set_of rows row ∙ h)

no_more : (rows : List Row) → length (set_of rows) ≤ length rows
no_more [] = omega arith
no_more (row ∷ rows) = go (has rows row) refl (no_more rows)
  where
    go : (b : Bool) → has rows row ≡ b → length (set_of rows) ≤ length rows → length (set_of (row ∷ rows)) ≤ suc (length rows)
    go true e later = let same = none_more row rows e in omega (arith, same)
    go false e later = let more = new_more row rows e in omega (arith, more)

-- where rows differ each is in their set, else there are fewer
abbrev Counts : Bool → ℕ → ℕ → Type 0
Counts true few many = few ≡ many
Counts false few many = few < many

counts : (rows : List Row) → Counts (rows_differ rows) (length (set_of rows)) (length rows)
counts [] = refl
counts (row ∷ rows) = go (has rows row) refl (rows_differ rows) (counts rows)
  where
    go : (b : Bool) → has rows row ≡ b → (d : Bool) → Counts d (length (set_of rows)) (length rows) → Counts (not b && d) (length (set_of (row ∷ rows))) (suc (length rows))
    go true e d later = let same = none_more row rows e in let most = no_more rows in omega (arith, same, most)
    go false e true later = new_more row rows e ∙ ap suc later
    go false e false later = let more = new_more row rows e in omega (arith, more, later)

-- rows differ exactly where their set has as many
pub differ_where_as_many : (rows : List Row) → nat_eq (length (set_of rows)) (length rows) ≡ rows_differ rows
differ_where_as_many rows = go (rows_differ rows) (length (set_of rows)) (length rows) (counts rows)
  where
    go : (d : Bool) (few many : ℕ) → Counts d few many → nat_eq few many ≡ d
    go true few many h = grind (arith, nat_tests, h)
    go false few many h = grind (arith, nat_tests, h)

-- The order by columns is total and exact, and a sort by it gives the rows in that order.
use Rattle.std.proofs.Common.{◌≡◌, refl, sym, ap, ◌∙◌, ℕ, ◌+◌, ◌<◌, ◌≤◌, Bool, true, false, List, [], ◌∷◌, length, get_or, drop, arith, Bor}
use Rattle.std.specs.Prelude.{if◌then◌else◌}
use Rattle.std.proofs.lemmas.Cmp.{tied_itself, on_total, back_total, then_total}
use Rattle.std.proofs.lemmas.Fn.{always_returns_same}
use Rattle.std.proofs.lemmas.List.{drop_more, drop_all}
use Rattle.std.proofs.lemmas.List.Sorted.{ranks_by}
use Rattle.std.proofs.lemmas.Map.Keys.{sorted_head, sorted_tail}
use Rattle.std.specs.Cmp.{IsTotalOrder, IsStrictWeakOrder}
use Rattle.std.specs.Fn.{Called, ComparesAs}
use Rattle.std.specs.List.{AllByRecursion}
use Rattle.std.specs.List.Sorted.{IsPermutation, IsSortedBy}
use Rattle.std.specs.Ordering.{is_lt, is_ne, ordering_then}
use Rattle.std.specs.declared.cmp.Ordering.{Ordering}
use Rattle.std.specs.declared.cmp.Ordering.TheVariants.{Less, Equal, Greater}
use denote.Param.Members.{Mut}
use Rattle.calculus.specs.declared.request.SortKey.{SortKey}
use Rattle.calculus.specs.Lists.{insert_by}
use Rattle.calculus.specs.Orders.{value_total, row_total, row_exact}
use Rattle.calculus.specs.Rows.{Row, Ascends}
use Rattle.calculus.specs.Value.{row_cmp}
use Rattle.quel_meaning.specs.Tables.{cell, column_order, key_order, rows_order, sorted}
use Rattle.stage_proc.proofs.Ordered.{one_if_same, times, Differ, inserted, sorted_is}

-- ---- one key after the other

no_keys : (a b : Row) → rows_order [] a b ≡ row_cmp a b
unfolding rows_order
no_keys a b = refl

one_more_key : (key : SortKey) (keys : List SortKey) (a b : Row) → rows_order (key ∷ keys) a b ≡ ordering_then (key_order key a b) (rows_order keys a b)
unfolding rows_order
one_more_key key keys a b = refl

decides : (o rest : Ordering) → is_ne o ≡ true → o ≡ ordering_then o rest
decides Less rest h = refl
decides Equal rest h = cc h
decides Greater rest h = refl

leaves : (o rest : Ordering) → is_ne o ≡ false → ordering_then o rest ≡ rest
leaves Less rest h = cc h
leaves Equal rest h = refl
leaves Greater rest h = cc h

at_key : (keys : List SortKey) (i : ℕ) (key : SortKey) (a b : Row) → i < length keys
    → rows_order (drop i keys) a b ≡ ordering_then (key_order (get_or keys i key) a b) (rows_order (drop (i + 1) keys) a b)
at_key keys i key a b h = ap (λ ks. rows_order ks a b) (drop_more keys i key h) ∙ one_more_key (get_or keys i key) (drop (i + 1) keys) a b

-- the rows differ in the key
pub key_decides : (key : SortKey) (keys : List SortKey) (i : ℕ) (a b : Row) (o : Ordering) → i < length keys → o ≡ key_order (get_or keys i key) a b → is_ne o ≡ true
    → o ≡ rows_order (drop i keys) a b
key_decides key keys i a b o h given ne =
    given ∙ decides (key_order (get_or keys i key) a b) (rows_order (drop (i + 1) keys) a b) (ap is_ne (sym given) ∙ ne) ∙ sym (at_key keys i key a b h)

-- the rows agree in the key
pub key_leaves : (key : SortKey) (keys : List SortKey) (i : ℕ) (a b : Row) (o : Ordering) → i < length keys → o ≡ key_order (get_or keys i key) a b → is_ne o ≡ false
    → rows_order (drop i keys) a b ≡ rows_order (drop (i + 1) keys) a b
key_leaves key keys i a b o h given ne =
    at_key keys i key a b h ∙ leaves (key_order (get_or keys i key) a b) (rows_order (drop (i + 1) keys) a b) (ap is_ne (sym given) ∙ ne)

-- the rows agree in all keys
pub keys_leave : (keys : List SortKey) (i : ℕ) (a b : Row) → length keys ≤ i → row_cmp a b ≡ rows_order (drop i keys) a b
keys_leave keys i a b h = sym (ap (λ ks. rows_order ks a b) (drop_all i keys h) ∙ no_keys a b)

-- ---- the order is total and exact

column_total : (column : ℕ) → IsTotalOrder (column_order column)
column_total column = on_total (λ row. cell row column) value_total

key_total : (key : SortKey) → IsTotalOrder (key_order key)
key_total key = go key.down
  where
    go : (down : Bool) → IsTotalOrder (λ a b. if down then column_order key.column b a else column_order key.column a b)
    go true = back_total (column_total key.column)
    go false = column_total key.column

rows_total : (keys : List SortKey) → IsTotalOrder (rows_order keys)
unfolding rows_order
rows_total [] = row_total
rows_total (key ∷ keys) = then_total (key_total key) (rows_total keys)

last_equal : (o rest : Ordering) → ordering_then o rest ≡ Equal → rest ≡ Equal
last_equal Less rest h = cc h
last_equal Equal rest h = h
last_equal Greater rest h = cc h

rows_exact : (keys : List SortKey) (a b : Row) → rows_order keys a b ≡ Equal → a ≡ b
unfolding rows_order
rows_exact [] a b h = row_exact a b h
rows_exact (key ∷ keys) a b h = rows_exact keys a b (last_equal (key_order key a b) (rows_order keys a b) h)

-- ---- the rows of a set in this order

none_again : (keys : List SortKey) (x : Row) (rows : List Row) → AllByRecursion (λ y. row_cmp x y ≡ Less) rows → times (rows_order keys) (rows_total keys) (rows_exact keys) x rows ≡ 0
none_again keys x [] h = refl
none_again keys x (y ∷ ys) h = go (rows_order keys x y) refl (none_again keys x ys h.1)
  where
    go : (o : Ordering) → rows_order keys x y ≡ o → times (rows_order keys) (rows_total keys) (rows_exact keys) x ys ≡ 0
        → one_if_same o + times (rows_order keys) (rows_total keys) (rows_exact keys) x ys ≡ 0
    go Less e rest = omega (arith, rest)
    go Equal e rest = cc (sym (tied_itself row_total x) ∙ ap (row_cmp x) (rows_exact keys x y e) ∙ h.0)
    go Greater e rest = omega (arith, rest)

all_differ : (keys : List SortKey) (rows : List Row) → Ascends rows → Differ (rows_order keys) (rows_total keys) (rows_exact keys) rows
all_differ keys [] h = tt
all_differ keys (x ∷ rows) h = (none_again keys x rows (sorted_head row_cmp x rows h), all_differ keys rows (sorted_tail row_cmp x rows h))

sorted_one_by_one : (keys : List SortKey) (rows : List Row) → inserted (rows_order keys) (rows_total keys) (rows_exact keys) rows ≡ sorted keys rows
unfolding sorted
sorted_one_by_one keys [] = refl
sorted_one_by_one keys (row ∷ rows) = ap (insert_by (rows_order keys) row) (sorted_one_by_one keys rows)

-- what a sort by a closure gives that compares so
pub sorted_by_keys : {F : Type 0} {g : Mut F (Bor Row × (Bor Row × Unit {0})) Ordering} {f : F} (keys : List SortKey) (rows ys : List Row) → Ascends rows → IsPermutation rows ys
    → ((lt : Row → Row → Bool) → IsStrictWeakOrder lt → ComparesAs g lt f → IsSortedBy lt ys)
    → ((a : Bor Row × (Bor Row × Unit {0})) (r : Ordering) (f' : F) → Called g f a r f' → (r ≡ rows_order keys a.0.now a.1.0.now) × (f' ≡ f)) → ys ≡ sorted keys rows
sorted_by_keys {g = g} {f = f} keys rows ys ascend moved up answers =
    sorted_is (rows_order keys) (rows_total keys) (rows_exact keys) rows ys (all_differ keys rows ascend) moved
    (up (λ a b. is_lt (rows_order keys a b)) (ranks_by (rows_total keys) (λ row. row))
    (always_returns_same g (λ a r. is_lt r ≡ is_lt (rows_order keys a.0.now a.1.0.now)) f (λ a r f' called. (ap is_lt (answers a r f' called).0, (answers a r f' called).1))))
    ∙ sorted_one_by_one keys rows

-- without columns the rows of a set stay as they are
pub stays : (rows : List Row) → Ascends rows → sorted [] rows ≡ rows
unfolding sorted rows_order
stays [] h = refl
stays (row ∷ []) h = refl
stays (row ∷ next ∷ rest) h =
    ap (insert_by row_cmp row) (stays (next ∷ rest) (sorted_tail row_cmp row (next ∷ rest) h))
    ∙ ap (λ o. elim o [ Less ↦ row ∷ next ∷ rest | Equal ↦ row ∷ rest | Greater ↦ next ∷ insert_by row_cmp row rest ]) (sorted_head row_cmp row (next ∷ rest) h).0

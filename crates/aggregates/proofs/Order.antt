-- The order of by-values, and rows that rise by it.
use Rattle.std.proofs.Common.{◌≡◌, refl, sym, ap, ◌∙◌, subst, ℕ, suc, ◌<◌, ◌≤◌, Bool, true, false, not, ◌&&◌, List, [], ◌∷◌, length, get_or, arith}
use Rattle.std.proofs.lemmas.Cmp.{tied_itself}
use Rattle.std.specs.List.{AllByRecursion}
use Rattle.std.specs.List.Sorted.{IsSortedBy, ties}
use Rattle.std.specs.Cmp.{IsStrictWeakOrder}
use Rattle.std.specs.Ordering.{is_eq, is_lt, ordering_reverse}
use Rattle.std.specs.declared.cmp.Ordering.{Ordering}
use Rattle.std.specs.declared.cmp.Ordering.TheVariants.{Less, Equal, Greater}
use Rattle.std.proofs.lemmas.List.Sorted.{sorted_far, ranks_by}
use Rattle.calculus.specs.Orders.{row_total, row_exact}
use Rattle.calculus.specs.Rows.{Row}
use Rattle.calculus.specs.Value.{row_cmp}
use Rattle.aggregates.specs.Members.{Member}
use Rattle.aggregates.specs.Runs.{Rises}

-- the order by by-values
abbrev pub before : Member → Member → Bool
before m n = is_lt (row_cmp m.0 n.0)

pub before_ranks : IsStrictWeakOrder before
before_ranks = ranks_by row_total (λ (m : Member). m.0)

equal : (o : Ordering) → is_eq o ≡ true → o ≡ Equal
equal Less h = absurd (cc h)
equal Equal h = refl
equal Greater h = absurd (cc h)

pub same_row : (a b : Row) → is_eq (row_cmp a b) ≡ true → a ≡ b
same_row a b h = row_exact a b (equal (row_cmp a b) h)

pub row_itself : (a : Row) → is_eq (row_cmp a a) ≡ true
row_itself a = ap is_eq (tied_itself row_total a)

turned : (o : Ordering) → is_eq (ordering_reverse o) ≡ is_eq o
turned Less = refl
turned Equal = refl
turned Greater = refl

pub either_way : (a b : Row) → is_eq (row_cmp a b) ≡ is_eq (row_cmp b a)
either_way a b = ap is_eq (row_total.antisymm a b) ∙ turned (row_cmp b a)

-- two that tie by the order have the same by-values
tied_by : (o p : Ordering) → p ≡ ordering_reverse o → (not (is_lt o) && not (is_lt p)) ≡ is_eq o
tied_by Less p e = refl
tied_by Equal p e = ap (λ o. not (is_lt o)) e
tied_by Greater p e = ap (λ o. not (is_lt o)) e

pub tied : (m n : Member) → ties before m n ≡ is_eq (row_cmp m.0 n.0)
tied m n = tied_by (row_cmp m.0 n.0) (row_cmp n.0 m.0) (row_total.antisymm n.0 m.0)

-- ---- rows that rise

all_from_places : {X : Type 0} (P : X → Type 0) (xs : List X) → ((j : ℕ) (d : X) → j < length xs → P (get_or xs j d)) → AllByRecursion P xs
all_from_places P [] f = tt
all_from_places P (x ∷ xs) f = (f 0 x (omega arith), all_from_places P xs (λ j d h. f (suc j) d (omega (arith, h))))

pub rises_from_far : (ms : List Member) → ((i j : ℕ) (d : Member) → i ≤ j → j < length ms → before (get_or ms j d) (get_or ms i d) ≡ false) → Rises ms
rises_from_far [] f = tt
rises_from_far (m ∷ ms) f = (
  all_from_places (λ other. is_lt (row_cmp other.0 m.0) ≡ false) ms (λ j d h. f 0 (suc j) d (omega arith) (omega (arith, h))),
  rises_from_far ms (λ i j d le h. f (suc i) (suc j) d (omega (arith, le)) (omega (arith, h))),
)

pub rises_from_sort : (ms : List Member) → IsSortedBy before ms → Rises ms
rises_from_sort ms up = rises_from_far ms (sorted_far before before_ranks ms up)

-- ---- what stands behind greater by-values is other

not_less : (o : Ordering) → is_lt o ≡ false → is_eq o ≡ false → o ≡ Greater
not_less Less a b = absurd (cc a)
not_less Equal a b = absurd (cc b)
not_less Greater a b = refl

above : (a b : Row) → is_lt (row_cmp b a) ≡ false → is_eq (row_cmp a b) ≡ false → row_cmp a b ≡ Less
above a b up other =
    row_total.antisymm a b ∙ ap ordering_reverse (not_less (row_cmp b a) up (either_way b a ∙ other))

beyond_by : (a b c : Row) (o : Ordering) → row_cmp c b ≡ o → is_lt o ≡ false → row_cmp a b ≡ Less → row_cmp a c ≡ Less
beyond_by a b c Less e up less = absurd (cc up)
beyond_by a b c Equal e up less = subst (λ r. row_cmp a r ≡ Less) (sym (row_exact c b e)) less
beyond_by a b c Greater e up less = row_total.trans a b c less (row_total.antisymm b c ∙ ap ordering_reverse e)

pub beyond : (a b c : Row) → row_cmp a b ≡ Less → is_lt (row_cmp c b) ≡ false → row_cmp a c ≡ Less
beyond a b c less up = beyond_by a b c (row_cmp c b) refl up less

all_beyond : (a b : Row) (ms : List Member) → row_cmp a b ≡ Less → AllByRecursion (λ other. is_lt (row_cmp other.0 b) ≡ false) ms
    → AllByRecursion (λ other. row_cmp a other.0 ≡ Less) ms
all_beyond a b [] less up = tt
all_beyond a b (m ∷ ms) less up = (beyond a b m.0 less up.0, all_beyond a b ms less up.1)

-- where the next row has other by-values, all that follow have greater ones
pub later_are_above : (m n : Member) (ns : List Member) → Rises (m ∷ n ∷ ns) → is_eq (row_cmp m.0 n.0) ≡ false
    → AllByRecursion (λ other. row_cmp m.0 other.0 ≡ Less) (n ∷ ns)
later_are_above m n ns up other =
    let less = above m.0 n.0 up.0.0 other in (less, all_beyond m.0 n.0 ns less up.1.0)

-- The first old row that stands twice among replacements in order is the least with different new rows.
use Rattle.std.proofs.Common.{◌≡◌, refl, sym, ap, ◌∙◌, subst, ℕ, zero, suc, ◌+◌, Bool, true, false, cond, List, [], ◌∷◌, take, slice_index_or, arith}
use Rattle.std.proofs.lemmas.List.Elements.{All-from_recursion}
use Rattle.std.proofs.lemmas.Map.Keys.{sorted_head, sorted_tail}
use Rattle.std.specs.List.{AllByRecursion}
use Rattle.std.specs.List.Sorted.{IsStrictlySortedBy}
use Rattle.std.specs.Ordering.{is_eq, ordering_then, ordering_reverse}
use Rattle.std.specs.declared.cmp.Ordering.{Ordering}
use Rattle.std.specs.declared.cmp.Ordering.TheVariants.{Less, Equal, Greater}
use Rattle.calculus.specs.Orders.{row_total, row_exact}
use Rattle.calculus.specs.Rows.{Row}
use Rattle.calculus.specs.Replacement.{some_differ}
use Rattle.calculus.specs.Value.{row_cmp}
use Rattle.calculus.proofs.Sets.{same_exact}
use Rattle.update_change.specs.Replacements.{Both, both_cmp, Shares, SharesNone, IsFirstShared}
use Rattle.update_change.proofs.Differing.{same, same_itself}
use Rattle.update_change.proofs.NewRows.{news_in}

-- the row is less than each old row
abbrev AllGreater : Row → List Both → Type 0
AllGreater row all = AllByRecursion (λ b. row_cmp row b.0 ≡ Less) all

none_given : (row : Row) (all : List Both) → AllGreater row all → news_in row all ≡ []
none_given row [] h = refl
none_given row (b ∷ all) h = ap (λ o. cond (is_eq o) (b.1 ∷ news_in row all) (news_in row all)) h.0 ∙ none_given row all h.1

less_still : (row : Row) (b c : Both) → row_cmp row b.0 ≡ Less → (o : Ordering) → row_cmp b.0 c.0 ≡ o → ordering_then o (row_cmp b.1 c.1) ≡ Less
    → row_cmp row c.0 ≡ Less
less_still row b c l Less e h = row_total.trans row b.0 c.0 l e
less_still row b c l Equal e h = subst (λ r. row_cmp row r ≡ Less) (row_exact b.0 c.0 e) l
less_still row b c l Greater e h = cc h

all_greater : (row : Row) (b : Both) (all : List Both) → row_cmp row b.0 ≡ Less → AllByRecursion (λ c. both_cmp b c ≡ Less) all → AllGreater row all
all_greater row b [] l h = tt
all_greater row b (c ∷ all) l h = (less_still row b c l (row_cmp b.0 c.0) refl h.0, all_greater row b all l h.1)

less_apart : (x y : Both) → (o : Ordering) → row_cmp x.0 y.0 ≡ o → ordering_then o (row_cmp x.1 y.1) ≡ Less → is_eq o ≡ false → row_cmp x.0 y.0 ≡ Less
less_apart x y Less e h apart = e
less_apart x y Equal e h apart = cc apart
less_apart x y Greater e h apart = cc h

-- an old row that isn't also that of the next place is less than all behind it
alone : (x y : Both) (rest : List Both) → IsStrictlySortedBy both_cmp (x ∷ y ∷ rest) → same x.0 y.0 ≡ false → AllGreater x.0 (y ∷ rest)
alone x y rest h apart = (less, all_greater x.0 y rest less (sorted_head both_cmp y rest (sorted_tail both_cmp x (y ∷ rest) h)))
  where
    less : row_cmp x.0 y.0 ≡ Less
    less = less_apart x y (row_cmp x.0 y.0) refl (sorted_head both_cmp x (y ∷ rest) h).0 apart

-- where the first replacement is alone with its old row, that row has one new row, and the others have those behind it
differ_behind : (x y : Both) (rest : List Both) → AllGreater x.0 (y ∷ rest) → (row : Row) → some_differ (news_in row (y ∷ rest)) ≡ false
    → some_differ (news_in row (x ∷ y ∷ rest)) ≡ false
differ_behind x y rest behind row later = go (same row x.0) refl
  where
    go : (t : Bool) → same row x.0 ≡ t → some_differ (cond t (x.1 ∷ news_in row (y ∷ rest)) (news_in row (y ∷ rest))) ≡ false
    go true e =
        ap (λ rows. some_differ (x.1 ∷ rows)) (none_given row (y ∷ rest) (subst (λ r. AllGreater r (y ∷ rest)) (sym (same_exact row x.0 e)) behind))
    go false e = later

next_behind : (place : ℕ) → suc place + 1 ≡ suc (place + 1)
next_behind place = omega arith

shares_behind : (x : Both) (all : List Both) (place : ℕ) (answer : Bool) → Shares (x ∷ all) (suc place) answer → Shares all place answer
shares_behind x all place answer h d =
    subst (λ next. same (slice_index_or all place d).0 (slice_index_or (x ∷ all) next d).0 ≡ answer) (next_behind place) (h d)

pub shares_none : (all : List Both) → IsStrictlySortedBy both_cmp all → SharesNone all → (row : Row) → some_differ (news_in row all) ≡ false
shares_none [] h none row = refl
shares_none (x ∷ []) h none row = go (same row x.0)
  where
    go : (t : Bool) → some_differ (cond t (x.1 ∷ []) []) ≡ false
    go true = refl
    go false = refl
shares_none (x ∷ y ∷ rest) h none row =
    differ_behind x y rest (alone x y rest h (none 0 (omega arith) x)) row
    (shares_none (y ∷ rest) (sorted_tail both_cmp x (y ∷ rest) h) (λ place within. shares_behind x (y ∷ rest) place false (none (suc place) (omega (arith, within)))) row)

-- the two least new rows of an old row, no less one of which has different new rows
pub record IsLeastShared (all : List Both) (old first second : Row) : Type 0 where
  pub two : take 2 (news_in old all) ≡ first ∷ second ∷ []
  pub least : (other : Row) → row_cmp other old ≡ Less → some_differ (news_in other all) ≡ false

-- a replacement that is alone with its old row changes nothing of the greater ones
behind_alone : (x y : Both) (rest : List Both) → AllGreater x.0 (y ∷ rest) → (old first second : Row) → row_cmp x.0 old ≡ Less
    → IsLeastShared (y ∷ rest) old first second → IsLeastShared (x ∷ y ∷ rest) old first second
behind_alone x y rest behind old first second less later = record {
  two = ap (λ o. take 2 (cond (is_eq o) (x.1 ∷ news_in old (y ∷ rest)) (news_in old (y ∷ rest)))) (row_total.antisymm old x.0 ∙ ap ordering_reverse less) ∙ later.two;
  least = λ other l. differ_behind x y rest behind other (later.least other l);
}

pub shares_first : (all : List Both) (place : ℕ) → IsStrictlySortedBy both_cmp all → IsFirstShared all place → (d e : Both)
    → IsLeastShared all (slice_index_or all place d).0 (slice_index_or all place d).1 (slice_index_or all (place + 1) e).1
shares_first [] place h found d e = absurd (omega (arith, found.0))
shares_first (x ∷ []) place h found d e = absurd (omega (arith, found.0))
shares_first (x ∷ y ∷ rest) zero h found d e = record {
  two = λ i. take 2 (cond (same_itself x.0 i) (x.1 ∷ cond (found.1 d i) (y.1 ∷ news_in x.0 rest) (news_in x.0 rest)) (cond (found.1 d i) (y.1 ∷ news_in x.0 rest) (news_in x.0 rest)));
  least = λ other less. ap some_differ (none_given other (x ∷ y ∷ rest) (less, all_greater other x (y ∷ rest) less (sorted_head both_cmp x (y ∷ rest) h)));
}
shares_first (x ∷ y ∷ rest) (suc place) h found d e =
    subst (λ next. IsLeastShared (x ∷ y ∷ rest) (slice_index_or (y ∷ rest) place d).0 (slice_index_or (y ∷ rest) place d).1 (slice_index_or (x ∷ y ∷ rest) next e).1)
    (sym (next_behind place))
    (behind_alone x y rest (alone x y rest h (found.2 0 (omega arith) x)) (slice_index_or (y ∷ rest) place d).0 (slice_index_or (y ∷ rest) place d).1
    (slice_index_or (y ∷ rest) (place + 1) e).1
    (All-from_recursion (λ b. row_cmp x.0 b.0 ≡ Less) (y ∷ rest) (alone x y rest h (found.2 0 (omega arith) x)) place d (omega (arith, found.0)))
    (shares_first (y ∷ rest) place (sorted_tail both_cmp x (y ∷ rest) h) (
      omega (arith, found.0),
      shares_behind x (y ∷ rest) place true found.1,
      λ before within. shares_behind x (y ∷ rest) before false (found.2 (suc before) (omega (arith, within))),
    ) d e))

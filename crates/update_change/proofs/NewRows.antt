-- The new rows of one old row, among pairs and among replacements in order.
use Rattle.std.proofs.Common.{◌≡◌, refl, sym, ap, ◌∙◌, Bool, true, false, ◌&&◌, ◌||◌, cond, List, [], ◌∷◌, filter, Option, Some, None}
use Rattle.std.proofs.lemmas.Cmp.{tied_itself}
use Rattle.std.proofs.lemmas.Map.Keys.{sorted_head, sorted_tail}
use Rattle.std.specs.List.{list_any, AllByRecursion}
use Rattle.std.specs.List.Sorted.{IsStrictlySortedBy}
use Rattle.std.specs.Ordering.{ordering_then}
use Rattle.std.specs.declared.cmp.Ordering.TheVariants.{Less, Equal}
use Rattle.calculus.specs.declared.change.Pair.{Pair}
use Rattle.calculus.specs.Orders.{row_total}
use Rattle.calculus.specs.Rows.{Row, Ascends, has, set_of}
use Rattle.calculus.specs.Replacement.{new_rows, has_old}
use Rattle.calculus.specs.Value.{row_cmp}
use Rattle.calculus.proofs.Sets.{same_exact, same_set, has-set_of, Ascends-set_of, Ascends-cons, Ascends-nil}
use Rattle.update_change.specs.Contention.{new_rows_of}
use Rattle.update_change.specs.Replacements.{Both, both_cmp, is_both, replacements}
use Rattle.update_change.proofs.Differing.{same}

-- the pair of these rows
abbrev pub pair_of : Option Row → Option Row → Pair
pair_of old new = record { old = old; new = new }

-- the new rows that the replacements give this old row
abbrev pub news_in : Row → List Both → List Row
news_in old [] = []
news_in old (b ∷ all) = cond (same old b.0) (b.1 ∷ news_in old all) (news_in old all)

pub new_rows_of-is : (old : Row) (ps : List Pair) → new_rows_of ps old ≡ news_in old (replacements ps)
new_rows_of-is old [] = refl
new_rows_of-is old (p ∷ ps) = go p.old p.new (new_rows_of-is old ps)
  where
    those : List Pair
    those = filter (has_old old) ps

    later : List Row
    later = news_in old (replacements ps)

    deleted : (o : Row) (b : Bool) → new_rows those ≡ later → new_rows (cond b (pair_of (Some o) None ∷ those) those) ≡ later
    deleted o true e = e
    deleted o false e = e

    replaced : (o n : Row) (b : Bool) → new_rows those ≡ later → new_rows (cond b (pair_of (Some o) (Some n) ∷ those) those) ≡ cond b (n ∷ later) later
    replaced o n true e = ap (λ rows. n ∷ rows) e
    replaced o n false e = e

    go : (o n : Option Row) → new_rows those ≡ later → new_rows_of (pair_of o n ∷ ps) old ≡ news_in old (replacements (pair_of o n ∷ ps))
    go None n e = e
    go (Some o) None e = deleted o (same old o) e
    go (Some o) (Some n) e = replaced o n (same old o) e

pub has-news_in : (old q : Row) (all : List Both) → has (news_in old all) q ≡ list_any (is_both (old, q)) all
has-news_in old q [] = refl
has-news_in old q (b ∷ all) = go (same old b.0) (has-news_in old q all)
  where
    go : (t : Bool) → has (news_in old all) q ≡ list_any (is_both (old, q)) all
        → has (cond t (b.1 ∷ news_in old all) (news_in old all)) q ≡ ((t && same q b.1) || list_any (is_both (old, q)) all)
    go true e = ap (λ c. same q b.1 || c) e
    go false e = e

-- behind a replacement of this old row stand greater new rows of it
above : (old : Row) (b : Both) (rest : List Both) → same old b.0 ≡ true → AllByRecursion (λ c. both_cmp b c ≡ Less) rest
    → AllByRecursion (λ row. row_cmp b.1 row ≡ Less) (news_in old rest)
above old b [] e h = tt
above old b (c ∷ rest) e h = go (same old c.0) refl (above old b rest e h.1)
  where
    greater : same old c.0 ≡ true → row_cmp b.1 c.1 ≡ Less
    greater f =
        let b_old : b.0 ≡ old = sym (same_exact old b.0 e) in
        let c_old : c.0 ≡ old = sym (same_exact old c.0 f) in
        let tied : row_cmp b.0 c.0 ≡ Equal = (λ i. row_cmp (b_old i) (c_old i)) ∙ tied_itself row_total old in
        ap (λ o. ordering_then o (row_cmp b.1 c.1)) (sym tied) ∙ h.0

    go : (t : Bool) → same old c.0 ≡ t → AllByRecursion (λ row. row_cmp b.1 row ≡ Less) (news_in old rest)
        → AllByRecursion (λ row. row_cmp b.1 row ≡ Less) (cond t (c.1 ∷ news_in old rest) (news_in old rest))
    go true f more = (greater f, more)
    go false f more = more

pub Ascends-news_in : (old : Row) (all : List Both) → IsStrictlySortedBy both_cmp all → Ascends (news_in old all)
Ascends-news_in old [] h = Ascends-nil
Ascends-news_in old (b ∷ all) h = go (same old b.0) refl (Ascends-news_in old all (sorted_tail both_cmp b all h))
  where
    go : (t : Bool) → same old b.0 ≡ t → Ascends (news_in old all) → Ascends (cond t (b.1 ∷ news_in old all) (news_in old all))
    go true e more = Ascends-cons b.1 (news_in old all) (above old b all e (sorted_head both_cmp b all h)) more
    go false e more = more

-- the same replacements give an old row the same new rows
pub has-new_rows_of : (old : Row) (ps : List Pair) (all : List Both) → ((b : Both) → list_any (is_both b) all ≡ list_any (is_both b) (replacements ps))
    → (q : Row) → has (new_rows_of ps old) q ≡ has (news_in old all) q
has-new_rows_of old ps all same_ones q =
    ap (λ rows. has rows q) (new_rows_of-is old ps) ∙ has-news_in old q (replacements ps) ∙ sym (same_ones (old, q)) ∙ sym (has-news_in old q all)

pub set_of-new_rows_of : (old : Row) (ps : List Pair) (all : List Both) → IsStrictlySortedBy both_cmp all
    → ((b : Both) → list_any (is_both b) all ≡ list_any (is_both b) (replacements ps)) → set_of (new_rows_of ps old) ≡ news_in old all
set_of-new_rows_of old ps all h same_ones =
    same_set (set_of (new_rows_of ps old)) (news_in old all) (Ascends-set_of (new_rows_of ps old)) (Ascends-news_in old all h)
    (λ q. has-set_of (new_rows_of ps old) q ∙ has-new_rows_of old ps all same_ones q)

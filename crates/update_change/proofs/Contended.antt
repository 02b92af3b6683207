-- What was found among replacements in order is what the pairs contend.
use Rattle.std.proofs.Common.{◌≡◌, refl, sym, ap, ◌∙◌, subst, ℕ, ◌+◌, Bool, true, false, ◌||◌, cond, List, [], ◌∷◌, take, filter, slice_index_or, Option, Some, None, Contains, arith}
use Rattle.std.proofs.lemmas.List.Elements.{Contains-append_right}
use Rattle.std.proofs.lemmas.Map.Keys.{sorted_head}
use Rattle.std.specs.List.{list_any}
use Rattle.std.specs.List.Sorted.{IsStrictlySortedBy}
use Rattle.std.specs.Ordering.{is_eq}
use Rattle.std.specs.declared.cmp.Ordering.TheVariants.{Less}
use Rattle.calculus.specs.declared.change.Pair.{Pair}
use Rattle.calculus.specs.Rows.{Row, Ascends, has}
use Rattle.calculus.specs.Replacement.{old_rows, new_rows, has_old, some_differ, contended}
use Rattle.calculus.specs.Value.{row_cmp}
use Rattle.calculus.proofs.Sets.{same_exact}
use Rattle.update_change.specs.Contention.{replacing, new_rows_of, IsLeastContention}
use Rattle.update_change.specs.Replacements.{Both, both_cmp, is_both, replacements, SharesNone, IsFirstShared}
use Rattle.update_change.proofs.Differing.{same, same_itself, later_true, differ-from_two, differ-same}
use Rattle.update_change.proofs.NewRows.{pair_of, news_in, Ascends-news_in, has-new_rows_of, set_of-new_rows_of}
use Rattle.update_change.proofs.Searched.{shares_none, shares_first, IsLeastShared}

-- ---- pairs and their rows

-- an old row with a new one is among the old rows
any_old : (test : Row → Bool) (old new : Row) (ps : List Pair) → has (new_rows_of ps old) new ≡ true → test old ≡ true → list_any test (old_rows ps) ≡ true
any_old test old new [] there passes = cc there
any_old test old new (p ∷ ps) there passes = go p.old p.new (λ t. any_old test old new ps t passes) there
  where
    those : List Pair
    those = filter (has_old old) ps

    Later : Type 0
    Later = has (new_rows_of ps old) new ≡ true → list_any test (old_rows ps) ≡ true

    step : (o : Row) (n : Option Row) (b : Bool) → same old o ≡ b → Later → has (new_rows (cond b (pair_of (Some o) n ∷ those) those)) new ≡ true
        → (test o || list_any test (old_rows ps)) ≡ true
    step o n true e later t = ap (λ b. b || list_any test (old_rows ps)) (ap test (sym (same_exact old o e)) ∙ passes)
    step o n false e later t = later_true (test o) (list_any test (old_rows ps)) (later t)

    go : (o n : Option Row) → Later → has (new_rows_of (pair_of o n ∷ ps) old) new ≡ true → list_any test (old_rows (pair_of o n ∷ ps)) ≡ true
    go None n later t = later t
    go (Some o) n later t = step o n (same old o) refl later t

-- a new row of an old one stands in a pair with it
pair_there : (old new : Row) (ps : List Pair) → has (new_rows_of ps old) new ≡ true → Contains ps (replacing old new)
pair_there old new [] there = cc there
pair_there old new (p ∷ ps) there = go p.old p.new (pair_there old new ps) there
  where
    those : List Pair
    those = filter (has_old old) ps

    Later : Type 0
    Later = has (new_rows those) new ≡ true → Contains ps (replacing old new)

    behind : (first : Pair) → Contains ps (replacing old new) → Contains (first ∷ ps) (replacing old new)
    behind first c = Contains-append_right (first ∷ []) ps (replacing old new) c

    here : (o n : Row) → same old o ≡ true → same new n ≡ true → Contains (replacing o n ∷ ps) (replacing old new)
    here o n e f =
        subst (λ o. Contains (replacing o n ∷ ps) (replacing old new)) (same_exact old o e)
        (subst (λ n. Contains (replacing old n ∷ ps) (replacing old new)) (same_exact new n f) (0, omega arith, refl))

    found : (o n : Row) → same old o ≡ true → Later → (b : Bool) → same new n ≡ b → (b || has (new_rows those) new) ≡ true
        → Contains (replacing o n ∷ ps) (replacing old new)
    found o n e later true f t = here o n e f
    found o n e later false f t = behind (replacing o n) (later t)

    deleted : (o : Row) (b : Bool) → Later → has (new_rows (cond b (pair_of (Some o) None ∷ those) those)) new ≡ true → Contains (pair_of (Some o) None ∷ ps) (replacing old new)
    deleted o true later t = behind (pair_of (Some o) None) (later t)
    deleted o false later t = behind (pair_of (Some o) None) (later t)

    replaced : (o n : Row) (b : Bool) → same old o ≡ b → Later → has (new_rows (cond b (replacing o n ∷ those) those)) new ≡ true
        → Contains (replacing o n ∷ ps) (replacing old new)
    replaced o n true e later t = found o n e later (same new n) refl t
    replaced o n false e later t = behind (replacing o n) (later t)

    go : (o n : Option Row) → Later → has (new_rows_of (pair_of o n ∷ ps) old) new ≡ true → Contains (pair_of o n ∷ ps) (replacing old new)
    go None n later t = behind (pair_of None n) (later t)
    go (Some o) None later t = deleted o (same old o) later t
    go (Some o) (Some n) later t = replaced o n (same old o) refl later t

-- ---- none

none_passes : (test : Row → Bool) (rows : List Row) → ((row : Row) → test row ≡ false) → list_any test rows ≡ false
none_passes test [] h = refl
none_passes test (row ∷ rows) h = ap (λ b. b || list_any test rows) (h row) ∙ none_passes test rows h

pub uncontended : (ps : List Pair) (all : List Both) → IsStrictlySortedBy both_cmp all
    → ((b : Both) → list_any (is_both b) all ≡ list_any (is_both b) (replacements ps)) → SharesNone all → contended ps ≡ false
unfolding contended
uncontended ps all h same_ones none =
    none_passes (λ old. some_differ (new_rows_of ps old)) (old_rows ps)
    (λ old. differ-same (new_rows_of ps old) (news_in old all) (has-new_rows_of old ps all same_ones) ∙ shares_none all h none old)

-- ---- the least

-- the first two of some rows that ascend
record IsTwo (rows : List Row) (first second : Row) : Type 0 where
  first_there : has rows first ≡ true
  second_there : has rows second ≡ true
  ascend : row_cmp first second ≡ Less

two_of : (rows : List Row) (first second : Row) → Ascends rows → take 2 rows ≡ first ∷ second ∷ [] → IsTwo rows first second
two_of [] first second h e = cc e
two_of (x ∷ []) first second h e = cc e
two_of (x ∷ y ∷ rest) first second h e =
    subst (λ first. IsTwo (x ∷ y ∷ rest) first second) (heads e) (subst (λ second. IsTwo (x ∷ y ∷ rest) x second) (seconds e) these)
  where
    these : IsTwo (x ∷ y ∷ rest) x y
    these = record {
      first_there = ap (λ b. b || has (y ∷ rest) x) (same_itself x);
      second_there = later_true (same y x) (has (y ∷ rest) y) (ap (λ b. b || has rest y) (same_itself y));
      ascend = (sorted_head row_cmp x (y ∷ rest) h).0;
    }

    heads : x ∷ y ∷ [] ≡ first ∷ second ∷ [] → x ≡ first
    heads e = cc e

    seconds : x ∷ y ∷ [] ≡ first ∷ second ∷ [] → y ≡ second
    seconds e = cc e

-- where an old row has different new rows, and which
pub record IsContended (ps : List Pair) (old first second : Row) : Type 0 where
  pub is : contended ps ≡ true
  pub least : IsLeastContention ps old first second

contended-found : (ps : List Pair) (all : List Both) (old first second : Row) → IsStrictlySortedBy both_cmp all
    → ((b : Both) → list_any (is_both b) all ≡ list_any (is_both b) (replacements ps)) → IsLeastShared all old first second → IsContended ps old first second
unfolding contended
contended-found ps all old first second h same_ones found = record {
  is = any_old (λ old. some_differ (new_rows_of ps old)) old first ps first_there
      (differ-from_two (new_rows_of ps old) first second first_there second_there (ap is_eq two.ascend));
  least = record {
    first_is_there = pair_there old first ps first_there;
    second_is_there = pair_there old second ps second_there;
    they_differ = two.ascend;
    least_new = ap (take 2) (set_of-new_rows_of old ps all h same_ones) ∙ found.two;
    least_old = λ other less. differ-same (new_rows_of ps other) (news_in other all) (has-new_rows_of other ps all same_ones) ∙ found.least other less;
  };
}
  where
    two : IsTwo (news_in old all) first second
    two = two_of (news_in old all) first second (Ascends-news_in old all h) found.two

    first_there : has (new_rows_of ps old) first ≡ true
    first_there = has-new_rows_of old ps all same_ones first ∙ two.first_there

    second_there : has (new_rows_of ps old) second ≡ true
    second_there = has-new_rows_of old ps all same_ones second ∙ two.second_there

-- what stands at the first place that shares its old row with the next
pub contended-at : (ps : List Pair) (all : List Both) (place : ℕ) (x y : Both) (old first second : Row) → IsStrictlySortedBy both_cmp all
    → ((b : Both) → list_any (is_both b) all ≡ list_any (is_both b) (replacements ps)) → IsFirstShared all place
    → x ≡ slice_index_or all place x → y ≡ slice_index_or all (place + 1) y → old ≡ x.0 → first ≡ x.1 → second ≡ y.1 → IsContended ps old first second
contended-at ps all place x y old first second h same_ones found x_is y_is old_is first_is second_is =
    let old_at = old_is ∙ ap (λ b. b.0) x_is in
    let first_at = first_is ∙ ap (λ b. b.1) x_is in
    let second_at = second_is ∙ ap (λ b. b.1) y_is in
    contended-found ps all old first second h same_ones
    (subst (λ r. IsLeastShared all r first second) (sym old_at)
    (subst (λ r. IsLeastShared all (slice_index_or all place x).0 r second) (sym first_at)
    (subst (λ r. IsLeastShared all (slice_index_or all place x).0 (slice_index_or all place x).1 r) (sym second_at) (shares_first all place h found x y))))

-- The rows of replacements and those of the other pairs are the rows of all pairs.
use Rattle.std.proofs.Common.{◌≡◌, refl, sym, ap, ◌∙◌, Bool, true, false, ◌&&◌, ◌||◌, List, [], ◌∷◌, ◌++◌, map, filter, filter_map, Option, Some, None}
use Rattle.std.proofs.lemmas.List.Folds.{list_any-append}
use Rattle.std.proofs.lemmas.List.Kept.{IsStrictlySortedBy-filter}
use Rattle.std.specs.List.{list_any}
use Rattle.calculus.specs.declared.change.Pair.{Pair}
use Rattle.calculus.specs.Rows.{Row, Ascends, has, set_of}
use Rattle.calculus.specs.Replacement.{old_rows, new_rows}
use Rattle.calculus.specs.Value.{row_cmp}
use Rattle.calculus.proofs.Sets.{same_set, has-set_of, Ascends-set_of}
use Rattle.update_change.specs.Replacements.{Both, is_both, replacements, old_alone, new_alone, AreReplacements}
use Rattle.update_change.proofs.Differing.{same, same_itself, later_true}
use Rattle.update_change.proofs.NewRows.{pair_of}

-- the old rows of replacements, and their new ones
abbrev pub firsts : List Both → List Row
firsts all = map (λ b. b.0) all

abbrev pub seconds : List Both → List Row
seconds all = map (λ b. b.1) all

equal_by : (b c : Bool) → (b ≡ true → c ≡ true) → (c ≡ true → b ≡ true) → b ≡ c
equal_by true c to from = sym (to refl)
equal_by false true to from = from refl
equal_by false false to from = refl

-- ---- rows of the same replacements

found_first : (all : List Both) (q : Row) → has (firsts all) q ≡ true → (n : Row) × (list_any (is_both (q, n)) all ≡ true)
found_first [] q h = cc h
found_first (b ∷ all) q h = go (same q b.0) refl h (found_first all q)
  where
    go : (t : Bool) → same q b.0 ≡ t → (t || has (firsts all) q) ≡ true → (has (firsts all) q ≡ true → (n : Row) × (list_any (is_both (q, n)) all ≡ true))
        → (n : Row) × (list_any (is_both (q, n)) (b ∷ all) ≡ true)
    go true e h later = (b.1, λ i. (e i && same_itself b.1 i) || list_any (is_both (q, b.1)) all)
    go false e h later = let t = later h in (t.0, later_true (same q b.0 && same t.0 b.1) (list_any (is_both (q, t.0)) all) t.1)

there_first : (all : List Both) (q n : Row) → list_any (is_both (q, n)) all ≡ true → has (firsts all) q ≡ true
there_first [] q n h = cc h
there_first (b ∷ all) q n h = go (same q b.0) (same n b.1) h (there_first all q n)
  where
    go : (t s : Bool) → ((t && s) || list_any (is_both (q, n)) all) ≡ true → (list_any (is_both (q, n)) all ≡ true → has (firsts all) q ≡ true)
        → (t || has (firsts all) q) ≡ true
    go true s h later = refl
    go false s h later = later h

found_second : (all : List Both) (q : Row) → has (seconds all) q ≡ true → (o : Row) × (list_any (is_both (o, q)) all ≡ true)
found_second [] q h = cc h
found_second (b ∷ all) q h = go (same q b.1) refl h (found_second all q)
  where
    go : (t : Bool) → same q b.1 ≡ t → (t || has (seconds all) q) ≡ true → (has (seconds all) q ≡ true → (o : Row) × (list_any (is_both (o, q)) all ≡ true))
        → (o : Row) × (list_any (is_both (o, q)) (b ∷ all) ≡ true)
    go true e h later = (b.0, λ i. (same_itself b.0 i && e i) || list_any (is_both (b.0, q)) all)
    go false e h later = let t = later h in (t.0, later_true (same t.0 b.0 && same q b.1) (list_any (is_both (t.0, q)) all) t.1)

there_second : (all : List Both) (o q : Row) → list_any (is_both (o, q)) all ≡ true → has (seconds all) q ≡ true
there_second [] o q h = cc h
there_second (b ∷ all) o q h = go (same o b.0) (same q b.1) h (there_second all o q)
  where
    go : (t s : Bool) → ((t && s) || list_any (is_both (o, q)) all) ≡ true → (list_any (is_both (o, q)) all ≡ true → has (seconds all) q ≡ true)
        → (s || has (seconds all) q) ≡ true
    go true true h later = refl
    go true false h later = later h
    go false true h later = refl
    go false false h later = later h

-- the same replacements among both
abbrev Alike : List Both → List Both → Type 0
Alike xs ys = (b : Both) → list_any (is_both b) xs ≡ list_any (is_both b) ys

has-firsts : (xs ys : List Both) → Alike xs ys → (q : Row) → has (firsts xs) q ≡ has (firsts ys) q
has-firsts xs ys e q =
    equal_by (has (firsts xs) q) (has (firsts ys) q)
    (λ h. let t = found_first xs q h in there_first ys q t.0 (sym (e (q, t.0)) ∙ t.1))
    (λ h. let t = found_first ys q h in there_first xs q t.0 (e (q, t.0) ∙ t.1))

has-seconds : (xs ys : List Both) → Alike xs ys → (q : Row) → has (seconds xs) q ≡ has (seconds ys) q
has-seconds xs ys e q =
    equal_by (has (seconds xs) q) (has (seconds ys) q)
    (λ h. let t = found_second xs q h in there_second ys t.0 q (sym (e (t.0, q)) ∙ t.1))
    (λ h. let t = found_second ys q h in there_second xs t.0 q (e (t.0, q) ∙ t.1))

-- ---- the rows of all pairs

or_first : (a b c : Bool) → ((a || b) || c) ≡ (a || (b || c))
or_first true b c = refl
or_first false b c = refl

or_between : (a b c : Bool) → (b || (a || c)) ≡ (a || (b || c))
or_between true true c = refl
or_between true false c = refl
or_between false b c = refl

all_old : (ps : List Pair) (q : Row) → (has (filter_map old_alone ps) q || has (firsts (replacements ps)) q) ≡ has (old_rows ps) q
all_old [] q = refl
all_old (p ∷ ps) q = go p.old p.new (all_old ps q)
  where
    alone : Bool
    alone = has (filter_map old_alone ps) q

    both : Bool
    both = has (firsts (replacements ps)) q

    go : (o n : Option Row) → (alone || both) ≡ has (old_rows ps) q
        → (has (filter_map old_alone (pair_of o n ∷ ps)) q || has (firsts (replacements (pair_of o n ∷ ps))) q) ≡ has (old_rows (pair_of o n ∷ ps)) q
    go None None e = e
    go None (Some n) e = e
    go (Some o) None e = or_first (same q o) alone both ∙ ap (λ b. same q o || b) e
    go (Some o) (Some n) e = or_between (same q o) alone both ∙ ap (λ b. same q o || b) e

all_new : (ps : List Pair) (q : Row) → (has (filter_map new_alone ps) q || has (seconds (replacements ps)) q) ≡ has (new_rows ps) q
all_new [] q = refl
all_new (p ∷ ps) q = go p.old p.new (all_new ps q)
  where
    alone : Bool
    alone = has (filter_map new_alone ps) q

    both : Bool
    both = has (seconds (replacements ps)) q

    go : (o n : Option Row) → (alone || both) ≡ has (new_rows ps) q
        → (has (filter_map new_alone (pair_of o n ∷ ps)) q || has (seconds (replacements (pair_of o n ∷ ps))) q) ≡ has (new_rows (pair_of o n ∷ ps)) q
    go None None e = e
    go (Some o) None e = e
    go None (Some n) e = or_first (same q n) alone both ∙ ap (λ b. same q n || b) e
    go (Some o) (Some n) e = or_between (same q n) alone both ∙ ap (λ b. same q n || b) e

-- ---- sets

-- lists of the same rows are one set
pub set_same : (xs ys : List Row) → ((q : Row) → has xs q ≡ has ys q) → set_of xs ≡ set_of ys
set_same xs ys h = same_set (set_of xs) (set_of ys) (Ascends-set_of xs) (Ascends-set_of ys) (λ q. has-set_of xs q ∙ h q ∙ sym (has-set_of ys q))

-- rows that ascend are a set, and so is what is kept of them
pub set_of-kept : (test : Row → Bool) (rows : List Row) → Ascends rows → set_of (filter test rows) ≡ filter test rows
set_of-kept test rows h =
    same_set (set_of (filter test rows)) (filter test rows) (Ascends-set_of (filter test rows)) (IsStrictlySortedBy-filter row_cmp test rows h)
    (λ q. has-set_of (filter test rows) q)

pub old_joined : (ps : List Pair) (alone : List Row) (all : List Both) → alone ≡ filter_map old_alone ps → AreReplacements ps all
    → set_of (alone ++ firsts all) ≡ set_of (old_rows ps)
old_joined ps alone all is e =
    set_same (alone ++ firsts all) (old_rows ps)
    (λ q. list_any-append (same q) alone (firsts all) ∙ (λ i. has (is i) q || has-firsts all (replacements ps) e q i) ∙ all_old ps q)

pub new_joined : (ps : List Pair) (alone : List Row) (all : List Both) → alone ≡ filter_map new_alone ps → AreReplacements ps all
    → set_of (alone ++ seconds all) ≡ set_of (new_rows ps)
new_joined ps alone all is e =
    set_same (alone ++ seconds all) (new_rows ps)
    (λ q. list_any-append (same q) alone (seconds all) ∙ (λ i. has (is i) q || has-seconds all (replacements ps) e q i) ∙ all_new ps q)

-- What waits to be applied, beside what stands, in a database: its keys are free, and its numbers.
use Rattle.std.proofs.Common.{◌≡◌, refl, sym, ap, ◌∙◌, subst, ℕ, suc, nat_eq, nat_le, nat_lt, ◌≤◌, ◌<◌, Bool, true, false, ◌||◌, not, cond, IsTrue, List, [], ◌∷◌, ◌++◌, Some, map, filter, length, arith}
use Rattle.std.specs.Prelude.{find, is_some}
use Rattle.std.specs.List.{list_all, list_any, AllByRecursion}
use Rattle.std.specs.List.Sorted.{IsStrictlySortedBy}
use Rattle.std.specs.Cmp.{IsTotalOrder}
use Rattle.std.specs.Ordering.{is_eq, nat_cmp, ordering_then, ordering_reverse}
use Rattle.std.specs.declared.cmp.Ordering.{Ordering}
use Rattle.std.specs.declared.cmp.Ordering.TheVariants.{Less, Equal, Greater}
use Rattle.std.proofs.lemmas.Cmp.{nat_cmp_total}
use Rattle.std.proofs.lemmas.Bool.Decides.{nat_tests, Decides-eqb}
use Rattle.std.proofs.lemmas.List.{length-map}
use Rattle.calculus.specs.declared.query.RelKey.{RelKey}
use Rattle.calculus.specs.declared.schema.RelInfo.{RelInfo}
use Rattle.calculus.specs.Database.{Db, entries, is_there}
use Rattle.calculus.specs.IsDatabase.{IsDatabase, key_is_named}
use Rattle.calculus.specs.Keys.{same_key, key_cmp, numbered_cmp}
use Rattle.calculus.specs.Limits.{most_entries}
use Rattle.calculus.specs.Lists.{differ_by, has_number}
use Rattle.change_laws.specs.Fit.{key_is_free}
use Rattle.plan_laws.proofs.Indexes.{is_no}
use Rattle.plan_laws.proofs.Kept.{both, each, count}
use Rattle.plan_laws.proofs.NewIndexes.{is_yes, other_way}
use Rattle.plan_laws.proofs.NewNumbers.{of_key}
use Rattle.plan_laws.proofs.Orders.{key_total, numbered_total, same_key_is, same_key_itself}
use Rattle.plan_laws.proofs.Planned.{neither}
use Rattle.plan_laws.proofs.Tests.{not_full}
use Rattle.catalog_read.specs.Applying.{Shuffled}
use Rattle.catalog_read.proofs.Shuffles.{back, behind_same, to_front, mapped, Pairwise}
use Rattle.catalog_read.proofs.Members.{Within, within_test, within_length, within_pairs, within_moved, within_count}
use Rattle.catalog_read.proofs.Once.{apart_turned, sorted_apart}

-- ---- entries

-- what is known of the views, and of the indexes
abbrev pub views_of : Db → List RelInfo
views_of db = map (λ v. v.info) db.views

abbrev pub indexes_of : Db → List RelInfo
indexes_of db = map (λ x. x.info) db.indexes

map_append : {X Y : Type 0} (f : X → Y) (xs ys : List X) → map f (xs ++ ys) ≡ map f xs ++ map f ys
map_append f [] ys = refl
map_append f (x ∷ xs) ys = ap (λ l. f x ∷ l) (map_append f xs ys)

pub within_mapped : {X Y : Type 0} (f : X → Y) (xs ys : List X) → Within xs ys → Within (map f xs) (map f ys)
within_mapped f xs ys w = record { others = map f w.others; together = subst (λ l. Shuffled l (map f ys)) (map_append f xs w.others) (mapped f (xs ++ w.others) ys w.together) }

-- an entry that is put in the middle, or last, is brought to the front
pub second_first : (first second third all : List RelInfo) (i : RelInfo) → Within (first ++ (i ∷ second ++ third)) all → Within (i ∷ (first ++ (second ++ third))) all
second_first first second third all i w =
    within_moved (i ∷ (first ++ (second ++ third))) (first ++ (i ∷ second ++ third)) all (back (first ++ (i ∷ second ++ third)) (i ∷ (first ++ (second ++ third))) (to_front first i (second ++ third))) w

pub third_first : (first second third all : List RelInfo) (i : RelInfo) → Within (first ++ (second ++ (i ∷ third))) all → Within (i ∷ (first ++ (second ++ third))) all
third_first first second third all i w =
    second_first first second third all i (within_moved (first ++ (i ∷ (second ++ third))) (first ++ (second ++ (i ∷ third))) all
    (behind_same first (i ∷ (second ++ third)) (second ++ (i ∷ third)) (back (second ++ (i ∷ third)) (i ∷ (second ++ third)) (to_front second i third))) w)

keys_apart : (key : RelKey) (es : List RelInfo) → IsTrue (not (list_any (same_key key) (map (λ i. i.key) es))) → AllByRecursion (λ j. same_key key j.key ≡ false) es
keys_apart key [] t = tt
keys_apart key (j ∷ es) t = let parts = neither (same_key key j.key) (list_any (same_key key) (map (λ i. i.key) es)) (is_no _ t) in (parts.0, keys_apart key es (is_yes _ parts.1))

-- the keys of entries differ
abbrev pub EntriesDiffer : List RelInfo → Type 0
EntriesDiffer = Pairwise (λ i j. same_key i.key j.key ≡ false)

pub entries_differ : (es : List RelInfo) → IsTrue (differ_by same_key (map (λ i. i.key) es)) → EntriesDiffer es
entries_differ [] t = tt
entries_differ (i ∷ es) t =
    let parts = both (not (list_any (same_key i.key) (map (λ i. i.key) es))) (differ_by same_key (map (λ i. i.key) es)) t in
    (keys_apart i.key es parts.0, entries_differ es parts.1)

unfound : (key : RelKey) (es : List RelInfo) → AllByRecursion (λ j. same_key key j.key ≡ false) es → is_some (find (λ i. same_key i.key key) es) ≡ false
unfound key [] h = refl
unfound key (j ∷ es) h = ap (λ b. is_some (cond b (Some j) (find (λ i. same_key i.key key) es))) (other_way key j.key h.0) ∙ unfound key es h.1

-- the key of what waits is free
pub key_free : (part whole : Db) (info : RelInfo) → IsDatabase whole → Within (info ∷ entries part) (entries whole) → IsTrue (key_is_free part info.key)
unfolding key_is_free
key_free part whole info is w = each _ _ named (each _ _ (is_yes (is_there part info.key) (unfound info.key (entries part) apart)) (not_full part room))
  where
    named : IsTrue (key_is_named info.key)
    named = (both (key_is_named info.key) (list_all (λ i. key_is_named i.key) (entries part)) (within_test (λ i. key_is_named i.key) (info ∷ entries part) (entries whole) w is.keys_are_named)).0

    apart : AllByRecursion (λ j. same_key info.key j.key ≡ false) (entries part)
    apart = (within_pairs (λ i j. same_key i.key j.key ≡ false) (λ i j h. other_way i.key j.key h) (info ∷ entries part) (entries whole) w (entries_differ (entries whole) is.keys_differ)).0

    less : (m n : ℕ) → suc m ≤ n → IsTrue (nat_le n most_entries) → IsTrue (nat_lt m most_entries)
    less m n h t = grind (arith, nat_tests, h, t)

    room : IsTrue (nat_lt (length (entries part)) most_entries)
    room = less (length (entries part)) (length (entries whole)) (within_length (info ∷ entries part) (entries whole) w) is.few_entries

-- ---- numbers

-- what is equal to itself
itself : {X : Type 0} {cmp : X → X → Ordering} → IsTotalOrder cmp → (x : X) → cmp x x ≡ Equal
itself {X} {cmp} order x = go (cmp x x) (order.antisymm x x)
  where
    go : (o : Ordering) → o ≡ ordering_reverse o → o ≡ Equal
    go Less h = cc h
    go Equal h = refl
    go Greater h = cc h

-- none of its relation has its number
unnumbered : {X : Type 0} (number : X → ℕ) (rel : RelKey) (x : X) (ps : List (RelKey × X)) → AllByRecursion (λ p. is_eq (numbered_cmp number (rel, x) p) ≡ false) ps
    → has_number (map number (map (λ p. p.1) (filter (of_key rel) ps))) (number x) ≡ false
unnumbered number rel x [] h = refl
unnumbered {X} number rel x (p ∷ ps) h = go (same_key p.0 rel) refl (nat_eq (number p.1) (number x)) refl (unnumbered number rel x ps h.1)
  where
    rest : List (RelKey × X)
    rest = filter (of_key rel) ps

    tie : is_eq (numbered_cmp number (rel, x) p) ≡ false → rel ≡ p.0 → number x ≡ number p.1 → ⊥
    tie apart e f =
        let keys : key_cmp rel p.0 ≡ Equal = ap (key_cmp rel) (sym e) ∙ itself key_total rel in
        let numbers : nat_cmp (number x) (number p.1) ≡ Equal = ap (nat_cmp (number x)) (sym f) ∙ itself nat_cmp_total (number x) in
        let yes : is_eq (numbered_cmp number (rel, x) p) ≡ true = λ i. is_eq (ordering_then (keys i) (numbers i)) in
        cc (sym yes ∙ apart)

    go : (b : Bool) → same_key p.0 rel ≡ b → (c : Bool) → nat_eq (number p.1) (number x) ≡ c → has_number (map number (map (λ p. p.1) rest)) (number x) ≡ false
        → has_number (map number (map (λ p. p.1) (cond b (p ∷ rest) rest))) (number x) ≡ false
    go false e c f later = later
    go true e false f later = ap (λ c. c || has_number (map number (map (λ p. p.1) rest)) (number x)) f ∙ later
    go true e true f later = absurd (tie h.0 (sym (same_key_is p.0 rel e)) (sym ((Decides-eqb (number p.1) (number x)).0 f)))

-- the number of what waits is free
pub number_free : {X : Type 0} (number : X → ℕ) (most : ℕ) (rel : RelKey) (x : X) (ps all : List (RelKey × X)) → Within ((rel, x) ∷ ps) all → IsStrictlySortedBy (numbered_cmp number) all
    → (count (of_key rel) all ≤ most) → has_number (map number (map (λ p. p.1) (filter (of_key rel) ps))) (number x) ≡ false × (length (map number (map (λ p. p.1) (filter (of_key rel) ps))) < most)
number_free {X} number most rel x ps all w sorted few =
    let apart = within_pairs (λ p q. is_eq (numbered_cmp number p q) ≡ false) (λ p q h. apart_turned (numbered_total number) p q h) ((rel, x) ∷ ps) all w (sorted_apart (numbered_cmp number) all sorted) in
    let more = within_count (of_key rel) ((rel, x) ∷ ps) all w in
    let one : count (of_key rel) ((rel, x) ∷ ps) ≡ suc (count (of_key rel) ps) = ap (λ b. length (cond b ((rel, x) ∷ filter (of_key rel) ps) (filter (of_key rel) ps))) (same_key_itself rel) in
    let long = length-map (map (λ (p : RelKey × X). p.1) (filter (of_key rel) ps)) number in
    let short = length-map (filter (of_key rel) ps) (λ (p : RelKey × X). p.1) in
    (unnumbered number rel x ps apart.0, omega (arith, more, one, few, long, short))

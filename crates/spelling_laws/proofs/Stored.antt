-- What stands in a database: how many rows, keys and numbers there are.
use Rattle.std.proofs.Common.{◌≡◌, refl, sym, ap, ◌∙◌, true≢false, subst, ℕ, ◌≤◌, Bool, true, false, ◌||◌, List, [], ◌∷◌, map, length, arith}
use Rattle.std.specs.Prelude.{nat_eq, find}
use Rattle.std.specs.List.{list_all, list_any}
use Rattle.std.specs.Ordering.{eq_by_cmp}
use Rattle.std.proofs.lemmas.Bool.{and_parts, leb-true, eqb-true, eq-eqb}
use Rattle.std.proofs.lemmas.List.{length-map}
use Rattle.calculus.specs.declared.query.RelKey.{RelKey}
use Rattle.calculus.specs.declared.schema.RelInfo.{RelInfo}
use Rattle.calculus.specs.Database.{Db, is_there, entries}
use Rattle.calculus.specs.IsDatabase.{IsDatabase}
use Rattle.calculus.specs.Keys.{same_key}
use Rattle.calculus.specs.Limits.{most_entries}
use Rattle.calculus.specs.Lists.{has_number, differ_by}
use Rattle.calculus.specs.Rows.{Row, has}
use Rattle.calculus.specs.Value.{row_cmp}
use Rattle.calculus.proofs.Sets.{same_exact}
use Rattle.quel_meaning.proofs.Each.{Each, each_to, each_passes}
use Rattle.quel_meaning.proofs.Keys.{same_keys, keys_same}
use Rattle.spelling_laws.proofs.Numbers.{There}
use Rattle.spelling_laws.proofs.Pigeons.{no_more}

or_right : (b : Bool) {c : Bool} → c ≡ true → (b || c) ≡ true
or_right true h = refl
or_right false h = h

-- ---- keys

entry_among : (key : RelKey) (infos : List RelInfo) → There (find (λ (i : RelInfo). same_key i.key key) infos) → list_any (same_key key) (map (λ (i : RelInfo). i.key) infos) ≡ true
entry_among key [] h = absurd (true≢false (sym h))
entry_among key (i ∷ infos) h = go (same_key i.key key) refl h (entry_among key infos)
  where
    go : (b : Bool) → same_key i.key key ≡ b → There (find (λ (j : RelInfo). same_key j.key key) (i ∷ infos)) → (There (find (λ (j : RelInfo). same_key j.key key) infos) → list_any (same_key key) (map (λ (i : RelInfo). i.key) infos) ≡ true)
        → (same_key key i.key || list_any (same_key key) (map (λ (i : RelInfo). i.key) infos)) ≡ true
    go true e h later = ap (λ b. b || list_any (same_key key) (map (λ (i : RelInfo). i.key) infos)) (keys_same key i.key (sym (same_keys i.key key e)))
    go false e h later = or_right (same_key key i.key) (later (rw e at h))

-- different relations, views and indexes that are there are at most 10,000
pub few_keys : (db : Db) → IsDatabase db → (rels : List RelKey) → list_all (is_there db) rels ≡ true → differ_by same_key rels ≡ true → length rels ≤ 10000
few_keys db d rels there differ =
    let all = each_to (λ key. is_there db key ≡ true) (λ key. list_any (same_key key) (map (λ (i : RelInfo). i.key) (entries db)) ≡ true) (λ key h. entry_among key (entries db) h) rels (each_passes (is_there db) rels there) in
    let most = no_more same_key (λ key. keys_same key key refl) same_keys rels (map (λ (i : RelInfo). i.key) (entries db)) differ all in
    let same = length-map (entries db) (λ (i : RelInfo). i.key) in
    let few = leb-true (length (entries db)) most_entries d.few_entries in
    omega (arith, most, same, few)

-- ---- numbers

number_among : (n : ℕ) (ms : List ℕ) → has_number ms n ≡ true → list_any (nat_eq n) ms ≡ true
number_among n [] h = h
number_among n (m ∷ ms) h = go (nat_eq m n) refl h (number_among n ms)
  where
    go : (b : Bool) → nat_eq m n ≡ b → (b || list_any (λ k. nat_eq k n) ms) ≡ true → (has_number ms n ≡ true → list_any (nat_eq n) ms ≡ true) → (nat_eq n m || list_any (nat_eq n) ms) ≡ true
    go true e h later = ap (λ b. b || list_any (nat_eq n) ms) (eq-eqb n m (sym (eqb-true m n e)))
    go false e h later = or_right (nat_eq n m) (later h)

-- different numbers among others are no more than these
pub few_numbers : (numbers standing : List ℕ) → list_all (has_number standing) numbers ≡ true → differ_by nat_eq numbers ≡ true → length numbers ≤ length standing
few_numbers numbers standing among differ =
    no_more nat_eq (λ n. eq-eqb n n refl) eqb-true numbers standing differ
    (each_to (λ n. has_number standing n ≡ true) (λ n. list_any (nat_eq n) standing ≡ true) (λ n h. number_among n standing h) numbers (each_passes (has_number standing) numbers among))

-- what holds of each of some numbers holds of one that is among them
pub among : (P : ℕ → Type 0) (ms : List ℕ) → Each P ms → (n : ℕ) → has_number ms n ≡ true → P n
among P [] all n h = absurd (true≢false (sym h))
among P (m ∷ ms) all n h = go (nat_eq m n) refl h (among P ms all.1 n)
  where
    go : (b : Bool) → nat_eq m n ≡ b → (b || list_any (λ k. nat_eq k n) ms) ≡ true → (has_number ms n ≡ true → P n) → P n
    go true e h later = subst P (eqb-true m n e) all.0
    go false e h later = later h

-- ---- rows

-- what all rows pass passes one that is among them
row_among : (test : Row → Bool) (rows : List Row) → list_all test rows ≡ true → (row : Row) → has rows row ≡ true → test row ≡ true
row_among test [] all row h = absurd (true≢false (sym h))
row_among test (first ∷ rows) all row h =
    let two = and_parts (test first) (list_all test rows) all in go two.0 (eq_by_cmp row_cmp row first) refl h (row_among test rows two.1 row)
  where
    go : test first ≡ true → (b : Bool) → eq_by_cmp row_cmp row first ≡ b → (b || has rows row) ≡ true → (has rows row ≡ true → test row ≡ true) → test row ≡ true
    go one true e h later = ap test (same_exact row first e) ∙ one
    go one false e h later = later h

pub rows_among : (test : Row → Bool) (rows : List Row) → list_all test rows ≡ true → (some : List Row) → list_all (has rows) some ≡ true → Each (λ row. test row ≡ true) some
rows_among test rows all some h = each_to (λ row. has rows row ≡ true) (λ row. test row ≡ true) (row_among test rows all) some (each_passes (has rows) some h)

-- What a table of files says after it was changed.
use Rattle.std.proofs.Common.{◌≡◌, refl, sym, ap, ◌∙◌, subst, inl, inr, ℕ, ◌≤◌, ◌<◌, ◌==◌, Bool, true, false, not, cond, ◌||◌, List, [], ◌∷◌, filter, Some, None, Option, if◌then◌else◌, ◌+◌, ◌++◌, length, take, get_or, arith}
use Rattle.std.specs.List.{AllByRecursion, find}
use Rattle.std.proofs.lemmas.List.{take_more}
use Rattle.std.specs.Prelude.{is_some}
use Rattle.calculus.specs.declared.query.RelKey.{RelKey}
use Rattle.calculus.specs.Keys.{same_key, has_key, key_cmp}
use Rattle.calculus.specs.Lists.{insert_by}
use Rattle.stored_database.proofs.Members.{IsIn, of_all, all_of, found_in}
use Rattle.stored_database.proofs.Orders.{same_key_is, same_key_turned}
use Rattle.stored_database.proofs.Reading.{same_number}
use Rattle.stored_database.proofs.Sets.{insert_in}
use Rattle.catalog_moves.specs.declared.files.FilePlace.{FilePlace}
use Rattle.catalog_moves.specs.Files.{place_at, files_at, by_place, with_file, on_base}
use Rattle.catalog_moves.proofs.Placing.{find_put, find_kept}

pub same_key_swap : (a b : RelKey) → same_key a b ≡ same_key b a
same_key_swap a b = go (same_key a b) (same_key b a) (same_key_turned a b) (same_key_turned b a)
  where
    go : (p q : Bool) → (p ≡ true → q ≡ true) → (q ≡ true → p ≡ true) → p ≡ q
    go true q f g = sym (f refl)
    go false true f g = g refl
    go false false f g = refl

-- ---- what is put

pub place_put : (p : FilePlace) (places : List FilePlace) (k : RelKey) → place_at (insert_by by_place p places) k ≡ cond (same_key p.key k) (Some p) (place_at places k)
unfolding place_at
place_put p places k = find_put (λ (p : FilePlace). p.key) p places k

pub files_put : (old new : List FilePlace) (p : FilePlace) → new ≡ insert_by by_place p old → files_at new ≡ with_file p.key p.file p.used (files_at old)
unfolding files_at with_file
files_put old new p e = λ i. record { file = λ k. file k i; used = λ k. used k i }
  where
    at : (k : RelKey) → place_at new k ≡ cond (same_key k p.key) (Some p) (place_at old k)
    at k = ap (λ (places : List FilePlace). place_at places k) e ∙ place_put p old k ∙ ap (λ b. cond b (Some p) (place_at old k)) (same_key_swap p.key k)

    file : (k : RelKey) → elim (place_at new k) [ None ↦ 0 | Some p ↦ p.file ] ≡ (if same_key k p.key then p.file else elim (place_at old k) [ None ↦ 0 | Some p ↦ p.file ])
    file k = ap (λ (o : Option FilePlace). elim o [ None ↦ 0 | Some p ↦ p.file ]) (at k) ∙ go (same_key k p.key)
      where
        go : (b : Bool) → elim (cond b (Some p) (place_at old k)) [ None ↦ 0 | Some p ↦ p.file ] ≡ (if b then p.file else elim (place_at old k) [ None ↦ 0 | Some p ↦ p.file ])
        go true = refl
        go false = refl

    used : (k : RelKey) → elim (place_at new k) [ None ↦ 0 | Some p ↦ p.used ] ≡ (if same_key k p.key then p.used else elim (place_at old k) [ None ↦ 0 | Some p ↦ p.used ])
    used k = ap (λ (o : Option FilePlace). elim o [ None ↦ 0 | Some p ↦ p.used ]) (at k) ∙ go (same_key k p.key)
      where
        go : (b : Bool) → elim (cond b (Some p) (place_at old k)) [ None ↦ 0 | Some p ↦ p.used ] ≡ (if b then p.used else elim (place_at old k) [ None ↦ 0 | Some p ↦ p.used ])
        go true = refl
        go false = refl

pub bound_put : (p : FilePlace) (places : List FilePlace) (m n : ℕ) → AllByRecursion (λ (p : FilePlace). p.file ≤ m) places → m ≤ n → p.file ≤ n → AllByRecursion (λ (p : FilePlace). p.file ≤ n) (insert_by by_place p places)
bound_put p places m n all le fits = all_of (λ (p : FilePlace). p.file ≤ n) (insert_by by_place p places) (λ q at. one q (insert_in by_place p places q at))
  where
    one : (q : FilePlace) → IsIn q (p ∷ places) → q.file ≤ n
    one q (inl e) = subst (λ (q : FilePlace). q.file ≤ n) (sym e) fits
    one q (inr at) = let old = of_all (λ (p : FilePlace). p.file ≤ m) places q all at in omega (arith, old, le)

-- ---- what is kept

-- what stands under a key is found as before, where it is kept
pub place_kept : (old new : List FilePlace) (keep : FilePlace → Bool) (k : RelKey) → new ≡ filter keep old → ((p : FilePlace) → place_at old k ≡ Some p → keep p ≡ true) → place_at new k ≡ place_at old k
unfolding place_at
place_kept old new keep k e kept = ap (λ (places : List FilePlace). place_at places k) e ∙ find_kept (λ (p : FilePlace). same_key p.key k) keep old (place_at old k) refl kept

-- the place that is found has the key
pub place_is : (places : List FilePlace) (k : RelKey) (p : FilePlace) → place_at places k ≡ Some p → IsIn p places × (p.key ≡ k)
unfolding place_at
place_is places k p e = let at = found_in (λ (p : FilePlace). same_key p.key k) places p e in (at.0, same_key_is p.key k at.1)

pub other_kept : (old new : List FilePlace) (key k : RelKey) → new ≡ filter (λ (p : FilePlace). not (same_key p.key key)) old → same_key k key ≡ false → place_at new k ≡ place_at old k
other_kept old new key k e other =
    place_kept old new (λ (p : FilePlace). not (same_key p.key key)) k e
    (λ p at. ap not (ap (λ j. same_key j key) (place_is old k p at).1 ∙ other))

pub base_kept : (old new : List FilePlace) (file : ℕ) (k : RelKey) → new ≡ filter (λ (p : FilePlace). not (p.base == file)) old → on_base file old k ≡ false → place_at new k ≡ place_at old k
unfolding on_base
base_kept old new file k e other =
    place_kept old new (λ (p : FilePlace). not (p.base == file)) k e
    (λ p at. ap not (sym (ap (λ (o : Option FilePlace). elim o [ None ↦ false | Some p ↦ p.base == file ]) at) ∙ other))

-- files of the same places are the same
pub file_same : (old new : List FilePlace) (k : RelKey) → place_at new k ≡ place_at old k → (files_at new).file k ≡ (files_at old).file k
unfolding files_at
file_same old new k e = ap (λ (o : Option FilePlace). elim o [ None ↦ 0 | Some p ↦ p.file ]) e

pub used_same : (old new : List FilePlace) (k : RelKey) → place_at new k ≡ place_at old k → (files_at new).used k ≡ (files_at old).used k
unfolding files_at
used_same old new k e = ap (λ (o : Option FilePlace). elim o [ None ↦ 0 | Some p ↦ p.used ]) e

-- files that places say, by the place under the key
pub file_some : (places : List FilePlace) (k : RelKey) (p : FilePlace) → place_at places k ≡ Some p → ((files_at places).file k ≡ p.file) × ((files_at places).used k ≡ p.used)
unfolding files_at
file_some places k p e =
    (ap (λ (o : Option FilePlace). elim o [ None ↦ 0 | Some p ↦ p.file ]) e, ap (λ (o : Option FilePlace). elim o [ None ↦ 0 | Some p ↦ p.used ]) e)

pub file_none : (places : List FilePlace) (k : RelKey) → place_at places k ≡ None → ((files_at places).file k ≡ 0) × ((files_at places).used k ≡ 0)
unfolding files_at
file_none places k e = (ap (λ (o : Option FilePlace). elim o [ None ↦ 0 | Some p ↦ p.file ]) e, ap (λ (o : Option FilePlace). elim o [ None ↦ 0 | Some p ↦ p.used ]) e)

-- no file is above the greatest
pub at_most : (places : List FilePlace) (m : ℕ) (k : RelKey) → AllByRecursion (λ (p : FilePlace). p.file ≤ m) places → (files_at places).file k ≤ m
unfolding files_at
at_most places m k all = go (place_at places k) refl
  where
    go : (o : Option FilePlace) → place_at places k ≡ o → elim o [ None ↦ 0 | Some p ↦ p.file ] ≤ m
    go None e = omega arith
    go (Some p) e = of_all (λ (p : FilePlace). p.file ≤ m) places p all (place_is places k p e).0

pub another_file : (places : List FilePlace) (m n : ℕ) (k : RelKey) → AllByRecursion (λ (p : FilePlace). p.file ≤ m) places → m < n → ((files_at places).file k == n) ≡ false
another_file places m n k all low = let most = at_most places m k all in differ ((files_at places).file k) n (omega (arith, most, low))
  where
    differ : (a b : ℕ) → a < b → (a == b) ≡ false
    differ a b low = go (a == b) refl
      where
        go : (c : Bool) → (a == b) ≡ c → c ≡ false
        go true e = absurd (let same = same_number a b e in omega (arith, same, low))
        go false e = refl

-- ---- sets of keys

-- a key is among others where it is found
pub any_found : (keys : List RelKey) (key : RelKey) → has_key keys key ≡ is_some (find (λ k. same_key k key) keys)
any_found [] key = refl
any_found (k ∷ keys) key = ap (λ b. b || has_key keys key) (same_key_swap key k) ∙ go (same_key k key) (any_found keys key)
  where
    go : (b : Bool) → has_key keys key ≡ is_some (find (λ k. same_key k key) keys) → (b || has_key keys key) ≡ is_some (cond b (Some k) (find (λ k. same_key k key) keys))
    go true later = refl
    go false later = later

-- a key that is put is one of them
pub key_put : (key : RelKey) (keys : List RelKey) (other : RelKey) → has_key (insert_by key_cmp key keys) other ≡ (same_key key other || has_key keys other)
key_put key keys other =
    any_found (insert_by key_cmp key keys) other
    ∙ ap is_some (find_put (λ (k : RelKey). k) key keys other)
    ∙ go (same_key key other)
    ∙ ap (λ b. same_key key other || b) (sym (any_found keys other))
  where
    go : (b : Bool) → is_some (cond b (Some key) (find (λ k. same_key k other) keys)) ≡ (b || is_some (find (λ k. same_key k other) keys))
    go true = refl
    go false = refl

-- the key is one of the first of these, or the next
pub key_more : (keys : List RelKey) (i : ℕ) (k : RelKey) → i < length keys → k ≡ get_or keys i k → (key : RelKey) (old new : Bool) → old ≡ has_key (take i keys) key → new ≡ (same_key k key || old) → new ≡ has_key (take (i + 1) keys) key
key_more keys i k within is key old new e f =
    f ∙ ap (λ b. same_key k key || b) e ∙ ap (λ b. b || has_key (take i keys) key) (same_key_swap k key) ∙ sym (last (take i keys))
    ∙ ap (λ l. has_key l key) (sym (take_more keys i k within ∙ ap (λ y. take i keys ++ y ∷ []) (sym is)))
  where
    either : (a b c : Bool) → (a || (b || c)) ≡ (b || (a || c))
    either true true c = refl
    either true false c = refl
    either false b c = refl

    last : (ks : List RelKey) → has_key (ks ++ k ∷ []) key ≡ (same_key key k || has_key ks key)
    last [] = refl
    last (l ∷ ks) = ap (λ b. same_key key l || b) (last ks) ∙ either (same_key key l) (same_key key k) (has_key ks key)

-- Places of a table, where what stands under a key gets another file.
use Rattle.std.proofs.Common.{◌≡◌, refl, sym, ap, ◌∙◌, subst, true≢false, ℕ, ◌≤◌, ◌==◌, ◌&&◌, Bool, true, false, not, cond, List, [], ◌∷◌, ◌++◌, length, map, take, drop, Some, None, Option, option_map, if◌then◌else◌, arith}
use Rattle.std.proofs.lemmas.List.{append-nil, drop_all, take_all, take_at}
use Rattle.std.specs.Prelude.{is_some}
use Rattle.std.specs.List.{AllByRecursion, find}
use Rattle.std.specs.List.Sorted.{IsStrictlySortedBy}
use Rattle.calculus.specs.declared.query.RelKey.{RelKey}
use Rattle.calculus.specs.Keys.{same_key, key_cmp}
use Rattle.stored_database.proofs.Pairs.{all_then, all_map}
use Rattle.stored_database.specs.Printed.{Files}
use Rattle.stored_database.proofs.Orders.{same_key_is}
use Rattle.stored_database.specs.Renumbered.{DifferAt}
use Rattle.catalog_moves.specs.declared.files.FilePlace.{FilePlace}
use Rattle.catalog_moves.specs.Files.{place_at, files_at, by_place, with_file}
use Rattle.catalog_moves.specs.Renumbered.{renumbered_place}
use Rattle.catalog_moves.proofs.OnBase.{up_by}
use Rattle.catalog_moves.proofs.Placing.{keys_up}
use Rattle.catalog_moves.proofs.Tables.{place_is, file_some, file_none}

-- ---- files that differ at a key

pub file_here : (key : RelKey) (file used : ℕ) (f : Files) (k : RelKey) → same_key k key ≡ true → ((with_file key file used f).file k ≡ file) × ((with_file key file used f).used k ≡ used)
unfolding with_file
file_here key file used f k e = (ap (λ (b : Bool). if b then file else f.file k) e, ap (λ (b : Bool). if b then used else f.used k) e)

-- the same files but for one key say the same of all others
pub differ_at : (key : RelKey) (file used : ℕ) (f : Files) → DifferAt key f (with_file key file used f)
unfolding with_file
differ_at key file used f = record {
  file = λ k e. ap (λ (b : Bool). if b then file else f.file k) e;
  used = λ k e. ap (λ (b : Bool). if b then used else f.used k) e;
}

-- ---- a list of which each item is changed in turn

-- all are changed, where none is left
pub changed_all : {X : Type 0} (g : X → X) (xs old now : List X) (i n : ℕ) → xs ≡ old → length now ≡ length xs → length xs ≤ i → length xs ≡ n → now ≡ map g (take i xs) ++ drop i xs → take n (now ++ drop (length now) old) ≡ map g old
changed_all g xs old now i n same long end count so_far =
    take_at now (drop (length now) old) n (long ∙ count)
    ∙ so_far ∙ ap (λ l. map g (take i xs) ++ l) (drop_all i xs end) ∙ append-nil (map g (take i xs)) ∙ ap (map g) (take_all i xs end ∙ same)

-- ---- a place

module _ (key : RelKey) (old file used : ℕ) where
  -- as the place is afterwards, by what its key and its base are
  abbrev by_tests : FilePlace → Bool → Bool → FilePlace
  by_tests p a b = if a then record p { file = file; used = used } else (if b then record p { base = file } else p)

  abbrev after : FilePlace → FilePlace
  after = renumbered_place key old file used

  abbrev is_on : FilePlace → Bool
  is_on p = not (old == 0) && p.base == old

  pub after_key : (p : FilePlace) → (after p).key ≡ p.key
  after_key p = go (same_key p.key key) (is_on p)
    where
      go : (a b : Bool) → (by_tests p a b).key ≡ p.key
      go true b = refl
      go false true = refl
      go false false = refl

  pub after_itself : (p : FilePlace) → same_key p.key key ≡ true → after p ≡ record p { file = file; used = used }
  after_itself p e = ap (λ (a : Bool). by_tests p a (is_on p)) e

  after_file : (p : FilePlace) → same_key p.key key ≡ false → ((after p).file ≡ p.file) × ((after p).used ≡ p.used)
  after_file p e = (ap (λ (a : Bool). (by_tests p a (is_on p)).file) e ∙ (go (is_on p)).0, ap (λ (a : Bool). (by_tests p a (is_on p)).used) e ∙ (go (is_on p)).1)
    where
      go : (b : Bool) → ((by_tests p false b).file ≡ p.file) × ((by_tests p false b).used ≡ p.used)
      go true = (refl, refl)
      go false = (refl, refl)

  -- what isn't on the relation keeps its base
  pub base_stays : (p : FilePlace) → (p.base == old) ≡ false → (after p).base ≡ p.base
  base_stays p e = go (same_key p.key key) (not (old == 0)) (p.base == old) e
    where
      go : (a b c : Bool) → c ≡ false → (by_tests p a (b && c)).base ≡ p.base
      go true b c e = refl
      go false true true e = absurd (true≢false e)
      go false true false e = refl
      go false false c e = refl

  -- and what is on it gets another
  pub base_follows : (p : FilePlace) → same_key p.key key ≡ false → (old == 0) ≡ false → (p.base == old) ≡ true → (after p).base ≡ file
  base_follows p e f g = λ i. (by_tests p (e i) (not (f i) && g i)).base

  -- ---- places

  abbrev all : List FilePlace → List FilePlace
  all = map after

  pub place_after : (places : List FilePlace) (k : RelKey) → place_at (all places) k ≡ option_map after (place_at places k)
  unfolding place_at
  place_after [] k = refl
  place_after (p ∷ ps) k = ap (λ (j : RelKey). cond (same_key j k) (Some (after p)) (find (λ (p : FilePlace). same_key p.key k) (all ps))) (after_key p) ∙ go (same_key p.key k) (place_after ps k)
    where
      go : (b : Bool) → find (λ (p : FilePlace). same_key p.key k) (all ps) ≡ option_map after (find (λ (p : FilePlace). same_key p.key k) ps)
          → cond b (Some (after p)) (find (λ (p : FilePlace). same_key p.key k) (all ps)) ≡ option_map after (cond b (Some p) (find (λ (p : FilePlace). same_key p.key k) ps))
      go true later = refl
      go false later = later

  keys_after : (places : List FilePlace) → map (λ (p : FilePlace). p.key) (all places) ≡ map (λ (p : FilePlace). p.key) places
  keys_after [] = refl
  keys_after (p ∷ ps) = ap (λ (k : RelKey). k ∷ map (λ (p : FilePlace). p.key) (all ps)) (after_key p) ∙ ap (λ l. p.key ∷ l) (keys_after ps)

  -- they are in the order of their keys
  pub up_after : (places : List FilePlace) → IsStrictlySortedBy by_place places → IsStrictlySortedBy by_place (all places)
  up_after places up =
      up_by (λ (p : FilePlace). p.key) (all places)
      (subst (IsStrictlySortedBy key_cmp) (sym (keys_after places)) (keys_up (λ (p : FilePlace). p.key) places up))

  -- no file is above the greatest
  pub bound_after : (places : List FilePlace) (m n : ℕ) → AllByRecursion (λ (p : FilePlace). p.file ≤ m) places → m ≤ n → file ≤ n → AllByRecursion (λ (p : FilePlace). p.file ≤ n) (all places)
  bound_after places m n bound le fits = all_map (λ (p : FilePlace). p.file ≤ n) after places (all_then (λ (p : FilePlace). p.file ≤ m) (λ (p : FilePlace). (after p).file ≤ n) places (λ p low. go p low (same_key p.key key) refl) bound)
    where
      go : (p : FilePlace) → p.file ≤ m → (b : Bool) → same_key p.key key ≡ b → (after p).file ≤ n
      go p low true e = subst (λ (q : FilePlace). q.file ≤ n) (sym (after_itself p e)) fits
      go p low false e = let same = (after_file p e).0 in omega (arith, same, low, le)

  -- ---- what they say

  said : (places : List FilePlace) (k : RelKey) → is_some (place_at places key) ≡ true → ((files_at (all places)).file k ≡ (with_file key file used (files_at places)).file k) × ((files_at (all places)).used k ≡ (with_file key file used (files_at places)).used k)
  said places k here = go (same_key k key) refl (place_at places k) refl
    where
      go : (b : Bool) → same_key k key ≡ b → (o : Option FilePlace) → place_at places k ≡ o
          → ((files_at (all places)).file k ≡ (with_file key file used (files_at places)).file k) × ((files_at (all places)).used k ≡ (with_file key file used (files_at places)).used k)
      go true e None at = absurd (true≢false (sym here ∙ ap (λ k. is_some (place_at places k)) (sym (same_key_is k key e)) ∙ ap is_some at))
      go true e (Some p) at =
          let own = after_itself p (ap (λ j. same_key j key) (place_is places k p at).1 ∙ e) in
          let new = file_some (all places) k (after p) (place_after places k ∙ ap (option_map after) at) in
          let said_there = file_here key file used (files_at places) k e in
          (new.0 ∙ ap (λ (q : FilePlace). q.file) own ∙ sym said_there.0, new.1 ∙ ap (λ (q : FilePlace). q.used) own ∙ sym said_there.1)
      go false e None at =
          let new = file_none (all places) k (place_after places k ∙ ap (option_map after) at) in
          let was = file_none places k at in
          let other = differ_at key file used (files_at places) in
          (new.0 ∙ sym was.0 ∙ sym (other.file k e), new.1 ∙ sym was.1 ∙ sym (other.used k e))
      go false e (Some p) at =
          let kept = after_file p (ap (λ j. same_key j key) (place_is places k p at).1 ∙ e) in
          let new = file_some (all places) k (after p) (place_after places k ∙ ap (option_map after) at) in
          let was = file_some places k p at in
          let other = differ_at key file used (files_at places) in
          (new.0 ∙ kept.0 ∙ sym was.0 ∙ sym (other.file k e), new.1 ∙ kept.1 ∙ sym was.1 ∙ sym (other.used k e))

  pub files_after : (places : List FilePlace) → is_some (place_at places key) ≡ true → files_at (all places) ≡ with_file key file used (files_at places)
  unfolding files_at with_file
  files_after places here = λ i. record { file = λ k. (said places k here).0 i; used = λ k. (said places k here).1 i }

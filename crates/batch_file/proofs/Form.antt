-- A batch of its form.
use Rattle.std.proofs.Common.{◌≡◌, ◌⊎◌, inl, inr, ⊎_elim, ℕ, zero, suc, ◌/◌, ◌<◌, ◌≤◌, Bool, true, false, List, [], ◌∷◌, ◌++◌, Option, Some, None, refl, sym, subst, arith, is_some}
use Rattle.std.proofs.lemmas.Bool.Decides.{nat_tests}
use Rattle.disk_model.specs.declared.disk.Addr.{Addr}
use Rattle.disk_model.specs.Disk.{Image}
use Rattle.batch_file.specs.Layout.{addr, count, is_head, is_lawful, is_lawful_in, has_image, or_empty, address_in, entry, entries, entries_of, is_place, Entries}
use Rattle.batch_file.specs.Redone.{next_failing, first_failing, damage_of, damage}
use Rattle.batch_file.proofs.Applies.{Among}

pub among-append : (xs ys : Entries) (b : Addr) → Among (xs ++ ys) b → Among xs b ⊎ Among ys b
among-append [] ys b h = inr h
among-append (c ∷ xs) ys b (inl h) = inl (inl h)
among-append (c ∷ xs) ys b (inr h) = ⊎_elim (λ k. inl (inr k)) (λ k. inr k) (among-append xs ys b h)

among_right : (xs ys : Entries) (b : Addr) → Among ys b → Among (xs ++ ys) b
among_right [] ys b h = h
among_right (c ∷ xs) ys b h = inr (among_right xs ys b h)

among_left : (xs ys : Entries) (b : Addr) → Among xs b → Among (xs ++ ys) b
among_left [] ys b h = absurd h
among_left (c ∷ xs) ys b (inl h) = inl h
among_left (c ∷ xs) ys b (inr h) = inr (among_left xs ys b h)

pub among_entry : (each : ℕ → Addr × List ℕ) (n k : ℕ) → k < n → Among (entries_of each n) (each k).0
among_entry each zero k lt = absurd (omega arith)
among_entry each (suc n) k lt = elim (last_or_before k n lt) [
  | inl same ↦ subst (λ j. Among (entries_of each (suc n)) (each j).0) (sym same) (among_right (entries_of each n) (each n ∷ []) (each n).0 (inl refl))
  | inr below ↦ among_left (entries_of each n) (each n ∷ []) (each k).0 (among_entry each n k below)
]
  where
    last_or_before : (k n : ℕ) → k < suc n → (k ≡ n) ⊎ (k < n)
    last_or_before k n lt = grind arith

pub entry_among : (each : ℕ → Addr × List ℕ) (n : ℕ) (b : Addr) → Among (entries_of each n) b → (k : ℕ) × (k < n) × (b ≡ (each k).0)
entry_among each zero b h = absurd h
entry_among each (suc n) b h = elim (among-append (entries_of each n) (each n ∷ []) b h) [
  | inl below ↦ let found = entry_among each n b below in (found.0, omega (arith, found.1), found.2)
  | inr (inl last) ↦ (n, omega arith, last)
  | inr (inr none) ↦ absurd none
]

next_none : (x : Option ℕ) (t : Bool) (n : ℕ) → next_failing x t n ≡ None → (x ≡ None) × (t ≡ true)
next_none (Some k) t n h = absurd (cc h)
next_none None true n h = (refl, refl)
next_none None false n h = absurd (cc h)

pub none_failing : (ok : ℕ → Bool) (n : ℕ) → first_failing ok n ≡ None → (k : ℕ) → k < n → ok k ≡ true
none_failing ok zero h k lt = absurd (omega arith)
none_failing ok (suc n) h k lt =
    let parts = next_none (first_failing ok n) (ok n) n h in
    elim (last_or_before k n lt) [
      | inl same ↦ subst (λ j. ok j ≡ true) (sym same) parts.1
      | inr below ↦ none_failing ok n parts.0 k below
    ]
  where
    last_or_before : (k n : ℕ) → k < suc n → (k ≡ n) ⊎ (k < n)
    last_or_before k n lt = grind arith

pub lawful_from : (x : Option (List ℕ)) (k : ℕ) → is_lawful_in x k ≡ true → is_place (address_in (or_empty x) k) ≡ true
lawful_from (Some p) k h = h
lawful_from None k h = absurd (cc h)

-- no page that a batch may name lies in the files 1 to 4
pub place_off : (b : Addr) → is_place b ≡ true → 1 ≤ b.file → b.file < 5 → ⊥
place_off b h low high = grind (arith, nat_tests)

damage_none : (head : Bool) (a i : Option ℕ) → damage_of head a i ≡ None → (head ≡ true) × (a ≡ None) × (i ≡ None)
damage_none false a i h = absurd (cc h)
damage_none true (Some k) i h = absurd (cc h)
damage_none true None (Some k) h = absurd (cc h)
damage_none true None None h = (refl, refl, refl)

pub record IsSound (m : Image) (n : ℕ) : Type 0 where
  pub head : is_head (m (addr 2 0)) ≡ true
  pub lawful : (k : ℕ) → k < n → is_lawful m k ≡ true
  pub has : (k : ℕ) → k < n → has_image m k ≡ true

pub sound : (m : Image) (n : ℕ) → damage m ≡ None → count m ≡ n → IsSound m n
unfolding damage
sound m n none size =
    let parts = damage_none (is_head (m (addr 2 0))) (first_failing (is_lawful m) (count m)) (first_failing (has_image m) (count m)) none in
    record {
      head = parts.0;
      lawful = λ k lt. none_failing (is_lawful m) (count m) parts.1 k (omega (arith, lt, size));
      has = λ k lt. none_failing (has_image m) (count m) parts.2 k (omega (arith, lt, size));
    }

-- each address of a lawful batch is one that it may name
pub named : (m : Image) (n : ℕ) → ((k : ℕ) → k < n → is_lawful m k ≡ true) → (b : Addr) → Among (entries m n) b → is_place b ≡ true
named m n lawful b h =
    let found = entry_among (entry m) n b h in
    subst (λ (x : Addr). is_place x ≡ true) (sym found.2) (lawful_from (m (addr 3 (found.0 / 128))) found.0 (lawful found.0 found.1))

pub off_batch : (m : Image) (n : ℕ) → ((k : ℕ) → k < n → is_lawful m k ≡ true) → (b : Addr) → 1 ≤ b.file → b.file < 5 → Among (entries m n) b → ⊥
off_batch m n lawful b low high h = place_off b (named m n lawful b h) low high

pub all_pass : (ok : ℕ → Bool) (n : ℕ) → ((k : ℕ) → k < n → ok k ≡ true) → first_failing ok n ≡ None
all_pass ok zero h = refl
all_pass ok (suc n) h = λ i. next_failing (all_pass ok n (λ k lt. h k (omega arith)) i) (h n (omega arith) i) n

pub no_damage_from : (m : Image) (n : ℕ) → is_head (m (addr 2 0)) ≡ true → count m ≡ n → ((k : ℕ) → k < n → is_lawful m k ≡ true) → ((k : ℕ) → k < n → has_image m k ≡ true) → damage m ≡ None
unfolding damage
no_damage_from m n head size lawful has =
    let a : first_failing (is_lawful m) (count m) ≡ None = all_pass (is_lawful m) (count m) (λ k lt. lawful k (omega (arith, lt, size))) in
    let b : first_failing (has_image m) (count m) ≡ None = all_pass (has_image m) (count m) (λ k lt. has k (omega (arith, lt, size))) in
    λ i. damage_of (head i) (a i) (b i)

-- images that agree on the files of addresses and images
pub record SameEntries (m m' : Image) : Type 0 where
  pub lawful : (k : ℕ) → is_lawful m k ≡ is_lawful m' k
  pub has : (k : ℕ) → has_image m k ≡ has_image m' k
  pub listed : (n : ℕ) → entries m n ≡ entries m' n

pub same_entries : (m m' : Image) → ((k : ℕ) → m (addr 3 k) ≡ m' (addr 3 k)) → ((k : ℕ) → m (addr 4 k) ≡ m' (addr 4 k)) → SameEntries m m'
same_entries m m' third fourth = record {
  lawful = λ k i. is_lawful_in (third (k / 128) i) k;
  has = λ k i. is_some (fourth k i);
  listed = λ n i. entries_of (λ k. (address_in (or_empty (third (k / 128) i)) k, or_empty (fourth k i))) n;
}

-- What pages with changes laid over them are, and what an image stands for.
use Rattle.std.proofs.Common.{◌≡◌, ◌≢◌, ◌⊎◌, inl, inr, ⊎_elim, ℕ, ◌/◌, ◌==◌, Bool, true, false, List, [], ◌∷◌, ◌++◌, Option, Some, None, refl, sym, ◌∙◌, ap, subst, arith, if◌then◌else◌}
use Rattle.std.proofs.lemmas.Bool.Decides.{nat_tests}
use Rattle.disk_model.specs.declared.disk.Addr.{Addr}
use Rattle.disk_model.specs.Disk.{Image, is_at}
use Rattle.disk_model.proofs.Addresses.{at_cases}
use Rattle.batch_file.specs.Layout.{addr, gate, count, count_in, is_head, is_lawful_in, has_image, or_empty, address_in, entries, entries_of, Entries}
use Rattle.batch_file.specs.Redone.{first_failing, damage_of, damage, latest, laid, is_kept, kept, redone_of, redone}
use Rattle.batch_file.specs.OnDisk.{InBatch}

-- an address of one of the changes
abbrev pub Among : Entries → Addr → Type 0
Among [] b = ⊥
Among (c ∷ cs) b = (b ≡ c.0) ⊎ Among cs b

pub among_or_off : (cs : Entries) (b : Addr) → Among cs b ⊎ (Among cs b → ⊥)
among_or_off [] b = inr (λ h. h)
among_or_off (c ∷ cs) b = elim (at_cases b c.0) [
  | inl same ↦ inl (inl same.0)
  | inr other ↦ elim (among_or_off cs b) [
    | inl h ↦ inl (inr h)
    | inr n ↦ inr (λ h. ⊎_elim other.0 n h)
  ]
]

pub latest-append : (xs ys : Entries) (b : Addr) (x : Option (List ℕ)) → latest (xs ++ ys) b x ≡ latest ys b (latest xs b x)
latest-append [] ys b x = refl
latest-append (c ∷ xs) ys b x = latest-append xs ys b (if is_at b c.0 then Some c.1 else x)

pub latest_off : (cs : Entries) (b : Addr) (x : Option (List ℕ)) → (Among cs b → ⊥) → latest cs b x ≡ x
latest_off [] b x n = refl
latest_off (c ∷ cs) b x n = elim (at_cases b c.0) [
  | inl same ↦ absurd (n (inl same.0))
  | inr other ↦ ap (λ t. latest cs b (if t then Some c.1 else x)) other.1 ∙ latest_off cs b x (λ h. n (inr h))
]

pub latest_hit : (cs : Entries) (b : Addr) (x y : Option (List ℕ)) → Among cs b → latest cs b x ≡ latest cs b y
latest_hit [] b x y h = absurd h
latest_hit (c ∷ cs) b x y h = elim (at_cases b c.0) [
  | inl same ↦ ap (λ t. latest cs b (if t then Some c.1 else x)) same.1 ∙ sym (ap (λ t. latest cs b (if t then Some c.1 else y)) same.1)
  | inr other ↦ latest_hit cs b _ _ (⊎_elim (λ e. absurd (other.0 e)) (λ k. k) h)
]

-- applying the same once more changes nothing
pub latest_twice : (cs : Entries) (b : Addr) (x : Option (List ℕ)) → latest cs b (latest cs b x) ≡ latest cs b x
latest_twice cs b x = elim (among_or_off cs b) [
  | inl h ↦ latest_hit cs b _ _ h
  | inr n ↦ latest_off cs b _ n
]

-- pages that agree off the changes are the same once these are applied
pub latest_same : (cs : Entries) (b : Addr) (x y : Option (List ℕ)) → ((Among cs b → ⊥) → x ≡ y) → latest cs b x ≡ latest cs b y
latest_same cs b x y h = elim (among_or_off cs b) [
  | inl hit ↦ latest_hit cs b x y hit
  | inr n ↦ ap (latest cs b) (h n)
]

-- a file whose pages count
pub record IsKept (b : Addr) : Type 0 where
  pub is : is_kept b.file ≡ true

pub kept_by : (m m' : Image) → ((b : Addr) → is_kept b.file ≡ true → m b ≡ m' b) → kept m ≡ kept m'
kept_by m m' h = λ i b. at b (is_kept b.file) refl i
  where
    at : (b : Addr) (t : Bool) → is_kept b.file ≡ t → (if t then m b else None) ≡ (if t then m' b else None)
    at b true is = h b is
    at b false is = refl

kept_file : (b : Addr) → is_kept b.file ≡ true → InBatch b → ⊥
kept_file b is inside = let lo = inside.from in let hi = inside.to in grind (arith, nat_tests)

pub kept_not_batch : (b : Addr) → is_kept b.file ≡ true → InBatch b → ⊥
kept_not_batch b is inside = kept_file b is inside

kept_one : is_kept 1 ≡ true → ⊥
kept_one is = grind (arith, nat_tests)

pub kept_not_gate : (b : Addr) → is_kept b.file ≡ true → b ≢ addr 1 0
kept_not_gate b is e = kept_one (subst (λ (x : Addr). is_kept x.file ≡ true) e is)

pub redone_shut : (m : Image) → gate m ≢ 1 → redone m ≡ Some (kept m)
unfolding redone
redone_shut m shut =
    let t : (gate m == 1) ≡ false = grind (arith, nat_tests) in
    ap (λ t. redone_of t (damage m) (kept m) (kept (laid (entries m (count m)) m))) t

pub redone_open : (m : Image) → gate m ≡ 1 → damage m ≡ None → redone m ≡ Some (kept (laid (entries m (count m)) m))
unfolding redone
redone_open m open_ sound =
    let t : (gate m == 1) ≡ true = grind (arith, nat_tests) in
    λ i. redone_of (t i) (sound i) (kept m) (kept (laid (entries m (count m)) m))

-- images that agree on the files of the batch have the same batch
pub record SameBatch (m m' : Image) : Type 0 where
  pub damage_same : damage m ≡ damage m'
  pub count_same : count m ≡ count m'
  pub entries_same : (n : ℕ) → entries m n ≡ entries m' n

pub same_batch : (m m' : Image) → ((b : Addr) → InBatch b → m b ≡ m' b) → SameBatch m m'
unfolding damage
same_batch m m' h =
    let head : m (addr 2 0) ≡ m' (addr 2 0) = h (addr 2 0) record { from = omega arith; to = omega arith } in
    let third : (k : ℕ) → m (addr 3 (k / 128)) ≡ m' (addr 3 (k / 128)) = λ k. h (addr 3 (k / 128)) record { from = omega arith; to = omega arith } in
    let fourth : (k : ℕ) → m (addr 4 k) ≡ m' (addr 4 k) = λ k. h (addr 4 k) record { from = omega arith; to = omega arith } in
    record {
      damage_same = λ i. damage_of (is_head (head i)) (first_failing (λ k. is_lawful_in (third k i) k) (count_in (head i))) (first_failing (λ k. has_page (fourth k i)) (count_in (head i)));
      count_same = λ i. count_in (head i);
      entries_same = λ n i. entries_of (λ k. (address_in (or_empty (third k i)) k, or_empty (fourth k i))) n;
    }
  where
    has_page : Option (List ℕ) → Bool
    has_page x = has_image (λ _. x) 0

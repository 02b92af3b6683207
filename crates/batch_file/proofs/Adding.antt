-- What the batch's own files hold, together with the page of addresses that the batch has itself.
use Rattle.std.proofs.Common.{◌≡◌, ◌≢◌, ◌⊎◌, inl, inr, ⊎_elim, ℕ, ◌+◌, ◌/◌, ◌%◌, ◌<◌, Bool, true, List, [], ◌∷◌, ◌++◌, Some, None, is_some, IsTrue, not, ◌==◌, if◌then◌else◌, refl, sym, ◌∙◌, ap, subst, arith, add-one}
use Rattle.std.proofs.lemmas.Bool.Decides.{nat_tests}
use Rattle.disk_model.specs.declared.disk.Addr.{Addr}
use Rattle.disk_model.specs.Disk.{Image}
use Rattle.disk_model.proofs.Addresses.{is_at_self, off_at}
use Rattle.batch_file.specs.declared.stage.Batch.{Batch}
use Rattle.batch_file.specs.Layout.{addr, is_lawful, is_lawful_in, has_image, or_empty, address_in, entry, entries, is_place}
use Rattle.batch_file.specs.Redone.{latest}
use Rattle.batch_file.specs.OnDisk.{IsWhole, renewed, image_in}
use Rattle.batch_file.specs.Staged.{completed, staged, Holds}
use Rattle.batch_file.proofs.Listing.{entries_below, entries_renewed, image_of_entries, page_found}

pub files_differ : (f g p q : ℕ) → f ≢ g → addr f p ≢ addr g q
files_differ f g p q other e = other (ap (λ (x : Addr). x.file) e)

pages_differ : (f p q : ℕ) → p ≢ q → addr f p ≢ addr f q
pages_differ f p q other e = other (ap (λ (x : Addr). x.page) e)

same_or_not : (x y : ℕ) → (x ≡ y) ⊎ (x ≢ y)
same_or_not x y = grind arith

-- the batch's own page of addresses, and every other page
pub completed_at : (m : Image) (batch : Batch) (p : ℕ) → p ≡ batch.count / 128 → completed m batch (addr 3 p) ≡ Some batch.addresses
completed_at m batch p is =
    subst (λ q. completed m batch (addr 3 q) ≡ Some batch.addresses) (sym is)
    (ap (λ t. if t then Some batch.addresses else m (addr 3 (batch.count / 128))) (is_at_self (addr 3 (batch.count / 128))))

pub completed_off : (m : Image) (batch : Batch) (b : Addr) → b ≢ addr 3 (batch.count / 128) → completed m batch b ≡ m b
completed_off m batch b off = ap (λ t. if t then Some batch.addresses else m b) (off_at b (addr 3 (batch.count / 128)) off)

pub completed_image : (m : Image) (batch : Batch) (k : ℕ) → completed m batch (addr 4 k) ≡ m (addr 4 k)
completed_image m batch k = completed_off m batch (addr 4 k) (files_differ 4 3 k (batch.count / 128) (omega arith))

-- Image n is there, and address n is on its page, next to the earlier ones.
pub record IsNext (O T : Image) (n : ℕ) (before after : List ℕ) (a : Addr) (image : List ℕ) : Type 0 where
  pub there : address_in after n ≡ a
  pub others : (j : ℕ) → j % 128 ≢ n % 128 → address_in after j ≡ address_in before j
  pub earlier : (p : ℕ) → p < n / 128 → T (addr 3 p) ≡ O (addr 3 p)
  pub old_last : O (addr 3 (n / 128)) ≡ Some before
  pub new_last : T (addr 3 (n / 128)) ≡ Some after
  pub images : (k : ℕ) → k < n → T (addr 4 k) ≡ O (addr 4 k)
  pub image_there : T (addr 4 n) ≡ Some image

module _ (O T : Image) (n : ℕ) (before after : List ℕ) (a : Addr) (image : List ℕ) (next : IsNext O T n before after a image) where
  -- an earlier address is what it was
  address_stays : (k : ℕ) → k < n → address_in (or_empty (T (addr 3 (k / 128)))) k ≡ address_in (or_empty (O (addr 3 (k / 128)))) k
  address_stays k lt = elim (same_or_not (k / 128) (n / 128)) [
    | inl same ↦
        ap (λ p. address_in (or_empty (T (addr 3 p))) k) same ∙ ap (λ x. address_in (or_empty x) k) next.new_last ∙ next.others k (omega (arith, lt, same))
        ∙ sym (ap (λ p. address_in (or_empty (O (addr 3 p))) k) same ∙ ap (λ x. address_in (or_empty x) k) next.old_last)
    | inr other ↦ ap (λ x. address_in (or_empty x) k) (next.earlier (k / 128) (omega (arith, lt, other)))
  ]

  lawful_stays : (k : ℕ) → k < n → is_lawful T k ≡ is_lawful O k
  lawful_stays k lt = elim (same_or_not (k / 128) (n / 128)) [
    | inl same ↦
        ap (λ p. is_lawful_in (T (addr 3 p)) k) same ∙ ap (λ x. is_lawful_in x k) next.new_last ∙ ap is_place (next.others k (omega (arith, lt, same)))
        ∙ sym (ap (λ p. is_lawful_in (O (addr 3 p)) k) same ∙ ap (λ x. is_lawful_in x k) next.old_last)
    | inr other ↦ ap (λ x. is_lawful_in x k) (next.earlier (k / 128) (omega (arith, lt, other)))
  ]

  entry_new : entry T n ≡ (a, image)
  entry_new =
      let e : address_in (or_empty (T (addr 3 (n / 128)))) n ≡ a = ap (λ x. address_in (or_empty x) n) next.new_last ∙ next.there in
      let f : or_empty (T (addr 4 n)) ≡ image = ap or_empty next.image_there in
      λ i. (e i, f i)

  entry_stays : (k : ℕ) → k < n → entry T k ≡ entry O k
  entry_stays k lt =
      let e = address_stays k lt in
      let f = next.images k lt in
      λ i. (e i, or_empty (f i))

  pub one_more : entries T (n + 1) ≡ entries O n ++ (a, image) ∷ []
  one_more = rw add-one (λ i. entries_below (entry T) (entry O) n entry_stays i ++ entry_new i ∷ [])

  last_or_before : (k : ℕ) → k < n + 1 → (k ≡ n) ⊎ (k < n)
  last_or_before k lt = grind arith

  pub whole_more : IsWhole O n → is_place a ≡ true → IsWhole T (n + 1)
  whole_more whole place =
      let new_lawful : is_lawful T n ≡ true = ap (λ x. is_lawful_in x n) next.new_last ∙ ap is_place next.there ∙ place in
      record {
        addresses = λ k lt. ⊎_elim (λ e. subst (λ j. is_lawful T j ≡ true) (sym e) new_lawful) (λ below. lawful_stays k below ∙ whole.addresses k below) (last_or_before k lt);
        images = λ k lt. ⊎_elim (λ e. subst (λ j. has_image T j ≡ true) (sym e) (ap is_some next.image_there)) (λ below. ap is_some (next.images k below) ∙ whole.images k below) (last_or_before k lt);
      }

-- one image more on the disk, and one address more in the batch or on the disk
pub is_next : (old new : Image) (batch more : Batch) (a : Addr) (image : List ℕ) → more.count ≡ batch.count + 1
    → address_in more.addresses batch.count ≡ a → ((j : ℕ) → j % 128 ≢ batch.count % 128 → address_in more.addresses j ≡ address_in batch.addresses j)
    → ((b : Addr) → b ≢ addr 4 batch.count → b ≢ addr 3 (batch.count / 128) → new b ≡ old b) → new (addr 4 batch.count) ≡ Some image
    → (batch.count % 128 ≡ 127 → new (addr 3 (batch.count / 128)) ≡ Some more.addresses)
    → IsNext (completed old batch) (completed new more) batch.count batch.addresses more.addresses a image
is_next old new batch more a image size there others off image_there full = record {
  there = there;
  others = others;
  earlier = λ p lt.
      completed_off new more (addr 3 p) (pages_differ 3 p (more.count / 128) (omega (arith, size, lt)))
      ∙ off (addr 3 p) (files_differ 3 4 p batch.count (omega arith)) (pages_differ 3 p (batch.count / 128) (omega (arith, lt)))
      ∙ sym (completed_off old batch (addr 3 p) (pages_differ 3 p (batch.count / 128) (omega (arith, lt))));
  old_last = completed_at old batch (batch.count / 128) refl;
  new_last = elim (same_or_not (batch.count % 128) 127) [
    | inl last ↦ completed_off new more (addr 3 (batch.count / 128)) (pages_differ 3 (batch.count / 128) (more.count / 128) (omega (arith, size, last))) ∙ full last
    | inr other ↦ completed_at new more (batch.count / 128) (omega (arith, size, other))
  ];
  images = λ k lt. completed_image new more k ∙ off (addr 4 k) (pages_differ 4 k batch.count (omega (arith, lt))) (files_differ 4 3 k (batch.count / 128) (omega arith)) ∙ sym (completed_image old batch k);
  image_there = completed_image new more batch.count ∙ image_there;
}

pub staged_more : (old new : Image) (batch more : Batch) (a : Addr) (image : List ℕ) → more.count ≡ batch.count + 1 → IsNext (completed old batch) (completed new more) batch.count batch.addresses more.addresses a image
    → staged new more ≡ staged old batch ++ (a, image) ∷ []
staged_more old new batch more a image size next =
    ap (entries (completed new more)) size ∙ one_more (completed old batch) (completed new more) batch.count batch.addresses more.addresses a image next

pub holds_more : (old new : Image) (batch more : Batch) (a : Addr) (image : List ℕ) → more.count ≡ batch.count + 1 → IsNext (completed old batch) (completed new more) batch.count batch.addresses more.addresses a image
    → Holds old batch → is_place a ≡ true → Holds new more
holds_more old new batch more a image size next held place =
    subst (IsWhole (completed new more)) (sym size) (whole_more (completed old batch) (completed new more) batch.count batch.addresses more.addresses a image next held place)

module _ (old new : Image) (batch : Batch) (i : ℕ) (page : List ℕ) (off : (b : Addr) → b ≢ addr 4 i → new b ≡ old b) (there : new (addr 4 i) ≡ Some page) where
  third_same : (p : ℕ) → completed new batch (addr 3 p) ≡ completed old batch (addr 3 p)
  third_same p = ap (latest ((addr 3 (batch.count / 128), batch.addresses) ∷ []) (addr 3 p)) (off (addr 3 p) (files_differ 3 4 p i (omega arith)))

  fourth_same : (k : ℕ) → k ≢ i → completed new batch (addr 4 k) ≡ completed old batch (addr 4 k)
  fourth_same k other = ap (latest ((addr 3 (batch.count / 128), batch.addresses) ∷ []) (addr 4 k)) (off (addr 4 k) (pages_differ 4 k i other))

  image_there : completed new batch (addr 4 i) ≡ Some page
  image_there = completed_image new batch i ∙ there

  pub staged_renewed : i < batch.count → staged new batch ≡ renewed (staged old batch) i page
  staged_renewed lt =
      let third = third_same (i / 128) in
      entries_renewed (entry (completed old batch)) (entry (completed new batch)) i page
      (λ k other. let t = third_same (k / 128) in let f = fourth_same k other in λ j. (address_in (or_empty (t j)) k, or_empty (f j)))
      (λ j. (address_in (or_empty (third j)) i, or_empty (image_there j))) batch.count lt

  pub holds_renewed : Holds old batch → Holds new batch
  holds_renewed held = record {
    addresses = λ k lt. ap (λ x. is_lawful_in x k) (third_same (k / 128)) ∙ held.addresses k lt;
    images = λ k lt. ⊎_elim (λ e. subst (λ j. has_image (completed new batch) j ≡ true) (sym e) (ap is_some image_there)) (λ other. ap is_some (fourth_same k other) ∙ held.images k lt) (same_or_not k i);
  }

-- where the page of addresses is full, or is not, its write is due
pub due_full : (n : ℕ) → n % 128 ≡ 127 → IsTrue (n % 128 == 127)
due_full n is = grind (arith, nat_tests)

pub due_rest : (n : ℕ) → n % 128 ≢ 0 → IsTrue (not (n % 128 == 0))
due_rest n is = grind (arith, nat_tests)

-- the image that a read finds
pub image_read : (m : Image) (batch : Batch) (i : ℕ) (found : Bool) (out : List ℕ) → Holds m batch → i < batch.count → m (addr 4 i) ≡ (if found then Some out else None) → image_in (staged m batch) i ≡ Some out
image_read m batch i found out held lt is =
    image_of_entries (entry (completed m batch)) i batch.count lt
    ∙ ap Some (page_found (completed m batch (addr 4 i)) found out (completed_image m batch i ∙ is) (held.images i lt))

-- the disk once the last page of addresses is written, where it isn't full
module _ (old new : Image) (batch : Batch) (off : (b : Addr) → b ≢ addr 3 (batch.count / 128) → new b ≡ old b) (rest : batch.count % 128 ≢ 0 → new (addr 3 (batch.count / 128)) ≡ Some batch.addresses) where
  third_is : (k : ℕ) → k < batch.count → new (addr 3 (k / 128)) ≡ completed old batch (addr 3 (k / 128))
  third_is k lt = elim (same_or_not (k / 128) (batch.count / 128)) [
    | inl same ↦ ap (λ p. new (addr 3 p)) same ∙ rest (omega (arith, lt, same)) ∙ sym (completed_at old batch (k / 128) same)
    | inr other ↦
        off (addr 3 (k / 128)) (pages_differ 3 (k / 128) (batch.count / 128) other)
        ∙ sym (completed_off old batch (addr 3 (k / 128)) (pages_differ 3 (k / 128) (batch.count / 128) other))
  ]

  fourth_is : (k : ℕ) → new (addr 4 k) ≡ completed old batch (addr 4 k)
  fourth_is k = off (addr 4 k) (files_differ 4 3 k (batch.count / 128) (omega arith)) ∙ sym (completed_image old batch k)

  pub all_staged : entries new batch.count ≡ staged old batch
  all_staged = entries_below (entry new) (entry (completed old batch)) batch.count (λ k lt. let t = third_is k lt in let f = fourth_is k in λ j. (address_in (or_empty (t j)) k, or_empty (f j)))

  pub all_whole : Holds old batch → IsWhole new batch.count
  all_whole held = record {
    addresses = λ k lt. ap (λ x. is_lawful_in x k) (third_is k lt) ∙ held.addresses k lt;
    images = λ k lt. ap is_some (fourth_is k) ∙ held.images k lt;
  }

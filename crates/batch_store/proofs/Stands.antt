-- What stands at an address once the batch is applied.
use Rattle.std.proofs.Common.{◌≡◌, ◌⊎◌, inl, inr, ℕ, ◌+◌, ◌<◌, ◌≤◌, Bool, true, false, IsTrue, nat_eq, ◌&&◌, List, [], ◌∷◌, ◌++◌, length, Option, Some, None, Result, Ok, Err, IfOk, OnOk, is_err, refl, sym, ◌∙◌, ap, subst, arith, if◌then◌else◌, cond}
use Rattle.std.proofs.lemmas.Bool.Decides.{nat_tests}
use Rattle.std.specs.HashMap as hash
use Rattle.std.specs.List.{All}
use Rattle.std.specs.HashMap.{HashMap}
use Rattle.disk_model.specs.declared.disk.Addr.{Addr}
use Rattle.disk_model.specs.Disk.{Image, is_at}
use Rattle.disk_model.proofs.Addresses.{at_cases}
use Rattle.batch_file.specs.declared.stage.Batch.{Batch}
use Rattle.batch_file.specs.Layout.{Entries, entry, entries_of, is_place}
use Rattle.batch_file.specs.OnDisk.{InBatch, renewed, image_in}
use Rattle.batch_file.specs.Redone.{latest, laid, kept, is_kept}
use Rattle.batch_file.specs.Staged.{size_of, staged, completed}
use Rattle.batch_file.proofs.Applies.{kept_by, kept_not_batch, latest-append, latest_off}
use Rattle.batch_file.proofs.Collecting.{all_places}
use Rattle.batch_file.proofs.Listing.{length-entries}
use Rattle.am_traits.specs.Pages.{with_page}
use Rattle.batch_store.specs.Numbers.{number_of, last_for, AreBelow, AreNumbered}
use Rattle.batch_store.specs.Recovered.{recovered, known}
use Rattle.batch_store.proofs.Numbering.{latest_none, latest_image, last_for-append, last_for-renewed, latest-renewed}

place_kept : (b : Addr) → is_place b ≡ true → is_kept b.file ≡ true
place_kept b place = grind (arith, nat_tests)

-- the same changes over the same pages that count
pub laid_alike : (cs : Entries) (m n : Image) → kept m ≡ kept n → kept (laid cs m) ≡ kept (laid cs n)
laid_alike cs m n same = kept_by (laid cs m) (laid cs n) (λ b is. ap (latest cs b) (at b is))
  where
    at : (b : Addr) → is_kept b.file ≡ true → m b ≡ n b
    at b is = sym (ap (λ t. if t then m b else None) is) ∙ ap (λ (f : Image). f b) same ∙ ap (λ t. if t then n b else None) is

-- changes at places that a batch may name lie over the pages that count
pub laid_kept : (cs : Entries) (m : Image) → All (λ c. IsTrue (is_place c.0)) cs → kept (laid cs m) ≡ laid cs (kept m)
laid_kept cs m all = λ i b. at b (is_kept b.file) refl i
  where
    at : (b : Addr) (k : Bool) → is_kept b.file ≡ k → (if k then latest cs b (m b) else None) ≡ latest cs b (if k then m b else None)
    at b true is = refl
    at b false is = sym (latest_off cs b None (λ h. let e = place_kept b (all_places cs all b h) in let t : true ≡ false = sym e ∙ is in cc t))

pub known_is : (is_known : Bool) (m : Image) (batch : Batch) → IsTrue is_known → known is_known m batch ≡ Some (recovered m batch)
known_is true m batch is = refl
known_is false m batch is = absurd (cc is)

pub staged_length : (m : Image) (batch : Batch) → length (staged m batch) ≡ size_of batch
staged_length m batch = length-entries (entry (completed m batch)) (size_of batch)

-- without an image the pages are those that count
pub recovered_fresh : (m : Image) (batch : Batch) → staged m batch ≡ [] → recovered m batch ≡ kept m
unfolding recovered
recovered_fresh m batch none = ap (λ (cs : Entries). kept (laid cs m)) none

pub recovered_off : (m : Image) (batch : Batch) (a : Addr) → is_kept a.file ≡ false → recovered m batch a ≡ None
unfolding recovered
recovered_off m batch a off = ap (λ t. if t then laid (staged m batch) m a else None) off

pub recovered_image : (m : Image) (batch : Batch) (a : Addr) (i : ℕ) (page : List ℕ) → is_kept a.file ≡ true → last_for (staged m batch) a ≡ Some i → image_in (staged m batch) i ≡ Some page → recovered m batch a ≡ Some page
unfolding recovered
recovered_image m batch a i page is some image =
    ap (λ t. if t then laid (staged m batch) m a else None) is ∙ latest_image (staged m batch) a i page (m a) some image

pub recovered_disk : (m : Image) (batch : Batch) (a : Addr) → is_kept a.file ≡ true → last_for (staged m batch) a ≡ None → recovered m batch a ≡ m a
unfolding recovered
recovered_disk m batch a is none =
    ap (λ t. if t then laid (staged m batch) m a else None) is ∙ latest_none (staged m batch) a (m a) none

-- what a read answers is what stands there
pub read_so : {E : Type 0} {x y : Option (List ℕ)} (result : Result Bool E) (page : List ℕ) → x ≡ y → IfOk result (λ found. y ≡ (if found then Some page else None)) → IfOk result (λ found. x ≡ (if found then Some page else None))
read_so (Ok found) page same is = same ∙ is
read_so (Err e) page same is = is

kept_from_five : (file : ℕ) → 5 ≤ file → is_kept file ≡ true
kept_from_five file from = grind (arith, nat_tests)

module _ (m next : Image) (batch more : Batch) (a : Addr) (page : List ℕ) (from : 5 ≤ a.file) (same : (b : Addr) → (InBatch b → ⊥) → next b ≡ m b)
    (applies : (b : Addr) (x : Option (List ℕ)) → latest (staged next more) b x ≡ (if is_at b a then Some page else latest (staged m batch) b x)) where
  kept_with : (b : Addr) (k : Bool) → is_kept b.file ≡ k
      → (if k then latest (staged next more) b (next b) else None) ≡ (if is_at b a then Some page else (if k then latest (staged m batch) b (m b) else None))
  kept_with b true is = ap (latest (staged next more) b) (same b (kept_not_batch b is)) ∙ applies b (m b)
  kept_with b false is = elim (at_cases b a) [
    | inl here ↦
        let t : is_kept b.file ≡ true = subst (λ (d : Addr). is_kept d.file ≡ true) (sym here.0) (kept_from_five a.file from) in
        let e : true ≡ false = sym t ∙ is in cc e
    | inr off ↦ sym (ap (λ t. if t then Some page else None) off.1)
  ]

  -- another page stands at an address, and at each other what stood there
  recovered_with : recovered next more ≡ with_page a page (recovered m batch)
  unfolding recovered
  recovered_with = λ i b. kept_with b (is_kept b.file) refl i

pub recovered_added : (m next : Image) (batch more : Batch) (a : Addr) (page : List ℕ) → 5 ≤ a.file → ((b : Addr) → (InBatch b → ⊥) → next b ≡ m b) → staged next more ≡ staged m batch ++ (a, page) ∷ []
    → recovered next more ≡ with_page a page (recovered m batch)
recovered_added m next batch more a page from same added =
    recovered_with m next batch more a page from same (λ b x. ap (λ (cs : Entries). latest cs b x) added ∙ latest-append (staged m batch) ((a, page) ∷ []) b x)

pub recovered_renewed : (m next : Image) (batch more : Batch) (i : ℕ) (a : Addr) (page : List ℕ) → 5 ≤ a.file → ((b : Addr) → (InBatch b → ⊥) → next b ≡ m b) → last_for (staged m batch) a ≡ Some i
    → staged next more ≡ renewed (staged m batch) i page → recovered next more ≡ with_page a page (recovered m batch)
recovered_renewed m next batch more i a page from same some renews =
    recovered_with m next batch more a page from same (λ b x. ap (λ (cs : Entries). latest cs b x) renews ∙ latest-renewed (staged m batch) i a page b x some)

module _ {S : Type 0} where
  pub numbered_renewed : (numbers : HashMap (ℕ × ℕ) ℕ S) (cs more : Entries) (i : ℕ) (page : List ℕ) → AreNumbered numbers cs → more ≡ renewed cs i page → AreNumbered numbers more
  numbered_renewed numbers cs more i page are renews = λ b. are b ∙ sym (ap (λ (l : Entries). last_for l b) renews ∙ last_for-renewed cs i page b)

  -- the number of the next image is noted for an address
  pub Noted : HashMap (ℕ × ℕ) ℕ S → HashMap (ℕ × ℕ) ℕ S → Addr → ℕ → Type 0
  Noted old new a k = (b : Addr) → number_of new b ≡ (if is_at b a then Some k else number_of old b)

  pub numbered_added : (old new : HashMap (ℕ × ℕ) ℕ S) (cs more : Entries) (a : Addr) (page : List ℕ) → Noted old new a (length cs) → AreNumbered old cs → more ≡ cs ++ (a, page) ∷ [] → AreNumbered new more
  unfolding Noted
  numbered_added old new cs more a page noted are added = λ b.
      noted b ∙ ap (λ o. if is_at b a then Some (length cs) else o) (are b) ∙ sym (ap (λ (l : Entries). last_for l b) added ∙ last_for-append cs a b page)

  pub below_added : (old new : HashMap (ℕ × ℕ) ℕ S) (batch more : Batch) (a : Addr) → Noted old new a (size_of batch) → AreBelow old batch → size_of more ≡ size_of batch + 1 → AreBelow new more
  unfolding Noted
  below_added old new batch more a noted are size = λ b i some. at b i (at_cases b a) some
    where
      at : (b : Addr) (i : ℕ) → ((b ≡ a) × (is_at b a ≡ true)) ⊎ ((b ≡ a → ⊥) × (is_at b a ≡ false)) → number_of new b ≡ Some i → i < size_of more
      at b i (inl here) some =
          let e : Some (size_of batch) ≡ Some i = sym (noted b ∙ ap (λ t. if t then Some (size_of batch) else number_of old b) here.1) ∙ some in
          let is : size_of batch ≡ i = cc e in
          omega arith
      at b i (inr off) some =
          let e : number_of old b ≡ Some i = sym (noted b ∙ ap (λ t. if t then Some (size_of batch) else number_of old b) off.1) ∙ some in
          let lt = are b i e in
          omega arith

test_flips : (x y u v : ℕ) → (nat_eq x u && nat_eq y v) ≡ (nat_eq u x && nat_eq v y)
test_flips x y u v = grind (arith, nat_tests)

module _ {S : Type 0} where
  -- what an insertion into the map notes
  pub noted_so : (old new : HashMap (ℕ × ℕ) ℕ S) (a : Addr) (k n : ℕ) → k ≡ n
      → ((q : ℕ × ℕ) → hash.get (λ x y. nat_eq x.0 y.0 && nat_eq x.1 y.1) new q ≡ cond (nat_eq a.file q.0 && nat_eq a.page q.1) (Some k) (hash.get (λ x y. nat_eq x.0 y.0 && nat_eq x.1 y.1) old q)) → Noted old new a n
  unfolding Noted
  noted_so old new a k n same each = λ b.
      each (b.file, b.page) ∙ ap (λ t. cond t (Some k) (number_of old b)) (test_flips a.file a.page b.file b.page) ∙ ap (λ j. if is_at b a then Some j else number_of old b) same

-- a call that isn't answered by an error keeps what it promises where it is answered
pub kept_promise : {T E : Type 0} (result : Result T E) (P : Type 0) → is_err result ≡ false → OnOk result P → P
kept_promise (Ok x) P ok so = so
kept_promise (Err e) P ok so = absurd (cc ok)

-- the pages while nothing was put
pub fresh_pages : (is_known : Bool) (m : Image) (batch : Batch) → IsTrue is_known → staged m batch ≡ [] → known is_known m batch ≡ Some (kept m)
fresh_pages is_known m batch is none = known_is is_known m batch is ∙ ap Some (recovered_fresh m batch none)

pub staged_none : (m : Image) (batch : Batch) → size_of batch ≡ 0 → staged m batch ≡ []
staged_none m batch none = ap (entries_of (entry (completed m batch))) none

pub staged_fresh : (m : Image) (batch fresh : Batch) → batch ≡ fresh → size_of fresh ≡ 0 → staged m batch ≡ []
staged_fresh m batch fresh same none = staged_none m batch (ap size_of same ∙ none)

-- what is known is told by a disk that tells, and is what stands
pub known_so : (is_known : Bool) (m pages : Image) (batch : Batch) → known is_known m batch ≡ Some pages → IsTrue is_known × (recovered m batch ≡ pages)
known_so true m pages batch is = (refl, cc is)
known_so false m pages batch is = absurd (cc is)

pub empty_so : (is_known : Bool) (m pages : Image) (batch : Batch) → size_of batch ≡ 0 → known is_known m batch ≡ Some pages → kept m ≡ pages
empty_so is_known m pages batch none is =
    let so = known_so is_known m pages batch is in
    sym (recovered_fresh m batch (staged_none m batch none)) ∙ so.1

-- a batch that was applied makes the pages that were known
pub laid_so : {T E : Type 0} (result : Result T E) (is_known : Bool) (m next pages : Image) (batch taken : Batch) → taken ≡ batch → known is_known m batch ≡ Some pages
    → (IsTrue is_known → OnOk result (kept next ≡ kept (laid (staged m taken) m))) → OnOk result (kept next ≡ pages)
unfolding recovered
laid_so (Ok done) is_known m next pages batch taken same is laid_ =
    let so = known_so is_known m pages batch is in
    laid_ so.0 ∙ ap (λ (b : Batch). recovered m b) same ∙ so.1
laid_so (Err e) is_known m next pages batch taken same is laid_ = tt

pub begun_so : {T E : Type 0} (result : Result T E) (is_known : Bool) (next pages : Image) (fresh : Batch) → IsTrue is_known → staged next fresh ≡ [] → OnOk result (kept next ≡ pages) → OnOk result (known is_known next fresh ≡ Some pages)
begun_so (Ok done) is_known next pages fresh is none are = fresh_pages is_known next fresh is none ∙ ap Some are
begun_so (Err e) is_known next pages fresh is none are = tt

-- the pages that are known are those of the disk with the changes laid over them
pub known_laid : (is_known : Bool) (m pages : Image) (batch : Batch) → known is_known m batch ≡ Some pages → kept (laid (staged m batch) m) ≡ pages
unfolding recovered
known_laid is_known m pages batch is = let so = known_so is_known m pages batch is in so.1

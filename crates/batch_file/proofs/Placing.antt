-- How a batch whose gate is open is applied to the disk, and the gate shut.
use Rattle.std.proofs.Common.{◌≡◌, ◌≢◌, ◌⊎◌, inl, inr, ℕ, ◌+◌, ◌/◌, ◌<◌, ◌≤◌, Bool, true, List, [], ◌∷◌, Option, Some, refl, sym, ◌∙◌, ap, subst, arith, add-one, if◌then◌else◌}
use Rattle.disk_model.specs.declared.disk.Addr.{Addr}
use Rattle.disk_model.specs.Disk.{Image, IsImage, Changes, OnlyReads, Elapses, LeavesOnly}
use Rattle.disk_model.specs.Disk.{is_at}
use Rattle.disk_model.proofs.Addresses.{at_cases}
use Rattle.disk_model.proofs.Moments.{started, goes_on, reads_on, unchanged, changes_reads, changes_more, image_near, image_settled}
use Rattle.batch_file.specs.Layout.{addr, gate, count, is_lawful, is_lawful_in, has_image, or_empty, address_in, entry, entries, first_byte}
use Rattle.batch_file.specs.Redone.{latest, laid, kept, redone}
use Rattle.batch_file.specs.OnDisk.{InBatch, IsOpen}
use Rattle.std.proofs.Common.{is_some}
use Rattle.batch_file.specs.Faults.{IsBuffered}
use Rattle.batch_file.proofs.Applies.{Among, latest-append, latest_off, latest_twice, latest_same, kept_by, kept_not_gate, redone_shut, redone_open, same_batch, SameBatch}
use Rattle.batch_file.proofs.Form.{sound, IsSound, off_batch, among_entry}

-- what an image stands for while the batch of M is applied
pub redone_mid : (M m : Image) (touched : Addr → Type 0) (n : ℕ) → IsOpen M touched n → ((b : Addr) → (Among (entries M n) b → ⊥) → m b ≡ M b) → redone m ≡ redone M
redone_mid M m touched n is near =
    let whole = sound M n is.no_damage is.size in
    let low : (b : Addr) → 1 ≤ b.file → b.file < 5 → m b ≡ M b = λ b from lt. near b (off_batch M n whole.lawful b from lt) in
    let batch = same_batch m M (λ b inside. low b (omega (arith, inside.from)) (omega (arith, inside.to))) in
    let gate_is : gate m ≡ 1 = ap first_byte (low (addr 1 0) (omega arith) (omega arith)) ∙ is.gate_open in
    let listed : entries m (count m) ≡ entries M n = ap (λ j. entries m j) (batch.count_same ∙ is.size) ∙ batch.entries_same n in
    let listed_M : entries M (count M) ≡ entries M n = ap (λ j. entries M j) is.size in
    let laid_same : kept (laid (entries M n) m) ≡ kept (laid (entries M n) M) = kept_by _ _ (λ b k. latest_same (entries M n) b (m b) (M b) (near b)) in
    redone_open m gate_is (batch.damage_same ∙ is.no_damage)
    ∙ ap (λ cs. Some (kept (laid cs m))) listed ∙ ap Some laid_same ∙ sym (ap (λ cs. Some (kept (laid cs M))) listed_M)
    ∙ sym (redone_open M is.gate_open is.no_damage)

-- and once it is applied, whatever stands at the gate
pub redone_end : (M m : Image) (touched : Addr → Type 0) (n : ℕ) → IsOpen M touched n → ((b : Addr) → (b ≢ addr 1 0) → m b ≡ laid (entries M n) M b) → redone m ≡ redone M
redone_end M m touched n is near = elim (open_or_shut (gate m)) [
  | inl gate_is ↦
      redone_open m gate_is (batch.damage_same ∙ is.no_damage)
      ∙ ap (λ cs. Some (kept (laid cs m))) listed ∙ ap Some twice ∙ stands
  | inr shut ↦ redone_shut m shut ∙ ap Some once ∙ stands
]
  where
    open_or_shut : (x : ℕ) → (x ≡ 1) ⊎ (x ≢ 1)
    open_or_shut x = grind arith

    whole : IsSound M n
    whole = sound M n is.no_damage is.size

    off_gate : (b : Addr) → InBatch b → b ≢ addr 1 0
    off_gate b inside e = let f : b.file ≡ 1 = ap (λ (x : Addr). x.file) e in omega (arith, inside.from, f)

    batch : SameBatch m M
    batch = same_batch m M (λ b inside. near b (off_gate b inside) ∙ latest_off (entries M n) b (M b) (off_batch M n whole.lawful b (omega (arith, inside.from)) (omega (arith, inside.to))))

    listed : entries m (count m) ≡ entries M n
    listed = ap (λ j. entries m j) (batch.count_same ∙ is.size) ∙ batch.entries_same n

    once : kept m ≡ kept (laid (entries M n) M)
    once = kept_by _ _ (λ b k. near b (kept_not_gate b k))

    twice : kept (laid (entries M n) m) ≡ kept (laid (entries M n) M)
    twice = kept_by _ _ (λ b k. ap (latest (entries M n) b) (near b (kept_not_gate b k)) ∙ latest_twice (entries M n) b (M b))

    stands : Some (kept (laid (entries M n) M)) ≡ redone M
    stands = sym (ap (λ cs. Some (kept (laid cs M))) (ap (λ j. entries M j) is.size)) ∙ sym (redone_open M is.gate_open is.no_damage)

pub redone_is : (M : Image) (touched : Addr → Type 0) (n : ℕ) → IsOpen M touched n → redone M ≡ Some (kept (laid (entries M n) M))
redone_is M touched n is = redone_open M is.gate_open is.no_damage ∙ ap (λ cs. Some (kept (laid cs M))) (ap (λ j. entries M j) is.size)

module _ {S : Type 0} (seen : S → Image) (touched : S → Addr → Type 0) (clock : S → ℕ) (left_since : S → ℕ → Image → Type 0) where
  -- k images of the batch are at their places
  pub record Placing (n : ℕ) (old now : S) (k : ℕ) : Type 0 where
    pub run : LeavesOnly clock left_since old now (λ m. redone m ≡ redone (seen old))
    pub change : Changes (Among (entries (seen old) n)) seen touched old now
    pub placed : seen now ≡ laid (entries (seen old) k) (seen old)

  pub placing_starts : (n : ℕ) (old : S) → IsOpen (seen old) (touched old) n → ((m : Image) → left_since old (clock old) m → IsImage (seen old) (touched old) m) → Placing n old old 0
  placing_starts n old is only_now = record {
    run = started seen touched clock left_since old _ (λ m left. ap redone (image_settled seen touched clock left_since old is.settled m (only_now m left)));
    change = unchanged seen touched clock left_since _ old;
    placed = refl;
  }

  pub placing_reads : (n k : ℕ) (old now next : S) → Placing n old now k → OnlyReads seen touched clock left_since now next → Placing n old next k
  placing_reads n k old now next so_far same = record {
    run = reads_on seen touched clock left_since old now next _ so_far.run same;
    change = changes_reads seen touched clock left_since _ old now next so_far.change same;
    placed = same.seen_same ∙ so_far.placed;
  }

  -- the batch is still there
  pub batch_stays : (n k : ℕ) (old now : S) → IsOpen (seen old) (touched old) n → Placing n old now k → (b : Addr) → 1 ≤ b.file → b.file < 5 → seen now b ≡ seen old b
  batch_stays n k old now is so_far b low high = so_far.change.elsewhere b (off_batch (seen old) n (sound (seen old) n is.no_damage is.size).lawful b low high)

  place_of : (n k : ℕ) (old now : S) → IsOpen (seen old) (touched old) n → Placing n old now k → entry (seen now) k ≡ entry (seen old) k
  place_of n k old now is so_far =
      let third = batch_stays n k old now is so_far (addr 3 (k / 128)) (omega arith) (omega arith) in
      let fourth = batch_stays n k old now is so_far (addr 4 k) (omega arith) (omega arith) in
      λ i. (address_in (or_empty (third i)) k, or_empty (fourth i))

  -- one image more is written, or was to be
  pub placing_writes : (n k : ℕ) (old now next : S) → k < n → IsOpen (seen old) (touched old) n → Placing n old now k
      → Changes (λ b. b ≡ (entry (seen now) k).0) seen touched now next → Elapses seen touched clock left_since now next
      → LeavesOnly clock left_since old next (λ m. redone m ≡ redone (seen old)) × Changes (Among (entries (seen old) n)) seen touched old next
  placing_writes n k old now next lt is so_far change time =
      let among : Among (entries (seen old) n) (entry (seen now) k).0 =
      subst (λ e. Among (entries (seen old) n) e.0) (sym (place_of n k old now is so_far)) (among_entry (entry (seen old)) n k lt) in
      let changed = changes_more seen touched clock left_since (Among (entries (seen old) n)) (λ b. b ≡ (entry (seen now) k).0) old now next so_far.change change (λ x same. subst (Among (entries (seen old) n)) (sym same) among) in (
        goes_on seen touched clock left_since old now next _ so_far.run time (λ m image. redone_mid (seen old) m (touched old) n is (image_near seen touched clock left_since _ old next is.settled changed m image)),
        changed,
      )

  pub placing_goes_on : (n k : ℕ) (old now next : S) → k < n → IsOpen (seen old) (touched old) n → Placing n old now k
      → Changes (λ b. b ≡ (entry (seen now) k).0) seen touched now next → Elapses seen touched clock left_since now next
      → seen next (entry (seen now) k).0 ≡ Some (entry (seen now) k).1 → Placing n old next (k + 1)
  placing_goes_on n k old now next lt is so_far change time written =
      let both = placing_writes n k old now next lt is so_far change time in
      record { run = both.0; change = both.1; placed = λ i b. at b i }
    where
      same : entry (seen now) k ≡ entry (seen old) k
      same = place_of n k old now is so_far

      there : seen next (entry (seen old) k).0 ≡ Some (entry (seen old) k).1
      there = subst (λ e. seen next e.0 ≡ Some e.1) same written

      elsewhere : (b : Addr) → b ≢ (entry (seen old) k).0 → seen next b ≡ seen now b
      elsewhere b other = change.elsewhere b (λ e. other (e ∙ ap (λ (x : Addr × List ℕ). x.0) same))

      more : (b : Addr) → laid (entries (seen old) (k + 1)) (seen old) b ≡ (if is_at b (entry (seen old) k).0 then Some (entry (seen old) k).1 else latest (entries (seen old) k) b (seen old b))
      more b = rw add-one (latest-append (entries (seen old) k) (entry (seen old) k ∷ []) b (seen old b))

      pick : Addr → Bool → Option (List ℕ)
      pick b t = if t then Some (entry (seen old) k).1 else latest (entries (seen old) k) b (seen old b)

      at : (b : Addr) → seen next b ≡ laid (entries (seen old) (k + 1)) (seen old) b
      at b = elim (at_cases b (entry (seen old) k).0) [
        | inl here ↦ ap (seen next) here.0 ∙ there ∙ sym (more b ∙ ap (λ t. pick b t) here.1)
        | inr off ↦ elsewhere b off.0 ∙ ap (λ (f : Image). f b) so_far.placed ∙ sym (more b ∙ ap (λ t. pick b t) off.1)
      ]

  module _ (n k : ℕ) (old now : S) (lt : k < n) (opened : IsOpen (seen old) (touched old) n) (so_far : Placing n old now k) where
    pub lawful_now : is_lawful (seen now) k ≡ true
    lawful_now =
        let third = batch_stays n k old now opened so_far (addr 3 (k / 128)) (omega arith) (omega arith) in
        ap (λ x. is_lawful_in x k) third ∙ (sound (seen old) n opened.no_damage opened.size).lawful k lt

    pub has_now : has_image (seen now) k ≡ true
    has_now = ap is_some (batch_stays n k old now opened so_far (addr 4 k) (omega arith) (omega arith)) ∙ (sound (seen old) n opened.no_damage opened.size).has k lt

    module _ (one next : S) (a : Addr) (image : List ℕ) (reads : OnlyReads seen touched clock left_since now one) (is : entry (seen now) k ≡ (a, image))
        (change : Changes (λ b. b ≡ a) seen touched one next) (time : Elapses seen touched clock left_since one next) where
      before : Placing n old one k
      before = placing_reads n k old now one so_far reads

      is_one : entry (seen one) k ≡ (a, image)
      is_one = ap (λ (m : Image). entry m k) reads.seen_same ∙ is

      there : Changes (λ b. b ≡ (entry (seen one) k).0) seen touched one next
      there = subst (λ (e : Addr × List ℕ). Changes (λ b. b ≡ e.0) seen touched one next) (sym is_one) change

      pub step_run : LeavesOnly clock left_since old next (λ m. redone m ≡ redone (seen old))
      step_run = (placing_writes n k old one next lt opened before there time).0

      pub step_done : seen next a ≡ Some image → Placing n old next (k + 1)
      step_done written =
          placing_goes_on n k old one next lt opened before there time (subst (λ (e : Addr × List ℕ). seen next e.0 ≡ Some e.1) (sym is_one) written)

module _ {S : Type 0} (seen : S → Image) (touched : S → Addr → Type 0) (clock : S → ℕ) (left_since : S → ℕ → Image → Type 0)
    (n k : ℕ) (old now : S) (is : IsOpen (seen old) (touched old) n) (so_far : Placing seen touched clock left_since n old now k) where
  -- the pages of addresses stay as they are meanwhile
  pub buffered_now : (j : ℕ) (buffer : List ℕ) → IsBuffered (seen old) j buffer → IsBuffered (seen now) j buffer
  buffered_now j buffer h = λ later. batch_stays seen touched clock left_since n k old now is so_far (addr 3 (j / 128)) (omega arith) (omega arith) ∙ h later

  pub buffered_then : (j : ℕ) (buffer : List ℕ) → IsBuffered (seen now) j buffer → IsBuffered (seen old) j buffer
  buffered_then j buffer h = λ later. sym (batch_stays seen touched clock left_since n k old now is so_far (addr 3 (j / 128)) (omega arith) (omega arith)) ∙ h later

-- How the gate is opened before a batch that is on the disk.
use Rattle.std.proofs.Common.{◌≡◌, ◌≢◌, ◌⊎◌, inl, inr, ℕ, ◌≤◌, true, List, Some, None, refl, sym, ◌∙◌, ap, subst, arith}
use Rattle.disk_model.specs.declared.disk.Addr.{Addr}
use Rattle.disk_model.specs.Disk.{Image, IsImage, IsSettled, Changes, Elapses, LeavesOnly}
use Rattle.disk_model.proofs.Moments.{started, goes_on, image_near, image_back, syncs_on}
use Rattle.batch_file.specs.Layout.{addr, gate, count, count_in, is_head, entries, first_byte, number_at}
use Rattle.batch_file.specs.Redone.{IsShut, damage, latest, laid, is_kept, kept, redone}
use Rattle.batch_file.specs.OnDisk.{InBatch, BeforeOrAfter, IsWhole, IsOpen}
use Rattle.batch_file.proofs.Applies.{kept_by, kept_not_gate, kept_not_batch, redone_shut, redone_open, latest_off}
use Rattle.batch_file.proofs.Form.{off_batch, no_damage_from, same_entries, SameEntries}

pub in_batch_or_off : (b : Addr) → InBatch b ⊎ (InBatch b → ⊥)
in_batch_or_off b = elim (parts b.file) [
  | inl both ↦ inl record { from = both.0; to = both.1 }
  | inr off ↦ inr (λ h. off (h.from, h.to))
]
  where
    parts : (f : ℕ) → ((2 ≤ f) × (f ≤ 4)) ⊎ (((2 ≤ f) × (f ≤ 4)) → ⊥)
    parts f = grind arith

-- images that agree off the files of the batch have the same gate and the same pages that count
pub gate_outside : (m m0 : Image) → ((b : Addr) → (InBatch b → ⊥) → m b ≡ m0 b) → gate m ≡ gate m0
gate_outside m m0 same = ap first_byte (same (addr 1 0) (λ h. let lo = h.from in absurd (omega arith)))

pub kept_outside : (m m0 : Image) → ((b : Addr) → (InBatch b → ⊥) → m b ≡ m0 b) → kept m ≡ kept m0
kept_outside m m0 same = kept_by m m0 (λ b k. same b (kept_not_batch b k))

pub redone_outside : (m m0 : Image) → gate m0 ≢ 1 → ((b : Addr) → (InBatch b → ⊥) → m b ≡ m0 b) → redone m ≡ redone m0
redone_outside m m0 shut same =
    redone_shut m (λ e. shut (sym (gate_outside m m0 same) ∙ e)) ∙ ap Some (kept_outside m m0 same) ∙ sym (redone_shut m0 shut)

-- The batch of O is on the disk with its head, and m is that but at the gate.
pub record IsReady (O m : Image) (n : ℕ) : Type 0 where
  pub shut : gate O ≢ 1
  pub whole : IsWhole O n
  pub head : is_head (m (addr 2 0)) ≡ true
  pub size : count m ≡ n
  pub same : (b : Addr) → b ≢ addr 2 0 → b ≢ addr 1 0 → m b ≡ O b

module _ (O m : Image) (n : ℕ) (ready : IsReady O m n) where
  other_file : (b c : Addr) → (b.file ≡ c.file → ⊥) → b ≢ c
  other_file b c off e = off (ap (λ (x : Addr). x.file) e)

  alike : SameEntries m O
  alike = same_entries m O (λ k. ready.same (addr 3 k) (other_file _ _ (omega arith)) (other_file _ _ (omega arith)))
      (λ k. ready.same (addr 4 k) (other_file _ _ (omega arith)) (other_file _ _ (omega arith)))

  pub ready_sound : damage m ≡ None
  ready_sound = no_damage_from m n ready.head ready.size (λ k lt. alike.lawful k ∙ ready.whole.addresses k lt) (λ k lt. alike.has k ∙ ready.whole.images k lt)

  not_head : (b : Addr) → is_kept b.file ≡ true → b ≢ addr 2 0
  not_head b k e = kept_not_batch b k (subst InBatch (sym e) record { from = omega arith; to = omega arith })

  kept_same : (b : Addr) → is_kept b.file ≡ true → m b ≡ O b
  kept_same b k = ready.same b (not_head b k) (kept_not_gate b k)

  -- a change lies in a file from 5 up, so the gate stays as it is
  pub gate_laid : gate (laid (entries O n) O) ≢ 1
  gate_laid e = ready.shut (sym (ap first_byte (latest_off (entries O n) (addr 1 0) (O (addr 1 0)) (off_batch O n ready.whole.addresses (addr 1 0) (omega arith) (omega arith)))) ∙ e)

  pub redone_laid : redone (laid (entries O n) O) ≡ Some (kept (laid (entries O n) O))
  redone_laid = redone_shut (laid (entries O n) O) gate_laid

  pub ready_open : gate m ≡ 1 → redone m ≡ redone (laid (entries O n) O)
  ready_open is =
      let listed : entries m (count m) ≡ entries O n = ap (λ j. entries m j) ready.size ∙ alike.listed n in
      redone_open m is ready_sound ∙ ap (λ cs. Some (kept (laid cs m))) listed
      ∙ ap Some (kept_by (laid (entries O n) m) (laid (entries O n) O) (λ b k. ap (latest (entries O n) b) (kept_same b k)))
      ∙ sym redone_laid

  pub ready_shut : gate m ≢ 1 → redone m ≡ redone O
  ready_shut off = redone_shut m off ∙ ap Some (kept_by m O kept_same) ∙ sym (redone_shut O ready.shut)

  pub ready_either : (redone m ≡ redone O) ⊎ (redone m ≡ redone (laid (entries O n) O))
  ready_either = elim (one_or_not (gate m)) [
    | inl is ↦ inr (ready_open is)
    | inr off ↦ inl (ready_shut off)
  ]
    where
      one_or_not : (x : ℕ) → (x ≡ 1) ⊎ (x ≢ 1)
      one_or_not x = grind arith

module _ {S : Type 0} (seen : S → Image) (touched : S → Addr → Type 0) (clock : S → ℕ) (left_since : S → ℕ → Image → Type 0)
    (n : ℕ) (old headed : S) (head : List ℕ) (only_now : (m : Image) → left_since old (clock old) m → IsImage (seen old) (touched old) m)
    (shut : IsShut (seen old) (touched old)) (whole : IsWhole (seen old) n) (is : is_head (Some head) ≡ true) (size : number_at head 8 ≡ n)
    (change : Changes (λ b. b ≡ addr 2 0) seen touched old headed) (time : Elapses seen touched clock left_since old headed) where
  abbrev Either : Image → Type 0
  Either m = BeforeOrAfter (seen old) (touched old) (entries (seen old) n) m

  at_start : LeavesOnly clock left_since old old Either
  at_start = started seen touched clock left_since old Either (λ m left. (m, only_now m left, inl refl))

  at_head : (b : Addr) → (b ≡ addr 2 0) ⊎ (b ≢ addr 2 0)
  at_head b = elim (numbers b.file b.page) [
    | inl both ↦ inl (λ i. record { file = both.0 i; page = both.1 i })
    | inr off ↦ inr (λ e. off (ap (λ (x : Addr). x.file) e, ap (λ (x : Addr). x.page) e))
  ]
    where
      numbers : (f p : ℕ) → ((f ≡ 2) × (p ≡ 0)) ⊎ (((f ≡ 2) × (p ≡ 0)) → ⊥)
      numbers f p = grind arith

  headed_image : (m : Image) → IsImage (seen headed) (touched headed) m → Either m
  headed_image m image =
      let from = image_back seen touched clock left_since (λ b. b ≡ addr 2 0) at_head old headed change m image in
      let outside : (b : Addr) → (InBatch b → ⊥) → m b ≡ from.0 b = λ b off. from.2 b (λ e. off (subst InBatch (sym e) record { from = omega arith; to = omega arith })) in
      (from.0, from.1, inl (redone_outside m from.0 (shut from.0 from.1) outside))

  pub run_headed : LeavesOnly clock left_since old headed Either
  run_headed = goes_on seen touched clock left_since old old headed Either at_start time headed_image

  module _ (synced : S) (same1 : seen synced ≡ seen headed) (less1 : (b : Addr) → touched synced b → touched headed b) (time1 : Elapses seen touched clock left_since headed synced) where
    pub run_synced : LeavesOnly clock left_since old synced Either
    run_synced = syncs_on seen touched clock left_since old headed synced Either run_headed same1 less1 time1 headed_image

    module _ (settled : IsSettled (touched synced)) (written : seen headed (addr 2 0) ≡ Some head) (gated : S)
        (change2 : Changes (λ b. b ≡ addr 1 0) seen touched synced gated) (time2 : Elapses seen touched clock left_since synced gated) where
      head_there : seen synced (addr 2 0) ≡ Some head
      head_there = ap (λ (f : Image). f (addr 2 0)) same1 ∙ written

      now_ready : (m : Image) → ((b : Addr) → b ≢ addr 1 0 → m b ≡ seen synced b) → IsReady (seen old) m n
      now_ready m near =
          let head_is : m (addr 2 0) ≡ Some head = near (addr 2 0) (λ e. let f : 2 ≡ 1 = ap (λ (x : Addr). x.file) e in absurd (omega arith)) ∙ head_there in
          record {
            shut = shut (seen old) (λ b calm. refl);
            whole = whole;
            head = ap is_head head_is ∙ is;
            size = ap count_in head_is ∙ size;
            same = λ b not_head not_gate. near b not_gate ∙ ap (λ (f : Image). f b) same1 ∙ change.elsewhere b not_head;
          }

      gated_image : (m : Image) → IsImage (seen gated) (touched gated) m → Either m
      gated_image m image = (seen old, (λ b calm. refl), ready_either (seen old) m n (now_ready m (image_near seen touched clock left_since (λ b. b ≡ addr 1 0) synced gated settled change2 m image)))

      pub run_gated : LeavesOnly clock left_since old gated Either
      run_gated = goes_on seen touched clock left_since old synced gated Either run_synced time2 gated_image

      module _ (last : S) (same2 : seen last ≡ seen gated) (less2 : (b : Addr) → touched last b → touched gated b) (time3 : Elapses seen touched clock left_since gated last) where
        pub run_opened : LeavesOnly clock left_since old last Either
        run_opened = syncs_on seen touched clock left_since old gated last Either run_gated same2 less2 time3 gated_image

        module _ (settled2 : IsSettled (touched last)) (page : List ℕ) (is_open : first_byte (Some page) ≡ 1) (written2 : seen gated (addr 1 0) ≡ Some page) where
          last_ready : IsReady (seen old) (seen last) n
          last_ready = now_ready (seen last) (λ b off. ap (λ (f : Image). f b) same2 ∙ change2.elsewhere b off)

          last_gate : gate (seen last) ≡ 1
          last_gate = ap first_byte (ap (λ (f : Image). f (addr 1 0)) same2 ∙ written2) ∙ is_open

          pub opened : IsOpen (seen last) (touched last) n
          opened = record { settled = settled2; gate_open = last_gate; no_damage = ready_sound (seen old) (seen last) n last_ready; size = last_ready.size }

          pub opened_redone : redone (seen last) ≡ redone (laid (entries (seen old) n) (seen old))
          opened_redone = ready_open (seen old) (seen last) n last_ready last_gate

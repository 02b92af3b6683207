-- Writes to the batch's own files, which leave everything else as it is.
use Rattle.std.proofs.Common.{◌≡◌, ◌≢◌, inl, inr, ⊎_elim, ℕ, true, refl, sym, ◌∙◌, ap, subst, arith}
use Rattle.disk_model.specs.declared.disk.Addr.{Addr}
use Rattle.disk_model.specs.Disk.{Image, IsImage, Changes, OnlyReads, Elapses, LeavesOnly}
use Rattle.disk_model.proofs.Moments.{started, goes_on, reads_on, joins, weaker, changes_more, changes_reads, unchanged, image_back}
use Rattle.batch_file.specs.Layout.{Entries, addr, gate, is_place}
use Rattle.batch_file.specs.Redone.{IsShut, laid, latest, kept, redone}
use Rattle.batch_file.specs.OnDisk.{InBatch, Apart, BeforeOrAfter, SameOutside}
use Rattle.batch_file.proofs.Applies.{Among, kept_by, kept_not_batch}
use Rattle.batch_file.proofs.Finishing.{gate_stays}
use Rattle.batch_file.proofs.Opening.{in_batch_or_off, redone_outside, gate_outside}

module _ {S : Type 0} (seen : S → Image) (touched : S → Addr → Type 0) (clock : S → ℕ) (left_since : S → ℕ → Image → Type 0) where
  -- an image comes from one of before, but in the batch's own files
  pub outside_back : (old now : S) → Changes InBatch seen touched old now → (m : Image) → IsImage (seen now) (touched now) m → SameOutside (seen old) (touched old) m
  outside_back old now change m image = image_back seen touched clock left_since InBatch in_batch_or_off old now change m image

  pub apart_starts : (old : S) → ((m : Image) → left_since old (clock old) m → IsImage (seen old) (touched old) m) → Apart seen touched clock left_since old old
  apart_starts old only_now = record {
    change = unchanged seen touched clock left_since InBatch old;
    run = started seen touched clock left_since old _ (λ m left. (m, only_now m left, λ b off. refl));
  }

  -- one write more
  apart_writes : (old now next : S) (hit : Addr) → InBatch hit → Apart seen touched clock left_since old now → Changes (λ b. b ≡ hit) seen touched now next → Elapses seen touched clock left_since now next → Apart seen touched clock left_since old next
  apart_writes old now next hit inside so_far change time =
      let more = changes_more seen touched clock left_since InBatch (λ b. b ≡ hit) old now next so_far.change change (λ b e. subst InBatch (sym e) inside) in
      record { change = more; run = goes_on seen touched clock left_since old now next _ so_far.run time (outside_back old next more) }

  pub image_written : (old now next : S) (k : ℕ) → Apart seen touched clock left_since old now → Changes (λ b. b ≡ addr 4 k) seen touched now next → Elapses seen touched clock left_since now next → Apart seen touched clock left_since old next
  image_written old now next k = apart_writes old now next (addr 4 k) record { from = omega arith; to = omega arith }

  pub addresses_written : (old now next : S) (p : ℕ) → Apart seen touched clock left_since old now → Changes (λ b. b ≡ addr 3 p) seen touched now next → Elapses seen touched clock left_since now next → Apart seen touched clock left_since old next
  addresses_written old now next p = apart_writes old now next (addr 3 p) record { from = omega arith; to = omega arith }

  -- reads between them
  pub apart_reads : (old now next : S) → Apart seen touched clock left_since old now → OnlyReads seen touched clock left_since now next → Apart seen touched clock left_since old next
  apart_reads old now next so_far same = record {
    change = changes_reads seen touched clock left_since InBatch old now next so_far.change same;
    run = reads_on seen touched clock left_since old now next _ so_far.run same;
  }

  outside_twice : (old now : S) → Changes InBatch seen touched old now → (m : Image) → SameOutside (seen now) (touched now) m → SameOutside (seen old) (touched old) m
  outside_twice old now change m from =
      let back = outside_back old now change from.0 from.1 in
      (back.0, back.1, λ b off. from.2 b off ∙ back.2 b off)

  -- a run of such writes after another
  pub apart_joins : (old now next : S) → Apart seen touched clock left_since old now → Changes InBatch seen touched now next → LeavesOnly clock left_since now next (SameOutside (seen now) (touched now)) → Apart seen touched clock left_since old next
  apart_joins old now next so_far change run = record {
    change = changes_more seen touched clock left_since InBatch InBatch old now next so_far.change change (λ b h. h);
    run = joins seen touched clock left_since old now next _ _ so_far.run run (outside_twice old now so_far.change);
  }

  pub still_shut : (old now : S) → IsShut (seen old) (touched old) → Changes InBatch seen touched old now → IsShut (seen now) (touched now)
  still_shut old now shut change m image =
      let back = outside_back old now change m image in
      λ e. shut back.0 back.1 (sym (gate_outside m back.0 back.2) ∙ e)

  module _ (old now : S) (cs : Entries) (shut : IsShut (seen old) (touched old)) where
    -- what is as it was outside has the redone of before
    outside_before : (m : Image) → SameOutside (seen old) (touched old) m → BeforeOrAfter (seen old) (touched old) cs m
    outside_before m from = (from.0, from.1, inl (redone_outside m from.0 (shut from.0 from.1) from.2))

    pub gives_up : Apart seen touched clock left_since old now → LeavesOnly clock left_since old now (BeforeOrAfter (seen old) (touched old) cs)
    gives_up so_far = weaker seen touched clock left_since old now _ _ so_far.run outside_before

    module _ (places : (b : Addr) → Among cs b → is_place b ≡ true) (so_far : Apart seen touched clock left_since old now) where
      laid_outside : (m m0 : Image) → (gate m0 ≢ 1) → ((b : Addr) → (InBatch b → ⊥) → m b ≡ m0 b) → redone (laid cs m) ≡ redone (laid cs m0)
      laid_outside m m0 shut0 same = redone_outside (laid cs m) (laid cs m0) (λ e. shut0 (sym (gate_stays cs m0 places) ∙ e)) (λ b off. ap (latest cs b) (same b off))

      later_before : (m : Image) → BeforeOrAfter (seen now) (touched now) cs m → BeforeOrAfter (seen old) (touched old) cs m
      later_before m from =
          let back = outside_back old now so_far.change from.0 from.1 in
          (back.0, back.1, ⊎_elim (λ e. inl (e ∙ redone_outside from.0 back.0 (shut back.0 back.1) back.2)) (λ e. inr (e ∙ laid_outside from.0 back.0 (shut back.0 back.1) back.2)) from.2)

      -- and then the batch is applied
      pub then_run : (new : S) → LeavesOnly clock left_since now new (BeforeOrAfter (seen now) (touched now) cs) → LeavesOnly clock left_since old new (BeforeOrAfter (seen old) (touched old) cs)
      then_run new last = joins seen touched clock left_since old now new _ _ (gives_up so_far) last later_before

      pub then_laid : (new : S) → kept (seen new) ≡ kept (laid cs (seen now)) → kept (seen new) ≡ kept (laid cs (seen old))
      then_laid new is = is ∙ kept_by (laid cs (seen now)) (laid cs (seen old)) (λ b k. ap (latest cs b) (so_far.change.elsewhere b (kept_not_batch b k)))

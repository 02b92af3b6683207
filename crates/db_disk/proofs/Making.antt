-- How a database comes to be on a disk, call by call.
use Rattle.std.proofs.Common.{◌≡◌, ◌≢◌, ◌⊎◌, inl, inr, ⊎_elim, ℕ, zero, suc, List, Option, Some, arith, refl, sym, ap, ◌∙◌, subst}
use Rattle.disk_model.specs.declared.disk.Addr.{Addr}
use Rattle.disk_model.specs.Disk.{Image, IsImage, IsSettled, Changes, Elapses, OnlyReads}
use Rattle.disk_model.proofs.Moments.{started, goes_on, syncs_on, reads_on, image_near}
use Rattle.batch_file.specs.Layout.{addr, first_byte, gate}
use Rattle.db_disk.specs.Created.{IsFresh, IsHeader, IsMaking, IsNewDatabase, IsReady, IsUnborn, UnbornOrNew, birth, birth_page}

-- two pages of different numbers or files are two
other_page : (a b : Addr) → (a.file ≡ b.file → a.page ≡ b.page → ⊥) → a ≢ b
other_page a b off = λ e. off (ap (λ (x : Addr). x.file) e) (ap (λ (x : Addr). x.page) e)

-- what has all these pages as they were is ready as they were
ready_still : (dba : List ℕ) (m n : Image) → ((x : Addr) → x ≢ birth_page → n x ≡ m x) → IsReady dba m → IsReady dba n
ready_still dba m n same is = record {
  shut = subst (λ (p : Option (List ℕ)). first_byte p ≢ 1) (sym (same (addr 1 0) (other_page (addr 1 0) birth_page (λ e f. absurd (omega (arith, e)))))) is.shut;
  header = subst (IsHeader dba) (sym (same (addr 0 0) (other_page (addr 0 0) birth_page (λ e f. absurd (omega (arith, f)))))) is.header;
  entries = subst IsFresh (sym (same (addr 5 0) (other_page (addr 5 0) birth_page (λ e f. absurd (omega (arith, e)))))) is.entries;
  columns = subst IsFresh (sym (same (addr 6 0) (other_page (addr 6 0) birth_page (λ e f. absurd (omega (arith, e)))))) is.columns;
  parts = subst IsFresh (sym (same (addr 7 0) (other_page (addr 7 0) birth_page (λ e f. absurd (omega (arith, e)))))) is.parts;
}

-- pages of two files are two
other_file : (f g : ℕ) (p q : ℕ) → (f ≡ g → ⊥) → addr f p ≢ addr g q
other_file f g p q off = other_page (addr f p) (addr g q) (λ e e'. off e)

-- all but the birth byte is there, once the catalogues were written behind the header
pub ready_after : (dba : List ℕ) (m1 m2 m3 m4 m5 : Image) → gate m1 ≢ 1 → IsHeader dba (m1 (addr 0 0))
    → ((b : Addr) → b ≢ addr 5 0 → m2 b ≡ m1 b) → IsFresh (m2 (addr 5 0))
    → ((b : Addr) → b ≢ addr 6 0 → m3 b ≡ m2 b) → IsFresh (m3 (addr 6 0))
    → ((b : Addr) → b ≢ addr 7 0 → m4 b ≡ m3 b) → IsFresh (m4 (addr 7 0))
    → m5 ≡ m4 → IsReady dba m5
ready_after dba m1 m2 m3 m4 m5 shut header five entries six columns seven parts same = subst (IsReady dba) (sym same) record {
  shut = subst (λ (p : Option (List ℕ)). first_byte p ≢ 1) (sym (seven (addr 1 0) (other_file 1 7 0 0 (λ e. absurd (omega (arith, e)))) ∙ six (addr 1 0) (other_file 1 6 0 0 (λ e. absurd (omega (arith, e)))) ∙ five (addr 1 0) (other_file 1 5 0 0 (λ e. absurd (omega (arith, e)))))) shut;
  header = subst (IsHeader dba) (sym (seven (addr 0 0) (other_file 0 7 0 0 (λ e. absurd (omega (arith, e)))) ∙ six (addr 0 0) (other_file 0 6 0 0 (λ e. absurd (omega (arith, e)))) ∙ five (addr 0 0) (other_file 0 5 0 0 (λ e. absurd (omega (arith, e)))))) header;
  entries = subst IsFresh (sym (seven (addr 5 0) (other_file 5 7 0 0 (λ e. absurd (omega (arith, e)))) ∙ six (addr 5 0) (other_file 5 6 0 0 (λ e. absurd (omega (arith, e)))))) entries;
  columns = subst IsFresh (sym (seven (addr 6 0) (other_file 6 7 0 0 (λ e. absurd (omega (arith, e)))))) columns;
  parts = parts;
}

-- it is 1, or it isn't
is_one : (n : ℕ) → (n ≢ 1) ⊎ (n ≡ 1)
is_one zero = inl (λ e. absurd (omega (arith, e)))
is_one (suc zero) = inr refl
is_one (suc (suc n)) = inl (λ e. absurd (omega (arith, e)))

module _ {S : Type 0} (seen : S → Image) (touched : S → Addr → Type 0) (clock : S → ℕ) (left_since : S → ℕ → Image → Type 0) where
  -- a page beside that of the birth byte is written
  pub still_unborn : (b c : S) (a : Addr) → a ≢ birth_page → IsUnborn (seen b) (touched b) → Changes (λ x. x ≡ a) seen touched b c → IsUnborn (seen c) (touched c)
  still_unborn b c a off is change = record {
    calm = λ t. ⊎_elim is.calm (λ e. off (sym e)) (change.touches birth_page t);
    unborn = λ e. is.unborn (ap first_byte (sym (change.elsewhere birth_page (λ e. off (sym e)))) ∙ e);
  }

  -- an image of a disk on which none is born has none
  unborn_image : (b : S) → IsUnborn (seen b) (touched b) → (m : Image) → IsImage (seen b) (touched b) m → birth m ≢ 1
  unborn_image b is m image = λ e. is.unborn (ap first_byte (sym (image birth_page is.calm)) ∙ e)

  pub one_write : (dba : List ℕ) (s b c : S) (a : Addr) → a ≢ birth_page → IsUnborn (seen b) (touched b) → Changes (λ x. x ≡ a) seen touched b c → Elapses seen touched clock left_since b c
      → IsMaking seen touched clock left_since dba s b → IsMaking seen touched clock left_since dba s c
  one_write dba s b c a off is change time so_far =
      goes_on seen touched clock left_since s b c _ so_far time (λ m image. inr (inl (unborn_image c (still_unborn b c a off is change) m image)))

  -- a sync
  pub still_unborn_synced : (b c : S) → seen c ≡ seen b → ((x : Addr) → touched c x → touched b x) → IsUnborn (seen b) (touched b) → IsUnborn (seen c) (touched c)
  still_unborn_synced b c same less is = record {
    calm = λ t. is.calm (less birth_page t);
    unborn = λ e. is.unborn (ap (λ (f : Image). birth f) (sym same) ∙ e);
  }

  pub one_sync : (dba : List ℕ) (s b c : S) → seen c ≡ seen b → ((x : Addr) → touched c x → touched b x) → IsUnborn (seen b) (touched b) → Elapses seen touched clock left_since b c
      → IsMaking seen touched clock left_since dba s b → IsMaking seen touched clock left_since dba s c
  one_sync dba s b c same less is time so_far =
      goes_on seen touched clock left_since s b c _ so_far time (λ m image. inr (inl (unborn_image c (still_unborn_synced b c same less is) m image)))

  -- from the first sync on
  pub first_sync : (dba : List ℕ) (a b : S) → ((m : Image) → left_since a (clock a) m → IsImage (seen a) (touched a) m) → seen b ≡ seen a → ((x : Addr) → touched b x → touched a x)
      → Elapses seen touched clock left_since a b → IsMaking seen touched clock left_since dba a b
  first_sync dba a b only same less time =
      syncs_on seen touched clock left_since a a b _ (started seen touched clock left_since a _ (λ m left. inl (only m left))) same less time (λ m image. inl image)

  -- a read
  pub one_read : (dba : List ℕ) (s b c : S) → OnlyReads seen touched clock left_since b c → IsMaking seen touched clock left_since dba s b → IsMaking seen touched clock left_since dba s c
  one_read dba s b c same so_far = reads_on seen touched clock left_since s b c _ so_far same

  -- the page of the birth byte is written last
  module _ (dba : List ℕ) (s b c : S) (is : IsReady dba (seen b)) (settled : IsSettled (touched b)) (change : Changes (λ x. x ≡ birth_page) seen touched b c) where
    born_or_not : (m : Image) → IsImage (seen c) (touched c) m → UnbornOrNew dba m
    born_or_not m image =
        let ready = ready_still dba (seen b) m (image_near seen touched clock left_since (λ x. x ≡ birth_page) b c settled change m image) is in
        ⊎_elim (λ off. inl off) (λ e. inr record { ready = ready; born = e }) (is_one (birth m))

    pub born_written : Elapses seen touched clock left_since b c → IsMaking seen touched clock left_since dba s b → IsMaking seen touched clock left_since dba s c
    born_written time so_far = goes_on seen touched clock left_since s b c _ so_far time (λ m image. inr (born_or_not m image))

    pub born_synced : (d : S) → Elapses seen touched clock left_since b c → seen d ≡ seen c → ((x : Addr) → touched d x → touched c x) → Elapses seen touched clock left_since c d
        → IsMaking seen touched clock left_since dba s b → IsMaking seen touched clock left_since dba s d
    born_synced d time same less later so_far =
        syncs_on seen touched clock left_since s c d _ (born_written time so_far) same less later (λ m image. inr (born_or_not m image))

    pub new_there : (d : S) (page : List ℕ) → seen c birth_page ≡ Some page → first_byte (Some page) ≡ 1 → seen d ≡ seen c → IsNewDatabase dba (seen d)
    new_there d page there one same = subst (IsNewDatabase dba) (sym same) record {
      ready = ready_still dba (seen b) (seen c) change.elsewhere is;
      born = ap first_byte there ∙ one;
    }

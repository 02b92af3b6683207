-- What a crash leaves.
use Rattle.std.proofs.Common.{◌≡◌, ◌⊎◌, inl, inr, ℕ, ◌==◌, Bool, true, false, List, [], ◌∷◌, ◌++◌, map, take, drop, Option, Some, None, refl, sym, ◌∙◌, ap, subst, if◌then◌else◌, take-append-drop}
use Rattle.disk_model.specs.declared.disk.Addr.{Addr}
use Rattle.disk_model.specs.declared.calls.Call.{Call}
use Rattle.disk_model.specs.declared.calls.Call.TheVariants.{Write, FailedWrite, Cut, FailedCut, Sync, FailedSync, Fill}
use Rattle.disk_model.specs.Disk.{Image, IsSettled, is_at}
use Rattle.disk_model.specs.Calls.{page_of, seen_after, touched_after, seen_from, synced_from, touched_from, seen_of, touched_of}
use Rattle.disk_model.specs.declared.mem_disk.Left.{Left}
use Rattle.disk_model.specs.declared.mem_disk.Left.TheVariants.{Old, New, Filled}
use Rattle.disk_model.specs.MemoryDisk.{State, Leaves, left_at}
use Rattle.disk_model.specs.Walks.{IsQuiet, IsQuietCall, filled_call}
use Rattle.disk_model.proofs.Addresses.{off_at, is_at_self}
use Rattle.disk_model.proofs.Entries.{off_file, same_file}

pub seen_append : (m : Image) (xs ys : List Call) → seen_from m (xs ++ ys) ≡ seen_from (seen_from m xs) ys
seen_append m [] ys = refl
seen_append m (c ∷ xs) ys = seen_append (seen_after c m) xs ys

touched_append : (t : Addr → Type 0) (xs ys : List Call) → touched_from t (xs ++ ys) ≡ touched_from (touched_from t xs) ys
touched_append t [] ys = refl
touched_append t (c ∷ xs) ys = touched_append (touched_after c t) xs ys

-- what was touched stays so without a sync
one_stays : (c : Call) → IsQuietCall c → (t : Addr → Type 0) (b : Addr) → t b → touched_after c t b
one_stays (Write a page) q t b h = inl h
one_stays (FailedWrite a) q t b h = inl h
one_stays (Cut file) q t b h = inl h
one_stays (FailedCut file) q t b h = inl h
one_stays Sync q t b h = absurd q
one_stays FailedSync q t b h = h
one_stays (Fill file byte) q t b h = inl h

all_stay : (ys : List Call) → IsQuiet ys → (t : Addr → Type 0) (b : Addr) → t b → touched_from t ys b
all_stay [] q t b h = h
all_stay (c ∷ ys) q t b h = all_stay ys q.1 (touched_after c t) b (one_stays c q.0 t b h)

-- what is not touched is what it was
one_keeps : (c : Call) → IsQuietCall c → (t : Addr → Type 0) (m : Image) (b : Addr) → (touched_after c t b → ⊥) → seen_after c m b ≡ m b
one_keeps (Write a page) q t m b calm = ap (λ s. if s then Some page else m b) (off_at b a (λ e. calm (inr e)))
one_keeps (FailedWrite a) q t m b calm = refl
one_keeps (Cut file) q t m b calm = ap (λ s. if s then None else m b) (off_file b.file file (λ e. calm (inr e)))
one_keeps (FailedCut file) q t m b calm = refl
one_keeps Sync q t m b calm = refl
one_keeps FailedSync q t m b calm = refl
one_keeps (Fill file byte) q t m b calm = ap (λ s. if s then Some (page_of byte) else m b) (off_file b.file file (λ e. calm (inr e)))

pub quiet_keeps : (ys : List Call) → IsQuiet ys → (t : Addr → Type 0) (m : Image) (b : Addr) → (touched_from t ys b → ⊥) → seen_from m ys b ≡ m b
quiet_keeps [] q t m b calm = refl
quiet_keeps (c ∷ ys) q t m b calm =
    quiet_keeps ys q.1 (touched_after c t) (seen_after c m) b calm ∙ one_keeps c q.0 t m b (λ h. calm (all_stay ys q.1 (touched_after c t) b h))

fill_keeps : (byte : ℕ) (c : Call) → IsQuietCall c → (t : Addr → Type 0) (m : Image) (b : Addr) → (touched_after c t b → ⊥) → seen_after (filled_call byte c) m b ≡ m b
fill_keeps byte (Write a page) q t m b calm = ap (λ s. if s then Some (page_of byte) else m b) (off_at b a (λ e. calm (inr e)))
fill_keeps byte (FailedWrite a) q t m b calm = ap (λ s. if s then Some (page_of byte) else m b) (off_at b a (λ e. calm (inr e)))
fill_keeps byte (Cut file) q t m b calm = ap (λ s. if s then Some (page_of byte) else m b) (off_file b.file file (λ e. calm (inr e)))
fill_keeps byte (FailedCut file) q t m b calm = ap (λ s. if s then Some (page_of byte) else m b) (off_file b.file file (λ e. calm (inr e)))
fill_keeps byte Sync q t m b calm = refl
fill_keeps byte FailedSync q t m b calm = refl
fill_keeps byte (Fill file old) q t m b calm = ap (λ s. if s then Some (page_of byte) else m b) (off_file b.file file (λ e. calm (inr e)))

fills_keep : (byte : ℕ) (ys : List Call) → IsQuiet ys → (t : Addr → Type 0) (m : Image) (b : Addr) → (touched_from t ys b → ⊥) → seen_from m (map (filled_call byte) ys) b ≡ m b
fills_keep byte [] q t m b calm = refl
fills_keep byte (c ∷ ys) q t m b calm =
    fills_keep byte ys q.1 (touched_after c t) (seen_after (filled_call byte c) m) b calm ∙ fill_keeps byte c q.0 t m b (λ h. calm (all_stay ys q.1 (touched_after c t) b h))

-- a page that is there already, or that is put there
either_way : (s : Bool) (page : List ℕ) (x : Option (List ℕ)) → x ≡ Some page → (if s then Some page else x) ≡ Some page
either_way true page x is = refl
either_way false page x is = is

hit_at : (page : List ℕ) (m : Image) (a b : Addr) (t : Type 0) → (t → m b ≡ Some page) → t ⊎ (b ≡ a) → (if is_at b a then Some page else m b) ≡ Some page
hit_at page m a b t before (inl h) = either_way (is_at b a) page (m b) (before h)
hit_at page m a b t before (inr e) = ap (λ s. if s then Some page else m b) (subst (λ x. is_at b x ≡ true) e (is_at_self b))

hit_file : (page : List ℕ) (m : Image) (file : ℕ) (b : Addr) (t : Type 0) → (t → m b ≡ Some page) → t ⊎ (b.file ≡ file) → (if b.file == file then Some page else m b) ≡ Some page
hit_file page m file b t before (inl h) = either_way (b.file == file) page (m b) (before h)
hit_file page m file b t before (inr e) = ap (λ s. if s then Some page else m b) (same_file b.file file e)

one_hits : (byte : ℕ) (c : Call) → IsQuietCall c → (t : Addr → Type 0) (m : Image) (b : Addr) → (t b → m b ≡ Some (page_of byte)) → touched_after c t b → seen_after (filled_call byte c) m b ≡ Some (page_of byte)
one_hits byte (Write a page) q t m b before h = hit_at (page_of byte) m a b (t b) before h
one_hits byte (FailedWrite a) q t m b before h = hit_at (page_of byte) m a b (t b) before h
one_hits byte (Cut file) q t m b before h = hit_file (page_of byte) m file b (t b) before h
one_hits byte (FailedCut file) q t m b before h = hit_file (page_of byte) m file b (t b) before h
one_hits byte Sync q t m b before h = absurd q
one_hits byte FailedSync q t m b before h = before h
one_hits byte (Fill file old) q t m b before h = hit_file (page_of byte) m file b (t b) before h

-- what is touched holds a page of the byte
fills_hit : (byte : ℕ) (ys : List Call) → IsQuiet ys → (t : Addr → Type 0) (m : Image) (b : Addr) → (t b → m b ≡ Some (page_of byte)) → touched_from t ys b → seen_from m (map (filled_call byte) ys) b ≡ Some (page_of byte)
fills_hit byte [] q t m b before h = before h
fills_hit byte (c ∷ ys) q t m b before h =
    fills_hit byte ys q.1 (touched_after c t) (seen_after (filled_call byte c) m) b (one_hits byte c q.0 t m b before) h

module _ (d : State) (cs : List Call) (is_calls : cs ≡ d.calls) (n : ℕ) (quiet : IsQuiet (drop n cs)) (settled : IsSettled (touched_of (take n cs)))
    (stood : (m : Image) → synced_from m m cs ≡ seen_from m (take n cs)) where
  abbrev M : Image
  M = seen_of d.first

  -- what is known of the list of calls that was read, of the disk's own
  own : (left : Left) (now : Image) → ((b : Addr) → (touched_of cs b → ⊥) → now b ≡ seen_from M cs b) → ((b : Addr) → touched_of cs b → now b ≡ left_at left (synced_from M M cs b) (seen_from M cs b)) → Leaves left d now
  own left now one two = record {
    untouched = subst (λ l. (b : Addr) → (touched_of l b → ⊥) → now b ≡ seen_from M l b) is_calls one;
    touched = subst (λ l. (b : Addr) → touched_of l b → now b ≡ left_at left (synced_from M M l b) (seen_from M l b)) is_calls two;
  }

  at_sync : seen_of (d.first ++ take n cs) ≡ seen_from M (take n cs)
  at_sync = seen_append (λ _. None) d.first (take n cs)

  whole : seen_from (seen_from M (take n cs)) (drop n cs) ≡ seen_from M cs
  whole = sym (seen_append M (take n cs) (drop n cs)) ∙ ap (seen_from M) (take-append-drop n cs)

  parts : touched_of cs ≡ touched_from (touched_of (take n cs)) (drop n cs)
  parts = ap touched_of (sym (take-append-drop n cs)) ∙ touched_append (λ _. ⊥) (take n cs) (drop n cs)

  since : (b : Addr) → touched_of cs b → touched_from (touched_of (take n cs)) (drop n cs) b
  since b h = subst (λ (t : Addr → Type 0). t b) parts h

  calm : (b : Addr) → (touched_of cs b → ⊥) → touched_from (touched_of (take n cs)) (drop n cs) b → ⊥
  calm b off h = off (subst (λ (t : Addr → Type 0). t b) (sym parts) h)

  stays : (b : Addr) → (touched_of cs b → ⊥) → seen_from M (take n cs) b ≡ seen_from M cs b
  stays b off = sym (quiet_keeps (drop n cs) quiet (touched_of (take n cs)) (seen_from M (take n cs)) b (calm b off)) ∙ ap (λ (f : Image). f b) whole

  pub leaves_old : (new : List Call) → new ≡ d.first ++ take n cs → Leaves Old d (seen_of new)
  leaves_old new is = own Old (seen_of new)
      (λ b off. ap (λ (f : Image). f b) (ap seen_of is ∙ at_sync) ∙ stays b off)
      (λ b h. ap (λ (f : Image). f b) (ap seen_of is ∙ at_sync ∙ sym (stood M)))

  pub leaves_new : (some new : List Call) → some ≡ d.first ++ take n cs → new ≡ some ++ drop n cs → Leaves New d (seen_of new)
  leaves_new some new is more =
      let all : seen_of new ≡ seen_from M cs = ap seen_of more ∙ seen_append (λ _. None) some (drop n cs) ∙ ap (λ f. seen_from f (drop n cs)) (ap seen_of is ∙ at_sync) ∙ whole in
      own New (seen_of new) (λ b off. ap (λ (f : Image). f b) all) (λ b h. ap (λ (f : Image). f b) all)

  pub leaves_filled : (byte : ℕ) (some new : List Call) → some ≡ d.first ++ take n cs → new ≡ some ++ map (filled_call byte) (drop n cs) → Leaves (Filled byte) d (seen_of new)
  leaves_filled byte some new is more =
      let fills = map (filled_call byte) (drop n cs) in
      let all : seen_of new ≡ seen_from (seen_from M (take n cs)) fills = ap seen_of more ∙ seen_append (λ _. None) some fills ∙ ap (λ f. seen_from f fills) (ap seen_of is ∙ at_sync) in
      own (Filled byte) (seen_of new)
      (λ b off. ap (λ (f : Image). f b) all ∙ fills_keep byte (drop n cs) quiet (touched_of (take n cs)) (seen_from M (take n cs)) b (calm b off) ∙ stays b off)
      (λ b h. ap (λ (f : Image). f b) all ∙ fills_hit byte (drop n cs) quiet (touched_of (take n cs)) (seen_from M (take n cs)) b (λ t. absurd (settled b t)) (since b h))

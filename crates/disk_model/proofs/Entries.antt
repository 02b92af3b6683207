-- One more entry at the end of a list of calls.
use Rattle.std.proofs.Common.{◌≡◌, ◌≢◌, ◌⊎◌, inl, inr, ℕ, ◌+◌, ◌≤◌, ◌<◌, ◌==◌, true, false, List, [], ◌∷◌, ◌++◌, length, take, Some, None, refl, sym, ◌∙◌, ap, subst, arith, if◌then◌else◌, length-append, Result, Ok, Err, OnOk}
use Rattle.std.proofs.lemmas.List.{take-append-le, take_all}
use Rattle.std.proofs.lemmas.Bool.Decides.{nat_tests}
use Rattle.disk_model.specs.declared.disk.Addr.{Addr}
use Rattle.disk_model.specs.declared.disk.DiskFailed.{DiskFailed}
use Rattle.disk_model.specs.declared.calls.Call.{Call}
use Rattle.disk_model.specs.declared.calls.Call.TheVariants.{Write, FailedWrite, Cut, FailedCut, Sync, FailedSync}
use Rattle.disk_model.specs.Disk.{Image, IsImage, IsSettled, Changes, Elapses}
use Rattle.disk_model.specs.History.{Came}
use Rattle.disk_model.specs.Calls.{seen_after, touched_after, seen_from, touched_from, seen_of, touched_of, LeftSince, failed_call}
use Rattle.disk_model.proofs.Addresses.{is_at_self, off_at}
use Rattle.disk_model.specs.MemoryDisk.{State, seen_now, Notes}

pub seen_push : (m : Image) (cs : List Call) (c : Call) → seen_from m (cs ++ c ∷ []) ≡ seen_after c (seen_from m cs)
seen_push m [] c = refl
seen_push m (d ∷ cs) c = seen_push (seen_after d m) cs c

pub touched_push : (t : Addr → Type 0) (cs : List Call) (c : Call) (b : Addr) → touched_from t (cs ++ c ∷ []) b → touched_after c (touched_from t cs) b
touched_push t [] c b h = h
touched_push t (d ∷ cs) c b h = touched_push (touched_after d t) cs c b h

pub off_file : (f g : ℕ) → f ≢ g → (f == g) ≡ false
off_file f g other = grind (arith, nat_tests)

pub same_file : (f g : ℕ) → f ≡ g → (f == g) ≡ true
same_file f g is = grind (arith, nat_tests)

-- What a call does to the addresses that it hits, and to no other.
pub record Alters (Hit : Addr → Type 0) (c : Call) : Type 1 where
  pub elsewhere : (m : Image) (b : Addr) → (Hit b → ⊥) → seen_after c m b ≡ m b
  pub touches : (t : Addr → Type 0) (b : Addr) → touched_after c t b → t b ⊎ Hit b

pub write_alters : (a : Addr) (page : List ℕ) → Alters (λ b. b ≡ a) (Write a page)
write_alters a page = record {
  elsewhere = λ m b off. ap (λ t. if t then Some page else m b) (off_at b a off);
  touches = λ t b h. h;
}

pub failed_write_alters : (a : Addr) → Alters (λ b. b ≡ a) (FailedWrite a)
failed_write_alters a = record { elsewhere = λ m b off. refl; touches = λ t b h. h }

pub cut_alters : (file : ℕ) → Alters (λ b. b.file ≡ file) (Cut file)
cut_alters file = record {
  elsewhere = λ m b off. ap (λ t. if t then None else m b) (off_file b.file file off);
  touches = λ t b h. h;
}

pub failed_cut_alters : (file : ℕ) → Alters (λ b. b.file ≡ file) (FailedCut file)
failed_cut_alters file = record { elsewhere = λ m b off. refl; touches = λ t b h. h }

-- what a disk held at its start stays, and its list has one entry more
pub record Grows (old new : State) (c : Call) : Type 0 where
  pub first_same : new.first ≡ old.first
  pub calls_more : new.calls ≡ old.calls ++ c ∷ []

-- what it held at its start and its list are as before
pub record Stays (old new : State) : Type 0 where
  pub first_same : new.first ≡ old.first
  pub calls_same : new.calls ≡ old.calls

-- after a call the list has its entry, or that of a call that failed, or none
pub moved : (old new : State) (c : Call) (r : Result Unit DiskFailed) → Notes old new c r → Grows old new c ⊎ (Grows old new (failed_call c) ⊎ Stays old new)
moved old new c (Ok done) h = inl record { first_same = ap (λ (d : State). d.first) h.1; calls_more = ap (λ (d : State). d.calls) h.1 }
moved old new c (Err e) (inl h) = inr (inl record { first_same = ap (λ (d : State). d.first) h.1; calls_more = ap (λ (d : State). d.calls) h.1 })
moved old new c (Err e) (inr h) = inr (inr record { first_same = ap (λ (d : State). d.first) h; calls_same = ap (λ (d : State). d.calls) h })

pub done : (old new : State) (c : Call) (r : Result Unit DiskFailed) (P : Type 0) → Notes old new c r → (Grows old new c → P) → OnOk r P
done old new c (Ok u) P h f = f record { first_same = ap (λ (d : State). d.first) h.1; calls_more = ap (λ (d : State). d.calls) h.1 }
done old new c (Err e) P h f = tt

-- what a read gives, and what is touched, after one entry more
pub seen_grown : (old new : State) (c : Call) → Grows old new c → seen_now new ≡ seen_after c (seen_now old)
seen_grown old new c is = (λ i. seen_from (seen_of (is.first_same i)) (is.calls_more i)) ∙ seen_push (seen_of old.first) old.calls c

pub touched_grown : (old new : State) (c : Call) → Grows old new c → (b : Addr) → touched_of new.calls b → touched_after c (touched_of old.calls) b
touched_grown old new c is b h = touched_push (λ _. ⊥) old.calls c b (subst (λ l. touched_of l b) is.calls_more h)

pub seen_stays : (old new : State) → Stays old new → seen_now new ≡ seen_now old
seen_stays old new is = λ i. seen_from (seen_of (is.first_same i)) (is.calls_same i)

pub touched_stays : (old new : State) → Stays old new → (b : Addr) → touched_of new.calls b → touched_of old.calls b
touched_stays old new is b h = subst (λ l. touched_of l b) is.calls_same h

abbrev pub Touched : State → Addr → Type 0
Touched d = touched_of d.calls

abbrev pub Clock : State → ℕ
Clock d = length d.calls

abbrev pub Left : State → ℕ → Image → Type 0
Left d = LeftSince (seen_of d.first) d.calls

grown_changes : (Hit : Addr → Type 0) (old new : State) (c : Call) → Alters Hit c → Grows old new c → Changes Hit seen_now Touched old new
grown_changes Hit old new c does is = record {
  elsewhere = λ b off. ap (λ (m : Image). m b) (seen_grown old new c is) ∙ does.elsewhere (seen_now old) b off;
  touches = λ b h. does.touches (Touched old) b (touched_grown old new c is b h);
}

pub changes : (Hit : Addr → Type 0) (old new : State) (c : Call) (r : Result Unit DiskFailed) → Alters Hit c → Alters Hit (failed_call c) → Notes old new c r → Changes Hit seen_now Touched old new
changes Hit old new c r one two h = elim (moved old new c r h) [
  | inl is ↦ grown_changes Hit old new c one is
  | inr (inl is) ↦ grown_changes Hit old new (failed_call c) two is
  | inr (inr is) ↦ record {
    elsewhere = λ b off. ap (λ (m : Image). m b) (seen_stays old new is);
    touches = λ b t. inl (touched_stays old new is b t);
  }
]

abbrev At : State → ℕ → Image → Type 0
At d n m = IsImage (seen_from (seen_of d.first) (take n d.calls)) (touched_of (take n d.calls)) m

-- the first n calls are the same ones
along : (old new : State) (n : ℕ) (m : Image) → new.first ≡ old.first → take n new.calls ≡ take n old.calls → At new n m → At old n m
along old new n m first same image b calm =
    image b (λ t. calm (subst (λ l. touched_of l b) same t)) ∙ ap (λ (f : Image). f b) (λ i. seen_from (seen_of (first i)) (same i))

grown_elapses : (old new : State) (c : Call) → Grows old new c → Elapses seen_now Touched Clock Left old new
grown_elapses old new c is =
    let size : length new.calls ≡ length old.calls + 1 = ap length is.calls_more ∙ length-append old.calls (c ∷ []) in
    record {
      later = omega (arith, size);
      nothing_else = λ t m le left. elim (old_or_new left.at (length old.calls)) [
        | inl before ↦ inl record { at = left.at; late = left.late; there = before; image = along old new left.at m is.first_same (same left.at before) left.image }
        | inr now ↦ inr (λ b calm. subst (λ l. IsImage (seen_from (seen_of new.first) l) (touched_of l) m) (take_all left.at new.calls (omega (arith, size, now))) left.image b calm)
      ];
      keeps = λ t m le left. record { at = left.at; late = left.late; there = omega (arith, size, left.there); image = along new old left.at m (sym is.first_same) (sym (same left.at left.there)) left.image };
    }
  where
    old_or_new : (k n : ℕ) → (k ≤ n) ⊎ (n < k)
    old_or_new k n = grind arith

    same : (n : ℕ) → n ≤ length old.calls → take n new.calls ≡ take n old.calls
    same n le = ap (λ l. take n l) is.calls_more ∙ take-append-le n old.calls (c ∷ []) le

stays_elapses : (old new : State) → Stays old new → Elapses seen_now Touched Clock Left old new
stays_elapses old new is =
    let size : length new.calls ≡ length old.calls = ap length is.calls_same in
    record {
      later = omega (arith, size);
      nothing_else = λ t m le left. inl record { at = left.at; late = left.late; there = omega (arith, size, left.there); image = along old new left.at m is.first_same (ap (λ l. take left.at l) is.calls_same) left.image };
      keeps = λ t m le left. record { at = left.at; late = left.late; there = omega (arith, size, left.there); image = along new old left.at m (sym is.first_same) (sym (ap (λ l. take left.at l) is.calls_same)) left.image };
    }

pub elapses : (old new : State) (c : Call) (r : Result Unit DiskFailed) → Notes old new c r → Elapses seen_now Touched Clock Left old new
elapses old new c r h = elim (moved old new c r h) [
  | inl is ↦ grown_elapses old new c is
  | inr (inl is) ↦ grown_elapses old new (failed_call c) is
  | inr (inr is) ↦ stays_elapses old new is
]

pub rises : (old new : State) (c : Call) (r : Result Unit DiskFailed) → Notes old new c r → OnOk r (Clock old < Clock new)
rises old new c r h = done old new c r _ h (λ is. let size : length new.calls ≡ length old.calls + 1 = ap length is.calls_more ∙ length-append old.calls (c ∷ []) in omega (arith, size))

pub wrote : (old new : State) (a : Addr) (page : List ℕ) (r : Result Unit DiskFailed) → Notes old new (Write a page) r → OnOk r (seen_now new a ≡ Some page)
wrote old new a page r h = done old new (Write a page) r _ h (λ is.
    ap (λ (m : Image). m a) (seen_grown old new (Write a page) is) ∙ ap (λ t. if t then Some page else seen_now old a) (is_at_self a))

pub was_cut : (old new : State) (file : ℕ) (r : Result Unit DiskFailed) → Notes old new (Cut file) r → OnOk r ((b : Addr) → b.file ≡ file → seen_now new b ≡ None)
was_cut old new file r h = done old new (Cut file) r _ h (λ is b there.
    ap (λ (m : Image). m b) (seen_grown old new (Cut file) is) ∙ ap (λ t. if t then None else seen_now old b) (same_file b.file file there))

pub synced_settled : (old new : State) (r : Result Unit DiskFailed) → Notes old new Sync r → OnOk r (IsSettled (Touched new))
synced_settled old new r h = done old new Sync r _ h (λ is b t. touched_grown old new Sync is b t)

pub synced_seen : (old new : State) (r : Result Unit DiskFailed) → Notes old new Sync r → seen_now new ≡ seen_now old
synced_seen old new r h = elim (moved old new Sync r h) [
  | inl is ↦ seen_grown old new Sync is
  | inr (inl is) ↦ seen_grown old new FailedSync is
  | inr (inr is) ↦ seen_stays old new is
]

pub synced_touched : (old new : State) (r : Result Unit DiskFailed) → Notes old new Sync r → (b : Addr) → Touched new b → Touched old b
synced_touched old new r h b t = elim (moved old new Sync r h) [
  | inl is ↦ absurd (touched_grown old new Sync is b t)
  | inr (inl is) ↦ touched_grown old new FailedSync is b t
  | inr (inr is) ↦ touched_stays old new is b t
]

-- a call that was answered Ok came behind those of before
pub noted : (old new : State) (c : Call) (r : Result Unit DiskFailed) → Notes old new c r → OnOk r (Came (Some old.calls) (Some new.calls) (c ∷ []))
noted old new c r h = done old new c r _ h (λ is. ap Some is.calls_more)

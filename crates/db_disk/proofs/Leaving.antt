-- What calls leave on a disk, as a base has it: by the databases that its images hold.
use Rattle.std.proofs.Common.{◌≡◌, ◌⊎◌, ◌≤◌, inl, inr, ℕ, Bool, true, false, IsTrue, Option, Some, Result, Ok, Err, OnErr, refl, sym, subst, ◌∙◌, arith}
use Rattle.std.proofs.lemmas.Option.{same_Some}
use Rattle.base_trait.specs.Crashes.{LeavesBut, OnlyAsked, AllDenote}
use Rattle.base_trait.proofs.Crashes.{asked_more}
use Rattle.calculus.specs.Database.{Db}
use Rattle.disk_model.specs.Disk.{Image, IsImage, LeavesOnly}
use Rattle.disk_model.specs.declared.disk.Addr.{Addr}
use Rattle.disk_model.specs.declared.disk.Disk.{Ghosts}
use Rattle.disk_model.proofs.Moments.{joins, weaker}
use Rattle.page_chain.proofs.Reaching.{one_or_other}
use Rattle.db_disk.specs.Held.{held, database_by, HeldOr, IsEither, SameHeld}
use Rattle.db_disk.specs.Left.{clock_by, left_by, IsLeft}
use Rattle.db_disk.specs.Shown.{clock_in, db_of, disk_in, is_restored, left_in, AskedOf, StaysRestored}
use Rattle.db_disk.specs.declared.base.DbDisk.{DbDisk}

-- an image of now is one of those since an earlier moment
abbrev pub Counts : (D : Type 0) → Bool → (D → Image) → (D → Addr → Type 0) → (D → ℕ) → (D → ℕ → Image → Type 0) → Type 0
Counts D is_known seen touched clock left_since = (d : D) (t : ℕ) (m : Image) → IsTrue is_known → t ≤ clock d → IsImage (seen d) (touched d) m → left_since d t m

-- since this moment there is no other
abbrev pub OnlyNow : (D : Type 0) → Bool → (D → Image) → (D → Addr → Type 0) → (D → ℕ) → (D → ℕ → Image → Type 0) → Type 0
OnlyNow D is_known seen touched clock left_since = (d : D) (m : Image) → IsTrue is_known → left_since d (clock d) m → IsImage (seen d) (touched d) m

module _ {S : Type 0} (seen : S → Image) (touched : S → Addr → Type 0) (clock : S → ℕ) (left_since : S → ℕ → Image → Type 0) where
  -- what the disk says, a base says
  is_left : OnlyNow S true seen touched clock left_since → (d : S) (t : ℕ) (m : Image) → t ≤ clock d → left_since d t m → IsLeft seen touched clock left_since d t m
  is_left only d t m le left = elim (one_or_other t (clock d)) [
    | inl same ↦ inl (only d m refl (subst (λ k. left_since d k m) same left))
    | inr other ↦ inr ((omega (arith, le, other)), left)
  ]

  -- and back
  was_left : Counts S true seen touched clock left_since → (d : S) (t : ℕ) (m : Image) → t ≤ clock d → IsLeft seen touched clock left_since d t m → left_since d t m
  was_left counts d t m le (inl image) = counts d t m refl le image
  was_left counts d t m le (inr (earlier, left)) = left

  -- one image since a moment was left before, or holds what an image of then held
  asked_one : OnlyNow S true seen touched clock left_since → (old : S) (t : ℕ) (o : Option Db) (m : Image) → t ≤ clock old →
      left_since old t m ⊎ SameHeld (seen old) (touched old) m → held m ≡ o → left_by true seen touched clock left_since old t o
  asked_one only old t o m le (inl left) h = (m, refl, is_left only old t m le left, h)
  asked_one only old t o m le (inr (m0, image, same)) h = (m0, refl, inl image, sym same ∙ h)

  changed_one : OnlyNow S true seen touched clock left_since → (old : S) (t : ℕ) (o : Option Db) (m : Image) (after : Db) → t ≤ clock old →
      left_since old t m ⊎ HeldOr (seen old) (touched old) after m → held m ≡ o → left_by true seen touched clock left_since old t o ⊎ (o ≡ Some after)
  changed_one only old t o m after le (inl left) h = inl (asked_one only old t o m le (inl left) h)
  changed_one only old t o m after le (inr (inl same)) h = inl (asked_one only old t o m le (inr same) h)
  changed_one only old t o m after le (inr (inr is)) h = inr (sym h ∙ is)

  -- a question leaves nothing else
  pub asked_by : (is_known : Bool) → Counts S is_known seen touched clock left_since → OnlyNow S is_known seen touched clock left_since → (old new : S) →
      (IsTrue is_known → LeavesOnly clock left_since old new (SameHeld (seen old) (touched old))) →
      LeavesBut (λ o. ⊥) (clock_by is_known clock old) (clock_by is_known clock new) (left_by is_known seen touched clock left_since old) (left_by is_known seen touched clock left_since new)
  asked_by true counts only old new crash = let b = crash refl in record {
    later = b.later;
    each = λ t o le (m, is, left, h). inl (asked_one only old t o m le (b.earlier t m le (was_left counts new t m (omega (arith, le, b.later)) left)) h);
  }
  asked_by false counts only old new crash = record { later = omega arith; each = λ t o le (m, is, left, h). cc }

  -- nor does a change, but the database of after
  pub changed_by : (is_known : Bool) → Counts S is_known seen touched clock left_since → OnlyNow S is_known seen touched clock left_since → (old new : S) (db after : Db) → database_by is_known (seen old) ≡ Some db →
      LeavesOnly clock left_since old new (HeldOr (seen old) (touched old) after) →
      LeavesBut (λ o. o ≡ Some after) (clock_by is_known clock old) (clock_by is_known clock new) (left_by is_known seen touched clock left_since old) (left_by is_known seen touched clock left_since new)
  changed_by true counts only old new db after now b = record {
    later = b.later;
    each = λ t o le (m, is, left, h). changed_one only old t o m after le (b.earlier t m le (was_left counts new t m (omega (arith, le, b.later)) left)) h;
  }
  changed_by false counts only old new db after now b = absurd (cc now)

  now_left : (d : S) (m : Image) → IsLeft seen touched clock left_since d (clock d) m → IsImage (seen d) (touched d) m
  now_left d m (inl image) = image
  now_left d m (inr (later, left)) = absurd (omega (arith, later))

  -- where each image holds a database, each stands for it
  pub durable_by : (is_known : Bool) (new : S) (after : Db) → ((m : Image) → IsImage (seen new) (touched new) m → held m ≡ Some after) →
      AllDenote (clock_by is_known clock new) (left_by is_known seen touched clock left_since new) after
  durable_by true new after durable o (m, is, left, h) = sym h ∙ durable m (now_left new m left)
  durable_by false new after durable o (m, is, left, h) = cc

  same_clock : (is_known : Bool) (old new : S) → (IsTrue is_known → clock new ≡ clock old) → clock_by is_known clock new ≡ clock_by is_known clock old
  same_clock true old new same = same refl
  same_clock false old new same = refl

  of_either : (a b : S) (db after : Db) (m : Image) → held (seen b) ≡ Some db → SameHeld (seen a) (touched a) (seen b) → IsEither db after m → HeldOr (seen a) (touched a) after m
  of_either a b db after m holds first (inl is) = inl (first.0, first.1, is ∙ sym holds ∙ first.2)
  of_either a b db after m holds first (inr is) = inr is

  -- a change behind an opening
  pub opened_changed : (is_known : Bool) → IsTrue is_known → Counts S is_known seen touched clock left_since → (a b c : S) (db after : Db) → held (seen b) ≡ Some db → LeavesOnly clock left_since a b (SameHeld (seen a) (touched a)) →
      LeavesOnly clock left_since b c (IsEither db after) → LeavesOnly clock left_since a c (HeldOr (seen a) (touched a) after)
  opened_changed is_known known counts a b c db after holds first then_ =
      let here = first.each (seen b) (counts b (clock a) (seen b) known first.later (λ x calm. refl)) in
      joins seen touched clock left_since a b c _ _ (weaker seen touched clock left_since a b _ _ first (λ m same. inl same)) then_ (λ m is. of_either a b db after m holds here is)

  -- an opening alone
  pub only_opened : (a b : S) (after : Db) → LeavesOnly clock left_since a b (SameHeld (seen a) (touched a)) → LeavesOnly clock left_since a b (HeldOr (seen a) (touched a) after)
  only_opened a b after first = weaker seen touched clock left_since a b _ _ first (λ m same. inl same)

-- ---- a change that failed

-- an image that holds one of two databases holds none but them
pub failed_by : (db after now : Db) (o : Option Db) → o ≡ Some now → (o ≡ Some db) ⊎ (o ≡ Some after) → (now ≡ db) ⊎ (now ≡ after)
failed_by db after now o e (inl is) = inl (same_Some now db (sym e ∙ is))
failed_by db after now o e (inr is) = inr (same_Some now after (sym e ∙ is))

pub given_err : {T E : Type 0} (r : Result T E) (P : Type 0) → P → OnErr r P
given_err (Ok x) P is = tt
given_err (Err e) P is = is

-- it isn't both
pub were_both : (b : Bool) (P : Type 0) → b ≡ true → b ≡ false → P
were_both true P is off = absurd (cc off)
were_both false P is off = absurd (cc is)

-- ---- questions behind questions

module _ {D : Type 0} {g : Ghosts D} where
  pub asked_on : Counts D g.is_known g.seen g.touched g.clock g.left_since → OnlyNow D g.is_known g.seen g.touched g.clock g.left_since → (start old new : DbDisk D g) →
      db_of new ≡ db_of old → (IsTrue g.is_known → LeavesOnly g.clock g.left_since (disk_in old) (disk_in new) (SameHeld (g.seen (disk_in old)) (g.touched (disk_in old)))) → StaysRestored old new
      → AskedOf start old → AskedOf start new
  asked_on counts only start old new kept crash stays before = record {
    kept = kept ∙ before.kept;
    only =
        asked_more _ _ _ (is_restored start) (is_restored old) (is_restored new) _ _ _ before.only record {
          nothing_else = asked_by g.seen g.touched g.clock g.left_since g.is_known counts only (disk_in old) (disk_in new) crash;
          quiet = λ is. let still = stays is in (same_clock g.seen g.touched g.clock g.left_since g.is_known (disk_in old) (disk_in new) still.0, still.1);
        };
  }

  -- where the disk is the same
  pub asked_as : (start old new : DbDisk D g) → db_of new ≡ db_of old → disk_in new ≡ disk_in old → is_restored new ≡ is_restored old → AskedOf start old → AskedOf start new
  asked_as start old new kept same stays before = record {
    kept = kept ∙ before.kept;
    only =
        subst (λ (r : Bool). OnlyAsked (clock_in start) (clock_in new) (is_restored start) r (left_in start) (left_in new)) (sym stays)
        (subst (λ (d : D). OnlyAsked (clock_in start) (clock_by g.is_known g.clock d) (is_restored start) (is_restored old) (left_in start) (left_by g.is_known g.seen g.touched g.clock g.left_since d)) (sym same) before.only);
  }

-- A restore behind a sync.
use Rattle.std.proofs.Common.{◌≡◌, ◌⊎◌, inl, inr, ℕ, ◌==◌, Bool, true, false, List, [], ◌∷◌, Option, Some, None, Result, Ok, Err, IfOk, OnOk, refl, sym, ◌∙◌, ap}
use Rattle.disk_model.specs.declared.disk.Addr.{Addr}
use Rattle.disk_model.specs.Disk.{Image, IsImage, IsSettled, Elapses, LeavesOnly}
use Rattle.disk_model.specs.History.{Came, CameSo}
use Rattle.disk_model.specs.declared.calls.Call.{Call}
use Rattle.disk_model.specs.declared.calls.Call.TheVariants.{Sync}
use Rattle.disk_model.proofs.Moments.{joins, image_settled}
use Rattle.batch_file.specs.declared.fault.Restored.{Restored}
use Rattle.batch_file.specs.declared.fault.RestoreFault.{RestoreFault}
use Rattle.batch_file.specs.declared.fault.RestoreFault.TheVariants.{Disk, Damaged}
use Rattle.batch_file.specs.Layout.{gate, count, entries}
use Rattle.batch_file.specs.Redone.{redone, redone_of, answer, answer_of, damage, kept, laid}
use Rattle.batch_file.specs.OnDisk.{SameRedone}
use Rattle.batch_file.specs.Order.{Restores}
use Rattle.batch_file.proofs.Calling.{came_then}
use Rattle.batch_file.proofs.Reopening.{synced_run}
use Rattle.batch_store.specs.Opening.{Reopens}

-- where the answer is damage, nothing stands there
damaged_of : (opened : Bool) (at : Option Addr) (n : ℕ) (plain over : Image) (file page : ℕ) → answer_of opened at n ≡ Err (Damaged file page) → redone_of opened at plain over ≡ None
damaged_of false at n plain over file page e = absurd (cc e)
damaged_of true None n plain over file page e = absurd (cc e)
damaged_of true (Some a) n plain over file page e = refl

damaged_none : (m : Image) (file page : ℕ) → answer m ≡ Err (Damaged file page) → redone m ≡ None
unfolding redone
damaged_none m file page e = damaged_of (gate m == 1) (damage m) (count m) (kept m) (kept (laid (entries m (count m)) m)) file page e

pub damaged_so : (result : Result Restored RestoreFault) (m old : Image) (file page : ℕ) → m ≡ old → (result ≡ Err Disk) ⊎ (result ≡ answer m) → result ≡ Err (Damaged file page) → redone old ≡ None
damaged_so result m old file page same (inl fault) is = let e : Err Disk ≡ Err (Damaged file page) = sym fault ∙ is in absurd (cc e)
damaged_so result m old file page same (inr said) is = ap redone (sym same) ∙ damaged_none m file page (sym said ∙ is)

-- the answer of what was read behind the sync is that of what was read before
pub answered_so : (result : Result Restored RestoreFault) (m old : Image) → m ≡ old → (result ≡ Err Disk) ⊎ (result ≡ answer m) → (result ≡ Err Disk) ⊎ (result ≡ answer old)
answered_so result m old same (inl fault) = inl fault
answered_so result m old same (inr said) = inr (said ∙ ap answer same)

-- a sync, and behind it what the restore did
pub made_so : {E : Type 0} (result : Result Restored E) (a b c : Option (List Call)) → Came a b (Sync ∷ []) → IfOk result (λ done. CameSo b c (Restores done)) → IfOk result (λ done. CameSo a c (Reopens done))
made_so (Ok done) a b c first (rest, came, does) = (Sync ∷ rest, came_then a b c (Sync ∷ []) rest first came, (rest, refl, does))
made_so (Err e) a b c first behind = tt

pub done_so : {T E : Type 0} (result : Result T E) (m old next : Image) → m ≡ old → OnOk result (redone m ≡ Some (kept next)) → OnOk result (redone old ≡ Some (kept next))
done_so (Ok x) m old next same is = ap redone (sym same) ∙ is
done_so (Err e) m old next same is = tt

module _ {S : Type 0} (seen : S → Image) (touched : S → Addr → Type 0) (clock : S → ℕ) (left_since : S → ℕ → Image → Type 0)
    (old mid : S) (only_now : (m : Image) → left_since old (clock old) m → IsImage (seen old) (touched old) m)
    (same : seen mid ≡ seen old) (less : (b : Addr) → touched mid b → touched old b) (time : Elapses seen touched clock left_since old mid) where
  pub settled_run : LeavesOnly clock left_since old mid (SameRedone (seen old) (touched old))
  settled_run = synced_run seen touched clock left_since old mid only_now same less time

  module _ (settled : IsSettled (touched mid)) (new : S) (run : LeavesOnly clock left_since mid new (SameRedone (seen mid) (touched mid))) where
    from_old : (m : Image) → SameRedone (seen mid) (touched mid) m → redone m ≡ redone (seen old)
    from_old m from = from.2 ∙ ap redone (image_settled seen touched clock left_since mid settled from.0 from.1 ∙ same)

    pub restored_run : LeavesOnly clock left_since old new (SameRedone (seen old) (touched old))
    restored_run = joins seen touched clock left_since old mid new _ _ settled_run run (λ m from. (seen old, (λ b calm. refl), from_old m from))

    pub restored_same : left_since new (clock mid) (seen new) → redone (seen new) ≡ redone (seen old)
    restored_same left = from_old (seen new) (run.each (seen new) left)

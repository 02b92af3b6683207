-- A change that is laid, behind questions, and the base that is handed over behind it.
use Rattle.std.proofs.Common.{◌≡◌, ◌≤◌, ◌⊎◌, inl, ℕ, refl, sym, subst, ◌∙◌, Some, Option, Err, IsErrOf}
use Rattle.std.proofs.lemmas.Option.{same_Some}
use Rattle.base_trait.proofs.Crashes.{asked_leaves, leaves_more, still_stands}
use Rattle.base_trait.specs.Crashes.{LeavesBut, AllDenote}
use Rattle.base_trait.specs.declared.fault.BaseFault.{BaseFault}
use Rattle.base_trait.specs.declared.fault.BaseFault.TheVariants as base_faults
use Rattle.calculus.specs.declared.change.DbChange.{DbChange}
use Rattle.calculus.specs.Change.{laid}
use Rattle.calculus.specs.Database.{Db}
use Rattle.net_core.specs.Crashes.{IsForgotten}
use Rattle.net_core.specs.declared.fault.WorkFault.{WorkFault}
use Rattle.net_core.specs.declared.fault.WorkFault.TheVariants as faults
use Rattle.stage_util.specs.declared.carried.Carried.{Carried}
use Rattle.stage_util.specs.declared.carried.Carried.TheVariants as carried
use Rattle.stage_util.specs.Laying.{Laid, NotLaid}
use Rattle.stage_util.specs.Working.{HandedOver, SparesDatabase, Span, of_base}

-- what is known of a base from a first one to this one
abbrev pub to : Option Db → Option Db → Option Db → ℕ → ℕ → (ℕ → Option Db → Type 0) → (ℕ → Option Db → Type 0) → Span
to old new schema before now left left' = record { old = old; new = new; schema = schema; before = before; now = now; left_before = left; left_now = left' }

-- ---- nothing was changed

pub handed_over : (old new schema : Option Db) (k k' : ℕ) (l l' : ℕ → Option Db → Type 0) → new ≡ old → LeavesBut (λ o. ⊥) k k' l l' → ((t : ℕ) (o : Option Db) → t ≤ k' → l' k' o → l' t o) → IsForgotten schema new → HandedOver (to old new schema k k' l l')
handed_over old new schema k k' l l' same asked counts forgotten = record {
  kept = record { same = same; crash = asked };
  stands = λ db stands. still_stands k k' l l' db counts asked stands;
  handed = forgotten;
}

-- ---- laid

-- a first base was asked, the change was applied to what came of it, and that was handed over
pub laid_ok : (c : DbChange) (answer : Carried) (old db0 db1 db2 schema : Option Db) (k k0 k1 k2 : ℕ) (l l0 l1 l2 : ℕ → Option Db → Type 0) → answer ≡ carried.Done → db0 ≡ old → LeavesBut (λ o. ⊥) k k0 l l0 →
    ((db : Db) → db0 ≡ Some db → db1 ≡ Some (laid db c)) → ((db : Db) → db0 ≡ Some db → LeavesBut (λ o. o ≡ Some (laid db c)) k0 k1 l0 l1) → ((db : Db) → db0 ≡ Some db → AllDenote k1 l1 (laid db c)) →
    db2 ≡ db1 → IsForgotten schema db2 → LeavesBut (λ o. ⊥) k1 k2 l1 l2 → ((t : ℕ) (o : Option Db) → t ≤ k2 → l2 k2 o → l2 t o) → Laid c (to old db2 schema k k2 l l2) answer
laid_ok c answer old db0 db1 db2 schema k k0 k1 k2 l l0 l1 l2 is first before known crash durable same forgotten behind counts = record {
  is = is;
  made = λ db e. same ∙ known db (first ∙ e);
  crash = λ db e.
      let P : Option Db → Type 0 = λ o. o ≡ Some (laid db c) in
      leaves_more P (λ o. ⊥) k k1 k2 l l1 l2 (λ o never. absurd never) (leaves_more P P k k0 k1 l l0 l1 (λ o p. p) (asked_leaves P k k0 l l0 before) (crash db (first ∙ e))) behind;
  durable = λ db e. still_stands k1 k2 l1 l2 (laid db c) counts behind (durable db (first ∙ e));
  handed = forgotten;
}

lawful_fault : (f : BaseFault) → of_base f ≡ faults.Unlawful → ⊥
lawful_fault base_faults.Disk e = cc e
lawful_fault (base_faults.Damaged file page) e = cc e
lawful_fault base_faults.OutOfMemory e = cc e

spares_of : (old new : Option Db) (f : BaseFault) → (IsErrOf {T = Unit {0}} (Err f) base_faults.OutOfMemory → new ≡ old) → SparesDatabase old new (of_base f)
spares_of old new base_faults.Disk h = tt
spares_of old new (base_faults.Damaged file page) h = tt
spares_of old new base_faults.OutOfMemory h = h refl

pub laid_err : (c : DbChange) (f : BaseFault) (fault : WorkFault) (old db0 db1 schema : Option Db) (k k0 k1 : ℕ) (l l0 l1 : ℕ → Option Db → Type 0) → fault ≡ of_base f → db0 ≡ old → LeavesBut (λ o. ⊥) k k0 l l0 →
    ((db now : Db) → db0 ≡ Some db → db1 ≡ Some now → (now ≡ db) ⊎ (now ≡ laid db c)) → ((db : Db) → db0 ≡ Some db → LeavesBut (λ o. o ≡ Some (laid db c)) k0 k1 l0 l1) → (IsErrOf {T = Unit {0}} (Err f) base_faults.OutOfMemory → db1 ≡ db0) →
    NotLaid c (to old db1 schema k k1 l l1) fault
laid_err c f fault old db0 db1 schema k k0 k1 l l0 l1 is first before failed crash short =
    subst (λ (x : WorkFault). NotLaid c (to old db1 schema k k1 l l1) x) (sym is) (record {
      fault = lawful_fault f;
      spares = spares_of old db1 f (λ e. short e ∙ first);
      either = λ db now e n. failed db now (first ∙ e) n;
      crash = λ db e.
          let P : Option Db → Type 0 = λ o. o ≡ Some (laid db c) in
          leaves_more P P k k0 k1 l l0 l1 (λ o p. p) (asked_leaves P k k0 l l0 before) (crash db (first ∙ e));
    })

-- memory was wanting before
pub laid_short : (c : DbChange) (old new schema : Option Db) (k k' : ℕ) (l l' : ℕ → Option Db → Type 0) → new ≡ old → LeavesBut (λ o. ⊥) k k' l l' → NotLaid c (to old new schema k k' l l') faults.OutOfMemory
laid_short c old new schema k k' l l' same asked = record {
  fault = λ e. cc e;
  spares = same;
  either = λ db now e n. inl (same_Some now db (sym n ∙ (same ∙ e)));
  crash = λ db e. asked_leaves (λ o. o ≡ Some (laid db c)) k k' l l' asked;
}

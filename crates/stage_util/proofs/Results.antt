-- What carrying something out comes to, by how its work ended.
use Rattle.std.specs.Prelude.{IfNone}
use Rattle.std.proofs.Common.{◌≡◌, ◌⊎◌, inl, inr, refl, sym, ap, subst, ◌∙◌, ℕ, Bool, true, false, List, Some, None, Option, Result, Ok, Err}
use Rattle.std.proofs.lemmas.Option.{same_Some}
use Rattle.base_trait.proofs.Crashes.{asked_leaves, leaves_as}
use Rattle.base_trait.specs.Crashes.{AllDenote}
use Rattle.base_trait.specs.declared.fault.BaseFault.{BaseFault}
use Rattle.base_trait.specs.declared.fault.BaseFault.TheVariants as base_faults
use Rattle.calculus.specs.declared.change.DbChange.{DbChange}
use Rattle.calculus.specs.declared.reply.Refusal.{Refusal}
use Rattle.calculus.specs.declared.request.Utility.{Utility}
use Rattle.calculus.specs.Change.{laid}
use Rattle.calculus.specs.Database.{Db}
use Rattle.calculus.specs.IsDatabase.{IsDatabase}
use Rattle.copy_util.specs.Causes.{Refuses as CopyRefuses}
use Rattle.copy_util.specs.Copies.{IsCopy}
use Rattle.copy_util.specs.Stored.{IsStored, SparesFiles}
use Rattle.copy_util.specs.declared.fault.CopyFault.{CopyFault}
use Rattle.copy_util.specs.declared.fault.CopyFault.TheVariants as copy
use Rattle.fault_io.specs.Files.{Files, stored}
use Rattle.fault_io.specs.Shelves.{MayHaveStored}
use Rattle.net_core.specs.declared.fault.WorkFault.{WorkFault}
use Rattle.net_core.specs.declared.fault.WorkFault.TheVariants as faults
use Rattle.network_meaning.specs.Sorts.{Cargo, Cargo.change}
use Rattle.quel_meaning.specs.Copying.{bad_row, copied_into, file_of_constant, refusal}
use Rattle.quel_network.specs.RefusalLaws.{HasSpelling}
use Rattle.quel_network.specs.Sorts.{quel_sorts}
use Rattle.stage_util.proofs.Effects.{changed_by, into_done, into_refused, number_known, refused_by, work_of}
use Rattle.stage_util.specs.Copying.{NotCopied}
use Rattle.stage_util.specs.declared.at.At.{At}
use Rattle.stage_util.specs.declared.at.At.TheVariants as at
use Rattle.stage_util.specs.declared.carried.Carried.{Carried}
use Rattle.stage_util.specs.declared.carried.Carried.TheVariants as carried
use Rattle.stage_util.specs.Laying.{Lays, Refuses}
use Rattle.stage_util.specs.Working.{Carries, CarriesAt, Did, DidNot, FitsFor, HandedOver, IsForFour, Kept, Leaves, Makes, MayAnswer, MayStoreOf, SparesDatabase, Span, effect, of_base}

-- ---- nothing was changed

spares_kept : (old new : Option Db) (f : WorkFault) → new ≡ old → SparesDatabase old new f
spares_kept old new faults.Disk e = tt
spares_kept old new (faults.Damaged file page) e = tt
spares_kept old new faults.Source e = e
spares_kept old new faults.Sink e = e
spares_kept old new faults.Shelf e = e
spares_kept old new faults.TooLong e = e
spares_kept old new faults.Unlawful e = e
spares_kept old new faults.OutOfMemory e = e

-- a fault where the database is as it was, and the files that are known
pub kept_not : (user : List ℕ) (x : Cargo quel_sorts) (s : Span) (files files' : Option Files) (f : WorkFault) → Kept s → ((fs : Files) → files ≡ Some fs → files' ≡ Some fs)
    → (f ≡ faults.Unlawful → (db : Db) (fs : Files) → s.old ≡ Some db → files ≡ Some fs → FitsFor user x db → ⊥) → DidNot user x s files files' f
kept_not user x s files files' f k stays unfit = record {
  unfit = unfit;
  spares = spares_kept s.old s.new f k.same;
  database = λ db now fs e g n. inl (same_Some now db (sym n ∙ (k.same ∙ e)));
  part = λ db fs e g. inl (stays fs g);
  files_left = λ fs g. inl (stays fs g);
  crash = λ db fs e g. asked_leaves (Makes user x db fs) s.before s.now s.left_before s.left_now k.crash;
}

base_lawful : (f : BaseFault) (fault : WorkFault) → fault ≡ of_base f → fault ≡ faults.Unlawful → ⊥
base_lawful base_faults.Disk fault is u = let no : faults.Disk ≡ faults.Unlawful = sym is ∙ u in cc no
base_lawful (base_faults.Damaged file page) fault is u = let no : faults.Damaged file page ≡ faults.Unlawful = sym is ∙ u in cc no
base_lawful base_faults.OutOfMemory fault is u = let no : faults.OutOfMemory ≡ faults.Unlawful = sym is ∙ u in cc no

-- a fault of a question
pub asked_not : (user : List ℕ) (x : Cargo quel_sorts) (s : Span) (files : Option Files) (f : BaseFault) (fault : WorkFault) → fault ≡ of_base f → Kept s → DidNot user x s files files fault
asked_not user x s files f fault is k = kept_not user x s files files fault k (λ fs g. g) (λ u. absurd (base_lawful f fault is u))

-- want of memory
pub short_not : (user : List ℕ) (x : Cargo quel_sorts) (s : Span) (files : Option Files) → Kept s → DidNot user x s files files faults.OutOfMemory
short_not user x s files k = kept_not user x s files files faults.OutOfMemory k (λ fs g. g) (λ u. absurd (cc u))

-- what isn't fit
pub unfit_not : (user : List ℕ) (x : Cargo quel_sorts) (s : Span) (files : Option Files) → Kept s → ((db : Db) → s.old ≡ Some db → FitsFor user x db → ⊥) → DidNot user x s files files faults.Unlawful
unfit_not user x s files k unfit = kept_not user x s files files faults.Unlawful k (λ fs g. g) (λ u db fs e g. unfit db e)

-- ---- a change was laid

laid_either : (user : List ℕ) (x : Cargo quel_sorts) (db now : Db) (fs : Files) (change : DbChange) → effect user x db fs ≡ changed_by db fs change → (now ≡ db) ⊎ (now ≡ laid db change) → (now ≡ db) ⊎ Makes user x db fs (Some now)
laid_either user x db now fs c eff (inl e) = inl e
laid_either user x db now fs c eff (inr e) = inr (laid db c, fs, ap Some e, eff)

pub laid_carries : (user : List ℕ) (x : Cargo quel_sorts) (s : Span) (files files' : Option Files) (change : DbChange) (result : Result Carried WorkFault) → files' ≡ files → IsForFour x → ((db : Db) → s.old ≡ Some db → FitsFor user x db)
    → ((db : Db) (fs : Files) → s.old ≡ Some db → files ≡ Some fs → effect user x db fs ≡ changed_by db fs change) → Lays change s result → Carries user x s files files' result
laid_carries user x s files files' laying (Ok answer) stays four fits eff h = record {
  fits = fits;
  is_for_four = four;
  answers = subst (MayAnswer x) (sym h.is) tt;
  leaves = λ db fs e g. subst (λ (c : Carried). Leaves user x db fs s.new files' c) (sym h.is) (laid db laying, fs, h.made db e, stays ∙ g, eff db fs e g);
  known = λ db e. (laid db laying, h.made db e);
  crash = λ db fs e g. leaves_as (λ o. o ≡ Some (laid db laying)) (Makes user x db fs) s.before s.now s.left_before s.left_now (λ o is. (laid db laying, fs, is, eff db fs e g)) (h.crash db e);
  durable = λ db db' e e' stands. subst (λ (d : Db). AllDenote s.now s.left_now d) (same_Some (laid db laying) db' (sym (h.made db e) ∙ e')) (h.durable db e);
  handed = h.handed;
}
laid_carries user x s files files' laying (Err f) stays four fits eff h = record {
  unfit = λ u. absurd (h.fault u);
  spares = h.spares;
  database = λ db now fs e g n. laid_either user x db now fs laying (eff db fs e g) (h.either db now e n);
  part = λ db fs e g. inl (stays ∙ g);
  files_left = λ fs g. inl (stays ∙ g);
  crash = λ db fs e g. leaves_as (λ o. o ≡ Some (laid db laying)) (Makes user x db fs) s.before s.now s.left_before s.left_now (λ o is. (laid db laying, fs, is, eff db fs e g)) (h.crash db e);
}

-- ---- a refusal was answered

not_both : (b : Bool) → b ≡ true → b ≡ false → ⊥
not_both b t f = let no : ◌≡◌ {A = Bool} true false = sym t ∙ f in cc no

refused_did : (user : List ℕ) (work : Utility) (s : Span) (files files' : Option Files) (r : Refusal) (answer : Carried) → ((fs : Files) → files ≡ Some fs → files' ≡ Some fs) → ((db : Db) → s.old ≡ Some db → FitsFor user (work_of work) db)
    → ((db : Db) (fs : Files) → s.old ≡ Some db → files ≡ Some fs → effect user (work_of work) db fs ≡ refused_by db fs r) → answer ≡ carried.Refused r → HasSpelling r → HandedOver s → Did user (work_of work) s files files' answer
refused_did user work s files files' r answer stays fits eff is known h = record {
  fits = fits;
  is_for_four = tt;
  answers = subst (MayAnswer (work_of work)) (sym is) known;
  leaves = λ db fs e g. subst (λ (c : Carried). Leaves user (work_of work) db fs s.new files' c) (sym is) (h.kept.same ∙ e, stays fs g, eff db fs e g);
  known = λ db e. (db, h.kept.same ∙ e);
  crash = λ db fs e g. asked_leaves (Makes user (work_of work) db fs) s.before s.now s.left_before s.left_now h.kept.crash;
  durable = λ db db' e e' stands. subst (λ (d : Db). AllDenote s.now s.left_now d) (same_Some db db' (sym (h.kept.same ∙ e) ∙ e')) (h.stands db stands);
  handed = h.handed;
}

pub refused_carries : (user : List ℕ) (work : Utility) (s : Span) (files files' : Option Files) (r : Refusal) (result : Result Carried WorkFault) → ((fs : Files) → files ≡ Some fs → files' ≡ Some fs)
    → ((db : Db) → s.old ≡ Some db → IsDatabase db) → ((db : Db) → s.old ≡ Some db → FitsFor user (work_of work) db)
    → ((db : Db) (fs : Files) → s.old ≡ Some db → files ≡ Some fs → effect user (work_of work) db fs ≡ refused_by db fs r) → Refuses r s result → Carries user (work_of work) s files files' result
refused_carries user work s files files' r (Ok answer) stays is fits eff h = refused_did user work s files files' r answer stays fits eff h.0 h.1 h.2
refused_carries user work s files files' r (Err faults.Unlawful) stays is fits eff h =
    kept_not user (work_of work) s files files' faults.Unlawful h.1 stays (λ u db fs e g fit. not_both _ (number_known user work db fs r (is db e) (eff db fs e g)) h.0)
refused_carries user work s files files' r (Err faults.OutOfMemory) stays is fits eff h = kept_not user (work_of work) s files files' faults.OutOfMemory h stays (λ u. absurd (cc u))
refused_carries user work s files files' r (Err faults.Disk) stays is fits eff h = absurd h
refused_carries user work s files files' r (Err (faults.Damaged file page)) stays is fits eff h = absurd h
refused_carries user work s files files' r (Err faults.Shelf) stays is fits eff h = absurd h
refused_carries user work s files files' r (Err faults.Source) stays is fits eff h = absurd h
refused_carries user work s files files' r (Err faults.Sink) stays is fits eff h = absurd h
refused_carries user work s files files' r (Err faults.TooLong) stays is fits eff h = absurd h

-- ---- a copy was not made

-- what a fault of a copy may leave on the shelf: only one of the shelf may leave another file
pub record CopySpares (user : List ℕ) (work : Utility) (s : Span) (files files' : Option Files) (fault : CopyFault) : Type 0 where
  pub others : (fault ≡ copy.Shelf → ⊥) → (fs : Files) → files ≡ Some fs → files' ≡ Some fs
  pub part : (db : Db) (fs : Files) → s.old ≡ Some db → files ≡ Some fs → (files' ≡ Some fs) ⊎ MayStoreOf user (work_of work) db fs files'
  pub any : (fs : Files) → files ≡ Some fs → (files' ≡ Some fs) ⊎ ((db : Db) × MayStoreOf user (work_of work) db fs files')

as_result : (user : List ℕ) (x : Cargo quel_sorts) (s : Span) (files files' : Option Files) (f : WorkFault) (result : Result Carried WorkFault) → result ≡ Err f → DidNot user x s files files' f → Carries user x s files files' result
as_result user x s files files' f result is h = subst (λ (r : Result Carried WorkFault). Carries user x s files files' r) (sym is) h

pub not_copied_carries : (user : List ℕ) (work : Utility) (s : Span) (files files' : Option Files) (fault : CopyFault) (result : Result Carried WorkFault) → CopySpares user work s files files' fault → ((db : Db) → s.old ≡ Some db → IsDatabase db)
    → ((db : Db) → s.old ≡ Some db → FitsFor user (work_of work) db)
    → ((db : Db) (fs : Files) → s.old ≡ Some db → files ≡ Some fs → CopyRefuses (λ r. effect user (work_of work) db fs ≡ refused_by db fs r) fault) → NotCopied fault s result → Carries user (work_of work) s files files' result
not_copied_carries user work s files files' (copy.No number) result left is fits eff h = refused_carries user work s files files' (refusal number) result (left.others (λ x. cc x)) is fits eff h
not_copied_carries user work s files files' (copy.BadRow row) result left is fits eff h = refused_carries user work s files files' (bad_row row) result (left.others (λ x. cc x)) is fits eff h
not_copied_carries user work s files files' copy.NoFile result left is fits eff h = refused_carries user work s files files' (refusal 32) result (left.others (λ x. cc x)) is fits eff h
not_copied_carries user work s files files' copy.Shelf result left is fits eff h =
    as_result user (work_of work) s files files' faults.Shelf result h.0 (record {
      unfit = λ u. absurd (cc u);
      spares = h.1.same;
      database = λ db now fs e g n. inl (same_Some now db (sym n ∙ (h.1.same ∙ e)));
      part = left.part;
      files_left = left.any;
      crash = λ db fs e g. asked_leaves (Makes user (work_of work) db fs) s.before s.now s.left_before s.left_now h.1.crash;
    })
not_copied_carries user work s files files' (copy.Base f) result left is fits eff h =
    as_result user (work_of work) s files files' (of_base f) result h.0 (kept_not user (work_of work) s files files' (of_base f) h.1 (left.others (λ x. cc x)) (λ u. absurd (base_lawful f (of_base f) refl u)))
not_copied_carries user work s files files' copy.OutOfMemory result left is fits eff h =
    as_result user (work_of work) s files files' faults.OutOfMemory result h.0 (kept_not user (work_of work) s files files' faults.OutOfMemory h.1 (left.others (λ x. cc x)) (λ u. absurd (cc u)))

-- where it is this fault
pub shelf_not_copied : (fault : CopyFault) (s : Span) → fault ≡ copy.Shelf → Kept s → NotCopied fault s (Err faults.Shelf)
shelf_not_copied fault s is k = subst (λ (f : CopyFault). NotCopied f s (Err faults.Shelf)) (sym is) (refl, k)

pub base_not_copied : (fault : CopyFault) (f : BaseFault) (g : WorkFault) (s : Span) → fault ≡ copy.Base f → g ≡ of_base f → Kept s → NotCopied fault s (Err g)
base_not_copied fault f g s is e k = subst (λ (x : CopyFault). NotCopied x s (Err g)) (sym is) (ap (λ (h : WorkFault). Err h) e, k)

pub short_not_copied : (fault : CopyFault) (s : Span) → fault ≡ copy.OutOfMemory → Kept s → NotCopied fault s (Err faults.OutOfMemory)
short_not_copied fault s is k = subst (λ (f : CopyFault). NotCopied f s (Err faults.OutOfMemory)) (sym is) (refl, k)

-- from a file: the files are as they were
pub from_spares : (user : List ℕ) (work : Utility) (s : Span) (files files' : Option Files) (fault : CopyFault) → files' ≡ files → CopySpares user work s files files' fault
from_spares user work s files files' fault same = record { others = λ never fs g. same ∙ g; part = λ db fs e g. inl (same ∙ g); any = λ fs g. inl (same ∙ g) }

-- this of each refusal follows from that
pub refused_as : (P Q : Refusal → Type 0) → ((r : Refusal) → P r → Q r) → (fault : CopyFault) → CopyRefuses P fault → CopyRefuses Q fault
refused_as P Q f (copy.No number) h = f (refusal number) h
refused_as P Q f (copy.BadRow row) h = f (bad_row row) h
refused_as P Q f copy.NoFile h = f (refusal 32) h
refused_as P Q f copy.Shelf h = tt
refused_as P Q f (copy.Base fault) h = tt
refused_as P Q f copy.OutOfMemory h = tt

-- ---- into a file

abbrev IsKnown : List ℕ → (work : Utility) → IsCopy work false → Span → Option Files → Option Files → Result (Unit {0}) CopyFault → Type 0
IsKnown user work c s files files' result = (db : Db) (fs : Files) → s.old ≡ Some db → files ≡ Some fs → IsStored (copied_into db user c.rel c.columns) (file_of_constant c.constant) fs files' result

abbrev IsSpared : List ℕ → (work : Utility) → IsCopy work false → Option Files → Option Files → Result (Unit {0}) CopyFault → Type 0
IsSpared user work c files files' result = (fs : Files) → files ≡ Some fs → SparesFiles user c.rel c.columns (file_of_constant c.constant) fs files' result

stored_part : (user : List ℕ) (work : Utility) (c : IsCopy work false) (db : Db) (fs : Files) (files' : Option Files) (bytes : List ℕ) → copied_into db user c.rel c.columns ≡ Ok bytes → MayHaveStored (file_of_constant c.constant) bytes fs files'
    → MayStoreOf user (work_of work) db fs files'
stored_part user work c db fs files' bytes e may = (file_of_constant c.constant, bytes, db, into_done user work db fs c bytes e, may)

others_same : (user : List ℕ) (work : Utility) (c : IsCopy work false) (files files' : Option Files) (fault : CopyFault) → (fault ≡ copy.Shelf → ⊥) → IsSpared user work c files files' (Err fault) → (fs : Files) → files ≡ Some fs → files' ≡ Some fs
others_same user work c files files' (copy.No number) never h fs g = h fs g
others_same user work c files files' (copy.BadRow row) never h fs g = h fs g
others_same user work c files files' copy.NoFile never h fs g = h fs g
others_same user work c files files' copy.Shelf never h fs g = absurd (never refl)
others_same user work c files files' (copy.Base fault) never h fs g = h fs g
others_same user work c files files' copy.OutOfMemory never h fs g = h fs g

part_of : (user : List ℕ) (work : Utility) (c : IsCopy work false) (s : Span) (files files' : Option Files) (fault : CopyFault) → IsKnown user work c s files files' (Err fault) → IsSpared user work c files files' (Err fault)
    → (db : Db) (fs : Files) → s.old ≡ Some db → files ≡ Some fs → (files' ≡ Some fs) ⊎ MayStoreOf user (work_of work) db fs files'
part_of user work c s files files' copy.Shelf known spared db fs e g = let k = known db fs e g in inr (stored_part user work c db fs files' k.0 k.1 k.2)
part_of user work c s files files' (copy.No number) known spared db fs e g = inl (spared fs g)
part_of user work c s files files' (copy.BadRow row) known spared db fs e g = inl (spared fs g)
part_of user work c s files files' copy.NoFile known spared db fs e g = inl (spared fs g)
part_of user work c s files files' (copy.Base fault) known spared db fs e g = inl (spared fs g)
part_of user work c s files files' copy.OutOfMemory known spared db fs e g = inl (spared fs g)

any_of : (user : List ℕ) (work : Utility) (c : IsCopy work false) (files files' : Option Files) (fault : CopyFault) → IsSpared user work c files files' (Err fault) → (fs : Files) → files ≡ Some fs → (files' ≡ Some fs) ⊎ ((db : Db) × MayStoreOf user (work_of work) db fs files')
any_of user work c files files' copy.Shelf spared fs g = let k = spared fs g in inr (k.1.0, stored_part user work c k.1.0 fs files' k.0 k.1.1 k.2)
any_of user work c files files' (copy.No number) spared fs g = inl (spared fs g)
any_of user work c files files' (copy.BadRow row) spared fs g = inl (spared fs g)
any_of user work c files files' copy.NoFile spared fs g = inl (spared fs g)
any_of user work c files files' (copy.Base fault) spared fs g = inl (spared fs g)
any_of user work c files files' copy.OutOfMemory spared fs g = inl (spared fs g)

pub into_spares : (user : List ℕ) (work : Utility) (c : IsCopy work false) (s : Span) (files files' : Option Files) (fault : CopyFault) → IsKnown user work c s files files' (Err fault) → IsSpared user work c files files' (Err fault) → CopySpares user work s files files' fault
into_spares user work c s files files' fault known spared = record {
  others = λ never. others_same user work c files files' fault never spared;
  part = part_of user work c s files files' fault known spared;
  any = any_of user work c files files' fault spared;
}

-- the refusal of a copy into a file
pub into_refuses : (user : List ℕ) (work : Utility) (c : IsCopy work false) (db : Db) (fs : Files) (files' : Option Files) (fault : CopyFault) → IsStored (copied_into db user c.rel c.columns) (file_of_constant c.constant) fs files' (Err fault)
    → CopyRefuses (λ r. effect user (work_of work) db fs ≡ refused_by db fs r) fault
into_refuses user work c db fs files' (copy.No number) h = into_refused user work db fs c (refusal number) h.0
into_refuses user work c db fs files' (copy.BadRow row) h = into_refused user work db fs c (bad_row row) h.0
into_refuses user work c db fs files' copy.NoFile h = absurd h
into_refuses user work c db fs files' copy.Shelf h = tt
into_refuses user work c db fs files' (copy.Base fault) h = tt
into_refuses user work c db fs files' copy.OutOfMemory h = tt

-- the file is stored
pub stored_carries : (user : List ℕ) (work : Utility) (c : IsCopy work false) (s : Span) (files files' : Option Files) (answer : Carried) (x : Unit {0}) → answer ≡ carried.Done → ((db : Db) → s.old ≡ Some db → FitsFor user (work_of work) db)
    → IsKnown user work c s files files' (Ok x) → HandedOver s → Did user (work_of work) s files files' answer
stored_carries user work c s files files' answer x is fits known h = record {
  fits = fits;
  is_for_four = tt;
  answers = subst (MayAnswer (work_of work)) (sym is) tt;
  leaves = λ db fs e g.
      let k = known db fs e g in
      subst (λ (a : Carried). Leaves user (work_of work) db fs s.new files' a) (sym is) (db, stored fs (file_of_constant c.constant) k.0, h.kept.same ∙ e, k.2, into_done user work db fs c k.0 k.1);
  known = λ db e. (db, h.kept.same ∙ e);
  crash = λ db fs e g. asked_leaves (Makes user (work_of work) db fs) s.before s.now s.left_before s.left_now h.kept.crash;
  durable = λ db db' e e' stands. subst (λ (d : Db). AllDenote s.now s.left_now d) (same_Some db db' (sym (h.kept.same ∙ e) ∙ e')) (h.stands db stands);
  handed = h.handed;
}

-- ---- of what is in the stage's hands

pub change_at : (user : List ℕ) (here : At) (c given : DbChange) (s : Span) (files : Option Files) (result : Result Carried WorkFault) → here ≡ at.Change c → given ≡ c → Carries user (change given) s files files result → CarriesAt user here s files files result
change_at user here c given s files result is same h =
    subst (λ (a : At). CarriesAt user a s files files result) (sym is) (subst (λ (d : DbChange). Carries user (change d) s files files result) same h)

-- ---- of answers

pub none_of : {A : Type 0} (o : Option A) (P : Type 0) → o ≡ None → IfNone o P → P
none_of o P is h = subst (λ x. IfNone x P) is h

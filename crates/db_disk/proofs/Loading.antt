-- A catalogue is read for whom the header names.
use Rattle.std.proofs.Common.{◌≡◌, sym, ap, ◌∙◌, ℕ, ◌==◌, true, false, List, Option, Some, None, Result, Ok, Err, arith}
use Rattle.std.proofs.lemmas.Option.{same_Some}
use Rattle.calculus.specs.Database.{Db}
use Rattle.disk_model.specs.Disk.{Image}
use Rattle.disk_model.specs.declared.disk.Addr.{Addr}
use Rattle.base_trait.specs.declared.fault.BaseFault.{BaseFault}
use Rattle.base_trait.specs.declared.fault.BaseFault.TheVariants as faults
use Rattle.am_traits.specs.Causes.{HasFileCause}
use Rattle.page_chain.specs.Lists.{◌>>=◌}
use Rattle.catalog_read.specs.Parts.{index_owners_agree}
use Rattle.stored_database.specs.Denoting.{birth, header_of, denoted}
use Rattle.stored_database.proofs.Exactly.{pages_stand_exactly}
use Rattle.stored_database.proofs.WhatStands.{what_is_denoted_is_a_database}
use Rattle.plain_base.specs.Shown.{database_of}
use Rattle.catalog.specs.Lies.{LiesOn}
use Rattle.catalog.specs.declared.catalog.Catalog.{Catalog}
use Rattle.std.specs.Prelude.{IfOk}
use Rattle.db_disk.specs.Held.{administrator}
use Rattle.db_disk.specs.Known.{LiesFor}
use Rattle.db_disk.specs.Load.{NoneDenoted}

-- what pages that denote a database begin with
pub stands_headed : (m : Image) (db : Db) → denoted m ≡ Some db → (administrator m ≡ Some db.dba) × ((birth m == 1) ≡ true)
unfolding administrator
stands_headed m db stands =
    let h = (pages_stand_exactly m db (what_is_denoted_is_a_database m db stands)).0 stands in
    (ap (λ o. o >>= header_of) h.there ∙ h.header, ap (λ n. n == 1) h.born)

pub own_name : (m : Image) (db : Db) (dba : List ℕ) → denoted m ≡ Some db → administrator m ≡ Some dba → db.dba ≡ dba
own_name m db dba stands named = same_Some db.dba dba (sym (stands_headed m db stands).0 ∙ named)

pub no_header_none : (m : Image) (a : Addr) → administrator m ≡ None → NoneDenoted m a
no_header_none m a none = λ db stands agree. let e : Some db.dba ≡ None = sym (stands_headed m db stands).0 ∙ none in absurd (cc e)

pub unborn_none : (m : Image) (a : Addr) → (birth m == 1) ≡ false → NoneDenoted m a
unborn_none m a off = λ db stands agree. let e : true ≡ false = sym (stands_headed m db stands).1 ∙ off in absurd (cc e)

-- the same cause, of fewer databases
pub for_whom : {T : Type 0} (known pages : Option Image) (dba : List ℕ) (before mid now : ℕ) (result : Result T BaseFault) → mid ≡ before → pages ≡ known → ((m : Image) → known ≡ Some m → administrator m ≡ Some dba)
    → HasFileCause pages (λ m a. (db : Db) → denoted m ≡ Some db → db.dba ≡ dba → index_owners_agree db ≡ true → ⊥) mid now result → HasFileCause known NoneDenoted before now result
for_whom known pages dba before mid now (Ok x) calm same named has = record { later = omega (arith, calm, has.later); caused = has.caused ∙ calm }
for_whom known pages dba before mid now (Err faults.Disk) calm same named has = record { later = omega (arith, calm, has.later); caused = omega (arith, calm, has.caused) }
for_whom known pages dba before mid now (Err (faults.Damaged file page)) calm same named has = record {
  later = omega (arith, calm, has.later);
  caused = (λ m is db stands agree. has.caused.0 m (same ∙ is) db stands (own_name m db dba stands (named m is)) agree, has.caused.1 ∙ calm);
}
for_whom known pages dba before mid now (Err faults.OutOfMemory) calm same named has = record { later = omega (arith, calm, has.later); caused = has.caused ∙ calm }

-- what was read is of the administrator whose header is there
pub lies_for : {E : Type 0} (result : Result Catalog E) (m : Image) (dba : List ℕ) → administrator m ≡ Some dba → IfOk result (λ c. LiesOn c m) → IfOk result (λ c. (database_of c.plain).dba ≡ dba) → IfOk result (λ c. LiesFor c m)
lies_for (Ok c) m dba named lies is = record { lies = lies; named = named ∙ ap Some (sym is) }
lies_for (Err e) m dba named lies is = tt

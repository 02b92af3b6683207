-- What a change leaves on a disk.
use Rattle.std.proofs.Common.{◌≡◌, ◌≢◌, ◌⊎◌, ◌↔◌, inl, inr, ⊎_elim, not, refl, sym, ap, subst, ◌∙◌, arith, ℕ, zero, suc, ◌<◌, IsTrue, Bool, true, false, List, [], ◌∷◌, length, ◌==◌, Option, Some, Result, Ok, Err, OnOk}
use Rattle.base_trait.specs.Causes.{HasCause}
use Rattle.base_trait.specs.declared.fault.BaseFault.{BaseFault}
use Rattle.base_trait.specs.declared.fault.BaseFault.TheVariants as faults
use Rattle.am_traits.specs.Causes.{HasFileCause}
use Rattle.calculus.specs.declared.change.DbChange.{DbChange}
use Rattle.calculus.specs.declared.change.DbChange.TheVariants as change
use Rattle.calculus.specs.declared.query.RelKey.{RelKey}
use Rattle.calculus.specs.Change.{change_at, laid}
use Rattle.calculus.specs.Database.{Db, Relation}
use Rattle.calculus.specs.Keys.{same_key}
use Rattle.calculus.specs.Replacement.{with_rows, without_rows}
use Rattle.calculus.specs.Rows.{Row}
use Rattle.calculus.specs.IsDatabase.{IsDatabase}
use Rattle.disk_model.specs.declared.disk.Addr.{Addr}
use Rattle.disk_model.specs.declared.disk.Disk.{Ghosts}
use Rattle.disk_model.specs.Disk.{Image, IsImage, LeavesOnly}
use Rattle.disk_model.proofs.Moments.{image_settled, weaker}
use Rattle.batch_file.specs.declared.fault.RestoreFault.{RestoreFault}
use Rattle.batch_file.specs.declared.fault.RestoreFault.TheVariants as restore
use Rattle.batch_file.specs.Faults.{FailsBy}
use Rattle.batch_file.specs.Layout.{addr, first_byte, gate}
use Rattle.batch_file.specs.OnDisk.{IsClosed, SameRedone}
use Rattle.batch_file.specs.Redone.{kept, redone}
use Rattle.batch_file.proofs.Applies.{kept_by, kept_not_batch, redone_shut}
use Rattle.batch_file.proofs.Opening.{redone_outside}
use Rattle.batch_file.proofs.Outside.{outside_back}
use Rattle.batch_store.specs.Run.{HasOnlyNow}
use Rattle.batch_store.specs.Recovered.{IsOneOf}
use Rattle.batch_store.specs.Store.{batch_of, disk_of, pages_of, waiting, CameOf}
use Rattle.batch_store.specs.declared.store.BatchStore.{BatchStore}
use Rattle.batch_store.proofs.Stands.{empty_so}
use Rattle.catalog_moves.specs.Files.{files_of}
use Rattle.catalog.specs.Knows.{KnowsAfter, SameHead}
use Rattle.catalog.specs.declared.catalog.Catalog.{Catalog}
use Rattle.catalog_read.specs.Parts.{index_owners_agree}
use Rattle.page_chain.specs.Lists.{◌>>=◌}
use Rattle.stored_database.specs.Denoting.{header_of, denoted}
use Rattle.stored_database.proofs.Exactly.{pages_stand_exactly}
use Rattle.stored_database.proofs.Reading.{same_number}
use Rattle.db_disk.specs.Answered.{of_restore}
use Rattle.db_disk.specs.Held.{administrator, held, database_by, IsEither}
use Rattle.db_disk.proofs.Holding.{held_as}

-- ---- a change that names no rows

none_goes : (rows : List Row) → without_rows [] rows ≡ rows
none_goes [] = refl
none_goes (row ∷ rows) = ap (λ l. row ∷ l) (none_goes rows)

relations_stay : (rel : RelKey) (rs : List Relation) → change_at rel (λ r. record r { rows = with_rows [] (without_rows [] r.rows) }) rs ≡ rs
relations_stay rel [] = refl
relations_stay rel (r ∷ rs) = λ i. go (same_key r.info.key rel) i ∷ relations_stay rel rs i
  where
    go : (b : Bool) → elim b as (λ b. Relation) [ true ↦ record r { rows = with_rows [] (without_rows [] r.rows) } | false ↦ r ] ≡ r
    go true = λ i. record r { rows = none_goes r.rows i }
    go false = refl

pub no_items : {A : Type 0} (xs : List A) → (length xs == 0) ≡ true → xs ≡ []
no_items [] e = refl
no_items (x ∷ xs) e = let none = same_number (length (x ∷ xs)) 0 e in absurd (omega (arith, none))

-- it leaves the database
pub nothing_laid : (rel : RelKey) (remove add : List Row) (db : Db) → remove ≡ [] → add ≡ [] → laid db (change.Rows rel remove add) ≡ db
unfolding laid
nothing_laid rel remove add db none no_more =
    (λ i. laid db (change.Rows rel (none i) (no_more i))) ∙ (λ i. record db { relations = relations_stay rel db.relations i })

-- a change leaves the administrator
pub dba_laid : (db : Db) (made : DbChange) → (laid db made).dba ≡ db.dba
unfolding laid
dba_laid db (change.Rows rel remove add) = refl
dba_laid db (change.Create info rows) = refl
dba_laid db (change.Destroy rels) = refl
dba_laid db (change.Modify rel to keys) = refl
dba_laid db (change.Index base name keys) = refl
dba_laid db (change.View info query) = refl
dba_laid db (change.Permit rel permit) = refl
dba_laid db (change.Rule rel rule) = refl
dba_laid db (change.DropPermits rel numbers) = refl
dba_laid db (change.DropRules rel numbers) = refl

-- so do pages of which those of file 0 are the same
pub same_administrator : (m n : Image) → SameHead m n → administrator n ≡ administrator m
unfolding administrator
same_administrator m n same = ap (λ (o : Option (List ℕ)). o >>= header_of) (same (addr 0 0) refl)

-- the pages denote the database after the change
pub after_stands : (c : Catalog) (m : Image) (known : Option Image) (db : Db) (made : DbChange) → denoted m ≡ Some db → IsDatabase db → IsDatabase (laid db made) → (after : KnowsAfter c m known db made)
    → denoted after.image ≡ Some (laid db made)
after_stands c m known db made stands is_one is_later after =
    let h = (pages_stand_exactly m db is_one).0 stands in
    (pages_stand_exactly after.image (laid db made) is_later).1 record {
      head = h.head;
      there = after.head (addr 0 0) refl ∙ h.there;
      header = h.header ∙ ap Some (sym (dba_laid db made));
      born = ap first_byte (after.head (addr 0 1) refl) ∙ h.born;
      files = files_of c.files;
      catalogue = after.knows.catalogue;
      has = after.knows.has;
    }

-- each image has one of the two
pub either_of : (before after m : Image) (db later : Db) → denoted before ≡ Some db → denoted after ≡ Some later → index_owners_agree db ≡ true → index_owners_agree later ≡ true → IsOneOf before after m → IsEither db later m
either_of before after m db later stands then_ owned owned_later (inl is) = inl (held_as m before db is stands owned)
either_of before after m db later stands then_ owned owned_later (inr is) = inr (held_as m after later is then_ owned_later)

pub on_ok_into : {T E : Type 0} (result : Result T E) (P Q : Type 0) → (P → Q) → OnOk result P → OnOk result Q
on_ok_into (Ok x) P Q into is = into is
on_ok_into (Err e) P Q into is = tt

pub never_wanted : (fault : RestoreFault) (of : BaseFault) → of ≡ of_restore fault → of ≡ faults.OutOfMemory → ⊥
never_wanted restore.Disk of same is = let e : faults.Disk ≡ faults.OutOfMemory = sym same ∙ is in cc e
never_wanted (restore.Damaged file page) of same is = let e : faults.Damaged file page ≡ faults.OutOfMemory = sym same ∙ is in cc e

finish_one : {T U : Type 0} (pages : Option Image) (before now : ℕ) (fault : RestoreFault) → FailsBy {T = T} before now (Err fault) → ((m : Image) → pages ≡ Some m → (fault ≡ restore.Disk))
    → HasFileCause {T = U} pages (λ m a. ⊥) before now (Err (of_restore fault))
finish_one pages before now restore.Disk by whole = record { later = by.later; caused = by.failed refl }
finish_one pages before now (restore.Damaged file page) by whole = record { later = by.later; caused = (λ m is. (let e : restore.Damaged file page ≡ restore.Disk = whole m is in cc e), by.answered (λ e. cc e)) }

pub finish_caused : {T U : Type 0} (pages : Option Image) (before now : ℕ) (fault : RestoreFault) (result : Result T RestoreFault) (of : BaseFault) → result ≡ Err fault → of ≡ of_restore fault → FailsBy before now result
    → ((m : Image) → pages ≡ Some m → result ≡ Err restore.Disk) → HasFileCause {T = U} pages (λ m a. ⊥) before now (Err of)
finish_caused {T} {U} pages before now fault result of is same by whole =
    subst (λ (f : BaseFault). HasFileCause {T = U} pages (λ m a. ⊥) before now (Err f)) (sym same)
    (finish_one pages before now fault (subst (FailsBy {T = T} before now) is by) (λ m known. (let e : Err fault ≡ Err restore.Disk = sym is ∙ whole m known in cc e)))

-- a call before it, that answered, left the count
pub later_caused : {T : Type 0} (known : Option Db) (before mid now : ℕ) (result : Result T BaseFault) → mid ≡ before → HasCause known mid now result → HasCause known before now result
later_caused known before mid now result calm has = subst (λ (n : ℕ). HasCause known n now result) calm has

-- and what is known
pub cause_after : {T : Type 0} (known mid_known : Option Db) (before mid now : ℕ) (result : Result T BaseFault) → mid_known ≡ known → mid ≡ before → HasCause mid_known mid now result → HasCause known before now result
cause_after known mid_known before mid now result same calm has = subst (λ (o : Option Db). HasCause o before now result) same (later_caused mid_known before mid now result calm has)

some_or_none : (n : ℕ) → (n ≡ 0) ⊎ (0 < n)
some_or_none zero = inl refl
some_or_none (suc n) = inr (omega arith)

module _ {D : Type 0} {g : Ghosts D} (s old new : BatchStore D g) (m : Image) (known : IsTrue g.is_known) (only : HasOnlyNow g (disk_of s)) (came : CameOf s old)
    (closed : IsClosed (g.seen (disk_of s)) (g.touched (disk_of s))) (pages : pages_of old ≡ Some m) where
  -- nothing was put: what counts is what counted
  none_put : waiting old ≡ 0 → disk_of new ≡ disk_of old → (x : Image) → IsImage (g.seen (disk_of new)) (g.touched (disk_of new)) x → redone x ≡ Some m
  none_put none same x image =
      let apart = came.apart known only in
      let here : IsImage (g.seen (disk_of old)) (g.touched (disk_of old)) x = subst (λ (d : D). IsImage (g.seen d) (g.touched d) x) same image in
      let back = outside_back g.seen g.touched g.clock g.left_since (disk_of s) (disk_of old) apart.change x here in
      let is_s : back.0 ≡ g.seen (disk_of s) = image_settled g.seen g.touched g.clock g.left_since (disk_of s) closed.settled back.0 back.1 in
      let shut : gate back.0 ≢ 1 = subst (λ (i : Image). gate i ≢ 1) (sym is_s) closed.shut in
      let same_kept : kept (g.seen (disk_of old)) ≡ kept (g.seen (disk_of s)) = kept_by _ _ (λ b k. apart.change.elsewhere b (kept_not_batch b k)) in
      redone_outside x back.0 shut back.2 ∙ ap redone is_s ∙ redone_shut (g.seen (disk_of s)) closed.shut
      ∙ ap Some (sym same_kept ∙ empty_so g.is_known (g.seen (disk_of old)) m (batch_of old) none pages)

  some_put : IsClosed (g.seen (disk_of new)) (g.touched (disk_of new)) → kept (g.seen (disk_of new)) ≡ m → (x : Image) → IsImage (g.seen (disk_of new)) (g.touched (disk_of new)) x → redone x ≡ Some m
  some_put later are x image =
      let is_new : x ≡ g.seen (disk_of new) = image_settled g.seen g.touched g.clock g.left_since (disk_of new) later.settled x image in
      ap redone is_new ∙ redone_shut (g.seen (disk_of new)) later.shut ∙ ap Some are

  pub finished : (waiting old ≡ 0 → disk_of new ≡ disk_of old) → (0 < waiting old → IsClosed (g.seen (disk_of new)) (g.touched (disk_of new))) → kept (g.seen (disk_of new)) ≡ m
      → (x : Image) → IsImage (g.seen (disk_of new)) (g.touched (disk_of new)) x → redone x ≡ Some m
  finished none some are = ⊎_elim (λ n. none_put n (none n)) (λ l. some_put (some l) are) (some_or_none (waiting old))

module _ {S : Type 0} (seen : S → Image) (touched : S → Addr → Type 0) (clock : S → ℕ) (left_since : S → ℕ → Image → Type 0) where
  -- a change that is given up leaves what was held
  pub given_up : (a b : S) (db later : Db) → IsClosed (seen a) (touched a) → held (seen a) ≡ Some db → LeavesOnly clock left_since a b (SameRedone (seen a) (touched a)) → ((m n : Image) → redone m ≡ redone n → held m ≡ held n)
      → LeavesOnly clock left_since a b (IsEither db later)
  given_up a b db later closed holds run same =
      weaker seen touched clock left_since a b _ _ run (λ m from. inl (same m from.0 from.2 ∙ ap held (image_settled seen touched clock left_since a closed.settled from.0 from.1) ∙ holds))

  pub same_given_up : (a b : S) → IsClosed (seen a) (touched a) → LeavesOnly clock left_since a b (SameRedone (seen a) (touched a)) → left_since b (clock a) (seen b) → redone (seen b) ≡ redone (seen a)
  same_given_up a b closed run left =
      let from = run.each (seen b) left in
      from.2 ∙ ap redone (image_settled seen touched clock left_since a closed.settled from.0 from.1)

-- what each image holds is known
pub known_now : (is_known : Bool) (m : Image) (db : Db) → IsTrue is_known → held m ≡ Some db → database_by is_known m ≡ Some db
known_now true m db known is = is
known_now false m db known is = absurd (cc known)

-- a finish that fails on a disk that tells failed by the disk
pub finish_whole : {T : Type 0} {ok : T} (fault : RestoreFault) (result : Result T RestoreFault) → result ≡ Err fault → (result ≡ Err restore.Disk) ⊎ (result ≡ Ok ok) → result ≡ Err restore.Disk
finish_whole fault result is (inl e) = e
finish_whole {T} {ok} fault result is (inr e) = let bad : Err fault ≡ Ok ok = sym is ∙ e in absurd (cc bad)

-- something was put where the store wasn't empty
pub were_some : (empty : Bool) (n : ℕ) → IsTrue empty ↔ (n ≡ 0) → not empty ≡ true → 0 < n
were_some true n is some = absurd (cc some)
were_some false zero is some = let e : IsTrue false = is.1 refl in absurd (cc e)
were_some false (suc n) is some = omega arith

-- where nothing is touched, the disk has what it holds after a crash
pub held_settled : {D : Type 0} {g : Ghosts D} (s : BatchStore D g) (db : Db) → IsClosed (g.seen (disk_of s)) (g.touched (disk_of s)) → held (g.seen (disk_of s)) ≡ Some db
    → (m : Image) → IsImage (g.seen (disk_of s)) (g.touched (disk_of s)) m → held m ≡ Some db
held_settled {D} {g} s db closed holds m image = ap held (image_settled g.seen g.touched g.clock g.left_since (disk_of s) closed.settled m image) ∙ holds

-- a sync that fails behind a finish fails by the disk
pub synced_caused : {T : Type 0} (pages : Option Image) (known : Option Db) (before mid now : ℕ) (result : Result T BaseFault) → mid ≡ before → HasCause known mid now result
    → ((m : Image) → pages ≡ Some m → (file page : ℕ) → result ≡ Err (faults.Damaged file page) → ⊥) → HasFileCause pages (λ m a. ⊥) before now result
synced_caused pages known before mid now (Ok x) calm has none = record { later = omega (arith, calm, has.later); caused = has.caused ∙ calm }
synced_caused pages known before mid now (Err faults.Disk) calm has none = record { later = omega (arith, calm, has.later); caused = omega (arith, calm, has.caused) }
synced_caused pages known before mid now (Err (faults.Damaged file page)) calm has none = record { later = omega (arith, calm, has.later); caused = (λ m is. none m is file page refl, has.caused.1 ∙ calm) }
synced_caused pages known before mid now (Err faults.OutOfMemory) calm has none = record { later = omega (arith, calm, has.later); caused = has.caused ∙ calm }

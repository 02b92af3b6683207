-- What a layer above makes of the clauses on crashes: every image left stands, redone, for a database before or
-- after.
use Rattle.std.proofs.Common.{◌≡◌, ◌⊎◌, inl, inr, ⊎_elim, ℕ, Some, ◌∙◌}
use Rattle.disk_model.specs.declared.disk.Addr.{Addr}
use Rattle.disk_model.specs.Disk.{Image, IsImage, LeavesOnly}
use Rattle.disk_model.proofs.Moments.{weaker}
use Rattle.batch_file.specs.Layout.{Entries}
use Rattle.batch_file.specs.Redone.{laid, redone}
use Rattle.batch_file.specs.OnDisk.{BeforeOrAfter, SameRedone}

-- An image stands, redone, for this database, where `spells` says which pages spell which database.
pub record Stands {Db : Type 0} (spells : Image → Db → Type 0) (m : Image) (db : Db) : Type 0 where
  pub pages : Image
  pub are : redone m ≡ Some pages
  pub spelled : spells pages db

stands_as : {Db : Type 0} (spells : Image → Db → Type 0) (m m0 : Image) (db : Db) → redone m ≡ redone m0 → Stands spells m0 db → Stands spells m db
stands_as spells m m0 db same is = record { pages = is.pages; are = same ∙ is.are; spelled = is.spelled }

module _ {S Db : Type 0} (spells : Image → Db → Type 0) (seen : S → Image) (touched : S → Addr → Type 0) (clock : S → ℕ) (left_since : S → ℕ → Image → Type 0) where
  -- a commit, or the finish of a batch, from one database to the next
  pub commit_stands : (old new : S) (cs : Entries) (db next : Db) → LeavesOnly clock left_since old new (BeforeOrAfter (seen old) (touched old) cs)
      → ((m : Image) → IsImage (seen old) (touched old) m → Stands spells m db) → ((m : Image) → IsImage (seen old) (touched old) m → Stands spells (laid cs m) next)
      → LeavesOnly clock left_since old new (λ m. Stands spells m db ⊎ Stands spells m next)
  commit_stands old new cs db next run before after =
      weaker seen touched clock left_since old new _ _ run (λ m from. ⊎_elim (λ e. inl (stands_as spells m from.0 db e (before from.0 from.1))) (λ e. inr (stands_as spells m (laid cs from.0) next e (after from.0 from.1))) from.2)

  -- a restore, where each image at its start stands for one of some databases
  pub restore_stands : (old new : S) (One : Db → Type 0) → LeavesOnly clock left_since old new (SameRedone (seen old) (touched old))
      → ((m : Image) → IsImage (seen old) (touched old) m → (db : Db) × One db × Stands spells m db) → LeavesOnly clock left_since old new (λ m. (db : Db) × One db × Stands spells m db)
  restore_stands old new One run before =
      weaker seen touched clock left_since old new _ _ run (λ m from. let is = before from.0 from.1 in (is.0, is.1, stands_as spells m from.0 is.0 from.2 is.2))

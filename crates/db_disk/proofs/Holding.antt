-- What disks hold.
use Rattle.std.proofs.Common.{◌≡◌, refl, sym, ap, ◌∙◌, ℕ, Bool, true, false, IsTrue, Some, None}
use Rattle.calculus.specs.Database.{Db}
use Rattle.disk_model.specs.declared.disk.Addr.{Addr}
use Rattle.disk_model.specs.Disk.{Image, LeavesOnly}
use Rattle.disk_model.proofs.Moments.{weaker}
use Rattle.batch_file.specs.OnDisk.{SameRedone}
use Rattle.batch_file.specs.Redone.{redone}
use Rattle.page_chain.specs.Lists.{◌>>=◌, when}
use Rattle.catalog_read.specs.Parts.{index_owners_agree}
use Rattle.stored_database.specs.Denoting.{denoted, stored}
use Rattle.stored_database.proofs.Reading.{bind_some, when_some}
use Rattle.db_disk.specs.Held.{held, database_by, SameHeld}

-- what is held is held by the pages once a batch is applied
pub same_held : (m n : Image) → redone m ≡ redone n → held m ≡ held n
unfolding held stored
same_held m n same = ap (λ o. (o >>= denoted) >>= (λ db. when (index_owners_agree db) db)) same

-- the pages that are held
pub held_as : (m pages : Image) (db : Db) → redone m ≡ Some pages → denoted pages ≡ Some db → index_owners_agree db ≡ true → held m ≡ Some db
unfolding held stored
held_as m pages db is stands agree =
    ap (λ o. (o >>= denoted) >>= (λ db. when (index_owners_agree db) db)) is
    ∙ ap (λ o. o >>= (λ db. when (index_owners_agree db) db)) stands
    ∙ ap (λ t. when t db) agree

-- and back
pub held_so : (m pages : Image) (db : Db) → redone m ≡ Some pages → held m ≡ Some db → (denoted pages ≡ Some db) × (index_owners_agree db ≡ true)
unfolding held stored
held_so m pages db is holds =
    let s = bind_some (denoted pages) (λ db. when (index_owners_agree db) db) db (sym (ap (λ o. (o >>= denoted) >>= (λ db. when (index_owners_agree db) db)) is) ∙ holds) in
    let w = when_some (index_owners_agree s.0) s.0 db s.2 in
    (s.1 ∙ ap Some w.1, ap index_owners_agree (sym w.1) ∙ w.0)

pub none_redone : (m : Image) → redone m ≡ None → held m ≡ None
unfolding held stored
none_redone m none = ap (λ o. (o >>= denoted) >>= (λ db. when (index_owners_agree db) db)) none

-- what is known of disks that hold the same
pub known_same : (is_known : Bool) (m n : Image) → (IsTrue is_known → redone m ≡ redone n) → database_by is_known m ≡ database_by is_known n
known_same true m n same = same_held m n (same refl)
known_same false m n same = refl

pub known_none : (is_known : Bool) (m : Image) → (IsTrue is_known → redone m ≡ None) → database_by is_known m ≡ None
known_none true m none = none_redone m (none refl)
known_none false m none = refl

pub known_some : (is_known : Bool) (m : Image) (db : Db) → database_by is_known m ≡ Some db → IsTrue is_known × (held m ≡ Some db)
known_some true m db is = (refl, is)
known_some false m db is = absurd (cc is)

module _ {S : Type 0} (seen : S → Image) (touched : S → Addr → Type 0) (clock : S → ℕ) (left_since : S → ℕ → Image → Type 0) where
  pub holds_run : (a b : S) → LeavesOnly clock left_since a b (SameRedone (seen a) (touched a)) → LeavesOnly clock left_since a b (SameHeld (seen a) (touched a))
  holds_run a b run = weaker seen touched clock left_since a b _ _ run (λ m from. (from.0, from.1, same_held m from.0 from.2))

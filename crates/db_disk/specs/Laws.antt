-- What a disk holds is a database, and a scan of it is one.
use Rattle.std.proofs.Common.{◌≡◌, inl, inr, subst, arith, ℕ, Bool, true, false, Option, Some, None, ◌≤◌}
use Rattle.std.specs.Prelude.{if◌then◌else◌}
use Rattle.std.proofs.lemmas.Option.{none-some}
use Rattle.calculus.specs.declared.query.RelKey.{RelKey}
use Rattle.calculus.specs.Database.{Db}
use Rattle.calculus.specs.IsDatabase.{IsDatabase}
use Rattle.calculus.specs.Schema.{schema_of}
use Rattle.calculus.specs.Stored.{rows_at}
use Rattle.disk_model.specs.Disk.{Image}
use Rattle.disk_model.specs.declared.disk.Addr.{Addr}
use Rattle.batch_file.specs.Redone.{redone}
use Rattle.page_chain.specs.Lists.{when}
use Rattle.base_trait.specs.Scans.{IsScan, first_place}
use Rattle.plain_base.specs.Laws.{of_known, whole_scan}
use Rattle.catalog_read.specs.Parts.{index_owners_agree}
use Rattle.plain_base.specs.Shown.{database_of}
use Rattle.catalog.specs.declared.catalog.Catalog.{Catalog}
use Rattle.schema_laws.proofs.SchemaStands.{schema_is_database}
use Rattle.stored_database.specs.Denoting.{denoted, stored}
use Rattle.stored_database.proofs.Reading.{bind_some, when_some}
use Rattle.stored_database.proofs.WhatStands.{what_is_denoted_is_a_database}
use Rattle.db_disk.specs.Held.{held, database_by}
use Rattle.db_disk.specs.Known.{schema_known}
use Rattle.db_disk.specs.Left.{clock_by, left_by, IsLeft}
use Rattle.db_disk.specs.Shown.{known_by, rows_left}

is_held : (m : Image) (db : Db) → held m ≡ Some db → IsDatabase db
unfolding held stored
is_held m db is =
    let s = bind_some (stored m) (λ db. when (index_owners_agree db) db) db is in
    let p = bind_some (redone m) denoted s.0 s.1 in
    subst IsDatabase (when_some (index_owners_agree s.0) s.0 db s.2).1 (what_is_denoted_is_a_database p.0 s.0 p.2)

pub lawful_held : (is_known : Bool) (m : Image) (db : Db) → database_by is_known m ≡ Some db → IsDatabase db
lawful_held true m db is = is_held m db is
lawful_held false m db is = absurd (none-some db is)

scanned_of : (o : Option Db) (db : Db) (key : RelKey) → o ≡ Some db → IsDatabase db → IsScan (rows_at db key) (rows_left o key first_place)
scanned_of None db key is is_one = absurd (none-some db is)
scanned_of (Some a) db key is is_one = of_known (λ x. IsDatabase x → IsScan (rows_at x key) (rows_left (Some a) key first_place)) a db is (λ h. whole_scan a key h) is_one

pub scanned_known : (is_known : Bool) (m : Image) (db : Db) (key : RelKey) → database_by is_known m ≡ Some db → IsScan (rows_at db key) (rows_left (database_by is_known m) key first_place)
scanned_known is_known m db key is = scanned_of (database_by is_known m) db key is (lawful_held is_known m db is)

-- the database that is known is known
pub own_known : (known schema : Option Db) (db : Db) → known ≡ Some db → known_by known schema ≡ Some db
own_known None schema db is = absurd (none-some db is)
own_known (Some a) schema db is = is

lawful_by : (known : Option Db) (catalog : Option Catalog) (s : Db) → ((db : Db) → known ≡ Some db → IsDatabase db) → known_by known (schema_known catalog) ≡ Some s → IsDatabase s
lawful_by (Some db) catalog s each is = each s is
lawful_by None None s each is = absurd (none-some s is)
lawful_by None (Some c) s each is = of_known IsDatabase (schema_of (database_of c.plain)) s is (schema_is_database (database_of c.plain) c.plain.is)

-- what is known is a database: without rows, where it was read
pub lawful_known : (is_known : Bool) (m : Image) (catalog : Option Catalog) (s : Db) → known_by (database_by is_known m) (schema_known catalog) ≡ Some s → IsDatabase s
lawful_known is_known m catalog s is = lawful_by (database_by is_known m) catalog s (λ db is. lawful_held is_known m db is) is

-- a scan reads no more pages than there are
pub unread_at_most : (read : Bool) (pages : ℕ) → (if read then 0 else pages) ≤ pages
unread_at_most true pages = omega arith
unread_at_most false pages = omega arith

still_left : {D : Type 0} (seen : D → Image) (touched : D → Addr → Type 0) (clock : D → ℕ) (left_since : D → ℕ → Image → Type 0) (d : D) (t : ℕ) (m : Image) →
    IsLeft seen touched clock left_since d (clock d) m → IsLeft seen touched clock left_since d t m
still_left seen touched clock left_since d t m (inl image) = inl image
still_left seen touched clock left_since d t m (inr (later, left)) = absurd (omega (arith, later))

-- what a crash leaves now is among what it leaves since an earlier moment
pub left_counts : {D : Type 0} (is_known : Bool) (seen : D → Image) (touched : D → Addr → Type 0) (clock : D → ℕ) (left_since : D → ℕ → Image → Type 0) (d : D) (t : ℕ) (o : Option Db) →
    left_by is_known seen touched clock left_since d (clock_by is_known clock d) o → left_by is_known seen touched clock left_since d t o
left_counts true seen touched clock left_since d t o (m, is, left, h) = (m, is, still_left seen touched clock left_since d t m left, h)
left_counts false seen touched clock left_since d t o (m, is, left, h) = cc

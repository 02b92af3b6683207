-- What is to be known of catalogues and databases on disk.
use Rattle.std.specs.Prelude.{◌≡◌, ◌↔◌, ℕ, ◌==◌, true, false, List, take, Some}
use Rattle.calculus.specs.declared.query.Query.{Query}
use Rattle.calculus.specs.declared.schema.Permit.{Permit}
use Rattle.calculus.specs.declared.schema.Rule.{Rule}
use Rattle.calculus.specs.Database.{Db}
use Rattle.calculus.specs.IsDatabase.{IsDatabase}
use Rattle.calculus.specs.Name.{is_name}
use Rattle.disk_model.specs.Disk.{Image}
use Rattle.disk_model.specs.declared.disk.Addr.{Addr}
use Rattle.batch_file.specs.Layout.{addr, gate}
use Rattle.batch_file.specs.Redone.{redone, kept, is_kept}
use Rattle.quel_tree.specs.Message.{IsSpelled}
use Rattle.quel_tree.specs.Permits as spellings
use Rattle.quel_tree.specs.Queries as queries
use Rattle.page_chain.specs.Pages.{Pages, pages_of}
use Rattle.stored_database.specs.Catalogue.{Catalogue, IsCatalogue, Lists, catalogue_in, listed}
use Rattle.stored_database.specs.Columns.{Column, column_cmp, column_of, column_bytes, is_column}
use Rattle.stored_database.specs.Entries.{Entry, entry_cmp, entry_of, entry_bytes, is_entry}
use Rattle.stored_database.specs.Parts.{Part, part_cmp, part_of, part_bytes, is_part}
use Rattle.stored_database.specs.Printed.{Files, HasFiles, files_in, printed, trees_are_short}
use Rattle.stored_database.specs.Spelled.{spelled}
use Rattle.stored_database.specs.Denoting.{header_bytes, header_of, birth, Denotes, denoted, stored, IsFresh, empty_database}
use Rattle.stored_database.specs.Trees.{query_of, rule_of, permit_of}

-- ---- bytes

-- bytes are read as an entry exactly where they are its bytes
abbrev pub EntriesAreTheirBytes : Type 0
EntriesAreTheirBytes = (bytes : List ℕ) (e : Entry) → (entry_of bytes ≡ Some e) ↔ ((is_entry e ≡ true) × (bytes ≡ entry_bytes e))

-- so it is with attributes
abbrev pub ColumnsAreTheirBytes : Type 0
ColumnsAreTheirBytes = (bytes : List ℕ) (c : Column) → (column_of bytes ≡ Some c) ↔ ((is_column c ≡ true) × (bytes ≡ column_bytes c))

-- and with parts of trees
abbrev pub PartsAreTheirBytes : Type 0
PartsAreTheirBytes = (bytes : List ℕ) (p : Part) → (part_of bytes ≡ Some p) ↔ ((is_part p ≡ true) × (bytes ≡ part_bytes p))

-- bytes are read as a query, a rule or a permit exactly where they are its spelling
pub record TreesAreTheirBytes : Type 0 where
  pub queries : (bytes : List ℕ) (q : Query) → (query_of bytes ≡ Some q) ↔ IsSpelled queries.query q bytes
  pub rules : (bytes : List ℕ) (r : Rule) → (rule_of bytes ≡ Some r) ↔ IsSpelled spellings.rule r bytes
  pub permits : (bytes : List ℕ) (p : Permit) → (permit_of bytes ≡ Some p) ↔ IsSpelled spellings.permit p bytes

-- ---- catalogues and databases

-- What is read is printed: a catalogue that spells a database is the one that the database has, by the files that its entries say.
abbrev pub WhatIsReadIsPrinted : Type 0
WhatIsReadIsPrinted = (dba : List ℕ) (files : ℕ → Pages) (cat : Catalogue) (db : Db)
    → IsCatalogue cat → spelled dba files cat ≡ Some db → IsDatabase db → (cat ≡ printed db (files_in cat)) × HasFiles db files (files_in cat)

-- What is printed is read: the catalogue that a database has by files that it may have spells that database.
abbrev pub WhatIsPrintedIsRead : Type 0
WhatIsPrintedIsRead = (files : ℕ → Pages) (f : Files) (db : Db) → IsDatabase db → HasFiles db files f → spelled db.dba files (printed db f) ≡ Some db

-- What is printed is a catalogue: each of its items has bytes, where no tree has too many parts.
abbrev pub WhatIsPrintedIsACatalogue : Type 0
WhatIsPrintedIsACatalogue = (files : ℕ → Pages) (f : Files) (db : Db) → IsDatabase db → HasFiles db files f → trees_are_short db f ≡ true → IsCatalogue (printed db f)

-- what is read of files 5, 6 and 7 is a catalogue
abbrev pub CataloguesAreRead : Type 0
CataloguesAreRead = (files : ℕ → Pages) (cat : Catalogue) → catalogue_in files ≡ Some cat → IsCatalogue cat

-- a file lists items exactly where its rows are their bytes, in any order
pub record WhatIsListed : Type 0 where
  pub entries : (pages : Pages) (es : List Entry) → (listed entry_of entry_cmp pages ≡ Some es) ↔ Lists entry_cmp is_entry entry_bytes pages es
  pub columns : (pages : Pages) (cs : List Column) → (listed column_of column_cmp pages ≡ Some cs) ↔ Lists column_cmp is_column column_bytes pages cs
  pub parts : (pages : Pages) (ps : List Part) → (listed part_of part_cmp pages ≡ Some ps) ↔ Lists part_cmp is_part part_bytes pages ps

-- ---- pages

-- what pages denote is a database
abbrev pub WhatIsDenotedIsADatabase : Type 0
WhatIsDenotedIsADatabase = (pages : Image) (db : Db) → Denotes pages db → IsDatabase db

-- pages stand for at most one database
abbrev pub OneDatabase : Type 0
OneDatabase = (pages : Image) (one other : Db) → Denotes pages one → Denotes pages other → one ≡ other

-- disks whose pages are the same once their batches are applied hold the same database
abbrev pub SameRedone : Type 0
SameRedone = (m n : Image) → redone m ≡ redone n → stored m ≡ stored n

-- only the pages of file 0 and of the files from 5 up count
abbrev pub OnlyKeptPagesCount : Type 0
OnlyKeptPagesCount = (m : Image) → denoted (kept m) ≡ denoted m

-- images with the same such pages stand for the same database
abbrev pub SameWhereKept : Type 0
SameWhereKept = (m n : Image) → ((b : Addr) → is_kept b.file ≡ true → m b ≡ n b) → denoted m ≡ denoted n

-- a disk whose gate isn't open holds what its pages denote
abbrev pub ShutDisksHold : Type 0
ShutDisksHold = (m : Image) → (gate m == 1) ≡ false → stored m ≡ denoted m

-- fresh pages stand for an empty database
abbrev pub FreshPagesStand : Type 0
FreshPagesStand = (m : Image) (dba : List ℕ) → is_name dba ≡ true → IsFresh m dba → Denotes m (empty_database dba)

-- The pages that a database has: its administrator's header, the birth byte, its catalogue by files that it may have, and on them its rows.
pub record HasPages (m : Image) (db : Db) : Type 0 where
  pub head : List ℕ
  pub there : m (addr 0 0) ≡ Some head
  pub header : header_of head ≡ Some db.dba
  pub born : birth m ≡ 1
  pub files : Files
  pub catalogue : catalogue_in (pages_of m) ≡ Some (printed db files)
  pub has : HasFiles db (pages_of m) files

-- pages denote a database exactly where they are the pages that it has
abbrev pub PagesStandExactly : Type 0
PagesStandExactly = (m : Image) (db : Db) → IsDatabase db → Denotes m db ↔ HasPages m db

-- the first bytes of a page are a header exactly of a name
abbrev pub HeadersAreTheirBytes : Type 0
HeadersAreTheirBytes = (page dba : List ℕ) → (header_of page ≡ Some dba) ↔ ((is_name dba ≡ true) × (take 22 page ≡ header_bytes dba))

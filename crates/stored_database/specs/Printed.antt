-- The catalogue that a database has, where its relations, views and indexes have these files.
use Rattle.std.specs.Prelude.{◌≡◌, ℕ, suc, ◌&&◌, nat_le, nat_lt, nat_eq, Bool, true, List, [], ◌∷◌, ◌++◌, map, find, Option, Some, None}
use Rattle.std.specs.List.{AllByRecursion, list_all, flat_map}
use Rattle.calculus.specs.declared.query.RelKey.{RelKey}
use Rattle.calculus.specs.declared.schema.Attr.{Attr}
use Rattle.calculus.specs.declared.schema.RelInfo.{RelInfo}
use Rattle.calculus.specs.Database.{Db, Relation, Index, View, entries}
use Rattle.calculus.specs.Keys.{same_key}
use Rattle.calculus.specs.Rows.{Row}
use Rattle.calculus.specs.Lists.{differ_by}
use Rattle.page_chain.specs.Lists.{◌>>=◌, each, in_order}
use Rattle.page_chain.specs.Pages.{Pages}
use Rattle.page_chain.specs.Rows.{set_on, reader}
use Rattle.quel_tree.specs.Permits as spellings
use Rattle.quel_tree.specs.Queries as queries
use Rattle.tree_words.specs.Codec.{Codec}
use Rattle.stored_database.specs.Catalogue.{Catalogue}
use Rattle.stored_database.specs.Columns.{Column, column_cmp}
use Rattle.stored_database.specs.Entries.{Entry, entry_cmp}
use Rattle.stored_database.specs.Names.{is_number32}
use Rattle.stored_database.specs.Parts.{Part, part_cmp, of_view, of_rule, of_permit}
use Rattle.stored_database.specs.Spelled.{domain_of}
use Rattle.stored_database.specs.Trees.{tree_bytes, cut, parts_from}

-- the file of what stands under a key, and of a relation the number of its pages
pub record Files : Type 0 where
  pub file : RelKey → ℕ
  pub used : RelKey → ℕ

-- ---- entries

-- the entry of a relation
abbrev pub relation_entry : Files → Relation → Entry
relation_entry f r = record {
  file = f.file r.info.key;
  key = r.info.key;
  spec = r.info.spec;
  base = 0;
  primary = 1;
  directory = 0;
  used = f.used r.info.key;
  keys = r.info.keys;
}

-- an entry without pages, on the base of this file
abbrev pub bare_entry : Files → ℕ → RelInfo → Entry
bare_entry f base i = record {
  file = f.file i.key;
  key = i.key;
  spec = i.spec;
  base = base;
  primary = 0;
  directory = 0;
  used = 0;
  keys = i.keys;
}

-- the entry of a view
abbrev pub view_entry : Files → View → Entry
view_entry f v = bare_entry f 0 v.info

-- the entry of an index
abbrev pub index_entry : Files → Index → Entry
index_entry f x = bare_entry f (f.file x.base) x.info

-- the entries of a database
unfoldable pub entries_for : Files → Db → List Entry
entries_for f db = map (relation_entry f) db.relations ++ (map (view_entry f) db.views ++ map (index_entry f) db.indexes)

-- ---- attributes

-- attributes as columns of a file, from this place on
unfoldable pub columns_from : ℕ → ℕ → List Attr → List Column
columns_from file place [] = []
columns_from file place (a ∷ attrs) = record { file = file; place = place; attr = a } ∷ columns_from file (suc place) attrs

-- the columns of a database
unfoldable pub columns_for : Files → Db → List Column
columns_for f db = flat_map (λ i. columns_from (f.file i.key) 0 i.attrs) (entries db)

-- ---- trees

-- the parts of the tree of a view
abbrev pub view_parts : Files → View → List Part
view_parts f v = parts_from (f.file v.info.key) of_view 0 0 (cut (tree_bytes queries.query v.query))

-- the parts of the tree of a rule or a permit
abbrev pub numbered_parts : {X : Type 0} → (ℕ → Codec X) → (X → ℕ) → ℕ → Files → RelKey × X → List Part
numbered_parts codec number sort f y = parts_from (f.file y.0) sort (number y.1) 0 (cut (tree_bytes codec y.1))

-- the parts of the trees of a database
unfoldable pub parts_for : Files → Db → List Part
parts_for f db =
    flat_map (view_parts f) db.views
    ++ (flat_map (numbered_parts spellings.rule (λ r. r.number) of_rule f) db.rules
    ++ flat_map (numbered_parts spellings.permit (λ p. p.number) of_permit f) db.permits)

-- ---- the catalogue

-- the catalogue of a database: its entries, columns and parts as sets
unfoldable pub printed : Db → Files → Catalogue
printed db f = record {
  entries = in_order entry_cmp (entries_for f db);
  columns = in_order column_cmp (columns_for f db);
  parts = in_order part_cmp (parts_for f db);
}

-- ---- the files that a catalogue says

-- the entry under a key
unfoldable pub entry_under : Catalogue → RelKey → Option Entry
entry_under cat key = find (λ e. same_key e.key key) cat.entries

-- the files, as the entries of a catalogue have them
unfoldable pub files_in : Catalogue → Files
files_in cat = record {
  file = λ key. elim (entry_under cat key) [ None ↦ 0 | Some e ↦ e.file ];
  used = λ key. elim (entry_under cat key) [ None ↦ 0 | Some e ↦ e.used ];
}

-- ---- files that a database may have

-- a number of a file: 16 or more, in four bytes
abbrev pub is_file : ℕ → Bool
is_file n = nat_le 16 n && is_number32 n

-- the rows that a relation has on its pages
unfoldable pub rows_in : (ℕ → Pages) → Files → Relation → Option (List Row)
rows_in files f r = do
  domains ← each domain_of r.info.attrs
  set_on (reader domains) (f.used r.info.key) (files (f.file r.info.key))

-- The relations, views and indexes of a database have files that differ; each relation has at least one page, whatever lies on it.
pub record MayHave (db : Db) (f : Files) : Type 0 where
  pub are_files : list_all (λ i. is_file (f.file i.key)) (entries db) ≡ true
  pub files_differ : differ_by nat_eq (map (λ i. f.file i.key) (entries db)) ≡ true
  pub some_pages : list_all (λ r. nat_le 1 (f.used r.info.key) && is_number32 (f.used r.info.key)) db.relations ≡ true

-- The relations, views and indexes of a database have files that differ; each relation has at least one page, and on its pages its rows.
pub record HasFiles (db : Db) (files : ℕ → Pages) (f : Files) : Type 0 where
  pub are_files : list_all (λ i. is_file (f.file i.key)) (entries db) ≡ true
  pub files_differ : differ_by nat_eq (map (λ i. f.file i.key) (entries db)) ≡ true
  pub some_pages : list_all (λ r. nat_le 1 (f.used r.info.key) && is_number32 (f.used r.info.key)) db.relations ≡ true
  pub rows : AllByRecursion (λ r. rows_in files f r ≡ Some r.rows) db.relations

-- the places of the parts of its trees are numbers of two bytes
unfoldable pub trees_are_short : Db → Files → Bool
trees_are_short db f = list_all (λ p. nat_lt p.place 65536) (parts_for f db)

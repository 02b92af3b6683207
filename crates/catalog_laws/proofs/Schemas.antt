-- What doesn't look at rows of relations is the same of databases with one schema.
use Rattle.std.proofs.Common.{◌≡◌, refl, sym, ap, ◌∙◌, List, [], ◌∷◌, ◌++◌, map}
use Rattle.std.specs.List.{flat_map}
use Rattle.calculus.specs.declared.schema.RelInfo.{RelInfo}
use Rattle.calculus.specs.Database.{Db, Relation, View, Index, entries}
use Rattle.calculus.specs.Schema.{bare, schema_of}
use Rattle.page_chain.specs.Lists.{in_order}
use Rattle.stored_database.specs.Entries.{entry_cmp}
use Rattle.stored_database.specs.Columns.{column_cmp}
use Rattle.stored_database.specs.Parts.{part_cmp}
use Rattle.stored_database.specs.Printed.{Files, relation_entry, view_entry, index_entry, entries_for, columns_from, columns_for, parts_for, printed}

infos_bare : (rs : List Relation) → map (λ (r : Relation). r.info) (map bare rs) ≡ map (λ (r : Relation). r.info) rs
infos_bare [] = refl
infos_bare (r ∷ rs) = ap (λ l. r.info ∷ l) (infos_bare rs)

relation_entries_bare : (f : Files) (rs : List Relation) → map (relation_entry f) (map bare rs) ≡ map (relation_entry f) rs
relation_entries_bare f [] = refl
relation_entries_bare f (r ∷ rs) = ap (λ l. relation_entry f r ∷ l) (relation_entries_bare f rs)

entries_of_schema : (db : Db) → entries (schema_of db) ≡ entries db
unfolding schema_of
entries_of_schema db = ap (λ l. l ++ (map (λ (v : View). v.info) db.views ++ map (λ (x : Index). x.info) db.indexes)) (infos_bare db.relations)

columns_of_schema : (f : Files) (db : Db) → columns_for f (schema_of db) ≡ columns_for f db
unfolding columns_for
columns_of_schema f db = ap (flat_map (λ (i : RelInfo). columns_from (f.file i.key) 0 i.attrs)) (entries_of_schema db)

printed_of_schema : (f : Files) (db : Db) → printed (schema_of db) f ≡ printed db f
unfolding schema_of printed entries_for columns_for parts_for
printed_of_schema f db = λ i. record {
  entries = in_order entry_cmp (relation_entries_bare f db.relations i ++ (map (view_entry f) db.views ++ map (index_entry f) db.indexes));
  columns = in_order column_cmp (columns_of_schema f db i);
  parts = in_order part_cmp (parts_for f db);
}

pub same_printed : (a b : Db) (f : Files) → schema_of a ≡ schema_of b → printed a f ≡ printed b f
same_printed a b f same = sym (printed_of_schema f a) ∙ ap (λ (s : Db). printed s f) same ∙ printed_of_schema f b

pub same_entries : (a b : Db) → schema_of a ≡ schema_of b → entries a ≡ entries b
same_entries a b same = sym (entries_of_schema a) ∙ ap entries same ∙ entries_of_schema b

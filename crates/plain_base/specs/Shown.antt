-- What a database in memory shows, and what of it is kept.
use Rattle.std.specs.Prelude.{◌≡◌, IsTrue, map, flat_map, Some}
use Rattle.calculus.specs.declared.query.RelKey.{RelKey}
use Rattle.calculus.specs.Catalogue.{all_entries, relation_row, attribute_rows, relation_key, attribute_key}
use Rattle.calculus.specs.Database.{Db}
use Rattle.calculus.specs.Keys.{same_key}
use Rattle.calculus.specs.Rows.{set_of}
use Rattle.plain_base.specs.declared.db_plain.DbPlain.{DbPlain}

-- the database that it is
abbrev pub database_of : DbPlain → Db
database_of b = b.lists

-- if the key is that of `relation`, the rows of it are kept
abbrev pub IsRelationReady : DbPlain → RelKey → Type 0
IsRelationReady b key = IsTrue (same_key key (relation_key b.lists)) → b.kept_relation ≡ Some (set_of (map relation_row (all_entries b.lists)))

-- if the key is that of `attribute`, the rows of it are kept
abbrev pub IsAttributeReady : DbPlain → RelKey → Type 0
IsAttributeReady b key = IsTrue (same_key key (attribute_key b.lists)) → b.kept_attribute ≡ Some (set_of (flat_map attribute_rows (all_entries b.lists)))

-- if the key is that of a catalogue, the rows of it are kept
pub record IsReady (b : DbPlain) (key : RelKey) : Type 0 where
  pub first : IsRelationReady b key
  pub second : IsAttributeReady b key

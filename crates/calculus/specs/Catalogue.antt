-- The two catalogues, `relation` and `attribute`, whose rows say what the database holds.
use Rattle.std.specs.Prelude.{ℕ, pos, Bool, true, false, ◌||◌, List, [], ◌∷◌, ◌++◌, map, length, Option, Some, None, bytes_eq, codes, decimal, flat_map}
use Rattle.std.specs.List.{enumerate_from}
use Rattle.calculus.specs.declared.value.Value.TheVariants.{Int, Text}
use Rattle.calculus.specs.declared.value.Domain.{Domain}
use Rattle.calculus.specs.declared.value.Domain.TheVariants.{I1, I2, I4, C}
use Rattle.calculus.specs.declared.value.Kind.{Kind}
use Rattle.calculus.specs.declared.value.Kind.TheVariants.{Of, Wide}
use Rattle.calculus.specs.declared.query.RelKey.{RelKey}
use Rattle.calculus.specs.declared.schema.Spec.TheVariants.{Heap}
use Rattle.calculus.specs.declared.schema.Attr.{Attr}
use Rattle.calculus.specs.declared.schema.RelInfo.{RelInfo}
use Rattle.calculus.specs.Rows.{Row, set_of}
use Rattle.calculus.specs.Structures.{is_index, spec_text}
use Rattle.calculus.specs.Keys.{key_of, same_key}
use Rattle.calculus.specs.Database.{Db, Relation, entries}

-- a name that only a catalogue has
abbrev pub is_catalogue_name : List ℕ → Bool
is_catalogue_name name = bytes_eq name (codes "relation") || bytes_eq name (codes "attribute")

-- the key of the catalogue `relation`
abbrev pub relation_key : Db → RelKey
relation_key db = key_of db.dba (codes "relation")

-- the key of the catalogue `attribute`
abbrev pub attribute_key : Db → RelKey
attribute_key db = key_of db.dba (codes "attribute")

-- the key is that of a catalogue
abbrev pub is_catalogue : Db → RelKey → Bool
is_catalogue db key = same_key key (relation_key db) || same_key key (attribute_key db)

-- an attribute of this name and domain
abbrev pub attribute : List ℕ → Domain → Attr
attribute name domain = record { name = name; kind = Of domain }

-- the attributes of `relation`: name and owner of an entry, what it is, and how many attributes or key attributes it has
abbrev pub relation_attrs : List Attr
relation_attrs = attribute (codes "relid") (C 12) ∷ attribute (codes "relowner") (C 12) ∷ attribute (codes "relspec") (C 6) ∷ attribute (codes "relatts") I2 ∷ []

-- the attributes of `attribute`: name and owner of an entry, the number of the attribute, its name and its format
abbrev pub attribute_attrs : List Attr
attribute_attrs =
    attribute (codes "attrelid") (C 12) ∷ attribute (codes "attowner") (C 12) ∷ attribute (codes "attid") I2 ∷ attribute (codes "attname") (C 12)
    ∷ attribute (codes "attfrmt") (C 4) ∷ []

-- what is known of `relation` without its rows
abbrev pub relation_info : Db → RelInfo
relation_info db = record { key = relation_key db; spec = Heap; attrs = relation_attrs; keys = [] }

-- what is known of `attribute` without its rows
abbrev pub attribute_info : Db → RelInfo
attribute_info db = record { key = attribute_key db; spec = Heap; attrs = attribute_attrs; keys = [] }

-- every entry: the relations, views and indexes, and the two catalogues
abbrev pub all_entries : Db → List RelInfo
all_entries db = relation_info db ∷ attribute_info db ∷ entries db

-- how many attributes an entry has; of an index, how many key attributes
abbrev pub column_count : RelInfo → ℕ
column_count info = elim (is_index info.spec) [ true ↦ length info.keys | false ↦ length info.attrs ]

-- the row of `relation` for an entry
abbrev pub relation_row : RelInfo → Row
relation_row info = Text info.key.name ∷ Text info.key.owner ∷ Text (spec_text info.spec) ∷ Int (pos (column_count info)) ∷ []

-- the format of a kind's values
abbrev pub format_text : Kind → List ℕ
format_text Wide = codes "i8"
format_text (Of I1) = codes "i1"
format_text (Of I2) = codes "i2"
format_text (Of I4) = codes "i4"
format_text (Of (C width)) = codes "c" ++ decimal width

-- the row of `attribute` for an attribute with this number
abbrev pub attribute_row : RelKey → ℕ → Attr → Row
attribute_row key number attr = Text key.name ∷ Text key.owner ∷ Int (pos number) ∷ Text attr.name ∷ Text (format_text attr.kind) ∷ []

-- the rows of `attribute` for an entry: one for each attribute, numbered from 1; none for an index
abbrev pub attribute_rows : RelInfo → List Row
attribute_rows info = elim (is_index info.spec) [ true ↦ [] | false ↦ rows ]
  where
    rows : List Row
    rows = map (λ p. attribute_row info.key p.0 p.1) (enumerate_from 1 info.attrs)

-- the catalogue under a key, as a relation with its rows
unfoldable pub catalogue_at : Db → RelKey → Option Relation
catalogue_at db key = elim (same_key key (relation_key db)) [
  | true ↦ Some (record { info = relation_info db; rows = set_of (map relation_row (all_entries db)) })
  | false ↦
      elim (same_key key (attribute_key db)) [
        | true ↦ Some (record { info = attribute_info db; rows = set_of (flat_map attribute_rows (all_entries db)) })
        | false ↦ None
      ]
]

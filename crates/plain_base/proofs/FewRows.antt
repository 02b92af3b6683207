-- Few rows stand under a key.
use Rattle.std.proofs.Common.{◌≡◌, refl, ap, ◌∙◌, ◌+◌, ◌*◌, ◌<◌, ◌≤◌, ◌^◌, Bool, true, false, ◌&&◌, nat_le, IsTrue, List, [], ◌∷◌, ◌++◌, length, map, length-append, rules, arith}
use Rattle.std.proofs.lemmas.Grind.{flat_map-append}
use Rattle.std.proofs.lemmas.List.{length-map}
use Rattle.std.proofs.lemmas.List.FromFn.{length-enumerate_from}
use Rattle.std.specs.List.{AllByRecursion, list_all, flat_map, enumerate_from}
use Rattle.std.specs.declared.cmp.Ordering.{Ordering}
use Rattle.std.specs.declared.cmp.Ordering.TheVariants.{Less, Equal, Greater}
use Rattle.calculus.specs.declared.query.RelKey.{RelKey}
use Rattle.calculus.specs.declared.schema.Attr.{Attr}
use Rattle.calculus.specs.declared.schema.RelInfo.{RelInfo}
use Rattle.calculus.specs.Catalogue.{all_entries, relation_row, attribute_row, attribute_rows}
use Rattle.calculus.specs.Database.{Db, Relation, View, Index, entries}
use Rattle.calculus.specs.IsDatabase.{IsDatabase, attrs_stand, valid_index}
use Rattle.calculus.specs.Limits.{most_rows}
use Rattle.calculus.specs.Rows.{Row, put, set_of}
use Rattle.calculus.specs.Stored.{rows_at}
use Rattle.calculus.specs.Structures.{is_index}
use Rattle.calculus.specs.Value.{row_cmp}
use Rattle.plain_base.specs.FoundRows.{under_key}

-- ---- how many rows a set has

length-put : (row : Row) (rows : List Row) → length (put row rows) ≤ length rows + 1
length-put row [] = omega arith
length-put row (first ∷ rest) = go (row_cmp row first) (length-put row rest)
  where
    go : (o : Ordering) → length (put row rest) ≤ length rest + 1
        → length {A = Row} (elim o [ Less ↦ row ∷ first ∷ rest | Equal ↦ first ∷ rest | Greater ↦ first ∷ put row rest ]) ≤ length (first ∷ rest) + 1
    go Less h = omega arith
    go Equal h = omega arith
    go Greater h = omega (arith, h)

length-set_of : (rows : List Row) → length (set_of rows) ≤ length rows
length-set_of [] = omega arith
length-set_of (row ∷ rows) = omega (arith, length-put row (set_of rows), length-set_of rows)

-- ---- how many rows the catalogues have

both : (b c : Bool) → IsTrue (b && c) → IsTrue b × IsTrue c
both true true h = (refl, refl)
both true false h = (refl, h)
both false c h = (h, cc h)

-- each entry has few rows in `attribute`
abbrev IsNarrow : RelInfo → Type 0
IsNarrow info = length (attribute_rows info) ≤ 49

length-numbered : (key : RelKey) (attrs : List Attr) → length (map (λ p. attribute_row key p.0 p.1) (enumerate_from 1 attrs)) ≡ length attrs
length-numbered key attrs = length-map (enumerate_from 1 attrs) _ ∙ length-enumerate_from 1 attrs

narrow_attrs : (attrs : List Attr) → IsTrue (attrs_stand attrs) → length attrs ≤ 49
narrow_attrs attrs h = search (rules, h)

narrow : (info : RelInfo) → IsTrue (attrs_stand info.attrs) → IsNarrow info
narrow info h = go (is_index info.spec)
  where
    rows : List Row
    rows = map (λ p. attribute_row info.key p.0 p.1) (enumerate_from 1 info.attrs)

    few : length rows ≤ 49
    few = omega (arith, length-numbered info.key info.attrs, narrow_attrs info.attrs h)

    go : (b : Bool) → length {A = Row} (elim b as (λ b. List Row) [ true ↦ [] | false ↦ rows ]) ≤ 49
    go true = omega arith
    go false = few

narrow_index : (db : Db) (x : Index) → IsTrue (valid_index db x) → IsNarrow x.info
narrow_index db x h = go (is_index x.info.spec) (both (is_index x.info.spec) _ h).0
  where
    rows : List Row
    rows = map (λ p. attribute_row x.info.key p.0 p.1) (enumerate_from 1 x.info.attrs)

    go : (b : Bool) → IsTrue b → length {A = Row} (elim b as (λ b. List Row) [ true ↦ [] | false ↦ rows ]) ≤ 49
    go true h = omega arith
    go false h = cc h

-- entries of one kind have few rows together
few_of : {X : Type 0} (about : X → RelInfo) (p : X → Bool) → ((x : X) → IsTrue (p x) → IsNarrow (about x)) → (xs : List X) → IsTrue (list_all p xs)
    → length (flat_map attribute_rows (map about xs)) ≤ 49 * length xs
few_of about p each [] h = omega arith
few_of about p each (x ∷ xs) h =
    let parts = both (p x) (list_all p xs) h in
    let one : length (attribute_rows (about x)) ≤ 49 = each x parts.0 in
    let rest = few_of about p each xs parts.1 in
    omega (arith, length-append (attribute_rows (about x)) (flat_map attribute_rows (map about xs)), one, rest)

few_attribute_rows : (db : Db) → IsDatabase db → length (flat_map attribute_rows (all_entries db)) ≤ 9 + 49 * length (entries db)
few_attribute_rows db is =
    let relations = map (λ (r : Relation). r.info) db.relations in
    let views = map (λ (v : View). v.info) db.views in
    let indexes = map (λ (x : Index). x.info) db.indexes in
    let parts : flat_map attribute_rows (entries db) ≡ flat_map attribute_rows relations ++ (flat_map attribute_rows views ++ flat_map attribute_rows indexes)
    = flat_map-append attribute_rows relations (views ++ indexes) ∙ ap (λ rows. flat_map attribute_rows relations ++ rows) (flat_map-append attribute_rows views indexes) in
    let rs = few_of (λ (r : Relation). r.info) (λ r. attrs_stand r.info.attrs) (λ r. narrow r.info) db.relations is.relation_attrs_stand in
    let vs = few_of (λ (v : View). v.info) (λ v. attrs_stand v.info.attrs) (λ v. narrow v.info) db.views is.view_attrs_stand in
    let xs = few_of (λ (x : Index). x.info) (valid_index db) (narrow_index db) db.indexes is.indexes_stand in
    omega (
      arith,
      ap length parts,
      length-append (flat_map attribute_rows relations) (flat_map attribute_rows views ++ flat_map attribute_rows indexes),
      length-append (flat_map attribute_rows views) (flat_map attribute_rows indexes),
      length-append relations (views ++ indexes),
      length-append views indexes,
      length-map db.relations (λ (r : Relation). r.info),
      length-map db.views (λ (v : View). v.info),
      length-map db.indexes (λ (x : Index). x.info),
      rs,
      vs,
      xs,
    )

-- ---- how many rows stand under a key

abbrev AreFew : List Row → Type 0
AreFew rows = length rows < 2 ^ 32

few_stored : (rs : List Relation) → IsTrue (list_all (λ r. nat_le (length r.rows) most_rows) rs) → AllByRecursion (λ (r : Relation). AreFew r.rows) rs
few_stored [] h = tt
few_stored (r ∷ rs) h =
    let parts = both (nat_le (length r.rows) most_rows) _ h in
    let few : length r.rows ≤ 100000 = search (rules, parts.0) in
    (omega (arith, few), few_stored rs parts.1)

pub few : (db : Db) (key : RelKey) → IsDatabase db → length (rows_at db key) < 2 ^ 32
few db key is =
    let entered : length (entries db) ≤ 10000 = search (rules, is.few_entries) in
    let first = map relation_row (all_entries db) in
    let second = flat_map attribute_rows (all_entries db) in
    under_key AreFew db key (few_stored db.relations is.few_rows) (omega arith)
    (omega (arith, entered, length-set_of first, length-map (all_entries db) relation_row))
    (omega (arith, entered, length-set_of second, few_attribute_rows db is))

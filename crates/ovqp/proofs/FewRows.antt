-- A database has few rows under each key.
use Rattle.std.proofs.Common.{◌≡◌, refl, sym, ap, ◌∙◌, subst, ℕ, suc, ◌*◌, ◌≤◌, Bool, true, false, List, [], ◌∷◌, ◌++◌, length, map, Option, Some, None, arith, nat_le}
use Rattle.std.specs.Prelude.{option_map, not}
use Rattle.std.specs.List.{list_all, flat_map, enumerate_from}
use Rattle.std.specs.declared.cmp.Ordering.{Ordering}
use Rattle.std.specs.declared.cmp.Ordering.TheVariants.{Less, Equal, Greater}
use Rattle.std.proofs.Math.ListN.{length-append}
use Rattle.std.proofs.lemmas.Bool.{leb-true}
use Rattle.std.proofs.lemmas.List.{length-map}
use Rattle.std.proofs.lemmas.List.FromFn.{length-enumerate_from}
use Rattle.std.proofs.lemmas.List.Folds.{list_all-append, list_all-map}
use Rattle.calculus.specs.declared.query.RelKey.{RelKey}
use Rattle.calculus.specs.declared.schema.Attr.{Attr}
use Rattle.calculus.specs.declared.schema.RelInfo.{RelInfo}
use Rattle.calculus.specs.Value.{row_cmp}
use Rattle.calculus.specs.Lists.{is_any}
use Rattle.calculus.specs.Structures.{is_index}
use Rattle.calculus.specs.Rows.{Row, put, set_of}
use Rattle.calculus.specs.Keys.{same_key}
use Rattle.calculus.specs.Limits.{most_rows}
use Rattle.calculus.specs.Database.{Db, Relation, View, Index, relation_at, view_at, is_relation, entries}
use Rattle.calculus.specs.Catalogue.{relation_key, attribute_key, all_entries, relation_row, attribute_row, attribute_rows, catalogue_at}
use Rattle.calculus.specs.Stored.{Kept, Viewed, range_at, kept_rows, rows_at}
use Rattle.calculus.specs.IsDatabase.{IsDatabase, attrs_stand, valid_index}
use Rattle.quel_meaning.proofs.DatabaseFacts.{found_passes, stood}
use Rattle.quel_meaning.proofs.Each.{left, right, and}

-- ---- sets are no longer than lists

put_by : Row → Row → List Row → List Row → Ordering → List Row
put_by row first rest more o = elim o [ Less ↦ row ∷ first ∷ rest | Equal ↦ first ∷ rest | Greater ↦ first ∷ more ]

put_short : (row first : Row) (rest more : List Row) (o : Ordering) → length more ≤ suc (length rest) → length (put_by row first rest more o) ≤ suc (suc (length rest))
unfolding put_by
put_short row first rest more Less h = omega arith
put_short row first rest more Equal h = omega arith
put_short row first rest more Greater h = omega (arith, h)

length-put : (row : Row) (rows : List Row) → length (put row rows) ≤ suc (length rows)
unfolding put_by
length-put row [] = omega arith
length-put row (first ∷ rest) = put_short row first rest (put row rest) (row_cmp row first) (length-put row rest)

length-set_of : (rows : List Row) → length (set_of rows) ≤ length rows
length-set_of [] = omega arith
length-set_of (row ∷ rows) = let one = length-put row (set_of rows) in let more = length-set_of rows in omega (arith, one, more)

-- ---- entries have few attributes

-- at most 49 attributes
has_few : RelInfo → Bool
has_few info = nat_le (length info.attrs) 49

-- these rows but for an index
abbrev unless_index : List Row → Bool → List Row
unless_index rows b = elim b [ true ↦ [] | false ↦ rows ]

rows_by_index : (rows : List Row) (n : ℕ) → length rows ≤ n → (b : Bool) → length (unless_index rows b) ≤ n
rows_by_index rows n h true = omega arith
rows_by_index rows n h false = h

-- the rows of `attribute` for an entry are no more than its attributes
described : (info : RelInfo) → length (attribute_rows info) ≤ length info.attrs
described info = rows_by_index rows (length info.attrs) (omega (arith, as_many)) (is_index info.spec)
  where
    rows : List Row
    rows = map (λ p. attribute_row info.key p.0 p.1) (enumerate_from 1 info.attrs)

    as_many : length rows ≡ length info.attrs
    as_many = length-map (enumerate_from 1 info.attrs) (λ p. attribute_row info.key p.0 p.1) ∙ length-enumerate_from 1 info.attrs

all_described : (infos : List RelInfo) → list_all has_few infos ≡ true → length (flat_map attribute_rows infos) ≤ 49 * length infos
unfolding has_few
all_described [] all = omega arith
all_described (info ∷ infos) all =
    let one = described info in
    let few = leb-true (length info.attrs) 49 (left (has_few info) (list_all has_few infos) all) in
    let others = all_described infos (right (has_few info) (list_all has_few infos) all) in
    let joined = length-append (attribute_rows info) (flat_map attribute_rows infos) in
    omega (arith, one, few, others, joined)

weaker : {X : Type 0} (p q : X → Bool) → ((x : X) → p x ≡ true → q x ≡ true) → (xs : List X) → list_all p xs ≡ true → list_all q xs ≡ true
weaker p q f [] all = refl
weaker p q f (x ∷ xs) all = and (q x) (list_all q xs) (f x (left (p x) (list_all p xs) all)) (weaker p q f xs (right (p x) (list_all p xs) all))

stood_few : (info : RelInfo) → attrs_stand info.attrs ≡ true → has_few info ≡ true
unfolding has_few
stood_few info h = (stood info.attrs h).few

none_few : (info : RelInfo) (attrs : List Attr) → attrs ≡ info.attrs → not (is_any attrs) ≡ true → has_few info ≡ true
unfolding has_few
none_few info [] e h = ap (λ attrs. nat_le (length attrs) 49) (sym e)
none_few info (a ∷ attrs) e h = absurd cc

index_few : (db : Db) (x : Index) → valid_index db x ≡ true → has_few x.info ≡ true
index_few db x h = none_few x.info x.info.attrs refl (left (not (is_any x.info.attrs)) _ (right (is_relation db x.base) _ (right (is_index x.info.spec) _ h)))

all_few : (db : Db) → IsDatabase db → list_all has_few (entries db) ≡ true
all_few db is =
    list_all-append has_few (map (λ r. r.info) db.relations) (map (λ v. v.info) db.views ++ map (λ x. x.info) db.indexes)
    ∙ and (list_all has_few (map (λ r. r.info) db.relations)) (list_all has_few (map (λ v. v.info) db.views ++ map (λ x. x.info) db.indexes))
    (list_all-map has_few (λ r. r.info) db.relations ∙ weaker (λ r. attrs_stand r.info.attrs) (λ r. has_few r.info) (λ r. stood_few r.info) db.relations is.relation_attrs_stand)
    (list_all-append has_few (map (λ v. v.info) db.views) (map (λ x. x.info) db.indexes)
    ∙ and (list_all has_few (map (λ v. v.info) db.views)) (list_all has_few (map (λ x. x.info) db.indexes))
    (list_all-map has_few (λ v. v.info) db.views ∙ weaker (λ v. attrs_stand v.info.attrs) (λ v. has_few v.info) (λ v. stood_few v.info) db.views is.view_attrs_stand)
    (list_all-map has_few (λ x. x.info) db.indexes ∙ weaker (valid_index db) (λ x. has_few x.info) (index_few db) db.indexes is.indexes_stand))

-- ---- the rows under a key

catalogue_one : (a b : Bool) (x y c : Relation) → length x.rows ≤ 1000000 → length y.rows ≤ 1000000
    → elim a [ true ↦ Some x | false ↦ elim b [ true ↦ Some y | false ↦ None ] ] ≡ Some c → length c.rows ≤ 1000000
catalogue_one true b x y c h i e = let is : x ≡ c = cc in subst (λ r. length r.rows ≤ 1000000) is h
catalogue_one false true x y c h i e = let is : y ≡ c = cc in subst (λ r. length r.rows ≤ 1000000) is i
catalogue_one false false x y c h i e = absurd cc

relation_catalogue : (db : Db) → IsDatabase db → length (set_of (map relation_row (all_entries db))) ≤ 1000000
relation_catalogue db is =
    let shorter = length-set_of (map relation_row (all_entries db)) in
    let as_many = length-map (all_entries db) relation_row in
    let few = leb-true (length (entries db)) 10000 is.few_entries in
    omega (arith, shorter, as_many, few)

attribute_catalogue : (db : Db) → IsDatabase db → length (set_of (flat_map attribute_rows (all_entries db))) ≤ 1000000
unfolding has_few
attribute_catalogue db is =
    let shorter = length-set_of (flat_map attribute_rows (all_entries db)) in
    let each = all_described (all_entries db) (all_few db is) in
    let few = leb-true (length (entries db)) 10000 is.few_entries in
    omega (arith, shorter, each, few)

catalogue_few : (db : Db) (key : RelKey) (c : Relation) → IsDatabase db → catalogue_at db key ≡ Some c → length c.rows ≤ 1000000
unfolding catalogue_at
catalogue_few db key c is e =
    catalogue_one (same_key key (relation_key db)) (same_key key (attribute_key db)) _ _ c (relation_catalogue db is) (attribute_catalogue db is) e

relation_few : (db : Db) (key : RelKey) (r : Relation) → IsDatabase db → relation_at db key ≡ Some r → length r.rows ≤ 1000000
relation_few db key r is e =
    let few = leb-true (length r.rows) 100000
    (found_passes (λ (x : Relation). same_key x.info.key key) (λ (x : Relation). nat_le (length x.rows) most_rows) db.relations r is.few_rows e) in
    omega (arith, few)

range_few : (r : Option Relation) (v : Option View) (c : Option Relation) → ((x : Relation) → r ≡ Some x → length x.rows ≤ 1000000)
    → ((x : Relation) → c ≡ Some x → length x.rows ≤ 1000000)
    → length (kept_rows (elim r [ Some relation ↦ Some (Kept relation) | None ↦ elim v [ Some view ↦ Some (Viewed view) | None ↦ option_map Kept c ] ])) ≤ 1000000
range_few (Some x) v c few fewer = few x refl
range_few None (Some view) c few fewer = omega arith
range_few None None (Some x) few fewer = fewer x refl
range_few None None None few fewer = omega arith

-- at most 100,000 rows of a relation, and fewer than 1,000,000 of a catalogue
pub few_rows : (db : Db) (key : RelKey) → IsDatabase db → length (rows_at db key) ≤ 1000000
unfolding range_at
few_rows db key is =
    range_few (relation_at db key) (view_at db key) (catalogue_at db key) (λ r. relation_few db key r is) (λ c. catalogue_few db key c is)

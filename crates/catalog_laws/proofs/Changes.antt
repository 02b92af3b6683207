-- A change of a part is the same change of the database, seen in part.
use Rattle.std.proofs.Common.{◌≡◌, refl, sym, ap, subst, ◌∙◌, ℕ, Some, Bool, true, false, not, ◌&&◌, ◌||◌, cond, IsTrue, List, [], ◌∷◌, ◌++◌, map, filter, length}
use Rattle.std.specs.Prelude.{nat_le, ◌+◌, ◌-◌, find, is_some}
use Rattle.std.specs.List.{AllByRecursion, list_all, list_any}
use Rattle.std.specs.declared.cmp.Ordering.{Ordering}
use Rattle.std.specs.declared.cmp.Ordering.TheVariants.{Less, Equal, Greater}
use Rattle.calculus.specs.declared.query.RelKey.{RelKey}
use Rattle.calculus.specs.declared.schema.Spec.{Spec}
use Rattle.calculus.specs.declared.schema.RelInfo.{RelInfo}
use Rattle.calculus.specs.declared.change.DbChange.{DbChange}
use Rattle.calculus.specs.declared.change.DbChange.TheVariants as change
use Rattle.calculus.specs.Change.{IsLawful, laid, change_at, restructured, adds_what_is_new}
use Rattle.calculus.specs.Database.{Db, Relation, is_there}
use Rattle.calculus.specs.IsDatabase.{IsDatabase}
use Rattle.calculus.specs.Keys.{same_key, has_key, key_cmp}
use Rattle.calculus.specs.Limits.{most_rows}
use Rattle.calculus.specs.Lists.{insert_by}
use Rattle.calculus.specs.Replacement.{with_rows, without_rows}
use Rattle.calculus.specs.Rows as rows
use Rattle.calculus.specs.Rows.{Row, set_of}
use Rattle.calculus.specs.Schema.{without_going, going_rows_stand, rows_allow}
use Rattle.quel_meaning.proofs.InOrder.{insert_as, insert-cons}
use Rattle.plan_laws.proofs.Indexes.{is_no}
use Rattle.plan_laws.proofs.NewIndexes.{other_way}
use Rattle.plan_laws.proofs.Orders.{same_key_is, same_key_itself}
use Rattle.schema_laws.proofs.LawfulHalves.{by_schema}
use Rattle.catalog_laws.specs.Loaded.{loaded_part, with_key, known_after, knows_rows, TakesChanges}
use Rattle.catalog_laws.proofs.Part.{part, part_if, part_info, part_known, has_schema}
use Rattle.catalog_laws.proofs.PartRows.{rows_known}
use Rattle.catalog_laws.proofs.Stands.{part_is_database}

-- ---- a lawful change

allowed_alike : (has : RelKey → Bool) (db : Db) (made : DbChange) → knows_rows made has ≡ true → rows_allow (loaded_part has db) made ≡ rows_allow db made
unfolding rows_allow knows_rows
allowed_alike has db (change.Rows rel remove add) k = λ i.
    list_all (rows.has (rows_known has db rel k i)) remove
    && (not (list_any (rows.has (rows_known has db rel k i)) add) && nat_le (length (rows_known has db rel k i) + length add - length remove) most_rows)
allowed_alike has db (change.Create info rows) k = refl
allowed_alike has db (change.Destroy rels) k = refl
allowed_alike has db (change.Modify rel to keys) k = refl
allowed_alike has db (change.Index base name keys) k = refl
allowed_alike has db (change.View info query) k = refl
allowed_alike has db (change.Permit rel permit) k = refl
allowed_alike has db (change.Rule rel rule) k = refl
allowed_alike has db (change.DropPermits rel numbers) k = refl
allowed_alike has db (change.DropRules rel numbers) k = refl

lawful_of_part : (has : RelKey → Bool) (db : Db) (made : DbChange) → IsDatabase db → IsLawful db made → knows_rows made has ≡ true → IsLawful (loaded_part has db) made
lawful_of_part has db made is lawful k =
    let halves = (by_schema db made is).0 lawful in
    (by_schema (loaded_part has db) made (part_is_database has db is)).1 (
      record {
        lawful = subst (λ s. IsLawful s (without_going made)) (sym (has_schema has db)) halves.0.lawful;
        going = subst (λ s. IsTrue (going_rows_stand s made)) (sym (has_schema has db)) halves.0.going;
      },
      allowed_alike has db made k ∙ halves.1,
    )

-- ---- the relations after it

-- one relation is changed, and its rows are known or stay unknown
pub changed_part : (has new : RelKey → Bool) (key : RelKey) (f : Relation → Relation) → ((r : Relation) → same_key r.info.key key ≡ true → f (part has r) ≡ part new (f r))
    → ((r : Relation) → same_key r.info.key key ≡ false → part has r ≡ part new r) → (rs : List Relation) → change_at key f (map (part has) rs) ≡ map (part new) (change_at key f rs)
changed_part has new key f its others [] = refl
changed_part has new key f its others (r ∷ rs) =
    λ i. (ap (λ (info : RelInfo). elim (same_key info.key key) as (λ b. Relation) [ true ↦ f (part has r) | false ↦ part has r ]) (part_info has r) ∙ go (same_key r.info.key key) refl) i
    ∷ changed_part has new key f its others rs i
  where
    go : (b : Bool) → same_key r.info.key key ≡ b → elim b as (λ b. Relation) [ true ↦ f (part has r) | false ↦ part has r ] ≡ part new (elim b as (λ b. Relation) [ true ↦ f r | false ↦ r ])
    go true e = its r e
    go false e = others r e

filtered_part : (has : RelKey → Bool) (test : RelInfo → Bool) (rs : List Relation) → filter (λ r. test r.info) (map (part has) rs) ≡ map (part has) (filter (λ r. test r.info) rs)
filtered_part has test [] = refl
filtered_part has test (r ∷ rs) =
    (λ i. cond (test (part_info has r i)) (part has r ∷ filtered_part has test rs i) (filtered_part has test rs i)) ∙ go (test r.info)
  where
    go : (b : Bool) → cond b (part has r ∷ map (part has) (filter (λ r. test r.info) rs)) (map (part has) (filter (λ r. test r.info) rs))
        ≡ map (part has) (cond b (r ∷ filter (λ r. test r.info) rs) (filter (λ r. test r.info) rs))
    go true = refl
    go false = refl

restructured_part : (has : RelKey → Bool) (to : Spec) (keys : List ℕ) (r : Relation) → restructured to keys (part has r) ≡ part has (restructured to keys r)
restructured_part has to keys r = go (has r.info.key)
  where
    go : (b : Bool) → restructured to keys (part_if b r) ≡ part_if b (restructured to keys r)
    go true = refl
    go false = refl

-- ---- a relation is made

-- none of these relations has the key
abbrev Unlike : RelKey → List Relation → Type 0
Unlike key = AllByRecursion (λ (r : Relation). same_key key r.info.key ≡ false)

none_found : (key : RelKey) (rs : List Relation) (more : List RelInfo) → is_some (find (λ i. same_key i.key key) (map (λ (r : Relation). r.info) rs ++ more)) ≡ false → Unlike key rs
none_found key [] more e = tt
none_found key (r ∷ rs) more e = go (same_key r.info.key key) refl e (none_found key rs more)
  where
    go : (b : Bool) → same_key r.info.key key ≡ b → is_some (cond b (Some r.info) (find (λ i. same_key i.key key) (map (λ (r : Relation). r.info) rs ++ more))) ≡ false
        → (is_some (find (λ i. same_key i.key key) (map (λ (r : Relation). r.info) rs ++ more)) ≡ false → Unlike key rs) → Unlike key (r ∷ rs)
    go true is e later = cc e
    go false is e later = (other_way r.info.key key is, later e)

-- the rows of relations with other keys are known as before
pub other_part : (has : RelKey → Bool) (key : RelKey) (r : Relation) → same_key key r.info.key ≡ false → part has r ≡ part (with_key key has) r
other_part has key r e = ap (λ b. part_if (b || has r.info.key) r) (sym e)

other_parts : (has : RelKey → Bool) (key : RelKey) (rs : List Relation) → Unlike key rs → map (part has) rs ≡ map (part (with_key key has)) rs
other_parts has key [] all = refl
other_parts has key (r ∷ rs) all = λ i. other_part has key r all.0 i ∷ other_parts has key rs all.1 i

-- relations by their keys
abbrev by_key : Relation → Relation → Ordering
by_key a b = key_cmp a.info.key b.info.key

inserted_part : (has : RelKey → Bool) (new : Relation) (rs : List Relation) → Unlike new.info.key rs
    → insert_by by_key new (map (part has) rs) ≡ map (part (with_key new.info.key has)) (insert_by by_key new rs)
inserted_part has new [] all = λ i. itself i ∷ []
  where
    itself : new ≡ part (with_key new.info.key has) new
    itself = ap (λ b. part_if (b || has new.info.key) new) (sym (same_key_itself new.info.key))
inserted_part has new (r ∷ rs) all =
    insert-cons by_key new (part has r) (map (part has) rs) (by_key new r) (ap (λ (i : RelInfo). key_cmp new.info.key i.key) (part_info has r))
    ∙ go (by_key new r) (inserted_part has new rs all.1)
    ∙ ap (map (part (with_key new.info.key has))) (sym (insert-cons by_key new r rs (by_key new r) refl))
  where
    itself : new ≡ part (with_key new.info.key has) new
    itself = ap (λ b. part_if (b || has new.info.key) new) (sym (same_key_itself new.info.key))

    go : (o : Ordering) → insert_by by_key new (map (part has) rs) ≡ map (part (with_key new.info.key has)) (insert_by by_key new rs)
        → insert_as o new (part has r) (map (part has) rs) (insert_by by_key new (map (part has) rs))
        ≡ map (part (with_key new.info.key has)) (insert_as o new r rs (insert_by by_key new rs))
    go Less later = λ i. itself i ∷ (other_part has new.info.key r all.0 i ∷ other_parts has new.info.key rs all.1 i)
    go Equal later = λ i. itself i ∷ other_parts has new.info.key rs all.1 i
    go Greater later = λ i. other_part has new.info.key r all.0 i ∷ later i

-- ---- the database after it

-- rows of a relation whose rows are known
rows_change : (has : RelKey → Bool) (rel : RelKey) (remove add : List Row) (r : Relation) → has rel ≡ true → same_key r.info.key rel ≡ true
    → record (part has r) { rows = with_rows add (without_rows remove (part has r).rows) } ≡ part has (record r { rows = with_rows add (without_rows remove r.rows) })
rows_change has rel remove add r k e =
    let known : has r.info.key ≡ true = ap has (same_key_is r.info.key rel e) ∙ k in
    ap (λ (r : Relation). record r { rows = with_rows add (without_rows remove r.rows) }) (part_known has r known)
    ∙ sym (part_known has (record r { rows = with_rows add (without_rows remove r.rows) }) known)

laid_part : (has : RelKey → Bool) (db : Db) (made : DbChange) → IsDatabase db → IsLawful db made → knows_rows made has ≡ true
    → laid (loaded_part has db) made ≡ loaded_part (known_after made has) (laid db made)
unfolding laid loaded_part known_after knows_rows adds_what_is_new
laid_part has db (change.Rows rel remove add) is l k = λ i. record db {
  relations = changed_part has has rel (λ r. record r { rows = with_rows add (without_rows remove r.rows) }) (λ r e. rows_change has rel remove add r k e) (λ r e. refl) db.relations i;
}
laid_part has db (change.Create info rows) is l k = λ i. record db {
  relations = inserted_part has (record { info = info; rows = set_of rows }) db.relations
      (none_found info.key db.relations (map (λ v. v.info) db.views ++ map (λ x. x.info) db.indexes) (is_no (is_there db info.key) l.additions_are_new)) i;
}
laid_part has db (change.Destroy rels) is l k = λ i. record (laid db (change.Destroy rels)) { relations = filtered_part has (λ info. not (has_key rels info.key)) db.relations i }
laid_part has db (change.Modify rel to keys) is l k = λ i. record (laid db (change.Modify rel to keys)) {
  relations = changed_part has has rel (restructured to keys) (λ r e. restructured_part has to keys r) (λ r e. refl) db.relations i;
}
laid_part has db (change.Index base name keys) is l k = refl
laid_part has db (change.View info query) is l k = refl
laid_part has db (change.Permit rel permit) is l k = refl
laid_part has db (change.Rule rel rule) is l k = refl
laid_part has db (change.DropPermits rel numbers) is l k = refl
laid_part has db (change.DropRules rel numbers) is l k = refl

pub takes_changes : TakesChanges
takes_changes = record { lawful = lawful_of_part; after = laid_part }

-- A relation as a part of a database has it, and what of the database the part has as it is.
use Rattle.std.proofs.Common.{◌≡◌, refl, sym, ap, ◌∙◌, Bool, true, false, cond, List, [], ◌∷◌, map, Some}
use Rattle.std.specs.Prelude.{find, option_map}
use Rattle.calculus.specs.declared.query.RelKey.{RelKey}
use Rattle.calculus.specs.declared.schema.RelInfo.{RelInfo}
use Rattle.calculus.specs.Database.{Db, Relation, relation_at}
use Rattle.calculus.specs.Keys.{same_key}
use Rattle.calculus.specs.Schema.{bare, schema_of}
use Rattle.catalog_laws.specs.Loaded.{loaded_part}

-- the relation, without its rows where these aren't known
abbrev pub part_if : Bool → Relation → Relation
part_if b r = elim b as (λ b. Relation) [ true ↦ r | false ↦ bare r ]

-- the relation as the part has it
abbrev pub part : (RelKey → Bool) → Relation → Relation
part has r = part_if (has r.info.key) r

pub relations_are : (has : RelKey → Bool) (db : Db) → (loaded_part has db).relations ≡ map (part has) db.relations
unfolding loaded_part
relations_are has db = refl

-- what is known of it besides
pub part_info : (has : RelKey → Bool) (r : Relation) → (part has r).info ≡ r.info
part_info has r = go (has r.info.key)
  where
    go : (b : Bool) → (part_if b r).info ≡ r.info
    go true = refl
    go false = refl

-- with rows that are known it is itself, else it has none
pub part_known : (has : RelKey → Bool) (r : Relation) → has r.info.key ≡ true → part has r ≡ r
part_known has r e = ap (λ b. part_if b r) e

pub part_unknown : (has : RelKey → Bool) (r : Relation) → has r.info.key ≡ false → part has r ≡ bare r
part_unknown has r e = ap (λ b. part_if b r) e

bare_part : (has : RelKey → Bool) (r : Relation) → bare (part has r) ≡ bare r
bare_part has r = go (has r.info.key)
  where
    go : (b : Bool) → bare (part_if b r) ≡ bare r
    go true = refl
    go false = refl

bare_parts : (has : RelKey → Bool) (rs : List Relation) → map bare (map (part has) rs) ≡ map bare rs
bare_parts has [] = refl
bare_parts has (r ∷ rs) = λ i. bare_part has r i ∷ bare_parts has rs i

pub has_schema : (has : RelKey → Bool) (db : Db) → schema_of (loaded_part has db) ≡ schema_of db
unfolding loaded_part schema_of
has_schema has db = λ i. record db { relations = bare_parts has db.relations i }

pub starts_bare : (db : Db) → loaded_part (λ key. false) db ≡ schema_of db
unfolding loaded_part schema_of
starts_bare db = refl

-- what doesn't look at rows is the same
pub alike : {X : Type 0} (f : Db → X) → ((d : Db) → f (schema_of d) ≡ f d) → (has : RelKey → Bool) (db : Db) → f (loaded_part has db) ≡ f db
alike f same has db = sym (same (loaded_part has db)) ∙ ap f (has_schema has db) ∙ same db

-- ---- what stands under a key

found_parts : (has : RelKey → Bool) (key : RelKey) (rs : List Relation)
    → find (λ r. same_key r.info.key key) (map (part has) rs) ≡ option_map (part has) (find (λ r. same_key r.info.key key) rs)
found_parts has key [] = refl
found_parts has key (r ∷ rs) =
    ap (λ (i : RelInfo). cond (same_key i.key key) (Some (part has r)) (find (λ r. same_key r.info.key key) (map (part has) rs))) (part_info has r)
    ∙ go (same_key r.info.key key) (found_parts has key rs)
  where
    go : (b : Bool) → find (λ r. same_key r.info.key key) (map (part has) rs) ≡ option_map (part has) (find (λ r. same_key r.info.key key) rs)
        → cond b (Some (part has r)) (find (λ r. same_key r.info.key key) (map (part has) rs)) ≡ option_map (part has) (cond b (Some r) (find (λ r. same_key r.info.key key) rs))
    go true later = refl
    go false later = later

pub relation_part : (has : RelKey → Bool) (db : Db) (key : RelKey) → relation_at (loaded_part has db) key ≡ option_map (part has) (relation_at db key)
unfolding loaded_part
relation_part has db key = found_parts has key db.relations

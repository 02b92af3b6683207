-- A catalogue that spells a database has the parts of its schema.
use Rattle.std.proofs.Common.{◌≡◌, refl, sym, ap, ap₂, ◌∙◌, ℕ, ◌==◌, ◌&&◌, List, [], ◌∷◌, map, length, Option, Some, option_map}
use Rattle.std.proofs.lemmas.List.{length-map}
use Rattle.std.proofs.lemmas.Option.{same_Some}
use Rattle.std.specs.declared.cmp.Ordering.{Ordering}
use Rattle.calculus.specs.Database.{Relation}
use Rattle.calculus.specs.Keys.{key_cmp}
use Rattle.calculus.specs.Schema.{bare, schema_of}
use Rattle.calculus.specs.Structures.{is_structure, is_view, is_index}
use Rattle.calculus.specs.declared.schema.RelInfo.{RelInfo}
use Rattle.page_chain.specs.Lists.{◌>>=◌, when, check, each, in_order, once}
use Rattle.page_chain.specs.Pages.{Pages}
use Rattle.page_chain.specs.Rows.{set_on, reader}
use Rattle.stored_database.specs.Catalogue.{Catalogue}
use Rattle.stored_database.specs.Entries.{Entry}
use Rattle.stored_database.specs.Parts.{of_rule, of_permit}
use Rattle.stored_database.specs.Spelled.{attrs_of, info_of, domain_of, relation_of, relations_of, index_of, indexes_of, view_of, views_of, numbered_of, rules_of, permits_of, columns_stand, parts_stand, entries_that, spelled}
use Rattle.stored_database.specs.Trees.{rule_of, permit_of, firsts}
use Rattle.stored_database.proofs.InOrder.{in_order_map}
use Rattle.stored_database.proofs.Members.{each_parts}
use Rattle.stored_database.proofs.Reading.{bind_some, when_some}
use Rattle.catalog_read.specs.Parts.{relation_in, whole}
use Rattle.catalog_read.specs.Laws.{SpellsItsSchema}
use Rattle.catalog_read.specs.Read.{relation_info, parts_of}

-- what is read of each is read another way
each_other : {A B C : Type 0} (f : A → Option B) (g : A → Option C) (h : B → C) → ((x : A) (y : B) → f x ≡ Some y → g x ≡ Some (h y)) → (xs : List A) (ys : List B) → each f xs ≡ Some ys → each g xs ≡ Some (map h ys)
each_other f g h one [] ys e = ap (λ l. Some (map h l)) (same_Some [] ys e)
each_other {A} {B} {C} f g h one (x ∷ xs) ys e =
    let p = each_parts f x xs ys e in
    ap₂ (λ (o : Option C) (l : Option (List C)). o >>= (λ y. option_map (λ ys. y ∷ ys) l)) (one x p.0 p.2) (each_other f g h one xs p.1 p.3)
    ∙ ap (λ l. Some (map h l)) (sym p.4)

-- items that are there once are there once where all are mapped and their order stays
once_mapped : {A B : Type 0} (cmp : B → B → Ordering) (h : A → B) (xs ys : List A) → once (λ a b. cmp (h a) (h b)) xs ≡ Some ys → once cmp (map h xs) ≡ Some (map h ys)
once_mapped {A} {B} cmp h xs ys e =
    let own : List A = in_order (λ a b. cmp (h a) (h b)) xs in
    let w = when_some (length own == length xs) own ys e in
    ap (λ (l : List B). when (length l == length (map h xs)) l) (in_order_map cmp h xs)
    ∙ (λ i. when (length-map own h i == length-map xs h i) (map h own))
    ∙ ap₂ (λ b (l : List A). when b (map h l)) w.0 w.1

map_map : {A B C : Type 0} (f : A → B) (g : B → C) (xs : List A) → map g (map f xs) ≡ map (λ x. g (f x)) xs
map_map f g [] = refl
map_map f g (x ∷ xs) = ap (λ l. g (f x) ∷ l) (map_map f g xs)

-- what is known of a relation is what is known without its rows
known : (files : ℕ → Pages) (cat : Catalogue) (e : Entry) (r : Relation) → relation_of files cat e ≡ Some r → relation_info cat e ≡ Some r.info
unfolding relation_of relation_info
known files cat e r h =
    let a = bind_some (attrs_of cat e.file) _ r h in
    let d = bind_some (each domain_of a.0) _ r a.2 in
    let s = bind_some (set_on (reader d.0) e.used (files e.file)) _ r d.2 in
    let is : record { info = info_of e a.0; rows = s.0 } ≡ r = same_Some _ r s.2 in
    ap (option_map (info_of e)) a.1 ∙ ap (λ (r : Relation). Some r.info) is

-- the order of relations
abbrev by_key : Relation → Relation → Ordering
by_key a b = key_cmp a.info.key b.info.key

pub spells_its_schema : SpellsItsSchema
unfolding spelled relations_of indexes_of views_of rules_of permits_of parts_of whole schema_of
spells_its_schema dba files cat db h =
    let s = bind_some (check (columns_stand cat && parts_stand cat)) _ db h in
    let r = bind_some (relations_of files cat) _ db s.2 in
    let x = bind_some (indexes_of cat) _ db r.2 in
    let v = bind_some (views_of cat) _ db x.2 in
    let u = bind_some (rules_of cat) _ db v.2 in
    let p = bind_some (permits_of cat) _ db u.2 in
    let rs = bind_some (each (relation_of files cat) (entries_that is_structure cat)) (once by_key) r.0 r.1 in
    let xs = bind_some (each (index_of cat) (entries_that is_index cat)) _ x.0 x.1 in
    let vs = bind_some (each (view_of cat) (entries_that is_view cat)) _ v.0 v.1 in
    let us = bind_some (each (numbered_of rule_of (λ r. r.number) cat) (firsts of_rule cat.parts)) _ u.0 u.1 in
    let ps = bind_some (each (numbered_of permit_of (λ p. p.number) cat) (firsts of_permit cat.parts)) _ p.0 p.1 in
    let is : record { dba = dba; relations = r.0; indexes = x.0; views = v.0; rules = u.0; permits = p.0 } ≡ db = same_Some _ db p.2 in
    let infos : List RelInfo = map (λ (r : Relation). r.info) rs.0 in
    let known_all : each (relation_info cat) (entries_that is_structure cat) ≡ Some infos = each_other (relation_of files cat) (relation_info cat) (λ (r : Relation). r.info) (known files cat) (entries_that is_structure cat) rs.0 rs.1 in
    let bare_all : once by_key (map relation_in infos) ≡ Some (map bare r.0) = ap (once by_key) (map_map (λ (r : Relation). r.info) relation_in rs.0) ∙ once_mapped by_key bare rs.0 r.0 rs.2 in
    record {
      parts = record { relations = infos; indexes = xs.0; views = vs.0; rules = us.0; permits = ps.0 };
      are = λ i. s.1 i >>= (λ sound. known_all i >>= (λ relations. xs.1 i >>= (λ indexes. vs.1 i >>= (λ views. us.1 i >>= (λ rules. ps.1 i >>= (λ permits. Some (record { relations = relations; indexes = indexes; views = views; rules = rules; permits = permits })))))));
      make =
          (λ i. bare_all i >>= (λ relations. xs.2 i >>= (λ indexes. vs.2 i >>= (λ views. us.2 i >>= (λ rules. ps.2 i >>= (λ permits. Some (record { dba = dba; relations = relations; indexes = indexes; views = views; rules = rules; permits = permits })))))))
          ∙ ap (λ d. Some (schema_of d)) is;
    }

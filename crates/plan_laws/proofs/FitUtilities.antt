-- A utility that is fit has what the laws on plans ask of it.
use Rattle.std.proofs.Common.{◌≡◌, refl, sym, ap, ◌∙◌, subst, ℕ, nat_le, nat_lt, Bool, true, false, ◌&&◌, ◌||◌, not, IsTrue, List, [], ◌∷◌, Option, Some, None, map, length, arith}
use Rattle.std.specs.Prelude.{is_some, option_map, Ok}
use Rattle.std.specs.List.{list_all}
use Rattle.std.proofs.lemmas.Bool.Decides.{nat_tests}
use Rattle.calculus.specs.declared.query.RelKey.{RelKey}
use Rattle.calculus.specs.declared.query.Query.{Query}
use Rattle.calculus.specs.declared.schema.Attr.{Attr}
use Rattle.calculus.specs.declared.schema.Permit.{Permit}
use Rattle.calculus.specs.declared.schema.Rule.{Rule}
use Rattle.calculus.specs.declared.schema.RelInfo.{RelInfo}
use Rattle.calculus.specs.declared.schema.Spec.{Spec}
use Rattle.calculus.specs.declared.request.Utility.{Utility}
use Rattle.calculus.specs.declared.request.Utility.TheVariants as utility
use Rattle.calculus.specs.declared.request.CopyCol.{CopyCol}
use Rattle.calculus.specs.declared.request.Checked.TheVariants as checked
use Rattle.calculus.specs.declared.change.DbChange.{DbChange}
use Rattle.calculus.specs.Change.{IsLawful}
use Rattle.calculus.specs.Database.{Db, relation_at, is_relation, entries, is_there}
use Rattle.calculus.specs.IsDatabase.{IsDatabase, key_is_named, attrs_stand, are_stored, keys_stand, vars_are_there, valid_query, valid_row_qual, permit_attrs_stand, user_is_named}
use Rattle.calculus.specs.Catalogue.{is_catalogue, is_catalogue_name}
use Rattle.calculus.specs.Keys.{key_of, same_key}
use Rattle.calculus.specs.Limits.{most_entries, most_levels, most_variables, most_expanded_variables, greatest_size, most_listed_attributes}
use Rattle.calculus.specs.Lists.{is_any, differ_by}
use Rattle.calculus.specs.Name.{is_name}
use Rattle.calculus.specs.QueryParts.{targets_of}
use Rattle.calculus.specs.Rights.{are_rights}
use Rattle.calculus.specs.Sizes.{variables, expanded_variables, query_size, query_level}
use Rattle.calculus.specs.Spelled.{qual_is_spelled, query_is_spelled}
use Rattle.calculus.specs.Storable.{row_qual_is_small}
use Rattle.calculus.specs.Stored.{Range, range_at, range_info, info_at, attrs_at}
use Rattle.calculus.specs.Structures.{is_structure}
use Rattle.calculus.specs.TreeLevels.{query_levels}
use Rattle.quel_meaning.specs.Copying.{copied_from}
use Rattle.quel_meaning.specs.Fit.{is_new, is_entry, columns_fit, view_fits, row_qual_fits, listed_attrs_fit, utility_fits, suits, fits}
use Rattle.quel_meaning.specs.FitQueries.{Allowed, can_be_ranged_over, lists_few_vars}
use Rattle.quel_meaning.specs.Passing.{is_full, is_taken, is_too_high, is_too_large}
use Rattle.quel_meaning.specs.Planned.{planned, plan_refusals, target_attr}
use Rattle.fault_io.specs.Files.{Files}
use Rattle.quel_meaning.specs.SpelledTree.{key_is_spelled, permit_is_spelled, utility_is_spelled, tree_is_spelled}
use Rattle.plan_laws.specs.Fitting.{is_ranged, is_copy, IsFitPermit, IsFitRule, IsFitStructure, IsFitIndex, IsFitRelation, IsFitView}
use Rattle.plan_laws.proofs.CopiedRows.{copy_lawful}
use Rattle.plan_laws.proofs.Created.{nothing_stands, each_true, created_planned}
use Rattle.plan_laws.proofs.Destroyed.{destroyed_planned}
use Rattle.plan_laws.proofs.Indexes.{is_no, all-map}
use Rattle.plan_laws.proofs.Kept.{both, each}
use Rattle.plan_laws.proofs.Levels.{below_the_greatest}
use Rattle.plan_laws.proofs.NewIndexes.{index_planned, all-append}
use Rattle.plan_laws.proofs.Planned.{neither, all_absent, not_refused, base_relation, owner_is}
use Rattle.plan_laws.proofs.Plans.{permit_planned, rule_planned, dropped_permits_planned, dropped_rules_planned}
use Rattle.plan_laws.proofs.Restructured.{structure_planned}
use Rattle.plan_laws.proofs.Tests.{has_room, there_is, found_has, key_found}
use Rattle.plan_laws.proofs.ViewMade.{view_planned}

-- ---- what is there

-- what is named is something to range over
pub named_is_ranged : (db : Db) (key : RelKey) → IsTrue (can_be_ranged_over db key) → IsTrue (is_ranged db key)
unfolding info_at
named_is_ranged db key t = go (range_at db key) t
  where
    go : (r : Option Range) → IsTrue (is_some (option_map range_info r)) → IsTrue (is_some r)
    go None t = t
    go (Some r) t = refl

-- an entry is a relation, view, index or catalogue
entry_stands : (db : Db) (key : RelKey) → IsTrue (is_entry db key) → IsTrue (is_there db key || is_catalogue db key)
entry_stands db key t = go (is_there db key) refl (is_catalogue db key) refl t
  where
    go : (a : Bool) → is_there db key ≡ a → (b : Bool) → is_catalogue db key ≡ b → IsTrue (a || can_be_ranged_over db key) → IsTrue (a || b)
    go true e b f t = refl
    go false e true f t = refl
    go false e false f t =
        let nothing : is_some (range_at db key) ≡ false = ap is_some (nothing_stands db key e f) in
        sym nothing ∙ named_is_ranged db key t

entries_stand : (db : Db) (keys : List RelKey) → IsTrue (list_all (is_entry db) keys) → IsTrue (list_all (λ key. is_there db key || is_catalogue db key) keys)
entries_stand db [] t = refl
entries_stand db (key ∷ keys) t =
    let parts = both (is_entry db key) (list_all (is_entry db) keys) t in
    each (is_there db key || is_catalogue db key) _ (entry_stands db key parts.0) (entries_stand db keys parts.1)

-- the owner of a base relation has a name
owner_named : (db : Db) (key : RelKey) → IsDatabase db → is_relation db key ≡ true → IsTrue (is_name key.owner)
owner_named db key is there = there_is (relation_at db key) there λ r found.
    let all = both (list_all named (map (λ r. r.info) db.relations)) _ (sym (all-append named (map (λ r. r.info) db.relations) _) ∙ is.keys_are_named) in
    let own = found_has (λ r. IsTrue (key_is_named r.info.key)) (λ r. same_key r.info.key key) db.relations r
    (each_true (λ r. key_is_named r.info.key) db.relations (sym (all-map named (λ r. r.info) db.relations) ∙ all.0)) found in
    subst (λ k. IsTrue (is_name k.owner)) (key_found key db.relations r found) (both (is_name r.info.key.owner) _ own).0
  where
    named : RelInfo → Bool
    named i = key_is_named i.key

-- ---- a new key

-- the key is named and no catalogue's, nothing has it, and there is room for one more entry
pub record IsFree (db : Db) (key : RelKey) : Type 0 where
  pub named : IsTrue (key_is_named key)
  pub unused : is_there db key ≡ false
  pub room : IsTrue (nat_lt (length (entries db)) most_entries)

-- a key of names is free where it is new
pub new_is_free : (db : Db) (key : RelKey) → IsTrue (key_is_spelled key) → IsTrue (is_new db key.owner key.name) → IsFree db key
unfolding is_taken
new_is_free db key spelled new =
    let names = both (is_name key.owner) (is_name key.name) spelled in
    let parts = both (not (is_taken db key.owner key.name)) (not (is_full db)) new in
    let taken = neither (is_there db key) (is_catalogue_name key.name) (is_no (is_taken db key.owner key.name) parts.0) in
    record { named = each _ _ names.0 (each _ _ names.1 (ap not taken.1)); unused = taken.0; room = has_room db parts.1 }

-- ---- each premise

pub fit_relation : (db : Db) (rel : RelKey) (attrs : List Attr) → IsTrue (key_is_spelled rel) → IsTrue (is_new db rel.owner rel.name && (attrs_stand attrs && are_stored attrs)) → IsFitRelation db rel attrs
fit_relation db rel attrs spelled fits =
    let new = both (is_new db rel.owner rel.name) (attrs_stand attrs && are_stored attrs) fits in
    let stand = both (attrs_stand attrs) (are_stored attrs) new.1 in
    let free = new_is_free db rel spelled new.0 in
    record { named = free.named; unused = free.unused; attributes = stand.0; domains = stand.1; room = free.room }

pub fit_structure : (db : Db) (rel : RelKey) (to : Spec) (keys : List ℕ) → IsTrue (can_be_ranged_over db rel && (is_structure to && keys_stand (attrs_at db rel) keys)) → IsFitStructure db rel to keys
fit_structure db rel to keys fits =
    let named = both (can_be_ranged_over db rel) (is_structure to && keys_stand (attrs_at db rel) keys) fits in
    let stands = both (is_structure to) (keys_stand (attrs_at db rel) keys) named.1 in
    record { there = named_is_ranged db rel named.0; structure = stands.0; places = stands.1 }

-- the name of an index is one of the user's, who owns the relation where nothing refuses it
pub fit_index : (db : Db) (user : List ℕ) (base : RelKey) (name keys : List ℕ) (made : DbChange) → IsDatabase db → IsTrue (is_name name)
    → IsTrue (can_be_ranged_over db base && (is_new db user name && (is_any keys && keys_stand (attrs_at db base) keys))) → planned db user (utility.Index base name keys) ≡ Ok made → IsFitIndex db base name keys
unfolding plan_refusals
fit_index db user base name keys made is spelled fits e =
    let named = both (can_be_ranged_over db base) (is_new db user name && (is_any keys && keys_stand (attrs_at db base) keys)) fits in
    let new = both (is_new db user name) (is_any keys && keys_stand (attrs_at db base) keys) named.1 in
    let stands = both (is_any keys) (keys_stand (attrs_at db base) keys) new.1 in
    let there = named_is_ranged db base named.0 in
    let absent = all_absent (plan_refusals db user (utility.Index base name keys)) (not_refused db user (utility.Index base name keys) made e).0 in
    let owner = owner_named db base is (base_relation db base there absent.0 absent.1.0) in
    let own : IsTrue (is_new db base.owner name) = subst (λ user. IsTrue (is_new db user name)) (sym (owner_is user base absent.1.1.0)) new.0 in
    let free = new_is_free db (key_of base.owner name) (each _ _ owner spelled) own in
    record { there = there; some = stands.0; places = stands.1; named = free.named; unused = free.unused; room = free.room }

pub fit_view : (db : Db) (rel : RelKey) (q : Query) → IsTrue (key_is_spelled rel && query_is_spelled q) → IsTrue (is_new db rel.owner rel.name && view_fits db q) → IsFitView db rel q
unfolding view_fits is_too_large
fit_view db rel q spelled fits =
    let constants = both (key_is_spelled rel) (query_is_spelled q) spelled in
    let new = both (is_new db rel.owner rel.name) (view_fits db q) fits in
    let vars = both (vars_are_there db q) _ new.1 in
    let stands = both (valid_query db q) _ vars.1 in
    let attributes = both (attrs_stand (map target_attr (targets_of q))) _ stands.1 in
    let listed = both (lists_few_vars q) _ attributes.1 in
    let few = both (nat_le (variables q) most_variables) _ listed.1 in
    let expanded = both (nat_le (expanded_variables db q) most_expanded_variables) (not (is_too_large db q)) few.1 in
    let size = neither (nat_lt greatest_size (query_size db q)) (is_too_high (query_level db q) || nat_lt most_levels (query_levels q)) (is_no (is_too_large db q) expanded.1) in
    let deep = neither (is_too_high (query_level db q)) (nat_lt most_levels (query_levels q)) size.1 in
    let free = new_is_free db rel constants.0 new.0 in
    record {
      named = free.named;
      unused = free.unused;
      room = free.room;
      attributes = attributes.0;
      vars = vars.0;
      levels = below_the_greatest db q (ap not deep.0);
      stands = stands.0;
      few_listed = listed.0;
      few = few.0;
      few_expanded = expanded.0;
      small = no_more (query_size db q) greatest_size size.0;
      storable = each _ _ (no_more (query_levels q) most_levels deep.1) constants.1;
    }
  where
    no_more : (m n : ℕ) → nat_lt n m ≡ false → IsTrue (nat_le m n)
    no_more m n h = grind (arith, nat_tests, h)

pub fit_permit : (db : Db) (rel : RelKey) (permit : Permit) → IsTrue (permit_is_spelled permit) → IsTrue (row_qual_fits db rel permit.qual && listed_attrs_fit db rel permit) → IsFitPermit db rel permit
fit_permit db rel permit spelled fits =
    let user = both (user_is_named permit.user) (are_rights permit.ops && qual_is_spelled permit.qual) spelled in
    let rights = both (are_rights permit.ops) (qual_is_spelled permit.qual) user.1 in
    let parts = both (row_qual_fits db rel permit.qual) (listed_attrs_fit db rel permit) fits in
    let named = both (can_be_ranged_over db rel) (valid_row_qual db rel permit.qual && row_qual_is_small permit.qual) parts.0 in
    let qual = both (valid_row_qual db rel permit.qual) (row_qual_is_small permit.qual) named.1 in
    let attrs = both (permit_attrs_stand db rel permit.attrs) (nat_le (length permit.attrs) most_listed_attributes) parts.1 in
    record { there = named_is_ranged db rel named.0; user = user.0; attrs = attrs.0; lists = each _ _ attrs.1 rights.0; qual = qual.0; storable = each _ _ qual.1 rights.1 }

pub fit_rule : (db : Db) (rel : RelKey) (rule : Rule) → IsTrue (qual_is_spelled rule.qual) → IsTrue (row_qual_fits db rel rule.qual) → IsFitRule db rel rule
fit_rule db rel rule spelled fits =
    let named = both (can_be_ranged_over db rel) (valid_row_qual db rel rule.qual && row_qual_is_small rule.qual) fits in
    let qual = both (valid_row_qual db rel rule.qual) (row_qual_is_small rule.qual) named.1 in
    record { there = named_is_ranged db rel named.0; qual = qual.0; storable = each _ _ qual.1 spelled }

-- ---- every utility

pub fit_plan_lawful : (db : Db) (user : List ℕ) (work : Utility) (change : DbChange) → IsDatabase db → IsTrue (utility_is_spelled work) → IsTrue (utility_fits db user work) → is_copy work ≡ false
    → planned db user work ≡ Ok change → IsLawful db change
unfolding utility_is_spelled utility_fits
fit_plan_lawful db user (utility.Create rel attrs) change is spelled fits plan e = created_planned db user rel attrs change is (fit_relation db rel attrs spelled fits) e
fit_plan_lawful db user (utility.Destroy rels) change is spelled fits plan e =
    let parts = both (list_all (is_entry db) rels) (differ_by same_key rels) fits in
    destroyed_planned db user rels change is (entries_stand db rels parts.0) parts.1 e
fit_plan_lawful db user (utility.Modify rel to keys) change is spelled fits plan e = structure_planned db user rel to keys change is (fit_structure db rel to keys fits) e
fit_plan_lawful db user (utility.Index base name keys) change is spelled fits plan e = index_planned db user base name keys change is (fit_index db user base name keys change is spelled fits e) e
fit_plan_lawful db user (utility.Copy rel columns from file) change is spelled fits plan e = cc plan
fit_plan_lawful db user (utility.View rel q) change is spelled fits plan e = view_planned db user rel q change is (fit_view db rel q spelled fits) e
fit_plan_lawful db user (utility.Permit rel permit) change is spelled fits plan e = permit_planned db user rel permit change is (fit_permit db rel permit spelled fits) e
fit_plan_lawful db user (utility.Rule rel rule) change is spelled fits plan e = rule_planned db user rel rule change is (fit_rule db rel rule spelled fits) e
fit_plan_lawful db user (utility.DropPermits rel numbers) change is spelled fits plan e = dropped_permits_planned db user rel numbers change is (named_is_ranged db rel fits) e
fit_plan_lawful db user (utility.DropRules rel numbers) change is spelled fits plan e = dropped_rules_planned db user rel numbers change is (named_is_ranged db rel fits) e

-- ---- fit trees

-- a tree that is fit is spelled and suits
utility_parts : (may : Allowed) (db : Db) (user : List ℕ) (work : Utility) → fits may db user (checked.Utility work) ≡ true → IsTrue (utility_is_spelled work) × IsTrue (utility_fits db user work)
unfolding fits tree_is_spelled suits
utility_parts may db user work h = both (utility_is_spelled work) (utility_fits db user work) h

pub fitting_plan_lawful : (may : Allowed) (db : Db) (user : List ℕ) (work : Utility) (change : DbChange) → IsDatabase db → fits may db user (checked.Utility work) ≡ true → is_copy work ≡ false
    → planned db user work ≡ Ok change → IsLawful db change
fitting_plan_lawful may db user work change is fit plan e = let parts = utility_parts may db user work fit in fit_plan_lawful db user work change is parts.0 parts.1 plan e

pub fitting_copy_lawful : (may : Allowed) (db : Db) (shelf : Files) (user : List ℕ) (rel : RelKey) (columns : List CopyCol) (constant : List ℕ) (change : DbChange) → IsDatabase db
    → fits may db user (checked.Utility (utility.Copy rel columns true constant)) ≡ true → copied_from db shelf user rel columns constant ≡ Ok change → IsLawful db change
unfolding utility_fits
fitting_copy_lawful may db shelf user rel columns constant change is fit e =
    let parts = utility_parts may db user (utility.Copy rel columns true constant) fit in
    copy_lawful db shelf user rel columns constant change is (named_is_ranged db rel (both (can_be_ranged_over db rel) (columns_fit db rel columns) parts.1).0) e

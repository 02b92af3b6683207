-- What a resolved statement asks of the utilities is fit.
use Rattle.std.proofs.Common.{◌≡◌, refl, sym, ap, ◌∙◌, subst, ℕ, nat_lt, nat_le, Bool, true, false, ◌||◌, List, [], ◌∷◌, map, length, Option, Some, None, is_some, arith}
use Rattle.std.specs.List.{filter_map, cons_option}
use Rattle.std.specs.Option.{option_map}
use Rattle.std.specs.Str.{bytes_eq}
use Rattle.std.proofs.lemmas.Bool.{lt-ltb}
use Rattle.std.proofs.lemmas.List.{length-map}
use Rattle.calculus.specs.declared.query.RelKey.{RelKey}
use Rattle.calculus.specs.declared.schema.Attr.{Attr}
use Rattle.calculus.specs.declared.schema.RelInfo.{RelInfo}
use Rattle.calculus.specs.declared.schema.Spec.{Spec}
use Rattle.calculus.specs.declared.schema.Spec.TheVariants as spec
use Rattle.calculus.specs.declared.statement.Statement.TheVariants as statement
use Rattle.calculus.specs.Database.{Db, entries, entry_at, is_there}
use Rattle.calculus.specs.IsDatabase.{IsDatabase, keys_stand}
use Rattle.calculus.specs.Keys.{key_of, same_key}
use Rattle.calculus.specs.Limits.{most_keys}
use Rattle.calculus.specs.Lists.{is_any, differ_by}
use Rattle.calculus.specs.Name.{is_name}
use Rattle.calculus.specs.Replacement.{first_refusal}
use Rattle.calculus.specs.Stored.{info_at, attrs_in, attrs_at}
use Rattle.quel_meaning.specs.Structures.{structure_keys, first_or_these}
use Rattle.quel_meaning.specs.Scope.{Scope, named, entry_named, key_found, place_found}
use Rattle.quel_meaning.specs.Naming.{Relation, AttrIn, mentions, no_refusal, name_refusal}
use Rattle.quel_meaning.specs.Passing.{is_full, is_taken}
use Rattle.quel_meaning.specs.Causes.{repeats, repeats_keys, refusals}
use Rattle.quel_meaning.specs.Resolved.{tree_of}
use Rattle.quel_meaning.specs.FitQueries.{kept_or_viewed, can_be_ranged_over}
use Rattle.quel_meaning.specs.Fit.{is_entry, utility_fits, suits}
use Rattle.calculus.specs.Structures.{is_structure}
use Rattle.quel_meaning.specs.IsWritten.{is_written}
use Rattle.quel_meaning.proofs.Each.{Each, of_map, each_to, passed, left, right, and, not_not, not_so}
use Rattle.quel_meaning.proofs.Keys.{find_passes, same_keys, found_again}
use Rattle.quel_meaning.proofs.Found.{IsFound, IsNamed, names_found, named_with, named_again}
use Rattle.quel_meaning.proofs.DatabaseFacts.{info_stands}
use Rattle.quel_meaning.proofs.Titles.{HasAttr, titled_in, places_in_range, places_differ}
use Rattle.quel_meaning.proofs.ReadsFit.{none_of}

-- ---- names

pub named_is : (s : Scope) (rel : List ℕ) → IsNamed s rel → can_be_ranged_over s.db (key_found (named s rel)) ≡ true
named_is s rel r = ap (λ o. can_be_ranged_over s.db (key_found o)) r.is ∙ ap is_some (named_again s rel r)

pub by_name : (s : Scope) (rel : List ℕ) → IsFound s (Relation rel) → IsNamed s rel
by_name s rel h = named_with s no_refusal rel h

-- attributes that are named behind a relation are its
pub attrs_there : (s : Scope) (rel : List ℕ) (r : IsNamed s rel) (names : List (List ℕ)) → Each (IsFound s) (map (AttrIn rel) names) → Each (HasAttr r.info) names
attrs_there s rel r names h = each_to _ _ (λ a k. titled_in s rel r.info r.is a (k, tt)) names (of_map _ (AttrIn rel) names h)

-- ---- entries

is_or : (b c : Bool) → b ≡ true → (b || c) ≡ true
is_or b c h = rw h refl

or_is : (b c : Bool) → c ≡ true → (b || c) ≡ true
or_is true c h = refl
or_is false c h = h

entry_again : (db : Db) (key : RelKey) (i : RelInfo) → entry_at db key ≡ Some i → is_there db i.key ≡ true
entry_again db key i h = ap (λ k. is_some (entry_at db k)) (same_keys i.key key (find_passes (λ (x : RelInfo). same_key x.key key) (entries db) i h)) ∙ ap is_some h

entry_is : (s : Scope) (name : List ℕ) (key : RelKey) → entry_named s name ≡ Some key → is_entry s.db key ≡ true
unfolding entry_named
entry_is s name key h = own (entry_at s.db (key_of s.user name)) refl h
  where
    there : (i : RelInfo) (at : RelKey) → entry_at s.db at ≡ Some i → i.key ≡ key → is_entry s.db key ≡ true
    there i at e f = is_or _ _ (subst (λ k. is_there s.db k ≡ true) f (entry_again s.db at i e))

    catalogue : (o : Option RelInfo) → info_at s.db (key_of s.db.dba name) ≡ o → option_map (λ (i : RelInfo). i.key) o ≡ Some key → is_entry s.db key ≡ true
    catalogue None e k = absurd (cc k)
    catalogue (Some i) e k = or_is _ _ (let same : i.key ≡ key = cc k in subst (λ k. can_be_ranged_over s.db k ≡ true) same (ap is_some (found_again s.db _ i e)))

    other : (o : Option RelInfo) → entry_at s.db (key_of s.db.dba name) ≡ o
        → ◌≡◌ {A = Option RelKey} (elim o [ Some other ↦ Some other.key | None ↦ option_map (λ catalogue. catalogue.key) (info_at s.db (key_of s.db.dba name)) ]) (Some key) → is_entry s.db key ≡ true
    other None e k = catalogue (info_at s.db (key_of s.db.dba name)) refl k
    other (Some i) e k = there i (key_of s.db.dba name) e (cc k)

    own : (o : Option RelInfo) → entry_at s.db (key_of s.user name) ≡ o
        → ◌≡◌ {A = Option RelKey} (elim o [
          | Some own ↦ Some own.key
          | None ↦ elim (entry_at s.db (key_of s.db.dba name)) [ Some other ↦ Some other.key | None ↦ option_map (λ catalogue. catalogue.key) (info_at s.db (key_of s.db.dba name)) ]
        ]) (Some key) → is_entry s.db key ≡ true
    own None e k = other (entry_at s.db (key_of s.db.dba name)) refl k
    own (Some i) e k = there i (key_of s.user name) e (cc k)

entries_are : (s : Scope) (names : List (List ℕ)) → Each (λ key. is_entry s.db key ≡ true) (filter_map (entry_named s) names)
entries_are s [] = tt
entries_are s (n ∷ names) = go (entry_named s n) refl (entries_are s names)
  where
    go : (o : Option RelKey) → entry_named s n ≡ o → Each (λ key. is_entry s.db key ≡ true) (filter_map (entry_named s) names)
        → Each (λ key. is_entry s.db key ≡ true) (cons_option o (filter_map (entry_named s) names))
    go None e later = later
    go (Some key) e later = (entry_is s n key e, later)

pub destroy_fits : (s : Scope) (rels : List (List ℕ)) → first_refusal (refusals s (statement.Destroy rels)) ≡ None
    → suits (kept_or_viewed s.db) s.db s.user (tree_of s (statement.Destroy rels)) ≡ true
unfolding refusals tree_of suits utility_fits
destroy_fits s rels k =
    let none = none_of ((17, repeats_keys s rels) ∷ []) k in
    and _ _ (passed (is_entry s.db) _ (entries_are s rels)) (not_not _ none.0)

-- ---- permits and rules that go

pub drop_permits_fits : (s : Scope) (rel : List ℕ) (numbers : List ℕ) → name_refusal s (statement.DropPermits rel numbers) ≡ None
    → suits (kept_or_viewed s.db) s.db s.user (tree_of s (statement.DropPermits rel numbers)) ≡ true
unfolding tree_of suits utility_fits mentions
drop_permits_fits s rel numbers h = named_is s rel (by_name s rel (names_found s (statement.DropPermits rel numbers) h).0)

pub drop_rules_fits : (s : Scope) (rel : List ℕ) (numbers : List ℕ) → name_refusal s (statement.DropRules rel numbers) ≡ None
    → suits (kept_or_viewed s.db) s.db s.user (tree_of s (statement.DropRules rel numbers)) ≡ true
unfolding tree_of suits utility_fits mentions
drop_rules_fits s rel numbers h = named_is s rel (by_name s rel (names_found s (statement.DropRules rel numbers) h).0)

-- ---- keys

-- named attributes are lawful keys
keys_fit : (info : RelInfo) (names : List (List ℕ)) → Each (HasAttr info) names → differ_by bytes_eq names ≡ true → nat_le (length names) most_keys ≡ true
    → keys_stand info.attrs (map (place_found (Some info)) names) ≡ true
keys_fit info names h k few =
    and _ _ (places_in_range info names h) (and _ _ (places_differ info names h k) (subst (λ n. nat_le n most_keys ≡ true) (sym (length-map names (place_found (Some info)))) few))

some_attr : (attrs : List Attr) → is_any attrs ≡ true → nat_lt 0 (length attrs) ≡ true
some_attr [] h = absurd (cc h)
some_attr (a ∷ attrs) h = lt-ltb _ _ (omega arith)

first_key : (attrs : List Attr) → is_any attrs ≡ true → keys_stand attrs (0 ∷ []) ≡ true
first_key attrs h = and _ _ (and _ _ (some_attr attrs h) refl) refl

structured : (info : RelInfo) (names : List (List ℕ)) → is_any info.attrs ≡ true → keys_stand info.attrs (map (place_found (Some info)) names) ≡ true
    → keys_stand info.attrs (first_or_these (map (place_found (Some info)) names)) ≡ true
structured info [] h k = first_key info.attrs h
structured info (n ∷ names) h k = k

structure_fits : (to : Spec) (info : RelInfo) (names : List (List ℕ)) → is_structure to ≡ true → is_any info.attrs ≡ true
    → keys_stand info.attrs (map (place_found (Some info)) names) ≡ true
    → keys_stand info.attrs (structure_keys to (map (place_found (Some info)) names)) ≡ true
structure_fits spec.Heap info names w h k = refl
structure_fits spec.Hash info names w h k = structured info names h k
structure_fits spec.Isam info names w h k = structured info names h k
structure_fits spec.View info names w h k = absurd (cc w)
structure_fits spec.Index info names w h k = absurd (cc w)

-- the attributes under the key of what was found are its attributes
pub its_attrs : (s : Scope) (rel : List ℕ) (r : IsNamed s rel) → attrs_at s.db r.info.key ≡ r.info.attrs
its_attrs s rel r = ap attrs_in (named_again s rel r)

pub modify_fits : (s : Scope) → IsDatabase s.db → (rel : List ℕ) (to : Spec) (keys : List (List ℕ)) → is_written (statement.Modify rel to keys) ≡ true
    → name_refusal s (statement.Modify rel to keys) ≡ None → first_refusal (refusals s (statement.Modify rel to keys)) ≡ None
    → suits (kept_or_viewed s.db) s.db s.user (tree_of s (statement.Modify rel to keys)) ≡ true
unfolding refusals tree_of suits utility_fits mentions is_written
modify_fits s is rel to keys w h k =
    let found = names_found s (statement.Modify rel to keys) h in
    let r = by_name s rel found.0 in
    let none = none_of ((17, repeats keys) ∷ []) k in
    let stand = keys_fit r.info keys (attrs_there s rel r keys found.1) (not_not _ none.0) (right _ _ w) in
    and _ _ (named_is s rel r)
    (and _ _ (left _ _ w)
    (subst (λ o. keys_stand (attrs_at s.db (key_found o)) (structure_keys to (map (place_found o) keys)) ≡ true) (sym r.is)
    (subst (λ attrs. keys_stand attrs (structure_keys to (map (place_found (Some r.info)) keys)) ≡ true) (sym (its_attrs s rel r))
    (structure_fits to r.info keys (left _ _ w) (left _ _ (info_stands s.db is r.key r.info r.there)) stand))))

pub index_fits : (s : Scope) (base name : List ℕ) (keys : List (List ℕ)) → is_written (statement.Index base name keys) ≡ true
    → name_refusal s (statement.Index base name keys) ≡ None → first_refusal (refusals s (statement.Index base name keys)) ≡ None
    → suits (kept_or_viewed s.db) s.db s.user (tree_of s (statement.Index base name keys)) ≡ true
unfolding refusals tree_of suits utility_fits mentions is_written
index_fits s base name keys w h k =
    let found = names_found s (statement.Index base name keys) h in
    let r = by_name s base found.0 in
    let listed = right (is_name name) _ w in
    let none = none_of ((17, repeats keys) ∷ (14, is_full s.db) ∷ (15, is_taken s.db s.user name) ∷ []) k in
    let stand = keys_fit r.info keys (attrs_there s base r keys found.1) (not_not _ none.0) (right _ _ listed) in
    and _ _ (named_is s base r)
    (and _ _ (and _ _ (not_so _ none.1.1.0) (not_so _ none.1.0))
    (and _ _ (some_keys keys (left _ _ listed))
    (subst (λ o. keys_stand (attrs_at s.db (key_found o)) (map (place_found o) keys) ≡ true) (sym r.is)
    (subst (λ attrs. keys_stand attrs (map (place_found (Some r.info)) keys) ≡ true) (sym (its_attrs s base r)) stand))))
  where
    some_keys : (keys : List (List ℕ)) → is_any keys ≡ true → is_any (map (place_found (named s base)) keys) ≡ true
    some_keys [] e = absurd (cc e)
    some_keys (n ∷ names) e = refl

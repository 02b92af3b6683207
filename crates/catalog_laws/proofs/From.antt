-- What stands in a database after a change was there, or is new.
use Rattle.std.proofs.Common.{◌≡◌, refl, sym, ap, subst, ◌∙◌, inl, inr, true≢false, Bool, true, false, not, List, map, find, Option, Some, None}
use Rattle.std.specs.Prelude.{◌⊎◌, is_some}
use Rattle.std.proofs.lemmas.Option.{same_Some, none-some}
use Rattle.calculus.specs.declared.query.RelKey.{RelKey}
use Rattle.calculus.specs.declared.change.DbChange.{DbChange}
use Rattle.calculus.specs.declared.change.DbChange.TheVariants as change
use Rattle.calculus.specs.declared.schema.RelInfo.{RelInfo}
use Rattle.calculus.specs.Change.{laid, IsLawful, change_at, restructured, index_info, adds_what_is_new}
use Rattle.calculus.specs.Database.{Db, Relation, View, Index, entries, is_there}
use Rattle.calculus.specs.Keys.{same_key, key_of, key_cmp}
use Rattle.calculus.specs.Replacement.{with_rows, without_rows}
use Rattle.calculus.specs.Rows.{set_of}
use Rattle.stored_database.proofs.Members.{IsIn, map_in, filter_in, in_either, found_in}
use Rattle.stored_database.proofs.Orders.{same_key_is}
use Rattle.stored_database.proofs.Sets.{insert_in}
use Rattle.stored_database.specs.ChangeLaws.{resizes}
use Rattle.stored_database.proofs.Staying.{relation_there, view_there, index_there}

-- the key of what a change makes
unfoldable pub new_key : DbChange → Option RelKey
new_key (change.Rows rel remove add) = None
new_key (change.Create info rows) = Some info.key
new_key (change.Destroy rels) = None
new_key (change.Modify rel to keys) = None
new_key (change.Index base name keys) = Some (key_of base.owner name)
new_key (change.View info query) = Some info.key
new_key (change.Permit rel permit) = None
new_key (change.Rule rel rule) = None
new_key (change.DropPermits rel numbers) = None
new_key (change.DropRules rel numbers) = None

-- a relation afterwards that isn't as one was
unfoldable pub IsChanged : DbChange → Db → Relation → Type 0
IsChanged (change.Rows rel remove add) db s = (r : Relation) × IsIn r db.relations × (same_key r.info.key rel ≡ true) × (s ≡ record r { rows = with_rows add (without_rows remove r.rows) })
IsChanged (change.Create info rows) db s = s ≡ record { info = info; rows = set_of rows }
IsChanged (change.Destroy rels) db s = ⊥
IsChanged (change.Modify rel to keys) db s = (r : Relation) × IsIn r db.relations × (same_key r.info.key rel ≡ true) × (s ≡ restructured to keys r)
IsChanged (change.Index base name keys) db s = ⊥
IsChanged (change.View info query) db s = ⊥
IsChanged (change.Permit rel permit) db s = ⊥
IsChanged (change.Rule rel rule) db s = ⊥
IsChanged (change.DropPermits rel numbers) db s = ⊥
IsChanged (change.DropRules rel numbers) db s = ⊥

-- relations of which the one under a key is changed
at_in : (rel : RelKey) (g : Relation → Relation) (relations : List Relation) (s : Relation) → IsIn s (change_at rel g relations)
    → (IsIn s relations × (same_key s.info.key rel ≡ false)) ⊎ ((r : Relation) × IsIn r relations × (same_key r.info.key rel ≡ true) × (s ≡ g r))
at_in rel g relations s at = let m = map_in (λ r. elim (same_key r.info.key rel) as (λ b. Relation) [ true ↦ g r | false ↦ r ]) relations s at in go m.0 m.1 (same_key m.0.info.key rel) refl m.2
  where
    go : (r : Relation) → IsIn r relations → (b : Bool) → same_key r.info.key rel ≡ b → s ≡ elim b as (λ b. Relation) [ true ↦ g r | false ↦ r ]
        → (IsIn s relations × (same_key s.info.key rel ≡ false)) ⊎ ((r : Relation) × IsIn r relations × (same_key r.info.key rel ≡ true) × (s ≡ g r))
    go r there true is e = inr (r, there, is, e)
    go r there false is e = inl (subst (λ t. IsIn t relations) (sym e) there, ap (λ (t : Relation). same_key t.info.key rel) e ∙ is)

pub relation_from : (made : DbChange) (db : Db) (s : Relation) → IsIn s (laid db made).relations → (IsIn s db.relations × (resizes made s.info.key ≡ false)) ⊎ IsChanged made db s
unfolding laid resizes IsChanged
relation_from (change.Rows rel remove add) db s at = at_in rel (λ r. record r { rows = with_rows add (without_rows remove r.rows) }) db.relations s at
relation_from (change.Create info rows) db s at =
    elim (insert_in (λ (a b : Relation). key_cmp a.info.key b.info.key) (record { info = info; rows = set_of rows }) db.relations s at) [ inl e ↦ inr e | inr k ↦ inl (k, refl) ]
relation_from (change.Destroy rels) db s at = inl ((filter_in _ db.relations s at).0, refl)
relation_from (change.Modify rel to keys) db s at = at_in rel (restructured to keys) db.relations s at
relation_from (change.Index base name keys) db s at = inl (at, refl)
relation_from (change.View info query) db s at = inl (at, refl)
relation_from (change.Permit rel permit) db s at = inl (at, refl)
relation_from (change.Rule rel rule) db s at = inl (at, refl)
relation_from (change.DropPermits rel numbers) db s at = inl (at, refl)
relation_from (change.DropRules rel numbers) db s at = inl (at, refl)

pub view_from : (made : DbChange) (db : Db) (v : View) → IsIn v (laid db made).views → IsIn v db.views ⊎ (new_key made ≡ Some v.info.key)
unfolding laid new_key
view_from (change.Rows rel remove add) db v at = inl at
view_from (change.Create info rows) db v at = inl at
view_from (change.Destroy rels) db v at = inl (filter_in _ db.views v at).0
view_from (change.Modify rel to keys) db v at = inl at
view_from (change.Index base name keys) db v at = inl at
view_from (change.View info query) db v at =
    elim (insert_in (λ (a b : View). key_cmp a.info.key b.info.key) (record { info = info; query = query }) db.views v at) [ inl e ↦ inr (ap (λ (w : View). Some w.info.key) (sym e)) | inr k ↦ inl k ]
view_from (change.Permit rel permit) db v at = inl at
view_from (change.Rule rel rule) db v at = inl at
view_from (change.DropPermits rel numbers) db v at = inl at
view_from (change.DropRules rel numbers) db v at = inl at

pub index_from : (made : DbChange) (db : Db) (x : Index) → IsIn x (laid db made).indexes → IsIn x db.indexes ⊎ (new_key made ≡ Some x.info.key)
unfolding laid new_key
index_from (change.Rows rel remove add) db x at = inl at
index_from (change.Create info rows) db x at = inl at
index_from (change.Destroy rels) db x at = inl (filter_in _ db.indexes x at).0
index_from (change.Modify rel to keys) db x at = inl (filter_in _ db.indexes x at).0
index_from (change.Index base name keys) db x at =
    elim (insert_in (λ (a b : Index). key_cmp a.info.key b.info.key) (record { info = index_info base name keys; base = base }) db.indexes x at) [
      | inl e ↦ inr (ap (λ (y : Index). Some y.info.key) (sym e))
      | inr k ↦ inl k
    ]
index_from (change.View info query) db x at = inl at
index_from (change.Permit rel permit) db x at = inl at
index_from (change.Rule rel rule) db x at = inl at
index_from (change.DropPermits rel numbers) db x at = inl at
index_from (change.DropRules rel numbers) db x at = inl at

-- a changed relation has the key that it had, or is new
changed_key : (made : DbChange) (db : Db) (s : Relation) → IsChanged made db s → (is_there db s.info.key ≡ true) ⊎ (new_key made ≡ Some s.info.key)
unfolding IsChanged new_key
changed_key (change.Rows rel remove add) db s c = inl (ap (λ (t : Relation). is_there db t.info.key) c.3 ∙ relation_there db c.0 c.1)
changed_key (change.Create info rows) db s c = inr (ap (λ (t : Relation). Some t.info.key) (sym c))
changed_key (change.Destroy rels) db s c = absurd c
changed_key (change.Modify rel to keys) db s c = inl (ap (λ (t : Relation). is_there db t.info.key) c.3 ∙ relation_there db c.0 c.1)
changed_key (change.Index base name keys) db s c = absurd c
changed_key (change.View info query) db s c = absurd c
changed_key (change.Permit rel permit) db s c = absurd c
changed_key (change.Rule rel rule) db s c = absurd c
changed_key (change.DropPermits rel numbers) db s c = absurd c
changed_key (change.DropRules rel numbers) db s c = absurd c

-- what is there afterwards was there, or is new
pub info_from : (made : DbChange) (db : Db) (i : RelInfo) → IsIn i (entries (laid db made)) → (is_there db i.key ≡ true) ⊎ (new_key made ≡ Some i.key)
info_from made db i at = elim (in_either (map (λ (r : Relation). r.info) (laid db made).relations) _ i at) [
  | inl k ↦ (let m = map_in (λ (r : Relation). r.info) (laid db made).relations i k in of_relation m.0 m.1 m.2)
  | inr k ↦ elim (in_either (map (λ (v : View). v.info) (laid db made).views) (map (λ (x : Index). x.info) (laid db made).indexes) i k) [
    | inl k ↦ (let m = map_in (λ (v : View). v.info) (laid db made).views i k in of_view m.0 m.1 m.2)
    | inr k ↦ (let m = map_in (λ (x : Index). x.info) (laid db made).indexes i k in of_index m.0 m.1 m.2)
  ]
]
  where
    of_relation : (r : Relation) → IsIn r (laid db made).relations → i ≡ r.info → (is_there db i.key ≡ true) ⊎ (new_key made ≡ Some i.key)
    of_relation r there e =
        subst (λ (j : RelInfo). (is_there db j.key ≡ true) ⊎ (new_key made ≡ Some j.key)) (sym e)
        (elim (relation_from made db r there) [ inl s ↦ inl (relation_there db r s.0) | inr c ↦ changed_key made db r c ])

    of_view : (v : View) → IsIn v (laid db made).views → i ≡ v.info → (is_there db i.key ≡ true) ⊎ (new_key made ≡ Some i.key)
    of_view v there e =
        subst (λ (j : RelInfo). (is_there db j.key ≡ true) ⊎ (new_key made ≡ Some j.key)) (sym e)
        (elim (view_from made db v there) [ inl s ↦ inl (view_there db v s) | inr c ↦ inr c ])

    of_index : (x : Index) → IsIn x (laid db made).indexes → i ≡ x.info → (is_there db i.key ≡ true) ⊎ (new_key made ≡ Some i.key)
    of_index x there e =
        subst (λ (j : RelInfo). (is_there db j.key ≡ true) ⊎ (new_key made ≡ Some j.key)) (sym e)
        (elim (index_from made db x there) [ inl s ↦ inl (index_there db x s) | inr c ↦ inr c ])

-- what is there under a key
pub found_under : (db : Db) (key : RelKey) → is_there db key ≡ true → (i : RelInfo) × IsIn i (entries db) × (i.key ≡ key)
found_under db key e = go (find (λ i. same_key i.key key) (entries db)) refl e
  where
    go : (o : Option RelInfo) → find (λ i. same_key i.key key) (entries db) ≡ o → is_some o ≡ true → (i : RelInfo) × IsIn i (entries db) × (i.key ≡ key)
    go None is e = absurd (true≢false (sym e))
    go (Some i) is e = let at = found_in (λ (i : RelInfo). same_key i.key key) (entries db) i is in (i, at.0, same_key_is i.key key at.1)

not_so : (b : Bool) → not b ≡ true → b ≡ false
not_so true e = absurd (cc e)
not_so false e = refl

-- what is made wasn't there
pub new_is_new : (made : DbChange) (db : Db) (key : RelKey) → IsLawful db made → new_key made ≡ Some key → is_there db key ≡ false
unfolding new_key adds_what_is_new
new_is_new (change.Rows rel remove add) db key lawful e = absurd (none-some key e)
new_is_new (change.Create info rows) db key lawful e = ap (is_there db) (sym (same_Some info.key key e)) ∙ not_so (is_there db info.key) lawful.additions_are_new
new_is_new (change.Destroy rels) db key lawful e = absurd (none-some key e)
new_is_new (change.Modify rel to keys) db key lawful e = absurd (none-some key e)
new_is_new (change.Index base name keys) db key lawful e =
    ap (is_there db) (sym (same_Some (key_of base.owner name) key e)) ∙ not_so (is_there db (key_of base.owner name)) lawful.additions_are_new
new_is_new (change.View info query) db key lawful e = ap (is_there db) (sym (same_Some info.key key e)) ∙ not_so (is_there db info.key) lawful.additions_are_new
new_is_new (change.Permit rel permit) db key lawful e = absurd (none-some key e)
new_is_new (change.Rule rel rule) db key lawful e = absurd (none-some key e)
new_is_new (change.DropPermits rel numbers) db key lawful e = absurd (none-some key e)
new_is_new (change.DropRules rel numbers) db key lawful e = absurd (none-some key e)

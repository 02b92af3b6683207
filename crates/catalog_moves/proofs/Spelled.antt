-- Trees of a database have spellings.
use Rattle.std.proofs.Common.{◌≡◌, refl, sym, subst, inl, inr, List, [], ◌∷◌, Option, Some, None, option_map}
use Rattle.std.proofs.lemmas.Option.{same_Some}
use Rattle.std.specs.declared.cmp.Ordering.{Ordering}
use Rattle.std.specs.declared.cmp.Ordering.TheVariants.{Less, Equal, Greater}
use Rattle.calculus.specs.declared.change.DbChange.{DbChange}
use Rattle.calculus.specs.declared.change.DbChange.TheVariants as change
use Rattle.calculus.specs.declared.query.Query.{Query}
use Rattle.calculus.specs.declared.schema.RelInfo.{RelInfo}
use Rattle.calculus.specs.Change.{laid}
use Rattle.calculus.specs.Lists.{insert_by}
use Rattle.quel_tree.specs.Queries.{query}
use Rattle.stored_database.proofs.Members.{IsIn, of_all, found_in}
use Rattle.stored_database.proofs.Sets.{insert_as, insert_cons}
use Rattle.std.specs.List.{AllByRecursion}
use Rattle.calculus.specs.declared.query.RelKey.{RelKey}
use Rattle.calculus.specs.declared.schema.Permit.{Permit}
use Rattle.calculus.specs.declared.schema.Rule.{Rule}
use Rattle.calculus.specs.Database.{Db, View, view_at, rules_on, permits_on}
use Rattle.base_trait.specs.Known.{query_at}
use Rattle.calculus.specs.IsDatabase.{IsDatabase}
use Rattle.calculus.specs.Keys.{same_key, key_cmp, numbered_cmp}
use Rattle.quel_tree.specs.Message.{most_tree_levels}
use Rattle.quel_tree.specs.Permits.{rule, permit}
use Rattle.stored_database.proofs.Pairs.{all_filter, all_map}
use Rattle.stored_database.proofs.TreesFit.{trees_are_spelled}

pub rules_fit : (db : Db) → IsDatabase db → (key : RelKey) → AllByRecursion (λ r. (rule most_tree_levels).Fits r) (rules_on db key)
rules_fit db is key = all_map (λ r. (rule most_tree_levels).Fits r) (λ (p : RelKey × Rule). p.1) _ (all_filter (λ (p : RelKey × Rule). (rule most_tree_levels).Fits p.1) (λ p. same_key p.0 key) db.rules (trees_are_spelled db is).rules)

pub permits_fit : (db : Db) → IsDatabase db → (key : RelKey) → AllByRecursion (λ p. (permit most_tree_levels).Fits p) (permits_on db key)
permits_fit db is key = all_map (λ p. (permit most_tree_levels).Fits p) (λ (p : RelKey × Permit). p.1) _ (all_filter (λ (p : RelKey × Permit). (permit most_tree_levels).Fits p.1) (λ p. same_key p.0 key) db.permits (trees_are_spelled db is).permits)

pub query_fits : (db : Db) → IsDatabase db → (key : RelKey) → (q : Query) → query_at db key ≡ Some q → (query most_tree_levels).Fits q
query_fits db is key q e = go (view_at db key) refl e
  where
    go : (o : Option View) → view_at db key ≡ o → option_map (λ (v : View). v.query) o ≡ Some q → (query most_tree_levels).Fits q
    go None f h = cc h
    go (Some v) f h =
        subst (λ (q : Query). (query most_tree_levels).Fits q) (same_Some v.query q h)
        (of_all (λ (v : View). (query most_tree_levels).Fits v.query) db.views v (trees_are_spelled db is).views (found_in (λ (v : View). same_key v.info.key key) db.views v f).0)

-- ---- what is made

-- what is put is there
put_in : {X : Type 0} (cmp : X → X → Ordering) (x : X) (ys : List X) → IsIn x (insert_by cmp x ys)
put_in cmp x [] = inl refl
put_in {X} cmp x (y ∷ ys) = subst (IsIn x) (sym (insert_cons cmp x y ys)) (go (cmp x y) (put_in cmp x ys))
  where
    go : (o : Ordering) → IsIn x (insert_by cmp x ys) → IsIn x (insert_as o x y ys (insert_by cmp x ys))
    go Less later = inl refl
    go Equal later = inl refl
    go Greater later = inr later

pub view_fits : (db : Db) (made : DbChange) (info : RelInfo) (q : Query) → made ≡ change.View info q → IsDatabase (laid db made) → (query most_tree_levels).Fits q
unfolding laid
view_fits db made info q e is =
    of_all (λ (v : View). (query most_tree_levels).Fits v.query) _ (record { info = info; query = q }) (trees_are_spelled (laid db (change.View info q)) (subst (λ made. IsDatabase (laid db made)) e is)).views (put_in (λ (a b : View). key_cmp a.info.key b.info.key) _ db.views)

pub permit_fits : (db : Db) (made : DbChange) (rel : RelKey) (p : Permit) → made ≡ change.Permit rel p → IsDatabase (laid db made) → (permit most_tree_levels).Fits p
unfolding laid
permit_fits db made rel p e is =
    of_all (λ (p : RelKey × Permit). (permit most_tree_levels).Fits p.1) _ (rel, p) (trees_are_spelled (laid db (change.Permit rel p)) (subst (λ made. IsDatabase (laid db made)) e is)).permits (put_in (numbered_cmp (λ (p : Permit). p.number)) _ db.permits)

pub rule_fits : (db : Db) (made : DbChange) (rel : RelKey) (r : Rule) → made ≡ change.Rule rel r → IsDatabase (laid db made) → (rule most_tree_levels).Fits r
unfolding laid
rule_fits db made rel r e is =
    of_all (λ (p : RelKey × Rule). (rule most_tree_levels).Fits p.1) _ (rel, r) (trees_are_spelled (laid db (change.Rule rel r)) (subst (λ made. IsDatabase (laid db made)) e is)).rules (put_in (numbered_cmp (λ (r : Rule). r.number)) _ db.rules)

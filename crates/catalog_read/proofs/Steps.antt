-- What a change that may be applied does to the parts of a database.
use Rattle.std.proofs.Common.{◌≡◌, refl, sym, ◌∙◌, ℕ, nat_eq, Bool, true, false, not, cond, IsTrue, List, [], ◌∷◌, ◌++◌, map, filter}
use Rattle.std.specs.List.{AllByRecursion}
use Rattle.std.specs.Ordering.{is_eq, nat_cmp, ordering_then}
use Rattle.std.specs.FinMap.{nat_cmp-IsAntisymmetric}
use Rattle.std.specs.declared.cmp.Ordering.{Ordering}
use Rattle.std.specs.declared.cmp.Ordering.TheVariants.{Less, Equal, Greater}
use Rattle.std.proofs.lemmas.Bool.Decides.{Decides-eqb}
use Rattle.calculus.specs.declared.query.RelKey.{RelKey}
use Rattle.calculus.specs.declared.schema.RelInfo.{RelInfo}
use Rattle.calculus.specs.declared.change.DbChange.{DbChange}
use Rattle.calculus.specs.declared.change.DbChange.TheVariants as change
use Rattle.calculus.specs.Change.{laid, index_info, adds_what_is_new, IsLawful, rule_numbers, permit_numbers}
use Rattle.calculus.specs.Database.{Db, Relation, Index, View, entries, is_there}
use Rattle.calculus.specs.Keys.{same_key, key_cmp, key_of, numbered_cmp}
use Rattle.calculus.specs.Lists.{insert_by, has_number}
use Rattle.plan_laws.proofs.Beside.{by_rel, each_beside}
use Rattle.plan_laws.proofs.Created.{each_true, each_from}
use Rattle.plan_laws.proofs.Indexes.{is_no}
use Rattle.plan_laws.proofs.NewIndexes.{not_there, new-all, key_exact, other_way}
use Rattle.plan_laws.proofs.NewNumbers.{of_key}
use Rattle.plan_laws.proofs.Planned.{neither}
use Rattle.catalog_read.specs.Applying.{Shuffled, relation_of, index_of, view_of, rule_of, permit_of, makes_a_part}
use Rattle.catalog_read.proofs.Shuffles.{same, mapped}
use Rattle.catalog_read.proofs.Members.{all_front, all_rest, all_unmapped}
use Rattle.catalog_read.proofs.Once.{put_shuffled}

-- ---- what is equal to none

equal : (o : Ordering) → is_eq o ≡ true → o ≡ Equal
equal Less h = cc h
equal Equal h = refl
equal Greater h = cc h

pub never_equal : (a b : RelKey) → same_key a b ≡ false → is_eq (key_cmp a b) ≡ false
never_equal a b h = go (is_eq (key_cmp a b)) refl
  where
    go : (t : Bool) → is_eq (key_cmp a b) ≡ t → t ≡ false
    go true e = let is : same_key a b ≡ true = key_exact a b (equal (key_cmp a b) e) in cc (sym is ∙ h)
    go false e = refl

-- what isn't there has a key that no entry has
pub none_equal : (db : Db) (key : RelKey) → is_there db key ≡ false → AllByRecursion (λ i. is_eq (key_cmp key i.key) ≡ false) (entries db)
none_equal db key unused =
    each_from (λ i. IsTrue (not (same_key key i.key))) (λ i. is_eq (key_cmp key i.key) ≡ false) (entries db)
    (each_true (λ i. not (same_key key i.key)) (entries db) (sym (new-all key (entries db)) ∙ not_there key (entries db) unused))
    (λ i t. never_equal key i.key (is_no (same_key key i.key) t))

both_tied : (o p : Ordering) → ordering_then o p ≡ Equal → (o ≡ Equal) × (p ≡ Equal)
both_tied Less p h = cc h
both_tied Equal p h = (refl, h)
both_tied Greater p h = cc h

one_apart : {X : Type 0} (number : X → ℕ) (rel : RelKey) (x : X) (p : RelKey × X) → same_key p.0 rel ≡ false → is_eq (numbered_cmp number (rel, x) p) ≡ false
one_apart {X} number rel x p h = go (is_eq (numbered_cmp number (rel, x) p)) refl
  where
    go : (t : Bool) → is_eq (numbered_cmp number (rel, x) p) ≡ t → t ≡ false
    go true e =
        let tied = both_tied (key_cmp rel p.0) (nat_cmp (number x) (number p.1)) (equal (numbered_cmp number (rel, x) p) e) in
        let is : same_key rel p.0 ≡ true = key_exact rel p.0 tied.0 in
        let other : same_key rel p.0 ≡ false = other_way p.0 rel h in
        cc (sym is ∙ other)
    go false e = refl

one_numbered : {X : Type 0} (number : X → ℕ) (rel : RelKey) (x : X) (p : RelKey × X) → nat_eq (number p.1) (number x) ≡ false → is_eq (numbered_cmp number (rel, x) p) ≡ false
one_numbered {X} number rel x p h = go (is_eq (numbered_cmp number (rel, x) p)) refl
  where
    go : (t : Bool) → is_eq (numbered_cmp number (rel, x) p) ≡ t → t ≡ false
    go true e =
        let tied = both_tied (key_cmp rel p.0) (nat_cmp (number x) (number p.1)) (equal (numbered_cmp number (rel, x) p) e) in
        let one : number p.1 ≡ number x = sym (nat_cmp-IsAntisymmetric (number x) (number p.1) tied.1) in
        let is : nat_eq (number p.1) (number x) ≡ true = (Decides-eqb (number p.1) (number x)).1 one in
        cc (sym is ∙ h)
    go false e = refl

-- one whose number is none of its key's isn't equal
pub number_unequal : {X : Type 0} (number : X → ℕ) (rel : RelKey) (x : X) (ps : List (RelKey × X)) → has_number (map number (map (λ p. p.1) (filter (of_key rel) ps))) (number x) ≡ false
    → AllByRecursion (λ p. is_eq (numbered_cmp number (rel, x) p) ≡ false) ps
number_unequal number rel x [] h = tt
number_unequal {X} number rel x (p ∷ ps) h = go (same_key p.0 rel) refl h (number_unequal number rel x ps)
  where
    rest : List (RelKey × X)
    rest = filter (of_key rel) ps

    go : (b : Bool) → same_key p.0 rel ≡ b → has_number (map number (map (λ p. p.1) (cond b (p ∷ rest) rest))) (number x) ≡ false
        → (has_number (map number (map (λ p. p.1) rest)) (number x) ≡ false → AllByRecursion (λ p. is_eq (numbered_cmp number (rel, x) p) ≡ false) ps)
        → AllByRecursion (λ p. is_eq (numbered_cmp number (rel, x) p) ≡ false) (p ∷ ps)
    go true e h later = let parts = neither (nat_eq (number p.1) (number x)) (has_number (map number (map (λ p. p.1) rest)) (number x)) h in (one_numbered number rel x p parts.0, later parts.1)
    go false e h later = (one_apart number rel x p e, later h)

-- ---- one change

-- what is known of the relations
abbrev pub infos_of : Db → List RelInfo
infos_of db = map (λ r. r.info) db.relations

-- its relations have no rows
abbrev pub IsBare : Db → Type 0
IsBare db = AllByRecursion (λ r. r.rows ≡ []) db.relations

-- the change puts its part among those that stand
pub record Puts (c : DbChange) (db later : Db) : Type 0 where
  pub administrator : later.dba ≡ db.dba
  pub bare : IsBare db → IsBare later
  pub relations : Shuffled (relation_of c ++ infos_of db) (infos_of later)
  pub indexes : Shuffled (index_of c ++ db.indexes) later.indexes
  pub views : Shuffled (view_of c ++ db.views) later.views
  pub rules : Shuffled (rule_of c ++ db.rules) later.rules
  pub permits : Shuffled (permit_of c ++ db.permits) later.permits

pub change_puts : (c : DbChange) (db : Db) → IsTrue (makes_a_part c) → IsLawful db c → Puts c db (laid db c)
unfolding laid adds_what_is_new
change_puts (change.Rows rel remove add) db k l = cc k
change_puts (change.Create info (row ∷ rows)) db k l = cc k
change_puts (change.Create info []) db k l =
    let new : Relation = record { info = info; rows = [] } in
    let unequal = all_unmapped (λ i. is_eq (key_cmp info.key i.key) ≡ false) (λ r. r.info) db.relations
    (all_front (λ i. is_eq (key_cmp info.key i.key) ≡ false) (infos_of db) (map (λ v. v.info) db.views ++ map (λ x. x.info) db.indexes)
    (none_equal db info.key (is_no (is_there db info.key) l.additions_are_new))) in
    record {
      administrator = refl;
      bare = λ b. each_beside (λ r. r.rows ≡ []) new db.relations refl b;
      relations = mapped (λ r. r.info) (new ∷ db.relations) (insert_by by_rel new db.relations) (put_shuffled by_rel new db.relations unequal);
      indexes = same db.indexes;
      views = same db.views;
      rules = same db.rules;
      permits = same db.permits;
    }
change_puts (change.Destroy rels) db k l = cc k
change_puts (change.Modify rel to keys) db k l = cc k
change_puts (change.Index base name keys) db k l =
    let new : Index = record { info = index_info base name keys; base = base } in
    let unequal = all_unmapped (λ i. is_eq (key_cmp (key_of base.owner name) i.key) ≡ false) (λ x. x.info) db.indexes
    (all_rest (λ i. is_eq (key_cmp (key_of base.owner name) i.key) ≡ false) (map (λ v. v.info) db.views) (map (λ x. x.info) db.indexes)
    (all_rest (λ i. is_eq (key_cmp (key_of base.owner name) i.key) ≡ false) (infos_of db) (map (λ v. v.info) db.views ++ map (λ x. x.info) db.indexes)
    (none_equal db (key_of base.owner name) (is_no (is_there db (key_of base.owner name)) l.additions_are_new)))) in
    record {
      administrator = refl;
      bare = λ b. b;
      relations = same (infos_of db);
      indexes = put_shuffled (λ a b. key_cmp a.info.key b.info.key) new db.indexes unequal;
      views = same db.views;
      rules = same db.rules;
      permits = same db.permits;
    }
change_puts (change.View info query) db k l =
    let new : View = record { info = info; query = query } in
    let unequal = all_unmapped (λ i. is_eq (key_cmp info.key i.key) ≡ false) (λ v. v.info) db.views
    (all_front (λ i. is_eq (key_cmp info.key i.key) ≡ false) (map (λ v. v.info) db.views) (map (λ x. x.info) db.indexes)
    (all_rest (λ i. is_eq (key_cmp info.key i.key) ≡ false) (infos_of db) (map (λ v. v.info) db.views ++ map (λ x. x.info) db.indexes)
    (none_equal db info.key (is_no (is_there db info.key) l.additions_are_new)))) in
    record {
      administrator = refl;
      bare = λ b. b;
      relations = same (infos_of db);
      indexes = same db.indexes;
      views = put_shuffled (λ a b. key_cmp a.info.key b.info.key) new db.views unequal;
      rules = same db.rules;
      permits = same db.permits;
    }
change_puts (change.Permit rel permit) db k l = record {
  administrator = refl;
  bare = λ b. b;
  relations = same (infos_of db);
  indexes = same db.indexes;
  views = same db.views;
  rules = same db.rules;
  permits = put_shuffled (numbered_cmp (λ p. p.number)) (rel, permit) db.permits
      (number_unequal (λ p. p.number) rel permit db.permits (is_no (has_number (permit_numbers db rel) permit.number) l.additions_are_new));
}
change_puts (change.Rule rel rule) db k l = record {
  administrator = refl;
  bare = λ b. b;
  relations = same (infos_of db);
  indexes = same db.indexes;
  views = same db.views;
  rules = put_shuffled (numbered_cmp (λ r. r.number)) (rel, rule) db.rules
      (number_unequal (λ r. r.number) rel rule db.rules (is_no (has_number (rule_numbers db rel) rule.number) l.additions_are_new));
  permits = same db.permits;
}
change_puts (change.DropPermits rel numbers) db k l = cc k
change_puts (change.DropRules rel numbers) db k l = cc k

-- The changes that make parts, before anything is applied; and the steps of a round.
use Rattle.std.proofs.Common.{◌≡◌, refl, sym, ap, ◌∙◌, subst, ℕ, Bool, true, false, ◌&&◌, not, IsTrue, List, [], ◌∷◌, ◌++◌, map, append_assoc, append-nil, Some, length, arith}
use Rattle.std.specs.Prelude.{flat_map, bytes_eq, ◌↔◌}
use Rattle.std.specs.List.{list_all, AllByRecursion}
use Rattle.std.proofs.lemmas.Slice.Eq.{bytes_eq-Decides}
use Rattle.calculus.specs.declared.change.DbChange.{DbChange}
use Rattle.calculus.specs.declared.query.RelKey.{RelKey}
use Rattle.calculus.specs.declared.schema.Attr.{Attr}
use Rattle.calculus.specs.declared.schema.Permit.{Permit}
use Rattle.calculus.specs.declared.schema.RelInfo.{RelInfo}
use Rattle.calculus.specs.declared.schema.Rule.{Rule}
use Rattle.calculus.specs.declared.schema.Spec.{Spec}
use Rattle.calculus.specs.declared.schema.Spec.TheVariants as spec
use Rattle.calculus.specs.Change.{laid, IsLawful}
use Rattle.calculus.specs.Database.{Db, Index, View}
use Rattle.calculus.specs.IsDatabase.{IsDatabase, valid_index}
use Rattle.calculus.specs.Lists.{is_any}
use Rattle.calculus.specs.Structures.{is_index}
use Rattle.change_laws.specs.Fit.{change_is_fit}
use Rattle.change_laws.proofs.Exactly.{fits_exactly}
use Rattle.plan_laws.proofs.Kept.{both, each}
use Rattle.catalog_read.specs.declared.parts.IndexPart.{IndexPart}
use Rattle.catalog_read.specs.declared.parts.ViewPart.{ViewPart}
use Rattle.catalog_read.specs.declared.parts.SchemaParts.{SchemaParts}
use Rattle.catalog_read.specs.Parts.{parts_in, index_in, view_in, whole, index_owners_agree}
use Rattle.catalog_read.specs.Applying.{Shuffled, changes_of, made_index, made_relation, made_view, made_rule, made_permit, is_of_its_base, relation_of, index_of, view_of, rule_of, permit_of, makes_a_part, IsLeft, nothing_in, round, behind, stepped}
use Rattle.catalog_read.proofs.Shuffles.{same, back, all_shuffled}
use Rattle.catalog_read.proofs.Members.{all_mapped, all_unmapped, all_of, in_test, as_test}
use Rattle.catalog_read.proofs.Whole.{whole_is}

-- ---- what each change makes

flat_append : {X Y : Type 0} (f : X → List Y) (xs ys : List X) → flat_map f (xs ++ ys) ≡ flat_map f xs ++ flat_map f ys
flat_append f [] ys = refl
flat_append f (x ∷ xs) ys = ap (λ l. f x ++ l) (flat_append f xs ys) ∙ sym (append_assoc (f x) (flat_map f xs) (flat_map f ys))

flat_none : {X Y Z : Type 0} (f : Y → List Z) (g : X → Y) (xs : List X) → ((x : X) → f (g x) ≡ []) → flat_map f (map g xs) ≡ []
flat_none f g [] h = refl
flat_none f g (x ∷ xs) h = λ i. h x i ++ flat_none f g xs h i

flat_each : {X Y Z : Type 0} (f : Y → List Z) (g : X → Y) (k : X → Z) (xs : List X) → AllByRecursion (λ x. f (g x) ≡ k x ∷ []) xs → flat_map f (map g xs) ≡ map k xs
flat_each f g k [] h = refl
flat_each f g k (x ∷ xs) h = λ i. h.0 i ++ flat_each f g k xs h.1 i

for_each : {X : Type 0} (P : X → Type 0) (xs : List X) → ((x : X) → P x) → AllByRecursion P xs
for_each P [] h = tt
for_each P (x ∷ xs) h = (h x, for_each P xs h)

map_itself : {X : Type 0} (xs : List X) → map (λ x. x) xs ≡ xs
map_itself [] = refl
map_itself (x ∷ xs) = ap (λ l. x ∷ l) (map_itself xs)

-- the parts of five lists behind each other
flat_five : {X Y : Type 0} (f : X → List Y) (a b c d e : List X) → flat_map f ((((a ++ b) ++ c) ++ d) ++ e) ≡ (((flat_map f a ++ flat_map f b) ++ flat_map f c) ++ flat_map f d) ++ flat_map f e
flat_five f a b c d e =
    flat_append f (((a ++ b) ++ c) ++ d) e
    ∙ ap (λ l. l ++ flat_map f e) (flat_append f ((a ++ b) ++ c) d
    ∙ ap (λ l. l ++ flat_map f d) (flat_append f (a ++ b) c ∙ ap (λ l. l ++ flat_map f c) (flat_append f a b)))

all_five : {X : Type 0} (test : X → Bool) (a b c d e : List X) → IsTrue (list_all test a) → IsTrue (list_all test b) → IsTrue (list_all test c) → IsTrue (list_all test d) → IsTrue (list_all test e)
    → IsTrue (list_all test ((((a ++ b) ++ c) ++ d) ++ e))
all_five {X} test a b c d e p q r s t = more (((a ++ b) ++ c) ++ d) e (more ((a ++ b) ++ c) d (more (a ++ b) c (more a b p q) r) s) t
  where
    more : (xs ys : List X) → IsTrue (list_all test xs) → IsTrue (list_all test ys) → IsTrue (list_all test (xs ++ ys))
    more [] ys p q = q
    more (x ∷ xs) ys p q = let parts = both (test x) (list_all test xs) p in each (test x) (list_all test (xs ++ ys)) parts.0 (more xs ys parts.1 q)

all_made : {X : Type 0} (g : X → DbChange) (xs : List X) → ((x : X) → IsTrue (makes_a_part (g x))) → IsTrue (list_all makes_a_part (map g xs))
all_made g [] h = refl
all_made g (x ∷ xs) h = each (makes_a_part (g x)) (list_all makes_a_part (map g xs)) (h x) (all_made g xs h)

-- ---- indexes of their bases

spec_is : (s : Spec) → is_index s ≡ true → spec.Index ≡ s
spec_is spec.Heap h = cc h
spec_is spec.Hash h = cc h
spec_is spec.Isam h = cc h
spec_is spec.View h = cc h
spec_is spec.Index h = refl

none_is : (attrs : List Attr) → not (is_any attrs) ≡ true → [] ≡ attrs
none_is [] h = refl
none_is (a ∷ attrs) h = cc h

-- an index of its base is the one that its change makes
index_again : (x : Index) → IsTrue (is_of_its_base x) → index_of (made_index x) ≡ x ∷ []
index_again x t =
    let kind = both (is_index x.info.spec) (not (is_any x.info.attrs) && bytes_eq x.info.key.owner x.base.owner) t in
    let attrs = both (not (is_any x.info.attrs)) (bytes_eq x.info.key.owner x.base.owner) kind.1 in
    let owner : x.info.key.owner ≡ x.base.owner = (bytes_eq-Decides x.info.key.owner x.base.owner).0 attrs.1 in
    λ i. record { info = record { key = record { owner = sym owner i; name = x.info.key.name }; spec = spec_is x.info.spec kind.0 i; attrs = none_is x.info.attrs attrs.0 i; keys = x.info.keys }; base = x.base } ∷ []

-- the indexes of a database are of their bases where their owners agree
pub of_their_bases : (dba : List ℕ) (p : SchemaParts) (db : Db) → whole dba (parts_in p) ≡ Some db → IsDatabase db → index_owners_agree db ≡ true → list_all (λ x. is_of_its_base (index_in x)) p.indexes ≡ true
unfolding parts_in index_owners_agree
of_their_bases dba p db e is agree =
    as_test (λ x. is_of_its_base (index_in x)) p.indexes (all_unmapped (λ x. IsTrue (is_of_its_base x)) index_in p.indexes
    (all_shuffled (λ x. IsTrue (is_of_its_base x)) db.indexes (map index_in p.indexes) (back (map index_in p.indexes) db.indexes (whole_is dba (parts_in p) db e).indexes)
    (all_of (λ x. IsTrue (is_of_its_base x)) db.indexes (λ x at. (
    let stands = in_test (valid_index db) db.indexes x is.indexes_stand at in
    let kind = both (is_index x.info.spec) _ stands in
    let base = both _ _ kind.1 in
    let attrs = both (not (is_any x.info.attrs)) _ base.1 in
    each _ _ kind.0 (each _ _ attrs.0 (in_test (λ x. bytes_eq x.info.key.owner x.base.owner) db.indexes x agree at)))))))

-- and so they do where all are of their bases
pub owners_of_bases : (dba : List ℕ) (p : SchemaParts) (db : Db) → list_all (λ x. is_of_its_base (index_in x)) p.indexes ≡ true → whole dba (parts_in p) ≡ Some db → index_owners_agree db ≡ true
unfolding parts_in index_owners_agree
owners_of_bases dba p db own e =
    as_test (λ x. bytes_eq x.info.key.owner x.base.owner) db.indexes
    (all_shuffled (λ x. IsTrue (bytes_eq x.info.key.owner x.base.owner)) (map index_in p.indexes) db.indexes (whole_is dba (parts_in p) db e).indexes
    (all_mapped (λ x. IsTrue (bytes_eq x.info.key.owner x.base.owner)) index_in p.indexes
    (all_of (λ x. IsTrue (bytes_eq (index_in x).info.key.owner (index_in x).base.owner)) p.indexes (λ x at. (
    let t = in_test (λ x. is_of_its_base (index_in x)) p.indexes x own at in
    let kind = both (is_index x.info.spec) (not (is_any x.info.attrs) && bytes_eq x.info.key.owner x.base.owner) t in
    (both (not (is_any x.info.attrs)) (bytes_eq x.info.key.owner x.base.owner) kind.1).1)))))

-- ---- before anything is applied

-- what five lists give is what each gives
five_is : {X Y : Type 0} (f : X → List Y) (a b c d e : List X) (k l m n o : List Y) → flat_map f a ≡ k → flat_map f b ≡ l → flat_map f c ≡ m → flat_map f d ≡ n → flat_map f e ≡ o
    → flat_map f ((((a ++ b) ++ c) ++ d) ++ e) ≡ (((k ++ l) ++ m) ++ n) ++ o
five_is f a b c d e k l m n o p q r s t = flat_five f a b c d e ∙ (λ i. (((p i ++ q i) ++ r i) ++ s i) ++ t i)

-- these stand beside none
beside_none : {Y : Type 0} (made given all : List Y) → made ≡ given → given ++ [] ≡ all → Shuffled (made ++ []) all
beside_none made given all e f = subst (λ l. Shuffled l all) (sym (ap (λ l. l ++ []) e ∙ f)) (same all)

pub all_is_left : (dba : List ℕ) (p : SchemaParts) → list_all (λ x. is_of_its_base (index_in x)) p.indexes ≡ true → IsLeft dba (changes_of p) (nothing_in dba) (parts_in p)
unfolding changes_of parts_in
all_is_left dba p own = record {
  administrator = refl;
  kinds = all_five makes_a_part a b c d e (all_made made_relation p.relations (λ x. refl)) (all_made (λ x. made_index (index_in x)) p.indexes (λ x. refl)) (all_made (λ v. made_view (view_in v)) p.views (λ v. refl))
      (all_made made_rule p.rules (λ r. refl)) (all_made made_permit p.permits (λ r. refl));
  bare = tt;
  relations = beside_none (flat_map relation_of all) ((((p.relations ++ []) ++ []) ++ []) ++ []) p.relations
      (five_is relation_of a b c d e p.relations [] [] [] [] (flat_each relation_of made_relation (λ x. x) p.relations (for_each _ p.relations (λ x. refl)) ∙ map_itself p.relations) (no_indexes relation_of (λ x. refl)) (no_views relation_of (λ v. refl)) (no_rules relation_of (λ r. refl)) (no_permits relation_of (λ r. refl)))
      (append-nil ((((p.relations ++ []) ++ []) ++ []) ++ []) ∙ append-nil (((p.relations ++ []) ++ []) ++ []) ∙ append-nil ((p.relations ++ []) ++ []) ∙ append-nil (p.relations ++ []) ∙ append-nil p.relations);
  indexes = beside_none (flat_map index_of all) (((indexes ++ []) ++ []) ++ []) indexes
      (five_is index_of a b c d e [] indexes [] [] [] (no_relations index_of (λ x. refl)) (flat_each index_of (λ x. made_index (index_in x)) index_in p.indexes
      (each_again p.indexes own)) (no_views index_of (λ v. refl)) (no_rules index_of (λ r. refl)) (no_permits index_of (λ r. refl)))
      (append-nil (((indexes ++ []) ++ []) ++ []) ∙ append-nil ((indexes ++ []) ++ []) ∙ append-nil (indexes ++ []) ∙ append-nil indexes);
  views = beside_none (flat_map view_of all) ((views ++ []) ++ []) views
      (five_is view_of a b c d e [] [] views [] [] (no_relations view_of (λ x. refl)) (no_indexes view_of (λ x. refl)) (flat_each view_of (λ v. made_view (view_in v)) view_in p.views (for_each _ p.views (λ v. refl)))
      (no_rules view_of (λ r. refl)) (no_permits view_of (λ r. refl)))
      (append-nil ((views ++ []) ++ []) ∙ append-nil (views ++ []) ∙ append-nil views);
  rules = beside_none (flat_map rule_of all) (p.rules ++ []) p.rules
      (five_is rule_of a b c d e [] [] [] p.rules [] (no_relations rule_of (λ x. refl)) (no_indexes rule_of (λ x. refl)) (no_views rule_of (λ v. refl))
      (flat_each rule_of made_rule (λ r. r) p.rules (for_each _ p.rules (λ r. refl)) ∙ map_itself p.rules) (no_permits rule_of (λ r. refl)))
      (append-nil (p.rules ++ []) ∙ append-nil p.rules);
  permits = beside_none (flat_map permit_of all) p.permits p.permits
      (five_is permit_of a b c d e [] [] [] [] p.permits (no_relations permit_of (λ x. refl)) (no_indexes permit_of (λ x. refl)) (no_views permit_of (λ v. refl)) (no_rules permit_of (λ r. refl))
      (flat_each permit_of made_permit (λ r. r) p.permits (for_each _ p.permits (λ r. refl)) ∙ map_itself p.permits))
      (append-nil p.permits);
}
  where
    a : List DbChange
    a = map made_relation p.relations

    b : List DbChange
    b = map (λ x. made_index (index_in x)) p.indexes

    c : List DbChange
    c = map (λ v. made_view (view_in v)) p.views

    d : List DbChange
    d = map made_rule p.rules

    e : List DbChange
    e = map made_permit p.permits

    all : List DbChange
    all = (((a ++ b) ++ c) ++ d) ++ e

    indexes : List Index
    indexes = map index_in p.indexes

    views : List View
    views = map view_in p.views

    no_relations : {Z : Type 0} (f : DbChange → List Z) → ((x : RelInfo) → f (made_relation x) ≡ []) → flat_map f a ≡ []
    no_relations f h = flat_none f made_relation p.relations h

    no_indexes : {Z : Type 0} (f : DbChange → List Z) → ((x : IndexPart) → f (made_index (index_in x)) ≡ []) → flat_map f b ≡ []
    no_indexes f h = flat_none f (λ x. made_index (index_in x)) p.indexes h

    no_views : {Z : Type 0} (f : DbChange → List Z) → ((v : ViewPart) → f (made_view (view_in v)) ≡ []) → flat_map f c ≡ []
    no_views f h = flat_none f (λ v. made_view (view_in v)) p.views h

    no_rules : {Z : Type 0} (f : DbChange → List Z) → ((r : RelKey × Rule) → f (made_rule r) ≡ []) → flat_map f d ≡ []
    no_rules f h = flat_none f made_rule p.rules h

    no_permits : {Z : Type 0} (f : DbChange → List Z) → ((r : RelKey × Permit) → f (made_permit r) ≡ []) → flat_map f e ≡ []
    no_permits f h = flat_none f made_permit p.permits h

    each_again : (xs : List IndexPart) → IsTrue (list_all (λ x. is_of_its_base (index_in x)) xs) → AllByRecursion (λ x. index_of (made_index (index_in x)) ≡ index_in x ∷ []) xs
    each_again [] t = tt
    each_again (x ∷ xs) t = let parts = both (is_of_its_base (index_in x)) (list_all (λ x. is_of_its_base (index_in x)) xs) t in (index_again (index_in x) parts.0, each_again xs parts.1)

-- ---- whether a change may be applied

pub fit_is : (db : Db) (c : DbChange) (fit : Bool) → IsDatabase db → ((fit ≡ true) ↔ IsLawful db c) → fit ≡ change_is_fit db c
fit_is db c true is h = sym ((fits_exactly db c is).1 (h.0 refl))
fit_is db c false is h = go (change_is_fit db c) refl
  where
    go : (b : Bool) → change_is_fit db c ≡ b → false ≡ b
    go true e = h.1 ((fits_exactly db c is).0 e)
    go false e = refl

pub lawful_where_fit : (db : Db) (c : DbChange) (fit : Bool) → IsDatabase db → fit ≡ change_is_fit db c → fit ≡ true → IsLawful db c
lawful_where_fit db c fit is e t = (fits_exactly db c is).0 (sym e ∙ t)

-- ---- a round

-- a step is one of a round
pub round_step : (db later : Db) (left more : List DbChange) (c : DbChange) (changes : List DbChange) → (later, more) ≡ stepped db left c
    → behind left (round db (c ∷ changes)) ≡ behind more (round later changes)
unfolding round
round_step db later left more c changes e = go (change_is_fit db c) e
  where
    go : (b : Bool) → (later, more) ≡ elim b as (λ b. Db × List DbChange) [ true ↦ (laid db c, left) | false ↦ (db, left ++ c ∷ []) ]
        → behind left (elim b as (λ b. Db × List DbChange) [ true ↦ round (laid db c) changes | false ↦ (let after = round db changes in (after.0, c ∷ after.1)) ]) ≡ behind more (round later changes)
    go true e = ap (λ (s : Db × List DbChange). behind s.1 (round s.0 changes)) (sym e)
    go false e =
        (λ i. ((round db changes).0, sym (append_assoc left (c ∷ []) (round db changes).1) i))
        ∙ ap (λ (s : Db × List DbChange). behind s.1 (round s.0 changes)) (sym e)

-- a step that applies its change
pub stepped_laid : (db later : Db) (left : List DbChange) (c : DbChange) → true ≡ change_is_fit db c → later ≡ laid db c → (later, left) ≡ stepped db left c
stepped_laid db later left c e f =
    (λ i. (f i, left)) ∙ ap (λ b. elim b as (λ b. Db × List DbChange) [ true ↦ (laid db c, left) | false ↦ (db, left ++ c ∷ []) ]) e

-- a step that leaves it
pub stepped_left : (db later : Db) (left more : List DbChange) (c : DbChange) → false ≡ change_is_fit db c → later ≡ db → more ≡ left ++ c ∷ [] → (later, more) ≡ stepped db left c
stepped_left db later left more c e f g =
    (λ i. (f i, g i)) ∙ ap (λ b. elim b as (λ b. Db × List DbChange) [ true ↦ (laid db c, left) | false ↦ (db, left ++ c ∷ []) ]) e

-- a round that is over
pub round_over : (db : Db) (left rest : List DbChange) (all : Db × List DbChange) → length rest ≡ 0 → behind left (round db rest) ≡ all → (db, left) ≡ all
unfolding round
round_over db left [] all none e = (λ i. (db, sym (append-nil left) i)) ∙ e
round_over db left (c ∷ rest) all none e = absurd (omega (arith, none))

-- a step and then what is left of the round
pub round_goes_on : (db later : Db) (left more : List DbChange) (c : DbChange) (changes : List DbChange) (all : Db × List DbChange) → (later, more) ≡ stepped db left c
    → behind left (round db (c ∷ changes)) ≡ all → behind more (round later changes) ≡ all
round_goes_on db later left more c changes all e f = sym (round_step db later left more c changes e) ∙ f

-- what is pushed in turn
pub pushed : (p : SchemaParts) (a b c d e f : List DbChange) → a ≡ [] → b ≡ a ++ map made_relation p.relations → c ≡ b ++ map (λ x. made_index (index_in x)) p.indexes
    → d ≡ c ++ map (λ v. made_view (view_in v)) p.views → e ≡ d ++ map made_rule p.rules → f ≡ e ++ map made_permit p.permits → f ≡ changes_of p
unfolding changes_of
pushed p a b c d e f none relations indexes views rules permits =
    permits ∙ ap (λ l. l ++ map made_permit p.permits) (rules ∙ ap (λ l. l ++ map made_rule p.rules) (views ∙ ap (λ l. l ++ map (λ v. made_view (view_in v)) p.views)
    (indexes ∙ ap (λ l. l ++ map (λ x. made_index (index_in x)) p.indexes) (relations ∙ ap (λ l. l ++ map made_relation p.relations) none))))

-- In a database a view has the rows of the answer of its query.
use Rattle.std.proofs.Common.{◌≡◌, inl, inr, refl, sym, ap, ◌∙◌, subst, ℕ, suc, Bool, true, false, not, cond, ◌↔◌, List, [], ◌∷◌, ◌++◌, map, Option, Some, None, is_some, option_map, find, Contains, arith}
use Rattle.std.proofs.lemmas.List.{map-append}
use Rattle.std.specs.List.{list_any, list_all}
use Rattle.calculus.specs.declared.value.Kind.{Kind}
use Rattle.calculus.specs.declared.query.RelKey.{RelKey}
use Rattle.calculus.specs.declared.query.QTerm.{QTerm, Int, Chars, Attr, Agg'}
use Rattle.calculus.specs.declared.query.QQual.{QQual, True, Cmp, Like}
use Rattle.calculus.specs.declared.query.Target.{Target}
use Rattle.calculus.specs.declared.query.Query.{Query}
use Rattle.calculus.specs.Tree.{neg, abs, operation, concat, both, either, negated}
use Rattle.calculus.specs.Rows.{Row}
use Rattle.calculus.specs.Lists.{differ_by}
use Rattle.calculus.specs.Limits.{greatest_level}
use Rattle.calculus.specs.Keys.{same_key}
use Rattle.calculus.specs.Kinds.{kind_of, kinds_fit, number_kind, operated_kind, joined_kind, comparable, is_text_kind}
use Rattle.calculus.specs.Term.{no_aggs}
use Rattle.calculus.specs.Who.{Who}
use Rattle.calculus.specs.Database.{Db, Relation, View, relation_at, view_at}
use Rattle.calculus.specs.Catalogue.{catalogue_at}
use Rattle.calculus.specs.Stored.{Range, Kept, Viewed, range_at}
use Rattle.calculus.specs.QueryParts.{targets_of, qual_of, term_aggregates, qual_aggregates, query_aggregates}
use Rattle.calculus.specs.IsDatabase.{IsDatabase, has_kind, valid_query, var_kinds}
use Rattle.calculus.specs.Assignments.{assigned}
use Rattle.calculus.specs.Targets.{rows_given}
use Rattle.calculus.specs.VariableRows.{range_rows, view_rows, rows_within, rows_of}
use Rattle.calculus.specs.Aggregate.{aggregates}
use Rattle.calculus.specs.Answer.{answer}
use Rattle.calculus_laws.specs.TupleCalculus.{IsAskedFor}
use Rattle.calculus_laws.proofs.Asked.{answered}
use Rattle.calculus_laws.proofs.Enough.{same_key-exact, more_levels_in_a_database}
use Rattle.calculus_laws.proofs.Members.{In, In-any, In-append_left, In-append_right}
use Rattle.calculus_laws.proofs.Plain.{in_targets, given_plain}
use Rattle.calculus_laws.proofs.SameRows.{both_true, all_at}

-- ---- what has a kind has no aggregate

number_there : (k : Option Kind) → is_some (number_kind k) ≡ true → is_some k ≡ true
unfolding number_kind
number_there None h = cc h
number_there (Some k) h = refl

operated_there : (k l : Option Kind) → is_some (operated_kind k l) ≡ true → (is_some k ≡ true) × (is_some l ≡ true)
unfolding operated_kind number_kind
operated_there None l h = cc h
operated_there (Some k) (Some l) h = (refl, refl)
operated_there (Some k) None h = cc (go _ h)
  where
    go : (b : Bool) → is_some (cond b (number_kind None) None) ≡ true → false ≡ true
    go true h = h
    go false h = h

joined_there : (k l : Option Kind) → is_some (joined_kind k l) ≡ true → (is_some k ≡ true) × (is_some l ≡ true)
unfolding joined_kind
joined_there None l h = cc h
joined_there (Some k) None h = cc h
joined_there (Some k) (Some l) h = (refl, refl)

compared_there : (k l : Option Kind) → comparable k l ≡ true → (is_some k ≡ true) × (is_some l ≡ true)
unfolding comparable
compared_there None l h = cc h
compared_there (Some k) None h = cc h
compared_there (Some k) (Some l) h = (refl, refl)

text_there : (k : Option Kind) → is_text_kind k ≡ true → is_some k ≡ true
unfolding is_text_kind
text_there None h = cc h
text_there (Some k) h = refl

kind_there : (o : Option Kind) (kind : Kind) → has_kind o kind ≡ true → is_some o ≡ true
kind_there None kind h = cc h
kind_there (Some k) kind h = refl

-- both lists are empty
neither : {X : Type 0} (xs ys : List X) → xs ≡ [] → ys ≡ [] → xs ++ ys ≡ []
neither xs ys e f = λ i. e i ++ f i

pub term_plain : (vars : List (List Kind)) (t : QTerm) → is_some (kind_of t vars) ≡ true → term_aggregates t ≡ []
unfolding kind_of term_aggregates
term_plain vars (Int n) h = refl
term_plain vars (Chars bytes) h = refl
term_plain vars (Attr var attr) h = refl
term_plain vars (neg t) h = term_plain vars t (number_there (kind_of t vars) h)
term_plain vars (abs t) h = term_plain vars t (number_there (kind_of t vars) h)
term_plain vars (operation op t u) h =
    let there = operated_there (kind_of t vars) (kind_of u vars) h in
    neither (term_aggregates t) (term_aggregates u) (term_plain vars t there.0) (term_plain vars u there.1)
term_plain vars (concat t u) h =
    let there = joined_there (kind_of t vars) (kind_of u vars) h in
    neither (term_aggregates t) (term_aggregates u) (term_plain vars t there.0) (term_plain vars u there.1)
term_plain vars (Agg' mark row) h = cc h

qual_plain : (vars : List (List Kind)) (q : QQual) → kinds_fit q vars ≡ true → qual_aggregates q ≡ []
unfolding kinds_fit qual_aggregates
qual_plain vars True h = refl
qual_plain vars (Cmp op t u) h =
    let there = compared_there (kind_of t vars) (kind_of u vars) h in
    neither (term_aggregates t) (term_aggregates u) (term_plain vars t there.0) (term_plain vars u there.1)
qual_plain vars (Like t pattern same) h = term_plain vars t (text_there (kind_of t vars) h)
qual_plain vars (both p q) h =
    let fit = both_true (kinds_fit p vars) (kinds_fit q vars) h in
    neither (qual_aggregates p) (qual_aggregates q) (qual_plain vars p fit.0) (qual_plain vars q fit.1)
qual_plain vars (either p q) h =
    let fit = both_true (kinds_fit p vars) (kinds_fit q vars) h in
    neither (qual_aggregates p) (qual_aggregates q) (qual_plain vars p fit.0) (qual_plain vars q fit.1)
qual_plain vars (negated p) h = qual_plain vars p h

targets_are_plain : (vars : List (List Kind)) (ts : List Target) → list_all (λ t. has_kind (kind_of t.term vars) t.kind) ts ≡ true → in_targets ts ≡ []
targets_are_plain vars [] h = refl
targets_are_plain vars (t ∷ ts) h =
    let fit = both_true (has_kind (kind_of t.term vars) t.kind) (list_all (λ t. has_kind (kind_of t.term vars) t.kind) ts) h in
    neither (term_aggregates t.term) (in_targets ts) (term_plain vars t.term (kind_there (kind_of t.term vars) t.kind fit.0)) (targets_are_plain vars ts fit.1)

pub stands_plain : (db : Db) (q : Query) → valid_query db q ≡ true → query_aggregates q ≡ []
stands_plain db q h =
    let fit = both_true (list_all (λ t. has_kind (kind_of t.term (var_kinds db q)) t.kind) (targets_of q)) (kinds_fit (qual_of q) (var_kinds db q)) h in
    neither (in_targets (targets_of q)) (qual_aggregates (qual_of q)) (targets_are_plain (var_kinds db q) (targets_of q) fit.0) (qual_plain (var_kinds db q) (qual_of q) fit.1)

-- ---- what stands under a view's key is the view

pub found : {X : Type 0} (p : X → Bool) (xs : List X) (x : X) → find p xs ≡ Some x → In x xs × (p x ≡ true)
found p [] x h = cc h
found {X} p (first ∷ xs) x h = go (p first) refl (found p xs x) h
  where
    the : (x y : X) → Some x ≡ Some y → x ≡ y
    the x y h = cc h

    go : (b : Bool) → p first ≡ b → (find p xs ≡ Some x → In x xs × (p x ≡ true)) → cond b (Some first) (find p xs) ≡ Some x → In x (first ∷ xs) × (p x ≡ true)
    go true e later h = (inl (the first x h), ap p (sym (the first x h)) ∙ e)
    go false e later h = let (inside, passes) = later h in (inr inside, passes)

In-map : {X Y : Type 0} (f : X → Y) (xs : List X) (x : X) → In x xs → In (f x) (map f xs)
In-map f [] x h = absurd h
In-map f (first ∷ xs) x (inl e) = inl (ap f e)
In-map f (first ∷ xs) x (inr h) = inr (In-map f xs x h)

differ_across : {X : Type 0} (same : X → X → Bool) (xs ys : List X) (x y : X) → differ_by same (xs ++ ys) ≡ true → In x xs → In y ys → ¬ (same x y ≡ true)
differ_across same [] ys x y d h k e = h
differ_across same (first ∷ xs) ys x y d (inl is) k e =
    let differ = both_true (not (list_any (same first) (xs ++ ys))) (differ_by same (xs ++ ys)) d in
    let some : list_any (same first) (xs ++ ys) ≡ true = In-any (same first) (xs ++ ys) y (In-append_right xs ys y k) (ap (λ z. same z y) is ∙ e) in
    let no : false ≡ true = sym (ap not some) ∙ differ.0 in
    cc no
differ_across same (first ∷ xs) ys x y d (inr h) k e =
    differ_across same xs ys x y (both_true (not (list_any (same first) (xs ++ ys))) (differ_by same (xs ++ ys)) d).1 h k e

no_relation : (db : Db) → IsDatabase db → (key : RelKey) (view : View) → view_at db key ≡ Some view → (relation : Relation) → ¬ (relation_at db key ≡ Some relation)
no_relation db d key view v relation r =
    let of_view = found (λ v. same_key v.info.key key) db.views view v in
    let of_relation = found (λ r. same_key r.info.key key) db.relations relation r in
    let infos = map (λ v. v.info) db.views ++ map (λ x. x.info) db.indexes in
    let apart : differ_by same_key (map (λ i. i.key) (map (λ r. r.info) db.relations) ++ map (λ i. i.key) infos) ≡ true =
    sym (ap (differ_by same_key) (map-append (λ i. i.key) (map (λ r. r.info) db.relations) infos)) ∙ d.keys_differ in
    differ_across same_key (map (λ i. i.key) (map (λ r. r.info) db.relations)) (map (λ i. i.key) infos) relation.info.key view.info.key apart
    (In-map (λ i. i.key) (map (λ r. r.info) db.relations) relation.info (In-map (λ r. r.info) db.relations relation of_relation.0))
    (In-map (λ i. i.key) infos view.info (In-append_left (map (λ v. v.info) db.views) (map (λ x. x.info) db.indexes) view.info (In-map (λ v. v.info) db.views view of_view.0)))
    (ap (same_key relation.info.key) (same_key-exact view.info.key key of_view.1) ∙ of_relation.1)

pub ranged : (db : Db) → IsDatabase db → (key : RelKey) (view : View) → view_at db key ≡ Some view → range_at db key ≡ Some (Viewed view)
unfolding range_at
ranged db d key view v = go (relation_at db key) (no_relation db d key view v)
  where
    go : (r : Option Relation) → ((relation : Relation) → ¬ (r ≡ Some relation))
        → (elim r as (λ r. Option Range) [
          | Some relation ↦ Some (Kept relation)
          | None ↦ elim (view_at db key) as (λ w. Option Range) [ Some view ↦ Some (Viewed view) | None ↦ option_map Kept (catalogue_at db key) ]
        ]) ≡ Some (Viewed view)
    go None none = ap (λ w. elim w as (λ w. Option Range) [ Some view ↦ Some (Viewed view) | None ↦ option_map Kept (catalogue_at db key) ]) v
    go (Some relation) none = absurd (none relation refl)

-- ---- the rows of a view

above : (db : Db) (who : Who) (n : ℕ) (key : RelKey) (view : View) (attrs : List ℕ) → range_at db key ≡ Some (Viewed view)
    → rows_within (suc n) db who key attrs ≡ rows_given no_aggs view.query (assigned (rows_within n db who) view.query)
above db who n key view attrs h = ap (range_rows (view_rows (rows_within n db who)) db who key attrs) h

given : (db : Db) (who : Who) (key : RelKey) (view : View) (attrs : List ℕ) → range_at db key ≡ Some (Viewed view)
    → rows_within (suc greatest_level) db who key attrs ≡ rows_given no_aggs view.query (assigned (rows_of db who) view.query)
unfolding rows_of
given db who key view attrs h = above db who greatest_level key view attrs h

pub view_answers : (db : Db) → IsDatabase db → (who : Who) (key : RelKey) (view : View) → view_at db key ≡ Some view
    → (attrs : List ℕ) → rows_of db who key attrs ≡ answer db who view.query
unfolding answer
view_answers db d who key view v attrs =
    let is : In view db.views = (found (λ v. same_key v.info.key key) db.views view v).0 in
    let plain : query_aggregates view.query ≡ [] = stands_plain db view.query (all_at (λ v. valid_query db v.query) db.views view is d.view_queries_stand) in
    sym (more_levels_in_a_database db d who key (suc greatest_level) (omega arith) attrs)
    ∙ given db who key view attrs (ranged db d key view v)
    ∙ given_plain no_aggs (aggregates db who) view.query (assigned (rows_of db who) view.query) plain

pub view_rows_asked : (db : Db) → IsDatabase db → (who : Who) (key : RelKey) (view : View) → view_at db key ≡ Some view
    → (attrs : List ℕ) (row : Row) → Contains (rows_of db who key attrs) row ↔ IsAskedFor db who view.query row
view_rows_asked db d who key view v attrs row =
    let same = view_answers db d who key view v attrs in (
      λ c. (answered db who view.query row).0 (subst (λ rows. Contains rows row) same c),
      λ h. subst (λ rows. Contains rows row) (sym same) ((answered db who view.query row).1 h),
    )

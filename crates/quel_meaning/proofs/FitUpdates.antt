-- What a resolved update of a relation asks for is fit.
use Rattle.std.proofs.Common.{◌≡◌, refl, sym, ap, ◌∙◌, subst, ℕ, nat_eq, nat_lt, nat_le, slice_get, true, false, ◌&&◌, List, [], ◌∷◌, map, length, Option, Some, None, is_some}
use Rattle.std.specs.List.{list_all}
use Rattle.std.specs.Str.{bytes_eq}
use Rattle.std.proofs.lemmas.Bool.{eq-eqb}
use Rattle.std.proofs.lemmas.List.{length-map}
use Rattle.calculus.specs.declared.value.Domain.TheVariants.{I1, I2, I4, C}
use Rattle.calculus.specs.declared.value.Kind.{Kind}
use Rattle.calculus.specs.declared.value.Kind.TheVariants.{Of, Wide}
use Rattle.calculus.specs.declared.query.Query.{Query}
use Rattle.calculus.specs.declared.query.Target.{Target}
use Rattle.calculus.specs.declared.request.UpdateOp.TheVariants as op
use Rattle.calculus.specs.declared.schema.RelInfo.{RelInfo}
use Rattle.calculus.specs.declared.statement.Item.{Item}
use Rattle.calculus.specs.declared.statement.Qual.{Qual}
use Rattle.calculus.specs.declared.statement.Statement.{Statement}
use Rattle.calculus.specs.declared.statement.Statement.TheVariants as statement
use Rattle.calculus.specs.Catalogue.{is_catalogue}
use Rattle.calculus.specs.Database.{Db, view_at, is_relation}
use Rattle.calculus.specs.IsDatabase.{IsDatabase, is_kind, has_kind, same_kind, var_kinds}
use Rattle.calculus.specs.Kinds.{comparable, kinds_fit}
use Rattle.calculus.specs.Lists.{differ_by}
use Rattle.calculus.specs.QueryParts.{vars_of, targets_of}
use Rattle.calculus.specs.Replacement.{first_refusal}
use Rattle.calculus.specs.Stored.{info_at, attrs_in, attrs_at}
use Rattle.quel_meaning.specs.IsWritten.{items_are_written}
use Rattle.quel_meaning.specs.Scope.{Scope, ranged, key_found, place_found}
use Rattle.quel_meaning.specs.Naming.{AttrIn, AttrOf, mentions, no_refusal, name_refusal}
use Rattle.quel_meaning.specs.WrittenParts.{vars_in}
use Rattle.quel_meaning.specs.Aggregates.{aggregates_allowed}
use Rattle.quel_meaning.specs.WrittenQuery.{query_of}
use Rattle.quel_meaning.specs.KindsInQueries.{kind_in_query, query_fits, assignments_fit}
use Rattle.quel_meaning.specs.Passing.{has_too_many}
use Rattle.quel_meaning.specs.StatementUpdate.{titles_of, changing, append_of, replace_of, delete_of}
use Rattle.quel_meaning.specs.Causes.{repeats, refusals, update_refusals, delete_refusals}
use Rattle.quel_meaning.specs.Resolved.{tree_of}
use Rattle.quel_meaning.specs.FitQueries.{kept_or_viewed, has_few_targets, reads_fit}
use Rattle.quel_meaning.specs.Fit.{is_this_key, update_kinds_fit, update_fits, suits}
use Rattle.quel_meaning.proofs.Each.{Each, passed, each_passes, each_to, left, right, and, not_not}
use Rattle.quel_meaning.proofs.Keys.{keys_same}
use Rattle.quel_meaning.proofs.Found.{IsFound, IsNamed, IsRanged, names_found, named_with, named_again, ranged_with, ranged_is, ranged_again}
use Rattle.quel_meaning.proofs.GoodTargets.{targets_good}
use Rattle.quel_meaning.proofs.LawfulKinds.{IsKind}
use Rattle.quel_meaning.proofs.DatabaseFacts.{info_stands, found_relation}
use Rattle.quel_meaning.proofs.Titles.{HasAttr, titles, titled_in, titled_of, places_in_range, places_differ, few_titles}
use Rattle.quel_meaning.proofs.Few.{update_expanded_few}
use Rattle.quel_meaning.proofs.ReadsFit.{none_of, reads}

-- ---- kinds

same_comparable : (k l : Kind) → same_kind k l ≡ true → comparable (Some k) (Some l) ≡ true
unfolding comparable
same_comparable Wide Wide h = refl
same_comparable Wide (Of e) h = absurd (cc h)
same_comparable (Of d) Wide h = absurd (cc h)
same_comparable (Of I1) (Of I1) h = refl
same_comparable (Of I2) (Of I2) h = refl
same_comparable (Of I4) (Of I4) h = refl
same_comparable (Of (C m)) (Of (C n)) h = refl
same_comparable (Of d) (Of e) h = absurd (cc h)

kind_comparable : (o : Option Kind) (l : Kind) → has_kind o l ≡ true → comparable o (Some l) ≡ true
kind_comparable None l h = absurd (cc h)
kind_comparable (Some k) l h = same_comparable k l h

-- each target is of a kind
abbrev pub HaveKinds : Query → Type 0
HaveKinds q = Each (λ (t : Target). IsKind t.kind) (targets_of q)

pub fitting_kinds : (db : Db) (q : Query) → HaveKinds q → query_fits db q ≡ true → update_kinds_fit db q ≡ true
unfolding query_fits
fitting_kinds db q kinds h =
    and _ _ (passed (λ (t : Target). is_kind t.kind) (targets_of q) kinds)
    (and _ _
    (passed (λ (t : Target). comparable (kind_in_query db t.term (var_kinds db q)) (Some t.kind)) (targets_of q)
    (each_to _ _ (λ (t : Target) k. kind_comparable (kind_in_query db t.term (var_kinds db q)) t.kind k) (targets_of q)
    (each_passes (λ (t : Target). has_kind (kind_in_query db t.term (var_kinds db q)) t.kind) (targets_of q) (left _ _ h))))
    (right _ _ h))

-- ---- what an update of a relation that was found has

-- what is known of an update of `info` before its operation is looked at
record Ready (s : Scope) (info : RelInfo) (q : Query) : Type 0 where
  is : IsDatabase s.db
  there : info_at s.db info.key ≡ Some info
  reading : has_few_targets q ≡ true → reads_fit (kept_or_viewed s.db) s.db q ≡ true
  few : has_too_many s.db q ≡ false
  good : HaveKinds q
  kinds : query_fits s.db q ≡ true
  relation : is_relation s.db info.key ≡ true

names_differ : (q : Query) → repeats (titles_of q) ≡ false → differ_by bytes_eq (titles_of q) ≡ true
names_differ q h = not_not _ h

few_targets : (s : Scope) (info : RelInfo) (q : Query) → Ready s info q → Each (HasAttr info) (titles_of q) → differ_by bytes_eq (titles_of q) ≡ true → has_few_targets q ≡ true
few_targets s info q r h k =
    subst (λ n. nat_le n 49 ≡ true) (length-map (targets_of q) (λ (t : Target). t.name)) (few_titles info (titles_of q) (info_stands s.db r.is info.key info r.there) h k)

placed : (s : Scope) (info : RelInfo) (q : Query) → Ready s info q → Each (HasAttr info) (titles_of q) → differ_by bytes_eq (titles_of q) ≡ true
    → (list_all (λ p. nat_lt p (length (attrs_at s.db info.key))) (map (place_found (Some info)) (titles_of q))
    && (differ_by nat_eq (map (place_found (Some info)) (titles_of q)) && nat_eq (length (map (place_found (Some info)) (titles_of q))) (length (targets_of q)))) ≡ true
placed s info q r h k =
    and _ _
    (subst (λ o. list_all (λ p. nat_lt p (length (attrs_in o))) (map (place_found (Some info)) (titles_of q)) ≡ true) (sym r.there) (places_in_range info (titles_of q) h))
    (and _ _ (places_differ info (titles_of q) h k)
    (eq-eqb _ _ (length-map (titles_of q) (place_found (Some info)) ∙ length-map (targets_of q) (λ (t : Target). t.name))))

append_ready : (s : Scope) (info : RelInfo) (q : Query) → Ready s info q → Each (HasAttr info) (titles_of q) → differ_by bytes_eq (titles_of q) ≡ true
    → assignments_fit s.db (changing op.Append 255 (Some info) q) ≡ true → update_fits (kept_or_viewed s.db) s.db (changing op.Append 255 (Some info) q) ≡ true
unfolding update_fits kinds_fit
append_ready s info q r h k a =
    and _ _ (r.reading (few_targets s info q r h k))
    (and _ _ (fitting_kinds s.db q r.good r.kinds)
    (and _ _ a (and _ _ (update_expanded_few s.db (changing op.Append 255 (Some info) q) r.few) (and _ _ (placed s info q r h k) (and _ _ refl (and _ _ r.relation refl))))))

replace_ready : (s : Scope) (info : RelInfo) (q : Query) → Ready s info q → Each (HasAttr info) (titles_of q) → differ_by bytes_eq (titles_of q) ≡ true
    → assignments_fit s.db (changing op.Replace 0 (Some info) q) ≡ true → is_this_key (slice_get (vars_of q) 0) info.key ≡ true
    → update_fits (kept_or_viewed s.db) s.db (changing op.Replace 0 (Some info) q) ≡ true
unfolding update_fits kinds_fit
replace_ready s info q r h k a old =
    and _ _ (r.reading (few_targets s info q r h k))
    (and _ _ (fitting_kinds s.db q r.good r.kinds)
    (and _ _ a (and _ _ (update_expanded_few s.db (changing op.Replace 0 (Some info) q) r.few) (and _ _ (placed s info q r h k) (and _ _ refl (and _ _ r.relation old))))))

delete_ready : (s : Scope) (info : RelInfo) (q : Query) → Ready s info q → Each (HasAttr info) (titles_of q) → differ_by bytes_eq (titles_of q) ≡ true
    → assignments_fit s.db (changing op.Delete 0 (Some info) q) ≡ true → is_this_key (slice_get (vars_of q) 0) info.key ≡ true
    → update_fits (kept_or_viewed s.db) s.db (changing op.Delete 0 (Some info) q) ≡ true
unfolding update_fits kinds_fit
delete_ready s info q r h k a old =
    and _ _ (r.reading (few_targets s info q r h k))
    (and _ _ (fitting_kinds s.db q r.good r.kinds)
    (and _ _ a (and _ _ (update_expanded_few s.db (changing op.Delete 0 (Some info) q) r.few) (and _ _ (placed s info q r h k) (and _ _ refl (and _ _ r.relation old))))))

-- ---- the statements

pub append_fits : (s : Scope) → IsDatabase s.db → (rel : List ℕ) (items : List Item) (qual : Qual) → items_are_written items ≡ true → name_refusal s (statement.Append rel items qual) ≡ None
    → first_refusal (refusals s (statement.Append rel items qual)) ≡ None → suits (kept_or_viewed s.db) s.db s.user (tree_of s (statement.Append rel items qual)) ≡ true
unfolding refusals tree_of suits aggregates_allowed append_of mentions
append_fits s is rel items qual w h k =
    subst (λ o. update_fits (kept_or_viewed s.db) s.db (changing op.Append 255 o q) ≡ true) (sym r.is)
    (append_ready s r.info q ready there (names_differ q none.1.1.0) (subst (λ o. assignments_fit s.db (changing op.Append 255 o q) ≡ true) r.is (right (query_fits s.db q) _ (not_not _ none.1.1.1.0))))
  where
    stmt : Statement
    stmt = statement.Append rel items qual

    q : Query
    q = query_of s stmt

    found : Each (IsFound s) (mentions s stmt)
    found = names_found s stmt h

    r : IsNamed s rel
    r = named_with s no_refusal rel found.0

    none : Each (λ c. c.1 ≡ false) (update_refusals s (aggregates_allowed s stmt) (append_of s rel q))
    none = none_of (update_refusals s (aggregates_allowed s stmt) (append_of s rel q)) k

    there : Each (HasAttr r.info) (titles_of q)
    there = titles (HasAttr r.info) s (λ a. AttrIn rel a ∷ []) (titled_in s rel r.info r.is) stmt qual found.1

    ready : Ready s r.info q
    ready = record {
      is = is;
      there = named_again s rel r;
      reading = reads s stmt h (not_not _ none.0) none.1.0;
      few = none.1.0;
      good = each_to _ _ (λ (t : Target) g. g.1) (targets_of q) (targets_good s is (λ a. AttrIn rel a ∷ []) stmt qual w found.1);
      kinds = left _ _ (not_not _ none.1.1.1.0);
      relation = found_relation s.db r.info.key r.info (named_again s rel r) (subst (λ o. is_catalogue s.db (key_found o) ≡ false) r.is none.1.1.1.1.0) (subst (λ o. is_some (view_at s.db (key_found o)) ≡ false) r.is none.1.1.1.1.1.0);
    }

-- the variable whose rows are replaced or deleted is the query's first, over the relation
first_replaced : (s : Scope) (var : List ℕ) (items : List Item) (qual : Qual) (r : IsRanged s var)
    → is_this_key (slice_get (vars_of (query_of s (statement.Replace var items qual))) 0) r.info.key ≡ true
unfolding query_of vars_in
first_replaced s var items qual r = keys_same _ _ (ap key_found (ranged_is s var r))

first_deleted : (s : Scope) (var : List ℕ) (qual : Qual) (r : IsRanged s var) → is_this_key (slice_get (vars_of (query_of s (statement.Delete var qual))) 0) r.info.key ≡ true
unfolding query_of vars_in
first_deleted s var qual r = keys_same _ _ (ap key_found (ranged_is s var r))

pub replace_fits : (s : Scope) → IsDatabase s.db → (var : List ℕ) (items : List Item) (qual : Qual) → items_are_written items ≡ true → name_refusal s (statement.Replace var items qual) ≡ None
    → first_refusal (refusals s (statement.Replace var items qual)) ≡ None → suits (kept_or_viewed s.db) s.db s.user (tree_of s (statement.Replace var items qual)) ≡ true
unfolding refusals tree_of suits aggregates_allowed replace_of mentions
replace_fits s is var items qual w h k =
    subst (λ o. update_fits (kept_or_viewed s.db) s.db (changing op.Replace 0 o q) ≡ true) (sym over)
    (replace_ready s r.info q ready there (names_differ q none.1.1.0)
    (subst (λ o. assignments_fit s.db (changing op.Replace 0 o q) ≡ true) over (right (query_fits s.db q) _ (not_not _ none.1.1.1.0)))
    (first_replaced s var items qual r))
  where
    stmt : Statement
    stmt = statement.Replace var items qual

    q : Query
    q = query_of s stmt

    found : Each (IsFound s) (mentions s stmt)
    found = names_found s stmt h

    r : IsRanged s var
    r = (ranged_with s no_refusal var found.0).is

    over : ranged s var ≡ Some r.info
    over = ranged_is s var r

    none : Each (λ c. c.1 ≡ false) (update_refusals s (aggregates_allowed s stmt) (replace_of s var q))
    none = none_of (update_refusals s (aggregates_allowed s stmt) (replace_of s var q)) k

    there : Each (HasAttr r.info) (titles_of q)
    there = titles (HasAttr r.info) s (λ a. AttrOf var a ∷ []) (titled_of s var r) stmt qual found.1

    ready : Ready s r.info q
    ready = record {
      is = is;
      there = ranged_again s var r;
      reading = reads s stmt h (not_not _ none.0) none.1.0;
      few = none.1.0;
      good = each_to _ _ (λ (t : Target) g. g.1) (targets_of q) (targets_good s is (λ a. AttrOf var a ∷ []) stmt qual w found.1);
      kinds = left _ _ (not_not _ none.1.1.1.0);
      relation =
          found_relation s.db r.info.key r.info (ranged_again s var r) (subst (λ o. is_catalogue s.db (key_found o) ≡ false) over none.1.1.1.1.0)
          (subst (λ o. is_some (view_at s.db (key_found o)) ≡ false) over none.1.1.1.1.1.0);
    }

pub delete_fits : (s : Scope) → IsDatabase s.db → (var : List ℕ) (qual : Qual) → name_refusal s (statement.Delete var qual) ≡ None
    → first_refusal (refusals s (statement.Delete var qual)) ≡ None → suits (kept_or_viewed s.db) s.db s.user (tree_of s (statement.Delete var qual)) ≡ true
unfolding refusals tree_of suits aggregates_allowed delete_of mentions assignments_fit query_of
delete_fits s is var qual h k =
    subst (λ o. update_fits (kept_or_viewed s.db) s.db (changing op.Delete 0 o q) ≡ true) (sym over)
    (delete_ready s r.info q ready tt refl refl (first_deleted s var qual r))
  where
    stmt : Statement
    stmt = statement.Delete var qual

    q : Query
    q = query_of s stmt

    r : IsRanged s var
    r = (ranged_with s no_refusal var (names_found s stmt h).0).is

    over : ranged s var ≡ Some r.info
    over = ranged_is s var r

    none : Each (λ c. c.1 ≡ false) (delete_refusals s (aggregates_allowed s stmt) (delete_of s var q))
    none = none_of (delete_refusals s (aggregates_allowed s stmt) (delete_of s var q)) k

    ready : Ready s r.info q
    ready = record {
      is = is;
      there = ranged_again s var r;
      reading = reads s stmt h (not_not _ none.0) none.1.0;
      few = none.1.0;
      good = tt;
      kinds = not_not _ none.1.1.0;
      relation =
          found_relation s.db r.info.key r.info (ranged_again s var r) (subst (λ o. is_catalogue s.db (key_found o) ≡ false) over none.1.1.1.0)
          (subst (λ o. is_some (view_at s.db (key_found o)) ≡ false) over none.1.1.1.1.0);
    }

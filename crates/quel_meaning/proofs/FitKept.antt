-- Resolved copies, permits, rules and new relations are fit.
use Rattle.std.proofs.Common.{◌≡◌, refl, sym, ap, ◌∙◌, subst, ℕ, ◌+◌, nat_eq, nat_lt, slice_get, Bool, true, false, ◌&&◌, ◌||◌, not, List, [], ◌∷◌, map, length, Option, Some, None, arith}
use Rattle.std.specs.List.{list_all, list_any, sum_by}
use Rattle.std.specs.Str.{bytes_eq}
use Rattle.std.proofs.lemmas.Bool.{le-leb, ltb-false}
use Rattle.std.proofs.lemmas.List.{length-map}
use Rattle.std.proofs.lemmas.List.Sums.{sum_by-cons}
use Rattle.calculus.specs.declared.request.CopyForm.{CopyForm}
use Rattle.calculus.specs.declared.request.CopyCol.{CopyCol}
use Rattle.calculus.specs.declared.schema.Attr.{Attr}
use Rattle.calculus.specs.declared.schema.RelInfo.{RelInfo}
use Rattle.calculus.specs.declared.statement.Qual.{Qual}
use Rattle.calculus.specs.declared.statement.Statement.{Statement}
use Rattle.calculus.specs.declared.statement.Statement.TheVariants as statement
use Rattle.calculus.specs.declared.value.Domain.{Domain}
use Rattle.calculus.specs.declared.value.Kind.TheVariants.{Of}
use Rattle.calculus.specs.IsDatabase.{attrs_stand, is_kind, is_stored_kind, is_domain, kind_bytes, permit_attrs_stand}
use Rattle.calculus.specs.Kinds.{is_text_kind}
use Rattle.calculus.specs.Limits.{most_attributes, most_row_bytes, most_permits, most_rules, most_listed_attributes}
use Rattle.calculus.specs.Lists.{is_any, differ_by}
use Rattle.calculus.specs.Name.{is_name}
use Rattle.calculus.specs.Change.{permit_numbers, rule_numbers}
use Rattle.calculus.specs.QueryParts.{vars_of}
use Rattle.calculus.specs.Replacement.{first_refusal}
use Rattle.calculus.specs.Stored.{attrs_in, attrs_at, kinds_at}
use Rattle.quel_meaning.specs.Columns.{is_copy_form}
use Rattle.quel_meaning.specs.Planned.{is_past_limit}
use Rattle.quel_meaning.specs.Scope.{Scope, named, ranged, key_found, place_found}
use Rattle.quel_meaning.specs.Naming.{AttrIn, AttrOf, mentions, no_refusal, name_refusal}
use Rattle.quel_meaning.specs.Aggregates.{aggregates_allowed}
use Rattle.quel_meaning.specs.WrittenQuery.{query_of}
use Rattle.quel_meaning.specs.Passing.{is_full, is_too_wide, is_taken}
use Rattle.quel_meaning.specs.Causes.{repeats, is_binary, is_binary_text, row_refusals, refusals}
use Rattle.quel_meaning.specs.Resolved.{stored_attr, copy_col, tree_of}
use Rattle.quel_meaning.specs.FitQueries.{kept_or_viewed}
use Rattle.quel_meaning.specs.Fit.{utility_fits, suits}
use Rattle.quel_meaning.specs.IsWritten.{is_written}
use Rattle.quel_meaning.proofs.Each.{Each, front_of, of_map, in_map, each_to, passed, each_passes, left, right, and, not_left, not_right, not_not, not_so}
use Rattle.quel_meaning.proofs.Found.{names_found, ranged_with, ranged_is, ranged_again, ranged_named}
use Rattle.quel_meaning.proofs.Titles.{HasAttr, titled_of, places_in_range, places_differ}
use Rattle.quel_meaning.proofs.ReadsFit.{none_of}
use Rattle.quel_meaning.proofs.FitUtilities.{named_is, by_name, attrs_there, its_attrs}

-- ---- copies

columns_are_places : (info : RelInfo) (columns : List (List ℕ × CopyForm))
    → map (λ (c : CopyCol). c.attr) (map (copy_col (Some info)) columns) ≡ map (place_found (Some info)) (map (λ (c : List ℕ × CopyForm). c.0) columns)
columns_are_places info [] = refl
columns_are_places info (c ∷ columns) = ap (λ ps. place_found (Some info) c.0 ∷ ps) (columns_are_places info columns)

some_column : (info : Option RelInfo) (columns : List (List ℕ × CopyForm)) → is_any columns ≡ true → is_any (map (copy_col info) columns) ≡ true
some_column info [] h = absurd (cc h)
some_column info (c ∷ columns) h = refl

columns_below : (info : RelInfo) (columns : List (List ℕ × CopyForm))
    → list_all (λ p. nat_lt p (length info.attrs)) (map (place_found (Some info)) (map (λ (c : List ℕ × CopyForm). c.0) columns)) ≡ true
    → list_all (λ (c : CopyCol). nat_lt c.attr (length info.attrs)) (map (copy_col (Some info)) columns) ≡ true
columns_below info [] h = refl
columns_below info (c ∷ columns) h = and _ _ (left _ _ h) (columns_below info columns (right _ _ h))

no_binary_text : (s : Scope) (info : Option RelInfo) (columns : List (List ℕ × CopyForm)) → list_any (is_binary_text s info) columns ≡ false
    → list_all (λ (c : CopyCol). not (is_binary c.form && is_text_kind (slice_get (kinds_at s.db (key_found info)) c.attr))) (map (copy_col info) columns) ≡ true
no_binary_text s info [] h = refl
no_binary_text s info (c ∷ columns) h = and _ _ (not_so _ (not_left _ _ h)) (no_binary_text s info columns (not_right _ _ h))

-- the forms of the columns are those that are written
forms_stand : (o : Option RelInfo) (columns : List (List ℕ × CopyForm)) → list_all (λ (c : List ℕ × CopyForm). is_copy_form c.1) columns ≡ true
    → list_all (λ (c : CopyCol). is_copy_form c.form) (map (copy_col o) columns) ≡ true
forms_stand o [] h = refl
forms_stand o (c ∷ columns) h = and _ _ (left (is_copy_form c.1) _ h) (forms_stand o columns (right (is_copy_form c.1) _ h))

pub copy_fits : (s : Scope) (rel : List ℕ) (columns : List (List ℕ × CopyForm)) (from : Bool) (file : List ℕ) → is_written (statement.Copy rel columns from file) ≡ true
    → name_refusal s (statement.Copy rel columns from file) ≡ None → first_refusal (refusals s (statement.Copy rel columns from file)) ≡ None
    → suits (kept_or_viewed s.db) s.db s.user (tree_of s (statement.Copy rel columns from file)) ≡ true
unfolding refusals tree_of suits utility_fits mentions is_written
copy_fits s rel columns from file w h k =
    let found = names_found s (statement.Copy rel columns from file) h in
    let r = by_name s rel found.0 in
    let none = none_of ((17, repeats (map (λ (c : List ℕ × CopyForm). c.0) columns)) ∷ (13, list_any (is_binary_text s (named s rel)) columns) ∷ []) k in
    let there = attrs_there s rel r (map (λ (c : List ℕ × CopyForm). c.0) columns) (in_map _ (AttrIn rel) _ (in_map _ (λ (c : List ℕ × CopyForm). c.0) columns (of_map _ (λ (c : List ℕ × CopyForm). AttrIn rel c.0) columns found.1))) in
    and _ _ (named_is s rel r)
    (and _ _ (some_column (named s rel) columns (left _ _ w))
    (and _ _ (forms_stand (named s rel) columns (left _ _ (right _ _ w)))
    (and _ _
    (subst (λ o. list_all (λ (c : CopyCol). nat_lt c.attr (length (attrs_at s.db (key_found o)))) (map (copy_col o) columns) ≡ true) (sym r.is)
    (subst (λ attrs. list_all (λ (c : CopyCol). nat_lt c.attr (length attrs)) (map (copy_col (Some r.info)) columns) ≡ true) (sym (its_attrs s rel r))
    (columns_below r.info columns (places_in_range r.info _ there))))
    (and _ _
    (subst (λ o. differ_by nat_eq (map (λ (c : CopyCol). c.attr) (map (copy_col o) columns)) ≡ true) (sym r.is)
    (subst (λ ps. differ_by nat_eq ps ≡ true) (sym (columns_are_places r.info columns)) (places_differ r.info _ there (not_not _ none.0))))
    (no_binary_text s (named s rel) columns none.1.0)))))

-- ---- permits and rules

pub permit_fits : (s : Scope) (ops : ℕ) (var : List ℕ) (attrs : List (List ℕ)) (user : Option (List ℕ)) (qual : Qual)
    → name_refusal s (statement.Permit ops var attrs user qual) ≡ None → first_refusal (refusals s (statement.Permit ops var attrs user qual)) ≡ None
    → suits (kept_or_viewed s.db) s.db s.user (tree_of s (statement.Permit ops var attrs user qual)) ≡ true
unfolding refusals tree_of suits utility_fits mentions aggregates_allowed
permit_fits s ops var attrs user qual h k =
    let stmt : Statement = statement.Permit ops var attrs user qual in
    let found = names_found s stmt h in
    let r = (ranged_with s no_refusal var found.0).is in
    let full = is_past_limit most_permits (permit_numbers s.db (key_found (ranged s var))) in
    let none = none_of (row_refusals s (aggregates_allowed s stmt) (ranged s var) (full || nat_lt most_listed_attributes (length attrs)) (query_of s stmt)) k in
    let there : Each (HasAttr r.info) attrs = each_to _ _ (λ a e. titled_of s var r a (e, tt)) attrs (of_map _ (AttrOf var) attrs (front_of _ (map (AttrOf var) attrs) _ found.1)) in
    let room = not_right (nat_lt 1 (length (vars_of (query_of s stmt)))) _ none.1.0 in
    let short = not_right full (nat_lt most_listed_attributes (length attrs)) (not_left _ _ room) in
    and _ _
    (and _ _ (ranged_named s var r) (and _ _ (not_not _ none.1.1.0) (not_not _ (not_right (full || nat_lt most_listed_attributes (length attrs)) _ room))))
    (and _ _
    (subst (λ o. permit_attrs_stand s.db (key_found o) (map (place_found o) attrs) ≡ true) (sym (ranged_is s var r))
    (subst (λ o. list_all (λ a. nat_lt a (length (attrs_in o))) (map (place_found (Some r.info)) attrs) ≡ true) (sym (ranged_again s var r)) (places_in_range r.info attrs there)))
    (le-leb _ _ (omega (arith, ltb-false most_listed_attributes (length attrs) short, length-map attrs (place_found (ranged s var))))))

pub rule_fits : (s : Scope) (var : List ℕ) (qual : Qual) → name_refusal s (statement.Rule var qual) ≡ None → first_refusal (refusals s (statement.Rule var qual)) ≡ None
    → suits (kept_or_viewed s.db) s.db s.user (tree_of s (statement.Rule var qual)) ≡ true
unfolding refusals tree_of suits utility_fits mentions aggregates_allowed
rule_fits s var qual h k =
    let stmt : Statement = statement.Rule var qual in
    let r = (ranged_with s no_refusal var (names_found s stmt h).0).is in
    let full = is_past_limit most_rules (rule_numbers s.db (key_found (ranged s var))) in
    let none = none_of (row_refusals s (aggregates_allowed s stmt) (ranged s var) full (query_of s stmt)) k in
    let room = not_right (nat_lt 1 (length (vars_of (query_of s stmt)))) _ none.1.0 in
    and _ _ (ranged_named s var r) (and _ _ (not_not _ none.1.1.0) (not_not _ (not_right full _ room)))

-- ---- new relations

pub sum_by_map : {X Y : Type 0} (f : Y → ℕ) (g : X → Y) (xs : List X) → sum_by f (map g xs) ≡ sum_by (λ x. f (g x)) xs
sum_by_map f g [] = refl
sum_by_map f g (x ∷ xs) = sum_by-cons f (g x) (map g xs) ∙ ap (λ n. f (g x) + n) (sum_by_map f g xs) ∙ sym (sum_by-cons (λ x. f (g x)) x xs)

-- attributes made of some things stand where there is one, their names are names and differ, their kinds are ones, and they are not too wide
pub made_stand : {X : Type 0} (attr : X → Attr) (xs : List X) → is_any xs ≡ true → Each (λ x. is_name (attr x).name ≡ true) xs
    → differ_by bytes_eq (map (λ x. (attr x).name) xs) ≡ true
    → Each (λ x. is_kind (attr x).kind ≡ true) xs → is_too_wide (map (λ x. (attr x).kind) xs) ≡ false → attrs_stand (map attr xs) ≡ true
unfolding is_too_wide
made_stand {X} attr xs any named differ kinds narrow =
    and _ _ (some xs any)
    (and _ _ (le-leb _ _ (omega (arith, ltb-false most_attributes (length (map (λ x. (attr x).kind) xs)) (not_left _ _ narrow), length-map xs (λ x. (attr x).kind), length-map xs attr)))
    (and _ _ (passed (λ (a : Attr). is_name a.name) _ (in_map _ attr xs named))
    (and _ _ (subst (λ ns. differ_by bytes_eq ns ≡ true) (sym (names xs)) differ)
    (and _ _ (passed (λ (a : Attr). is_kind a.kind) _ (in_map _ attr xs kinds))
    (le-leb _ _ (omega (arith, ltb-false most_row_bytes (sum_by kind_bytes (map (λ x. (attr x).kind) xs)) (not_right _ _ narrow), sum_by_map kind_bytes (λ x. (attr x).kind) xs, sum_by_map (λ (a : Attr). kind_bytes a.kind) attr xs)))))))
  where
    some : (xs : List X) → is_any xs ≡ true → is_any (map attr xs) ≡ true
    some [] e = absurd (cc e)
    some (x ∷ xs) e = refl

    names : (xs : List X) → map (λ (a : Attr). a.name) (map attr xs) ≡ map (λ x. (attr x).name) xs
    names [] = refl
    names (x ∷ xs) = ap (λ ns. (attr x).name ∷ ns) (names xs)

pub create_fits : (s : Scope) (rel : List ℕ) (attrs : List (List ℕ × Domain)) → is_written (statement.Create rel attrs) ≡ true
    → first_refusal (refusals s (statement.Create rel attrs)) ≡ None
    → suits (kept_or_viewed s.db) s.db s.user (tree_of s (statement.Create rel attrs)) ≡ true
unfolding refusals tree_of suits utility_fits is_written
create_fits s rel attrs w k =
    let none = none_of ((14, is_full s.db) ∷ (17, repeats (map (λ (a : List ℕ × Domain). a.0) attrs)) ∷ (16, is_too_wide (map (λ (a : List ℕ × Domain). Of a.1) attrs)) ∷ (15, is_taken s.db s.user rel) ∷ []) k in
    let listed = right (is_name rel) _ w in
    let written = each_passes (λ (a : List ℕ × Domain). is_name a.0 && is_domain a.1) attrs (right _ _ listed) in
    and _ _ (and _ _ (not_so _ none.1.1.1.0) (not_so _ none.0))
    (and _ _
    (made_stand stored_attr attrs (left _ _ listed) (each_to _ _ (λ (a : List ℕ × Domain) e. left _ _ e) attrs written) (not_not _ none.1.0) (each_to _ _ (λ (a : List ℕ × Domain) e. right (is_name a.0) _ e) attrs written) none.1.1.0)
    (passed (λ (a : Attr). is_stored_kind a.kind) _ (in_map _ stored_attr attrs (each_to _ _ (λ (a : List ℕ × Domain) e. right (is_name a.0) _ e) attrs written))))

-- The query of a statement, from its parts.
use Rattle.std.proofs.Common.{◌≡◌, refl, sym, ap, ◌∙◌, subst, ℕ, ◌+◌, ◌≤◌, arith, Bool, true, false, ◌||◌, ◌&&◌, List, [], ◌∷◌, ◌++◌, map, length}
use Rattle.std.specs.List.{flat_map, list_all}
use Rattle.std.specs.Str.{bytes_eq}
use Rattle.std.proofs.lemmas.List.Folds.{list_any-append, list_all-append}
use Rattle.calculus.proofs.Forms.{query_is}
use Rattle.calculus.specs.declared.query.Query.{roll-Query}
use Rattle.calculus.specs.declared.query.Target.{Target}
use Rattle.calculus.specs.declared.schema.RelInfo.{RelInfo}
use Rattle.calculus.specs.declared.statement.Item.{Item}
use Rattle.calculus.specs.declared.statement.Statement.{Statement}
use Rattle.calculus.specs.Tree.{query}
use Rattle.quel_check.specs.Known.{Knows, inner_vars, is_among, are_among, is_over}
use Rattle.quel_check.proofs.Among.{all_into, inner_many, kept, over_inner, themselves}
use Rattle.quel_check.proofs.InnerForms.{length_joined}
use Rattle.quel_check.proofs.TreeForms.{both_so}
use Rattle.quel_meaning.specs.Aggregates.{aggregates_allowed}
use Rattle.quel_meaning.specs.Scope.{Scope}
use Rattle.quel_meaning.specs.WrittenParts.{once, vars_in, first_vars, outer_vars_in_item, outer_vars_in_qual, items_of, where_of, text_aggregates, aggregates_in_item, aggregates_in_qual}
use Rattle.quel_meaning.specs.WrittenTree.{Vars, key_over}
use Rattle.quel_meaning.specs.WrittenQuery.{targets_from, where_tree, query_of}
use Rattle.quel_resolve.specs.Targets.{Puts, is_sound}
use Rattle.quel_resolve.proofs.KindsKnown.{keys_known}

both : (a b : Bool) → a ≡ true → b ≡ true → (a && b) ≡ true
both a b e f = λ i. e i && f i

or_first : (a b : Bool) → a ≡ true → (a || b) ≡ true
or_first a b h = ap (λ c. c || b) h

or_later : (a b : Bool) → b ≡ true → (a || b) ≡ true
or_later true b h = refl
or_later false b h = h

-- ---- the variables of a target list are among those of its statement

between : (xs ys zs : Vars) (n : List ℕ) → is_among ys n ≡ true → is_among (xs ++ (ys ++ zs)) n ≡ true
between xs ys zs n h =
    list_any-append (λ v. bytes_eq v n) xs (ys ++ zs)
    ∙ or_later (is_among xs n) (is_among (ys ++ zs) n) (list_any-append (λ v. bytes_eq v n) ys zs ∙ or_first (is_among ys n) (is_among zs n) h)

middle_among : (xs ys zs : Vars) → are_among (once (xs ++ (ys ++ zs))) ys ≡ true
middle_among xs ys zs = all_into (is_among ys) (is_among (once (xs ++ (ys ++ zs)))) (λ n h. kept (xs ++ (ys ++ zs)) n (between xs ys zs n h)) ys (themselves ys)

items_among : (s : Statement) → are_among (vars_in s) (flat_map outer_vars_in_item (items_of s)) ≡ true
unfolding vars_in
items_among s = middle_among (first_vars s) (flat_map outer_vars_in_item (items_of s)) (outer_vars_in_qual (where_of s))

-- ---- the items of a statement whose aggregates stand

sound_each : (vars inner : Vars) (items : List Item) → are_among vars (flat_map outer_vars_in_item items) ≡ true → list_all (is_over inner) (flat_map aggregates_in_item items) ≡ true
    → list_all (is_sound vars inner) items ≡ true
sound_each vars inner [] h over = refl
sound_each vars inner (i ∷ items) h over =
    let among = both_so _ _ (sym (list_all-append (is_among vars) (outer_vars_in_item i) (flat_map outer_vars_in_item items)) ∙ h) in
    let stand = both_so _ _ (sym (list_all-append (is_over inner) (aggregates_in_item i) (flat_map aggregates_in_item items)) ∙ over) in
    both _ _ (both _ _ among.0 stand.0) (sound_each vars inner items among.1 stand.1)

items_sound : (scope : Scope) (s : Statement) → aggregates_allowed scope s ≡ true → list_all (is_sound (vars_in s) (inner_vars s)) (items_of s) ≡ true
items_sound scope s stand =
    sound_each (vars_in s) (inner_vars s) (items_of s) (items_among s)
    (both_so _ _ (sym (list_all-append (is_over (inner_vars s)) (flat_map aggregates_in_item (items_of s)) (aggregates_in_qual (where_of s))) ∙ over_inner scope s stand)).0

items_few : (scope : Scope) (s : Statement) → aggregates_allowed scope s ≡ true → length (inner_vars s) ≤ 256 → length (flat_map aggregates_in_item (items_of s)) ≤ 65535
items_few scope s stand few =
    let many : length (inner_vars s) ≡ length (text_aggregates s) = inner_many scope s stand in
    let parts : length (text_aggregates s) ≡ length (flat_map aggregates_in_item (items_of s)) + length (aggregates_in_qual (where_of s)) =
    length_joined (flat_map aggregates_in_item (items_of s)) (aggregates_in_qual (where_of s)) in
    omega (arith, few, many, parts)

-- ---- the query

-- the query of these parts is that of the statement
pub query_whole : (scope : Scope) (s : Statement) (vars : Vars) (infos : List RelInfo) (inner : Vars) (inner_infos : List RelInfo) (items : List Item) (targets : List Target)
    → items ≡ items_of s → Puts scope.db vars infos inner inner_infos 0 items [] targets → vars ≡ vars_in s → inner ≡ inner_vars s
    → Knows scope vars infos → Knows scope inner inner_infos → aggregates_allowed scope s ≡ true
    → roll-Query (record { vars = map (λ (info : RelInfo). info.key) infos; targets = targets; qual = where_tree scope s }) ≡ query_of scope s
unfolding query_of Puts
query_whole scope s vars infos inner inner_infos items targets ei puts ev en k ki stand =
    let over : map (λ (info : RelInfo). info.key) infos ≡ map (key_over scope) (vars_in s) = sym (keys_known scope vars infos k) ∙ ap (map (key_over scope)) ev in
    let sound : list_all (is_sound vars inner) items ≡ true = (λ i. list_all (is_sound (ev i) (en i)) (ei i)) ∙ items_sound scope s stand in
    let few : length (flat_map aggregates_in_item items) ≤ 65535 =
    subst (λ is. length (flat_map aggregates_in_item is) ≤ 65535) (sym ei) (items_few scope s stand (subst (λ (vs : Vars). length vs ≤ 256) en ki.few_vars)) in
    let found : targets ≡ targets_from scope (vars_in s) 0 (items_of s) = puts scope refl k ki sound (omega (arith, few)) ∙ (λ i. targets_from scope (ev i) 0 (ei i)) in
    query_is (map (λ (info : RelInfo). info.key) infos) targets (where_tree scope s) ∙ (λ i. query (over i) (found i) (where_tree scope s))

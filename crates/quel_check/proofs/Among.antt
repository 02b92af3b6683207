-- The variables of a statement's qualification are among those of the statement.
use Rattle.std.proofs.Common.{◌≡◌, refl, sym, ap, ◌∙◌, subst, ℕ, ◌+◌, ◌≤◌, arith, Bool, true, false, not, ◌||◌, ◌&&◌, List, [], ◌∷◌, ◌++◌, length}
use Rattle.std.specs.List.{filter, list_any, list_all, flat_map}
use Rattle.std.specs.Str.{bytes_eq}
use Rattle.std.proofs.lemmas.List.Folds.{list_any-append, list_all-append}
use Rattle.calculus.specs.declared.query.QQual.{QQual}
use Rattle.calculus.specs.declared.schema.RelInfo.{RelInfo}
use Rattle.calculus.specs.declared.statement.AggTerm.{AggTerm}
use Rattle.calculus.specs.declared.statement.Statement.{Statement}
use Rattle.calculus.specs.Lists.{is_any}
use Rattle.quel_check.specs.Known.{Knows, front, inner_vars, is_among, are_among, is_one_of, is_over, IsQualFrom, IsQualTree}
use Rattle.quel_check.proofs.AggregateForms.{any_joined}
use Rattle.quel_check.proofs.InnerForms.{length_joined}
use Rattle.quel_check.proofs.OnceMore.{still_there}
use Rattle.quel_check.proofs.TreeForms.{both_so}
use Rattle.quel_meaning.proofs.Keys.{bytes_same}
use Rattle.quel_meaning.specs.Aggregates.{aggregates_allowed, aggregate_allowed, holds_another, is_one_plain, keeps_a_text}
use Rattle.quel_meaning.specs.Scope.{Scope}
use Rattle.quel_meaning.specs.WrittenParts.{once, vars_in, first_vars, outer_vars_in_item, outer_vars_in_qual, items_of, where_of, text_aggregates, aggregate_vars, aggregates_in_item, aggregates_in_qual}
use Rattle.quel_meaning.specs.WrittenTree.{Vars, qual_tree}
use Rattle.quel_meaning.specs.WrittenQuery.{where_tree}

-- where each of these is in one list only if it is in another, all are
pub all_into : (p q : List ℕ → Bool) → ((m : List ℕ) → p m ≡ true → q m ≡ true) → (ms : Vars) → list_all p ms ≡ true → list_all q ms ≡ true
all_into p q f [] h = refl
all_into p q f (m ∷ ms) h = go (p m) refl h (all_into p q f ms)
  where
    go : (b : Bool) → p m ≡ b → (b && list_all p ms) ≡ true → (list_all p ms ≡ true → list_all q ms ≡ true) → (q m && list_all q ms) ≡ true
    go true e h later = ap (λ b. b && list_all q ms) (f m e) ∙ later h
    go false e h later = absurd (cc h)

or_later : (a b : Bool) → b ≡ true → (a || b) ≡ true
or_later true b h = refl
or_later false b h = h

pub themselves : (ms : Vars) → are_among ms ms ≡ true
themselves [] = refl
themselves (m ∷ ms) =
    ap (λ b. (b || is_among ms m) && are_among (m ∷ ms) ms) (bytes_same m m refl)
    ∙ all_into (is_among ms) (is_among (m ∷ ms)) (λ n h. or_later (bytes_eq m n) (is_among ms n) h) ms (themselves ms)

behind : (front ms : Vars) (m : List ℕ) → is_among ms m ≡ true → is_among (front ++ ms) m ≡ true
behind front ms m h = list_any-append (λ v. bytes_eq v m) front ms ∙ or_later (is_among front m) (is_among ms m) h

pub kept : (ns : Vars) (n : List ℕ) → is_among ns n ≡ true → is_among (once ns) n ≡ true
kept [] n h = h
kept (x ∷ ns) n h = go (bytes_eq x n) refl h (kept ns n)
  where
    go : (b : Bool) → bytes_eq x n ≡ b → (b || is_among ns n) ≡ true → (is_among ns n ≡ true → is_among (once ns) n ≡ true)
        → (b || list_any (λ v. bytes_eq v n) (filter (λ v. not (bytes_eq v x)) (once ns))) ≡ true
    go true e h later = refl
    go false e h later = still_there x n e (once ns) ∙ later h

-- those at the end of a list are among those that stand once
last_among : (xs ys zs : Vars) → are_among (once (xs ++ (ys ++ zs))) zs ≡ true
last_among xs ys zs =
    all_into (is_among zs) (is_among (once (xs ++ (ys ++ zs)))) (λ n h. kept (xs ++ (ys ++ zs)) n (behind xs (ys ++ zs) n (behind ys zs n h))) zs (themselves zs)

qual_among : (s : Statement) → are_among (vars_in s) (outer_vars_in_qual (where_of s)) ≡ true
unfolding vars_in
qual_among s = last_among (first_vars s) (flat_map outer_vars_in_item (items_of s)) (outer_vars_in_qual (where_of s))

none_last : (a b : Bool) → (a || b) ≡ false → b ≡ false
none_last true b h = absurd (cc h)
none_last false b h = h

-- the tree of the qualification is that of the statement's
pub where_is : (vars : Vars) (infos : List RelInfo) (s : Statement) (found : QQual) → IsQualTree vars infos (where_of s) found
    → (scope : Scope) → vars ≡ vars_in s → Knows scope vars infos → is_any (text_aggregates s) ≡ false → found ≡ where_tree scope s
unfolding IsQualTree where_tree
where_is vars infos s found h scope e k a =
    let among : are_among vars (outer_vars_in_qual (where_of s)) ≡ true = ap (λ vs. are_among vs (outer_vars_in_qual (where_of s))) e ∙ qual_among s in
    let none : is_any (aggregates_in_qual (where_of s)) ≡ false =
    none_last (is_any (flat_map aggregates_in_item (items_of s))) _ (sym (any_joined (flat_map aggregates_in_item (items_of s)) (aggregates_in_qual (where_of s))) ∙ a) in
    h scope (length (flat_map aggregates_in_item (items_of s))) k among none ∙ ap (λ vs. qual_tree scope vs (length (flat_map aggregates_in_item (items_of s))) (where_of s)) e

-- ---- aggregates that stand

each_into : (p q : AggTerm → Bool) → ((g : AggTerm) → p g ≡ true → q g ≡ true) → (gs : List AggTerm) → list_all p gs ≡ true → list_all q gs ≡ true
each_into p q f [] h = refl
each_into p q f (g ∷ gs) h = go (p g) refl h (each_into p q f gs)
  where
    go : (b : Bool) → p g ≡ b → (b && list_all p gs) ≡ true → (list_all p gs ≡ true → list_all q gs ≡ true) → (q g && list_all q gs) ≡ true
    go true e h later = ap (λ b. b && list_all q gs) (f g e) ∙ later h
    go false e h later = absurd (cc h)

-- the variable of an aggregate that may stand is one of those that stand first in aggregates
abbrev fronts : List AggTerm → Vars
fronts gs = flat_map (λ g. front (aggregate_vars g)) gs

one_of : (s : Scope) (inner vars : Vars) → is_one_plain s vars ≡ true → are_among inner (front vars) ≡ true → is_one_of inner vars ≡ true
one_of s inner [] h e = absurd (cc h)
one_of s inner (var ∷ []) h e = go (is_among inner var) e
  where
    go : (b : Bool) → (b && true) ≡ true → b ≡ true
    go true k = refl
    go false k = absurd (cc k)
one_of s inner (var ∷ other ∷ more) h e = absurd (cc h)

over_each : (s : Scope) (inner : Vars) (gs : List AggTerm) → are_among inner (fronts gs) ≡ true → list_all (aggregate_allowed s) gs ≡ true → list_all (is_over inner) gs ≡ true
unfolding aggregate_allowed
over_each s inner [] m h = refl
over_each s inner (g ∷ gs) m h =
    let ms = both_so _ _ (sym (list_all-append (is_among inner) (front (aggregate_vars g)) (fronts gs)) ∙ m) in
    let hs = both_so (not (holds_another g) && is_one_plain s (aggregate_vars g)) _ h in
    let parts = both_so (not (holds_another g)) (is_one_plain s (aggregate_vars g)) hs.0 in
    (λ i. (parts.0 i && one_of s inner (aggregate_vars g) parts.1 ms.0 i) && over_each s inner gs ms.1 hs.1 i)

none_each : (s : Scope) (gs : List AggTerm) → not (is_any gs) ≡ true → list_all (aggregate_allowed s) gs ≡ true
none_each s [] h = refl
none_each s (g ∷ gs) h = absurd (cc h)

-- each aggregate of a statement whose aggregates stand may stand
pub each_stands : (s : Scope) (stmt : Statement) → aggregates_allowed s stmt ≡ true → list_all (aggregate_allowed s) (text_aggregates stmt) ≡ true
unfolding aggregates_allowed
each_stands s stmt h = go (keeps_a_text stmt) h
  where
    go : (b : Bool) → elim b as (λ c. Bool) [ true ↦ not (is_any (text_aggregates stmt)) | false ↦ list_all (aggregate_allowed s) (text_aggregates stmt) ] ≡ true
        → list_all (aggregate_allowed s) (text_aggregates stmt) ≡ true
    go true k = none_each s (text_aggregates stmt) k
    go false k = k

-- so each is over one of the variables in aggregates
pub over_inner : (s : Scope) (stmt : Statement) → aggregates_allowed s stmt ≡ true → list_all (is_over (inner_vars stmt)) (text_aggregates stmt) ≡ true
over_inner s stmt h = over_each s (inner_vars stmt) (text_aggregates stmt) (themselves (inner_vars stmt)) (each_stands s stmt h)

one_front : (s : Scope) (vars : Vars) → is_one_plain s vars ≡ true → length (front vars) ≡ 1
one_front s [] h = absurd (cc h)
one_front s (var ∷ []) h = refl
one_front s (var ∷ other ∷ more) h = absurd (cc h)

as_many : (s : Scope) (gs : List AggTerm) → list_all (aggregate_allowed s) gs ≡ true → length (fronts gs) ≡ length gs
unfolding aggregate_allowed
as_many s [] h = refl
as_many s (g ∷ gs) h =
    let hs = both_so (not (holds_another g) && is_one_plain s (aggregate_vars g)) _ h in
    let parts = both_so (not (holds_another g)) (is_one_plain s (aggregate_vars g)) hs.0 in
    let one : length (front (aggregate_vars g)) ≡ 1 = one_front s (aggregate_vars g) parts.1 in
    let later : length (fronts gs) ≡ length gs = as_many s gs hs.1 in
    let all : length (front (aggregate_vars g) ++ fronts gs) ≡ length (front (aggregate_vars g)) + length (fronts gs) = length_joined (front (aggregate_vars g)) (fronts gs) in
    omega (arith, one, later, all)

-- there are as many variables in aggregates as aggregates
pub inner_many : (s : Scope) (stmt : Statement) → aggregates_allowed s stmt ≡ true → length (inner_vars stmt) ≡ length (text_aggregates stmt)
inner_many s stmt h = as_many s (text_aggregates stmt) (each_stands s stmt h)

-- the tree of the qualification is that of the statement's
pub where_from : (vars : Vars) (infos : List RelInfo) (inner : Vars) (inner_infos : List RelInfo) (s : Statement) (slot : ℕ) (found : QQual)
    → (length (flat_map aggregates_in_item (items_of s)) ≤ 65535 → slot ≡ length (flat_map aggregates_in_item (items_of s)))
    → IsQualFrom vars infos inner inner_infos slot (where_of s) found
    → (scope : Scope) → vars ≡ vars_in s → inner ≡ inner_vars s → Knows scope vars infos → Knows scope inner inner_infos → aggregates_allowed scope s ≡ true → found ≡ where_tree scope s
unfolding IsQualFrom where_tree
where_from vars infos inner inner_infos s slot found next h scope e f k ki stand =
    let among : are_among vars (outer_vars_in_qual (where_of s)) ≡ true = ap (λ vs. are_among vs (outer_vars_in_qual (where_of s))) e ∙ qual_among s in
    let over = both_so _ _ (sym (list_all-append (is_over (inner_vars s)) (flat_map aggregates_in_item (items_of s)) (aggregates_in_qual (where_of s))) ∙ over_inner scope s stand) in
    let many : length (text_aggregates s) ≡ length (flat_map aggregates_in_item (items_of s)) + length (aggregates_in_qual (where_of s)) =
    length_joined (flat_map aggregates_in_item (items_of s)) (aggregates_in_qual (where_of s)) in
    let few : length (text_aggregates s) ≤ 256 = subst (λ (n : ℕ). n ≤ 256) (ap length f ∙ inner_many scope s stand) ki.few_vars in
    let at : slot ≡ length (flat_map aggregates_in_item (items_of s)) = next (omega (arith, many, few)) in
    h scope k ki among (ap (λ vs. list_all (is_over vs) (aggregates_in_qual (where_of s))) f ∙ over.1) (omega (arith, many, few, at))
    ∙ (λ i. qual_tree scope (e i) (at i) (where_of s))

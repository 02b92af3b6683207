-- What the query of a resolved statement reads is fit.
use Rattle.std.proofs.Common.{◌≡◌, refl, ℕ, nat_lt, Bool, true, false, List, [], ◌∷◌, map, length, Option, Some, None, is_some, arith}
use Rattle.std.specs.List.{list_all}
use Rattle.std.specs.Str.{bytes_eq}
use Rattle.std.proofs.lemmas.Bool.{ltb-false, le-leb, lt-ltb}
use Rattle.std.proofs.lemmas.List.{length-map}
use Rattle.std.proofs.lemmas.List.Quantifiers.{position-Some}
use Rattle.std.specs.Option.{unwrap_or}
use Rattle.calculus.specs.declared.query.Query.{Query}
use Rattle.calculus.specs.declared.query.Target.{Target}
use Rattle.calculus.specs.declared.value.Kind.{Kind}
use Rattle.calculus.specs.declared.request.SortKey.{SortKey}
use Rattle.calculus.specs.declared.statement.Statement.{Statement}
use Rattle.calculus.specs.Limits.{most_attributes}
use Rattle.calculus.specs.QueryParts.{vars_of, targets_of}
use Rattle.calculus.specs.Replacement.{first_refusal}
use Rattle.quel_meaning.specs.Scope.{Scope}
use Rattle.quel_meaning.specs.Naming.{name_refusal}
use Rattle.quel_meaning.specs.WrittenParts.{text_aggregates, vars_in}
use Rattle.quel_meaning.specs.Aggregates.{aggregate_allowed}
use Rattle.quel_meaning.specs.WrittenTree.{key_over}
use Rattle.quel_meaning.specs.WrittenQuery.{query_of}
use Rattle.quel_meaning.specs.Passing.{has_too_many, is_too_wide}
use Rattle.quel_meaning.specs.Causes.{Causes, title_place, sorts_by_titles}
use Rattle.quel_meaning.specs.Resolved.{sort_key}
use Rattle.quel_meaning.specs.FitQueries.{kept_or_viewed, can_be_ranged_over, has_few_targets, reads_fit, sort_is_in_range}
use Rattle.quel_meaning.proofs.Each.{Each, in_map, each_to, passed, each_passes, and, not_left}
use Rattle.quel_meaning.proofs.Found.{ranged_named, vars_ranged}
use Rattle.quel_meaning.proofs.Sources.{sources_allowed}
use Rattle.quel_meaning.proofs.Slots.{slots_are}
use Rattle.quel_meaning.proofs.Few.{listed_few}

-- none of some causes is there
pub none_of : (cs : Causes) → first_refusal cs ≡ None → Each (λ c. c.1 ≡ false) cs
none_of [] h = tt
none_of (c ∷ cs) h = go (none_of cs) c.1 refl h
  where
    go : (first_refusal cs ≡ None → Each (λ c. c.1 ≡ false) cs) → (b : Bool) → c.1 ≡ b → ◌≡◌ {A = Option ℕ} (elim b [ true ↦ Some c.0 | false ↦ first_refusal cs ]) None
        → (c.1 ≡ false) × Each (λ c. c.1 ≡ false) cs
    go later true e h = absurd (cc h)
    go later false e h = (e, later h)

pub vars_named : (s : Scope) (stmt : Statement) → name_refusal s stmt ≡ None → list_all (can_be_ranged_over s.db) (vars_of (query_of s stmt)) ≡ true
unfolding query_of
vars_named s stmt h = passed (can_be_ranged_over s.db) _ (in_map _ (key_over s) (vars_in stmt) (each_to _ _ (λ var r. ranged_named s var r) (vars_in stmt) (vars_ranged s stmt h)))

pub reads : (s : Scope) (stmt : Statement) → name_refusal s stmt ≡ None → list_all (aggregate_allowed s) (text_aggregates stmt) ≡ true → has_too_many s.db (query_of s stmt) ≡ false
    → has_few_targets (query_of s stmt) ≡ true → reads_fit (kept_or_viewed s.db) s.db (query_of s stmt) ≡ true
unfolding reads_fit
reads s stmt h k few targets =
    and _ _ (vars_named s stmt h) (and _ _ (sources_allowed s stmt h k) (and _ _ (slots_are s stmt) (and _ _ (listed_few s.db (query_of s stmt) few) targets)))

-- as many kinds as targets are not too many
pub narrow_targets : (q : Query) (f : Target → Kind) → is_too_wide (map f (targets_of q)) ≡ false → has_few_targets q ≡ true
unfolding is_too_wide
narrow_targets q f h =
    le-leb _ _ (omega (arith, ltb-false most_attributes (length (map f (targets_of q))) (not_left _ _ h), length-map (targets_of q) f))

-- a title that is there has its place among the targets
title_in_range : (targets : List Target) (name : List ℕ) → is_some (title_place targets name) ≡ true → nat_lt (unwrap_or (title_place targets name) 0) (length targets) ≡ true
title_in_range [] name h = absurd (cc h)
title_in_range (t ∷ ts) name h = go (title_place (t ∷ ts) name) refl h
  where
    go : (o : Option ℕ) → title_place (t ∷ ts) name ≡ o → is_some o ≡ true → nat_lt (unwrap_or o 0) (length (t ∷ ts)) ≡ true
    go None e k = absurd (cc k)
    go (Some i) e k = lt-ltb _ _ (position-Some (λ (x : Target). bytes_eq x.name name) (t ∷ ts) i t e).0

pub sorts : (q : Query) (sort : List (List ℕ × Bool)) → sorts_by_titles (targets_of q) sort ≡ true
    → sort_is_in_range (record { query = q; sort = map (sort_key (targets_of q)) sort }) ≡ true
sorts q sort h =
    passed (λ (k : SortKey). nat_lt k.column (length (targets_of q))) _
    (in_map _ (sort_key (targets_of q)) sort
    (each_to _ _ (λ (k : List ℕ × Bool) e. title_in_range (targets_of q) k.0 e) sort (each_passes (λ k. is_some (title_place (targets_of q) k.0)) sort h)))

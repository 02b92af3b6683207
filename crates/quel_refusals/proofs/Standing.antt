-- Statements whose aggregates stand, and the updates that they are.
use Rattle.std.proofs.Common.{◌≡◌, refl, sym, ap, ◌∙◌, subst, ℕ, Bool, true, false, not, List, [], ◌∷◌, map, slice_get, length, unwrap_or, Some}
use Rattle.std.specs.List.{list_all}
use Rattle.calculus.specs.declared.query.QAgg.{QAgg}
use Rattle.calculus.specs.declared.query.Query.{Query}
use Rattle.calculus.specs.declared.request.Update.{Update}
use Rattle.calculus.specs.declared.statement.Qual.{Qual}
use Rattle.calculus.specs.declared.statement.Statement.{Statement}
use Rattle.calculus.specs.declared.statement.Statement.TheVariants as statement
use Rattle.calculus.specs.Lists.{is_any}
use Rattle.calculus.specs.QueryParts.{query_aggregates}
use Rattle.calculus.specs.Replacement.{wanted_kinds}
use Rattle.calculus.specs.Stored.{kinds_at}
use Rattle.quel_meaning.specs.Aggregates.{aggregates_allowed, aggregate_allowed, keeps_a_text}
use Rattle.quel_meaning.specs.Causes.{refusals, refusals_by, update_refusals}
use Rattle.quel_meaning.specs.Scope.{Scope}
use Rattle.quel_meaning.specs.StatementUpdate.{append_of, replace_of, delete_of}
use Rattle.quel_meaning.specs.WrittenParts.{text_aggregates}
use Rattle.quel_meaning.specs.WrittenQuery.{query_of}
use Rattle.quel_meaning.proofs.Slots.{as_many}
use Rattle.quel_refusals.specs.CheckedStatements.{update_of}

none : {X : Type 0} (xs : List X) → is_any xs ≡ false → xs ≡ []
none [] h = refl
none (x ∷ xs) h = absurd (cc h)

-- where there is no aggregate, the aggregates stand
pub stands : (s : Scope) (stmt : Statement) → is_any (text_aggregates stmt) ≡ false → aggregates_allowed s stmt ≡ true
unfolding aggregates_allowed
stands s stmt h = ap (λ gs. elim (keeps_a_text stmt) as (λ b. Bool) [ true ↦ not (is_any gs) | false ↦ list_all (aggregate_allowed s) gs ]) (none (text_aggregates stmt) h) ∙ go (keeps_a_text stmt)
  where
    go : (b : Bool) → elim b as (λ c. Bool) [ true ↦ not false | false ↦ true ] ≡ true
    go true = refl
    go false = refl

-- nor is there one in the query
pub none_in_query : (s : Scope) (stmt : Statement) (q : Query) → q ≡ query_of s stmt → is_any (text_aggregates stmt) ≡ false → query_aggregates q ≡ []
none_in_query s stmt q e h = empty (query_aggregates q) (ap (λ p. length (query_aggregates p)) e ∙ as_many s stmt ∙ ap length (none (text_aggregates stmt) h))
  where
    empty : (gs : List QAgg) → length gs ≡ 0 → gs ≡ []
    empty [] h = refl
    empty (g ∷ gs) h = absurd (cc h)

-- what refuses a statement whose aggregates stand
pub refusals_are : (s : Scope) (stmt : Statement) (q : Query) → q ≡ query_of s stmt → aggregates_allowed s stmt ≡ true → refusals_by s true q stmt ≡ refusals s stmt
unfolding refusals
refusals_are s stmt q e h = λ i. refusals_by s (sym h i) (e i) stmt

-- where they stand in a text that is kept, there is none
pub none_in_text : (s : Scope) (stmt : Statement) (q : Query) → q ≡ query_of s stmt → aggregates_allowed s stmt ≡ true → keeps_a_text stmt ≡ true → query_aggregates q ≡ []
unfolding aggregates_allowed
none_in_text s stmt q e h t = none_in_query s stmt q e (not_so (is_any (text_aggregates stmt)) (go (keeps_a_text stmt) t h))
  where
    go : (b : Bool) → b ≡ true → elim b as (λ c. Bool) [ true ↦ not (is_any (text_aggregates stmt)) | false ↦ list_all (aggregate_allowed s) (text_aggregates stmt) ] ≡ true
        → not (is_any (text_aggregates stmt)) ≡ true
    go true u k = k
    go false u k = absurd (cc u)

    not_so : (b : Bool) → not b ≡ true → b ≡ false
    not_so true k = absurd (cc k)
    not_so false k = refl

-- ---- updates

pub append_query : (s : Scope) (rel : List ℕ) (q : Query) → (append_of s rel q).query ≡ q
unfolding append_of
append_query s rel q = refl

pub append_wants : (s : Scope) (rel : List ℕ) (q : Query) → wanted_kinds s.db (append_of s rel q) ≡ map (slice_get (kinds_at s.db (append_of s rel q).rel)) (append_of s rel q).places
unfolding append_of
append_wants s rel q = refl

pub replace_query : (s : Scope) (var : List ℕ) (q : Query) → (replace_of s var q).query ≡ q
unfolding replace_of
replace_query s var q = refl

pub replace_wants : (s : Scope) (var : List ℕ) (q : Query) → wanted_kinds s.db (replace_of s var q) ≡ map (slice_get (kinds_at s.db (replace_of s var q).rel)) (replace_of s var q).places
unfolding replace_of
replace_wants s var q = refl

pub delete_query : (s : Scope) (var : List ℕ) (q : Query) → (delete_of s var q).query ≡ q
unfolding delete_of
delete_query s var q = refl

-- the update that a deletion is
pub deleted : (scope : Scope) (s : Statement) (q : Query) (u : Update) (var : List ℕ) (qual : Qual) → s ≡ statement.Delete var qual → Some u ≡ update_of scope s q → u ≡ delete_of scope var q
deleted scope s q u var qual i e = ap (λ o. unwrap_or o u) (e ∙ ap (λ t. update_of scope t q) i)

-- what is known of the update that an append or a replacement is
pub record IsUpdate (scope : Scope) (s : Statement) (q : Query) (u : Update) : Type 0 where
  pub query : u.query ≡ q
  pub wants : wanted_kinds scope.db u ≡ map (slice_get (kinds_at scope.db u.rel)) u.places
  pub are : update_refusals scope true u ≡ refusals_by scope true q s

pub updated : (scope : Scope) (s : Statement) (q : Query) (u : Update) → ((var : List ℕ) (qual : Qual) → s ≡ statement.Delete var qual → ⊥) → Some u ≡ update_of scope s q → IsUpdate scope s q u
updated scope (statement.Range var rel) q u other e = absurd (cc e)
updated scope (statement.Retrieve into items qual sort) q u other e = absurd (cc e)
updated scope (statement.Append rel items qual) q u other e =
    let is : u ≡ append_of scope rel q = ap (λ o. unwrap_or o u) e in
    record {
      query = ap (λ v. v.query) is ∙ append_query scope rel q;
      wants = subst (λ v. wanted_kinds scope.db v ≡ map (slice_get (kinds_at scope.db v.rel)) v.places) (sym is) (append_wants scope rel q);
      are = ap (update_refusals scope true) is;
    }
updated scope (statement.Replace var items qual) q u other e =
    let is : u ≡ replace_of scope var q = ap (λ o. unwrap_or o u) e in
    record {
      query = ap (λ v. v.query) is ∙ replace_query scope var q;
      wants = subst (λ v. wanted_kinds scope.db v ≡ map (slice_get (kinds_at scope.db v.rel)) v.places) (sym is) (replace_wants scope var q);
      are = ap (update_refusals scope true) is;
    }
updated scope (statement.Delete var qual) q u other e = absurd (other var qual refl)
updated scope (statement.Create rel attrs) q u other e = absurd (cc e)
updated scope (statement.Destroy rels) q u other e = absurd (cc e)
updated scope (statement.DropPermits rel numbers) q u other e = absurd (cc e)
updated scope (statement.DropRules rel numbers) q u other e = absurd (cc e)
updated scope (statement.Modify rel to keys) q u other e = absurd (cc e)
updated scope (statement.Index base name keys) q u other e = absurd (cc e)
updated scope (statement.Print rels) q u other e = absurd (cc e)
updated scope (statement.Help rel) q u other e = absurd (cc e)
updated scope (statement.Copy rel columns from file) q u other e = absurd (cc e)
updated scope (statement.View name items qual) q u other e = absurd (cc e)
updated scope (statement.Permit ops var attrs user qual) q u other e = absurd (cc e)
updated scope (statement.Rule var qual) q u other e = absurd (cc e)

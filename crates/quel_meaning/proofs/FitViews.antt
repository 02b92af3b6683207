-- A fit tree is fit with views, and for any user where it asks for no index.
use Rattle.std.proofs.Common.{◌≡◌, refl, ap, ℕ, nat_le, Bool, true, false, ◌&&◌, List, Option, Some, None, is_some}
use Rattle.std.specs.List.{list_all}
use Rattle.std.specs.Option.{option_map}
use Rattle.calculus.specs.declared.query.AggSource.{AggSource, Named}
use Rattle.calculus.specs.declared.query.QAgg.{QAgg}
use Rattle.calculus.specs.declared.query.Query.{Query}
use Rattle.calculus.specs.declared.query.RelKey.{RelKey}
use Rattle.calculus.specs.declared.request.Asked.{Asked}
use Rattle.calculus.specs.declared.request.Checked.{Checked}
use Rattle.calculus.specs.declared.request.Checked.TheVariants as checked
use Rattle.calculus.specs.declared.request.Update.{Update}
use Rattle.calculus.specs.declared.request.Utility.TheVariants as utility
use Rattle.calculus.specs.Tree.{rows_of_query}
use Rattle.calculus.specs.Database.{Db}
use Rattle.calculus.specs.Sizes.{query_measure, range_measure, measure_within, measure_of}
use Rattle.calculus.specs.Stored.{Range, Kept, Viewed, range_at, range_info, info_at}
use Rattle.calculus.specs.QueryParts.{vars_of, query_aggregates}
use Rattle.quel_meaning.specs.FitQueries.{keeps_rows, is_kept, kept_alone, can_be_ranged_over, kept_or_viewed, source_fits, sources_fit, reads_fit, asked_fits}
use Rattle.quel_meaning.specs.Fit.{update_fits, utility_fits, suits, fits, is_fit, is_fit_with_views, makes_an_index}
use Rattle.quel_meaning.specs.SpelledTree.{tree_is_spelled}
use Rattle.quel_meaning.proofs.Each.{each_to, passed, each_passes, left, right, and}

-- ---- what keeps rows is named, and is one variable

named_too : (db : Db) (key : RelKey) → is_kept db key ≡ true → can_be_ranged_over db key ≡ true
unfolding info_at
named_too db key h = go (range_at db key) h
  where
    go : (r : Option Range) → keeps_rows r ≡ true → is_some (option_map range_info r) ≡ true
    go None h = absurd (cc h)
    go (Some r) h = refl

one_variable : (db : Db) (key : RelKey) → is_kept db key ≡ true → nat_le (measure_of db key).variables 1 ≡ true
unfolding measure_of
one_variable db key h = go (range_at db key) h
  where
    go : (r : Option Range) → keeps_rows r ≡ true → nat_le (range_measure (λ view. query_measure (measure_within 15 db) view.query) r).variables 1 ≡ true
    go None h = absurd (cc h)
    go (Some (Kept relation)) h = refl
    go (Some (Viewed view)) h = absurd (cc h)

allowed_too : (db : Db) (key : RelKey) → is_kept db key ≡ true → (can_be_ranged_over db key && nat_le (measure_of db key).variables 1) ≡ true
allowed_too db key h = and _ _ (named_too db key h) (one_variable db key h)

all_too : {X : Type 0} (p q : X → Bool) → ((x : X) → p x ≡ true → q x ≡ true) → (xs : List X) → list_all p xs ≡ true → list_all q xs ≡ true
all_too p q f xs h = passed q xs (each_to _ _ f xs (each_passes p xs h))

source_too : (db : Db) (source : AggSource) → source_fits (kept_alone db) db source ≡ true → source_fits (kept_or_viewed db) db source ≡ true
unfolding source_fits
source_too db (Named key) h = allowed_too db key h
source_too db (rows_of_query q) h = and _ _ (all_too (is_kept db) _ (allowed_too db) (vars_of q) (left _ _ h)) (right (list_all (is_kept db) (vars_of q)) _ h)

reads_too : (db : Db) (q : Query) → reads_fit (kept_alone db) db q ≡ true → reads_fit (kept_or_viewed db) db q ≡ true
unfolding reads_fit
reads_too db q h =
    let rest = right (list_all (is_kept db) (vars_of q)) _ h in
    and _ _ (all_too (is_kept db) (can_be_ranged_over db) (named_too db) (vars_of q) (left _ _ h))
    (and _ _
    (all_too (λ (g : QAgg). source_fits (kept_alone db) db g.source) (λ (g : QAgg). source_fits (kept_or_viewed db) db g.source) (λ (g : QAgg) k. source_too db g.source k) (query_aggregates q) (left _ _ rest))
    (right (sources_fit (kept_alone db) db q) _ rest))

asked_too : (db : Db) (a : Asked) → asked_fits (kept_alone db) db a ≡ true → asked_fits (kept_or_viewed db) db a ≡ true
unfolding asked_fits
asked_too db a h = and _ _ (reads_too db a.query (left _ _ h)) (right (reads_fit (kept_alone db) db a.query) _ h)

update_too : (db : Db) (u : Update) → update_fits (kept_alone db) db u ≡ true → update_fits (kept_or_viewed db) db u ≡ true
unfolding update_fits
update_too db u h = and _ _ (reads_too db u.query (left _ _ h)) (right (reads_fit (kept_alone db) db u.query) _ h)

suits_too : (db : Db) (user : List ℕ) (tree : Checked) → suits (kept_alone db) db user tree ≡ true → suits (kept_or_viewed db) db user tree ≡ true
unfolding suits
suits_too db user (checked.Answer asked) h = all_too (asked_fits (kept_alone db) db) (asked_fits (kept_or_viewed db) db) (asked_too db) asked h
suits_too db user (checked.Update update) h = update_too db update h
suits_too db user (checked.Utility request) h = h

pub fit_with_views : (db : Db) (user : List ℕ) (tree : Checked) → is_fit db user tree ≡ true → is_fit_with_views db user tree ≡ true
unfolding fits
fit_with_views db user tree h = and _ _ (left _ _ h) (suits_too db user tree (right (tree_is_spelled tree) _ h))

suits_any : (db : Db) (user other : List ℕ) (tree : Checked) → makes_an_index tree ≡ false → suits (kept_alone db) db user tree ≡ suits (kept_alone db) db other tree
unfolding suits utility_fits
suits_any db user other (checked.Answer asked) h = refl
suits_any db user other (checked.Update update) h = refl
suits_any db user other (checked.Utility (utility.Index base name keys)) h = absurd (cc h)
suits_any db user other (checked.Utility request) h = refl

pub any_user : (db : Db) (user other : List ℕ) (tree : Checked) → makes_an_index tree ≡ false → is_fit db user tree ≡ is_fit db other tree
unfolding fits
any_user db user other tree h = ap (λ b. tree_is_spelled tree && b) (suits_any db user other tree h)

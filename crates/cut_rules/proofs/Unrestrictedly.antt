-- Whoever is unrestricted may read all that is there in a database.
use Rattle.std.proofs.Common.{◌≡◌, refl, ap, ◌∙◌, subst, ℕ, ◌+◌, Bool, true, false, cond, ◌&&◌, nat_le, List, [], ◌∷◌, Option, Some, None, is_some, option_map}
use Rattle.std.specs.List.{enumerate_from, list_all, AllByRecursion}
use Rattle.calculus.specs.declared.query.RelKey.{RelKey}
use Rattle.calculus.specs.declared.query.AggSource.{AggSource, Named}
use Rattle.calculus.specs.declared.query.QAgg.{QAgg}
use Rattle.calculus.specs.declared.query.Query.{Query}
use Rattle.calculus.specs.Tree.{rows_of_query}
use Rattle.calculus.specs.Lists.{is_any}
use Rattle.calculus.specs.Keys.{same_key}
use Rattle.calculus.specs.Limits.{greatest_level}
use Rattle.calculus.specs.Who.{Unrestricted}
use Rattle.calculus.specs.Database.{Db, View}
use Rattle.calculus.specs.IsDatabase.{IsDatabase}
use Rattle.calculus.specs.Stored.{Range, Kept, Viewed, range_at, range_info, info_at}
use Rattle.calculus.specs.Rights.{Retrieve, permitted}
use Rattle.calculus.specs.QueryParts.{vars_of, query_aggregates}
use Rattle.calculus.specs.Used.{used_in_query, used_in_aggregate, used_vars}
use Rattle.calculus.specs.Sizes.{measure_of, level_within, level_of}
use Rattle.calculus.specs.Permission.{Reads, vars_permitted, permitted_within, readable, source_permitted, query_permitted}
use Rattle.calculus_laws.proofs.Members.{In}
use Rattle.calculus_laws.proofs.Through.{CarriesBoth, permitted_said, level_said, said_at, both_said}
use Rattle.calculus_laws.proofs.Enough.{all_there, same_key-exact, viewed}
use Rattle.calculus_laws.proofs.ViewAnswer.{found}
use Rattle.quel_meaning.specs.FitQueries.{kept_or_viewed, can_be_ranged_over, source_fits, sources_fit, reads_fit}
use Rattle.cut_rules.proofs.Listing.{both_true, all_kept, all_in}

-- ---- through levels

vars_unrestricted : (reads : Reads) (q : Query) (n : ℕ) (keys : List RelKey) → AllByRecursion (λ key. (attrs : List ℕ) → reads key attrs ≡ true) keys
    → list_all (λ p. cond (is_any (used_in_query p.0 q)) (reads p.1 (used_in_query p.0 q)) true) (enumerate_from n keys) ≡ true
vars_unrestricted reads q n [] h = refl
vars_unrestricted reads q n (key ∷ keys) h = λ i. first (is_any (used_in_query n q)) (reads key (used_in_query n q)) (h.0 (used_in_query n q)) i && vars_unrestricted reads q (n + 1) keys h.1 i
  where
    first : (b c : Bool) → c ≡ true → cond b c true ≡ true
    first true c e = e
    first false c e = refl

pub unrestricted_vars : (reads : Reads) (q : Query) → AllByRecursion (λ key. (attrs : List ℕ) → reads key attrs ≡ true) (vars_of q) → vars_permitted reads q (used_vars q) ≡ true
unrestricted_vars reads q h = all_kept (λ p. is_any (used_in_query p.0 q)) (λ p. reads p.1 (used_in_query p.0 q)) (enumerate_from 0 (vars_of q)) ∙ vars_unrestricted reads q 0 (vars_of q) h

each_so : (P Q : RelKey → Type 0) → ((key : RelKey) → P key → Q key) → (keys : List RelKey) → AllByRecursion P keys → AllByRecursion Q keys
each_so P Q f [] h = tt
each_so P Q f (key ∷ keys) h = (f key h.0, each_so P Q f keys h.1)

bare : (db : Db) (attrs : List ℕ) (key : RelKey) → permitted db Unrestricted Retrieve attrs key ≡ true
unfolding permitted
bare db attrs key = refl

carried : (db : Db) → CarriesBoth (permitted_said db Unrestricted) level_said db (λ n key reads level. is_some level ≡ true → (attrs : List ℕ) → reads attrs ≡ true)
carried db = record {
  nothing = λ n f g key e h. cc h;
  kept = λ n f g key relation e h attrs. bare db attrs key;
  view_past = λ key view e h. cc h;
  view_above = λ n f g below key view e h attrs.
      unrestricted_vars f view.query (each_so (λ key. is_some (g key) ≡ true) (λ key. (attrs : List ℕ) → f key attrs ≡ true) below (vars_of view.query) (all_there g (vars_of view.query) h));
}

through_levels : (db : Db) (n : ℕ) (key : RelKey) → is_some (level_within n db key) ≡ true → (attrs : List ℕ) → permitted_within n db Unrestricted key attrs ≡ true
through_levels db n key = both_said (permitted_said db Unrestricted) level_said db (λ n key reads level. is_some level ≡ true → (attrs : List ℕ) → reads attrs ≡ true) (carried db) n key

-- ---- what is there has a level

all_views : (p : View → Bool) (vs : List View) (v : View) → In v vs → list_all p vs ≡ true → p v ≡ true
all_views p vs v inside h = all_in p vs v inside h

has_level : (db : Db) → IsDatabase db → (key : RelKey) → is_some (range_at db key) ≡ true → is_some (level_of db key) ≡ true
unfolding level_of
has_level db d key h = by (range_at db key) refl h
  where
    by : (r : Option Range) → range_at db key ≡ r → is_some r ≡ true → is_some (level_within greatest_level db key) ≡ true
    by None e h = cc h
    by (Some (Kept relation)) e h = ap is_some (said_at level_said greatest_level db key (Some (Kept relation)) e)
    by (Some (Viewed view)) e h =
        let (inside, same) = found (λ v. same_key v.info.key key) db.views view (viewed db key view e) in
        subst (λ k. is_some (level_within greatest_level db k) ≡ true) (same_key-exact view.info.key key same)
        (all_views (λ v. is_some (level_within greatest_level db v.info.key)) db.views view inside d.views_have_levels)

pub unrestricted_reads : (db : Db) → IsDatabase db → (key : RelKey) → is_some (range_at db key) ≡ true → (attrs : List ℕ) → readable db Unrestricted key attrs ≡ true
unfolding readable level_of
unrestricted_reads db d key h attrs = through_levels db greatest_level key (has_level db d key h) attrs

-- ---- a query that may be read

ranged : (db : Db) (key : RelKey) → can_be_ranged_over db key ≡ true → is_some (range_at db key) ≡ true
unfolding info_at
ranged db key h = by (range_at db key) h
  where
    by : (r : Option Range) → is_some (option_map range_info r) ≡ true → is_some r ≡ true
    by None h = cc h
    by (Some r) h = refl

all_ranged : (db : Db) → IsDatabase db → (test : RelKey → Bool) → ((key : RelKey) → test key ≡ true → can_be_ranged_over db key ≡ true) → (keys : List RelKey) → list_all test keys ≡ true
    → AllByRecursion (λ key. (attrs : List ℕ) → readable db Unrestricted key attrs ≡ true) keys
all_ranged db d test so [] h = tt
all_ranged db d test so (key ∷ keys) h =
    let parts = both_true (test key) (list_all test keys) h in (unrestricted_reads db d key (ranged db key (so key parts.0)), all_ranged db d test so keys parts.1)

is_source : (db : Db) (key : RelKey) → (kept_or_viewed db).source key ≡ true → can_be_ranged_over db key ≡ true
is_source db key h = (both_true (can_be_ranged_over db key) (nat_le (measure_of db key).variables 1) h).0

source_unrestricted : (db : Db) → IsDatabase db → (attrs : List ℕ) (source : AggSource) → source_fits (kept_or_viewed db) db source ≡ true → source_permitted (readable db Unrestricted) attrs source ≡ true
unfolding source_fits
source_unrestricted db d attrs (Named key) h = unrestricted_reads db d key (ranged db key (is_source db key h)) attrs
source_unrestricted db d attrs (rows_of_query q) h =
    unrestricted_vars (readable db Unrestricted) q (all_ranged db d (kept_or_viewed db).source (is_source db) (vars_of q) (both_true (list_all (kept_or_viewed db).source (vars_of q)) _ h).0)

sources_unrestricted : (db : Db) → IsDatabase db → (gs : List QAgg) → list_all (λ (g : QAgg). source_fits (kept_or_viewed db) db g.source) gs ≡ true
    → list_all (λ (g : QAgg). source_permitted (readable db Unrestricted) (used_in_aggregate g) g.source) gs ≡ true
sources_unrestricted db d [] h = refl
sources_unrestricted db d (g ∷ gs) h =
    let parts = both_true (source_fits (kept_or_viewed db) db g.source) _ h in
    λ i. source_unrestricted db d (used_in_aggregate g) g.source parts.0 i && sources_unrestricted db d gs parts.1 i

pub unrestricted_query : (db : Db) → IsDatabase db → (q : Query) → reads_fit (kept_or_viewed db) db q ≡ true → query_permitted db Unrestricted q ≡ true
unfolding reads_fit query_permitted
unrestricted_query db d q h =
    let one = both_true (list_all (can_be_ranged_over db) (vars_of q)) _ h in
    let two = both_true (sources_fit (kept_or_viewed db) db q) _ one.1 in
    let vars = unrestricted_vars (readable db Unrestricted) q (all_ranged db d (can_be_ranged_over db) (λ key h. h) (vars_of q) one.0) in
    let sources = sources_unrestricted db d (query_aggregates q) two.0 in
    λ i. vars i && sources i

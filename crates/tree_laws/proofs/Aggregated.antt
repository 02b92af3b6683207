-- An aggregate with expansions substituted gives unrestricted what the aggregate gives for the one who asks.
use Rattle.std.proofs.Common.{◌≡◌, refl, sym, ap, ◌∙◌, ℕ, ◌-◌, Bool, true, false, cond, not, ◌&&◌, List, [], ◌∷◌, map, Option, Some, None, arith}
use Rattle.std.proofs.lemmas.Bool.Decides.{nat_tests}
use Rattle.std.specs.Prelude.{filter, nat_eq, bytes_eq, if◌then◌else◌, option_map, pos}
use Rattle.std.specs.List.{list_all, enumerate_from}
use Rattle.calculus.specs.declared.value.Value.{Value}
use Rattle.calculus.specs.declared.value.Kind.{Kind}
use Rattle.calculus.specs.declared.value.Kind.TheVariants.{Of, Wide}
use Rattle.calculus.specs.declared.value.Domain.{Domain}
use Rattle.calculus.specs.declared.value.Domain.TheVariants.{I1, I2, I4, C}
use Rattle.calculus.specs.declared.query.RelKey.{RelKey}
use Rattle.calculus.specs.declared.query.AggSource.{AggSource, Named}
use Rattle.calculus.specs.declared.query.QAgg.{QAgg}
use Rattle.calculus.specs.declared.query.QTerm.{QTerm, items-the_row-QTerm}
use Rattle.calculus.specs.declared.query.QQual.{QQual}
use Rattle.calculus.specs.declared.query.Target.{Target}
use Rattle.calculus.specs.declared.query.Query.{Query}
use Rattle.calculus.specs.declared.schema.Attr.{Attr as Attribute}
use Rattle.calculus.specs.Tree.{rows_of_query, term_row, aggregate}
use Rattle.calculus.specs.Keys.{same_key}
use Rattle.calculus.specs.Lists.{is_any}
use Rattle.calculus.specs.Kinds.{kind_of, is_text_kind}
use Rattle.calculus.specs.Limits.{greatest_level}
use Rattle.calculus.specs.Rows.{Row}
use Rattle.calculus.specs.Term.{Env, Aggs, val, holds, no_aggs, values_of, value_before}
use Rattle.calculus.specs.Who.{Who, Unrestricted}
use Rattle.calculus.specs.Database.{Db, View}
use Rattle.calculus.specs.IsDatabase.{IsDatabase, same_domain, same_kind, attrs_are_targets}
use Rattle.calculus.specs.Stored.{Range, Kept, Viewed, range_info, range_at, info_at, attrs_in, kinds_at, rows_at, kept_rows}
use Rattle.calculus.specs.Rights.{Retrieve, may}
use Rattle.calculus.specs.QueryParts.{term_aggregates, query_aggregates, targets_of}
use Rattle.calculus.specs.Used.{used_in_aggregate}
use Rattle.calculus.specs.Assignments.{assigned}
use Rattle.calculus.specs.Targets.{rows_given}
use Rattle.calculus.specs.VariableRows.{range_rows, rows_within, rows_of}
use Rattle.calculus.specs.Aggregate.{source_rows, agree, folded_rows, arguments, source_kinds, none_value, fold_values, fold_arguments, fold_linked, aggregates}
use Rattle.calculus_laws.specs.Expansion.{is_no_view}
use Rattle.calculus_laws.proofs.SameRows.{all_at}
use Rattle.calculus_laws.proofs.Through.{said_view, said_at, rows_said}
use Rattle.calculus_laws.proofs.ViewAnswer.{found}
use Rattle.view_text.specs.Replaced.{Substitution, replaced, replaced_target, no_aggregate}
use Rattle.view_text.specs.Halves.{all_of}
use Rattle.view_text.specs.Expansions.{substituted_from, query_expansions}
use Rattle.view_text.specs.ExpansionOf.{restriction, expansion_within, expansion_of}
use Rattle.view_text.specs.Expanded.{expanded_plain, expanded_range, expanded_source, range_restriction, source_restriction, expanded_aggregate}
use Rattle.tree_laws.specs.Nesting.{source_is_plain}
use Rattle.tree_laws.proofs.Values.{StandsFor, makes_none, val_replaced, within_itself}
use Rattle.tree_laws.proofs.Halves.{holds_all_of}
use Rattle.tree_laws.proofs.Scopes.{both_true}
use Rattle.tree_laws.proofs.Queries.{targets_of-put}
use Rattle.tree_laws.proofs.Denoted.{restriction_holds}
use Rattle.tree_laws.proofs.Sound.{viewed, plain_view, unrestricted_rows}
use Rattle.tree_laws.proofs.Unrestrictedly.{plain_put}
use Rattle.calculus.specs.declared.value.Value.TheVariants.{Text, Int}

-- ---- links

links_put : (put : Substitution) (e f : Env) → StandsFor put f e → (ts : List QTerm) → values_of (map (replaced no_aggregate put) ts) f ≡ values_of ts e
unfolding values_of
links_put put e f stands [] = refl
links_put put e f stands (t ∷ ts) = λ i. value_before
    (val_replaced no_aggs no_aggs no_aggregate put e f (term_aggregates t) stands (makes_none no_aggs f e (term_aggregates t)) t (within_itself (term_aggregates t)) i)
    (links_put put e f stands ts i)

-- ---- rows that are folded

filter_twice : {X : Type 0} (p m both : X → Bool) (xs : List X) → ((x : X) → both x ≡ (m x && p x)) → filter both xs ≡ filter p (filter m xs)
filter_twice p m both [] same = refl
filter_twice {X} p m both (x ∷ xs) same = ap (λ b. cond b (x ∷ filter both xs) (filter both xs)) (same x) ∙ by (m x) (p x) refl (filter_twice p m both xs same)
  where
    by : (b c : Bool) → p x ≡ c → filter both xs ≡ filter p (filter m xs) → cond (b && c) (x ∷ filter both xs) (filter both xs) ≡ filter p (cond b (x ∷ filter m xs) (filter m xs))
    by true true e more = rw e (ap (λ ys. x ∷ ys) more)
    by true false e more = rw e more
    by false c e more = more

filter_same : {X : Type 0} (p q : X → Bool) (xs : List X) → ((x : X) → p x ≡ q x) → filter p xs ≡ filter q xs
filter_same p q xs same = λ i. filter (λ x. same x i) xs

-- whether a row is folded, by its qualification and what its by-values agree with
swapped : (a b c : Bool) → ((a && b) && c) ≡ (b && (a && c))
swapped true true c = refl
swapped true false c = refl
swapped false true c = refl
swapped false false c = refl

-- ---- kinds

same_number : (m n : ℕ) → nat_eq m n ≡ true → m ≡ n
same_number m n h = grind (arith, nat_tests, h)

domain_is : (d e : Domain) → same_domain d e ≡ true → d ≡ e
domain_is I1 I1 h = refl
domain_is I1 I2 h = cc h
domain_is I1 I4 h = cc h
domain_is I1 (C n) h = cc h
domain_is I2 I1 h = cc h
domain_is I2 I2 h = refl
domain_is I2 I4 h = cc h
domain_is I2 (C n) h = cc h
domain_is I4 I1 h = cc h
domain_is I4 I2 h = cc h
domain_is I4 I4 h = refl
domain_is I4 (C n) h = cc h
domain_is (C m) I1 h = cc h
domain_is (C m) I2 h = cc h
domain_is (C m) I4 h = cc h
domain_is (C m) (C n) h = ap C (same_number m n h)

pub kind_is : (k l : Kind) → same_kind k l ≡ true → k ≡ l
kind_is Wide Wide h = refl
kind_is Wide (Of e) h = cc h
kind_is (Of d) Wide h = cc h
kind_is (Of d) (Of e) h = ap Of (domain_is d e h)

pub kinds_are : (attrs : List Attribute) (ts : List Target) → attrs_are_targets attrs ts ≡ true → map (λ a. a.kind) attrs ≡ map (λ t. t.kind) ts
kinds_are [] [] h = refl
kinds_are [] (t ∷ ts) h = cc h
kinds_are (a ∷ attrs) [] h = cc h
kinds_are (a ∷ attrs) (t ∷ ts) h =
    let parts = both_true (bytes_eq a.name t.name) (same_kind a.kind t.kind && attrs_are_targets attrs ts) h in
    let more = both_true (same_kind a.kind t.kind) (attrs_are_targets attrs ts) parts.1 in
    λ i. kind_is a.kind t.kind more.0 i ∷ kinds_are attrs ts more.1 i

pub kinds_put : (made : QTerm → QTerm) (put : Substitution) (ts : List Target) → map (λ t. t.kind) (map (replaced_target made put) ts) ≡ map (λ t. t.kind) ts
kinds_put made put [] = refl
kinds_put made put (t ∷ ts) = ap (λ ks. t.kind ∷ ks) (kinds_put made put ts)

pub none_any : {X : Type 0} (xs : List X) → not (is_any xs) ≡ true → xs ≡ []
none_any [] h = refl
none_any (x ∷ xs) h = cc h

-- ---- the source

module _ (db : Db) (d : IsDatabase db) (who : Who) where
  -- the attributes of a view have the kinds of its targets
  pub view_kinds : (key : RelKey) (view : View) → range_at db key ≡ Some (Viewed view) → kinds_at db key ≡ map (λ t. t.kind) (targets_of view.query)
  unfolding info_at
  view_kinds key view h =
      ap (λ r. map (λ a. a.kind) (attrs_in (option_map range_info r))) h
      ∙ kinds_are view.info.attrs (targets_of view.query)
      (all_at (λ v. attrs_are_targets v.info.attrs (targets_of v.query)) db.views view (found (λ v. same_key v.info.key key) db.views view (viewed db key view h)).0 d.view_attrs_are_targets)

  -- ---- the rows that are folded

  module _ (qual : QQual) (by : List QTerm) (attrs : List ℕ) where
    -- whether a row of the source is folded, where this is the qualification
    abbrev is_folded : QQual → Row → Row → Bool
    is_folded q link s = holds no_aggs q (s ∷ []) && agree link (values_of by (s ∷ []))

    -- another source, with these conditions beside the qualification, has the same rows to fold and the same kinds
    pub record FoldsAs (source other : AggSource) (conditions : List QQual) : Type 0 where
      pub folded : (used : List ℕ) (link : Row) → filter (is_folded (all_of (qual ∷ conditions)) link) (source_rows (rows_of db Unrestricted) used other)
          ≡ filter (is_folded qual link) (source_rows (rows_of db who) attrs source)
      pub kinds : source_kinds db other ≡ source_kinds db source

    with_restriction : (key : RelKey) (link s : Row) → is_folded (all_of (qual ∷ restriction db who Retrieve attrs key)) link s ≡ (may db who Retrieve attrs key s && is_folded qual link s)
    with_restriction key link s =
        ap (λ b. b && agree link (values_of by (s ∷ []))) (holds_all_of no_aggs (s ∷ []) (qual ∷ restriction db who Retrieve attrs key))
        ∙ ap (λ b. (holds no_aggs qual (s ∷ []) && b) && agree link (values_of by (s ∷ []))) (restriction_holds db who Retrieve attrs key s)
        ∙ swapped (holds no_aggs qual (s ∷ [])) (may db who Retrieve attrs key s) (agree link (values_of by (s ∷ [])))

    alone : (link s : Row) → is_folded (all_of (qual ∷ [])) link s ≡ is_folded qual link s
    alone link s =
        ap (λ b. b && agree link (values_of by (s ∷ []))) (holds_all_of no_aggs (s ∷ []) (qual ∷ []) ∙ true_right (holds no_aggs qual (s ∷ [])))
      where
        true_right : (b : Bool) → (b && true) ≡ b
        true_right true = refl
        true_right false = refl

    kept_folds : (key : RelKey) → is_no_view (range_at db key) ≡ true → rows_of db who key attrs ≡ filter (may db who Retrieve attrs key) (rows_at db key)
        → FoldsAs (Named key) (Named key) (restriction db who Retrieve attrs key)
    kept_folds key kept rows = record {
      folded = λ used link.
          ap (filter (is_folded (all_of (qual ∷ restriction db who Retrieve attrs key)) link)) (unrestricted_rows db key used kept)
          ∙ filter_twice (is_folded qual link) (may db who Retrieve attrs key) (is_folded (all_of (qual ∷ restriction db who Retrieve attrs key)) link) (rows_at db key) (with_restriction key link)
          ∙ ap (filter (is_folded qual link)) (sym rows);
      kinds = refl;
    }

    rows_at_range : (key : RelKey) (r : Option Range) → range_at db key ≡ r → rows_of db who key attrs ≡ range_rows (λ view. said_view (rows_said db who) greatest_level db view attrs) db who key attrs r
    unfolding rows_of
    rows_at_range key r h = ap (λ rows. rows attrs) (said_at (rows_said db who) greatest_level db key r h)

    view_folds : (key : RelKey) (view : View) → range_at db key ≡ Some (Viewed view)
        → FoldsAs (Named key) (rows_of_query (expanded_plain (expansion_within (greatest_level - 1) db who) view.query)) []
    view_folds key view h = record {
      folded = λ used link.
          ap (filter (is_folded (all_of (qual ∷ [])) link)) (sym (plain_put (greatest_level - 1) db who d view.query (plain_view db d key view h)))
          ∙ filter_same (is_folded (all_of (qual ∷ [])) link) (is_folded qual link) (rows_given no_aggs view.query (assigned (rows_within (greatest_level - 1) db who) view.query)) (alone link)
          ∙ ap (filter (is_folded qual link)) (sym (rows_at_range key (Some (Viewed view)) h));
      kinds =
          ap (map (λ t. t.kind)) (targets_of-put no_aggregate (query_expansions (expansion_within (greatest_level - 1) db who) view.query) view.query)
          ∙ kinds_put no_aggregate (substituted_from 0 (query_expansions (expansion_within (greatest_level - 1) db who) view.query)) (targets_of view.query)
          ∙ sym (view_kinds key view h);
    }

    range_folds : (key : RelKey) (r : Option Range) → range_at db key ≡ r → FoldsAs (Named key) (expanded_range db who key r) (range_restriction db who attrs key r)
    range_folds key None h =
        kept_folds key (ap is_no_view h) (rows_at_range key None h ∙ sym (ap (λ r. filter (may db who Retrieve attrs key) (kept_rows r)) h))
    range_folds key (Some (Kept relation)) h =
        kept_folds key (ap is_no_view h) (rows_at_range key (Some (Kept relation)) h ∙ sym (ap (λ r. filter (may db who Retrieve attrs key) (kept_rows r)) h))
    range_folds key (Some (Viewed view)) h = view_folds key view h

    query_folds : (q : Query) → query_aggregates q ≡ [] → FoldsAs (rows_of_query q) (rows_of_query (expanded_plain (expansion_of db who) q)) []
    unfolding rows_of expansion_of
    query_folds q plain = record {
      folded = λ used link.
          ap (filter (is_folded (all_of (qual ∷ [])) link)) (sym (plain_put greatest_level db who d q plain))
          ∙ filter_same (is_folded (all_of (qual ∷ [])) link) (is_folded qual link) (rows_given no_aggs q (assigned (rows_within greatest_level db who) q)) (alone link);
      kinds =
          ap (map (λ t. t.kind)) (targets_of-put no_aggregate (query_expansions (expansion_within greatest_level db who) q) q)
          ∙ kinds_put no_aggregate (substituted_from 0 (query_expansions (expansion_within greatest_level db who) q)) (targets_of q);
    }

    pub source_folds : (source : AggSource) → source_is_plain source ≡ true → FoldsAs source (expanded_source db who source) (source_restriction db who attrs source)
    source_folds (Named key) plain = range_folds key (range_at db key) refl
    source_folds (rows_of_query q) plain = query_folds q (none_any (query_aggregates q) plain)

  -- ---- the aggregate

  -- what is folded, where these are the values of the links
  fold_put : (put : Substitution) (g : QAgg) → source_is_plain g.source ≡ true → (link : Option Row) → fold_linked db (rows_of db Unrestricted) (expanded_aggregate db who put g) link ≡ fold_linked db (rows_of db who) g link
  fold_put put g plain None = refl
  fold_put put g plain (Some link) =
      let folds = source_folds g.qual g.by (used_in_aggregate g) g.source plain in
      (λ i. fold_arguments db (expanded_aggregate db who put g) (arguments g (folds.folded (used_in_aggregate (expanded_aggregate db who put g)) link i)))
      ∙ none_alike (arguments g (folded_rows (rows_of db who) g link)) (none_put folds.kinds)
    where
      none_put : source_kinds db (expanded_source db who g.source) ≡ source_kinds db g.source → none_value db (expanded_aggregate db who put g) ≡ none_value db g
      none_put same = ap (λ kinds. if is_text_kind (kind_of g.arg (kinds ∷ [])) then Text [] else Int (pos 0)) same

      none_alike : (values : Option (List Value)) → none_value db (expanded_aggregate db who put g) ≡ none_value db g → fold_arguments db (expanded_aggregate db who put g) values ≡ fold_arguments db g values
      none_alike None same = refl
      none_alike (Some values) same = ap (λ none. fold_values g.op none values) same

  pub aggregate_put : (put : Substitution) (e f : Env) → StandsFor put f e → (g : QAgg) → source_is_plain g.source ≡ true → aggregates db Unrestricted (expanded_aggregate db who put g) f ≡ aggregates db who g e
  unfolding aggregates
  aggregate_put put e f stands g plain =
      ap (fold_linked db (rows_of db Unrestricted) (expanded_aggregate db who put g)) (links_put put e f stands g.link) ∙ fold_put put g plain (values_of g.link e)

-- ---- the term that an aggregate is

pub row_items : (ts : List QTerm) → items-the_row-QTerm _ (term_row ts) ≡ ts
row_items [] = refl
row_items (t ∷ ts) = ap (λ more. t ∷ more) (row_items ts)

pub val_aggregate : (aggs : Aggs) (g : QAgg) (e : Env) → val aggs (aggregate g) e ≡ aggs g e
unfolding val
val_aggregate aggs g e = λ i. aggs (record { slot = g.slot; op = g.op; source = g.source; arg = g.arg; by = row_items g.by i; link = row_items g.link i; qual = g.qual }) e

-- Terms and qualifications of a query have the kinds that they had once texts are put in, aggregates and all, and its aggregates are what they were over, put in.
use Rattle.std.proofs.Common.{◌≡◌, refl, sym, ap, ◌∙◌, subst, inl, inr, ℕ, zero, suc, Bool, true, ◌&&◌, List, [], ◌∷◌, ◌++◌, map, length, Option, Some, None, is_some}
use Rattle.std.specs.Prelude.{flat_map}
use Rattle.std.specs.List.{list_all}
use Rattle.calculus.specs.declared.operator.AggOp.{AggOp}
use Rattle.calculus.specs.declared.value.Kind.{Kind}
use Rattle.calculus.specs.declared.query.RelKey.{RelKey}
use Rattle.calculus.specs.declared.query.AggSource.{AggSource, Named}
use Rattle.calculus.specs.declared.query.QAgg.{QAgg}
use Rattle.calculus.specs.declared.query.QTerm.{QTerm, Int, Chars, Attr, Agg', items-the_row-QTerm, Row_of-QTerm, end_of-QTerm, more_of-QTerm, more_of-QAgg}
use Rattle.calculus.specs.declared.query.QQual.{QQual, True, Cmp, Like}
use Rattle.calculus.specs.declared.query.Target.{Target}
use Rattle.calculus.specs.Tree.{neg, abs, operation, concat, both, either, negated, rows_of_query, aggregate}
use Rattle.calculus.specs.Kinds.{kind_of, number_kind, operated_kind, joined_kind, comparable, is_text_kind, kinds_fit}
use Rattle.calculus.specs.Who.{Who}
use Rattle.calculus.specs.Database.{Db}
use Rattle.calculus.specs.IsDatabase.{IsDatabase}
use Rattle.calculus.specs.Stored.{Range, Kept, Viewed, range_at, kinds_at}
use Rattle.calculus.specs.Rights.{Retrieve}
use Rattle.calculus.specs.Aggregate.{source_kinds}
use Rattle.calculus.specs.QueryParts.{term_aggregates, qual_aggregates}
use Rattle.calculus.specs.Used.{used, used_in_row, used_in_qual, used_in_aggregate}
use Rattle.calculus_laws.proofs.Members.{In, Within}
use Rattle.calculus_laws.proofs.Plain.{in_targets}
use Rattle.calculus_laws.proofs.SameRows.{all_at}
use Rattle.quel_meaning.specs.KindsInQueries.{links_fit, fitting_kind, aggregate_kind, kind_in_query, kinds_fit_in_query}
use Rattle.quel_meaning.specs.FitQueries.{kept_or_viewed, source_fits}
use Rattle.view_text.specs.Replaced.{Substitution, replaced, replaced_in_qual, replaced_target, no_aggregate}
use Rattle.view_text.specs.Halves.{paired, chained, joined_within, all_of}
use Rattle.view_text.specs.Scoped.{is_within, is_qual_within}
use Rattle.view_text.specs.Expanded.{expanded_source, range_restriction, source_restriction, expanded_aggregate, expanded_made}
use Rattle.tree_laws.specs.Nesting.{source_is_plain}
use Rattle.tree_laws.proofs.Aggregated.{source_folds, row_items}
use Rattle.tree_laws.proofs.Placed.{qual_within_plain, within_plain}
use Rattle.tree_laws.proofs.Scopes.{both_true}
use Rattle.tree_laws.proofs.Joint.{both_are}
use Rattle.tree_laws.proofs.Values.{within_left, within_right}
use Rattle.tree_laws.proofs.Nests.{number_there, operated_there, joined_there, compared_there, text_there, source_plain, fitting}
use Rattle.tree_laws.proofs.SameKinds.{VarKinds, HasKinds, Names, in_left, in_right, own_name, kind_replaced}
use Rattle.tree_laws.proofs.FitExpansions.{all_fit, restriction_fits}
use Rattle.tree_laws.proofs.FitPlain.{all_of_fit}

-- ---- terms without aggregates

pub in_query_within : (db : Db) (k : ℕ) (vars : VarKinds) (t : QTerm) → is_within k t ≡ true → kind_in_query db t vars ≡ kind_of t vars
unfolding kind_in_query kind_of is_within
in_query_within db k vars (Int n) h = refl
in_query_within db k vars (Chars bytes) h = refl
in_query_within db k vars (Attr var attr) h = refl
in_query_within db k vars (neg t) h = ap number_kind (in_query_within db k vars t h)
in_query_within db k vars (abs t) h = ap number_kind (in_query_within db k vars t h)
in_query_within db k vars (operation op t u) h =
    let parts = both_true (is_within k t) (is_within k u) h in λ i. operated_kind (in_query_within db k vars t parts.0 i) (in_query_within db k vars u parts.1 i)
in_query_within db k vars (concat t u) h =
    let parts = both_true (is_within k t) (is_within k u) h in λ i. joined_kind (in_query_within db k vars t parts.0 i) (in_query_within db k vars u parts.1 i)
in_query_within db k vars (Agg' mark row) h = cc h

pub qual_in_query_within : (db : Db) (k : ℕ) (vars : VarKinds) (q : QQual) → is_qual_within k q ≡ true → kinds_fit_in_query db q vars ≡ kinds_fit q vars
unfolding kinds_fit_in_query kinds_fit is_qual_within
qual_in_query_within db k vars True h = refl
qual_in_query_within db k vars (Cmp op t u) h =
    let parts = both_true (is_within k t) (is_within k u) h in λ i. comparable (in_query_within db k vars t parts.0 i) (in_query_within db k vars u parts.1 i)
qual_in_query_within db k vars (Like t pattern same) h = ap is_text_kind (in_query_within db k vars t h)
qual_in_query_within db k vars (both p q) h =
    let parts = both_true (is_qual_within k p) (is_qual_within k q) h in λ i. qual_in_query_within db k vars p parts.0 i && qual_in_query_within db k vars q parts.1 i
qual_in_query_within db k vars (either p q) h =
    let parts = both_true (is_qual_within k p) (is_qual_within k q) h in λ i. qual_in_query_within db k vars p parts.0 i && qual_in_query_within db k vars q parts.1 i
qual_in_query_within db k vars (negated p) h = qual_in_query_within db k vars p h

-- ---- aggregates

module _ (db : Db) (d : IsDatabase db) (who : Who) (Known : ℕ → Type 0) (put : Substitution) (new vars : VarKinds) (has : HasKinds Known put new vars) where
  links_same : (inner : VarKinds) (by : List QTerm) (link : List QTerm) → ((t : QTerm) → In t link → Names Known (λ v. used v t)) → links_fit inner by vars link ≡ true
      → links_fit inner by new (map (replaced no_aggregate put) link) ≡ true
  links_same inner [] [] names h = refl
  links_same inner [] (t ∷ link) names h = cc h
  links_same inner (b ∷ by) [] names h = cc h
  links_same inner (b ∷ by) (t ∷ link) names h =
      let parts = both_true (comparable (kind_of b inner) (kind_of t vars)) (links_fit inner by vars link) h in
      let there = (compared_there (kind_of b inner) (kind_of t vars) parts.0).1 in
      let same = kind_replaced Known put new vars has t (names t (inl refl)) there in
      both_are (comparable (kind_of b inner) (kind_of (replaced no_aggregate put t) new)) (links_fit inner by new (map (replaced no_aggregate put) link))
      (ap (comparable (kind_of b inner)) same ∙ parts.0) (links_same inner by link (λ u inside. names u (inr inside)) parts.1)

  range_restriction_fits : (attrs : List ℕ) (key : RelKey) (r : Option Range) → all_fit (kinds_at db key ∷ []) (range_restriction db who attrs key r) ≡ true
  range_restriction_fits attrs key None = restriction_fits db d who Retrieve attrs key
  range_restriction_fits attrs key (Some (Kept relation)) = restriction_fits db d who Retrieve attrs key
  range_restriction_fits attrs key (Some (Viewed view)) = refl

  source_restriction_fits : (attrs : List ℕ) (source : AggSource) → all_fit (source_kinds db source ∷ []) (source_restriction db who attrs source) ≡ true
  source_restriction_fits attrs (Named key) = range_restriction_fits attrs key (range_at db key)
  source_restriction_fits attrs (rows_of_query q) = refl

  fit_kind : (fit : Bool) (o : AggOp) (k : Option Kind) → fit ≡ true → fitting_kind fit o k ≡ fitting_kind true o k
  fit_kind fit o k h = ap (λ b. fitting_kind b o k) h

  pub aggregate_same : (g : QAgg) → ((t : QTerm) → In t g.link → Names Known (λ v. used v t)) → source_is_plain g.source ≡ true → is_some (aggregate_kind db g vars) ≡ true
      → aggregate_kind db (expanded_aggregate db who put g) new ≡ aggregate_kind db g vars
  unfolding aggregate_kind
  aggregate_same g names plain h =
      ap (λ kinds. fitting_kind (links_fit (kinds ∷ []) g.by new (map (replaced no_aggregate put) g.link) && kinds_fit (all_of (g.qual ∷ source_restriction db who (used_in_aggregate g) g.source)) (kinds ∷ [])) g.op (kind_of g.arg (kinds ∷ []))) same
      ∙ fit_kind (links_fit inner g.by new (map (replaced no_aggregate put) g.link) && kinds_fit (all_of (g.qual ∷ source_restriction db who (used_in_aggregate g) g.source)) inner) g.op (kind_of g.arg inner)
      (both_are (links_fit inner g.by new (map (replaced no_aggregate put) g.link)) (kinds_fit (all_of (g.qual ∷ source_restriction db who (used_in_aggregate g) g.source)) inner)
      (links_same inner g.by g.link names parts.0)
      (all_of_fit inner (g.qual ∷ source_restriction db who (used_in_aggregate g) g.source) ∙ both_are (kinds_fit g.qual inner) (all_fit inner (source_restriction db who (used_in_aggregate g) g.source)) parts.1 (source_restriction_fits (used_in_aggregate g) g.source)))
      ∙ sym (fit_kind (links_fit inner g.by vars g.link && kinds_fit g.qual inner) g.op (kind_of g.arg inner) fit)
    where
      inner : VarKinds
      inner = source_kinds db g.source ∷ []

      same : source_kinds db (expanded_source db who g.source) ≡ source_kinds db g.source
      same = (source_folds db d who g.qual g.by (used_in_aggregate g) g.source plain).kinds

      fit : (links_fit inner g.by vars g.link && kinds_fit g.qual inner) ≡ true
      fit = fitting (links_fit inner g.by vars g.link && kinds_fit g.qual inner) g.op (kind_of g.arg inner) h

      parts : (links_fit inner g.by vars g.link ≡ true) × (kinds_fit g.qual inner ≡ true)
      parts = both_true (links_fit inner g.by vars g.link) (kinds_fit g.qual inner) fit

  -- the links of an aggregate name what it names
  link_names : {n : _} (row : Row_of-QTerm n) → Names Known (λ v. used_in_row v row) → (t : QTerm) → In t (items-the_row-QTerm _ row) → Names Known (λ v. used v t)
  link_names end_of-QTerm names t inside = absurd inside
  link_names (more_of-QTerm u rest) names t (inl same) = subst (λ t. Names Known (λ v. used v t)) same (in_left Known (λ v. used v u) (λ v. used_in_row v rest) names)
  link_names (more_of-QTerm u rest) names t (inr inside) = link_names rest (in_right Known (λ v. used v u) (λ v. used_in_row v rest) names) t inside

  kind_of_aggregate : (g : QAgg) → kind_in_query db (aggregate g) new ≡ aggregate_kind db g new
  unfolding kind_in_query
  kind_of_aggregate g = λ i. aggregate_kind db (record { slot = g.slot; op = g.op; source = g.source; arg = g.arg; by = row_items g.by i; link = row_items g.link i; qual = g.qual }) new

  -- ---- terms and qualifications

  module _ (total : ℕ) (within : (v a : ℕ) → is_within total (put v a) ≡ true) (gs : List QAgg) (fit : list_all (λ g. source_fits (kept_or_viewed db) db g.source) gs ≡ true) where
    pub kind_put : (t : QTerm) → Within (term_aggregates t) gs → Names Known (λ v. used v t) → is_some (kind_in_query db t vars) ≡ true
        → kind_in_query db (replaced (expanded_made db who put) put t) new ≡ kind_in_query db t vars
    unfolding kind_in_query replaced term_aggregates kind_of
    kind_put (Int n) w names h = refl
    kind_put (Chars bytes) w names h = refl
    kind_put (Attr var attr) w names h = in_query_within db total new (put var attr) (within var attr) ∙ has var attr (names var (own_name var attr)) h
    kind_put (neg t) w names h = ap number_kind (kind_put t w names (number_there (kind_in_query db t vars) h))
    kind_put (abs t) w names h = ap number_kind (kind_put t w names (number_there (kind_in_query db t vars) h))
    kind_put (operation op t u) w names h =
        let there = operated_there (kind_in_query db t vars) (kind_in_query db u vars) h in
        let left = kind_put t (within_left (term_aggregates t) (term_aggregates u) gs w) (in_left Known (λ v. used v t) (λ v. used v u) names) there.0 in
        let right = kind_put u (within_right (term_aggregates t) (term_aggregates u) gs w) (in_right Known (λ v. used v t) (λ v. used v u) names) there.1 in
        λ i. operated_kind (left i) (right i)
    kind_put (concat t u) w names h =
        let there = joined_there (kind_in_query db t vars) (kind_in_query db u vars) h in
        let left = kind_put t (within_left (term_aggregates t) (term_aggregates u) gs w) (in_left Known (λ v. used v t) (λ v. used v u) names) there.0 in
        let right = kind_put u (within_right (term_aggregates t) (term_aggregates u) gs w) (in_right Known (λ v. used v t) (λ v. used v u) names) there.1 in
        λ i. joined_kind (left i) (right i)
    kind_put (Agg' mark (more_of-QAgg slot op source arg bys by links link qual rest)) w names h =
        let g : QAgg = record { slot = slot; op = op; source = source; arg = arg; by = items-the_row-QTerm _ by; link = items-the_row-QTerm _ link; qual = qual } in
        kind_of_aggregate (expanded_aggregate db who put g)
        ∙ aggregate_same g (link_names link names) (source_plain (kept_or_viewed db) db source (all_at (λ g. source_fits (kept_or_viewed db) db g.source) gs g (w g (inl refl)) fit)) h

    pub fit_put : (q : QQual) → Within (qual_aggregates q) gs → Names Known (λ v. used_in_qual v q) → kinds_fit_in_query db q vars ≡ true
        → kinds_fit_in_query db (replaced_in_qual (expanded_made db who put) put q) new ≡ true
    unfolding kinds_fit_in_query replaced_in_qual qual_aggregates
    fit_put True w names h = refl
    fit_put (Cmp op t u) w names h =
        let there = compared_there (kind_in_query db t vars) (kind_in_query db u vars) h in
        let left = kind_put t (within_left (term_aggregates t) (term_aggregates u) gs w) (in_left Known (λ v. used v t) (λ v. used v u) names) there.0 in
        let right = kind_put u (within_right (term_aggregates t) (term_aggregates u) gs w) (in_right Known (λ v. used v t) (λ v. used v u) names) there.1 in
        (λ i. comparable (left i) (right i)) ∙ h
    fit_put (Like t pattern same) w names h = ap is_text_kind (kind_put t w names (text_there (kind_in_query db t vars) h)) ∙ h
    fit_put (both p q) w names h =
        let parts = both_true (kinds_fit_in_query db p vars) (kinds_fit_in_query db q vars) h in
        let left = fit_put p (within_left (qual_aggregates p) (qual_aggregates q) gs w) (in_left Known (λ v. used_in_qual v p) (λ v. used_in_qual v q) names) parts.0 in
        let right = fit_put q (within_right (qual_aggregates p) (qual_aggregates q) gs w) (in_right Known (λ v. used_in_qual v p) (λ v. used_in_qual v q) names) parts.1 in
        λ i. left i && right i
    fit_put (either p q) w names h =
        let parts = both_true (kinds_fit_in_query db p vars) (kinds_fit_in_query db q vars) h in
        let left = fit_put p (within_left (qual_aggregates p) (qual_aggregates q) gs w) (in_left Known (λ v. used_in_qual v p) (λ v. used_in_qual v q) names) parts.0 in
        let right = fit_put q (within_right (qual_aggregates p) (qual_aggregates q) gs w) (in_right Known (λ v. used_in_qual v p) (λ v. used_in_qual v q) names) parts.1 in
        λ i. left i && right i
    fit_put (negated p) w names h = fit_put p w names h

-- ---- which aggregates stand

map_behind : {X Y : Type 0} (f : X → Y) (xs ys : List X) → map f xs ++ map f ys ≡ map f (xs ++ ys)
map_behind f [] ys = refl
map_behind f (x ∷ xs) ys = ap (λ l. f x ∷ l) (map_behind f xs ys)

module _ (db : Db) (who : Who) (put : Substitution) (total : ℕ) (within : (v a : ℕ) → is_within total (put v a) ≡ true) where
  -- what is made of an aggregate
  abbrev G : QAgg → QAgg
  G = expanded_aggregate db who put

  aggregate_items : (g : QAgg) → term_aggregates (aggregate g) ≡ g ∷ []
  unfolding term_aggregates
  aggregate_items g = λ i. record { slot = g.slot; op = g.op; source = g.source; arg = g.arg; by = row_items g.by i; link = row_items g.link i; qual = g.qual } ∷ []

  pub term_made : (t : QTerm) → term_aggregates (replaced (expanded_made db who put) put t) ≡ map G (term_aggregates t)
  unfolding replaced term_aggregates
  term_made (Int n) = refl
  term_made (Chars bytes) = refl
  term_made (Attr var attr) = within_plain total (put var attr) (within var attr)
  term_made (neg t) = term_made t
  term_made (abs t) = term_made t
  term_made (operation op t u) = (λ i. term_made t i ++ term_made u i) ∙ map_behind G (term_aggregates t) (term_aggregates u)
  term_made (concat t u) = (λ i. term_made t i ++ term_made u i) ∙ map_behind G (term_aggregates t) (term_aggregates u)
  term_made (Agg' mark (more_of-QAgg slot op source arg bys by links link qual rest)) =
      aggregate_items (G (record { slot = slot; op = op; source = source; arg = arg; by = items-the_row-QTerm _ by; link = items-the_row-QTerm _ link; qual = qual }))

  pub qual_made : (q : QQual) → qual_aggregates (replaced_in_qual (expanded_made db who put) put q) ≡ map G (qual_aggregates q)
  unfolding replaced_in_qual qual_aggregates
  qual_made True = refl
  qual_made (Cmp op t u) = (λ i. term_made t i ++ term_made u i) ∙ map_behind G (term_aggregates t) (term_aggregates u)
  qual_made (Like t pattern same) = term_made t
  qual_made (both p q) = (λ i. qual_made p i ++ qual_made q i) ∙ map_behind G (qual_aggregates p) (qual_aggregates q)
  qual_made (either p q) = (λ i. qual_made p i ++ qual_made q i) ∙ map_behind G (qual_aggregates p) (qual_aggregates q)
  qual_made (negated p) = qual_made p

  pub targets_made : (ts : List Target) → in_targets (map (replaced_target (expanded_made db who put) put) ts) ≡ map G (in_targets ts)
  targets_made [] = refl
  targets_made (t ∷ ts) = (λ i. term_made t.term i ++ targets_made ts i) ∙ map_behind G (term_aggregates t.term) (in_targets ts)

-- ---- the aggregates of what is joined

behind_assoc : {X : Type 0} (xs ys zs : List X) → xs ++ (ys ++ zs) ≡ (xs ++ ys) ++ zs
behind_assoc [] ys zs = refl
behind_assoc (x ∷ xs) ys zs = ap (λ l. x ∷ l) (behind_assoc xs ys zs)

behind_none : {X : Type 0} (xs : List X) → xs ≡ xs ++ []
behind_none [] = refl
behind_none (x ∷ xs) = ap (λ l. x ∷ l) (behind_none xs)

paired_made : (qs : List QQual) → flat_map qual_aggregates (paired both qs) ≡ flat_map qual_aggregates qs
unfolding paired qual_aggregates
paired_made [] = refl
paired_made (p ∷ []) = refl
paired_made (p ∷ q ∷ more) = ap (λ l. (qual_aggregates p ++ qual_aggregates q) ++ l) (paired_made more) ∙ sym (behind_assoc (qual_aggregates p) (qual_aggregates q) (flat_map qual_aggregates more))

chained_made : (qs : List QQual) → qual_aggregates (chained both True qs) ≡ flat_map qual_aggregates qs
unfolding chained qual_aggregates
chained_made [] = refl
chained_made (p ∷ []) = behind_none (qual_aggregates p)
chained_made (p ∷ q ∷ more) = ap (λ l. qual_aggregates p ++ l) (chained_made (q ∷ more))

within_made : (n : ℕ) (qs : List QQual) → qual_aggregates (joined_within n both True qs) ≡ flat_map qual_aggregates qs
unfolding joined_within
within_made zero qs = chained_made qs
within_made (suc n) qs = within_made n (paired both qs) ∙ paired_made qs

pub all_of_made : (qs : List QQual) → qual_aggregates (all_of qs) ≡ flat_map qual_aggregates qs
all_of_made qs = within_made (length qs) qs

pub conditions_made : (k : ℕ) (qs : List QQual) → list_all (is_qual_within k) qs ≡ true → flat_map qual_aggregates qs ≡ []
conditions_made k [] h = refl
conditions_made k (q ∷ qs) h =
    let parts = both_true (is_qual_within k q) (list_all (is_qual_within k) qs) h in
    λ i. qual_within_plain k q parts.0 i ++ conditions_made k qs parts.1 i

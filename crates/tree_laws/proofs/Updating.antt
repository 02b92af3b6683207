-- An update makes for the one who asks the change that it makes unrestricted once its expansions are put in, or the same number refuses it.
use Rattle.std.proofs.Common.{◌≡◌, refl, sym, ap, ◌∙◌, subst, inl, inr, ℕ, Bool, true, false, not, ◌&&◌, List, [], ◌∷◌, map, length, Option, Some, None, Result, Ok, Err}
use Rattle.std.specs.Prelude.{slice_get, nat_lt, option_map, if◌then◌else◌, flat_map}
use Rattle.std.specs.List.{list_all, list_any, filter, filter_map, AllByRecursion}
use Rattle.calculus.specs.declared.change.Pair.{Pair}
use Rattle.calculus.specs.declared.change.DbChange.{DbChange}
use Rattle.calculus.specs.declared.change.DbChange.TheVariants as change
use Rattle.calculus.specs.declared.query.RelKey.{RelKey}
use Rattle.calculus.specs.declared.query.QTerm.{QTerm}
use Rattle.calculus.specs.declared.query.Target.{Target}
use Rattle.calculus.specs.declared.schema.RelInfo.{RelInfo}
use Rattle.calculus.specs.declared.value.Kind.{Kind}
use Rattle.calculus.specs.declared.request.Update.{Update}
use Rattle.calculus.specs.declared.request.UpdateOp.{UpdateOp}
use Rattle.calculus.specs.declared.request.UpdateOp.TheVariants as op
use Rattle.calculus.specs.Keys.{same_key}
use Rattle.calculus.specs.Limits.{most_rows}
use Rattle.calculus.specs.Rows.{Row, Ascends, set_of}
use Rattle.calculus.specs.Term.{Env, holds, no_aggs}
use Rattle.calculus.specs.Who.{Who, Unrestricted}
use Rattle.calculus.specs.Database.{Db, Relation, View, relation_at, view_at}
use Rattle.calculus.specs.Catalogue.{relation_key, attribute_key, relation_row, attribute_rows, all_entries, catalogue_at, attribute_info, relation_info}
use Rattle.calculus.specs.IsDatabase.{IsDatabase}
use Rattle.calculus.specs.Stored.{Range, Kept, Viewed, range_at, rows_at, kept_rows, kinds_at}
use Rattle.calculus.specs.Rights as right
use Rattle.calculus.specs.Rights.{may}
use Rattle.calculus.specs.QueryParts.{vars_of, targets_of, qual_of, query_aggregates}
use Rattle.calculus.specs.Assignments.{choices, is_changed}
use Rattle.calculus.specs.Targets.{target_values, some_lacks}
use Rattle.calculus.specs.Aggregate.{aggregates}
use Rattle.calculus.specs.Pairs.{pair_of, is_append, new_allowed, pair_allowed, pairs}
use Rattle.calculus.specs.Replacement.{without_rows, after, contended, made_attr, wanted_kinds, all_fit, update_lacks, values_fit, rows_after, first_refusal, made_info, updated}
use Rattle.calculus.proofs.OldRows.{seen_qualifying, pair_in, pairs_with_old, lacks_with_old, fit_with_old}
use Rattle.calculus.proofs.Sets.{Ascends-set_of, Ascends-nil}
use Rattle.calculus_laws.specs.Expansion.{is_no_view}
use Rattle.calculus_laws.proofs.Members.{In, Within, In-filter, filter-In, In-filter_map, filter_map-In}
use Rattle.calculus_laws.proofs.SameRows.{all_at, equal_by}
use Rattle.calculus_laws.proofs.ViewAnswer.{found}
use Rattle.view_text.specs.Replaced.{Substitution, replaced_target}
use Rattle.view_text.specs.Halves.{all_of}
use Rattle.view_text.specs.Expansions.{expansions_vars, substituted_from}
use Rattle.view_text.specs.ExpansionOf.{restriction}
use Rattle.view_text.specs.Expanded.{expanded_made, expanded_over, append_restriction, update_expansions, expanded_update}
use Rattle.tree_laws.specs.Nesting.{aggregates_nest_none}
use Rattle.tree_laws.proofs.Halves.{holds_all_of}
use Rattle.tree_laws.proofs.Joint.{kept_lists}
use Rattle.tree_laws.proofs.Queries.{targets_of-put, same_lack}
use Rattle.tree_laws.proofs.Denoted.{restriction_holds}
use Rattle.tree_laws.proofs.Answering.{put_makes}
use Rattle.tree_laws.proofs.Beside.{IsBeside, rowss, denoted, unrestricted_seen, to_unrestricted, from_unrestricted}
use Rattle.tree_laws.proofs.Pairing.{same_contended, same_after}
use Rattle.calculus.specs.declared.schema.Spec.TheVariants.{Heap}

-- ---- rows that are kept ascend

ascend_in : (rs : List Relation) (r : Relation) → In r rs → AllByRecursion (λ r. Ascends r.rows) rs → Ascends r.rows
ascend_in [] r h all = absurd h
ascend_in (first ∷ rs) r (inl same) all = subst (λ r. Ascends r.rows) same all.0
ascend_in (first ∷ rs) r (inr h) all = ascend_in rs r h all.1

abbrev catalogue_rows : Option Relation → List Row
catalogue_rows o = elim o [ None ↦ [] | Some r ↦ r.rows ]

catalogue_ascends : (db : Db) (key : RelKey) → Ascends (catalogue_rows (catalogue_at db key))
unfolding catalogue_at
catalogue_ascends db key = by (same_key key (relation_key db)) (same_key key (attribute_key db))
  where
    by : (b c : Bool) → Ascends (catalogue_rows (elim b [
      | true ↦ Some (record { info = relation_info db; rows = set_of (map relation_row (all_entries db)) })
      | false ↦ elim c [
        | true ↦ Some (record { info = attribute_info db; rows = set_of (flat_map attribute_rows (all_entries db)) })
        | false ↦ None
      ]
    ]))
    by true c = Ascends-set_of (map relation_row (all_entries db))
    by false true = Ascends-set_of (flat_map attribute_rows (all_entries db))
    by false false = Ascends-nil

abbrev ranged : Option Relation → Option View → Option Relation → Option Range
ranged r v c = elim r [
  | Some relation ↦ Some (Kept relation)
  | None ↦ elim v [ Some view ↦ Some (Viewed view) | None ↦ option_map Kept c ]
]

rows_ascend : (db : Db) → IsDatabase db → (key : RelKey) → Ascends (rows_at db key)
unfolding range_at
rows_ascend db d key = by (relation_at db key) refl (view_at db key) (catalogue_at db key) (catalogue_ascends db key)
  where
    by : (r : Option Relation) → relation_at db key ≡ r → (v : Option View) (c : Option Relation) → Ascends (catalogue_rows c) → Ascends (kept_rows (ranged r v c))
    by (Some relation) e v c h = ascend_in db.relations relation (found (λ r. same_key r.info.key key) db.relations relation e).0 d.rows_ascend
    by None e (Some view) c h = Ascends-nil
    by None e None (Some relation) h = h
    by None e None None h = Ascends-nil

-- ---- what an update comes to

-- the change, or the number that refuses it, by what is known of the update
abbrev outcome : UpdateOp → RelKey → RelInfo → List Row → Bool → Bool → Bool → List Row → Result DbChange ℕ
outcome o rel info rows lacks fit contends after =
    elim (first_refusal ((20, lacks) ∷ (21, not fit) ∷ (22, contends) ∷ (29, nat_lt most_rows (length after)) ∷ [])) [
      | None ↦
          Ok (elim o [
            | op.Append ↦ change.Rows rel (without_rows after rows) (without_rows rows after)
            | op.Replace ↦ change.Rows rel (without_rows after rows) (without_rows rows after)
            | op.Delete ↦ change.Rows rel (without_rows after rows) (without_rows rows after)
            | op.Into ↦ change.Create info after
          ])
      | Some number ↦ Err number
    ]

outcome_is : (db : Db) (who : Who) (u : Update)
    → updated db who u ≡ outcome u.op u.rel (made_info u) (rows_at db u.rel) (update_lacks db who u) (values_fit db who u) (contended (pairs db who u)) (rows_after db who u)
unfolding updated
outcome_is db who u = refl

-- ---- targets with expansions substituted make the same attributes

pub attrs_put : (made : QTerm → QTerm) (put : Substitution) (ts : List Target) → map made_attr (map (replaced_target made put) ts) ≡ map made_attr ts
attrs_put made put [] = refl
attrs_put made put (t ∷ ts) = ap (λ attrs. made_attr t ∷ attrs) (attrs_put made put ts)

pub kinds_put : (made : QTerm → QTerm) (put : Substitution) (ts : List Target) → map (λ t. Some (made_attr t).kind) (map (replaced_target made put) ts) ≡ map (λ t. Some (made_attr t).kind) ts
kinds_put made put [] = refl
kinds_put made put (t ∷ ts) = ap (λ kinds. Some (made_attr t).kind ∷ kinds) (kinds_put made put ts)

module _ (db : Db) (d : IsDatabase db) (who : Who) (u : Update) (nest : aggregates_nest_none u.query ≡ true)
    (over : (v : ℕ) (key : RelKey) → slice_get (vars_of u.query) v ≡ Some key → is_changed u v ≡ true → is_no_view (range_at db key) ≡ true) where
  abbrev pub put : Update
  put = expanded_update db who u

  abbrev made : QTerm → QTerm
  made = expanded_made db who (substituted_from 0 (update_expansions db who u))

  pub query_is : put.query ≡ expanded_over db who (update_expansions db who u) u.query
  unfolding expanded_update
  query_is = refl

  targets_are : targets_of put.query ≡ map (replaced_target made (substituted_from 0 (update_expansions db who u))) (targets_of u.query)
  targets_are = ap targets_of query_is ∙ targets_of-put made (update_expansions db who u) u.query

  info_same : made_info put ≡ made_info u
  unfolding expanded_update
  info_same =
      ap (λ attrs. record { key = u.rel; spec = Heap; attrs = attrs; keys = [] })
      (ap (map made_attr) targets_are ∙ attrs_put made (substituted_from 0 (update_expansions db who u)) (targets_of u.query))

  wanted_by : (o : UpdateOp) → List (Option Kind) → List (Option Kind) → List (Option Kind)
  wanted_by o at_places made_kinds = elim o [ op.Append ↦ at_places | op.Replace ↦ at_places | op.Delete ↦ at_places | op.Into ↦ made_kinds ]

  wanted_same : wanted_kinds db put ≡ wanted_kinds db u
  unfolding expanded_update wanted_by
  wanted_same =
      ap (wanted_by u.op (map (slice_get (kinds_at db u.rel)) u.places))
      (ap (map (λ t. Some (made_attr t).kind)) targets_are ∙ kinds_put made (substituted_from 0 (update_expansions db who u)) (targets_of u.query))

  -- ---- which pairs stand

  append_by : (o : UpdateOp) (row : Row)
      → (if is_append o then (holds no_aggs (append_restriction db who u o) (row ∷ []) && may db Unrestricted right.Append u.places u.rel row) else true)
      ≡ (if is_append o then (holds no_aggs u.new_cut (row ∷ []) && may db who right.Append u.places u.rel row) else true)
  unfolding may
  append_by op.Append row =
      true_right (holds no_aggs (all_of (u.new_cut ∷ restriction db who right.Append u.places u.rel)) (row ∷ []))
      ∙ holds_all_of no_aggs (row ∷ []) (u.new_cut ∷ restriction db who right.Append u.places u.rel)
      ∙ ap (λ b. holds no_aggs u.new_cut (row ∷ []) && b) (restriction_holds db who right.Append u.places u.rel row)
    where
      true_right : (b : Bool) → (b && true) ≡ b
      true_right true = refl
      true_right false = refl
  append_by op.Replace row = refl
  append_by op.Delete row = refl
  append_by op.Into row = refl

  new_same : (row : Row) → new_allowed db Unrestricted put row ≡ new_allowed db who u row
  unfolding expanded_update
  new_same row = ap (λ b. list_all (λ q. holds no_aggs q (row ∷ [])) u.checks && b) (append_by u.op row)

  -- whether a pair with this new row stands
  abbrev stands_by : (Row → Bool) → Option Row → Bool
  stands_by test new = elim new [ None ↦ true | Some row ↦ test row ]

  stands_same : (p : Pair) → pair_allowed db Unrestricted put p ≡ pair_allowed db who u p
  stands_same p = by p.new
    where
      by : (new : Option Row) → stands_by (new_allowed db Unrestricted put) new ≡ stands_by (new_allowed db who u) new
      by None = refl
      by (Some row) = new_same row

  -- ---- the pairs

  pair_put : (old : Option Row) (values : Row) → pair_of db put old values ≡ pair_of db u old values
  unfolding expanded_update
  pair_put old values = refl

  pair_same : (e f : Env) → IsBeside db d who u nest over f e → pair_in db Unrestricted put f ≡ pair_in db who u e
  unfolding expanded_update
  pair_same e f by = λ i. option_map (pair_of db u (by.old i)) (by.beside.values i)

  assigned_unrestricted : seen_qualifying db Unrestricted put ≡ filter (holds (aggregates db Unrestricted) (qual_of put.query)) (choices (kept_lists db (expansions_vars (update_expansions db who u))))
  assigned_unrestricted = ap (filter (holds (aggregates db Unrestricted) (qual_of put.query))) (unrestricted_seen db d who u nest over)

  -- each qualifying assignment has one beside it
  to_qualifying : (e : Env) → In e (seen_qualifying db who u) → (f : Env) × In f (seen_qualifying db Unrestricted put) × IsBeside db d who u nest over f e
  to_qualifying e h =
      let (inside, holding) = filter-In (holds (aggregates db who) (qual_of u.query)) (choices (rowss db d who u nest over)) e h in
      let (f, there, by) = to_unrestricted db d who u nest over e inside in (
        f,
        subst (In f) (sym assigned_unrestricted)
            (In-filter (holds (aggregates db Unrestricted) (qual_of put.query)) (choices (kept_lists db (expansions_vars (update_expansions db who u)))) f there
            (ap (λ q. holds (aggregates db Unrestricted) (qual_of q) f) query_is ∙ by.beside.qual ∙ holding)),
        by,
      )

  from_qualifying : (f : Env) → In f (seen_qualifying db Unrestricted put) → (e : Env) × In e (seen_qualifying db who u) × IsBeside db d who u nest over f e
  from_qualifying f h =
      let (inside, holding) = filter-In (holds (aggregates db Unrestricted) (qual_of put.query)) (choices (kept_lists db (expansions_vars (update_expansions db who u)))) f (subst (In f) assigned_unrestricted h) in
      let held = sym (ap (λ q. holds (aggregates db Unrestricted) (qual_of q) f) query_is) ∙ holding in
      let (e, there, by) = from_unrestricted db d who u nest over f inside held in
      (e, In-filter (holds (aggregates db who) (qual_of u.query)) (choices (rowss db d who u nest over)) e there (sym by.beside.qual ∙ held), by)

  to_pairs : Within (pairs db who u) (pairs db Unrestricted put)
  to_pairs p h =
      let (given, stands) = filter-In (pair_allowed db who u) (filter_map (pair_in db who u) (seen_qualifying db who u)) p (subst (In p) (pairs_with_old db who u) h) in
      let (e, inside, is) = filter_map-In (pair_in db who u) (seen_qualifying db who u) p given in
      let (f, there, by) = to_qualifying e inside in
      subst (In p) (sym (pairs_with_old db Unrestricted put))
      (In-filter (pair_allowed db Unrestricted put) (filter_map (pair_in db Unrestricted put) (seen_qualifying db Unrestricted put)) p
      (In-filter_map (pair_in db Unrestricted put) (seen_qualifying db Unrestricted put) f p there (pair_same e f by ∙ is)) (stands_same p ∙ stands))

  from_pairs : Within (pairs db Unrestricted put) (pairs db who u)
  from_pairs p h =
      let (given, stands) = filter-In (pair_allowed db Unrestricted put) (filter_map (pair_in db Unrestricted put) (seen_qualifying db Unrestricted put)) p (subst (In p) (pairs_with_old db Unrestricted put) h) in
      let (f, inside, is) = filter_map-In (pair_in db Unrestricted put) (seen_qualifying db Unrestricted put) p given in
      let (e, there, by) = from_qualifying f inside in
      subst (In p) (sym (pairs_with_old db who u))
      (In-filter (pair_allowed db who u) (filter_map (pair_in db who u) (seen_qualifying db who u)) p
      (In-filter_map (pair_in db who u) (seen_qualifying db who u) e p there (sym (pair_same e f by) ∙ is)) (sym (stands_same p) ∙ stands))

  -- ---- what refuses it

  lacks_same : update_lacks db Unrestricted put ≡ update_lacks db who u
  lacks_same =
      lacks_with_old db Unrestricted put
      ∙ ap (some_lacks (aggregates db Unrestricted) put.query) (unrestricted_seen db d who u nest over)
      ∙ ap (λ q. some_lacks (aggregates db Unrestricted) q (choices (kept_lists db (expansions_vars (update_expansions db who u))))) query_is
      ∙ sym (same_lack db (aggregates db who) (aggregates db Unrestricted) made u.query (rowss db d who u nest over) (update_expansions db who u) (denoted db d who u nest over)
      (put_makes db d who (substituted_from 0 (update_expansions db who u)) (query_aggregates u.query) nest))
      ∙ sym (lacks_with_old db who u)

  -- a test that all of these pass
  all_by : (p : Env → Bool) (es : List Env) → ((e : Env) → In e es → p e ≡ true) → list_all p es ≡ true
  all_by p [] h = refl
  all_by p (e ∷ es) h = λ i. h e (inl refl) i && all_by p es (λ f inside. h f (inr inside)) i

  fits : Env → Bool
  fits e = all_fit (wanted_kinds db u) (target_values (aggregates db who) (targets_of u.query) e)

  fits_unrestricted : Env → Bool
  fits_unrestricted f = all_fit (wanted_kinds db put) (target_values (aggregates db Unrestricted) (targets_of put.query) f)

  fits_beside : (e f : Env) → IsBeside db d who u nest over f e → fits_unrestricted f ≡ fits e
  unfolding fits fits_unrestricted
  fits_beside e f by =
      ap (λ kinds. all_fit kinds (target_values (aggregates db Unrestricted) (targets_of put.query) f)) wanted_same
      ∙ ap (all_fit (wanted_kinds db u)) (ap (λ q. target_values (aggregates db Unrestricted) (targets_of q) f) query_is ∙ by.beside.values)

  fit_same : values_fit db Unrestricted put ≡ values_fit db who u
  unfolding fits fits_unrestricted
  fit_same =
      fit_with_old db Unrestricted put
      ∙ equal_by (list_all fits_unrestricted (seen_qualifying db Unrestricted put)) (list_all fits (seen_qualifying db who u))
      (λ h. all_by fits (seen_qualifying db who u) (λ e inside. let (f, there, by) = to_qualifying e inside in sym (fits_beside e f by) ∙ all_at fits_unrestricted (seen_qualifying db Unrestricted put) f there h))
      (λ h. all_by fits_unrestricted (seen_qualifying db Unrestricted put) (λ f inside. let (e, there, by) = from_qualifying f inside in fits_beside e f by ∙ all_at fits (seen_qualifying db who u) e there h))
      ∙ sym (fit_with_old db who u)

  after_same : rows_after db Unrestricted put ≡ rows_after db who u
  unfolding expanded_update
  after_same = same_after (rows_at db u.rel) (rows_ascend db d u.rel) (pairs db Unrestricted put) (pairs db who u) from_pairs to_pairs

  -- the operation and the relation stay
  same_parts : outcome u.op u.rel (made_info put) (rows_at db u.rel) (update_lacks db Unrestricted put) (values_fit db Unrestricted put) (contended (pairs db Unrestricted put)) (rows_after db Unrestricted put)
      ≡ outcome put.op put.rel (made_info put) (rows_at db put.rel) (update_lacks db Unrestricted put) (values_fit db Unrestricted put) (contended (pairs db Unrestricted put)) (rows_after db Unrestricted put)
  unfolding expanded_update
  same_parts = refl

  pub updated_put : updated db who u ≡ updated db Unrestricted (expanded_update db who u)
  updated_put =
      outcome_is db who u
      ∙ (λ i. outcome u.op u.rel (sym info_same i) (rows_at db u.rel) (sym lacks_same i) (sym fit_same i) (same_contended (pairs db who u) (pairs db Unrestricted put) to_pairs from_pairs i) (sym after_same i))
      ∙ same_parts
      ∙ sym (outcome_is db Unrestricted put)

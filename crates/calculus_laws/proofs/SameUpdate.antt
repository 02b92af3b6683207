-- Databases of one schema that have the same of the rows that an update reads are changed alike.
use Rattle.std.proofs.Common.{◌≡◌, inl, inr, refl, sym, ap, ◌∙◌, ℕ, suc, ◌+◌, Bool, true, false, not, nat_lt, List, [], ◌∷◌, map, length, filter, filter_map, Option, Some, None, option_map, is_none, slice_get, Result, Ok, Err, arith}
use Rattle.std.proofs.lemmas.Bool.Decides.{Decides-eqb}
use Rattle.std.proofs.lemmas.List.Elements.{Contains-append_right}
use Rattle.std.specs.Prelude.{◌&&◌, ◌==◌}
use Rattle.std.specs.List.{list_any, list_all, enumerate_from}
use Rattle.calculus.specs.declared.value.Kind.{Kind}
use Rattle.calculus.specs.declared.query.RelKey.{RelKey}
use Rattle.calculus.specs.declared.change.Pair.{Pair}
use Rattle.calculus.specs.declared.change.DbChange.{DbChange}
use Rattle.calculus.specs.declared.change.DbChange.TheVariants.{Create}
use Rattle.calculus.specs.declared.request.Update.{Update}
use Rattle.calculus.specs.declared.request.UpdateOp.TheVariants.{Append, Replace, Delete, Into}
use Rattle.calculus.specs.Rows.{Row}
use Rattle.calculus.specs.Limits.{most_rows}
use Rattle.calculus.specs.Who.{Who, Unrestricted, AsUser}
use Rattle.calculus.specs.Database.{Db}
use Rattle.calculus.specs.Stored.{rows_at}
use Rattle.calculus.specs.Rights.{Right, Retrieve, may}
use Rattle.calculus.specs.QueryParts.{vars_of, targets_of, qual_of, query_aggregates, qual_aggregates}
use Rattle.calculus.specs.Used.{used_in_query}
use Rattle.calculus.specs.Assignments.{choices, variable_rows, changed, changed_rows, may_read, Seen, staying, going, update_rows, Changing, changing_by, update_assigned}
use Rattle.calculus.specs.Targets.{target_values}
use Rattle.calculus.specs.VariableRows.{rows_of}
use Rattle.calculus.specs.Aggregate.{aggregates}
use Rattle.calculus.specs.Pairs.{blank, with_values, put_pair, pair_of, pair_allowed, qualifying_updates, pairs}
use Rattle.calculus.specs.Replacement.{made_attr, wanted_kinds, all_fit, contended, after, first_refusal, made_info, rows_change, updated}
use Rattle.calculus.specs.Reads.{query_reads, update_reads}
use Rattle.calculus.specs.Schema.{schema_of}
use Rattle.calculus_laws.specs.Reading.{HaveSameRows, IsOverItsRelation}
use Rattle.calculus_laws.proofs.After.{at_head}
use Rattle.calculus_laws.proofs.Asked.{from_zero}
use Rattle.calculus_laws.proofs.Members.{In}
use Rattle.calculus_laws.proofs.Plain.{AgreeOn, in_targets, agree_left, agree_right, holds_agrees, targets_agree}
use Rattle.calculus_laws.proofs.SameAnswer.{lists_same, variable_same, variables_agree, aggregates_agree}
use Rattle.calculus_laws.proofs.SameSchema.{may_same, kinds_same}

-- what is numbered stands at its place
numbered : {X : Type 0} (start : ℕ) (xs : List X) (p : ℕ × X) → In p (enumerate_from start xs) → (v : ℕ) × (p.0 ≡ start + v) × (slice_get xs v ≡ Some p.1)
numbered start [] p h = absurd h
numbered {X} start (x ∷ xs) p (inl same) = (0, ap (λ (p : ℕ × X). p.0) (sym same) ∙ omega arith, ap (λ p. Some p.1) same)
numbered start (x ∷ xs) p (inr h) = let (v, place, there) = numbered (start + 1) xs p h in (suc v, omega (arith, place), there)

stands_bare : (db : Db) (who : Who) (u : Update) → pair_allowed (schema_of db) who u ≡ pair_allowed db who u
unfolding schema_of may
stands_bare db Unrestricted u = refl
stands_bare db (AsUser asker) u = refl

module _ (db other : Db) (schema : schema_of db ≡ schema_of other) (who : Who) (u : Update) (over : IsOverItsRelation u) (under : HaveSameRows db other (update_reads db u)) where
  target_rows : rows_at db u.rel ≡ rows_at other u.rel
  unfolding update_reads
  target_rows = under u.rel (at_head u.rel (query_reads db u.query))

  under_query : HaveSameRows db other (query_reads db u.query)
  unfolding update_reads
  under_query key c = under key (Contains-append_right (u.rel ∷ []) (query_reads db u.query) key c)

  agree : AgreeOn (aggregates db who) (aggregates other who) (query_aggregates u.query)
  agree = aggregates_agree db other schema who u.query under_query

  -- ---- the assignments

  may_read_same : (attrs : List ℕ) (key : RelKey) (row : Row) → may_read db who attrs key row ≡ may_read other who attrs key row
  may_read_same [] key row = refl
  may_read_same (a ∷ attrs) key row = may_same db other schema who Retrieve (a ∷ attrs) key row

  changed_same : (right : Right) (places read : List ℕ) (key : RelKey) → rows_at db key ≡ rows_at other key → changed_rows db who right places read key ≡ changed_rows other who right places read key
  changed_same right places read key rows =
      λ i. filter (λ row. may_same db other schema who right places key row i && may_read_same read key row i) (rows i)

  -- what a variable may have that is changed by this right, or isn't
  abbrev var_by : Db → ℕ × RelKey → Right → Bool → List Seen
  var_by d p does b = elim b [
    | true ↦ map going (changed_rows d who does u.places (used_in_query p.0 u.query) p.1)
    | false ↦ map staying (variable_rows (rows_of d who) u.query p.0 p.1)
  ]

  abbrev var_with : Db → ℕ × RelKey → Option (ℕ × Right) → List Seen
  var_with d p o = elim o [
    | None ↦ map staying (variable_rows (rows_of d who) u.query p.0 p.1)
    | Some c ↦ var_by d p c.1 (c.0 == p.0)
  ]

  staying_same : (p : ℕ × RelKey) → In p (enumerate_from 0 (vars_of u.query))
      → map staying (variable_rows (rows_of db who) u.query p.0 p.1) ≡ map staying (variable_rows (rows_of other who) u.query p.0 p.1)
  staying_same p inside =
      ap (map staying) (variable_same (rows_of db who) (rows_of other who) u.query (variables_agree db other schema who u.query under_query) p inside)

  -- the changed variable ranges over the relation
  is_target : (p : ℕ × RelKey) → In p (enumerate_from 0 (vars_of u.query)) → (c : ℕ × Right) → changed u ≡ Some c → (c.0 == p.0) ≡ true → p.1 ≡ u.rel
  is_target p inside c e f =
      let (v, place, there) = numbered 0 (vars_of u.query) p inside in
      let same : c.0 ≡ v = (Decides-eqb c.0 p.0).0 f ∙ place ∙ from_zero v in
      over c p.1 e (ap (slice_get (vars_of u.query)) same ∙ there)

  by_test : (p : ℕ × RelKey) → In p (enumerate_from 0 (vars_of u.query)) → (c : ℕ × Right) → changed u ≡ Some c → (b : Bool) → (c.0 == p.0) ≡ b → var_by db p c.1 b ≡ var_by other p c.1 b
  by_test p inside c e true f =
      let target = is_target p inside c e f in
      ap (map going) (changed_same c.1 u.places (used_in_query p.0 u.query) p.1 (ap (rows_at db) target ∙ target_rows ∙ sym (ap (rows_at other) target)))
  by_test p inside c e false f = staying_same p inside

  by_change : (p : ℕ × RelKey) → In p (enumerate_from 0 (vars_of u.query)) → (o : Option (ℕ × Right)) → changed u ≡ o → var_with db p o ≡ var_with other p o
  by_change p inside None e = staying_same p inside
  by_change p inside (Some c) e = by_test p inside c e (c.0 == p.0) refl

  assigned_same : update_assigned db who (rows_of db who) u ≡ update_assigned other who (rows_of other who) u
  unfolding update_assigned
  assigned_same =
      ap (λ lists. map changing_by (choices lists))
      (lists_same (λ (p : ℕ × RelKey). update_rows db who (rows_of db who) u p.0 p.1) (λ p. update_rows other who (rows_of other who) u p.0 p.1) (enumerate_from 0 (vars_of u.query))
      (λ p inside. by_change p inside (changed u) refl))

  qualifying_same : qualifying_updates db who u ≡ qualifying_updates other who u
  qualifying_same =
      λ i. filter (λ c. holds_agrees (aggregates db who) (aggregates other who) c.env (qual_of u.query)
      (agree_right (aggregates db who) (aggregates other who) (in_targets (targets_of u.query)) (qual_aggregates (qual_of u.query)) agree) i) (assigned_same i)

  -- ---- the pairs

  -- the values of the targets in an assignment
  abbrev values_in : Db → Changing → Option Row
  values_in d c = target_values (aggregates d who) (targets_of u.query) c.env

  values_same : values_in db ≡ values_in other
  values_same =
      λ i c. targets_agree (aggregates db who) (aggregates other who) c.env (targets_of u.query)
      (agree_left (aggregates db who) (aggregates other who) (in_targets (targets_of u.query)) (qual_aggregates (qual_of u.query)) agree) i

  -- the pair of an old row and values, where the attributes of the relation are of these kinds
  abbrev pair_for : List Kind → Option Row → Row → Pair
  pair_for kinds old values = elim u.op [
    | Append ↦ put_pair (with_values u.places values (map blank kinds))
    | Replace ↦ record { old = old; new = option_map (with_values u.places values) old }
    | Delete ↦ record { old = old; new = None }
    | Into ↦ put_pair values
  ]

  pair_same : pair_of db u ≡ pair_of other u
  pair_same = ap pair_for (kinds_same db other schema u.rel)

  stands_same : pair_allowed db who u ≡ pair_allowed other who u
  stands_same = sym (stands_bare db who u) ∙ ap (λ d. pair_allowed d who u) schema ∙ stands_bare other who u

  pairs_same : pairs db who u ≡ pairs other who u
  unfolding pairs
  pairs_same = λ i. filter (stands_same i) (filter_map (λ c. option_map (pair_same i c.old) (values_same i c)) (qualifying_same i))

  -- ---- the change, or what refuses it

  -- the kinds that the values of the targets are for
  abbrev wanted_for : List Kind → List (Option Kind)
  wanted_for kinds = elim u.op [
    | Append ↦ map (slice_get kinds) u.places
    | Replace ↦ map (slice_get kinds) u.places
    | Delete ↦ map (slice_get kinds) u.places
    | Into ↦ map (λ t. Some (made_attr t).kind) (targets_of u.query)
  ]

  wanted_same : wanted_kinds db u ≡ wanted_kinds other u
  wanted_same = ap wanted_for (kinds_same db other schema u.rel)

  abbrev outcome : (Changing → Option Row) → List (Option Kind) → List Row → List Changing → List Pair → Result DbChange ℕ
  outcome values wanted rows cs ps =
      elim (first_refusal (
      (20, list_any (λ c. is_none (values c)) cs)
      ∷ (21, not (list_all (λ c. all_fit wanted (values c)) cs))
      ∷ (22, contended ps) ∷ (29, nat_lt most_rows (length (after rows ps))) ∷ []
      )) [
        | None ↦
            Ok (elim u.op [
              | Append ↦ rows_change u rows (after rows ps)
              | Replace ↦ rows_change u rows (after rows ps)
              | Delete ↦ rows_change u rows (after rows ps)
              | Into ↦ Create (made_info u) (after rows ps)
            ])
        | Some number ↦ Err number
      ]

  pub updates_are_same : updated db who u ≡ updated other who u
  unfolding updated
  updates_are_same = λ i. outcome (values_same i) (wanted_same i) (target_rows i) (qualifying_same i) (pairs_same i)

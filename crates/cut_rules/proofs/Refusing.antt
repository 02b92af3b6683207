-- Where each variable may be used, and all aggregates are permitted, all is permitted; and where one may not, it is refused.
use Rattle.std.proofs.Common.{◌≡◌, ◌⊎◌, inl, inr, refl, sym, ap, ◌∙◌, ℕ, Bool, true, false, cond, not, ◌&&◌, List, [], ◌∷◌, filter, Option, Some, None, arith}
use Rattle.std.proofs.lemmas.Bool.Decides.{nat_tests}
use Rattle.std.specs.Prelude.{slice_get, ◌==◌}
use Rattle.std.specs.List.{enumerate_from, list_all}
use Rattle.calculus.specs.declared.query.RelKey.{RelKey}
use Rattle.calculus.specs.declared.query.Query.{Query}
use Rattle.calculus.specs.declared.request.Update.{Update}
use Rattle.calculus.specs.declared.request.UpdateOp.{UpdateOp}
use Rattle.calculus.specs.declared.request.UpdateOp.TheVariants as op
use Rattle.calculus.specs.Lists.{is_any}
use Rattle.calculus.specs.Who.{Who}
use Rattle.calculus.specs.Database.{Db}
use Rattle.calculus.specs.Rights.{Right, Replace, Delete, Append, permitted}
use Rattle.calculus.specs.QueryParts.{vars_of}
use Rattle.calculus.specs.Used.{used_in_query, used_vars}
use Rattle.calculus.specs.Assignments.{changed, is_changed}
use Rattle.calculus.specs.Permission.{readable, vars_permitted, aggregates_permitted, query_permitted, change_permitted, target_permitted, update_permitted}
use Rattle.calculus_laws.proofs.Members.{In, In-filter}
use Rattle.calculus_laws.proofs.Asked.{In-Contains}
use Rattle.quel_meaning.specs.Fit.{update_fits}
use Rattle.quel_meaning.specs.FitQueries.{Allowed}
use Rattle.cut_rules.specs.Placed.{may_be_read, changed_by, may_be_used, read_permitted, IsRefusedAt}
use Rattle.cut_rules.specs.Refused.{HasRefusedAggregate, IsRefusedIn, IsRefusedAppend, IsRefusedOf}
use Rattle.cut_rules.proofs.Listing.{placed_at, all_kept, all_in, all_so, one_fails}
use Rattle.cut_rules.proofs.Fitting.{right_is, target_there}

-- ---- queries

pub passed : (b c : Bool) → (b ≡ true → c ≡ true) → cond b c true ≡ true
passed true c h = h refl
passed false c h = refl

pub used_refused : (b c : Bool) → b ≡ true → c ≡ false → cond b c true ≡ false
used_refused true c e h = h
used_refused false c e h = cc e

pub all_read : (db : Db) (who : Who) (q : Query) → list_all (may_be_read db who q) (enumerate_from 0 (vars_of q)) ≡ true → aggregates_permitted (readable db who) q ≡ true → query_permitted db who q ≡ true
unfolding query_permitted
all_read db who q h a =
    let vars : vars_permitted (readable db who) q (used_vars q) ≡ true =
    all_kept (λ p. is_any (used_in_query p.0 q)) (λ p. readable db who p.1 (used_in_query p.0 q)) (enumerate_from 0 (vars_of q)) ∙ h in
    λ i. vars i && a i

-- a variable of which something isn't permitted is used, and so is refused
used_first : (b c : Bool) → cond b c true ≡ false → (b ≡ true) × (c ≡ false)
used_first true c h = (refl, h)
used_first false c h = cc h

and_false_first : (b c : Bool) → b ≡ false → (b && c) ≡ false
and_false_first true c h = cc h
and_false_first false c h = refl

and_false_later : (b c : Bool) → c ≡ false → (b && c) ≡ false
and_false_later true c h = h
and_false_later false c h = refl

pub read_refused : (db : Db) (who : Who) (q : Query) (var : ℕ) → IsRefusedAt (may_be_read db who q) (vars_of q) var → (query_permitted db who q ≡ false) × IsRefusedIn db who q var
unfolding query_permitted
read_refused db who q var r =
    let key : RelKey = r.0 in
    let refused = used_first (is_any (used_in_query var q)) (readable db who key (used_in_query var q)) r.2 in
    let inside : In {X = ℕ × RelKey} (var, key) (used_vars q) = In-filter (λ p. is_any (used_in_query p.0 q)) (enumerate_from 0 (vars_of q)) (var, key) (placed_at (vars_of q) var key r.1) refused.0 in (
      and_false_first (vars_permitted (readable db who) q (used_vars q)) (aggregates_permitted (readable db who) q) (one_fails (λ p. readable db who p.1 (used_in_query p.0 q)) (used_vars q) (var, key) inside refused.1),
      inl (key, In-Contains (used_vars q) (var, key) inside, refused.1),
    )

pub aggregate_refused : (db : Db) (who : Who) (q : Query) (var : ℕ) → HasRefusedAggregate db who q var → (query_permitted db who q ≡ false) × IsRefusedIn db who q var
unfolding query_permitted
aggregate_refused db who q var r = (and_false_later (vars_permitted (readable db who) q (used_vars q)) (aggregates_permitted (readable db who) q) r.1, inr r)

-- ---- the relation that is changed

target_true : (db : Db) (who : Who) (u : Update) → ((v : ℕ) (right : Right) → changed u ≡ Some (v, right) → change_permitted db who right u.places u.rel (used_in_query v u.query) ≡ true)
    → (u.op ≡ op.Append → permitted db who Append u.places u.rel ≡ true) → target_permitted db who u ≡ true
target_true db who u change append = by u.op change append
  where
    by : (o : UpdateOp) → ((v : ℕ) (right : Right) → changed (record u { op = o }) ≡ Some (v, right) → change_permitted db who right u.places u.rel (used_in_query v u.query) ≡ true)
        → (o ≡ op.Append → permitted db who Append u.places u.rel ≡ true) → target_permitted db who (record u { op = o }) ≡ true
    by op.Append c a = a refl
    by op.Replace c a = c u.old Replace refl
    by op.Delete c a = c u.old Delete refl
    by op.Into c a = refl

target_false : (db : Db) (who : Who) (u : Update) (v : ℕ) (right : Right) → changed u ≡ Some (v, right) → change_permitted db who right u.places u.rel (used_in_query v u.query) ≡ false
    → target_permitted db who u ≡ false
target_false db who u v right c h = by u.op c
  where
    changing : Option (ℕ × Right) → Bool
    changing None = true
    changing (Some c) = change_permitted db who c.1 u.places u.rel (used_in_query c.0 u.query)

    by : (o : UpdateOp) → changed (record u { op = o }) ≡ Some (v, right) → target_permitted db who (record u { op = o }) ≡ false
    by op.Append c = cc c
    by op.Replace c = ap changing c ∙ h
    by op.Delete c = ap changing c ∙ h
    by op.Into c = cc c

append_false : (db : Db) (who : Who) (u : Update) → u.op ≡ op.Append → permitted db who Append u.places u.rel ≡ false → target_permitted db who u ≡ false
append_false db who u e h = by u.op e
  where
    by : (o : UpdateOp) → o ≡ op.Append → target_permitted db who (record u { op = o }) ≡ false
    by op.Append e = h
    by op.Replace e = cc e
    by op.Delete e = cc e
    by op.Into e = cc e

-- ---- updates

-- the place is that of the changed variable just where there is a right to change it
same_place : (n : ℕ) → (n == n) ≡ true
same_place n = grind (arith, nat_tests)

changes_there : (u : Update) (v : ℕ) (right : Right) → changed u ≡ Some (v, right) → changed_by u v ≡ Some right
changes_there u v right h =
    ap (λ o. elim o as (λ x. Option Right) [ None ↦ None | Some c ↦ elim (c.0 == v) as (λ x. Option Right) [ true ↦ Some c.1 | false ↦ None ] ]) h
    ∙ ap (λ b. elim b as (λ x. Option Right) [ true ↦ Some right | false ↦ None ]) (same_place v)

changed_is : (o : Option (ℕ × Right)) (v : ℕ) → elim o as (λ x. Bool) [ None ↦ false | Some c ↦ c.0 == v ]
    ≡ elim (elim o as (λ x. Option Right) [ None ↦ None | Some c ↦ elim (c.0 == v) as (λ x. Option Right) [ true ↦ Some c.1 | false ↦ None ] ]) as (λ x. Bool) [ None ↦ false | Some right ↦ true ]
changed_is None v = refl
changed_is (Some c) v = by (c.0 == v)
  where
    by : (b : Bool) → b ≡ elim (elim b as (λ x. Option Right) [ true ↦ Some c.1 | false ↦ None ]) as (λ x. Bool) [ None ↦ false | Some right ↦ true ]
    by true = refl
    by false = refl

stays_is : (u : Update) (v : ℕ) → not (is_changed u v) ≡ elim (changed_by u v) as (λ x. Bool) [ None ↦ true | Some right ↦ false ]
stays_is u v = ap not (changed_is (changed u) v) ∙ by (changed_by u v)
  where
    by : (o : Option Right) → not (elim o as (λ x. Bool) [ None ↦ false | Some right ↦ true ]) ≡ elim o as (λ x. Bool) [ None ↦ true | Some right ↦ false ]
    by None = refl
    by (Some right) = refl

module _ (may : Allowed) (db : Db) (who : Who) (u : Update) (fit : update_fits may db u ≡ true) where
  abbrev reads : ℕ × RelKey → Bool
  reads p = readable db who p.1 (used_in_query p.0 u.query)

  abbrev is_used : ℕ × RelKey → Bool
  is_used p = is_any (used_in_query p.0 u.query)

  abbrev stays : ℕ × RelKey → Bool
  stays p = not (is_changed u p.0)

  abbrev vars : List (ℕ × RelKey)
  vars = enumerate_from 0 (vars_of u.query)

  other_read : (p : ℕ × RelKey) → may_be_used db who u p ≡ true → cond (is_used p) (cond (stays p) (reads p) true) true ≡ true
  other_read p h = by (changed_by u p.0) (stays_is u p.0) h
    where
      staying : (b c d : Bool) → c ≡ true → cond b d true ≡ true → cond b (cond c d true) true ≡ true
      staying b true d e h = h
      staying b false d e h = cc e

      going : (b c d : Bool) → c ≡ false → cond b (cond c d true) true ≡ true
      going true true d e = cc e
      going false true d e = cc e
      going true false d e = refl
      going false false d e = refl

      by : (o : Option Right) → stays p ≡ elim o as (λ x. Bool) [ None ↦ true | Some right ↦ false ]
          → elim o as (λ x. Bool) [ None ↦ may_be_read db who u.query p | Some right ↦ change_permitted db who right u.places p.1 (used_in_query p.0 u.query) ] ≡ true
          → cond (is_used p) (cond (stays p) (reads p) true) true ≡ true
      by None e h = staying (is_used p) (stays p) (reads p) e h
      by (Some right) e h = going (is_used p) (stays p) (reads p) e

  changing : list_all (may_be_used db who u) vars ≡ true → (v : ℕ) (right : Right) → changed u ≡ Some (v, right) → change_permitted db who right u.places u.rel (used_in_query v u.query) ≡ true
  changing h v right c =
      let there = (target_there may db u fit v right c).stands in
      sym (ap (λ o. elim o as (λ x. Bool) [ None ↦ may_be_read db who u.query (v, u.rel) | Some right ↦ change_permitted db who right u.places u.rel (used_in_query v u.query) ]) (changes_there u v right c))
      ∙ all_in (may_be_used db who u) vars (v, u.rel) (placed_at (vars_of u.query) v u.rel there) h

  pub all_used : list_all (may_be_used db who u) vars ≡ true → aggregates_permitted (readable db who) u.query ≡ true → (u.op ≡ op.Append → permitted db who Append u.places u.rel ≡ true)
      → update_permitted db who u ≡ true
  unfolding update_permitted
  all_used h a p =
      let target = target_true db who u (changing h) p in
      let read : vars_permitted (readable db who) u.query (filter stays (used_vars u.query)) ≡ true =
      all_kept stays reads (used_vars u.query) ∙ all_kept is_used (λ p. cond (stays p) (reads p) true) vars
      ∙ all_so (may_be_used db who u) (λ p. cond (is_used p) (cond (stays p) (reads p) true) true) vars (λ p inside. other_read p) h in
      λ i. target i && (read i && a i)

  pub use_refused : (var : ℕ) → IsRefusedAt (may_be_used db who u) (vars_of u.query) var → (update_permitted db who u ≡ false) × IsRefusedOf db who u var
  unfolding update_permitted
  use_refused var r = by (changed_by u var) refl (stays_is u var) r.2
    where
      key : RelKey
      key = r.0

      by : (o : Option Right) → changed_by u var ≡ o → stays (var, key) ≡ elim o as (λ x. Bool) [ None ↦ true | Some right ↦ false ]
          → elim o as (λ x. Bool) [ None ↦ may_be_read db who u.query (var, key) | Some right ↦ change_permitted db who right u.places key (used_in_query var u.query) ] ≡ false
          → (update_permitted db who u ≡ false) × IsRefusedOf db who u var
      by None e s h =
          let refused = used_first (is_used (var, key)) (reads (var, key)) h in
          let used : In {X = ℕ × RelKey} (var, key) (used_vars u.query) = In-filter is_used vars (var, key) (placed_at (vars_of u.query) var key r.1) refused.0 in
          let inside : In {X = ℕ × RelKey} (var, key) (filter stays (used_vars u.query)) = In-filter stays (used_vars u.query) (var, key) used s in (
            and_false_later (target_permitted db who u) _
                (and_false_first (vars_permitted (readable db who) u.query (filter stays (used_vars u.query))) (aggregates_permitted (readable db who) u.query) (one_fails reads (filter stays (used_vars u.query)) (var, key) inside refused.1)),
            inr (inl (key, In-Contains (filter stays (used_vars u.query)) (var, key) inside, refused.1)),
          )
      by (Some right) e s h =
          let c = right_is u var right e in
          let target = target_there may db u fit var right c in
          let same : key ≡ u.rel = cc (sym r.1 ∙ target.stands) in
          let refused : change_permitted db who right u.places u.rel (used_in_query var u.query) ≡ false = ap (λ k. change_permitted db who right u.places k (used_in_query var u.query)) (sym same) ∙ h in
          (and_false_first (target_permitted db who u) _ (target_false db who u var right c refused), inl (inl (right, c, refused)))

pub rest_refused : (db : Db) (who : Who) (u : Update) (var : ℕ) → IsRefusedAppend db who u var ⊎ HasRefusedAggregate db who u.query var → (update_permitted db who u ≡ false) × IsRefusedOf db who u var
unfolding update_permitted
rest_refused db who u var (inl r) = (and_false_first (target_permitted db who u) _ (append_false db who u r.1 r.2), inl (inr r))
rest_refused db who u var (inr r) = (
  and_false_later (target_permitted db who u) _ (and_false_later (vars_permitted (readable db who) u.query (filter (λ p. not (is_changed u p.0)) (used_vars u.query))) (aggregates_permitted (readable db who) u.query) r.1),
  inr (inr r),
)

-- ---- the right to change, and to read

pub change_true : (db : Db) (who : Who) (right : Right) (places : List ℕ) (key : RelKey) (read : List ℕ) → permitted db who right places key ≡ true → read_permitted db who read key ≡ true
    → change_permitted db who right places key read ≡ true
change_true db who right places key [] p r = p
change_true db who right places key (a ∷ read) p r = λ i. p i && r i

pub change_false : (db : Db) (who : Who) (right : Right) (places : List ℕ) (key : RelKey) (read : List ℕ) → read_permitted db who read key ≡ false → change_permitted db who right places key read ≡ false
change_false db who right places key [] r = cc r
change_false db who right places key (a ∷ read) r = and_false_later (permitted db who right places key) _ r

-- ---- one variable of a list

pub refused_at : (may : ℕ × RelKey → Bool) (keys : List RelKey) (n : ℕ) (key : RelKey) (var : ℕ) → slice_get keys n ≡ Some key → var ≡ n → may (n, key) ≡ false → IsRefusedAt may keys var
refused_at may keys n key var there e h = (key, ap (slice_get keys) e ∙ there, ap (λ v. may (v, key)) e ∙ h)

-- The assignments of an update, and those of the update with its expansions substituted, beside each other.
use Rattle.std.proofs.Common.{◌≡◌, ◌⊎◌, refl, sym, ap, ◌∙◌, inl, inr, ℕ, zero, suc, ◌+◌, Bool, true, false, ◌&&◌, List, [], ◌∷◌, ◌++◌, map, length, filter, Option, Some, None, arith}
use Rattle.std.proofs.lemmas.Bool.Decides.{nat_tests}
use Rattle.std.specs.Prelude.{slice_get, nat_lt, ◌==◌}
use Rattle.std.specs.List.{list_all, enumerate_from}
use Rattle.calculus.specs.declared.query.RelKey.{RelKey}
use Rattle.calculus.specs.declared.request.Update.{Update}
use Rattle.calculus.specs.declared.request.UpdateOp.{UpdateOp}
use Rattle.calculus.specs.declared.request.UpdateOp.TheVariants as op
use Rattle.calculus.specs.Rows.{Row}
use Rattle.calculus.specs.Term.{Env, val, no_aggs, value_in, attribute_value, holds}
use Rattle.calculus.specs.Lists.{is_any}
use Rattle.calculus.specs.Who.{Who, Unrestricted}
use Rattle.calculus.specs.Database.{Db}
use Rattle.calculus.specs.IsDatabase.{IsDatabase}
use Rattle.calculus.specs.Stored.{range_at, rows_at}
use Rattle.calculus.specs.Rights.{Right, Retrieve, Replace, Delete, may}
use Rattle.calculus.specs.Used.{used_in_query}
use Rattle.calculus.specs.Assignments.{variable_rows, changed, is_changed, may_read, changed_rows}
use Rattle.calculus.specs.VariableRows.{rows_of}
use Rattle.calculus.proofs.OldRows.{seen_rows}
use Rattle.calculus_laws.specs.Expansion.{is_no_view}
use Rattle.view_text.specs.declared.expansion.Expansion.{Expansion}
use Rattle.view_text.specs.Scoped.{is_qual_within, is_scoped}
use Rattle.view_text.specs.Expansions.{used_expansion, expansions_vars}
use Rattle.view_text.specs.ExpansionOf.{restriction, expansion_of}
use Rattle.view_text.specs.Expanded.{read_restriction, changed_expansion, update_expansion}
use Rattle.tree_laws.proofs.Joint.{both_are, all_append, all_hold, Denotes, DenoteEach}
use Rattle.tree_laws.proofs.Denoted.{restriction_holds, restriction_within, kept_denoted, used_denoted, all_denoted}
use Rattle.tree_laws.proofs.Placed.{NamesAll, kept_names}
use Rattle.tree_laws.proofs.Sound.{no_views, used_sound, used_meant, all_sound}

-- ---- what the changed variable has

read_holds : (db : Db) (who : Who) (read : List ℕ) (key : RelKey) (row : Row) → all_hold no_aggs (read_restriction db who read key) (row ∷ []) ≡ may_read db who read key row
read_holds db who [] key row = refl
read_holds db who (a ∷ read) key row = restriction_holds db who Retrieve (a ∷ read) key row

read_within : (db : Db) (who : Who) (read : List ℕ) (key : RelKey) → list_all (is_qual_within 1) (read_restriction db who read key) ≡ true
read_within db who [] key = refl
read_within db who (a ∷ read) key = restriction_within db who Retrieve (a ∷ read) key

pub changed_within : (db : Db) (who : Who) (right : Right) (places read : List ℕ) (key : RelKey) → list_all (is_qual_within 1) (restriction db who right places key ++ read_restriction db who read key) ≡ true
changed_within db who right places read key =
    all_append (is_qual_within 1) (restriction db who right places key) (read_restriction db who read key)
    ∙ (λ i. restriction_within db who right places key i && read_within db who read key i)

changed_denoted : (db : Db) (who : Who) (right : Right) (places read : List ℕ) (key : RelKey) → Denotes db (changed_rows db who right places read key) (changed_expansion db who right places read key)
changed_denoted db who right places read key =
    kept_denoted db key (restriction db who right places key ++ read_restriction db who read key) (λ row. may db who right places key row && may_read db who read key row)
    (changed_within db who right places read key)
    (λ row. all_append (λ q. holds no_aggs q (row ∷ [])) (restriction db who right places key) (read_restriction db who read key)
    ∙ (λ i. restriction_holds db who right places key row i && read_holds db who read key row i))

module _ (db : Db) (who : Who) (u : Update) where
  -- the rows and the expansion of a variable that is changed by this right, or isn't
  abbrev rows_by : ℕ → RelKey → Right → Bool → List Row
  rows_by v key right b = elim b [
    | true ↦ changed_rows db who right u.places (used_in_query v u.query) key
    | false ↦ variable_rows (rows_of db who) u.query v key
  ]

  abbrev pub expansion_by : ℕ → RelKey → Right → Bool → Expansion
  expansion_by v key right b = elim b [
    | true ↦ changed_expansion db who right u.places (used_in_query v u.query) key
    | false ↦ used_expansion (expansion_of db who) key (used_in_query v u.query)
  ]

  abbrev rows_with : ℕ → RelKey → Option (ℕ × Right) → List Row
  rows_with v key o = elim o [ None ↦ variable_rows (rows_of db who) u.query v key | Some c ↦ rows_by v key c.1 (c.0 == v) ]

  abbrev pub expansion_with : ℕ → RelKey → Option (ℕ × Right) → Expansion
  expansion_with v key o = elim o [ None ↦ used_expansion (expansion_of db who) key (used_in_query v u.query) | Some c ↦ expansion_by v key c.1 (c.0 == v) ]

  denoted_by : (v : ℕ) (key : RelKey) (right : Right) (b : Bool) → Denotes db (rows_by v key right b) (expansion_by v key right b)
  denoted_by v key right true = changed_denoted db who right u.places (used_in_query v u.query) key
  denoted_by v key right false = used_denoted db (rows_of db who) (expansion_of db who) (all_denoted db who) key (used_in_query v u.query)

  denoted_with : (v : ℕ) (key : RelKey) (o : Option (ℕ × Right)) → Denotes db (rows_with v key o) (expansion_with v key o)
  denoted_with v key None = used_denoted db (rows_of db who) (expansion_of db who) (all_denoted db who) key (used_in_query v u.query)
  denoted_with v key (Some c) = denoted_by v key c.1 (c.0 == v)

  pub update_denoted : (k : ℕ) (keys : List RelKey)
      → DenoteEach db (map (λ p. seen_rows db who (rows_of db who) u p.0 p.1) (enumerate_from k keys)) (map (λ p. update_expansion db who u p.0 p.1) (enumerate_from k keys))
  update_denoted k [] = tt
  update_denoted k (key ∷ keys) = (denoted_with k key (changed u), update_denoted (k + 1) keys)

-- ---- rows by their attributes

same_rows : (xs ys : Row) → ((a : ℕ) → slice_get xs a ≡ slice_get ys a) → xs ≡ ys
same_rows [] [] h = refl
same_rows [] (y ∷ ys) h = cc (h 0)
same_rows (x ∷ xs) [] h = cc (h 0)
same_rows (x ∷ xs) (y ∷ ys) h = let first : x ≡ y = cc (h 0) in (λ i. first i ∷ same_rows xs ys (λ a. h (suc a)) i)

get_there : (e : Env) (v : ℕ) → nat_lt v (length e) ≡ true → (row : Row) × (slice_get e v ≡ Some row)
get_there [] v h = absurd (grind (arith, nat_tests, h))
get_there (row ∷ e) zero h = (row, refl)
get_there (row ∷ e) (suc v) h = let less : nat_lt v (length e) ≡ true = grind (arith, nat_tests, h) in get_there e v less

pub get_past : (e : Env) (v : ℕ) → nat_lt v (length e) ≡ false → slice_get e v ≡ None
get_past [] zero h = refl
get_past [] (suc v) h = refl
get_past (row ∷ e) zero h = absurd (grind (arith, nat_tests, h))
get_past (row ∷ e) (suc v) h = let less : nat_lt v (length e) ≡ false = grind (arith, nat_tests, h) in get_past e v less

-- two places have the same row where their attributes are the same and both are there, or neither is
pub same_place : (e f : Env) (v w : ℕ) → nat_lt v (length e) ≡ nat_lt w (length f) → ((a : ℕ) → attribute_value e v a ≡ attribute_value f w a) → slice_get e v ≡ slice_get f w
unfolding attribute_value
same_place e f v w both h = by (nat_lt v (length e)) refl
  where
    by : (b : Bool) → nat_lt v (length e) ≡ b → slice_get e v ≡ slice_get f w
    by false past = get_past e v past ∙ sym (get_past f w (sym both ∙ past))
    by true there =
        let (xs, at_v) = get_there e v there in
        let (ys, at_w) = get_there f w (sym both ∙ there) in
        at_v ∙ ap Some (same_rows xs ys (λ a. ap (λ r. value_in r a) (sym at_v) ∙ h a ∙ ap (λ r. value_in r a) at_w)) ∙ sym at_w

-- ---- the expansions of an update's variables

module _ (db : Db) (d : IsDatabase db) (who : Who) (u : Update) where
  -- an expansion that names only its own variables, and each of them
  abbrev pub IsNamed : Expansion → Type 0
  IsNamed expansion = (is_scoped expansion ≡ true) × NamesAll expansion

  named_by : (v : ℕ) (key : RelKey) (right : Right) (b : Bool) → IsNamed (expansion_by db who u v key right b)
  named_by v key right true =
      let places = u.places in
      let read = used_in_query v u.query in
      (changed_within db who right places read key, kept_names (restriction db who right places key ++ read_restriction db who read key) key)
  named_by v key right false = let sound = used_sound db (expansion_of db who) (all_sound db who d) key (used_in_query v u.query) in (sound.scoped, sound.names)

  named_with : (v : ℕ) (key : RelKey) (o : Option (ℕ × Right)) → IsNamed (expansion_with db who u v key o)
  named_with v key None = let sound = used_sound db (expansion_of db who) (all_sound db who d) key (used_in_query v u.query) in (sound.scoped, sound.names)
  named_with v key (Some c) = named_by v key c.1 (c.0 == v)

  pub update_named : (v : ℕ) (key : RelKey) → IsNamed (update_expansion db who u v key)
  update_named v key = named_with v key (changed u)

  -- the variable is used, or is the one that is changed, at its only place
  abbrev pub IsSeen : ℕ → ℕ → Type 0
  IsSeen v j = (is_any (used_in_query v u.query) ≡ true) ⊎ ((is_changed u v ≡ true) × (j ≡ 0))

  abbrev is_changed_by : ℕ → Option (ℕ × Right) → Bool
  is_changed_by v o = elim o [ None ↦ false | Some c ↦ c.0 == v ]

  seen_by : (v : ℕ) (key : RelKey) (right : Right) (j : ℕ) (b : Bool) → nat_lt j (length (expansion_by db who u v key right b).vars) ≡ true
      → (is_any (used_in_query v u.query) ≡ true) ⊎ ((b ≡ true) × (j ≡ 0))
  seen_by v key right j true h = inr (refl, grind (arith, nat_tests, h))
  seen_by v key right j false h = inl (used_meant (expansion_of db who) key (used_in_query v u.query) j h)

  seen_with : (v : ℕ) (key : RelKey) (j : ℕ) (o : Option (ℕ × Right)) → nat_lt j (length (expansion_with db who u v key o).vars) ≡ true
      → (is_any (used_in_query v u.query) ≡ true) ⊎ ((is_changed_by v o ≡ true) × (j ≡ 0))
  seen_with v key j None h = inl (used_meant (expansion_of db who) key (used_in_query v u.query) j h)
  seen_with v key j (Some c) h = seen_by v key c.1 j (c.0 == v) h

  pub update_seen : (v : ℕ) (key : RelKey) (j : ℕ) → nat_lt j (length (update_expansion db who u v key).vars) ≡ true → IsSeen v j
  update_seen v key j h = seen_with v key j (changed u) h

  -- no view stands under what the variables of the expansions range over, where none stands under what the changed variable ranges over
  kept_by : (v : ℕ) (key : RelKey) (right : Right) (b : Bool) → (b ≡ true → is_no_view (range_at db key) ≡ true) → no_views db (expansion_by db who u v key right b).vars ≡ true
  kept_by v key right true h = both_are (is_no_view (range_at db key)) true (h refl) refl
  kept_by v key right false h = (used_sound db (expansion_of db who) (all_sound db who d) key (used_in_query v u.query)).kept

  kept_with : (v : ℕ) (key : RelKey) (o : Option (ℕ × Right)) → (is_changed_by v o ≡ true → is_no_view (range_at db key) ≡ true) → no_views db (expansion_with db who u v key o).vars ≡ true
  kept_with v key None h = (used_sound db (expansion_of db who) (all_sound db who d) key (used_in_query v u.query)).kept
  kept_with v key (Some c) h = kept_by v key c.1 (c.0 == v) h

  pub update_kept : (k : ℕ) (keys : List RelKey) → ((v : ℕ) (key : RelKey) → slice_get keys v ≡ Some key → is_changed u (k + v) ≡ true → is_no_view (range_at db key) ≡ true)
      → no_views db (expansions_vars (map (λ p. update_expansion db who u p.0 p.1) (enumerate_from k keys))) ≡ true
  update_kept k [] h = refl
  update_kept k (key ∷ keys) h =
      let same : k ≡ k + 0 = omega arith in
      all_append (λ key. is_no_view (range_at db key)) (update_expansion db who u k key).vars (expansions_vars (map (λ p. update_expansion db who u p.0 p.1) (enumerate_from (k + 1) keys)))
      ∙ both_are (no_views db (update_expansion db who u k key).vars) (no_views db (expansions_vars (map (λ p. update_expansion db who u p.0 p.1) (enumerate_from (k + 1) keys))))
      (kept_with k key (changed u) (λ e. h 0 key refl (ap (is_changed u) (sym same) ∙ e)))
      (update_kept (k + 1) keys (λ v other there e. h (suc v) other there (ap (is_changed u) (further v) ∙ e)))
    where
      further : (v : ℕ) → k + suc v ≡ k + 1 + v
      further v = omega arith

-- ---- what whoever is unrestricted has of them

all_pass : {X : Type 0} (p : X → Bool) (xs : List X) → ((x : X) → p x ≡ true) → filter p xs ≡ xs
all_pass p [] h = refl
all_pass p (x ∷ xs) h = rw (h x) (ap (λ ys. x ∷ ys) (all_pass p xs h))

unrestricted_read : (db : Db) (read : List ℕ) (key : RelKey) (row : Row) → may_read db Unrestricted read key row ≡ true
unfolding may
unrestricted_read db [] key row = refl
unrestricted_read db (a ∷ read) key row = refl

pub unrestricted_changed : (db : Db) (right : Right) (places read : List ℕ) (key : RelKey) → changed_rows db Unrestricted right places read key ≡ rows_at db key
unfolding may
unrestricted_changed db right places read key = all_pass (λ row. may db Unrestricted right places key row && may_read db Unrestricted read key row) (rows_at db key) (λ row. unrestricted_read db read key row)

-- the variable that is changed by an operation, which this is the place of
abbrev pub changed_at : UpdateOp → ℕ → Option (ℕ × Right)
changed_at o place = elim o [ op.Append ↦ None | op.Replace ↦ Some (place, Replace) | op.Delete ↦ Some (place, Delete) | op.Into ↦ None ]

-- In a database the expansion of what stands under a key names only base relations and catalogues, names only its own variables, and each of them.
use Rattle.std.proofs.Common.{◌≡◌, refl, sym, ap, ◌∙◌, inl, inr, ℕ, suc, ◌+◌, Bool, true, ◌&&◌, List, [], ◌∷◌, map, length, Option, Some, None, arith}
use Rattle.std.proofs.lemmas.Bool.Decides.{nat_tests}
use Rattle.std.specs.Prelude.{nat_lt, filter, option_map}
use Rattle.std.specs.List.{list_all, enumerate_from}
use Rattle.calculus.specs.declared.query.RelKey.{RelKey}
use Rattle.calculus.specs.declared.query.QQual.{QQual}
use Rattle.calculus.specs.Keys.{same_key}
use Rattle.calculus.specs.Lists.{is_any}
use Rattle.calculus.specs.Limits.{greatest_level}
use Rattle.calculus.specs.Who.{Who, Unrestricted}
use Rattle.calculus.specs.Database.{Db, Relation, View, relation_at, view_at}
use Rattle.calculus.specs.Catalogue.{catalogue_at}
use Rattle.calculus.specs.IsDatabase.{IsDatabase, valid_query}
use Rattle.calculus.specs.Stored.{Range, Kept, Viewed, range_at, rows_at, kept_rows}
use Rattle.calculus.specs.Rights.{Retrieve, may}
use Rattle.calculus.specs.Rows.{Row}
use Rattle.calculus.specs.Assignments.{rows_used}
use Rattle.calculus.specs.VariableRows.{range_rows, rows_within, rows_of}
use Rattle.calculus.specs.QueryParts.{query_aggregates, vars_of}
use Rattle.calculus.specs.Used.{used_in_query}
use Rattle.calculus_laws.specs.Expansion.{is_no_view}
use Rattle.calculus_laws.proofs.SameRows.{all_at}
use Rattle.calculus_laws.proofs.Through.{each_said, said_view, said_at, rows_said}
use Rattle.calculus_laws.proofs.ViewAnswer.{stands_plain, found}
use Rattle.view_text.specs.declared.expansion.Expansion.{Expansion}
use Rattle.view_text.specs.Scoped.{is_qual_within, is_scoped}
use Rattle.view_text.specs.Expansions.{ExpansionSource, no_expansion, used_expansion, query_expansions, expansions_vars}
use Rattle.view_text.specs.ExpansionOf.{restriction, kept_expansion, past_expansion, view_text, expansion_within, expansion_of}
use Rattle.tree_laws.proofs.Scopes.{both_true}
use Rattle.tree_laws.proofs.Joint.{both_are, all_append}
use Rattle.tree_laws.proofs.Denoted.{restriction_within, expansions_said}
use Rattle.tree_laws.proofs.Within.{all_scoped, rows_expansion_scoped}
use Rattle.tree_laws.proofs.Placed.{NamesAll, placed_first, kept_names, rows_name}

-- ---- views in a database

-- what stands there, as one looks for it
abbrev ranged : Option Relation → Option View → Option Relation → Option Range
ranged r v c = elim r [
  | Some relation ↦ Some (Kept relation)
  | None ↦ elim v [ Some view ↦ Some (Viewed view) | None ↦ option_map Kept c ]
]

viewed_one : (r c : Option Relation) (v : Option View) (view : View) → ranged r v c ≡ Some (Viewed view) → v ≡ Some view
viewed_one (Some relation) c v view h = cc h
viewed_one None c (Some other) view h = cc h
viewed_one None (Some relation) None view h = cc h
viewed_one None None None view h = cc h

pub viewed : (db : Db) (key : RelKey) (view : View) → range_at db key ≡ Some (Viewed view) → view_at db key ≡ Some view
unfolding range_at
viewed db key view h = viewed_one (relation_at db key) (catalogue_at db key) (view_at db key) view h

pub plain_view : (db : Db) → IsDatabase db → (key : RelKey) (view : View) → range_at db key ≡ Some (Viewed view) → query_aggregates view.query ≡ []
plain_view db d key view h =
    stands_plain db view.query
    (all_at (λ v. valid_query db v.query) db.views view (found (λ v. same_key v.info.key key) db.views view (viewed db key view h)).0 d.view_queries_stand)

-- ---- sound texts

-- no view stands under any of these keys
abbrev pub no_views : Db → List RelKey → Bool
no_views db keys = list_all (λ key. is_no_view (range_at db key)) keys

pub record IsSound (db : Db) (expansion : Expansion) : Type 0 where
  pub scoped : is_scoped expansion ≡ true
  pub names : NamesAll expansion
  pub kept : no_views db expansion.vars ≡ true

-- the expansions of all keys are sound
abbrev pub AreSound : Db → ExpansionSource → Type 0
AreSound db expansions = (key : RelKey) (attrs : List ℕ) → IsSound db (expansions key attrs)

pub kept_sound : (db : Db) (conditions : List QQual) (key : RelKey) → list_all (is_qual_within 1) conditions ≡ true → is_no_view (range_at db key) ≡ true → IsSound db (kept_expansion conditions key)
kept_sound db conditions key within kept = record { scoped = within; names = kept_names conditions key; kept = both_are (is_no_view (range_at db key)) true kept refl }

pub no_expansion_sound : (db : Db) → IsSound db no_expansion
no_expansion_sound db = record { scoped = refl; names = λ v h. absurd (grind (arith, nat_tests, h)); kept = refl }

past_sound : (db : Db) → IsSound db past_expansion
unfolding is_qual_within
past_sound db = record { scoped = refl; names = λ v h. absurd (grind (arith, nat_tests, h)); kept = refl }

pub used_sound : (db : Db) (expansions : ExpansionSource) → AreSound db expansions → (key : RelKey) (attrs : List ℕ) → IsSound db (used_expansion expansions key attrs)
used_sound db expansions sound key [] = no_expansion_sound db
used_sound db expansions sound key (a ∷ attrs) = sound key (a ∷ attrs)

-- an expansion with variables is that of a variable that is used
pub used_meant : (expansions : ExpansionSource) (key : RelKey) (attrs : List ℕ) (j : ℕ) → nat_lt j (length (used_expansion expansions key attrs).vars) ≡ true → is_any attrs ≡ true
used_meant expansions key [] j h = absurd (grind (arith, nat_tests, h))
used_meant expansions key (a ∷ attrs) j h = refl

-- ---- expansions of variables, each made for a variable by its place and key

module _ (db : Db) (expansion_at : ℕ → RelKey → Expansion) (sound : (v : ℕ) (key : RelKey) → IsSound db (expansion_at v key)) where
  pub each_scoped_at : (k : ℕ) (keys : List RelKey) → all_scoped (map (λ p. expansion_at p.0 p.1) (enumerate_from k keys)) ≡ true
  each_scoped_at k [] = refl
  each_scoped_at k (key ∷ keys) = λ i. (sound k key).scoped i && each_scoped_at (k + 1) keys i

  pub each_kept_at : (k : ℕ) (keys : List RelKey) → no_views db (expansions_vars (map (λ p. expansion_at p.0 p.1) (enumerate_from k keys))) ≡ true
  each_kept_at k [] = refl
  each_kept_at k (key ∷ keys) =
      all_append (λ key. is_no_view (range_at db key)) (expansion_at k key).vars (expansions_vars (map (λ p. expansion_at p.0 p.1) (enumerate_from (k + 1) keys)))
      ∙ (λ i. (sound k key).kept i && each_kept_at (k + 1) keys i)

-- ---- through levels of views

view_sound : (db : Db) → IsDatabase db → (g : ExpansionSource) → AreSound db g → (key : RelKey) (view : View) → range_at db key ≡ Some (Viewed view) → IsSound db (view_text g view)
view_sound db d g sound key view h = record {
  scoped = rows_expansion_scoped (query_expansions g view.query) view.query (each_scoped_at db expansion_at at_sound 0 (vars_of view.query));
  names = λ v inside. inl (rows_name (query_expansions g view.query) view.query (plain_view db d key view h) v inside
      (elim (placed_first expansion_at (λ v j. is_any (used_in_query v view.query) ≡ true) (λ v key. (at_sound v key).scoped) (λ v key. (at_sound v key).names)
      (λ v key. used_meant g key (used_in_query v view.query)) (vars_of view.query) v inside) [
        | inl condition ↦ inl condition
        | inr (i, j, at, is_used, names) ↦ inr (i, is_used, names)
      ]));
  kept = each_kept_at db expansion_at at_sound 0 (vars_of view.query);
}
  where
    expansion_at : ℕ → RelKey → Expansion
    expansion_at v key = used_expansion g key (used_in_query v view.query)

    at_sound : (v : ℕ) (key : RelKey) → IsSound db (used_expansion g key (used_in_query v view.query))
    at_sound v key = used_sound db g sound key (used_in_query v view.query)

pub within_sound : (n : ℕ) (db : Db) (who : Who) → IsDatabase db → AreSound db (expansion_within n db who)
within_sound n db who d key attrs =
    each_said (expansions_said db who) db (λ n key expansions. (attrs : List ℕ) → IsSound db (expansions attrs))
    (record {
      nothing = λ n g key h attrs. kept_sound db (restriction db who Retrieve attrs key) key (restriction_within db who Retrieve attrs key) (ap is_no_view h);
      kept = λ n g key relation h attrs. kept_sound db (restriction db who Retrieve attrs key) key (restriction_within db who Retrieve attrs key) (ap is_no_view h);
      view_past = λ key view h attrs. past_sound db;
      view_above = λ n g below key view h attrs. view_sound db d g below key view h;
    })
    n key attrs

pub all_sound : (db : Db) (who : Who) → IsDatabase db → AreSound db (expansion_of db who)
unfolding expansion_of
all_sound db who d = within_sound greatest_level db who d

-- ---- what whoever is unrestricted has of these

all_pass : {X : Type 0} (p : X → Bool) (xs : List X) → ((x : X) → p x ≡ true) → filter p xs ≡ xs
all_pass p [] h = refl
all_pass p (x ∷ xs) h = rw (h x) (ap (λ ys. x ∷ ys) (all_pass p xs h))

may_unrestricted : (db : Db) (attrs : List ℕ) (key : RelKey) (row : Row) → may db Unrestricted Retrieve attrs key row ≡ true
unfolding may
may_unrestricted db attrs key row = refl

unrestricted_range : (db : Db) (of_view : View → List Row) (key : RelKey) (attrs : List ℕ) (r : Option Range) → is_no_view r ≡ true → range_rows of_view db Unrestricted key attrs r ≡ kept_rows r
unrestricted_range db of_view key attrs None h = refl
unrestricted_range db of_view key attrs (Some (Kept relation)) h = all_pass (may db Unrestricted Retrieve attrs key) relation.rows (may_unrestricted db attrs key)
unrestricted_range db of_view key attrs (Some (Viewed view)) h = cc h

unrestricted_within : (n : ℕ) (db : Db) (key : RelKey) (attrs : List ℕ) → is_no_view (range_at db key) ≡ true → rows_within n db Unrestricted key attrs ≡ rows_at db key
unrestricted_within n db key attrs h =
    ap (λ rows. rows attrs) (said_at (rows_said db Unrestricted) n db key (range_at db key) refl)
    ∙ unrestricted_range db (λ view. said_view (rows_said db Unrestricted) n db view attrs) key attrs (range_at db key) h

pub unrestricted_rows : (db : Db) (key : RelKey) (attrs : List ℕ) → is_no_view (range_at db key) ≡ true → rows_of db Unrestricted key attrs ≡ rows_at db key
unfolding rows_of
unrestricted_rows db key attrs h = unrestricted_within greatest_level db key attrs h

pub unrestricted_used : (db : Db) (key : RelKey) (attrs : List ℕ) → is_no_view (range_at db key) ≡ true → is_any attrs ≡ true → rows_used (rows_of db Unrestricted) key attrs ≡ rows_at db key
unrestricted_used db key [] h any = cc any
unrestricted_used db key (a ∷ attrs) h any = unrestricted_rows db key (a ∷ attrs) h

-- variables that have all rows that are kept
pub all_kept : (db : Db) (rows : ℕ → RelKey → List Row) (k : ℕ) (keys : List RelKey)
    → ((v : ℕ) (key : RelKey) → nat_lt v (length keys) ≡ true → is_no_view (range_at db key) ≡ true → rows (k + v) key ≡ rows_at db key) → no_views db keys ≡ true
    → map (λ p. rows p.0 p.1) (enumerate_from k keys) ≡ map (rows_at db) keys
all_kept db rows k [] each kept = refl
all_kept db rows k (key ∷ keys) each kept =
    let parts = both_true (is_no_view (range_at db key)) (no_views db keys) kept in
    let first : nat_lt 0 (length (key ∷ keys)) ≡ true = grind (arith, nat_tests) in
    let same : k + 0 ≡ k = omega arith in
    (λ i. rows (sym same i) key ∷ map (λ p. rows p.0 p.1) (enumerate_from (k + 1) keys))
    ∙ (λ i. each 0 key first parts.0 i ∷ all_kept db rows (k + 1) keys later parts.1 i)
  where
    later : (v : ℕ) (other : RelKey) → nat_lt v (length keys) ≡ true → is_no_view (range_at db other) ≡ true → rows (k + 1 + v) other ≡ rows_at db other
    later v other inside kept =
        let less : nat_lt (suc v) (length (key ∷ keys)) ≡ true = grind (arith, nat_tests, inside) in
        let same : k + 1 + v ≡ k + suc v = omega arith in
        ap (λ w. rows w other) same ∙ each (suc v) other less kept

-- More levels than a view has give no more rows.
use Rattle.std.proofs.Common.{◌≡◌, refl, sym, ap, ◌∙◌, subst, ℕ, zero, suc, ◌+◌, ◌≤◌, Bool, true, false, cond, ◌&&◌, IsTrue, List, [], ◌∷◌, map, Option, Some, None, is_some, option_map, find, bytes_eq, arith}
use Rattle.std.proofs.lemmas.Slice.Eq.{bytes_eq-Decides}
use Rattle.std.specs.List.{AllByRecursion, list_all, enumerate_from}
use Rattle.calculus.specs.declared.query.RelKey.{RelKey}
use Rattle.calculus.specs.declared.query.Query.{Query}
use Rattle.calculus.specs.Term.{no_aggs}
use Rattle.calculus.specs.Limits.{greatest_level}
use Rattle.calculus.specs.Keys.{same_key}
use Rattle.calculus.specs.Who.{Who}
use Rattle.calculus.specs.Database.{Db, View, Relation, relation_at, view_at}
use Rattle.calculus.specs.Catalogue.{catalogue_at}
use Rattle.calculus.specs.Stored.{Range, Kept, Viewed, range_at}
use Rattle.calculus.specs.QueryParts.{vars_of}
use Rattle.calculus.specs.Used.{used_in_query}
use Rattle.calculus.specs.Sizes.{greater_level, greatest_of, level_above, level_within, level_of}
use Rattle.calculus.specs.IsDatabase.{IsDatabase}
use Rattle.calculus.specs.Assignments.{Source, rows_used, variable_rows, choices, assigned}
use Rattle.calculus.specs.Targets.{rows_given}
use Rattle.calculus.specs.VariableRows.{view_rows, rows_within, rows_of}
use Rattle.calculus_laws.proofs.Through.{said_at, rows_said, level_said, each_said}

-- ---- each of what a view names has a level

both_there : (l g : Option ℕ) → is_some (option_map suc (greater_level l g)) ≡ true → (is_some l ≡ true) × (is_some (option_map suc g) ≡ true)
both_there None g h = cc h
both_there (Some k) None h = cc h
both_there (Some k) (Some l) h = (refl, refl)

pub all_there : (f : RelKey → Option ℕ) (keys : List RelKey) → is_some (level_above (map f keys)) ≡ true → AllByRecursion (λ key. is_some (f key) ≡ true) keys
all_there f [] h = tt
all_there f (key ∷ keys) h = let both = both_there (f key) (greatest_of (map f keys)) h in (both.0, all_there f keys both.1)

-- ---- two sources that agree

abbrev Agree : Source → Source → RelKey → Type 0
Agree s t key = (attrs : List ℕ) → s key attrs ≡ t key attrs

used_agree : (s t : Source) (key : RelKey) (attrs : List ℕ) → Agree s t key → rows_used s key attrs ≡ rows_used t key attrs
used_agree s t key [] h = refl
used_agree s t key (a ∷ attrs) h = h (a ∷ attrs)

variables_agree : (s t : Source) (q : Query) (start : ℕ) (keys : List RelKey) → AllByRecursion (Agree s t) keys
    → map (λ p. variable_rows s q p.0 p.1) (enumerate_from start keys) ≡ map (λ p. variable_rows t q p.0 p.1) (enumerate_from start keys)
variables_agree s t q start [] h = refl
variables_agree s t q start (key ∷ keys) h =
    λ i. used_agree s t key (used_in_query start q) h.0 i ∷ variables_agree s t q (start + 1) keys h.1 i

view_agrees : (s t : Source) (view : View) → AllByRecursion (Agree s t) (vars_of view.query) → view_rows s view ≡ view_rows t view
unfolding assigned
view_agrees s t view h = ap (λ lists. rows_given no_aggs view.query (choices lists)) (variables_agree s t view.query 0 (vars_of view.query) h)

pub all_map : (P Q : RelKey → Type 0) → ((key : RelKey) → P key → Q key) → (keys : List RelKey) → AllByRecursion P keys → AllByRecursion Q keys
all_map P Q f [] h = tt
all_map P Q f (key ∷ keys) h = (f key h.0, all_map P Q f keys h.1)

-- ---- enough levels

-- where rows are kept, they are the same through any number of levels; and where nothing is there
pub kept_through : (db : Db) (who : Who) (m n : ℕ) (key : RelKey) (attrs : List ℕ) (relation : Relation) → range_at db key ≡ Some (Kept relation)
    → rows_within n db who key attrs ≡ rows_within m db who key attrs
kept_through db who m n key attrs relation e =
    ap (λ rows. rows attrs) (said_at (rows_said db who) n db key (Some (Kept relation)) e ∙ sym (said_at (rows_said db who) m db key (Some (Kept relation)) e))

nothing_through : (db : Db) (who : Who) (m n : ℕ) (key : RelKey) (attrs : List ℕ) → range_at db key ≡ None → rows_within n db who key attrs ≡ rows_within m db who key attrs
nothing_through db who m n key attrs e =
    ap (λ rows. rows attrs) (said_at (rows_said db who) n db key None e ∙ sym (said_at (rows_said db who) m db key None e))

-- the level is there, and so many levels are enough for the key
abbrev IsEnough : Db → Who → ℕ → RelKey → Option ℕ → Type 0
IsEnough db who m key level = is_some level ≡ true → (n : ℕ) → m ≤ n → (attrs : List ℕ) → rows_within n db who key attrs ≡ rows_within m db who key attrs

view_through : (db : Db) (who : Who) (m : ℕ) (level : RelKey → Option ℕ) → ((key : RelKey) → IsEnough db who m key (level key)) → (key : RelKey) (view : View)
    → range_at db key ≡ Some (Viewed view) → IsEnough db who (suc m) key (level_above (map level (vars_of view.query)))
view_through db who m level below key view e there zero h attrs = absurd (omega (arith, h))
view_through db who m level below key view e there (suc n) h attrs =
    ap (λ rows. rows attrs) (said_at (rows_said db who) (suc n) db key (Some (Viewed view)) e)
    ∙ view_agrees (rows_within n db who) (rows_within m db who) view
    (all_map (λ k. is_some (level k) ≡ true) (Agree (rows_within n db who) (rows_within m db who)) (λ k one. below k one n (omega (arith, h))) (vars_of view.query)
    (all_there level (vars_of view.query) there))
    ∙ sym (ap (λ rows. rows attrs) (said_at (rows_said db who) (suc m) db key (Some (Viewed view)) e))

pub enough : (db : Db) (who : Who) (m : ℕ) (key : RelKey) → IsEnough db who m key (level_within m db key)
enough db who =
    each_said level_said db (IsEnough db who) (record {
      nothing = λ m f key e there. cc there;
      kept = λ m f key relation e there n h attrs. kept_through db who m n key attrs relation e;
      view_past = λ key view e there. cc there;
      view_above = view_through db who;
    })

pub more_levels : (db : Db) (who : Who) (key : RelKey) → IsTrue (is_some (level_of db key))
    → (n : ℕ) → greatest_level ≤ n → (attrs : List ℕ) → rows_within n db who key attrs ≡ rows_of db who key attrs
unfolding level_of rows_of
more_levels db who key there n h attrs = enough db who greatest_level key there n h attrs

-- ---- in a database each view has a level

pub same_key-exact : (a b : RelKey) → same_key a b ≡ true → a ≡ b
same_key-exact a b h = go (bytes_eq a.owner b.owner) refl (bytes_eq a.name b.name) refl h
  where
    go : (x : Bool) → bytes_eq a.owner b.owner ≡ x → (y : Bool) → bytes_eq a.name b.name ≡ y → same_key a b ≡ true → a ≡ b
    go true e true f h = λ i. record { owner = (bytes_eq-Decides a.owner b.owner).0 e i; name = (bytes_eq-Decides a.name b.name).0 f i }
    go true e false f h = cc
    go false e y f h = cc

found_level : (db : Db) (key : RelKey) (view : View) (views : List View) → list_all (λ v. is_some (level_of db v.info.key)) views ≡ true
    → find (λ v. same_key v.info.key key) views ≡ Some view → is_some (level_of db key) ≡ true
found_level db key view [] all h = cc h
found_level db key view (v ∷ views) all h = go (same_key v.info.key key) refl (is_some (level_of db v.info.key)) refl (found_level db key view views) all h
  where
    go : (b : Bool) → same_key v.info.key key ≡ b → (c : Bool) → is_some (level_of db v.info.key) ≡ c
        → (list_all (λ v. is_some (level_of db v.info.key)) views ≡ true → find (λ v. same_key v.info.key key) views ≡ Some view → is_some (level_of db key) ≡ true)
        → (c && list_all (λ v. is_some (level_of db v.info.key)) views) ≡ true
        → cond b (Some v) (find (λ v. same_key v.info.key key) views) ≡ Some view → is_some (level_of db key) ≡ true
    go true e true f later all h = subst (λ k. is_some (level_of db k) ≡ true) (same_key-exact v.info.key key e) f
    go false e true f later all h = later all h
    go b e false f later all h = cc all

pub viewed : (db : Db) (key : RelKey) (view : View) → range_at db key ≡ Some (Viewed view) → view_at db key ≡ Some view
unfolding range_at
viewed db key view h = go (relation_at db key) (view_at db key) (catalogue_at db key) h
  where
    go : (r : Option Relation) (v : Option View) (c : Option Relation)
        → (elim r [ Some relation ↦ Some (Kept relation) | None ↦ elim v [ Some view ↦ Some (Viewed view) | None ↦ option_map Kept c ] ]) ≡ Some (Viewed view)
        → v ≡ Some view
    go (Some r) v c h = cc h
    go None (Some v) c h = cc h
    go None None (Some r) h = cc h
    go None None None h = cc h

nothing_either_way : (db : Db) (who : Who) (n : ℕ) (key : RelKey) (attrs : List ℕ) → range_at db key ≡ None → rows_within n db who key attrs ≡ rows_of db who key attrs
unfolding rows_of
nothing_either_way db who n key attrs h = nothing_through db who greatest_level n key attrs h

kept_either_way : (db : Db) (who : Who) (n : ℕ) (key : RelKey) (attrs : List ℕ) (relation : Relation) → range_at db key ≡ Some (Kept relation)
    → rows_within n db who key attrs ≡ rows_of db who key attrs
unfolding rows_of
kept_either_way db who n key attrs relation h = kept_through db who greatest_level n key attrs relation h

pub more_levels_in_a_database : (db : Db) → IsDatabase db → (who : Who) (key : RelKey)
    → (n : ℕ) → greatest_level ≤ n → (attrs : List ℕ) → rows_within n db who key attrs ≡ rows_of db who key attrs
more_levels_in_a_database db d who key n h attrs = go (range_at db key) refl
  where
    go : (r : Option Range) → range_at db key ≡ r → rows_within n db who key attrs ≡ rows_of db who key attrs
    go None e = nothing_either_way db who n key attrs e
    go (Some (Kept relation)) e = kept_either_way db who n key attrs relation e
    go (Some (Viewed view)) e = more_levels db who key (found_level db key view db.views d.views_have_levels (viewed db key view e)) n h attrs

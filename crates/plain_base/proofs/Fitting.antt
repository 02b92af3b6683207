-- Rows that a scan of a base relation gives fit its attributes.
use Rattle.std.proofs.Common.{◌≡◌, refl, sym, ap, subst, ◌∙◌, ℕ, zero, suc, Bool, true, false, cond, List, [], ◌∷◌, drop, Option, Some, None}
use Rattle.std.specs.Prelude.{find, is_some}
use Rattle.std.specs.List.{list_all}
use Rattle.std.specs.Option.{ForSome, option_map}
use Rattle.std.proofs.lemmas.Bool.{and_parts}
use Rattle.std.proofs.lemmas.Option.{none-some, same_Some}
use Rattle.calculus.specs.declared.probe.Place.{Place}
use Rattle.calculus.specs.declared.probe.Probe.{Probe}
use Rattle.calculus.specs.declared.query.RelKey.{RelKey}
use Rattle.calculus.specs.Database.{Db, Relation, View, is_relation, relation_at, view_at}
use Rattle.calculus.specs.Catalogue.{catalogue_at}
use Rattle.calculus.specs.IsDatabase.{IsDatabase, relation_rows_fit, row_fits}
use Rattle.calculus.specs.Keys.{same_key}
use Rattle.calculus.specs.Rows.{Row}
use Rattle.calculus.specs.Stored.{Range, Kept, Viewed, attrs_at, attrs_in, info_at, kept_rows, range_at, range_info, rows_at}
use Rattle.base_trait.specs.Scans.{Gave, meets, next_meeting}
use Rattle.plain_base.specs.Places.{rows_before, rows_from}

-- what is found among things of which all hold has it
found_has : {A : Type 0} (p q : A → Bool) (xs : List A) (x : A) → list_all q xs ≡ true → find p xs ≡ Some x → q x ≡ true
found_has p q [] x all is = absurd (none-some x is)
found_has {A} p q (y ∷ ys) x all is = go (p y) is (found_has p q ys x (and_parts (q y) (list_all q ys) all).1)
  where
    go : (b : Bool) → cond b (Some y) (find p ys) ≡ Some x → (find p ys ≡ Some x → q x ≡ true) → q x ≡ true
    go true e later = subst (λ z. q z ≡ true) (same_Some y x e) (and_parts (q y) (list_all q ys) all).0
    go false e later = later e

-- what is made of the three that may stand under a key
abbrev ranged : Option Relation → Option View → Option Relation → Option Range
ranged r v c = elim r as (λ o. Option Range) [
  | Some relation ↦ Some (Kept relation)
  | None ↦ elim v as (λ o. Option Range) [ Some view ↦ Some (Viewed view) | None ↦ option_map Kept c ]
]

range_is : (db : Db) (key : RelKey) (relation : Relation) → relation_at db key ≡ Some relation → range_at db key ≡ Some (Kept relation)
unfolding range_at
range_is db key relation e = ap (λ o. ranged o (view_at db key) (catalogue_at db key)) e

its_attrs : (db : Db) (key : RelKey) (relation : Relation) → relation_at db key ≡ Some relation → attrs_at db key ≡ relation.info.attrs
unfolding info_at
its_attrs db key relation e = ap (λ r. attrs_in (option_map range_info r)) (range_is db key relation e)

-- the rows of a base relation fit its attributes
pub stored_fit : (db : Db) (key : RelKey) → IsDatabase db → is_relation db key ≡ true → list_all (row_fits (attrs_at db key)) (rows_at db key) ≡ true
stored_fit db key is there = go (relation_at db key) refl there
  where
    go : (o : Option Relation) → relation_at db key ≡ o → is_some o ≡ true → list_all (row_fits (attrs_at db key)) (rows_at db key) ≡ true
    go None e h = absurd (cc h)
    go (Some r) e h =
        (λ i. list_all (row_fits (its_attrs db key r e i)) (kept_rows (range_is db key r e i))) ∙ found_has (λ (r : Relation). same_key r.info.key key) relation_rows_fit db.relations r is.rows_fit e

module _ (P : Row → Bool) where
  drop_keeps : (n : ℕ) (rows : List Row) → list_all P rows ≡ true → list_all P (drop n rows) ≡ true
  drop_keeps zero rows all = all
  drop_keeps (suc n) [] all = all
  drop_keeps (suc n) (r ∷ rows) all = drop_keeps n rows (and_parts (P r) (list_all P rows) all).1

  first_holds : (probe : Probe) (rows : List Row) (row : Row) (behind : List Row) → list_all P rows ≡ true → next_meeting probe rows ≡ Some (row, behind) → P row ≡ true
  unfolding next_meeting
  first_holds probe [] row behind all is = absurd (none-some (row, behind) is)
  first_holds probe (r ∷ rows) row behind all is = go (meets probe r) is (λ later. first_holds probe rows row behind (and_parts (P r) (list_all P rows) all).1 later)
    where
      go : (b : Bool) → (elim b as (λ (b : Bool). Option (Row × List Row)) [ true ↦ Some (r, rows) | false ↦ next_meeting probe rows ]) ≡ Some (row, behind)
          → (next_meeting probe rows ≡ Some (row, behind) → P row ≡ true) → P row ≡ true
      go true is later = subst (λ x. P x ≡ true) (ap (λ (p : Row × List Row). p.0) (same_Some (r, rows) (row, behind) is)) (and_parts (P r) (list_all P rows) all).0
      go false is later = later is

-- a row that a scan gives fits them, by the schema that is known then
pub scan_fits : (now old s : Db) (key : RelKey) (probe : Probe) (at behind : Place) (answer : Option Row) → now ≡ old → IsDatabase old → Gave probe (rows_from old key at) (rows_from old key behind) answer
    → Some now ≡ Some s → is_relation s key ≡ true → ForSome answer (λ r. row_fits (attrs_at s key) r ≡ true)
scan_fits now old s key probe at behind None same is gives known there = λ r e. absurd (none-some r e)
scan_fits now old s key probe at behind (Some row) same is gives known there =
    let e : old ≡ s = sym same ∙ same_Some now s known in
    let P : Row → Bool = row_fits (attrs_at s key) in
    λ r is_row. subst (λ x. row_fits (attrs_at s key) x ≡ true) (same_Some row r is_row)
    (first_holds P probe (rows_from old key at) row (rows_from old key behind)
    (subst (λ (d : Db). list_all (row_fits (attrs_at d key)) (rows_from old key at) ≡ true) e
    (drop_keeps (row_fits (attrs_at old key)) (rows_before at) (rows_at old key) (stored_fit old key is (ap (λ (d : Db). is_relation d key) e ∙ there)))) gives)

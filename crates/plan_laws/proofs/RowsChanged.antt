-- Rows that are put beside those of a relation, as a lawful change.
use Rattle.std.proofs.Common.{◌≡◌, refl, sym, ap, ◌∙◌, subst, nat_le, Bool, true, false, ◌&&◌, ◌||◌, not, cond, IsTrue, List, [], ◌∷◌, Option, Some, None, map, filter, length}
use Rattle.std.specs.Prelude.{option_map}
use Rattle.std.specs.List.{list_all, list_any, AllByRecursion}
use Rattle.std.specs.Ordering.{eq_by_cmp, is_eq}
use Rattle.std.specs.declared.cmp.Ordering.{Ordering}
use Rattle.std.specs.declared.cmp.Ordering.TheVariants.{Less, Equal, Greater}
use Rattle.std.proofs.lemmas.Map.Keys.{sorted_head, sorted_tail}
use Rattle.calculus.specs.declared.query.RelKey.{RelKey}
use Rattle.calculus.specs.Keys.{same_key}
use Rattle.calculus.specs.Limits.{most_rows}
use Rattle.calculus.specs.Rows.{Row, Ascends, has, put}
use Rattle.calculus.specs.Value.{row_cmp}
use Rattle.calculus.specs.Database.{Db, Relation, relation_at, view_at}
use Rattle.calculus.specs.Catalogue.{catalogue_at}
use Rattle.calculus.specs.Stored.{Range, Kept, Viewed, range_at, range_info, info_at, kept_rows, attrs_in, attrs_at, rows_at, kinds_at}
use Rattle.calculus.specs.Replacement.{with_rows, without_rows}
use Rattle.calculus.specs.IsDatabase.{IsDatabase, row_fits}
use Rattle.calculus.specs.Change.{change_at, rows_differ}
use Rattle.calculus.proofs.Sets.{same_exact, has-put, Ascends-put, same_set}
use Rattle.plan_laws.proofs.Kept.{both, each}
use Rattle.plan_laws.proofs.Changed.{ChangeStands, with_changed, owned, each_maps}

-- ---- the rows after

pub Ascends-with_rows : (others rows : List Row) → Ascends rows → Ascends (with_rows others rows)
Ascends-with_rows [] rows h = h
Ascends-with_rows (row ∷ others) rows h = Ascends-put row (with_rows others rows) (Ascends-with_rows others rows h)

or_assoc : (a b c : Bool) → (a || (b || c)) ≡ ((a || b) || c)
or_assoc true b c = refl
or_assoc false b c = refl

pub has-with_rows : (others rows : List Row) (q : Row) → has (with_rows others rows) q ≡ (has others q || has rows q)
has-with_rows [] rows q = refl
has-with_rows (row ∷ others) rows q =
    has-put row (with_rows others rows) q ∙ ap (λ b. eq_by_cmp row_cmp q row || b) (has-with_rows others rows q)
    ∙ or_assoc (eq_by_cmp row_cmp q row) (has others q) (has rows q)

pub has-filter : (test : Row → Bool) (rows : List Row) (q : Row) → has (filter test rows) q ≡ (has rows q && test q)
has-filter test [] q = refl
has-filter test (row ∷ rows) q = go (test row) refl (eq_by_cmp row_cmp q row) refl (has-filter test rows q)
  where
    and_false : (b : Bool) → (b && false) ≡ false
    and_false true = refl
    and_false false = refl

    at_same : (t : Bool) → test row ≡ t → eq_by_cmp row_cmp q row ≡ true → test q ≡ t
    at_same t e f = ap test (same_exact q row f) ∙ e

    go : (t : Bool) → test row ≡ t → (s : Bool) → eq_by_cmp row_cmp q row ≡ s → has (filter test rows) q ≡ (has rows q && test q)
        → has (cond t (row ∷ filter test rows) (filter test rows)) q ≡ ((eq_by_cmp row_cmp q row || has rows q) && test q)
    go true e true f ih = ap (λ b. b || has (filter test rows) q) f ∙ sym (ap (λ b. (b || has rows q) && test q) f ∙ at_same true e f)
    go false e true f ih = ih ∙ ap (λ b. has rows q && b) (at_same false e f) ∙ and_false (has rows q) ∙ sym (ap (λ b. (b || has rows q) && test q) f ∙ at_same false e f)
    go true e false f ih = ap (λ b. b || has (filter test rows) q) f ∙ ih ∙ ap (λ b. (b || has rows q) && test q) (sym f)
    go false e false f ih = ih ∙ ap (λ b. (b || has rows q) && test q) (sym f)

pub nothing_removed : (rows : List Row) → without_rows [] rows ≡ rows
nothing_removed [] = refl
nothing_removed (row ∷ rows) = ap (λ rows. row ∷ rows) (nothing_removed rows)

-- putting those that are new makes what putting all makes
pub new_ones_put : (new rows : List Row) → Ascends rows → with_rows (without_rows rows (with_rows new rows)) (without_rows [] rows) ≡ with_rows new rows
new_ones_put new rows h =
    ap (with_rows (without_rows rows (with_rows new rows))) (nothing_removed rows)
    ∙ same_set (with_rows (without_rows rows (with_rows new rows)) rows) (with_rows new rows) (Ascends-with_rows (without_rows rows (with_rows new rows)) rows h) (Ascends-with_rows new rows h)
    (λ q. has-with_rows (without_rows rows (with_rows new rows)) rows q
    ∙ ap (λ b. b || has rows q) (has-filter (λ row. not (has rows row)) (with_rows new rows) q ∙ ap (λ b. b && not (has rows q)) (has-with_rows new rows q))
    ∙ again (has new q) (has rows q) ∙ sym (has-with_rows new rows q))
  where
    again : (a b : Bool) → (((a || b) && not b) || b) ≡ (a || b)
    again true true = refl
    again true false = refl
    again false true = refl
    again false false = refl

-- none of those that are new is there
pub new_ones_are_new : (rows others : List Row) → list_any (has rows) (without_rows rows others) ≡ false
new_ones_are_new rows [] = refl
new_ones_are_new rows (row ∷ others) = go (has rows row) refl (new_ones_are_new rows others)
  where
    go : (b : Bool) → has rows row ≡ b → list_any (has rows) (without_rows rows others) ≡ false → list_any (has rows) (cond (not b) (row ∷ without_rows rows others) (without_rows rows others)) ≡ false
    go true e later = later
    go false e later = ap (λ b. b || list_any (has rows) (without_rows rows others)) e ∙ later

-- rows that ascend differ
pub smaller_is_none : (row : Row) (rows : List Row) → AllByRecursion (λ r. row_cmp row r ≡ Less) rows → list_any (eq_by_cmp row_cmp row) rows ≡ false
smaller_is_none row [] h = refl
smaller_is_none row (r ∷ rows) h = ap (λ o. is_eq o || list_any (eq_by_cmp row_cmp row) rows) h.0 ∙ smaller_is_none row rows h.1

pub rows_that_ascend_differ : (rows : List Row) → Ascends rows → IsTrue (rows_differ rows)
rows_that_ascend_differ [] h = refl
rows_that_ascend_differ (row ∷ rows) h =
    each (not (list_any (eq_by_cmp row_cmp row) rows)) (rows_differ rows) (ap not (smaller_is_none row rows (sorted_head row_cmp row rows h))) (rows_that_ascend_differ rows (sorted_tail row_cmp row rows h))

abbrev pub put_as : Ordering → Row → Row → List Row → List Row → List Row
put_as Less row first rest more = row ∷ first ∷ rest
put_as Equal row first rest more = first ∷ rest
put_as Greater row first rest more = first ∷ more

pub put_is : (row first : Row) (rest : List Row) (o : Ordering) → row_cmp row first ≡ o → put row (first ∷ rest) ≡ put_as o row first rest (put row rest)
put_is row first rest Less e = rw (e, put) refl
put_is row first rest Equal e = rw (e, put) refl
put_is row first rest Greater e = rw (e, put) refl

pub all_put : (test : Row → Bool) (row : Row) (rows : List Row) → IsTrue (test row) → IsTrue (list_all test rows) → IsTrue (list_all test (put row rows))
all_put test row [] s t = each (test row) true s refl
all_put test row (first ∷ rest) s t =
    ap (list_all test) (put_is row first rest (row_cmp row first) refl) ∙ go (row_cmp row first) (both (test first) (list_all test rest) t) (all_put test row rest s (both (test first) (list_all test rest) t).1)
  where
    go : (o : Ordering) → IsTrue (test first) × IsTrue (list_all test rest) → IsTrue (list_all test (put row rest)) → IsTrue (list_all test (put_as o row first rest (put row rest)))
    go Less parts later = each (test row) (test first && list_all test rest) s (each (test first) (list_all test rest) parts.0 parts.1)
    go Equal parts later = each (test first) (list_all test rest) parts.0 parts.1
    go Greater parts later = each (test first) (list_all test (put row rest)) parts.0 later

pub all_with_rows : (test : Row → Bool) (others rows : List Row) → IsTrue (list_all test others) → IsTrue (list_all test rows) → IsTrue (list_all test (with_rows others rows))
all_with_rows test [] rows s t = t
all_with_rows test (row ∷ others) rows s t = let parts = both (test row) (list_all test others) s in all_put test row (with_rows others rows) parts.0 (all_with_rows test others rows parts.1 t)

-- ---- what stands under the key

range_is : (db : Db) (rel : RelKey) (relation : Relation) → relation_at db rel ≡ Some relation → range_at db rel ≡ Some (Kept relation)
unfolding range_at
range_is db rel relation e = ap (λ o. elim o as (λ o. Option Range) [
  | Some relation ↦ Some (Kept relation)
  | None ↦ elim (view_at db rel) as (λ o. Option Range) [ Some view ↦ Some (Viewed view) | None ↦ option_map Kept (catalogue_at db rel) ]
]) e

pub its_rows : (db : Db) (rel : RelKey) (relation : Relation) → relation_at db rel ≡ Some relation → rows_at db rel ≡ relation.rows
its_rows db rel relation e = ap kept_rows (range_is db rel relation e)

pub its_kinds : (db : Db) (rel : RelKey) (relation : Relation) → relation_at db rel ≡ Some relation → kinds_at db rel ≡ map (λ a. a.kind) relation.info.attrs
unfolding info_at
its_kinds db rel relation e = ap (λ r. map (λ a. a.kind) (attrs_in (option_map range_info r))) (range_is db rel relation e)

pub its_attrs : (db : Db) (rel : RelKey) (relation : Relation) → relation_at db rel ≡ Some relation → attrs_at db rel ≡ relation.info.attrs
unfolding info_at
its_attrs db rel relation e = ap (λ r. attrs_in (option_map range_info r)) (range_is db rel relation e)

-- ---- the change

-- the relation with these rows gone and those come
abbrev changed_rows : List Row → List Row → Relation → Relation
changed_rows remove add r = record r { rows = with_rows add (without_rows remove r.rows) }

-- rows that go and come leave a database, where what stands then is a set of rows that fit, not too many
pub rows_leave : (db : Db) (rel : RelKey) (relation : Relation) (remove add after : List Row) → IsDatabase db → relation_at db rel ≡ Some relation
    → with_rows add (without_rows remove relation.rows) ≡ after → Ascends after → IsTrue (list_all (row_fits relation.info.attrs) after) → IsTrue (nat_le (length after) most_rows)
    → IsDatabase (record db { relations = change_at rel (changed_rows remove add) db.relations })
rows_leave db rel relation remove add after is found same ascend fit few =
    with_changed db rel (changed_rows remove add) (record { key = λ r. refl; attrs = λ r. refl }) stands is
  where
    Owned : Relation → Type 0
    Owned r = same_key r.info.key rel ≡ true → relation_at db rel ≡ Some r

    own : AllByRecursion Owned db.relations
    own = owned rel db.relations is.relations_ascend

    its : (r : Relation) → Owned r → same_key r.info.key rel ≡ true → relation ≡ r
    its r o e = the (sym found ∙ o e)
      where
        the : {x y : Relation} → Some x ≡ Some y → x ≡ y
        the e = cc e

    becomes : (r : Relation) → Owned r → same_key r.info.key rel ≡ true → after ≡ (changed_rows remove add r).rows
    becomes r o e = sym same ∙ ap (λ r. (changed_rows remove add r).rows) (its r o e)

    stands : ChangeStands db rel (changed_rows remove add)
    stands = record {
      structure = each_maps Owned _ db.relations own (λ r o e t. t);
      ascend = each_maps Owned _ db.relations own (λ r o e t. subst Ascends (becomes r o e) ascend);
      fit = each_maps Owned _ db.relations own (λ r o e t.
          subst (λ rows. IsTrue (list_all (row_fits r.info.attrs) rows)) (becomes r o e) (subst (λ s. IsTrue (list_all (row_fits s.info.attrs) after)) (its r o e) fit));
      few = each_maps Owned _ db.relations own (λ r o e t. ap (λ rows. nat_le (length rows) most_rows) (sym (becomes r o e)) ∙ few);
    }

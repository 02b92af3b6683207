-- A table stays one of its database, where something goes.
use Rattle.std.proofs.Common.{◌≡◌, refl, sym, ap, ◌∙◌, true, filter, Bool, Some, None, Option}
use Rattle.std.specs.Prelude.{is_some}
use Rattle.std.specs.List.{AllByRecursion, list_all}
use Rattle.calculus.specs.declared.query.RelKey.{RelKey}
use Rattle.calculus.specs.Database.{Db, Relation, Index, View, entries, is_there}
use Rattle.stored_database.specs.ChangeLaws.{FilesDiffer}
use Rattle.stored_database.proofs.Staying.{relation_there, view_there, index_there}
use Rattle.stored_database.specs.Printed.{is_file}
use Rattle.stored_database.proofs.Members.{IsIn, of_all, all_of}
use Rattle.catalog_moves.specs.declared.files.FilePlace.{FilePlace}
use Rattle.catalog_moves.specs.declared.files.FileTable.{FileTable}
use Rattle.catalog_moves.specs.Bases.{IndexBases}
use Rattle.catalog_moves.specs.Files.{place_at, places_of, files_of, files_at, base_at}
use Rattle.catalog_moves.proofs.Tables.{place_kept, place_is}

-- places are left of which each is that of something that stays, and the place of all that stays is among them
pub left_bases : (old new : FileTable) (next : Db) (keep : FilePlace → Bool) → places_of new ≡ filter keep (places_of old)
    → ((k : RelKey) (p : FilePlace) → is_there next k ≡ true → place_at (places_of old) k ≡ Some p → keep p ≡ true)
    → ((p : FilePlace) → IsIn p (places_of new) → is_there next p.key ≡ true)
    → list_all (λ i. is_file ((files_of new).file i.key)) (entries next) ≡ true → FilesDiffer next (files_of new)
    → AllByRecursion (λ (r : Relation). base_at (places_of old) r.info.key ≡ 0) next.relations
    → AllByRecursion (λ (v : View). base_at (places_of old) v.info.key ≡ 0) next.views
    → AllByRecursion (λ (x : Index). base_at (places_of old) x.info.key ≡ (files_of old).file x.base) next.indexes
    → ((x : Index) → IsIn x next.indexes → is_there next x.base ≡ true) → IndexBases new next
unfolding base_at files_at
left_bases old new next keep left kept there are_files differ relations views indexes below = record {
  there = λ k h. stands k (place_at (places_of new) k) refl h;
  are_files = are_files;
  files_differ = differ;
  relations = all_of (λ (r : Relation). base_at (places_of new) r.info.key ≡ 0) next.relations
      (λ r at. base r.info.key (relation_there next r at) ∙ of_all (λ (r : Relation). base_at (places_of old) r.info.key ≡ 0) next.relations r relations at);
  views = all_of (λ (v : View). base_at (places_of new) v.info.key ≡ 0) next.views
      (λ v at. base v.info.key (view_there next v at) ∙ of_all (λ (v : View). base_at (places_of old) v.info.key ≡ 0) next.views v views at);
  indexes = all_of (λ (x : Index). base_at (places_of new) x.info.key ≡ (files_of new).file x.base) next.indexes
      (λ x at. base x.info.key (index_there next x at) ∙ of_all (λ (x : Index). base_at (places_of old) x.info.key ≡ (files_of old).file x.base) next.indexes x indexes at ∙ sym (file x.base (below x at)));
}
  where
    same : (k : RelKey) → is_there next k ≡ true → place_at (places_of new) k ≡ place_at (places_of old) k
    same k h = place_kept (places_of old) (places_of new) keep k left (λ p e. kept k p h e)

    base : (k : RelKey) → is_there next k ≡ true → base_at (places_of new) k ≡ base_at (places_of old) k
    base k h = ap (λ (o : Option FilePlace). elim o [ None ↦ 0 | Some p ↦ p.base ]) (same k h)

    file : (k : RelKey) → is_there next k ≡ true → (files_of new).file k ≡ (files_of old).file k
    file k h = ap (λ (o : Option FilePlace). elim o [ None ↦ 0 | Some p ↦ p.file ]) (same k h)

    stands : (k : RelKey) (o : Option FilePlace) → place_at (places_of new) k ≡ o → is_some (place_at (places_of new) k) ≡ true → is_there next k ≡ true
    stands k None e h = cc (e, h)
    stands k (Some p) e h = let f = place_is (places_of new) k p e in ap (is_there next) (sym f.1) ∙ there p f.0

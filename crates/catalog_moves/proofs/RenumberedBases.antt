-- A table stays one of its database, where what stands under a key gets another file.
use Rattle.std.proofs.Common.{◌≡◌, refl, sym, ap, ◌∙◌, subst, inl, inr, true≢false, ℕ, ◌≤◌, ◌==◌, Bool, true, false, List, Some, None, Option, option_map, arith}
use Rattle.std.specs.Prelude.{is_some, nat_le}
use Rattle.std.specs.List.{list_all}
use Rattle.std.proofs.lemmas.Bool.{leb-true}
use Rattle.calculus.specs.declared.query.RelKey.{RelKey}
use Rattle.calculus.specs.declared.schema.RelInfo.{RelInfo}
use Rattle.calculus.specs.Database.{Db, Relation, Index, View, entries, is_there, is_relation}
use Rattle.calculus.specs.IsDatabase.{IsDatabase}
use Rattle.calculus.specs.Keys.{same_key}
use Rattle.stored_database.specs.ChangeLaws.{FilesDiffer}
use Rattle.stored_database.proofs.FilesDiffer.{found, one_key}
use Rattle.stored_database.proofs.Renumbered.{differ_still}
use Rattle.stored_database.proofs.Staying.{base_is, relation_is_there}
use Rattle.stored_database.specs.Printed.{Files, is_file}
use Rattle.stored_database.proofs.Members.{IsIn, of_all, all_of, of_tests, tests_of}
use Rattle.stored_database.proofs.Orders.{same_key_is, same_key_itself}
use Rattle.stored_database.proofs.PrintedEntries.{equal_turned}
use Rattle.stored_database.proofs.PrintedTrees.{relation_under}
use Rattle.stored_database.proofs.Reading.{both, same_number, number_itself}
use Rattle.catalog_moves.specs.declared.files.FilePlace.{FilePlace}
use Rattle.catalog_moves.specs.declared.files.FileTable.{FileTable}
use Rattle.catalog_moves.specs.Bases.{IndexBases}
use Rattle.catalog_moves.specs.Files.{place_at, places_of, files_of, files_at, base_at, with_file}
use Rattle.catalog_moves.specs.Renumbered.{MayTakeFile, renumbered_place, renumbered}
use Rattle.catalog_moves.proofs.OnBase.{base_some}
use Rattle.catalog_moves.proofs.Renumbered.{base_stays, base_follows, differ_at, file_here, files_after, place_after}
use Rattle.catalog_moves.proofs.Tables.{file_none, place_is}

-- a place without anything says no base
base_none : (places : List FilePlace) (k : RelKey) → place_at places k ≡ None → base_at places k ≡ 0
unfolding base_at
base_none places k e = ap (λ (o : Option FilePlace). elim o [ None ↦ 0 | Some p ↦ p.base ]) e

-- numbers that are not the same
unequal : (m n : ℕ) → (m ≡ n → ⊥) → (m == n) ≡ false
unequal m n differ = go (m == n) refl
  where
    go : (b : Bool) → (m == n) ≡ b → b ≡ false
    go true e = absurd (differ (same_number m n e))
    go false e = refl

-- a test that passes or fails
other : (b : Bool) → (b ≡ true → ⊥) → b ≡ false
other true e = absurd (e refl)
other false e = refl

module _ (old : FileTable) (db : Db) (is : IsDatabase db) (b : IndexBases old db) where
  abbrev f : Files
  f = files_of old

  -- what is there has a file
  some_file : (k : RelKey) → is_there db k ≡ true → 16 ≤ f.file k
  some_file k here =
      let i = found db k here in
      subst (λ k. 16 ≤ f.file k) i.2
      (leb-true 16 (f.file i.0.key) (both (nat_le 16 (f.file i.0.key)) _ (of_tests (λ (i : RelInfo). is_file (f.file i.key)) (entries db) i.0 b.are_files i.1)).0)

  -- and a place
  pub has_place : (k : RelKey) → is_there db k ≡ true → is_some (place_at (places_of old) k) ≡ true
  has_place k here = go (place_at (places_of old) k) refl
    where
      go : (o : Option FilePlace) → place_at (places_of old) k ≡ o → is_some o ≡ true
      go None e = absurd (let many = some_file k here in let zero_is = (file_none (places_of old) k e).0 in omega (arith, many, zero_is))
      go (Some p) e = refl

  relation_base : (k : RelKey) → is_relation db k ≡ true → base_at (places_of old) k ≡ 0
  relation_base k here =
      let u = relation_under db k here in
      ap (base_at (places_of old)) (sym u.its) ∙ of_all (λ (r : Relation). base_at (places_of old) r.info.key ≡ 0) db.relations u.relation b.relations u.there

  index_base : (x : Index) → IsIn x db.indexes → base_at (places_of old) x.info.key ≡ f.file x.base
  index_base x at = of_all (λ (x : Index). base_at (places_of old) x.info.key ≡ f.file x.base) db.indexes x b.indexes at

  base_there : (x : Index) → IsIn x db.indexes → is_there db x.base ≡ true
  base_there x at = relation_is_there db x.base (base_is db is x at)

  module _ (new : FileTable) (key : RelKey) (file used : ℕ) (here : is_there db key ≡ true) (put : places_of new ≡ renumbered key file used (places_of old)) where
    abbrev after : FilePlace → FilePlace
    after = renumbered_place key (f.file key) file used

    placed : (k : RelKey) → place_at (places_of new) k ≡ option_map after (place_at (places_of old) k)
    placed k = ap (λ (places : List FilePlace). place_at places k) put ∙ place_after key (f.file key) file used (places_of old) k

    pub files_new : files_of new ≡ with_file key file used f
    files_new = ap files_at put ∙ files_after key (f.file key) file used (places_of old) (has_place key here)

    -- ---- bases

    -- what isn't on the key keeps its base
    base_kept : (k : RelKey) → (base_at (places_of old) k ≡ f.file key → ⊥) → base_at (places_of new) k ≡ base_at (places_of old) k
    base_kept k off = go (place_at (places_of old) k) refl
      where
        go : (o : Option FilePlace) → place_at (places_of old) k ≡ o → base_at (places_of new) k ≡ base_at (places_of old) k
        go None e = base_none (places_of new) k (placed k ∙ ap (option_map after) e) ∙ sym (base_none (places_of old) k e)
        go (Some p) e =
            let was = base_some (places_of old) k p e in
            base_some (places_of new) k (after p) (placed k ∙ ap (option_map after) e)
            ∙ base_stays key (f.file key) file used p (unequal p.base (f.file key) (λ same. off (was ∙ same))) ∙ sym was

    zero_kept : (k : RelKey) → base_at (places_of old) k ≡ 0 → base_at (places_of new) k ≡ 0
    zero_kept k zero_is = base_kept k (λ same. (let many = some_file key here in omega (arith, zero_is, same, many))) ∙ zero_is

    -- and what is on it gets the new file
    base_new : (k : RelKey) → same_key k key ≡ false → base_at (places_of old) k ≡ f.file key → base_at (places_of new) k ≡ file
    base_new k apart on = go (place_at (places_of old) k) refl
      where
        go : (o : Option FilePlace) → place_at (places_of old) k ≡ o → base_at (places_of new) k ≡ file
        go None e = absurd (let many = some_file key here in let zero_is = base_none (places_of old) k e in omega (arith, zero_is, on, many))
        go (Some p) e =
            base_some (places_of new) k (after p) (placed k ∙ ap (option_map after) e)
            ∙ base_follows key (f.file key) file used p (ap (λ j. same_key j key) (place_is (places_of old) k p e).1 ∙ apart)
            (unequal (f.file key) 0 (λ zero_is. (let many = some_file key here in omega (arith, zero_is, many))))
            (ap (λ n. n == f.file key) (sym (base_some (places_of old) k p e) ∙ on) ∙ number_itself (f.file key))

    index_after : (x : Index) → IsIn x db.indexes → base_at (places_of new) x.info.key ≡ (with_file key file used f).file x.base
    index_after x at = go (same_key x.base key) refl
      where
        go : (c : Bool) → same_key x.base key ≡ c → base_at (places_of new) x.info.key ≡ (with_file key file used f).file x.base
        go true e =
            let on : x.base ≡ key = same_key_is x.base key e in
            base_new x.info.key
            (other (same_key x.info.key key) (λ same. (
            let zero_is = sym (index_base x at) ∙ ap (base_at (places_of old)) (same_key_is x.info.key key same ∙ sym on) ∙ relation_base x.base (base_is db is x at) in
            let many = some_file x.base (base_there x at) in
            omega (arith, zero_is, many))))
            (index_base x at ∙ ap f.file on)
            ∙ sym (file_here key file used f x.base e).0
        go false e =
            base_kept x.info.key (λ same. true≢false (sym (ap (λ k. same_key k key) (one_key db f b.files_differ x.base key (base_there x at) here
            (ap (λ n. n == f.file key) (sym (index_base x at) ∙ same) ∙ number_itself (f.file key))) ∙ same_key_itself key) ∙ e))
            ∙ index_base x at ∙ sym ((differ_at key file used f).file x.base e)

    -- ---- files

    module _ (may : MayTakeFile key file f) where
      -- nothing else has the file
      own : (k : RelKey) → is_there db k ≡ true → same_key k key ≡ false → ((with_file key file used f).file key == f.file k) ≡ false
      own k there apart = ap (λ n. n == f.file k) (file_here key file used f key (same_key_itself key)).0 ∙ go may
        where
          go : MayTakeFile key file f → (file == f.file k) ≡ false
          go (inl same) =
              unequal file (f.file k) (λ e. true≢false (sym (ap (λ k. same_key k key) (one_key db f b.files_differ k key there here
              (ap (λ n. n == f.file key) (sym e ∙ same) ∙ number_itself (f.file key))) ∙ same_key_itself key) ∙ apart))
          go (inr free) = equal_turned file (f.file k) ∙ free.1 k

      -- files differ as they did
      pub renumbered_differ : FilesDiffer db (with_file key file used f)
      renumbered_differ = differ_still key db f (with_file key file used f) is b.files_differ (differ_at key file used f) own

      may_be : is_file file ≡ true
      may_be = go may
        where
          go : MayTakeFile key file f → is_file file ≡ true
          go (inl same) = let i = found db key here in ap is_file (same ∙ ap f.file (sym i.2)) ∙ of_tests (λ (i : RelInfo). is_file (f.file i.key)) (entries db) i.0 b.are_files i.1
          go (inr free) = free.0

      are_files : list_all (λ (i : RelInfo). is_file ((with_file key file used f).file i.key)) (entries db) ≡ true
      are_files = tests_of (λ (i : RelInfo). is_file ((with_file key file used f).file i.key)) (entries db) (λ i at. go i at (same_key i.key key) refl)
        where
          go : (i : RelInfo) → IsIn i (entries db) → (c : Bool) → same_key i.key key ≡ c → is_file ((with_file key file used f).file i.key) ≡ true
          go i at true e = ap is_file (file_here key file used f i.key e).0 ∙ may_be
          go i at false e = ap is_file ((differ_at key file used f).file i.key e) ∙ of_tests (λ (i : RelInfo). is_file (f.file i.key)) (entries db) i b.are_files at

      -- the table is one of the database
      pub renumbered_bases : IndexBases new db
      renumbered_bases = record {
        there = λ k h. stands k h (place_at (places_of old) k) refl;
        are_files = subst (λ (g : Files). list_all (λ (i : RelInfo). is_file (g.file i.key)) (entries db) ≡ true) (sym files_new) are_files;
        files_differ = subst (FilesDiffer db) (sym files_new) renumbered_differ;
        relations = all_of (λ (r : Relation). base_at (places_of new) r.info.key ≡ 0) db.relations
            (λ r at. zero_kept r.info.key (of_all (λ (r : Relation). base_at (places_of old) r.info.key ≡ 0) db.relations r b.relations at));
        views = all_of (λ (v : View). base_at (places_of new) v.info.key ≡ 0) db.views
            (λ v at. zero_kept v.info.key (of_all (λ (v : View). base_at (places_of old) v.info.key ≡ 0) db.views v b.views at));
        indexes = all_of (λ (x : Index). base_at (places_of new) x.info.key ≡ (files_of new).file x.base) db.indexes
            (λ x at. index_after x at ∙ sym (ap (λ (g : Files). g.file x.base) files_new));
      }
        where
          stands : (k : RelKey) → is_some (place_at (places_of new) k) ≡ true → (o : Option FilePlace) → place_at (places_of old) k ≡ o → is_there db k ≡ true
          stands k h None e = absurd (true≢false (sym h ∙ ap is_some (placed k ∙ ap (option_map after) e)))
          stands k h (Some p) e = b.there k (ap is_some e)

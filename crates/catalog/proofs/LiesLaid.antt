-- What is known in memory lies on the pages when a change was applied.
use Rattle.std.proofs.Common.{◌≡◌, refl, sym, ap, subst, ◌∙◌, inl, inr, true≢false, ℕ, ◌<◌, ◌≤◌, ◌==◌, ◌||◌, nat_le, nat_lt, Bool, true, false, List, Option, Some, arith}
use Rattle.std.specs.Prelude.{◌⊎◌}
use Rattle.std.proofs.lemmas.Bool.Decides.{nat_tests}
use Rattle.std.proofs.lemmas.Option.{same_Some}
use Rattle.am_traits.specs.Pages.{SameElsewhere}
use Rattle.calculus.specs.declared.change.DbChange.{DbChange}
use Rattle.calculus.specs.declared.change.DbChange.TheVariants as change
use Rattle.calculus.specs.declared.query.RelKey.{RelKey}
use Rattle.calculus.specs.declared.schema.Attr.{Attr}
use Rattle.calculus.specs.declared.schema.RelInfo.{RelInfo}
use Rattle.calculus.specs.Change.{IsLawful, laid}
use Rattle.calculus.specs.Database.{Db, Relation, entries, is_relation, is_there}
use Rattle.calculus.specs.Keys.{same_key}
use Rattle.calculus.specs.Replacement.{with_rows, without_rows}
use Rattle.calculus.specs.Rows.{Row, set_of}
use Rattle.disk_model.specs.Disk.{Image}
use Rattle.disk_model.specs.declared.disk.Addr.{Addr}
use Rattle.page_chain.specs.Pages.{page_at, pages_of}
use Rattle.page_chain.specs.Rows.{set_on, reader}
use Rattle.plain_base.specs.Shown.{database_of}
use Rattle.stored_database.specs.Catalogue.{catalogue_in}
use Rattle.stored_database.specs.Names.{is_number32}
use Rattle.stored_database.specs.Printed.{Files, is_file, printed}
use Rattle.stored_database.proofs.Members.{all_of, of_all, of_tests, in_first, in_map}
use Rattle.stored_database.proofs.Orders.{same_key_is, same_key_itself}
use Rattle.stored_database.proofs.Reading.{both, number_itself, same_number}
use Rattle.stored_database.specs.After.{changed}
use Rattle.stored_database.proofs.Staying.{relation_is, relation_there}
use Rattle.catalog_moves.specs.Files.{files_after, files_of, is_in, placed_key}
use Rattle.catalog_moves.specs.Moves.{HavePlaces}
use Rattle.catalog_pages.specs.Ends.{AreEnds, SameBesides, Written}
use Rattle.catalog_laws.specs.Followed.{AreKept}
use Rattle.catalog_laws.specs.Placed.{IsMade, MakesPages, Suits}
use Rattle.catalog_laws.proofs.Agreeing.{file_same, files_agree}
use Rattle.catalog_laws.proofs.From.{IsChanged, new_is_new, new_key, relation_from}
use Rattle.catalog_laws.specs.Loaded.{known_after, knows_rows}
use Rattle.catalog.specs.Knows.{Knows, KnowsAfter}
use Rattle.catalog.specs.Lies.{LiesAfter, LiesOn}
use Rattle.catalog.specs.Laid.{HasMade, IsKept, IsPrepared, MayTake, SeesTheSame, coming_of, going_of}
use Rattle.catalog.specs.declared.catalog.Catalog.{Catalog}
use Rattle.catalog.proofs.Known.{catalogue_stays, ends_stay, known_then, part_bases, prepared}
use Rattle.catalog.proofs.Overlay.{file_elsewhere, file_there, first_there, high_file, later_file, later_there, not_first, other_file, with_file_of, with_first_of}
use Rattle.catalog.proofs.Places.{kept_after}
use Rattle.catalog.proofs.Relations.{named_relation, under}

-- ---- the pages that a change reads

sees_read : (made : DbChange) (c : Catalog) (m : Image) → (lies : LiesOn c m) → IsLawful (database_of c.plain) made → knows_rows made (is_in c.loaded) ≡ true → SeesTheSame made (files_of c.files) lies.over m
unfolding SeesTheSame knows_rows
sees_read (change.Rows rel remove add) c m lies lawful read = lies.read rel (named_relation (database_of c.plain) rel remove add lawful) read
sees_read (change.Create info rows) c m lies lawful read = tt
sees_read (change.Destroy rels) c m lies lawful read = tt
sees_read (change.Modify rel to keys) c m lies lawful read = tt
sees_read (change.Index base name keys) c m lies lawful read = tt
sees_read (change.View info query) c m lies lawful read = tt
sees_read (change.Permit rel permit) c m lies lawful read = tt
sees_read (change.Rule rel rule) c m lies lawful read = tt
sees_read (change.DropPermits rel numbers) c m lies lawful read = tt
sees_read (change.DropRules rel numbers) c m lies lawful read = tt

-- the database in memory may take the change
pub part_may_take : (c : Catalog) (m : Image) (made : DbChange) → LiesOn c m → IsLawful (database_of c.plain) made → knows_rows made (is_in c.loaded) ≡ true → MayTake (database_of c.plain) (database_of c.plain) (files_of c.files) made m
part_may_take c m made lies lawful read = record {
  is = c.plain.is;
  over = lies.over;
  has = lies.knows.has;
  sees = sees_read made c m lies lawful read;
  schema = refl;
  lawful = lawful;
}

-- ---- the pages that it puts, over other pages

-- the other pages, with the file that the change puts pages of
unfoldable pub put_over : DbChange → ℕ → Image → Image → Image
put_over (change.Rows rel remove add) file image over = with_file_of file image over
put_over (change.Create info rows) file image over = with_file_of file image over
put_over (change.Destroy rels) file image over = over
put_over (change.Modify rel to keys) file image over = over
put_over (change.Index base name keys) file image over = over
put_over (change.View info query) file image over = over
put_over (change.Permit rel permit) file image over = over
put_over (change.Rule rel rule) file image over = over
put_over (change.DropPermits rel numbers) file image over = over
put_over (change.DropRules rel numbers) file image over = over

made_over : (file used : ℕ) (attrs : List Attr) (rows : List Row) (m image over : Image) → IsMade file used attrs rows m image → IsMade file used attrs rows over (with_file_of file image over)
made_over file used attrs rows m image over made = record {
  domains = made.domains;
  read = made.read;
  are = ap (set_on (reader made.domains) used) (file_there file image over) ∙ made.are;
  elsewhere = file_elsewhere file image over;
}

makes_over : (made : DbChange) (db : Db) (file used : ℕ) (m image over : Image) → MakesPages made db file used m image → MakesPages made db file used over (put_over made file image over)
unfolding MakesPages put_over
makes_over (change.Rows rel remove add) db file used m image over makes =
    all_of (λ (r : Relation). same_key r.info.key rel ≡ true → IsMade file used r.info.attrs (with_rows add (without_rows remove r.rows)) over (with_file_of file image over)) db.relations
    (λ r at e. made_over file used r.info.attrs (with_rows add (without_rows remove r.rows)) m image over
    (of_all (λ (r : Relation). same_key r.info.key rel ≡ true → IsMade file used r.info.attrs (with_rows add (without_rows remove r.rows)) m image) db.relations r makes at e))
makes_over (change.Create info rows) db file used m image over makes = made_over file used info.attrs (set_of rows) m image over makes
makes_over (change.Destroy rels) db file used m image over makes = refl
makes_over (change.Modify rel to keys) db file used m image over makes = refl
makes_over (change.Index base name keys) db file used m image over makes = refl
makes_over (change.View info query) db file used m image over makes = refl
makes_over (change.Permit rel permit) db file used m image over makes = refl
makes_over (change.Rule rel rule) db file used m image over makes = refl
makes_over (change.DropPermits rel numbers) db file used m image over makes = refl
makes_over (change.DropRules rel numbers) db file used m image over makes = refl

-- ---- the pages of other files

-- a relation's file is none of the first
pub relation_file : (c : Catalog) (m : Image) (key : RelKey) → Knows c m (database_of c.plain) → is_relation (database_of c.plain) key ≡ true → 16 ≤ (files_of c.files).file key
relation_file c m key knows here =
    let u = under (database_of c.plain) key here in
    high_file ((files_of c.files).file key)
    (ap (λ (k : RelKey). nat_le 16 ((files_of c.files).file k)) (sym u.named)
    ∙ (both (nat_le 16 ((files_of c.files).file u.r.info.key)) (is_number32 ((files_of c.files).file u.r.info.key))
    (of_tests (λ (i : RelInfo). is_file ((files_of c.files).file i.key)) (entries (database_of c.plain)) u.r.info knows.has.are_files
    (in_first _ _ u.r.info (in_map (λ (r : Relation). r.info) (database_of c.plain).relations u.r u.there)))).0)

pub relation_high : (c : Catalog) (m : Image) (key : RelKey) → LiesOn c m → is_relation (database_of c.plain) key ≡ true → 16 ≤ (files_of c.files).file key
relation_high c m key lies here = relation_file c lies.over key lies.knows here

-- where rows change, the pages of other files stay
rows_elsewhere : (db : Db) (file used : ℕ) (rel : RelKey) (remove add : List Row) (m image : Image) → IsLawful db (change.Rows rel remove add) → MakesPages (change.Rows rel remove add) db file used m image → SameElsewhere file m image
unfolding MakesPages
rows_elsewhere db file used rel remove add m image lawful makes =
    let u = under db rel (named_relation db rel remove add lawful) in
    (of_all (λ (r : Relation). same_key r.info.key rel ≡ true → IsMade file used r.info.attrs (with_rows add (without_rows remove r.rows)) m image) db.relations u.r makes u.there
    (ap (λ (k : RelKey). same_key k rel) u.named ∙ same_key_itself rel)).elsewhere

-- the first files stay
pub first_stay : (made : DbChange) (db : Db) (f : Files) (file used : ℕ) (m image : Image) → IsLawful db made → ((key : RelKey) → is_relation db key ≡ true → 16 ≤ f.file key) → Suits made f file used
    → MakesPages made db file used m image → (b : Addr) → b.file < 16 → image b ≡ m b
unfolding MakesPages Suits
first_stay (change.Rows rel remove add) db f file used m image lawful high suits makes b low =
    rows_elsewhere db file used rel remove add m image lawful makes b
    (not_first file b.file (subst (λ (n : ℕ). 16 ≤ n) (sym suits.0) (high rel (named_relation db rel remove add lawful))) low)
first_stay (change.Create info rows) db f file used m image lawful high suits makes b low =
    makes.elsewhere b (not_first file b.file (high_file file (both (nat_le 16 file) (is_number32 file) suits.0.number).0) low)
first_stay (change.Destroy rels) db f file used m image lawful high suits makes b low = ap (λ (n : Image). n b) makes
first_stay (change.Modify rel to keys) db f file used m image lawful high suits makes b low = ap (λ (n : Image). n b) makes
first_stay (change.Index base name keys) db f file used m image lawful high suits makes b low = ap (λ (n : Image). n b) makes
first_stay (change.View info query) db f file used m image lawful high suits makes b low = ap (λ (n : Image). n b) makes
first_stay (change.Permit rel permit) db f file used m image lawful high suits makes b low = ap (λ (n : Image). n b) makes
first_stay (change.Rule rel rule) db f file used m image lawful high suits makes b low = ap (λ (n : Image). n b) makes
first_stay (change.DropPermits rel numbers) db f file used m image lawful high suits makes b low = ap (λ (n : Image). n b) makes
first_stay (change.DropRules rel numbers) db f file used m image lawful high suits makes b low = ap (λ (n : Image). n b) makes

-- a file that is put, or is the same
put_case : (file n : ℕ) (m image over : Image) → SameElsewhere file m image → pages_of over n ≡ pages_of m n → pages_of (with_file_of file image over) n ≡ pages_of image n
put_case file n m image over elsewhere same = go (n == file) refl
  where
    differ : (n == file) ≡ false → n ≡ file → ⊥
    differ e is = true≢false (sym (ap (λ (k : ℕ). k == file) is ∙ number_itself file) ∙ e)

    go : (t : Bool) → (n == file) ≡ t → pages_of (with_file_of file image over) n ≡ pages_of image n
    go true e = subst (λ (k : ℕ). pages_of (with_file_of file image over) k ≡ pages_of image k) (sym (same_number n file e)) (file_there file image over)
    go false e = other_file file n image over (differ e) ∙ same ∙ sym (λ i page. elsewhere (page_at n page) (differ e) i)

-- what is the same before is the same afterwards
pub put_same : (made : DbChange) (db : Db) (file used n : ℕ) (m image over : Image) → IsLawful db made → MakesPages made db file used m image → pages_of over n ≡ pages_of m n
    → pages_of (put_over made file image over) n ≡ pages_of image n
unfolding MakesPages put_over
put_same (change.Rows rel remove add) db file used n m image over lawful makes same = put_case file n m image over (rows_elsewhere db file used rel remove add m image lawful makes) same
put_same (change.Create info rows) db file used n m image over lawful makes same = put_case file n m image over makes.elsewhere same
put_same (change.Destroy rels) db file used n m image over lawful makes same = same ∙ sym (ap (λ (i : Image). pages_of i n) makes)
put_same (change.Modify rel to keys) db file used n m image over lawful makes same = same ∙ sym (ap (λ (i : Image). pages_of i n) makes)
put_same (change.Index base name keys) db file used n m image over lawful makes same = same ∙ sym (ap (λ (i : Image). pages_of i n) makes)
put_same (change.View info query) db file used n m image over lawful makes same = same ∙ sym (ap (λ (i : Image). pages_of i n) makes)
put_same (change.Permit rel permit) db file used n m image over lawful makes same = same ∙ sym (ap (λ (i : Image). pages_of i n) makes)
put_same (change.Rule rel rule) db file used n m image over lawful makes same = same ∙ sym (ap (λ (i : Image). pages_of i n) makes)
put_same (change.DropPermits rel numbers) db file used n m image over lawful makes same = same ∙ sym (ap (λ (i : Image). pages_of i n) makes)
put_same (change.DropRules rel numbers) db file used n m image over lawful makes same = same ∙ sym (ap (λ (i : Image). pages_of i n) makes)

-- ---- the relations whose rows are known afterwards

either_true : (a b : Bool) → (a || b) ≡ true → (a ≡ true) ⊎ (b ≡ true)
either_true true b e = inl refl
either_true false b e = inr e

-- a relation that was there is known afterwards only where it was known
known_before : (made : DbChange) (db : Db) (has : RelKey → Bool) (key : RelKey) → IsLawful db made → is_there db key ≡ true → known_after made has key ≡ true → has key ≡ true
unfolding known_after new_key
known_before (change.Rows rel remove add) db has key lawful there known = known
known_before (change.Create info rows) db has key lawful there known = elim (either_true (same_key info.key key) (has key) known) [
  | inl e ↦ absurd (true≢false (sym there ∙ ap (is_there db) (sym (same_key_is info.key key e)) ∙ new_is_new (change.Create info rows) db info.key lawful refl))
  | inr e ↦ e
]
known_before (change.Destroy rels) db has key lawful there known = known
known_before (change.Modify rel to keys) db has key lawful there known = known
known_before (change.Index base name keys) db has key lawful there known = known
known_before (change.View info query) db has key lawful there known = known
known_before (change.Permit rel permit) db has key lawful there known = known
known_before (change.Rule rel rule) db has key lawful there known = known
known_before (change.DropPermits rel numbers) db has key lawful there known = known
known_before (change.DropRules rel numbers) db has key lawful there known = known

-- The pages of a relation's file are the same on both images, by these files.
abbrev SameFor : Files → Image → Image → RelKey → Type 0
SameFor f over m key = pages_of over (f.file key) ≡ pages_of m (f.file key)

module _ (db : Db) (f : Files) (has : RelKey → Bool) (file used : ℕ) (m over image : Image) (same : (key : RelKey) → is_relation db key ≡ true → has key ≡ true → SameFor f over m key) where
  -- a relation that isn't as one was
  changed_same : (made : DbChange) → IsLawful db made → Suits made f file used → MakesPages made db file used m image → (s : Relation) → IsChanged made db s → known_after made has s.info.key ≡ true
      → SameFor (files_after made file used f) (put_over made file image over) image s.info.key
  unfolding Suits IsChanged files_after placed_key put_over known_after MakesPages
  changed_same (change.Rows rel remove add) lawful suits makes s c known =
      subst (λ (n : ℕ). pages_of (with_file_of file image over) n ≡ pages_of image n)
      (sym (file_same s.info.key rel file used f (ap (λ (t : Relation). same_key t.info.key rel) c.3 ∙ c.2))) (file_there file image over)
  changed_same (change.Create info rows) lawful suits makes s c known =
      subst (λ (n : ℕ). pages_of (with_file_of file image over) n ≡ pages_of image n)
      (sym (file_same s.info.key info.key file used f (ap (λ (t : Relation). same_key t.info.key info.key) c ∙ same_key_itself info.key))) (file_there file image over)
  changed_same (change.Destroy rels) lawful suits makes s c known = absurd c
  changed_same (change.Modify rel to keys) lawful suits makes s c known =
      let key : s.info.key ≡ c.0.info.key = ap (λ (t : Relation). t.info.key) c.3 in
      let is : c.0.info.key ≡ rel = same_key_is c.0.info.key rel c.2 in
      let number : (files_after (change.Modify rel to keys) file used f).file s.info.key ≡ f.file c.0.info.key =
      file_same s.info.key rel file used f (ap (λ (k : RelKey). same_key k rel) key ∙ c.2) ∙ suits.0 ∙ ap f.file (sym is) in
      subst (λ (n : ℕ). pages_of over n ≡ pages_of image n) (sym number)
      (same c.0.info.key (relation_is db c.0 c.1) (sym (ap has key) ∙ known) ∙ sym (ap (λ (i : Image). pages_of i (f.file c.0.info.key)) makes))
  changed_same (change.Index base name keys) lawful suits makes s c known = absurd c
  changed_same (change.View info query) lawful suits makes s c known = absurd c
  changed_same (change.Permit rel permit) lawful suits makes s c known = absurd c
  changed_same (change.Rule rel rule) lawful suits makes s c known = absurd c
  changed_same (change.DropPermits rel numbers) lawful suits makes s c known = absurd c
  changed_same (change.DropRules rel numbers) lawful suits makes s c known = absurd c

  -- so each relation that is known afterwards has the same pages
  pub same_after : (made : DbChange) → IsLawful db made → Suits made f file used → MakesPages made db file used m image → (key : RelKey) → is_relation (laid db made) key ≡ true → known_after made has key ≡ true
      → SameFor (files_after made file used f) (put_over made file image over) image key
  same_after made lawful suits makes key here known =
      let u = under (laid db made) key here in
      let now : known_after made has u.r.info.key ≡ true = ap (known_after made has) u.named ∙ known in
      subst (SameFor (files_after made file used f) (put_over made file image over) image) u.named
      (elim (relation_from made db u.r u.there) [
        | inl k ↦ (let there = relation_there db u.r k.0 in
            let number = (files_agree made db f file used lawful suits).file_stays u.r.info.key there (relation_there (laid db made) u.r u.there) in
            subst (λ (n : ℕ). pages_of (put_over made file image over) n ≡ pages_of image n) (sym number)
            (put_same made db file used (f.file u.r.info.key) m image over lawful makes (same u.r.info.key (relation_is db u.r k.0) (known_before made db has u.r.info.key lawful there now))))
        | inr c ↦ changed_same made lawful suits makes u.r c now
      ])

-- ---- when all is written

-- kept files say of a relation what those after the change say
kept_file : (made : DbChange) (db : Db) (after kept : Files) (key : RelKey) → AreKept made db after kept → is_there (laid db made) key ≡ true → kept.file key ≡ after.file key
unfolding AreKept
kept_file (change.Rows rel remove add) db after kept key are there = ap (λ (f : Files). f.file key) are
kept_file (change.Create info rows) db after kept key are there = ap (λ (f : Files). f.file key) are
kept_file (change.Destroy rels) db after kept key are there = are.file key there
kept_file (change.Modify rel to keys) db after kept key are there = are.file key there
kept_file (change.Index base name keys) db after kept key are there = ap (λ (f : Files). f.file key) are
kept_file (change.View info query) db after kept key are there = ap (λ (f : Files). f.file key) are
kept_file (change.Permit rel permit) db after kept key are there = ap (λ (f : Files). f.file key) are
kept_file (change.Rule rel rule) db after kept key are there = ap (λ (f : Files). f.file key) are
kept_file (change.DropPermits rel numbers) db after kept key are there = ap (λ (f : Files). f.file key) are
kept_file (change.DropRules rel numbers) db after kept key are there = ap (λ (f : Files). f.file key) are

relation_is_there : (db : Db) (key : RelKey) → is_relation db key ≡ true → is_there db key ≡ true
relation_is_there db key here = let u = under db key here in ap (is_there db) (sym u.named) ∙ relation_there db u.r u.there

module _ (c : Catalog) (m : Image) (made : DbChange) (lies : LiesOn c m) (lawful : IsLawful (database_of c.plain) made) (file used : ℕ) (known : Option Image)
    (its : HasMade made (database_of c.plain) (files_of c.files) file used m known) where
  -- the pages that are put over those without rows
  abbrev over : Image
  over = put_over made file its.image lies.over

  -- the change makes them, too
  abbrev over_made : HasMade made (database_of c.plain) (files_of c.files) file used lies.over (Some over)
  over_made = record {
    image = over;
    still_known = refl;
    suits = its.suits;
    makes = makes_over made (database_of c.plain) file used m its.image lies.over its.makes;
  }

  over_first : (b : Addr) → b.file < 16 → over b ≡ m b
  over_first b low =
      first_stay made (database_of c.plain) (files_of c.files) file used lies.over over lawful (λ key here. relation_high c m key lies here) its.suits
      (makes_over made (database_of c.plain) file used m its.image lies.over its.makes) b low
      ∙ lies.first b low

  pub image_first : (b : Addr) → b.file < 16 → its.image b ≡ m b
  image_first = first_stay made (database_of c.plain) (files_of c.files) file used m its.image lawful (λ key here. relation_high c m key lies here) its.suits its.makes

  pub ends_in_place : AreEnds its.image c.ends
  ends_in_place = ends_stay m its.image image_first c.ends (ends_stay lies.over m (λ b low. sym (lies.first b low)) c.ends lies.knows.ends)

  pub catalogue_in_place : catalogue_in (pages_of its.image) ≡ Some (printed (database_of c.plain) (files_of c.files))
  catalogue_in_place =
      catalogue_stays m its.image image_first (printed (database_of c.plain) (files_of c.files))
      (catalogue_stays lies.over m (λ b low. sym (lies.first b low)) (printed (database_of c.plain) (files_of c.files)) lies.knows.catalogue)

  module _ (read : knows_rows made (is_in c.loaded) ≡ true) where
    pub part_prepared : IsPrepared made (files_of c.files) file used (database_of c.plain) (printed (database_of c.plain) (files_of c.files))
    part_prepared = prepared c lies.over (database_of c.plain) made c.plain.is lies.knows lawful read file used (Some over) over_made

    pub lies_then : (now : Catalog) (known_now : Option Image) → IsKept c now made file used → HavePlaces (coming_of made (files_of c.files) file used (database_of c.plain))
        → Written its.image known_now now.ends (changed (going_of made (files_of c.files) file used (database_of c.plain)) (coming_of made (files_of c.files) file used (database_of c.plain)) (printed (database_of c.plain) (files_of c.files)))
        → LiesAfter now m known_now
    lies_then now known_now kept places written =
        record { image = written.image; still_known = written.still_known; lies = there; head = λ b e. later_first b (omega (arith, e)) (λ k. omega (arith, e, k)) (λ k. omega (arith, e, k)) (λ k. omega (arith, e, k)) }
      where
        part : Db
        part = database_of c.plain

        later_first : (b : Addr) → b.file < 16 → (b.file ≡ 5 → ⊥) → (b.file ≡ 6 → ⊥) → (b.file ≡ 7 → ⊥) → written.image b ≡ m b
        later_first b low five six seven = written.others b five six seven ∙ image_first b low

        last : Image
        last = with_first_of written.image over

        others : SameBesides over (with_first_of written.image over)
        others b five six seven = go (nat_lt b.file 16) refl
          where
            is_first : (n : ℕ) → nat_lt n 16 ≡ true → n < 16
            is_first n e = grind (arith, nat_tests)

            is_later : (n : ℕ) → nat_lt n 16 ≡ false → 16 ≤ n
            is_later n e = grind (arith, nat_tests)

            go : (t : Bool) → nat_lt b.file 16 ≡ t → with_first_of written.image over b ≡ over b
            go true e = let low = is_first b.file e in first_there written.image over b low ∙ later_first b low five six seven ∙ sym (over_first b low)
            go false e = later_there written.image over b (is_later b.file e)

        same_first : (b : Addr) → b.file < 16 → with_first_of written.image over b ≡ written.image b
        same_first b low = first_there written.image over b low

        over_written : Written over (Some (with_first_of written.image over)) now.ends
            (changed (going_of made (files_of c.files) file used (database_of c.plain)) (coming_of made (files_of c.files) file used (database_of c.plain)) (printed (database_of c.plain) (files_of c.files)))
        over_written = record {
          image = with_first_of written.image over;
          still_known = refl;
          holds = catalogue_stays written.image (with_first_of written.image over) same_first
              (changed (going_of made (files_of c.files) file used (database_of c.plain)) (coming_of made (files_of c.files) file used (database_of c.plain)) (printed (database_of c.plain) (files_of c.files))) written.holds;
          ends_there = ends_stay written.image (with_first_of written.image over) same_first now.ends written.ends_there;
          others = others;
        }

        after : KnowsAfter now lies.over (Some (with_first_of written.image over)) (database_of c.plain) made
        after = known_then c lies.over (database_of c.plain) made c.plain.is lies.knows lawful read file used (Some over) over_made now (Some (with_first_of written.image over)) kept places over_written

        knows : Knows now (with_first_of written.image over) (database_of now.plain)
        knows =
            subst (Knows now (with_first_of written.image over)) (sym kept.plain)
            (subst (λ (n : Image). Knows now n (laid (database_of c.plain) made)) (same_Some after.image (with_first_of written.image over) (sym after.still_known)) after.knows)

        there : LiesOn now written.image
        there = record {
          over = with_first_of written.image over;
          first = same_first;
          read = λ key here known. read_after key here known;
          knows = knows;
        }
          where
            read_after : (key : RelKey) → is_relation (database_of now.plain) key ≡ true → is_in now.loaded key ≡ true
                → pages_of (with_first_of written.image over) ((files_of now.files).file key) ≡ pages_of written.image ((files_of now.files).file key)
            read_after key here known =
                let here_then : is_relation (laid (database_of c.plain) made) key ≡ true = ap (λ (d : Db). is_relation d key) (sym kept.plain) ∙ here in
                let u = under (laid (database_of c.plain) made) key here_then in
                let number : (files_of now.files).file key ≡ (files_after made file used (files_of c.files)).file key =
                kept_file made (database_of c.plain) (files_after made file used (files_of c.files)) (files_of now.files) key
                (kept_after (database_of c.plain) c.files now.files file used c.plain.is (part_bases c lies.over (database_of c.plain) lies.knows) made lawful its.suits kept.places)
                (relation_is_there (laid (database_of c.plain) made) key here_then) in
                let high : 16 ≤ (files_of now.files).file key =
                relation_file now (with_first_of written.image over) key knows here in
                later_file ((files_of now.files).file key) written.image over high
                ∙ subst (λ (n : ℕ). pages_of over n ≡ pages_of its.image n) (sym number)
                (same_after (database_of c.plain) (files_of c.files) (is_in c.loaded) file used m lies.over its.image lies.read made lawful its.suits its.makes key here_then (sym (kept.loaded key) ∙ known))
                ∙ sym (λ i page. written.others (page_at ((files_of now.files).file key) page) (λ e. omega (arith, high, e)) (λ e. omega (arith, high, e)) (λ e. omega (arith, high, e)) i)

-- What is known in memory lies on the pages when rows of a relation were read.
use Rattle.std.proofs.Common.{◌≡◌, refl, sym, ap, subst, ◌∙◌, inl, inr, true≢false, ℕ, ◌<◌, ◌==◌, ◌&&◌, ◌||◌, nat_le, Bool, true, false, List, [], ◌∷◌, map, Option, Some, if◌then◌else◌}
use Rattle.std.specs.Prelude.{◌⊎◌}
use Rattle.std.specs.List.{AllByRecursion}
use Rattle.am_traits.specs.Placed.{Placed, rows_of}
use Rattle.calculus.specs.declared.schema.RelFile.{RelFile}
use Rattle.calculus.specs.declared.change.DbChange.TheVariants.{Rows}
use Rattle.calculus.specs.declared.query.RelKey.{RelKey}
use Rattle.calculus.specs.Change.{change_at, laid}
use Rattle.calculus.specs.Database.{Db, Relation, is_relation}
use Rattle.calculus.specs.Keys.{same_key}
use Rattle.calculus.specs.Replacement.{with_rows, without_rows}
use Rattle.calculus.specs.Rows.{Row, put, set_of}
use Rattle.calculus.specs.Value.{row_cmp}
use Rattle.disk_model.specs.Disk.{Image}
use Rattle.disk_model.specs.declared.disk.Addr.{Addr}
use Rattle.heap_am.specs.Heap.{heap_rows}
use Rattle.page_chain.specs.Lists.{◌>>=◌, once}
use Rattle.page_chain.specs.Pages.{pages_of}
use Rattle.page_chain.specs.Rows.{reader, set_on}
use Rattle.plain_base.specs.Shown.{database_of}
use Rattle.plan_laws.proofs.NewIndexes.{other_way}
use Rattle.relation_rows.specs.Sets.{IsRead}
use Rattle.relation_rows.proofs.Once.{once_is}
use Rattle.catalog_read.specs.Parts.{index_owners_agree}
use Rattle.stored_database.specs.Names.{is_number32}
use Rattle.stored_database.specs.Printed.{Files, HasFiles, printed}
use Rattle.stored_database.proofs.Members.{all_of, of_all, of_tests}
use Rattle.stored_database.proofs.Orders.{same_key_is, same_key_itself}
use Rattle.stored_database.proofs.Reading.{number_itself, same_number}
use Rattle.stored_database.proofs.Staying.{relation_is}
use Rattle.catalog_moves.specs.Bases.{IndexBases}
use Rattle.catalog_moves.specs.Files.{files_after, files_of, is_in, placed_key, with_file}
use Rattle.catalog_moves.proofs.KeptBases.{rows_bases}
use Rattle.catalog_pages.specs.Ends.{AreEnds}
use Rattle.catalog_laws.specs.Placed.{IsMade, MakesPages, Suits}
use Rattle.catalog_laws.proofs.From.{IsChanged, relation_from}
use Rattle.catalog_laws.proofs.Schemas.{same_printed}
use Rattle.catalog_laws.proofs.Standing.{files_stand}
use Rattle.catalog_laws.specs.Loaded.{loaded_part, with_key}
use Rattle.catalog_laws.proofs.Changes.{other_part}
use Rattle.catalog_laws.proofs.Part.{part, part_if, part_unknown}
use Rattle.catalog.specs.Filling.{IsFileOf, IsSame, IsTaken}
use Rattle.catalog.specs.Knows.{Knows}
use Rattle.catalog.specs.Lies.{LiesOn}
use Rattle.catalog.specs.declared.catalog.Catalog.{Catalog}
use Rattle.catalog.proofs.Filled.{knows_same, rows_keep_schema}
use Rattle.catalog.proofs.Known.{catalogue_stays, ends_stay, owners_after, sees_itself}
use Rattle.catalog.proofs.LiesKnown.{left_each}
use Rattle.catalog.proofs.Overlay.{file_elsewhere, file_there, not_first, other_file, with_file_of}
use Rattle.catalog.proofs.Relations.{Standing, standing, under}

-- ---- nothing changed

pub lies_same : (before now : Catalog) (m : Image) → IsSame before now → LiesOn before m → LiesOn now m
lies_same before now m s lies = record {
  over = lies.over;
  first = lies.first;
  read = λ key here known. subst (λ t. pages_of lies.over ((files_of t).file key) ≡ pages_of m ((files_of t).file key)) (sym s.files)
      (lies.read key (ap (λ (d : Db). is_relation d key) (sym s.plain) ∙ here) (sym (s.loaded key) ∙ known));
  knows = subst (Knows now lies.over) (sym s.plain) (knows_same before now lies.over (database_of before.plain) s lies.knows);
}

-- ---- rows that come where none were known

-- all of them are put in their places
all_put : (rows : List Row) → with_rows rows [] ≡ set_of rows
all_put [] = refl
all_put (row ∷ rows) = ap (put row) (all_put rows)

either_true : (a b : Bool) → (a || b) ≡ true → (a ≡ true) ⊎ (b ≡ true)
either_true true b e = inl refl
either_true false b e = inr e

-- a relation to which rows come, under this key
abbrev pub with_coming : List Row → Relation → Relation
with_coming rows r = record r { rows = with_rows rows (without_rows [] r.rows) }

module _ (has : RelKey → Bool) (key : RelKey) (rows : List Row) where
  one_left : (r : Relation) → r ≡ part has r → (b : Bool) → same_key r.info.key key ≡ b
      → elim b as (λ b. Relation) [ true ↦ with_coming rows r | false ↦ r ] ≡ part (with_key key has) (elim b as (λ b. Relation) [ true ↦ with_coming rows r | false ↦ r ])
  one_left r ours true e =
      sym (ap (λ (b : Bool). part_if (b || has r.info.key) (with_coming rows r)) (ap (same_key key) (same_key_is r.info.key key e) ∙ same_key_itself key))
  one_left r ours false e = ours ∙ other_part has key r (other_way r.info.key key e)

  -- the relations then are those of a part that knows its rows
  pub relations_left : (rs : List Relation) → AllByRecursion (λ r. r ≡ part has r) rs → change_at key (with_coming rows) rs ≡ map (part (with_key key has)) (change_at key (with_coming rows) rs)
  relations_left [] all = refl
  relations_left (r ∷ rs) all = λ i. one_left r all.0 (same_key r.info.key key) refl i ∷ relations_left rs all.1 i

module _ (before now : Catalog) (m : Image) (key : RelKey) (file : RelFile) (rows : List Row) (lies : LiesOn before m) (unread : is_in before.loaded key ≡ false)
    (stored : is_relation (database_of before.plain) key ≡ true) (its : IsFileOf (database_of before.plain) (files_of before.files) key file) (read : IsRead file m rows)
    (t : IsTaken before now key rows) where
  abbrev db : Db
  db = database_of before.plain

  abbrev f : Files
  f = files_of before.files

  abbrev later : Db
  later = laid (database_of before.plain) (Rows key [] rows)

  -- the pages without rows, but for those of the file
  abbrev over : Image
  over = with_file_of file.file m lies.over

  stands : Standing (database_of before.plain) key [] rows file lies.over
  stands = standing db db f key [] rows file lies.over stored its
      (record { is = before.plain.is; over = lies.over; has = lies.knows.has; sees = sees_itself (Rows key [] rows) f lies.over; schema = refl; lawful = t.lawful })

  ours : AllByRecursion (λ r. r ≡ part (is_in before.loaded) r) (database_of before.plain).relations
  unfolding loaded_part
  ours = left_each (part (is_in before.loaded)) (database_of before.plain).relations (ap (λ (d : Db). d.relations) lies.knows.plain)

  no_rows : stands.at.r.rows ≡ []
  no_rows =
      ap (λ (r : Relation). r.rows)
      (of_all (λ r. r ≡ part (is_in before.loaded) r) (database_of before.plain).relations stands.at.r ours stands.at.there
      ∙ part_unknown (is_in before.loaded) stands.at.r (ap (is_in before.loaded) stands.at.named ∙ unread))

  set_there : set_on (reader file.domains) file.used (pages_of over file.file) ≡ Some (with_rows rows (without_rows [] stands.at.r.rows))
  unfolding set_on heap_rows
  set_there =
      ap (set_on (reader file.domains) file.used) (file_there file.file m lies.over)
      ∙ ap (λ (o : Option Placed). o >>= (λ placed. once row_cmp (rows_of placed))) read.on_pages
      ∙ ap (once row_cmp) (sym read.rows)
      ∙ once_is rows stands.go.new_differ
      ∙ ap Some (sym (ap (λ (old : List Row). with_rows rows (without_rows [] old)) no_rows ∙ all_put rows))

  makes : MakesPages (Rows key [] rows) (database_of before.plain) file.file file.used lies.over over
  unfolding MakesPages
  makes = all_of (λ (r : Relation). same_key r.info.key key ≡ true → IsMade file.file file.used r.info.attrs (with_rows rows (without_rows [] r.rows)) lies.over over) (database_of before.plain).relations
      (λ r at e. subst (λ (r : Relation). IsMade file.file file.used r.info.attrs (with_rows rows (without_rows [] r.rows)) lies.over over) (sym (stands.alone r at e))
      (record { domains = file.domains; read = stands.read; are = set_there; elsewhere = file_elsewhere file.file m lies.over }))

  suits : Suits (Rows key [] rows) (files_of before.files) file.file file.used
  unfolding Suits
  suits = (
    its.number,
    ap (λ (n : ℕ). nat_le 1 n && is_number32 n) (its.pages ∙ ap f.used (sym stands.at.named))
        ∙ of_tests (λ (r : Relation). nat_le 1 (f.used r.info.key) && is_number32 (f.used r.info.key)) (database_of before.plain).relations stands.at.r lies.knows.has.some_pages stands.at.there,
  )

  same_file : (k : RelKey) → (if same_key k key then file.file else f.file k) ≡ f.file k
  same_file k = go (same_key k key) refl
    where
      go : (b : Bool) → same_key k key ≡ b → (if b then file.file else f.file k) ≡ f.file k
      go true e = its.number ∙ ap f.file (sym (same_key_is k key e))
      go false e = refl

  same_used : (k : RelKey) → (if same_key k key then file.used else f.used k) ≡ f.used k
  same_used k = go (same_key k key) refl
    where
      go : (b : Bool) → same_key k key ≡ b → (if b then file.used else f.used k) ≡ f.used k
      go true e = its.pages ∙ ap f.used (sym (same_key_is k key e))
      go false e = refl

  files_same : files_after (Rows key [] rows) file.file file.used (files_of before.files) ≡ files_of before.files
  unfolding files_after placed_key with_file
  files_same = λ i. record { file = λ k. same_file k i; used = λ k. same_used k i }

  has_then : HasFiles (laid (database_of before.plain) (Rows key [] rows)) (pages_of over) (files_of before.files)
  has_then =
      subst (HasFiles later (pages_of over)) files_same
      (files_stand (Rows key [] rows) db f file.file file.used lies.over over before.plain.is t.lawful lies.knows.has suits makes)

  plain_then : later ≡ loaded_part (with_key key (is_in before.loaded)) (laid (database_of before.plain) (Rows key [] rows))
  unfolding laid loaded_part
  plain_then = λ i. record (database_of before.plain) { relations = relations_left (is_in before.loaded) key rows (database_of before.plain).relations ours i }

  over_first : (b : Addr) → b.file < 16 → over b ≡ lies.over b
  over_first b low = file_elsewhere file.file m lies.over b (not_first file.file b.file its.first low)

  owners_then : index_owners_agree (laid (database_of before.plain) (Rows key [] rows)) ≡ true
  owners_then = owners_after (Rows key [] rows) db lies.knows.owners

  bases_then : IndexBases before.files (laid (database_of before.plain) (Rows key [] rows))
  bases_then = rows_bases before.files db key [] rows lies.knows.bases

  knows_then : Knows now over (laid (database_of before.plain) (Rows key [] rows))
  knows_then = record {
    plain = t.plain ∙ plain_then ∙ ap (λ (has : RelKey → Bool). loaded_part has later) (sym (λ i k. t.loaded k i));
    catalogue = catalogue_stays lies.over over over_first (printed db f) lies.knows.catalogue ∙ ap Some (same_printed db later f (sym (rows_keep_schema db key rows)) ∙ ap (λ files. printed later (files_of files)) (sym t.files));
    has = subst (λ files. HasFiles later (pages_of over) (files_of files)) (sym t.files) has_then;
    ends = subst (AreEnds over) (sym t.ends_stay) (ends_stay lies.over over over_first before.ends lies.knows.ends);
    owners = owners_then;
    bases = subst (λ files. IndexBases files later) (sym t.files) bases_then;
  }

  -- a relation that stands there stood there before
  was_there : (k : RelKey) → is_relation (laid (database_of before.plain) (Rows key [] rows)) k ≡ true → is_relation (database_of before.plain) k ≡ true
  unfolding IsChanged
  was_there k here =
      let u = under later k here in
      ap (is_relation db) (sym u.named)
      ∙ elim (relation_from (Rows key [] rows) db u.r u.there) [
        | inl a ↦ relation_is db u.r a.0
        | inr a ↦ ap (λ (r : Relation). is_relation db r.info.key) a.3 ∙ relation_is db a.0 a.1
      ]

  read_then : (k : RelKey) → is_relation db k ≡ true → (same_key key k || is_in before.loaded k) ≡ true → pages_of over (f.file k) ≡ pages_of m (f.file k)
  read_then k here known = go (f.file k == file.file) refl
    where
      differ : (f.file k == file.file) ≡ false → f.file k ≡ file.file → ⊥
      differ e is = true≢false (sym (ap (λ (n : ℕ). n == file.file) is ∙ number_itself file.file) ∙ e)

      loaded : (f.file k == file.file) ≡ false → is_in before.loaded k ≡ true
      loaded e = elim (either_true (same_key key k) (is_in before.loaded k) known) [
        | inl s ↦ absurd (differ e (ap f.file (sym (same_key_is key k s)) ∙ sym its.number))
        | inr s ↦ s
      ]

      go : (b : Bool) → (f.file k == file.file) ≡ b → pages_of over (f.file k) ≡ pages_of m (f.file k)
      go true e = subst (λ (n : ℕ). pages_of over n ≡ pages_of m n) (sym (same_number (f.file k) file.file e)) (file_there file.file m lies.over)
      go false e = other_file file.file (f.file k) m lies.over (differ e) ∙ lies.read k here (loaded e)

  pub lies_with : LiesOn now m
  lies_with = record {
    over = over;
    first = λ b low. over_first b low ∙ lies.first b low;
    read = λ k here known. subst (λ files. pages_of over ((files_of files).file k) ≡ pages_of m ((files_of files).file k)) (sym t.files)
        (read_then k (was_there k (ap (λ (d : Db). is_relation d k) (sym t.plain) ∙ here)) (sym (t.loaded k) ∙ known));
    knows = subst (Knows now over) (sym t.plain) knows_then;
  }

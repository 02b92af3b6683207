-- Each relation has its rows on its pages after a change.
use Rattle.std.proofs.Common.{◌≡◌, refl, sym, ap, ap₂, subst, ◌∙◌, inl, inr, true≢false, ℕ, ◌<◌, ◌≤◌, ◌==◌, nat_le, true, false, List, Some, arith}
use Rattle.am_traits.specs.Pages.{SameElsewhere}
use Rattle.calculus.specs.declared.query.RelKey.{RelKey}
use Rattle.calculus.specs.declared.change.DbChange.{DbChange}
use Rattle.calculus.specs.declared.change.DbChange.TheVariants as change
use Rattle.calculus.specs.declared.schema.Attr.{Attr}
use Rattle.calculus.specs.declared.schema.RelInfo.{RelInfo}
use Rattle.calculus.specs.Change.{laid, IsLawful, restructured, names_what_is_there}
use Rattle.calculus.specs.Database.{Db, Relation, entries, is_there, is_relation}
use Rattle.calculus.specs.Keys.{same_key}
use Rattle.calculus.specs.Replacement.{with_rows, without_rows}
use Rattle.calculus.specs.Rows.{Row, set_of}
use Rattle.disk_model.specs.Disk.{Image}
use Rattle.disk_model.specs.declared.disk.Addr.{Addr}
use Rattle.std.proofs.lemmas.Bool.Decides.{nat_tests}
use Rattle.page_chain.specs.Lists.{◌>>=◌, each}
use Rattle.page_chain.specs.Pages.{Pages, page_at, pages_of}
use Rattle.page_chain.specs.Rows.{set_on, reader}
use Rattle.stored_database.specs.Names.{is_number32}
use Rattle.stored_database.specs.Printed.{Files, HasFiles, is_file, rows_in}
use Rattle.stored_database.specs.Spelled.{domain_of}
use Rattle.stored_database.proofs.Members.{IsIn, of_all, all_of, of_tests, apart_same}
use Rattle.stored_database.proofs.Orders.{same_key_is, same_key_itself}
use Rattle.stored_database.proofs.Pairs.{pairs_apart}
use Rattle.stored_database.proofs.PrintedEntries.{equal_turned, infos_differ}
use Rattle.stored_database.proofs.PrintedStands.{may_have}
use Rattle.stored_database.proofs.Reading.{number_itself, both}
use Rattle.stored_database.specs.ChangeLaws.{resizes, Agree, FilesDiffer}
use Rattle.stored_database.proofs.Staying.{relation_is, relation_there, relation_is_there}
use Rattle.stored_database.proofs.PrintedTrees.{relation_under}
use Rattle.catalog_moves.specs.Files.{files_after, placed_key, with_file}
use Rattle.catalog_laws.specs.Placed.{Suits, IsMade, MakesPages, FilesStand, FirstFilesStay}
use Rattle.catalog_laws.proofs.FilesAfter.{may_have_after}
use Rattle.catalog_laws.proofs.From.{IsChanged, relation_from, found_under}
use Rattle.catalog_laws.proofs.Agreeing.{files_agree, file_same, used_same}

-- what has one file has one key
pub one_key : (db : Db) (f : Files) → FilesDiffer db f → (k l : RelKey) → is_there db k ≡ true → is_there db l ≡ true → f.file k ≡ f.file l → k ≡ l
one_key db f differ k l here there e =
    let i = found_under db k here in
    let j = found_under db l there in
    let one : i.0 ≡ j.0 = apart_same (λ (i j : RelInfo). f.file j.key == f.file i.key) (λ i j e. equal_turned (f.file i.key) (f.file j.key) ∙ e) (entries db) i.0 j.0
    (pairs_apart (λ (i j : RelInfo). f.file j.key == f.file i.key) (entries db) (infos_differ f db differ)) i.1 j.1
    (ap₂ (λ (m n : ℕ). m == n) (ap f.file j.2 ∙ sym e ∙ sym (ap f.file i.2)) refl ∙ number_itself (f.file i.0.key)) in
    sym i.2 ∙ ap (λ (i : RelInfo). i.key) one ∙ j.2

module _ (db : Db) (f : Files) (file used : ℕ) (before later : Image) (has : HasFiles db (pages_of before) f) where
  -- a relation that isn't resized has the pages that it had
  pages_stay : (made : DbChange) → IsLawful db made → Suits made f file used → MakesPages made db file used before later → (key : RelKey) → is_there db key ≡ true → resizes made key ≡ false
      → pages_of later (f.file key) ≡ pages_of before (f.file key)
  unfolding Suits MakesPages resizes names_what_is_there
  pages_stay (change.Rows rel remove add) lawful suits makes key here off =
      let named = both (is_relation db rel) _ lawful.names_are_there in
      let r = relation_under db rel named.0 in
      let it = of_all _ db.relations r.relation makes r.there (ap (λ (k : RelKey). same_key k rel) r.its ∙ same_key_itself rel) in
      other_pages it.elsewhere (λ e. true≢false (sym (ap (λ (k : RelKey). same_key k rel)
      (one_key db f has.files_differ key rel here (relation_is_there db rel named.0) (e ∙ suits.0)) ∙ same_key_itself rel) ∙ off))
    where
      other_pages : SameElsewhere file before later → (f.file key ≡ file → ⊥) → pages_of later (f.file key) ≡ pages_of before (f.file key)
      other_pages elsewhere differ = λ i page. elsewhere (page_at (f.file key) page) differ i
  pages_stay (change.Create info rows) lawful suits makes key here off = λ i page. makes.elsewhere (page_at (f.file key) page) (λ e. true≢false (sym (ap (λ (n : ℕ). n == file) e ∙ number_itself file) ∙ suits.0.free key)) i
  pages_stay (change.Destroy rels) lawful suits makes key here off = ap (λ (m : Image). pages_of m (f.file key)) makes
  pages_stay (change.Modify rel to keys) lawful suits makes key here off = ap (λ (m : Image). pages_of m (f.file key)) makes
  pages_stay (change.Index base name keys) lawful suits makes key here off = ap (λ (m : Image). pages_of m (f.file key)) makes
  pages_stay (change.View info query) lawful suits makes key here off = ap (λ (m : Image). pages_of m (f.file key)) makes
  pages_stay (change.Permit rel permit) lawful suits makes key here off = ap (λ (m : Image). pages_of m (f.file key)) makes
  pages_stay (change.Rule rel rule) lawful suits makes key here off = ap (λ (m : Image). pages_of m (f.file key)) makes
  pages_stay (change.DropPermits rel numbers) lawful suits makes key here off = ap (λ (m : Image). pages_of m (f.file key)) makes
  pages_stay (change.DropRules rel numbers) lawful suits makes key here off = ap (λ (m : Image). pages_of m (f.file key)) makes

  -- the file of a relation is none of the first
  relation_file_high : (rel : RelKey) → is_relation db rel ≡ true → nat_le 16 (f.file rel) ≡ true
  relation_file_high rel here =
      let i = found_under db rel (relation_is_there db rel here) in
      ap (λ (k : RelKey). nat_le 16 (f.file k)) (sym i.2) ∙ (both (nat_le 16 (f.file i.0.key)) (is_number32 (f.file i.0.key)) (of_tests (λ (i : RelInfo). is_file (f.file i.key)) (entries db) i.0 has.are_files i.1)).0

  not_low : (file n : ℕ) → nat_le 16 file ≡ true → n < 16 → n ≡ file → ⊥
  not_low file n high low e = let le : 16 ≤ file = grind (arith, nat_tests) in omega (arith, le, low, e)

  -- the pages of the first files stay
  pub low_stays : (made : DbChange) → IsLawful db made → Suits made f file used → MakesPages made db file used before later → (b : Addr) → b.file < 16 → later b ≡ before b
  unfolding Suits MakesPages names_what_is_there
  low_stays (change.Rows rel remove add) lawful suits makes b low =
      let named = both (is_relation db rel) _ lawful.names_are_there in
      let r = relation_under db rel named.0 in
      let it = of_all (λ (r : Relation). same_key r.info.key rel ≡ true → IsMade file used r.info.attrs (with_rows add (without_rows remove r.rows)) before later) db.relations r.relation makes r.there
      (ap (λ (k : RelKey). same_key k rel) r.its ∙ same_key_itself rel) in
      it.elsewhere b (not_low file b.file (ap (nat_le 16) suits.0 ∙ relation_file_high rel named.0) low)
  low_stays (change.Create info rows) lawful suits makes b low = makes.elsewhere b (not_low file b.file (both (nat_le 16 file) (is_number32 file) suits.0.number).0 low)
  low_stays (change.Destroy rels) lawful suits makes b low = ap (λ (m : Image). m b) makes
  low_stays (change.Modify rel to keys) lawful suits makes b low = ap (λ (m : Image). m b) makes
  low_stays (change.Index base name keys) lawful suits makes b low = ap (λ (m : Image). m b) makes
  low_stays (change.View info query) lawful suits makes b low = ap (λ (m : Image). m b) makes
  low_stays (change.Permit rel permit) lawful suits makes b low = ap (λ (m : Image). m b) makes
  low_stays (change.Rule rel rule) lawful suits makes b low = ap (λ (m : Image). m b) makes
  low_stays (change.DropPermits rel numbers) lawful suits makes b low = ap (λ (m : Image). m b) makes
  low_stays (change.DropRules rel numbers) lawful suits makes b low = ap (λ (m : Image). m b) makes

  -- rows that are read of the same pages
  rows_same : (attrs : List Attr) (rows : List Row) (u v : ℕ) (pages there : Pages) → u ≡ v → pages ≡ there
      → (each domain_of attrs >>= (λ domains. set_on (reader domains) v there)) ≡ Some rows → (each domain_of attrs >>= (λ domains. set_on (reader domains) u pages)) ≡ Some rows
  rows_same attrs rows u v pages there e k h = (λ i. each domain_of attrs >>= (λ domains. set_on (reader domains) (e i) (k i))) ∙ h

  rows_made : (attrs : List Attr) (rows : List Row) → IsMade file used attrs rows before later → (each domain_of attrs >>= (λ domains. set_on (reader domains) used (pages_of later file))) ≡ Some rows
  rows_made attrs rows made = ap (λ o. o >>= (λ domains. set_on (reader domains) used (pages_of later file))) made.read ∙ made.are

  -- a relation has its rows on its pages afterwards
  abbrev Stands : Files → Relation → Type 0
  Stands after s = rows_in (pages_of later) after s ≡ Some s.rows

  -- a relation with these rows on the pages that were made
  made_stands : (after : Files) (s : Relation) → after.file s.info.key ≡ file → after.used s.info.key ≡ used → IsMade file used s.info.attrs s.rows before later → Stands after s
  unfolding rows_in
  made_stands after s at many made = rows_same s.info.attrs s.rows (after.used s.info.key) used (pages_of later (after.file s.info.key)) (pages_of later file) many (ap (pages_of later) at) (rows_made s.info.attrs s.rows made)

  -- a relation that was there with these attributes and rows, on the same pages
  kept_stands : (after : Files) (r s : Relation) → IsIn r db.relations → s.info.attrs ≡ r.info.attrs → s.rows ≡ r.rows → after.used s.info.key ≡ f.used r.info.key
      → pages_of later (after.file s.info.key) ≡ pages_of before (f.file r.info.key) → Stands after s
  unfolding rows_in
  kept_stands after r s there attrs rows many pages =
      ap (λ (l : List Attr). each domain_of l >>= (λ domains. set_on (reader domains) (after.used s.info.key) (pages_of later (after.file s.info.key)))) attrs
      ∙ rows_same r.info.attrs r.rows (after.used s.info.key) (f.used r.info.key) (pages_of later (after.file s.info.key)) (pages_of before (f.file r.info.key)) many pages
      (of_all (λ (r : Relation). rows_in (pages_of before) f r ≡ Some r.rows) db.relations r has.rows there)
      ∙ ap Some (sym rows)

  changed_stands : (made : DbChange) → Suits made f file used → MakesPages made db file used before later → (s : Relation) → IsChanged made db s → Stands (files_after made file used f) s
  unfolding Suits MakesPages IsChanged files_after placed_key
  changed_stands (change.Rows rel remove add) suits makes s c =
      subst (Stands (with_file rel file used f)) (sym c.3)
      (made_stands (with_file rel file used f) (record c.0 { rows = with_rows add (without_rows remove c.0.rows) }) (file_same c.0.info.key rel file used f c.2) (used_same c.0.info.key rel file used f c.2)
      (of_all (λ (r : Relation). same_key r.info.key rel ≡ true → IsMade file used r.info.attrs (with_rows add (without_rows remove r.rows)) before later) db.relations c.0 makes c.1 c.2))
  changed_stands (change.Create info rows) suits makes s c =
      subst (Stands (with_file info.key file used f)) (sym c)
      (made_stands (with_file info.key file used f) (record { info = info; rows = set_of rows }) (file_same info.key info.key file used f (same_key_itself info.key)) (used_same info.key info.key file used f (same_key_itself info.key)) makes)
  changed_stands (change.Destroy rels) suits makes s c = absurd c
  changed_stands (change.Modify rel to keys) suits makes s c =
      let same : c.0.info.key ≡ rel = same_key_is c.0.info.key rel c.2 in
      subst (Stands (with_file rel file used f)) (sym c.3)
      (kept_stands (with_file rel file used f) c.0 (restructured to keys c.0) c.1 refl refl (used_same c.0.info.key rel file used f c.2 ∙ suits.1 ∙ ap f.used (sym same))
      (λ i. pages_of (makes i) ((file_same c.0.info.key rel file used f c.2 ∙ suits.0 ∙ ap f.file (sym same)) i)))
  changed_stands (change.Index base name keys) suits makes s c = absurd c
  changed_stands (change.View info query) suits makes s c = absurd c
  changed_stands (change.Permit rel permit) suits makes s c = absurd c
  changed_stands (change.Rule rel rule) suits makes s c = absurd c
  changed_stands (change.DropPermits rel numbers) suits makes s c = absurd c
  changed_stands (change.DropRules rel numbers) suits makes s c = absurd c

  module _ (made : DbChange) (lawful : IsLawful db made) (suits : Suits made f file used) (makes : MakesPages made db file used before later) where
    after : Files
    after = files_after made file used f

    agree : Agree db made f after
    unfolding after
    agree = files_agree made db f file used lawful suits

    each_stands : (s : Relation) → IsIn s (laid db made).relations → Stands after s
    unfolding after
    each_stands s at = elim (relation_from made db s at) [
      | inl k ↦ kept_stands after s s k.0 refl refl (agree.used_stays s.info.key (relation_is db s k.0) (relation_is (laid db made) s at) k.1)
          (ap (pages_of later) (agree.file_stays s.info.key (relation_there db s k.0) (relation_there (laid db made) s at)) ∙ pages_stay made lawful suits makes s.info.key (relation_there db s k.0) k.1)
      | inr c ↦ changed_stands made suits makes s c
    ]

    -- the files are some that it may have, and each relation has its rows
    pub has_files : HasFiles (laid db made) (pages_of later) (files_after made file used f)
    unfolding after
    has_files =
        let may = may_have_after db f file used (may_have db (pages_of before) f has) made lawful suits in
        record {
          are_files = may.are_files;
          files_differ = may.files_differ;
          some_pages = may.some_pages;
          rows = all_of (λ (r : Relation). rows_in (pages_of later) after r ≡ Some r.rows) (laid db made).relations each_stands;
        }

pub files_stand : (made : DbChange) → FilesStand made
files_stand made db f file used before later is lawful has suits makes = has_files db f file used before later has made lawful suits makes

pub first_files_stay : (made : DbChange) → FirstFilesStay made
first_files_stay made db f file used before later lawful has suits makes = low_stays db f file used before later has made lawful suits makes

-- What pages stand for.
use Rattle.std.proofs.Common.{◌≡◌, refl, sym, ap, ◌∙◌, inl, inr, ℕ, ◌==◌, ◌&&◌, nat_le, Bool, true, false, List, [], ◌∷◌, Option, Some, None, option_map, arith}
use Rattle.std.specs.Prelude.{if◌then◌else◌}
use Rattle.std.proofs.lemmas.Bool.Decides.{nat_tests}
use Rattle.std.proofs.lemmas.Option.{same_Some}
use Rattle.calculus.specs.Database as database
use Rattle.calculus.specs.Keys.{key_cmp}
use Rattle.calculus.specs.Structures.{is_structure}
use Rattle.disk_model.specs.Disk.{Image}
use Rattle.disk_model.specs.declared.disk.Addr.{Addr}
use Rattle.batch_file.specs.Layout.{addr, count, entries}
use Rattle.batch_file.specs.Redone.{redone, redone_of, damage, kept, is_kept, laid}
use Rattle.page_chain.specs.Lists.{◌>>=◌, when, check, each, once}
use Rattle.page_chain.specs.Pages.{Pages, pages_of, page_at}
use Rattle.page_chain.specs.Rows.{set_on, reader}
use Rattle.stored_database.specs.Catalogue.{Catalogue, catalogue_in}
use Rattle.stored_database.specs.Entries.{Entry, is_entry}
use Rattle.stored_database.specs.IsOne.{is_database}
use Rattle.stored_database.specs.Laws.{WhatIsDenotedIsADatabase, OneDatabase, SameRedone, OnlyKeptPagesCount, SameWhereKept, ShutDisksHold}
use Rattle.stored_database.specs.Spelled.{attrs_of, info_of, domain_of, relation_of, entries_that, columns_stand, parts_stand, relations_of, indexes_of, views_of, rules_of, permits_of, spelled}
use Rattle.stored_database.specs.Denoting.{header_of, birth, database_of, denoted, stored}
use Rattle.stored_database.proofs.CatalogueRead.{catalogues_are_read}
use Rattle.stored_database.proofs.EntryBytes.{stands}
use Rattle.stored_database.proofs.IsOne.{the_test_decides}
use Rattle.stored_database.proofs.Members.{IsIn, of_all, filter_in}
use Rattle.stored_database.proofs.Reading.{bind_some, when_some}

pub what_is_denoted_is_a_database : WhatIsDenotedIsADatabase
unfolding denoted
what_is_denoted_is_a_database pages db h =
    let b = bind_some (database_of pages) (λ db. when (is_database db) db) db h in
    let w = when_some (is_database b.0) b.0 db b.2 in
    (the_test_decides db).0 (ap is_database (sym w.1) ∙ w.0)

pub one_database : OneDatabase
one_database pages one other first second = same_Some one other (sym first ∙ second)

pub same_redone : SameRedone
unfolding stored
same_redone m n same = ap (λ o. o >>= denoted) same

-- ---- pages that count

-- what is read alike is the same
pub each_same : {A B : Type 0} (f g : A → Option B) (xs : List A) → ((x : A) → IsIn x xs → f x ≡ g x) → each f xs ≡ each g xs
each_same f g [] same = refl
each_same {A} {B} f g (x ∷ xs) same = λ i. same x (inl refl) i >>= (λ y. option_map (λ ys. y ∷ ys) (each_same f g xs (λ z at. same z (inr at)) i))

-- the relation of an entry by the pages of its file alone
relation_with : Pages → Catalogue → Entry → Option database.Relation
relation_with pages cat e = attrs_of cat e.file >>= (λ attrs. each domain_of attrs >>= (λ domains. set_on (reader domains) e.used pages >>= (λ rows. Some (record { info = info_of e attrs; rows = rows }))))

-- a relation is read alike of files that agree in its own
pub same_relation : (files later : ℕ → Pages) (cat : Catalogue) (e : Entry) → files e.file ≡ later e.file → relation_of files cat e ≡ relation_of later cat e
unfolding relation_of relation_with
same_relation files later cat e same = ap (λ pages. relation_with pages cat e) same

-- the database with these relations
with_relations : List ℕ → Catalogue → Option (List database.Relation) → Option database.Db
with_relations dba cat relations = check (columns_stand cat && parts_stand cat) >>= (λ sound. relations >>= (λ relations. indexes_of cat >>= (λ indexes. views_of cat >>= (λ views. rules_of cat >>= (λ rules. permits_of cat >>= (λ permits.
    Some (record { dba = dba; relations = relations; indexes = indexes; views = views; rules = rules; permits = permits })))))))

-- files that agree in those of the relations spell the same
pub same_spelled : (dba : List ℕ) (files later : ℕ → Pages) (cat : Catalogue) → ((e : Entry) → IsIn e cat.entries → is_structure e.spec ≡ true → files e.file ≡ later e.file)
    → spelled dba files cat ≡ spelled dba later cat
unfolding spelled relations_of with_relations
same_spelled dba files later cat same =
    ap (λ o. with_relations dba cat (o >>= once (λ a b. key_cmp a.info.key b.info.key))) (each_same (relation_of files cat) (relation_of later cat) (entries_that is_structure cat)
    (λ e at. (let f = filter_in (λ e. is_structure e.spec) cat.entries e at in same_relation files later cat e (same e f.0 f.1))))

-- pages of a file that counts are kept
kept_pages : (m : Image) (file : ℕ) → is_kept file ≡ true → pages_of (kept m) file ≡ pages_of m file
kept_pages m file h = λ i page. ap (λ t. if t then m (page_at file page) else None) h i

kept_file : (e : Entry) → is_entry e ≡ true → is_kept e.file ≡ true
kept_file e h = let from = (stands e h).from in large e.file from
  where
    large : (n : ℕ) → nat_le 16 n ≡ true → is_kept n ≡ true
    large n h = grind (arith, nat_tests)

-- the database of a catalogue that was read
spelled_if : List ℕ → (ℕ → Pages) → Option Catalogue → Option database.Db
spelled_if dba files read = read >>= (λ cat. spelled dba files cat)

same_if : (m : Image) (dba : List ℕ) (read : Option Catalogue) → catalogue_in (pages_of m) ≡ read → spelled_if dba (pages_of (kept m)) read ≡ spelled_if dba (pages_of m) read
unfolding spelled_if
same_if m dba None h = refl
same_if m dba (Some cat) h =
    let is_cat = catalogues_are_read (pages_of m) cat h in
    same_spelled dba (pages_of (kept m)) (pages_of m) cat (λ e at is. kept_pages m e.file (kept_file e (of_all (λ e. is_entry e ≡ true) cat.entries e is_cat.are_entries at)))

pub only_kept_pages_count : OnlyKeptPagesCount
unfolding denoted database_of catalogue_in spelled_if
only_kept_pages_count m = λ i.
    (m (addr 0 0) >>= (λ page. header_of page >>= (λ dba. check (birth m == 1) >>= (λ born. same_if m dba (catalogue_in (pages_of m)) refl i)))) >>= (λ db. when (is_database db) db)

same_kept : (m n : Image) → ((b : Addr) → is_kept b.file ≡ true → m b ≡ n b) → kept m ≡ kept n
same_kept m n same = λ i b. go b (is_kept b.file) refl i
  where
    go : (b : Addr) (k : Bool) → is_kept b.file ≡ k → kept m b ≡ kept n b
    go b true e = ap (λ t. if t then m b else None) e ∙ same b e ∙ sym (ap (λ t. if t then n b else None) e)
    go b false e = ap (λ t. if t then m b else None) e ∙ sym (ap (λ t. if t then n b else None) e)

pub same_where_kept : SameWhereKept
same_where_kept m n same = sym (only_kept_pages_count m) ∙ ap denoted (same_kept m n same) ∙ only_kept_pages_count n

pub shut_disks_hold : ShutDisksHold
unfolding stored redone
shut_disks_hold m h =
    ap (λ shut. redone_of shut (damage m) (kept m) (kept (laid (entries m (count m)) m)) >>= denoted) h ∙ only_kept_pages_count m

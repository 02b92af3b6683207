-- Pages denote a database exactly where they are the pages that it has.
use Rattle.std.proofs.Common.{◌≡◌, sym, ap, ◌∙◌, ℕ, ◌==◌, ◌&&◌, true, List, take, drop, Some}
use Rattle.std.specs.Prelude.{bytes_eq}
use Rattle.std.proofs.lemmas.Option.{same_Some}
use Rattle.std.proofs.lemmas.Slice.Eq.{bytes_eq-Decides}
use Rattle.calculus.specs.Database.{Db}
use Rattle.calculus.specs.IsDatabase.{IsDatabase}
use Rattle.calculus.specs.Name.{is_name}
use Rattle.calculus.specs.Text.{trimmed}
use Rattle.disk_model.specs.Disk.{Image}
use Rattle.batch_file.specs.Layout.{addr}
use Rattle.page_chain.specs.Lists.{◌>>=◌, when, check}
use Rattle.page_chain.specs.Pages.{Pages, pages_of}
use Rattle.stored_database.specs.Catalogue.{Catalogue, catalogue_in}
use Rattle.stored_database.specs.IsOne.{is_database}
use Rattle.stored_database.specs.Laws.{HasPages, PagesStandExactly, HeadersAreTheirBytes}
use Rattle.stored_database.specs.Names.{name_of}
use Rattle.stored_database.specs.Printed.{files_in}
use Rattle.stored_database.specs.Spelled.{spelled, relations_of, indexes_of, views_of, rules_of, permits_of, columns_stand, parts_stand}
use Rattle.stored_database.specs.Denoting.{header_bytes, header_of, birth, database_of, denoted, Denotes}
use Rattle.stored_database.proofs.CatalogueRead.{catalogues_are_read}
use Rattle.stored_database.proofs.FilesAgain.{what_is_read_is_printed}
use Rattle.stored_database.proofs.Fresh.{header_again}
use Rattle.stored_database.proofs.IsOne.{the_test_decides}
use Rattle.stored_database.proofs.PrintedLaw.{what_is_printed_is_read}
use Rattle.stored_database.proofs.Reading.{bind_some, when_some, same_number}

-- ---- headers

header_named : (page dba : List ℕ) → header_of page ≡ Some dba → (is_name dba ≡ true) × (take 22 page ≡ header_bytes dba)
unfolding header_of name_of
header_named page dba h =
    let bytes = take 12 (drop 10 page) in
    let n = bind_some (when (is_name (trimmed bytes)) (trimmed bytes)) (λ dba. when (bytes_eq (take 22 page) (header_bytes dba)) dba) dba h in
    let w = when_some (is_name (trimmed bytes)) (trimmed bytes) n.0 n.1 in
    let v = when_some (bytes_eq (take 22 page) (header_bytes n.0)) n.0 dba n.2 in
    (ap is_name (sym (w.1 ∙ v.1)) ∙ w.0, (bytes_eq-Decides (take 22 page) (header_bytes n.0)).0 v.0 ∙ ap header_bytes v.1)

pub headers_are_their_bytes : HeadersAreTheirBytes
headers_are_their_bytes page dba = (header_named page dba, λ h. header_again page dba h.0 h.1)

-- ---- databases

-- what is spelled has the administrator's name
own_dba : (dba : List ℕ) (files : ℕ → Pages) (cat : Catalogue) (db : Db) → spelled dba files cat ≡ Some db → dba ≡ db.dba
unfolding spelled
own_dba dba files cat db h =
    let a = bind_some (check (columns_stand cat && parts_stand cat)) _ db h in
    let b = bind_some (relations_of files cat) _ db a.2 in
    let c = bind_some (indexes_of cat) _ db b.2 in
    let d = bind_some (views_of cat) _ db c.2 in
    let e = bind_some (rules_of cat) _ db d.2 in
    let f = bind_some (permits_of cat) _ db e.2 in
    ap (λ (d : Db). d.dba) (same_Some _ db f.2)

pages_had : (m : Image) (db : Db) → IsDatabase db → Denotes m db → HasPages m db
unfolding denoted database_of
pages_had m db is_one h =
    let o = bind_some (database_of m) (λ db. when (is_database db) db) db h in
    let w = when_some (is_database o.0) o.0 db o.2 in
    let a = bind_some (m (addr 0 0)) _ db (o.1 ∙ ap Some w.1) in
    let b = bind_some (header_of a.0) _ db a.2 in
    let c = bind_some (check (birth m == 1)) _ db b.2 in
    let d = bind_some (catalogue_in (pages_of m)) _ db c.2 in
    let own = own_dba b.0 (pages_of m) d.0 db d.2 in
    let p = what_is_read_is_printed b.0 (pages_of m) d.0 db (catalogues_are_read (pages_of m) d.0 d.1) d.2 is_one in
    record {
      head = a.0;
      there = a.1;
      header = b.1 ∙ ap Some own;
      born = same_number (birth m) 1 (when_some (birth m == 1) tt c.0 c.1).0;
      files = files_in d.0;
      catalogue = d.1 ∙ ap Some p.0;
      has = p.1;
    }

pages_stand : (m : Image) (db : Db) → IsDatabase db → HasPages m db → Denotes m db
unfolding denoted database_of
pages_stand m db is_one h =
    (λ i. (h.there i >>= (λ page. header_of page >>= (λ dba. check (birth m == 1) >>= (λ born. catalogue_in (pages_of m) >>= (λ cat. spelled dba (pages_of m) cat))))) >>= (λ db. when (is_database db) db))
    ∙ (λ i. (h.header i >>= (λ dba. check (h.born i == 1) >>= (λ born. h.catalogue i >>= (λ cat. spelled dba (pages_of m) cat)))) >>= (λ db. when (is_database db) db))
    ∙ (λ i. what_is_printed_is_read (pages_of m) h.files db is_one h.has i >>= (λ db. when (is_database db) db))
    ∙ ap (λ t. when t db) ((the_test_decides db).1 is_one)

pub pages_stand_exactly : PagesStandExactly
pages_stand_exactly m db is_one = (pages_had m db is_one, pages_stand m db is_one)

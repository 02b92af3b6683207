use Rattle.std.proofs.Common.{◌≡◌, ◌∙◌, sym, refl, ap, subst, ℕ, false, map, Some, [], None}
use Rattle.std.specs.Prelude.{IfOk}
use Rattle.std.specs.Option.{ForSome}
use Rattle.calculus.specs.Database.{Db}
use Rattle.calculus.specs.IsDatabase.{IsDatabase}
use Rattle.calculus.specs.Keys.{same_key}
use Rattle.calculus.specs.Lists.{differ_by}
use Rattle.calculus.specs.Schema.{schema_of}
use Rattle.page_chain.specs.Pages.{Pages}
use Rattle.plain_base.specs.Shown.{database_of}
use Rattle.catalog_rows.specs.Shown.{entry_in}
use Rattle.catalog_rows.specs.declared.entries.EntryRow.{EntryRow}
use Rattle.catalog_read.specs.Read.{catalogue_shown}
use Rattle.stored_database.specs.Printed.{HasFiles, files_in, printed}
use Rattle.stored_database.specs.Spelled.{spelled}
use Rattle.catalog_moves.specs.Bases.{IndexBases}
use Rattle.catalog_moves.specs.Files.{files_of}
use Rattle.catalog.specs.Loading.{IsOfParts}
use Rattle.catalog.proofs.ReadRows.{is_made, no_table}
use Rattle.catalog.proofs.loading.catalog_of.Goals as goal

pub returns-in-Some-files-clause-made : goal.returns-in-Some-files-clause-made
returns-in-Some-files-clause-made c x same =
    is_made c.args.dba c.args.rows.now c.args.ends (record { plain = c.in-Some.plain; loaded = c.new.result; files = c.in-Some-files.files; ends = c.args.ends }) x same
    (subst (λ r. IfOk r (λ found. ForSome found (λ plain. (files : ℕ → Pages) (db : Db) → spelled c.args.dba files (catalogue_shown c.args.rows.now) ≡ Some db → database_of plain ≡ schema_of db)))
    c.in_ok-plain.ensures.first c.schema_in.ensures.built c.in-Some.plain c.in-Some.is)
    (subst (λ r. IfOk r (λ found. ForSome found (λ table. files_of table ≡ files_in (record { entries = map entry_in c.items.result.now; columns = []; parts = [] }))))
    c.in_ok-plain.ensures.second c.of_entries.ensures.found c.in-Some-files.files c.in-Some-files.is
    ∙ ap (λ es. files_in (record { entries = map entry_in es; columns = []; parts = [] })) c.items.ensures)
    c.new.ensures refl
    (λ db files is has are. subst (λ r. IfOk r (λ found. ForSome found (λ table. (db : Db) (files : ℕ → Pages) → IsDatabase db → HasFiles db files (files_of table) → map entry_in c.items.result.now ≡ (printed db (files_of table)).entries → IndexBases table db)))
    c.in_ok-plain.ensures.second c.of_entries.ensures.bases c.in-Some-files.files c.in-Some-files.is db files is has (ap (map entry_in) c.items.ensures ∙ are))
    (subst (λ r. IfOk r (λ found. ForSome found (λ plain. IsOfParts c.args.dba (catalogue_shown c.args.rows.now) (database_of plain))))
    c.in_ok-plain.ensures.first c.schema_in.ensures.of_parts c.in-Some.plain c.in-Some.is)

pub returns-in-None-clause-refused : goal.returns-in-None-clause-refused
returns-in-None-clause-refused c = λ n.
    no_table c.args.dba c.args.rows.now c.requires
    (sym (ap (λ (es : _). differ_by same_key (map (λ (e : EntryRow). e.key) es)) c.items.ensures)
    ∙ subst (λ r. IfOk r (λ found. found ≡ None → differ_by same_key (map (λ (e : EntryRow). e.key) c.items.result.now) ≡ false)) c.in_ok-plain.ensures.second c.of_entries.ensures.twice c.in-None.is)

use Rattle.std.proofs.Common.{◌≡◌, ap, ◌∙◌, map, sym, subst}
use Rattle.std.proofs.lemmas.Option.{same_Some}
use Rattle.catalog_moves.specs.Files.{files_of}
use Rattle.catalog_rows.specs.Shown.{entry_in}
use Rattle.stored_database.specs.Printed.{HasFiles, printed}
use Rattle.catalog_moves.specs.Bases.{IndexBases}
use Rattle.catalog_moves.specs.declared.files.FileTable.{FileTable}
use Rattle.catalog_moves.proofs.ReadBases.{read_bases}
use Rattle.catalog_moves.proofs.ReadTables.{files_said}
use Rattle.catalog_moves.proofs.files.FileTable.of_entries.Goals as goal

pub returns-then-branch-clause-found : goal.returns-then-branch-clause-found
returns-then-branch-clause-found c x e =
    ap files_of (sym (same_Some _ x e)) ∙ files_said c.put_all.new.table.places.items c.args.entries.now (c.in_ok-put_all.ensures.once c.if-branch.true)

pub returns-then-branch-clause-bases : goal.returns-then-branch-clause-bases
returns-then-branch-clause-bases c x e db files is =
    subst (λ (table : FileTable). HasFiles db files (files_of table) → map entry_in c.args.entries.now ≡ (printed db (files_of table)).entries → IndexBases table db) (same_Some _ x e)
    (λ has are. read_bases db is files c.put_all.new.table c.args.entries.now (c.in_ok-put_all.ensures.once c.if-branch.true) are has)

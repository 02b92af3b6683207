use Rattle.std.proofs.Common.{◌≡◌, ap, arith, refl, true, [], ◌∷◌}
use Rattle.std.specs.Prelude.{is_some}
use Rattle.calculus.specs.Database.{is_there}
use Rattle.page_chain.proofs.Carried.{cause_carried}
use Rattle.plain_base.specs.Shown.{database_of}
use Rattle.stored_database.specs.Printed.{printed}
use Rattle.stored_database.specs.Moves.{destroyed, rows_of}
use Rattle.catalog_moves.specs.Files.{files_of}
use Rattle.catalog_pages.specs.Ends.{NoCatalogue}
use Rattle.catalog.specs.Spelling.{SpellsNone}
use Rattle.catalog.proofs.Spelled.{none_spelled, set_changes, set_spelled, set_stands}
use Rattle.catalog.proofs.catalog.Catalog.set_file.Goals as goal

pub returns-clause-spells : goal.returns-clause-spells
returns-clause-spells g c = λ m is spells. (
    let old = c.args.self.now in
    let db = database_of old.plain in
    let there : is_there db c.args.key.now ≡ true = ap is_some c.requires.there in
    let said = c.in_ok-rows.ensures.files spells.bases there in
    let bases = c.in_ok-rows.ensures.bases spells.bases there c.requires.number in
    let gone = rows_of (files_of old.files) (destroyed (c.args.key.now ∷ []) db) in
    let come = rows_of (files_of c.renumber.new.files) (destroyed (c.args.key.now ∷ []) db) in
    set_spelled old m spells c.args.key.now c.args.file.now c.requires c.renumber.new.files said bases
    (record { plain = c.renumber.new.plain; loaded = old.loaded; files = c.renumber.new.files; ends = c.in_ok-ends.ends }) (g.S.PageStore.pages c.write_moves.new.store) c.renumber.ensures.same refl
    (c.in_ok-ends.ensures.written m (printed db (files_of old.files)) gone come is spells.ends spells.catalogue
    (set_changes old m spells c.args.key.now c.args.file.now c.requires c.renumber.new.files said bases)
    (set_stands old m spells c.args.key.now c.args.file.now c.requires c.renumber.new.files said bases (c.in_ok-rows.ensures.places spells.bases there c.requires.number))
    (c.in_ok-rows.ensures.moves spells.bases there c.requires.number)))

pub returns-clause-set : goal.returns-clause-set
returns-clause-set g c = λ bases. record { plain = c.renumber.ensures.same; loaded = λ other. refl; files = c.in_ok-rows.ensures.files bases (ap is_some c.requires.there) }

pub returns-clause-came : goal.returns-clause-came
returns-clause-came g c = c.write_moves.ensures.came

pub returns-in_err-ends-clause-came : goal.returns-in_err-ends-clause-came
returns-in_err-ends-clause-came g c = c.write_moves.ensures.came

pub returns-in_err-ends-clause-cause : goal.returns-in_err-ends-clause-cause
returns-in_err-ends-clause-cause g c =
    let old = g.S.PageStore.pages c.args.store.now in
    let start = g.S.PageStore.faults c.args.store.now in
    cause_carried old old (NoCatalogue c.args.self.now.ends) (SpellsNone c.args.self.now) start start (g.S.PageStore.faults c.write_moves.new.store) c.in_err-ends.field-0.0 (omega arith)
    (none_spelled c.args.self.now old) c.in_err-ends.ensures.cause c.from_residual-in_err-ends.result c.from_residual-in_err-ends.ensures.1

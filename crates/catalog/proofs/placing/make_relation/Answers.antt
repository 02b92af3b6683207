use Rattle.std.proofs.Common.{sym, subst}
use Rattle.calculus.specs.declared.change.DbChange.TheVariants.{Create}
use Rattle.plain_base.specs.Shown.{database_of}
use Rattle.catalog_moves.specs.Files.{files_of}
use Rattle.catalog.specs.Laid.{HasMade}
use Rattle.catalog.proofs.Attributes.{widths_stand}
use Rattle.catalog.proofs.Relations.{all_rows, few_rows, makeable, relation_made}
use Rattle.catalog.proofs.placing.make_relation.Goals as goal

pub build_rows-requires-clause-some : goal.build_rows-requires-clause-some
build_rows-requires-clause-some g c =
    let its = makeable (database_of c.args.plain.now) c.args.info.now c.args.rows.now c.args.plain.now.is c.requires in
    (widths_stand c.args.info.now.attrs c.in-Some.file.domains its.stand (c.in_ok-file.ensures.there c.in-Some.file c.in-Some.is).domains).0

pub build_rows-requires-clause-most : goal.build_rows-requires-clause-most
build_rows-requires-clause-most g c =
    let its = makeable (database_of c.args.plain.now) c.args.info.now c.args.rows.now c.args.plain.now.is c.requires in
    (widths_stand c.args.info.now.attrs c.in-Some.file.domains its.stand (c.in_ok-file.ensures.there c.in-Some.file c.in-Some.is).domains).1

pub build_rows-requires-clause-fit : goal.build_rows-requires-clause-fit
build_rows-requires-clause-fit g c =
    let its = makeable (database_of c.args.plain.now) c.args.info.now c.args.rows.now c.args.plain.now.is c.requires in
    all_rows c.args.info.now.attrs c.in-Some.file.domains c.args.rows.now (c.in_ok-file.ensures.there c.in-Some.file c.in-Some.is).domains its.fit

pub build_rows-requires-clause-few : goal.build_rows-requires-clause-few
build_rows-requires-clause-few g c = few_rows c.args.info.now c.args.rows.now (makeable (database_of c.args.plain.now) c.args.info.now c.args.rows.now c.args.plain.now.is c.requires)

pub returns-clause-made : goal.returns-clause-made
returns-clause-made g c m db is may =
    let f = files_of c.args.files.now in
    let made = Create c.args.info.now c.args.rows.now in
    let new = g.S.PageStore.pages c.build_rows.new.store in
    let its = makeable (database_of c.args.plain.now) c.args.info.now c.args.rows.now c.args.plain.now.is c.requires in
    let done = relation_made db f c.args.info.now c.args.rows.now c.in-Some.file c.in_ok-number.number m (g.S.PageStore.pages c.args.store.now) new c.in_ok-used.used c.in_ok-number.ensures
    (c.in_ok-file.ensures.there c.in-Some.file c.in-Some.is) is c.in_ok-used.ensures.some c.place_with.ensures.few c.in_ok-used.ensures.others (c.in_ok-used.ensures.built m is its.differ) in
    subst (λ n. HasMade made db f n c.place_with.result.used m new) (sym c.place_with.ensures.file)
    (subst (λ n. HasMade made db f c.in_ok-number.number n m new) (sym c.place_with.ensures.used) done)

pub returns-clause-came : goal.returns-clause-came
returns-clause-came g c = c.build_rows.ensures.came

pub returns-in_err-used-clause-came : goal.returns-in_err-used-clause-came
returns-in_err-used-clause-came g c = c.build_rows.ensures.came

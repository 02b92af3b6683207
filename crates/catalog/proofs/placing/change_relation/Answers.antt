use Rattle.std.proofs.Common.{refl, sym, subst, arith}
use Rattle.calculus.specs.declared.change.DbChange.TheVariants.{Rows}
use Rattle.page_chain.proofs.Carried.{cause_carried}
use Rattle.plain_base.specs.Shown.{database_of}
use Rattle.relation_rows.specs.Sets.{HasNoneOf}
use Rattle.catalog_moves.specs.Files.{files_of}
use Rattle.catalog.specs.Laid.{HasMade, NoneMayTake}
use Rattle.catalog.proofs.Relations.{named_relation, no_file, none_is, none_there, rows_made, rows_that_go_fit}
use Rattle.catalog.proofs.placing.change_relation.Goals as goal

pub relation_file-requires : goal.relation_file-requires
relation_file-requires g c = named_relation (database_of c.args.plain.now) c.args.rel.now c.args.remove.now c.args.add.now c.requires

pub returns-in_default-clause-cause : goal.returns-in_default-clause-cause
returns-in_default-clause-cause g c = record {
  later = omega arith;
  caused = (
    λ m is db may.
        no_file (database_of c.args.plain.now) (files_of c.args.files.now) c.args.rel.now c.args.remove.now c.args.add.now m (c.in_ok-file.ensures.none (none_is c.in_ok-file.field-0 c.in_default.not-Some)) db may,
    refl,
  );
}

pub change_rows-requires-clause-number : goal.change_rows-requires-clause-number
change_rows-requires-clause-number g c = let its = c.in_ok-file.ensures.there c.in-Some.file c.in-Some.is in let first = its.first in omega (arith, first)

pub change_rows-requires-clause-pages : goal.change_rows-requires-clause-pages
change_rows-requires-clause-pages g c = (c.in_ok-file.ensures.there c.in-Some.file c.in-Some.is).some

pub change_rows-requires-clause-going : goal.change_rows-requires-clause-going
change_rows-requires-clause-going g c =
    (rows_that_go_fit (database_of c.args.plain.now) (files_of c.args.files.now) c.args.rel.now c.args.remove.now c.args.add.now c.in-Some.file c.args.plain.now.is c.requires
    (c.in_ok-file.ensures.there c.in-Some.file c.in-Some.is)).0

pub change_rows-requires-clause-coming : goal.change_rows-requires-clause-coming
change_rows-requires-clause-coming g c =
    (rows_that_go_fit (database_of c.args.plain.now) (files_of c.args.files.now) c.args.rel.now c.args.remove.now c.args.add.now c.in-Some.file c.args.plain.now.is c.requires
    (c.in_ok-file.ensures.there c.in-Some.file c.in-Some.is)).1

pub returns-in_err-used-clause-cause : goal.returns-in_err-used-clause-cause
returns-in_err-used-clause-cause g c =
    let part = database_of c.args.plain.now in
    let f = files_of c.args.files.now in
    let old = g.S.PageStore.pages c.args.store.now in
    let start = g.S.PageStore.faults c.args.store.now in
    cause_carried old old (HasNoneOf c.in-Some.file c.args.remove.now) (NoneMayTake part f (Rows c.args.rel.now c.args.remove.now c.args.add.now)) start start (g.S.PageStore.faults c.change_rows.new.store)
    c.in_err-used.field-0.0 (omega arith)
    (λ a fault m is db may. none_there part f c.args.rel.now c.args.remove.now c.args.add.now c.in-Some.file m a (named_relation part c.args.rel.now c.args.remove.now c.args.add.now c.requires)
    (c.in_ok-file.ensures.there c.in-Some.file c.in-Some.is) (fault m is) db may)
    c.in_err-used.ensures.cause c.from_residual-in_err-used.result c.from_residual-in_err-used.ensures.1

pub returns-clause-made : goal.returns-clause-made
returns-clause-made g c m db is may =
    let part = database_of c.args.plain.now in
    let f = files_of c.args.files.now in
    let made = Rows c.args.rel.now c.args.remove.now c.args.add.now in
    let new = g.S.PageStore.pages c.change_rows.new.store in
    let done = rows_made part db f c.args.rel.now c.args.remove.now c.args.add.now c.in-Some.file m (g.S.PageStore.pages c.args.store.now) new c.in_ok-used.used
    (named_relation part c.args.rel.now c.args.remove.now c.args.add.now c.requires) (c.in_ok-file.ensures.there c.in-Some.file c.in-Some.is) may is c.in_ok-used.ensures.some c.place_with.ensures.few
    c.in_ok-used.ensures.others (λ rows. c.in_ok-used.ensures.changed m rows is) in
    subst (λ n. HasMade made db f n c.place_with.result.used m new) (sym c.place_with.ensures.file)
    (subst (λ n. HasMade made db f c.in-Some.file.file n m new) (sym c.place_with.ensures.used) done)

pub returns-clause-came : goal.returns-clause-came
returns-clause-came g c = c.change_rows.ensures.came

pub returns-in_err-used-clause-came : goal.returns-in_err-used-clause-came
returns-in_err-used-clause-came g c = c.change_rows.ensures.came

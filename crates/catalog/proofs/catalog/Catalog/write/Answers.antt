use Rattle.std.proofs.Common.{◌≡◌, ◌∙◌, ap, arith, subst, sym}
use Rattle.calculus.specs.Change.{IsLawful, laid}
use Rattle.calculus.specs.Database.{Db}
use Rattle.page_chain.proofs.Carried.{cause_carried}
use Rattle.plain_base.specs.Shown.{database_of}
use Rattle.catalog_pages.specs.Ends.{NoCatalogue}
use Rattle.catalog_moves.specs.Files.{files_of}
use Rattle.catalog.specs.Knows.{KnowsNoneFor}
use Rattle.catalog.specs.Laid.{IsKept, NoneMayTake}
use Rattle.catalog.proofs.Outcomes.{cause_on}
use Rattle.catalog.proofs.Steps.{catalogue_fault, on_ok, pages_fault, write_knows, write_lies}
use Rattle.catalog.proofs.catalog.Catalog.write.Goals as goal

pub returns-in_err-given-clause-cause : goal.returns-in_err-given-clause-cause
returns-in_err-given-clause-cause g c =
    let old = g.S.PageStore.pages c.args.store.now in
    let start = g.S.PageStore.faults c.args.store.now in
    cause_carried old old (NoneMayTake (database_of c.args.self.now.plain) (files_of c.args.self.now.files) c.args.change.now) (KnowsNoneFor c.args.self.now c.args.change.now) start start
    (g.S.PageStore.faults c.make_pages.new.store) c.in_err-given.field-0.0 (omega arith) (pages_fault c.args.self.now c.args.change.now old) c.in_err-given.ensures.cause c.from_residual.result c.from_residual.ensures.1

pub returns-in_err-given-clause-came : goal.returns-in_err-given-clause-came
returns-in_err-given-clause-came g c = c.make_pages.ensures.came

pub write_given-requires : goal.write_given-requires
write_given-requires g c = subst (λ (d : Db). IsLawful d c.args.change.now) (sym c.make_pages.ensures.same) c.requires

pub returns-clause-cause : goal.returns-clause-cause
returns-clause-cause g c =
    let old = g.S.PageStore.pages c.args.store.now in
    let mid = g.S.PageStore.pages c.make_pages.new.store in
    cause_on old mid (NoCatalogue c.args.self.now.ends) (KnowsNoneFor c.args.self.now c.args.change.now) (g.S.PageStore.faults c.args.store.now) (g.S.PageStore.faults c.make_pages.new.store)
    (g.S.PageStore.faults c.write_given.new.store) c.write_given.result c.in_ok-given.ensures.cause.caused
    (catalogue_fault c.args.self.now c.args.change.now c.in_ok-given.given.file c.in_ok-given.given.used old mid (λ m db. c.in_ok-given.ensures.made m db)) c.write_given.ensures.cause

pub returns-clause-knows : goal.returns-clause-knows
returns-clause-knows g c m db is base knows lawful read =
    write_knows c.write_given.result c.args.self.now c.make_pages.new.plain c.write_given.new.self m db c.args.change.now c.in_ok-given.given.file c.in_ok-given.given.used
    (g.S.PageStore.pages c.make_pages.new.store) (g.S.PageStore.pages c.write_given.new.store) c.make_pages.ensures.same base knows lawful read
    (c.in_ok-given.ensures.made m db is) c.write_given.ensures.places c.write_given.ensures.written c.write_given.ensures.kept

pub returns-clause-lies : goal.returns-clause-lies
returns-clause-lies g c m is lies read =
    write_lies c.write_given.result c.args.self.now c.make_pages.new.plain c.write_given.new.self m c.args.change.now c.in_ok-given.given.file c.in_ok-given.given.used
    (g.S.PageStore.pages c.make_pages.new.store) (g.S.PageStore.pages c.write_given.new.store) c.make_pages.ensures.same lies c.requires read
    (c.in_ok-given.ensures.made m (database_of c.args.self.now.plain) is) c.write_given.ensures.places c.write_given.ensures.written c.write_given.ensures.kept

pub returns-clause-plain : goal.returns-clause-plain
returns-clause-plain g c =
    on_ok c.write_given.result (IsKept (record c.args.self.now { plain = c.make_pages.new.plain }) c.write_given.new.self c.args.change.now c.in_ok-given.given.file c.in_ok-given.given.used)
    (database_of c.write_given.new.self.plain ≡ laid (database_of c.args.self.now.plain) c.args.change.now)
    (λ kept. kept.plain ∙ ap (λ (d : Db). laid d c.args.change.now) c.make_pages.ensures.same) c.write_given.ensures.kept

pub returns-clause-came : goal.returns-clause-came
returns-clause-came g c = λ s h. c.write_given.ensures.came s (c.make_pages.ensures.came s h)

use Rattle.std.proofs.Common.{◌∙◌, ap, arith, subst, sym}
use Rattle.calculus.specs.Change.{IsLawful, laid}
use Rattle.calculus.specs.Database.{Db}
use Rattle.page_chain.proofs.Carried.{cause_carried}
use Rattle.catalog_pages.specs.Ends.{NoCatalogue}
use Rattle.catalog.proofs.catalog.Catalog.write_given.Goals as goal

pub keep-requires : goal.keep-requires
keep-requires g c = subst (λ (d : Db). IsLawful d c.args.change.now) (sym c.write_catalogue.ensures.same) c.requires

pub returns-clause-places : goal.returns-clause-places
returns-clause-places g c = c.in_ok-ends.ensures.places

pub returns-clause-written : goal.returns-clause-written
returns-clause-written g c = c.in_ok-ends.ensures.written

pub returns-clause-kept : goal.returns-clause-kept
returns-clause-kept g c = record {
  plain = c.in_ok-keep.ensures.plain ∙ ap (λ (d : Db). laid d c.args.change.now) c.write_catalogue.ensures.same;
  loaded = c.in_ok-keep.ensures.loaded;
  places = c.in_ok-keep.ensures.places;
}

pub returns-clause-came : goal.returns-clause-came
returns-clause-came g c = c.write_catalogue.ensures.came

pub returns-in_err-ends-clause-came : goal.returns-in_err-ends-clause-came
returns-in_err-ends-clause-came g c = c.write_catalogue.ensures.came

pub returns-in_err-keep-clause-came : goal.returns-in_err-keep-clause-came
returns-in_err-keep-clause-came g c = c.write_catalogue.ensures.came

pub returns-in_err-ends-clause-cause : goal.returns-in_err-ends-clause-cause
returns-in_err-ends-clause-cause g c =
    let old = g.S.PageStore.pages c.args.store.now in
    let start = g.S.PageStore.faults c.args.store.now in
    cause_carried old old (NoCatalogue c.args.self.now.ends) (NoCatalogue c.args.self.now.ends) start start (g.S.PageStore.faults c.write_catalogue.new.store) c.in_err-ends.field-0.0 (omega arith)
    (λ a none. none) c.in_err-ends.ensures.cause c.from_residual.result c.from_residual.ensures.1

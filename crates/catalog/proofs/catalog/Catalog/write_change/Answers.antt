use Rattle.std.proofs.Common.{sym, ◌∙◌, refl}
use Rattle.catalog_pages.specs.Ends.{NoCatalogue}
use Rattle.catalog.specs.Spelling.{SpellsNone}
use Rattle.catalog.proofs.Outcomes.{cause_on}
use Rattle.catalog.proofs.Spelled.{change_spelled, none_spelled, was_written}
use Rattle.catalog.proofs.catalog.Catalog.write_change.Goals as goal

pub returns-clause-spells : goal.returns-clause-spells
returns-clause-spells g c = λ m is spells.
    change_spelled c.args.self.now m spells c.args.change.now c.in_ok-given.given.file c.in_ok-given.given.used (c.requires (sym c.rows_are_known.ensures ∙ c.if-not-rows_are_known.false)) c.in_ok-given.ensures.placed c.write_given.result c.write_given.new.self
    (g.S.PageStore.pages c.args.store.now) (g.S.PageStore.pages c.write_given.new.store) is c.write_given.ensures.places c.write_given.ensures.written c.write_given.ensures.kept

pub returns-clause-written : goal.returns-clause-written
returns-clause-written g c = λ known. was_written c.write_given.result c.args.self.now c.write_given.new.self c.args.change.now c.in_ok-given.given.file c.in_ok-given.given.used c.in_ok-given.ensures.placed c.write_given.ensures.kept

pub returns-clause-came : goal.returns-clause-came
returns-clause-came g c = c.write_given.ensures.came

pub returns-clause-cause : goal.returns-clause-cause
returns-clause-cause g c =
    let old = g.S.PageStore.pages c.args.store.now in
    let start = g.S.PageStore.faults c.args.store.now in
    cause_on old old (NoCatalogue c.args.self.now.ends) (SpellsNone c.args.self.now) start start (g.S.PageStore.faults c.write_given.new.store) c.write_given.result refl
    (none_spelled c.args.self.now old) c.write_given.ensures.cause

use Rattle.std.proofs.Common.{sym, ◌∙◌}
use Rattle.catalog_moves.proofs.ReadTables.{nothing_said, one_more, stands_twice}
use Rattle.catalog_moves.proofs.files.reading.put_all.Goals as goal

pub loop-entry-init : goal.loop-entry-init
loop-entry-init c = nothing_said c.args.table.now.places.items c.requires

pub loop-entry-preserved : goal.loop-entry-preserved
loop-entry-preserved c =
    one_more c.args.entries.now c.loop-entry.entry-index c.entry-item.result c.loop-entry.table.places.items c.put.new.self.places.items c.loop-entry-test.true c.entry-item.is
    c.loop-entry.invariant (sym c.has.ensures ∙ c.if-has.false) c.in_ok-put.ensures.places

pub returns-then-has-clause-twice : goal.returns-then-has-clause-twice
returns-then-has-clause-twice c e =
    stands_twice c.args.entries.now c.loop-entry.entry-index c.entry-item.result c.loop-entry.table.places.items c.loop-entry-test.true c.entry-item.is
    c.loop-entry.invariant (sym c.has.ensures ∙ c.if-has.true)

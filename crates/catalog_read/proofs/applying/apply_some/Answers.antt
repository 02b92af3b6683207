use Rattle.std.proofs.Common.{ap, sym, ◌∙◌}
use Rattle.plain_base.specs.Shown.{database_of}
use Rattle.catalog_read.specs.Applying.{behind, round}
use Rattle.catalog_read.proofs.Starts.{round_goes_on, round_over}
use Rattle.catalog_read.proofs.applying.apply_some.Goals as goal

pub round-init : goal.round-init
round-init c = λ i. behind (c.new-left.ensures.items i) (round (database_of c.args.plain.now) (c.into_iter-change-iterator.ensures.into_iter_gives.0 i))

pub round-preserved : goal.round-preserved
round-preserved c =
    let before = c.round.plain in
    round_goes_on (database_of before) (database_of c.apply_or_leave.new.plain) c.round.left.items c.apply_or_leave.new.left.items c.in-Some.change c.next.new.self.rest.items
    (round (database_of c.args.plain.now) c.args.changes.items) c.in_ok-apply_or_leave.ensures
    (ap (λ l. behind c.round.left.items (round (database_of before) l)) (sym c.in-Some.ensures.steps.0) ∙ c.round.invariant)

pub returns : goal.returns
returns c =
    let rest = c.round.change-iterator.rest in
    round_over (database_of c.round.plain) c.round.left.items rest.items (round (database_of c.args.plain.now) c.args.changes.items)
    (sym rest.ok.0 ∙ c.in-None.ensures.steps.0) c.round.invariant

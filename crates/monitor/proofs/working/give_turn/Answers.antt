use Rattle.base_trait.proofs.Crashes.{nothing_else, still_stands}
use Rattle.monitor.proofs.working.give_turn.Goals as goal

pub returns-then-not-waits-clause-crash : goal.returns-then-not-waits-clause-crash
returns-then-not-waits-clause-crash g c = nothing_else _ _ _

pub returns-then-not-waits-clause-durable : goal.returns-then-not-waits-clause-durable
returns-then-not-waits-clause-durable g c = λ db stands. stands

pub returns-clause-crash : goal.returns-clause-crash
returns-clause-crash g c = (g.B.Base.asks c.args.base.now c.hand_over.new.self (c.hand_over.ensures.asked c.args.base.now (g.B.Base.starts c.args.base.now))).nothing_else

pub returns-clause-durable : goal.returns-clause-durable
returns-clause-durable g c = λ db stands.
    let a = g.B.Base.asks c.args.base.now c.hand_over.new.self (c.hand_over.ensures.asked c.args.base.now (g.B.Base.starts c.args.base.now)) in
    still_stands _ _ _ _ db (g.B.Base.counts_now c.hand_over.new.self) a.nothing_else stands

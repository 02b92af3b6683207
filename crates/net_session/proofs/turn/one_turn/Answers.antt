use Rattle.net_core.specs.Whole.{AllServe}
use Rattle.net_session.proofs.Turning.{heard_is, numbers_are, turn_done}
use Rattle.net_session.proofs.turn.one_turn.Goals as goal

pub returns-clause-done : goal.returns-clause-done
returns-clause-done g c = turn_done c.net_turns.result _ _ _ _ _ _ _ _ _ _ (AllServe g.A1.Stage.serves g.A2.Stage.serves g.A3.Stage.serves g.A4.Stage.serves c.args.net.now) _
    (heard_is g.A1.Stage.heard g.A2.Stage.heard g.A3.Stage.heard g.A4.Stage.heard c.args.net.now c.requires.reads)
    (heard_is g.A1.Stage.heard g.A2.Stage.heard g.A3.Stage.heard g.A4.Stage.heard c.net_turns.new.net c.requires.reads)
    (numbers_are g.A1.Stage.place g.A2.Stage.place g.A3.Stage.place g.A4.Stage.place c.args.net.now c.requires.numbers)
    c.net_turns.ensures.steps c.net_turns.ensures.stopped c.net_turns.ensures.lawful c.net_turns.ensures.cause c.net_turns.ensures.database c.net_turns.ensures.later c.net_turns.ensures.heard c.net_turns.ensures.given c.net_turns.ensures.over (c.net_turns.ensures.within c.requires.numbers) c.net_turns.ensures.counts

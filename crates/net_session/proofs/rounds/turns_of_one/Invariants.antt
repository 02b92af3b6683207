use Rattle.std.proofs.Common.{◌≡◌}
use Rattle.std.specs.Prelude.{replicate}
use Rattle.net_core.specs.Known.{outside}
use Rattle.net_core.specs.Whole.{AllServe, AreNumbered, shape}
use Rattle.net_session.specs.Made.{Made, position}
use Rattle.net_session.proofs.rounds.turns_of_one.Given as goal
use Rattle.quel_network.specs.Sorts.{User}

abbrev pub invariant-loop : goal.invariant-loop
invariant-loop g l = record {
  made : Made (AllServe g.A1.Stage.serves g.A2.Stage.serves g.A3.Stage.serves g.A4.Stage.serves l.fn.net) l.fn.net.capacity (replicate l.counter l.stage)
      (position (shape g.A1.Stage.state g.A2.Stage.state g.A3.Stage.state g.A4.Stage.state l.fn.net) (outside g.B.Base.database g.B.Base.faults g.B.Base.clock g.B.Base.reads g.H.Shelf.files g.H.Shelf.faults g.S.Source.left g.S.Source.given g.S.Source.faults g.S.Source.ended g.K.Sink.written g.K.Sink.faults g.K.Sink.stalls l.fn.room) (g.A1.Stage.heard l.fn.net.one))
      (position (shape g.A1.Stage.state g.A2.Stage.state g.A3.Stage.state g.A4.Stage.state l.net) (outside g.B.Base.database g.B.Base.faults g.B.Base.clock g.B.Base.reads g.H.Shelf.files g.H.Shelf.faults g.S.Source.left g.S.Source.given g.S.Source.faults g.S.Source.ended g.K.Sink.written g.K.Sink.faults g.K.Sink.stalls l.room) (g.A1.Stage.heard l.net.one));
  serve : (user : User) → AllServe g.A1.Stage.serves g.A2.Stage.serves g.A3.Stage.serves g.A4.Stage.serves l.fn.net user → AllServe g.A1.Stage.serves g.A2.Stage.serves g.A3.Stage.serves g.A4.Stage.serves l.net user;
  numbers : AreNumbered g.A1.Stage.place g.A2.Stage.place g.A3.Stage.place g.A4.Stage.place l.net;
  capacity : l.net.capacity ≡ l.fn.net.capacity;
}

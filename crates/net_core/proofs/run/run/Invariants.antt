use Rattle.std.proofs.Common.{◌≡◌, ◌-◌, ◌^◌, ◌≤◌, length, Ok}
use Rattle.net_core.specs.declared.steps.Moved.TheVariants.{Stepped}
use Rattle.net_core.specs.Crashes.{StaysDurable}
use Rattle.net_core.specs.Known.{outside}
use Rattle.quel_network.specs.Sorts.{User}
use Rattle.net_core.specs.Sides.{sides}
use Rattle.net_core.specs.LoopSteps.{RoomKept}
use Rattle.net_core.proofs.Running.{Running}
use Rattle.net_core.proofs.run.run.Given as goal

abbrev pub invariant-steps : goal.invariant-steps
invariant-steps g l = record {
  running : Running (g.T.Stage.serves l.fn.stage) (record { state = g.T.Stage.state l.fn.stage; outside = outside g.B.Base.database g.B.Base.faults g.B.Base.clock g.B.Base.reads g.H.Shelf.files g.H.Shelf.faults g.S.Source.left g.S.Source.given g.S.Source.faults g.S.Source.ended g.K.Sink.written g.K.Sink.faults g.K.Sink.stalls l.fn.room; schema = g.B.Base.schema l.fn.room.base })
      (sides g.I.Source.left g.I.Source.faults g.O.Sink.written g.O.Sink.faults g.O.Sink.stalls g.L.Link.left g.L.Link.written g.L.Link.faults g.L.Link.stalls l.fn.left_in l.fn.left_out l.fn.right) l.made
      (record {
        state = g.T.Stage.state l.stage;
        outside = outside g.B.Base.database g.B.Base.faults g.B.Base.clock g.B.Base.reads g.H.Shelf.files g.H.Shelf.faults g.S.Source.left g.S.Source.given g.S.Source.faults g.S.Source.ended g.K.Sink.written g.K.Sink.faults g.K.Sink.stalls l.room;
        schema = g.B.Base.schema l.room.base;
        sides = sides g.I.Source.left g.I.Source.faults g.O.Sink.written g.O.Sink.faults g.O.Sink.stalls g.L.Link.left g.L.Link.written g.L.Link.faults g.L.Link.stalls l.left_in l.left_out l.right;
        talk = l.talk;
        heard = g.T.Stage.heard l.stage;
      }) (g.B.Base.left_since l.fn.room.base) (g.B.Base.left_since l.room.base);
  size : length l.buf ≡ 4096;
  few : l.made ≤ 2 ^ 64 - 1;
  serves : (user : User) → g.T.Stage.serves l.fn.stage user → g.T.Stage.serves l.stage user;
  place : g.T.Stage.place l.stage ≡ g.T.Stage.place l.fn.stage;
  room : RoomKept (g.T.Stage.place l.fn.stage) (g.T.Stage.heard l.fn.stage) (g.T.Stage.heard l.stage)
      (outside g.B.Base.database g.B.Base.faults g.B.Base.clock g.B.Base.reads g.H.Shelf.files g.H.Shelf.faults g.S.Source.left g.S.Source.given g.S.Source.faults g.S.Source.ended g.K.Sink.written g.K.Sink.faults g.K.Sink.stalls l.fn.room)
      (outside g.B.Base.database g.B.Base.faults g.B.Base.clock g.B.Base.reads g.H.Shelf.files g.H.Shelf.faults g.S.Source.left g.S.Source.given g.S.Source.faults g.S.Source.ended g.K.Sink.written g.K.Sink.faults g.K.Sink.stalls l.room) (Ok Stepped);
  durable : StaysDurable (outside g.B.Base.database g.B.Base.faults g.B.Base.clock g.B.Base.reads g.H.Shelf.files g.H.Shelf.faults g.S.Source.left g.S.Source.given g.S.Source.faults g.S.Source.ended g.K.Sink.written g.K.Sink.faults g.K.Sink.stalls l.fn.room) (outside g.B.Base.database g.B.Base.faults g.B.Base.clock g.B.Base.reads g.H.Shelf.files g.H.Shelf.faults g.S.Source.left g.S.Source.given g.S.Source.faults g.S.Source.ended g.K.Sink.written g.K.Sink.faults g.K.Sink.stalls l.room) (g.B.Base.left_since l.fn.room.base) (g.B.Base.left_since l.room.base);
}

abbrev pub decreases-steps : goal.decreases-steps
decreases-steps g l = 2 ^ 64 - l.made

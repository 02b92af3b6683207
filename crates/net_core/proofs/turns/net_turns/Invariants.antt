use Rattle.std.proofs.Common.{◌≡◌, take}
use Rattle.net_core.specs.Known.{outside}
use Rattle.net_core.specs.Whole.{AllServe, AreNumbered, heard_by, shape}
use Rattle.net_core.proofs.Crashing.{TurnsCrash}
use Rattle.net_core.proofs.Turning.{TurnsDone}
use Rattle.net_core.proofs.turns.net_turns.Given as goal

abbrev pub invariant-loop-k : goal.invariant-loop-k
invariant-loop-k g l =
    TurnsDone l.fn.net.capacity (take l.k-index l.turns)
    (shape g.A1.Stage.state g.A2.Stage.state g.A3.Stage.state g.A4.Stage.state l.fn.net)
    (shape g.A1.Stage.state g.A2.Stage.state g.A3.Stage.state g.A4.Stage.state l.net)
    (outside g.B.Base.database g.B.Base.faults g.B.Base.clock g.B.Base.reads g.H.Shelf.files g.H.Shelf.faults g.S.Source.left g.S.Source.given g.S.Source.faults g.S.Source.ended g.K.Sink.written g.K.Sink.faults g.K.Sink.stalls l.fn.room)
    (outside g.B.Base.database g.B.Base.faults g.B.Base.clock g.B.Base.reads g.H.Shelf.files g.H.Shelf.faults g.S.Source.left g.S.Source.given g.S.Source.faults g.S.Source.ended g.K.Sink.written g.K.Sink.faults g.K.Sink.stalls l.room)
    (heard_by g.A1.Stage.heard g.A2.Stage.heard g.A3.Stage.heard g.A4.Stage.heard l.fn.net)
    (heard_by g.A1.Stage.heard g.A2.Stage.heard g.A3.Stage.heard g.A4.Stage.heard l.net)
    (g.A1.Stage.heard l.fn.net.one) (g.A1.Stage.heard l.net.one)
    (AllServe g.A1.Stage.serves g.A2.Stage.serves g.A3.Stage.serves g.A4.Stage.serves l.fn.net)
    (AllServe g.A1.Stage.serves g.A2.Stage.serves g.A3.Stage.serves g.A4.Stage.serves l.net)
    (AreNumbered g.A1.Stage.place g.A2.Stage.place g.A3.Stage.place g.A4.Stage.place l.fn.net)
    (AreNumbered g.A1.Stage.place g.A2.Stage.place g.A3.Stage.place g.A4.Stage.place l.net)
    × (l.net.capacity ≡ l.fn.net.capacity)
    × TurnsCrash l.fn.net.capacity l.turns
    (AllServe g.A1.Stage.serves g.A2.Stage.serves g.A3.Stage.serves g.A4.Stage.serves l.fn.net)
    (shape g.A1.Stage.state g.A2.Stage.state g.A3.Stage.state g.A4.Stage.state l.fn.net)
    (outside g.B.Base.database g.B.Base.faults g.B.Base.clock g.B.Base.reads g.H.Shelf.files g.H.Shelf.faults g.S.Source.left g.S.Source.given g.S.Source.faults g.S.Source.ended g.K.Sink.written g.K.Sink.faults g.K.Sink.stalls l.fn.room)
    (outside g.B.Base.database g.B.Base.faults g.B.Base.clock g.B.Base.reads g.H.Shelf.files g.H.Shelf.faults g.S.Source.left g.S.Source.given g.S.Source.faults g.S.Source.ended g.K.Sink.written g.K.Sink.faults g.K.Sink.stalls l.room)
    (g.B.Base.left_since l.fn.room.base) (g.B.Base.left_since l.room.base)

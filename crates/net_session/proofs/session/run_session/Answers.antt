use Rattle.calculus.specs.Who.{asker_of}
use Rattle.net_core.specs.Known.{outside}
use Rattle.net_session.proofs.Whole.{session_done}
use Rattle.net_session.proofs.session.run_session.Goals as goal

pub returns : goal.returns
returns g c =
    let ran = rw c.new.ensures at c.run_stages-result.ensures in
    rw c.into_source.ensures.source (session_done (asker_of c.args.user) c.args.number
    (outside g.B.Base.database g.B.Base.faults g.B.Base.clock g.B.Base.reads g.H.Shelf.files g.H.Shelf.faults g.S.Source.left g.S.Source.given g.S.Source.faults g.S.Source.ended g.K.Sink.written g.K.Sink.faults g.K.Sink.stalls c.args.room)
    (outside g.B.Base.database g.B.Base.faults g.B.Base.clock g.B.Base.reads g.H.Shelf.files g.H.Shelf.faults g.S.Source.left g.S.Source.given g.S.Source.faults g.S.Source.ended g.K.Sink.written g.K.Sink.faults g.K.Sink.stalls
    (record { base = c.run_stages-result.new.room.base; shelf = c.run_stages-result.new.room.shelf; source = c.run_stages-result.new.room.source.source; sink = c.run_stages-result.new.room.sink }))
    c.run_stages-result.new.room.source.piece c.run_stages-result.new.room.source.given c.run_stages-result.new.room.source.ended c.into_source.ensures.small c.run_stages-result.result ran)

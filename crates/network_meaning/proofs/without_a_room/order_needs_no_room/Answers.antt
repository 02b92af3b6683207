use Rattle.network_meaning.specs.Network.{start}
use Rattle.network_meaning.proofs.Ends.{start_orderly}
use Rattle.network_meaning.proofs.WithoutARoom.{orderly_shape, moves_shape, runs_shape, shape_goes, shape_turns, shape_lawful}
use Rattle.network_meaning.proofs.without_a_room.order_needs_no_room.Goals as goal

pub returns-clause-start : goal.returns-clause-start
returns-clause-start g c user m ranges room = orderly_shape (g.T.Spoken.language user) (start m ranges room) (start_orderly (g.T.Spoken.language user) m ranges room)

pub returns-clause-orderly : goal.returns-clause-orderly
returns-clause-orderly g c user n o = orderly_shape (g.T.Spoken.language user) n o

pub returns-clause-step : goal.returns-clause-step
returns-clause-step g c user capacity k blocked old new o m = moves_shape (g.T.Spoken.language user) (g.T.Spoken.obeys user) capacity k blocked old new o m

pub returns-clause-turns : goal.returns-clause-turns
returns-clause-turns g c user capacity turns old new o runs = runs_shape (g.T.Spoken.language user) (g.T.Spoken.obeys user) capacity turns old new o runs

pub returns-clause-goes : goal.returns-clause-goes
returns-clause-goes g c user capacity shape room le o = shape_goes (g.T.Spoken.language user) capacity shape room le o

pub returns-clause-one : goal.returns-clause-one
returns-clause-one g c user shape room o = shape_turns (g.T.Spoken.language user) shape room o

pub returns-clause-takes : goal.returns-clause-takes
returns-clause-takes g c user k shape room frame o comes = shape_lawful (g.T.Spoken.language user) (g.T.Spoken.obeys user) k shape room frame o comes

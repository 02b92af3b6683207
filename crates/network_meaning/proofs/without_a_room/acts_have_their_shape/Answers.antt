use Rattle.network_meaning.proofs.HasShape.{has_shape, shape_turn, step_shape}
use Rattle.network_meaning.proofs.without_a_room.acts_have_their_shape.Goals as goal

pub returns-clause-works : goal.returns-clause-works
returns-clause-works g c user mode room new act fit w = has_shape (g.T.Spoken.language user) (g.T.Spoken.obeys user) mode room act new fit w

pub returns-clause-turn : goal.returns-clause-turn
returns-clause-turn g c user mode act h = shape_turn (g.T.Spoken.language user) mode act h

pub returns-clause-step : goal.returns-clause-step
returns-clause-step g c user capacity k n new room o st = step_shape (g.T.Spoken.language user) (g.T.Spoken.obeys user) capacity k n new room o st

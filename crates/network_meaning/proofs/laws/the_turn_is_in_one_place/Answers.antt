use Rattle.network_meaning.proofs.Turn.{one_turn, works_of_holder}
use Rattle.network_meaning.proofs.laws.the_turn_is_in_one_place.Goals as goal

pub returns-clause-one : goal.returns-clause-one
returns-clause-one g c user n o = one_turn (g.T.Spoken.language user) n o

pub returns-clause-holder : goal.returns-clause-holder
returns-clause-holder g c user k mode room new act w = works_of_holder (g.T.Spoken.language user) k mode room act new w

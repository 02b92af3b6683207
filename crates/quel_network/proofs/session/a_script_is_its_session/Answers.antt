use Rattle.quel_network.proofs.AtTheStart.{bytes_at_start, databases_at_start, end_at_start, nothing_left, replies_at_start}
use Rattle.quel_network.proofs.session.a_script_is_its_session.Goals as goal

pub returns-clause-bytes : goal.returns-clause-bytes
returns-clause-bytes c user state script = bytes_at_start user state script

pub returns-clause-databases : goal.returns-clause-databases
returns-clause-databases c user state script = databases_at_start user state script

pub returns-clause-replies : goal.returns-clause-replies
returns-clause-replies c user state script = replies_at_start user state script

pub returns-clause-end : goal.returns-clause-end
returns-clause-end c user state script = end_at_start user state script

pub returns-clause-over : goal.returns-clause-over
returns-clause-over c user script e = nothing_left user script e

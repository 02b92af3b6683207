use Rattle.session_laws.proofs.Printed.{run_ended, run_keeps_up, run_partly}
use Rattle.session_laws.proofs.ending.a_run_prints_its_session.Goals as goal

pub returns-clause-ended : goal.returns-clause-ended
returns-clause-ended c user capacity turns r old after now t runs done = run_ended user capacity turns r old after now t runs done

pub returns-clause-front : goal.returns-clause-front
returns-clause-front c user capacity turns r old after now t runs = run_partly user capacity turns r old after now t runs

pub returns-clause-keeps_up : goal.returns-clause-keeps_up
returns-clause-keeps_up c user capacity turns r old after now t runs = run_keeps_up user capacity turns r old after now t runs

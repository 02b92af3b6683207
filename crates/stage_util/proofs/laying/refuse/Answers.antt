use Rattle.std.proofs.Common.{◌≡◌, false}
use Rattle.quel_network.specs.Spelling.{is_refusal_number}
use Rattle.stage_util.proofs.Results.{none_of}
use Rattle.stage_util.proofs.laying.refuse.Goals as goal

pub returns-in-Ok-None-clause-refused : goal.returns-in-Ok-None-clause-refused
returns-in-Ok-None-clause-refused g c = λ b asked. (none_of c.in-Ok-None.field-0 (is_refusal_number c.args.refusal.code ≡ false) c.in-Ok-None.field-0-is c.in-Ok-None.ensures.none, record { same = (g.B.Base.asks_keep b c.args.base.now asked).0; crash = (g.B.Base.asks b c.args.base.now asked).nothing_else })

pub returns-in-Err-clause-refused : goal.returns-in-Err-clause-refused
returns-in-Err-clause-refused g c = λ b asked. record { same = (g.B.Base.asks_keep b c.args.base.now asked).0; crash = (g.B.Base.asks b c.args.base.now asked).nothing_else }

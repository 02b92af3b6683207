use Rattle.std.proofs.lemmas.Result.{IfOk-weaker}
use Rattle.quel_resolve.proofs.Updating.{replace_is}
use Rattle.quel_resolve.proofs.updates.replace_of.Goals as goal

pub returns : goal.returns
returns c = IfOk-weaker c.changing.result _ _ (λ u h scope name e few. replace_is scope name _ _ u e (h few)) c.changing.ensures

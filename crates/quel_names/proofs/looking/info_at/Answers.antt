use Rattle.std.proofs.Common.{ap, ◌∙◌}
use Rattle.quel_names.proofs.Known.{ranged_if}
use Rattle.quel_names.specs.Ranging.{but_index}
use Rattle.quel_names.proofs.looking.info_at.Goals as goal

pub returns-clause-known : goal.returns-clause-known
returns-clause-known g c = λ db h. c.but_index.ensures ∙ ap but_index (c.in_ok-info.ensures.known db h) ∙ ranged_if db (g.B.Base.lawful c.args.base.now db h) c.args.key.now

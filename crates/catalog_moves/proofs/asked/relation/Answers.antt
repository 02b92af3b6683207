use Rattle.std.proofs.Common.{sym, ◌∙◌}
use Rattle.std.proofs.lemmas.Option.{same_Some}
use Rattle.catalog_moves.proofs.Known.{known_relation}
use Rattle.catalog_moves.proofs.asked.relation.Goals as goal

pub returns-in-Some-clause-known : goal.returns-in-Some-clause-known
returns-in-Some-clause-known c r at = same_Some _ r.info (sym c.in-Some.is ∙ c.in_ok-info.ensures.known ∙ known_relation _ _ r at)

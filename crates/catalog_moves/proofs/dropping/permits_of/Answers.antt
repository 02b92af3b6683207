use Rattle.std.proofs.Common.{rules}
use Rattle.std.proofs.lemmas.Fn.{filter_same}
use Rattle.calculus.specs.declared.schema.Permit.{Permit}
use Rattle.calculus.specs.Lists.{has_number}
use Rattle.catalog_moves.proofs.dropping.permits_of.Goals as goal

pub returns : goal.returns
returns c = filter_same _ (λ (x : Permit). has_number c.args.numbers.now x.number) _ (λ x b f h. search rules) _ _ c.retain.ensures.filtered

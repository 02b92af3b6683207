use Rattle.std.proofs.Common.{rules}
use Rattle.std.proofs.lemmas.Fn.{filter_same}
use Rattle.calculus.specs.declared.schema.Rule.{Rule}
use Rattle.calculus.specs.Lists.{has_number}
use Rattle.catalog_moves.proofs.dropping.rules_of.Goals as goal

pub returns : goal.returns
returns c = filter_same _ (λ (x : Rule). has_number c.args.numbers.now x.number) _ (λ x b f h. search rules) _ _ c.retain.ensures.filtered

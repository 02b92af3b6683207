use Rattle.std.proofs.Common.{not, rules}
use Rattle.std.proofs.lemmas.Fn.{filter_same}
use Rattle.calculus.specs.Keys.{same_key}
use Rattle.calculus.specs.declared.query.RelKey.{RelKey}
use Rattle.catalog_moves.proofs.key_set.keeping.leave_key.Goals as goal

pub returns : goal.returns
returns c = filter_same _ (λ (k : RelKey). not (same_key k c.args.key.now)) _ (λ x b f h. search rules) _ _ c.retain.ensures.filtered

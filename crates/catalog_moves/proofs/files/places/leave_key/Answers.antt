use Rattle.std.proofs.Common.{not, rules}
use Rattle.std.proofs.lemmas.Fn.{filter_same}
use Rattle.calculus.specs.Keys.{same_key}
use Rattle.catalog_moves.specs.declared.files.FilePlace.{FilePlace}
use Rattle.catalog_moves.proofs.files.places.leave_key.Goals as goal

pub returns : goal.returns
returns c = filter_same _ (λ (p : FilePlace). not (same_key p.key c.args.key.now)) _ (λ x b f h. search rules) _ _ c.retain.ensures.filtered

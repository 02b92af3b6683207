use Rattle.std.proofs.Common.{not, ◌==◌, rules}
use Rattle.std.proofs.lemmas.Fn.{filter_same}
use Rattle.catalog_moves.specs.declared.files.FilePlace.{FilePlace}
use Rattle.catalog_moves.proofs.files.places.leave_base.Goals as goal

pub returns : goal.returns
returns c = filter_same _ (λ (p : FilePlace). not (p.base == c.args.file)) _ (λ x b f h. search rules) _ _ c.retain.ensures.filtered

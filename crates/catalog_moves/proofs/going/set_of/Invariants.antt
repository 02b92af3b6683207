use Rattle.std.proofs.Common.{◌≡◌, take}
use Rattle.calculus.specs.declared.query.RelKey.{RelKey}
use Rattle.calculus.specs.Keys.{has_key}
use Rattle.catalog_moves.specs.Files.{is_in}
use Rattle.catalog_moves.proofs.going.set_of.Given as goal

abbrev pub invariant-loop-rel : goal.invariant-loop-rel
invariant-loop-rel l = (key : RelKey) → is_in l.set key ≡ has_key (take l.rel-index l.rels) key

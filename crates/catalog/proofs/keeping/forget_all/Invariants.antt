use Rattle.std.proofs.Common.{◌≡◌, take}
use Rattle.catalog_moves.specs.Files.{places_of}
use Rattle.catalog.specs.Places.{left_all}
use Rattle.catalog.proofs.keeping.forget_all.Given as goal

abbrev pub invariant-loop-rel : goal.invariant-loop-rel
invariant-loop-rel l = places_of l.files ≡ left_all (take l.rel-index l.rels) (places_of l.fn.files)

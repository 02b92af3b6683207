use Rattle.std.proofs.Common.{◌≤◌, sym, subst}
use Rattle.std.specs.List.{AllByRecursion}
use Rattle.std.specs.List.Sorted.{IsStrictlySortedBy}
use Rattle.catalog_moves.specs.declared.files.FilePlace.{FilePlace}
use Rattle.catalog_moves.specs.Files.{by_place}
use Rattle.catalog_moves.proofs.files.FileTable.new.Goals as goal

pub invariant_of-result : goal.invariant_of-result
unfolding IsStrictlySortedBy
invariant_of-result c = record {
  up = subst (IsStrictlySortedBy by_place) (sym c.new.ensures.items) tt;
  bound = subst (AllByRecursion (λ (p : FilePlace). p.file ≤ 0)) (sym c.new.ensures.items) tt;
}

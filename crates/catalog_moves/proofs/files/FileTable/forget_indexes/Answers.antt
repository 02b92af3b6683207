use Rattle.std.proofs.Common.{◌≤◌, sym, subst}
use Rattle.std.specs.List.{AllByRecursion}
use Rattle.std.specs.List.Sorted.{IsStrictlySortedBy}
use Rattle.std.proofs.lemmas.List.Kept.{IsStrictlySortedBy-filter}
use Rattle.stored_database.proofs.Pairs.{all_filter}
use Rattle.catalog_moves.specs.declared.files.FilePlace.{FilePlace}
use Rattle.catalog_moves.specs.Files.{by_place}
use Rattle.catalog_moves.proofs.Tables.{base_kept, file_same, used_same}
use Rattle.catalog_moves.proofs.files.FileTable.forget_indexes.Goals as goal

pub invariant_of-self : goal.invariant_of-self
invariant_of-self c = record {
  up = subst (IsStrictlySortedBy by_place) (sym c.leave_base.ensures) (IsStrictlySortedBy-filter by_place _ c.args.self.now.places.items c.args.self.now.up);
  bound = subst (AllByRecursion (λ (p : FilePlace). p.file ≤ c.args.self.now.greatest)) (sym c.leave_base.ensures) (all_filter (λ (p : FilePlace). p.file ≤ c.args.self.now.greatest) _ c.args.self.now.places.items c.args.self.now.bound);
}

pub returns-clause-file : goal.returns-clause-file
returns-clause-file c k other = file_same _ _ k (base_kept _ _ c.args.file k c.leave_base.ensures other)

pub returns-clause-used : goal.returns-clause-used
returns-clause-used c k other = used_same _ _ k (base_kept _ _ c.args.file k c.leave_base.ensures other)

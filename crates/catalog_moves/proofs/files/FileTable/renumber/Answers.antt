use Rattle.std.proofs.Common.{◌≤◌, sym, ap, ◌∙◌, subst, map}
use Rattle.std.specs.List.{AllByRecursion}
use Rattle.std.specs.List.Sorted.{IsStrictlySortedBy}
use Rattle.catalog_moves.specs.declared.files.FilePlace.{FilePlace}
use Rattle.catalog_moves.specs.Files.{by_place, files_at}
use Rattle.catalog_moves.specs.Renumbered.{renumbered_place}
use Rattle.catalog_moves.proofs.Renumbered.{bound_after, files_after, up_after}
use Rattle.catalog_moves.proofs.files.FileTable.renumber.Goals as goal

pub invariant_of-self : goal.invariant_of-self
invariant_of-self c = record {
  up = subst (IsStrictlySortedBy by_place) (sym c.renumber_places.ensures) (up_after c.args.key.now c.place-old.result.0 c.args.file c.args.used c.args.self.now.places.items c.args.self.now.up);
  bound =
      subst (AllByRecursion (λ (p : FilePlace). p.file ≤ c.greater-self.result)) (sym c.renumber_places.ensures)
      (bound_after c.args.key.now c.place-old.result.0 c.args.file c.args.used c.args.self.now.places.items c.args.self.now.greatest c.greater-self.result c.args.self.now.bound c.greater-self.ensures.first c.greater-self.ensures.second);
}

pub returns-clause-places : goal.returns-clause-places
returns-clause-places c = c.renumber_places.ensures ∙ ap (λ old. map (renumbered_place c.args.key.now old c.args.file c.args.used) c.args.self.now.places.items) c.place-old.ensures.file

pub returns-clause-files : goal.returns-clause-files
returns-clause-files c here = ap files_at c.renumber_places.ensures ∙ files_after c.args.key.now c.place-old.result.0 c.args.file c.args.used c.args.self.now.places.items here

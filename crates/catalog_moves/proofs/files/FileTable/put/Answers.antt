use Rattle.std.proofs.Common.{◌≤◌, sym, ap, ◌∙◌, subst}
use Rattle.std.specs.List.{AllByRecursion}
use Rattle.std.specs.List.Sorted.{IsStrictlySortedBy}
use Rattle.calculus.specs.declared.query.RelKey.{RelKey}
use Rattle.calculus.specs.Lists.{insert_by}
use Rattle.catalog_moves.specs.declared.files.FilePlace.{FilePlace}
use Rattle.catalog_moves.specs.Files.{by_place, files_at, with_file}
use Rattle.catalog_moves.proofs.Placing.{up_put}
use Rattle.catalog_moves.proofs.Tables.{files_put, bound_put}
use Rattle.catalog_moves.proofs.files.FileTable.put.Goals as goal

pub invariant_of-self-2 : goal.invariant_of-self-2
invariant_of-self-2 c = record {
  up = subst (IsStrictlySortedBy by_place) (sym c.in_ok-put_place.ensures.put) (up_put (λ (p : FilePlace). p.key) _ c.args.self.now.places.items c.args.self.now.up);
  bound =
      subst (AllByRecursion (λ (p : FilePlace). p.file ≤ c.greater-self.result)) (sym c.in_ok-put_place.ensures.put)
      (bound_put _ c.args.self.now.places.items c.args.self.now.greatest c.greater-self.result c.args.self.now.bound c.greater-self.ensures.first c.greater-self.ensures.second);
}

pub returns-clause-put : goal.returns-clause-put
returns-clause-put c =
    files_put c.args.self.now.places.items _ _ c.in_ok-put_place.ensures.put
    ∙ ap (λ (k : RelKey). with_file k c.args.file c.args.used (files_at c.args.self.now.places.items)) c.in_ok-key.ensures

pub returns-clause-places : goal.returns-clause-places
returns-clause-places c =
    c.in_ok-put_place.ensures.put
    ∙ ap (λ (k : RelKey). insert_by by_place (record { key = k; file = c.args.file; used = c.args.used; base = c.args.base }) c.args.self.now.places.items) c.in_ok-key.ensures

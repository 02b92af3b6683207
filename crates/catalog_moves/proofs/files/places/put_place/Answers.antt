use Rattle.std.proofs.Common.{◌≡◌, refl, sym, subst, List}
use Rattle.std.specs.Prelude.{slice_set}
use Rattle.calculus.specs.Lists.{insert_by}
use Rattle.catalog_moves.specs.declared.files.FilePlace.{FilePlace}
use Rattle.catalog_moves.specs.Files.{by_place}
use Rattle.catalog_moves.proofs.files.places.put_place.Goals as goal

pub returns-in-Ok-clause-put : goal.returns-in-Ok-clause-put
returns-in-Ok-clause-put c =
    subst (λ (l : List FilePlace). slice_set l c.in-Ok.at c.args.place ≡ insert_by by_place c.args.place l) c.deref.ensures.value (sym (c.in-Ok.ensures.put_at c.args.place refl))

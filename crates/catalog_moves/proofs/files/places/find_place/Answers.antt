use Rattle.std.proofs.Common.{sym, ap, ◌∙◌, Some}
use Rattle.catalog_moves.specs.Files.{place_at}
use Rattle.catalog_moves.proofs.files.places.find_place.Goals as goal

pub returns-in-Ok : goal.returns-in-Ok
unfolding place_at
returns-in-Ok c = ap Some c.index-places-at.is ∙ sym (c.in-Ok.ensures.there _)

pub returns-in-Err : goal.returns-in-Err
unfolding place_at
returns-in-Err c = sym c.in-Err.ensures.absent

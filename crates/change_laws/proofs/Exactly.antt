-- A change of any kind.
use Rattle.std.proofs.Common.{◌≡◌, true}
use Rattle.std.specs.Prelude.{◌↔◌}
use Rattle.calculus.specs.declared.change.DbChange.{DbChange}
use Rattle.calculus.specs.declared.change.DbChange.TheVariants as change
use Rattle.calculus.specs.Database.{Db}
use Rattle.calculus.specs.IsDatabase.{IsDatabase}
use Rattle.calculus.specs.Change.{IsLawful}
use Rattle.change_laws.specs.Fit.{change_is_fit}
use Rattle.change_laws.proofs.RowsFit.{rows_fit_exactly}
use Rattle.change_laws.proofs.Created.{relation_fits_exactly}
use Rattle.change_laws.proofs.Gone.{destroying_fits_exactly}
use Rattle.change_laws.proofs.Restructured.{structure_fits_exactly}
use Rattle.change_laws.proofs.IndexFit.{index_fits_exactly}
use Rattle.change_laws.proofs.ViewFit.{view_fits_exactly}
use Rattle.change_laws.proofs.NewNumbers.{permit_fits_exactly, rule_fits_exactly}
use Rattle.change_laws.proofs.Dropped.{permits_dropped, rules_dropped}

pub fits_exactly : (db : Db) (made : DbChange) → IsDatabase db → (change_is_fit db made ≡ true) ↔ IsLawful db made
unfolding change_is_fit
fits_exactly db (change.Rows rel remove add) is = rows_fit_exactly db rel remove add is
fits_exactly db (change.Create info rows) is = relation_fits_exactly db info rows is
fits_exactly db (change.Destroy rels) is = destroying_fits_exactly db rels is
fits_exactly db (change.Modify rel to keys) is = structure_fits_exactly db rel to keys is
fits_exactly db (change.Index base name keys) is = index_fits_exactly db base name keys is
fits_exactly db (change.View info query) is = view_fits_exactly db info query is
fits_exactly db (change.Permit rel permit) is = permit_fits_exactly db rel permit is
fits_exactly db (change.Rule rel rule) is = rule_fits_exactly db rel rule is
fits_exactly db (change.DropPermits rel numbers) is = permits_dropped db rel numbers is
fits_exactly db (change.DropRules rel numbers) is = rules_dropped db rel numbers is

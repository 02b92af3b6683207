use Rattle.tree_laws.proofs.FitWithin.{fits_of, all_count}
use Rattle.tree_laws.proofs.fitness.expansions_of_what_is_there_fit.Goals as goal

pub returns : goal.returns
returns c = record {
  fit = λ db d who key attrs there. let fits = fits_of db d who key there attrs in record { kept = fits.kept; kinds = fits.kinds; conditions = fits.conditions };
  few = all_count;
}
